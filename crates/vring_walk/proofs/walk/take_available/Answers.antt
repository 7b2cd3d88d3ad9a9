use Rattle.std.proofs.Common.{◌≡◌, ◌+◌, ◌≤◌, ◌++◌, length, arith, ap, rules, length-append, ◌∙◌}
use Rattle.guest_mem.specs.Memory.{byte_at}
use Rattle.vring_walk.specs.Fetch.{IsAvailable}
use Rattle.std.proofs.lemmas.List.{take_all}
use Rattle.vring_walk.proofs.walk.take_available.Goals as goal

pub returns-then-kept-from-le-MAX_SEGMENTS-clause-answer : goal.returns-then-kept-from-le-MAX_SEGMENTS-clause-answer
returns-then-kept-from-le-MAX_SEGMENTS-clause-answer c =
    let found = c.in-Ok.ensures.chain in
    let count = found.2 in
    let list : length c.list-kept.result.now ≡ length c.args.room.now = ap length c.list-kept.ensures.list in
    let fits : length c.args.room.now + length found.0 ≤ 1024 = omega (arith, c.if-kept-from-le-MAX_SEGMENTS.true, c.from.ensures) in
    let whole : length (c.args.room.now ++ found.0) ≤ 1024 = omega (arith, length-append c.args.room.now found.0) in
    let available : IsAvailable (byte_at c.args.mem.now) c.args.ring.now c.args.last = search rules in
    (found.0, record { available = available; at = c.available-index.ensures.head; inside = c.if-head-ring.false; chain = found.1 }, fits, found.3 ∙ take_all 1024 (c.args.room.now ++ found.0) whole)
