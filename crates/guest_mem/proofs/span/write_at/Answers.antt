use Rattle.std.proofs.Common.{◌-◌, ◌≡◌, ◌∙◌, ap, arith, length}
use Rattle.std.proofs.lemmas.Bool.Decides.{nat_tests}
use Rattle.guest_mem.proofs.Spots.{left_len, left_fits, bad_on, covers_on}
use Rattle.guest_mem.proofs.Writes.{written_none, written_spot}
use Rattle.guest_mem.proofs.span.write_at.Goals as goal

pub overflow_add-result : goal.overflow_add-result
overflow_add-result c = omega (arith, left_fits c.args.blocks.now c.args.addr c.in-Some.spot c.requires c.in-Some.ensures.found c.index-blocks-spot.result c.index-blocks-spot.result c.len.result c.len.ensures)

pub returns-then-bytes-left-clause-bad : goal.returns-then-bytes-left-clause-bad
returns-then-bytes-left-clause-bad c =
    bad_on c.args.blocks.now c.args.addr c.in-Some.spot c.requires c.in-Some.ensures.found c.index-blocks-spot.result (length c.args.bytes.now) (c.len.result - c.in-Some.spot.before)
    (left_len c.args.blocks.now c.args.addr c.in-Some.spot c.requires c.in-Some.ensures.found c.index-blocks-spot.result c.index-blocks-spot.result c.len.result c.len.ensures) c.if-bytes-left.true

pub returns-else-bytes-left-clause-covered : goal.returns-else-bytes-left-clause-covered
returns-else-bytes-left-clause-covered c =
    let left = left_len c.args.blocks.now c.args.addr c.in-Some.spot c.requires c.in-Some.ensures.found c.index-blocks-spot.result c.index-blocks-spot.result c.len.result c.len.ensures in
    covers_on c.args.blocks.now c.args.addr c.in-Some.spot c.requires c.in-Some.ensures.found c.index-blocks-spot.result (length c.args.bytes.now) (omega arith)

pub returns-else-bytes-left-clause-written : goal.returns-else-bytes-left-clause-written
returns-else-bytes-left-clause-written c =
    let left = left_len c.args.blocks.now c.args.addr c.in-Some.spot c.requires c.in-Some.ensures.found c.index-blocks-spot-in-Some.result c.index-blocks-spot.result c.len.result c.len.ensures in
    let same = ap length c.deref_mut.ensures.value in
    written_spot c.args.blocks.now c.args.addr c.in-Some.spot c.index-blocks-spot-in-Some.result c.args.bytes.now c.deref_mut.result.now c.splice.new.target c.requires c.in-Some.ensures.found
    c.deref_mut.ensures.value (c.splice.auto.target ∙ c.deref_mut.ensures.len) (omega arith) c.splice.ensures

pub returns-in-None-clause-written : goal.returns-in-None-clause-written
returns-in-None-clause-written c =
    let empty = c.if-is_empty.ensures in
    let none : length c.args.bytes.now ≡ 0 = grind (arith, nat_tests) in
    written_none c.args.blocks.now c.args.addr c.args.bytes.now none
