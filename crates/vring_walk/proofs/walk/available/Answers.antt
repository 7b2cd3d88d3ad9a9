use Rattle.std.proofs.Common.{◌≡◌, ℕ, ◌+◌, ◌*◌, ◌≤◌, List, length, slice_range, ap, ◌∙◌, arith}
use Rattle.std.specs.Int.{w16, from_le_bytes}
use Rattle.guest_mem.specs.Memory.{byte_at, bytes_at}
use Rattle.vring_split.specs.Split.{avail_len, avail_entry_addr}
use Rattle.vring_walk.specs.Fetch.{avail_idx, avail_head}
use Rattle.vring_walk.proofs.Paths.{power_positive}
use Rattle.vring_walk.proofs.Masks.{mask_of_power}
use Rattle.vring_walk.proofs.Walks.{bytes_length}
use Rattle.vring_walk.proofs.walk.available.Goals as goal

pub le16_in-index-requires : goal.le16_in-index-requires
le16_in-index-requires c =
    let len = ap length c.avail_bytes-bytes.ensures ∙ bytes_length (byte_at c.args.mem.now) c.args.ring.now.avail (avail_len c.args.ring.now.num) in
    omega arith

pub le16_in-head-requires : goal.le16_in-head-requires
le16_in-head-requires c =
    let len = ap length c.avail_bytes-bytes.ensures ∙ bytes_length (byte_at c.args.mem.now) c.args.ring.now.avail (avail_len c.args.ring.now.num) in
    let some = power_positive c.args.ring.now.num c.requires.power in
    let at = mask_of_power c.args.position c.args.ring.now.num c.requires.power in
    omega (arith, c.from.ensures)

pub returns-clause-index : goal.returns-clause-index
unfolding avail_idx
returns-clause-index c =
    c.le16_in-index.ensures
    ∙ ap (λ (xs : List ℕ). from_le_bytes w16 (slice_range xs 2 4)) c.avail_bytes-bytes.ensures
    ∙ ap (from_le_bytes w16) (c.byte_laws.ensures.parts (byte_at c.args.mem.now) c.args.ring.now.avail (avail_len c.args.ring.now.num) 2 2 (omega arith))

pub returns-clause-head : goal.returns-clause-head
unfolding avail_head
returns-clause-head c =
    let some = power_positive c.args.ring.now.num c.requires.power in
    let mask = mask_of_power c.args.position c.args.ring.now.num c.requires.power in
    let place = 4 + 2 * c.from.result in
    let inside : place + 2 ≤ avail_len c.args.ring.now.num = omega (arith, c.from.ensures) in
    let addr : c.args.ring.now.avail + place ≡ avail_entry_addr c.args.ring.now c.args.position = omega (arith, c.from.ensures) in
    c.le16_in-head.ensures
    ∙ ap (λ (xs : List ℕ). from_le_bytes w16 (slice_range xs place (place + 2))) c.avail_bytes-bytes.ensures
    ∙ ap (from_le_bytes w16) (c.byte_laws.ensures.parts (byte_at c.args.mem.now) c.args.ring.now.avail (avail_len c.args.ring.now.num) place 2 inside)
    ∙ ap (λ a. from_le_bytes w16 (bytes_at (byte_at c.args.mem.now) a 2)) addr
