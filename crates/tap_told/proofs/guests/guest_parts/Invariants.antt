use Rattle.std.proofs.Common.{◌≡◌, ◌+◌, ◌++◌, length, map}
use Rattle.std.specs.Iterator.Adapters.{enumerate_count, enumerate_source}
use Rattle.std.specs.Vec.Iter.{into_iter_items, into_iter_len}
use Rattle.tap_world.specs.ByNumber.{numbered}
use Rattle.tap_world.specs.Project.{guest_part}
use Rattle.tap_told.proofs.guests.guest_parts.Given as goal

abbrev pub invariant-loop-guest : goal.invariant-loop-guest
invariant-loop-guest l =
    let rest = enumerate_source l.guest-iterator in
    let next = enumerate_count l.guest-iterator in
    (l.parts ++ map guest_part (numbered next (into_iter_items rest)) ≡ map guest_part (numbered 0 l.fn.guests.items))
    × (next + length (into_iter_items rest) ≡ length l.fn.guests.items)
    × (into_iter_len rest ≡ length (into_iter_items rest))
