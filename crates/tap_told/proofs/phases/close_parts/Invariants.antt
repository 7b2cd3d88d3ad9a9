use Rattle.std.proofs.Common.{◌≡◌, ◌++◌, length, map}
use Rattle.std.specs.Vec.Iter.{into_iter_items, into_iter_len}
use Rattle.tap_told.specs.Phases.{in_order}
use Rattle.tap_told.proofs.phases.close_parts.Given as goal

abbrev pub invariant-loop-part : goal.invariant-loop-part
invariant-loop-part l =
    (l.closed ++ map in_order (into_iter_items l.part-iterator) ≡ map in_order l.fn.parts.items)
    × (into_iter_len l.part-iterator ≡ length (into_iter_items l.part-iterator))
