use Rattle.std.proofs.Common.{◌≡◌, ◌+◌, ◌-◌, ◌≤◌, length, drop}
use Rattle.packed_drive.specs.Books.{lowest}
use Rattle.packed_drive.proofs.ids.lowest.Given as goal

-- all ids below are out, so the lowest is as far as the lowest from here
abbrev pub invariant-loop-id : goal.invariant-loop-id
invariant-loop-id l = record {
  from_here : l.id + lowest (drop l.id l.out) ≡ lowest l.out;
  within : l.id ≤ length l.out;
}

abbrev pub decreases-loop-id : goal.decreases-loop-id
decreases-loop-id l = length l.out - l.id
