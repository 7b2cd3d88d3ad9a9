use Rattle.std.proofs.Common.{◌≡◌, take}
use Rattle.core_open.specs.Collected.{guests_of}
use Rattle.core_open.proofs.opening.all_guests.Given as goal

-- those so far
abbrev pub invariant-loop-regions : goal.invariant-loop-regions
invariant-loop-regions l = l.guests ≡ guests_of (take l.regions-index l.declared)
