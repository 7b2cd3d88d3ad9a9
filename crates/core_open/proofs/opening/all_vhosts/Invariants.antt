use Rattle.std.proofs.Common.{◌≡◌, take}
use Rattle.core_open.specs.Collected.{sides_of}
use Rattle.core_open.proofs.opening.all_vhosts.Given as goal

-- those so far
abbrev pub invariant-loop-guest : goal.invariant-loop-guest
invariant-loop-guest l = l.vhosts ≡ sides_of (take l.guest-index l.declared)
