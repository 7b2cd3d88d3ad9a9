use Rattle.std.proofs.Common.{◌≡◌}
use Rattle.vring_drive.specs.Books.{numbers_from}
use Rattle.vring_drive.proofs.free.all_below.Given as goal

abbrev pub invariant-loop-i : goal.invariant-loop-i
invariant-loop-i l = l.free.keys ≡ numbers_from 0 l.i
