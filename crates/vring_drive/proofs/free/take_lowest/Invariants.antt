use Rattle.std.proofs.Common.{◌≡◌, drop}
use Rattle.vring_drive.proofs.free.take_lowest.Given as goal

abbrev pub invariant-loop : goal.invariant-loop
invariant-loop l = l.free.keys ≡ drop l.counter l.fn.free.keys
