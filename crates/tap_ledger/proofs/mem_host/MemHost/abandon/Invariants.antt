use Rattle.std.proofs.Common.{vec_len}
use Rattle.tap_ledger.proofs.mem_host.MemHost.abandon.Given as goal

abbrev pub decreases-loop-frame : goal.decreases-loop-frame
decreases-loop-frame l = vec_len l.given
