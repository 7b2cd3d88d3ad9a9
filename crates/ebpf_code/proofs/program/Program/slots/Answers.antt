use Rattle.std.proofs.Common.{subst}
use Rattle.ebpf_code.specs.Sound.{IsSound}
use Rattle.ebpf_code.proofs.Sound.{faultless_sound}
use Rattle.ebpf_code.proofs.program.Program.slots.Goals as goal

pub returns-clause-runs : goal.returns-clause-runs
returns-clause-runs c = subst IsSound c.self.view_is (faultless_sound _ c.self.invariant.0.sound)
