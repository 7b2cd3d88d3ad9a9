use Rattle.ebpf_code.proofs.Sound.{faultless_sound}
use Rattle.ebpf_code.proofs.laws.program_laws.Goals as goal

pub returns : goal.returns
returns c = faultless_sound
