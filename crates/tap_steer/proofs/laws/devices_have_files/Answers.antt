use Rattle.tap_steer.proofs.LawLemmas as lemmas
use Rattle.tap_steer.proofs.laws.devices_have_files.Goals as goal

pub returns : goal.returns
returns c = lemmas.devices_have_files
