use Rattle.tap_steer.proofs.LawLemmas as lemmas
use Rattle.tap_steer.proofs.laws.persistent_devices_stay.Goals as goal

pub returns-clause-closed : goal.returns-clause-closed
returns-clause-closed c = lemmas.stays_over_close

pub returns-clause-found : goal.returns-clause-found
returns-clause-found c = lemmas.is_found_again
