use Rattle.tap_frame.specs.Spelling.{header_in, behind_header}
use Rattle.tap_frame.proofs.Cases.{accepted_spells, no_case, spelled_faultless, spelled_once}
use Rattle.tap_frame.proofs.laws.spelling_laws.Goals as goal

pub returns-clause-faultless_is_spelled : goal.returns-clause-faultless_is_spelled
returns-clause-faultless_is_spelled c = λ shape bytes none. (header_in shape bytes, behind_header shape bytes, accepted_spells shape bytes none)

pub returns-clause-spelled_is_faultless : goal.returns-clause-spelled_is_faultless
returns-clause-spelled_is_faultless c = λ shape bytes h e s. no_case shape bytes (spelled_faultless shape bytes h e s)

pub returns-clause-spelled_once : goal.returns-clause-spelled_once
returns-clause-spelled_once c = spelled_once
