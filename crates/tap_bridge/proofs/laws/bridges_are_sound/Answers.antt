use Rattle.tap_bridge.proofs.Sound.{tables_are_sound, answers_are_sound}
use Rattle.tap_bridge.proofs.laws.bridges_are_sound.Goals as goal

pub returns-clause-tables : goal.returns-clause-tables
returns-clause-tables c = tables_are_sound

pub returns-clause-answers : goal.returns-clause-answers
returns-clause-answers c = answers_are_sound
