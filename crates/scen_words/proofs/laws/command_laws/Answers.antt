use Rattle.scen_words.proofs.Kept.{values_kept, words_kept}
use Rattle.scen_words.proofs.laws.command_laws.Goals as goal

pub returns : goal.returns
returns c = record { words = words_kept; values = values_kept }
