use Rattle.scen_words.proofs.Declared.{values_kept, words_kept}
use Rattle.scen_words.proofs.laws.declaration_laws.Goals as goal

pub returns : goal.returns
returns c = record { words = words_kept; values = values_kept }
