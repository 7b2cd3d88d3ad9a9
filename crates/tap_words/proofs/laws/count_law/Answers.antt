use Rattle.tap_words.proofs.Counts.{counts_fit}
use Rattle.tap_words.proofs.laws.count_law.Goals as goal

pub returns : goal.returns
returns c = counts_fit
