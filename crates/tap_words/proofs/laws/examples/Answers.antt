use Rattle.tap_words.proofs.ExamplesLemmas.{options, refused}
use Rattle.tap_words.proofs.laws.examples.Goals as goal

pub returns : goal.returns
returns c = (options, refused)
