use Rattle.scen_words.proofs.Fitting.{line_fits}
use Rattle.scen_words.proofs.laws.sentence_laws.Goals as goal

pub returns : goal.returns
returns c = line_fits c.form_laws.ensures.written
