use Rattle.scen_plain.proofs.Given.{reads_give}
use Rattle.scen_plain.proofs.laws.reads_give_what_was_sent.Goals as goal

pub returns : goal.returns
returns c = reads_give c.laid_runs_are_sound.ensures c.runs_are_steady.ensures.reached
