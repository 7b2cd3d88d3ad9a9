use Rattle.scen_laid.proofs.runs_of_text.Goals as goal

pub returns : goal.returns
returns c = λ bytes s stands. c.laid_runs_are_sound.ensures s (c.read_is_laid.ensures bytes s stands)
