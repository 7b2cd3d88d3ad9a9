use Rattle.tap_projected.proofs.Answers as law
use Rattle.tap_projected.proofs.Ended as ended
use Rattle.tap_projected.proofs.answers_are_projected.Goals as goal

pub returns : goal.returns
returns c = λ s events w laid is.
    let steady = c.runs_are_steady.ensures.ended s events w laid is in
    law.answers_are_told s w laid (ended.are_answered s w laid steady.told (c.all_is_done.ensures s events w is) events is)
