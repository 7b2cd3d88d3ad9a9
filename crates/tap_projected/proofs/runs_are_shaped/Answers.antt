use Rattle.tap_projected.proofs.Ended as ended
use Rattle.tap_projected.proofs.Shaped as law
use Rattle.tap_projected.proofs.runs_are_shaped.Goals as goal

pub returns : goal.returns
returns c = λ s events w laid is.
    let steady = c.runs_are_steady.ensures.ended s events w laid is in
    let answered = ended.are_answered s w laid steady.told (c.all_is_done.ensures s events w is) events is in
    law.is_shaped s w laid answered steady.there
