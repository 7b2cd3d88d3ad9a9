use Rattle.tap_projected.proofs.Numbers as law
use Rattle.tap_projected.proofs.files_tell.Goals as goal

pub returns : goal.returns
returns c = λ s events w laid is.
    let steady = c.runs_are_steady.ensures.ended s events w laid is in
    let sound = (c.laid_runs_are_sound.ensures s laid).ended events w is in
    law.files_tell s w (c.all_is_done.ensures s events w is) sound steady.there
    (c.operations_are_projected.ensures s events w laid is) (c.files_are_projected.ensures s events w laid is)
