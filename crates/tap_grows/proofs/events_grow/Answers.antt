use Rattle.tap_grows.proofs.Events as events
use Rattle.tap_grows.proofs.events_grow.Goals as goal

pub returns : goal.returns
returns c = λ s w e u laid is_world is.
    let steady = c.runs_are_steady.ensures.reached in
    let next = c.worlds_go_on.ensures.reached s w e u is is_world in
    events.event_grows _ w e u is ((c.laid_runs_are_sound.ensures s laid).reached w is_world).sound
    (steady s w laid is_world).there (steady s u.0 laid next).there
