use Rattle.tap_core.proofs.Applied.{applied}
use Rattle.tap_core.proofs.Ready.{ready}
use Rattle.tap_core.proofs.laws.events_are_applied.Goals as goal

pub returns-clause-ready : goal.returns-clause-ready
returns-clause-ready c = ready c.laid_runs_are_sound.ensures c.runs_are_steady.ensures.reached

pub returns-clause-applied : goal.returns-clause-applied
returns-clause-applied c =
    applied c.events_make_steps.ensures c.worlds_go_on.ensures.event c.laid_runs_are_sound.ensures c.runs_are_steady.ensures.reached
