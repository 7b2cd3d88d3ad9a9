use Rattle.std.proofs.Common.{subst}
use Rattle.std.specs.Prelude.{slice_get}
use Rattle.std.specs.Option.{option_copied}
use Rattle.tap_world.specs.Setup.{setup_of}
use Rattle.tap_core.specs.Carried.{IsPendingAt}
use Rattle.tap_core.specs.Running.{Running}
use Rattle.tap_core.proofs.Leading.{pending_is}
use Rattle.tap_core.proofs.run.Core.pending.Goals as goal

pub returns : goal.returns
returns c =
    let i = c.self.inside in
    subst
    (λ (r : Running). IsPendingAt (setup_of r.scenario) c.args.actor (slice_get r.world.actors c.args.actor)
    (option_copied c.pending_in.result)) c.self.view_is
    (pending_is i.scenario.now i.begun i.shared i.actors i.said.items c.args.actor _ _ _ c.worlds_go_on.ensures.first
    c.laid_runs_are_sound.ensures c.self.invariant c.in_ok-get.ensures c.doing.ensures c.pending_in.ensures)
