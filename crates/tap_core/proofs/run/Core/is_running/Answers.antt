use Rattle.std.proofs.Common.{subst}
use Rattle.scen_laid.specs.Laid.{IsLaid}
use Rattle.tap_sound.specs.Worlds.{IsWorldOf}
use Rattle.tap_core.specs.Running.{Running, world_of}
use Rattle.tap_core.proofs.Reaching.{is_world}
use Rattle.tap_core.proofs.run.Core.is_running.Goals as goal

pub returns-clause-laid : goal.returns-clause-laid
returns-clause-laid c = subst (λ (r : Running). IsLaid r.scenario) c.self.view_is c.self.invariant.laid

pub returns-clause-reached : goal.returns-clause-reached
returns-clause-reached c =
    let i = c.self.inside in
    subst (λ (r : Running). IsWorldOf r.scenario r.world) c.self.view_is
    (is_world i.scenario.now i.begun (world_of i.scenario.now i.shared i.actors i.said.items) c.worlds_go_on.ensures.first
    c.self.invariant.reached)
