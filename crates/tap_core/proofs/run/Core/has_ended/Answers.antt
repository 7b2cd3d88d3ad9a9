use Rattle.std.proofs.Common.{◌∙◌, List, ap}
use Rattle.std.specs.Prelude.{is_none, slice_get}
use Rattle.std.specs.List.{list_all}
use Rattle.core_actors.specs.Acting.{Acting}
use Rattle.tap_core.proofs.Leading.{ended_is}
use Rattle.tap_core.specs.Running.{Running, lines_in}
use Rattle.tap_world.specs.Runs.{has_ended}
use Rattle.tap_core.proofs.run.Core.has_ended.Goals as goal

pub returns : goal.returns
returns c =
    let i = c.self.inside in
    c.have_ended.ensures
    ∙ ap (λ (xs : List Acting). list_all (λ (a : Acting). is_none (slice_get a.script 0)) xs) c.items.ensures
    ∙ ended_is (lines_in i.scenario.now i.shared.phase) i.shared.vhosts i.actors c.self.invariant.places
    ∙ ap (λ (r : Running). has_ended r.world) c.self.view_is
