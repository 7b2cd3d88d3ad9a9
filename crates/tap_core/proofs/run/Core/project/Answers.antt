use Rattle.std.proofs.Common.{◌≡◌, ◌∙◌, ap, subst}
use Rattle.std.specs.Prelude.{IfOk}
use Rattle.tap_trace.specs.declared.trace.Trace.{Trace}
use Rattle.tap_world.specs.Project.{project}
use Rattle.tap_world.specs.Setup.{setup_of}
use Rattle.tap_core.specs.Running.{Running}
use Rattle.tap_core.proofs.Finishing.{can_be_told, told_is}
use Rattle.tap_core.proofs.run.Core.project.Goals as goal

pub project-trace-requires : goal.project-trace-requires
project-trace-requires c =
    let i = c.self.inside in
    can_be_told i.scenario.now i.begun i.shared i.actors i.said.items _ _ _ c.worlds_go_on.ensures.first
    c.runs_are_steady.ensures.reached c.steady_can_be_told.ensures c.self.invariant c.ops-2.ensures c.into_items.ensures
    c.sides.ensures

pub returns : goal.returns
returns c =
    let i = c.self.inside in
    subst (λ (p : Trace). IfOk c.project-trace.result (λ trace. trace ≡ p))
    (told_is i.scenario.now i.shared i.actors i.said.items _ _ _ c.only_parts_are_told.ensures c.ops-2.ensures
    c.into_items.ensures c.sides.ensures
    ∙ ap (λ (r : Running). project (setup_of r.scenario) r.world) c.self.view_is)
    c.project-trace.ensures
