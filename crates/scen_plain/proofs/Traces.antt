-- Which trace a seed has.
use Rattle.std.proofs.Common.{sym, ap, ◌∙◌}
use Rattle.tap_world.specs.Laws.{OneOrder, UpgradeHasSameOrders}
use Rattle.tap_world.specs.Project.{project}
use Rattle.tap_world.specs.Setup.{setup_of}
use Rattle.tap_world.specs.World.{World}
use Rattle.scen_plain.specs.PlainRun.{OnePlainTrace, UpgradeHasSameTraces}

pub one_trace : OneOrder → OnePlainTrace
one_trace one s seed t u p q =
    let same = one s seed p.events q.events p.world q.world p.order q.order in
    p.trace ∙ ap (λ (w : World). project (setup_of s) w) same.1 ∙ sym q.trace

pub same_traces : UpgradeHasSameOrders → UpgradeHasSameTraces
same_traces same s seed t = (
  λ p. record { events = p.events; world = p.world; order = (same s seed p.events p.world).0 p.order; trace = p.trace },
  λ p. record { events = p.events; world = p.world; order = (same s seed p.events p.world).1 p.order; trace = p.trace },
)
