use Rattle.std.proofs.Common.{ℕ, ◌+◌, ltb, ap, ◌∙◌}
use Rattle.tap_flows.specs.Flow.{Flow, FlowTable}
use Rattle.tap_flows.specs.FlowList.{ticked}
use Rattle.tap_flows.proofs.FlowLemmas.{with_flows, ticked_listed, latest_left}
use Rattle.tap_flows.proofs.flows.Flows.tick.Goals as goal

pub returns-clause-flows : goal.returns-clause-flows
returns-clause-flows c =
    with_flows c.self.inside.table c.tick.new.self c.self.inside.age c.args.self.now (λ t. ticked t.flows t.age c.args.now) c.self.view_is c.tick.ensures.limit
    (ticked_listed c.self.inside.table c.tick.new.self c.self.inside.age c.args.now c.tick.ensures.contents)

pub returns-clause-latest : goal.returns-clause-latest
returns-clause-latest c = λ time before.
    latest_left c.args.self.now.flows _ (λ (entry : ℕ × Flow). ltb c.args.now (entry.1.updated + c.args.self.now.age)) time
    (ticked_listed c.self.inside.table c.tick.new.self c.self.inside.age c.args.now c.tick.ensures.contents ∙ ap (λ (t : FlowTable). ticked t.flows t.age c.args.now) c.self.view_is) before
