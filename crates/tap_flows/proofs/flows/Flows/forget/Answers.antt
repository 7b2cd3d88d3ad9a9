use Rattle.std.proofs.Common.{ℕ, not, eqb, ap, ◌∙◌}
use Rattle.tap_flows.specs.Flow.{Flow, FlowTable}
use Rattle.tap_flows.specs.FlowList.{forgotten}
use Rattle.tap_flows.proofs.FlowLemmas.{with_flows, forgotten_listed, latest_left}
use Rattle.tap_flows.proofs.flows.Flows.forget.Goals as goal

pub returns-clause-flows : goal.returns-clause-flows
returns-clause-flows c =
    with_flows c.self.inside.table c.forget.new.self c.self.inside.age c.args.self.now (λ t. forgotten t.flows c.args.index) c.self.view_is c.forget.ensures.limit
    (forgotten_listed c.self.inside.table c.forget.new.self c.args.index c.forget.ensures.contents)

pub returns-clause-latest : goal.returns-clause-latest
returns-clause-latest c = λ time before.
    latest_left c.args.self.now.flows _ (λ (entry : ℕ × Flow). not (eqb entry.1.index c.args.index)) time
    (forgotten_listed c.self.inside.table c.forget.new.self c.args.index c.forget.ensures.contents ∙ ap (λ (t : FlowTable). forgotten t.flows c.args.index) c.self.view_is) before
