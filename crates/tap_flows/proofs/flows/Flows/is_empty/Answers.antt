use Rattle.std.proofs.Common.{length, ap, sym, ◌∙◌}
use Rattle.std.proofs.lemmas.Bool.{eqb-true, eq-eqb}
use Rattle.tap_flows.specs.Flow.{FlowTable}
use Rattle.tap_flows.proofs.FlowLemmas.{len_is, none_exact}
use Rattle.tap_flows.proofs.flows.Flows.is_empty.Goals as goal

pub returns : goal.returns
returns c =
    let exact = none_exact c.args.self.now.flows c.self.inside.table.len (ap (λ (t : FlowTable). length t.flows) (sym c.self.view_is) ∙ len_is c.self.inside.table c.self.invariant.0 c.self.invariant.1) in
    (λ none. exact.0 (eqb-true _ _ none), λ none. eq-eqb _ _ (exact.1 none))
