use Rattle.std.proofs.Common.{List, ap, subst, ◌∙◌}
use Rattle.tap_queues.specs.declared.queues.Row.{Row}
use Rattle.tap_queues.specs.Rows.{AreRows, index_of}
use Rattle.tap_queues.proofs.RowLemmas.{index_exact}
use Rattle.tap_queues.proofs.queues.Queues.index_of.Goals as goal

pub returns-in_err-index-clause-index : goal.returns-in_err-index-clause-index
returns-in_err-index-clause-index c = c.from_residual.ensures ∙ c.in_err-index.ensures.place ∙ ap (λ (rows : List Row). index_of rows c.args.file) (c.deref.ensures.value ∙ c.self.view_is)

pub returns-in_err-index-clause-exact : goal.returns-in_err-index-clause-exact
returns-in_err-index-clause-exact c =
    let rows : AreRows c.args.self.now = subst AreRows c.self.view_is c.self.invariant.0 in
    index_exact c.args.self.now c.args.file _ rows.distinct (returns-in_err-index-clause-index c)

pub returns-clause-index : goal.returns-clause-index
returns-clause-index c = c.in_ok-index.ensures.place ∙ ap (λ (rows : List Row). index_of rows c.args.file) (c.deref.ensures.value ∙ c.self.view_is)

pub returns-clause-exact : goal.returns-clause-exact
returns-clause-exact c =
    let rows : AreRows c.args.self.now = subst AreRows c.self.view_is c.self.invariant.0 in
    index_exact c.args.self.now c.args.file _ rows.distinct (returns-clause-index c)
