use Rattle.std.proofs.Common.{List, ap, sym, subst, ◌∙◌, rules}
use Rattle.tap_queues.specs.declared.queues.Row.{Row}
use Rattle.tap_queues.specs.Rows.{AreRows, attached}
use Rattle.tap_queues.proofs.RowLemmas.{attached_rows}
use Rattle.tap_queues.proofs.queues.Queues.attach.Goals as goal

pub returns-clause-sound : goal.returns-clause-sound
returns-clause-sound c =
    let before : AreRows c.args.self.now = subst AreRows c.self.view_is c.self.invariant.0 in
    subst AreRows (ap (λ (rows : List Row). attached rows c.args.file c.args.epoch) (sym c.self.view_is) ∙ sym c.push_reserved.ensures.items)
    (attached_rows c.args.self.now c.args.file c.args.epoch before c.requires.absent c.requires.room)

pub invariant_of-self : goal.invariant_of-self
invariant_of-self c = (returns-clause-sound c, search rules)
