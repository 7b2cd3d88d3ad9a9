use Rattle.std.proofs.Common.{◌≡◌, List, slice_get, ap, ap₂, sym, subst, ◌∙◌, rules}
use Rattle.std.specs.Option.{option_map}
use Rattle.tap_queues.specs.declared.queues.Row.{Row}
use Rattle.tap_queues.specs.Rows.{AreRows, detached}
use Rattle.tap_queues.proofs.RowLemmas.{index_is, detached_rows, moved_is}
use Rattle.tap_queues.proofs.queues.Queues.detach.Goals as goal

pub invariant_of-self : goal.invariant_of-self
invariant_of-self c = (subst AreRows (sym c.fill_hole.ensures.rows) (detached_rows c.self.inside.rows.items c.from.result c.self.invariant.0), search rules)

pub returns-clause-moved : goal.returns-clause-moved
returns-clause-moved c =
    let found = index_is c.args.self.now c.args.file c.unwrap-hole.result (sym c.index_of.ensures.index ∙ c.unwrap-hole.ensures) in
    let mapped : c.map.result ≡ option_map (λ (row : Row). row.file) c.at.result = search rules in
    let new : c.fill_hole.new.rows.items ≡ detached c.args.self.now c.unwrap-hole.result = c.fill_hole.ensures.rows ∙ ap₂ detached c.self.view_is c.from.ensures in
    mapped ∙ ap (option_map (λ (row : Row). row.file)) (c.at.ensures ∙ ap (λ (now : List Row). slice_get now c.unwrap-hole.result) new) ∙ moved_is c.args.self.now c.unwrap-hole.result found.0

pub returns-clause-sound : goal.returns-clause-sound
returns-clause-sound c = subst AreRows (sym c.fill_hole.ensures.rows) (detached_rows c.self.inside.rows.items c.from.result c.self.invariant.0)
