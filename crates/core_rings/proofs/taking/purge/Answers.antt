use Rattle.std.proofs.Common.{◌∙◌, refl, sym, ap, Some, Bool}
use Rattle.tap_world.specs.declared.event.EventKind.TheVariants as kind
use Rattle.std.specs.Prelude.{if◌then◌else◌}
use Rattle.tap_world.specs.declared.event.EventKind.{EventKind}
use Rattle.tap_world.specs.Scripts.{purge_next}
use Rattle.core_shared.proofs.Knowing.{may_do, next_on}
use Rattle.core_shared.proofs.Taking.{about_there}
use Rattle.core_rings.proofs.taking.purge.Goals as goal

abbrev next_of : Bool → EventKind
next_of batch = if batch then kind.Out else kind.Move

pub side-requires : goal.side-requires
side-requires c = about_there c.requires.may.1 c.args.file refl

pub purge_front-requires : goal.purge_front-requires
purge_front-requires c = record {
  may = may_do c.requires.may kind.Out (λ actors said.
      next_on c.args.shared.now actors said c.args.file c.side.result.now purge_next c.side.ensures
      ∙ ap (λ b. Some (next_of b)) (sym c.has_batch.ensures ∙ c.if-has_batch.true));
}

pub move_to_purge-requires : goal.move_to_purge-requires
move_to_purge-requires c = record {
  may = may_do c.requires.may kind.Move (λ actors said.
      next_on c.args.shared.now actors said c.args.file c.side.result.now purge_next c.side.ensures
      ∙ ap (λ b. Some (next_of b)) (sym c.has_batch.ensures ∙ c.if-has_batch.false));
}
