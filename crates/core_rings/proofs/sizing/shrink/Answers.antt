use Rattle.std.proofs.Common.{◌∙◌, refl, sym, ap, Some, Bool}
use Rattle.tap_world.specs.declared.event.EventKind.TheVariants as kind
use Rattle.std.specs.Prelude.{if◌then◌else◌}
use Rattle.tap_world.specs.declared.event.EventKind.{EventKind}
use Rattle.tap_world.specs.Scripts.{shrink_next}
use Rattle.core_shared.proofs.Knowing.{may_do, next_on}
use Rattle.core_shared.proofs.Taking.{about_there}
use Rattle.core_rings.proofs.sizing.shrink.Goals as goal

abbrev next_of : Bool → EventKind
next_of over = if over then kind.Cut else kind.Publish

pub side-requires : goal.side-requires
side-requires c = about_there c.requires.may.1 c.args.file refl

pub cut-requires : goal.cut-requires
cut-requires c = record {
  may = may_do c.requires.may kind.Cut (λ actors said.
      next_on c.args.shared.now actors said c.args.file c.side.result.now shrink_next c.side.ensures
      ∙ ap (λ b. Some (next_of b)) (sym c.is_over.ensures ∙ c.if-is_over.true));
}

pub publish-requires : goal.publish-requires
publish-requires c = record {
  may = may_do c.requires.may kind.Publish (λ actors said.
      next_on c.args.shared.now actors said c.args.file c.side.result.now shrink_next c.side.ensures
      ∙ ap (λ b. Some (next_of b)) (sym c.is_over.ensures ∙ c.if-is_over.false));
}
