use Rattle.std.proofs.Common.{◌≡◌, ◌∙◌, refl, sym, ap, Some, Bool, true, false}
use Rattle.tap_world.specs.declared.event.EventKind.TheVariants as kind
use Rattle.std.specs.Prelude.{if◌then◌else◌}
use Rattle.tap_world.specs.declared.event.EventKind.{EventKind}
use Rattle.tap_world.specs.Scripts.{send_next}
use Rattle.core_shared.proofs.Knowing.{may_do, next_on}
use Rattle.core_shared.proofs.Taking.{about_there}
use Rattle.core_rings.proofs.sending.send_on.Goals as goal

-- the first whose test holds
abbrev next_of : Bool → Bool → Bool → EventKind
next_of gone spent full = if gone then kind.Gone else if spent then kind.Spent else if full then kind.Full else kind.Claim

first : (g : Bool) (s : Bool) (f : Bool) → true ≡ g → next_of g s f ≡ kind.Gone
first g s f e = ap (λ b. next_of b s f) (sym e)

second : (g : Bool) (s : Bool) (f : Bool) → false ≡ g → true ≡ s → next_of g s f ≡ kind.Spent
second g s f e h = ap (λ b. next_of b s f) (sym e) ∙ ap (λ b. next_of false b f) (sym h)

third : (g : Bool) (s : Bool) (f : Bool) → false ≡ g → false ≡ s → true ≡ f → next_of g s f ≡ kind.Full
third g s f e h k = ap (λ b. next_of b s f) (sym e) ∙ ap (λ b. next_of false b f) (sym h) ∙ ap (λ b. next_of false false b) (sym k)

last : (g : Bool) (s : Bool) (f : Bool) → false ≡ g → false ≡ s → false ≡ f → next_of g s f ≡ kind.Claim
last g s f e h k = ap (λ b. next_of b s f) (sym e) ∙ ap (λ b. next_of false b f) (sym h) ∙ ap (λ b. next_of false false b) (sym k)

pub side-side-requires : goal.side-side-requires
side-side-requires c = about_there c.requires.may.1 c.args.file refl

pub find_gone-requires : goal.find_gone-requires
find_gone-requires c = record {
  may = may_do c.requires.may kind.Gone (λ actors said.
      next_on c.args.shared.now actors said c.args.file c.side-side.result.now (send_next c.args.epoch) c.side-side.ensures
      ∙ ap Some (first _ _ _ (sym c.if-is_gone.true ∙ c.is_gone.ensures)));
}

pub find_spent-requires : goal.find_spent-requires
find_spent-requires c = record {
  may = may_do c.requires.may kind.Spent (λ actors said.
      next_on c.args.shared.now actors said c.args.file c.side-side.result.now (send_next c.args.epoch) c.side-side.ensures
      ∙ ap Some (second _ _ _ (sym c.if-is_gone.false ∙ c.is_gone.ensures) (sym c.if-is_spent.true ∙ c.is_spent.ensures)));
}

pub find_full-requires : goal.find_full-requires
find_full-requires c = record {
  may = may_do c.requires.may kind.Full (λ actors said.
      next_on c.args.shared.now actors said c.args.file c.side-side.result.now (send_next c.args.epoch) c.side-side.ensures
      ∙ ap Some (third _ _ _ (sym c.if-is_gone.false ∙ c.is_gone.ensures) (sym c.if-is_spent.false ∙ c.is_spent.ensures)
      (sym c.if-is_full.true ∙ c.is_full.ensures)));
}

pub claim-requires : goal.claim-requires
claim-requires c = record {
  may = may_do c.requires.may kind.Claim (λ actors said.
      next_on c.args.shared.now actors said c.args.file c.side-side.result.now (send_next c.args.epoch) c.side-side.ensures
      ∙ ap Some (last _ _ _ (sym c.if-is_gone.false ∙ c.is_gone.ensures) (sym c.if-is_spent.false ∙ c.is_spent.ensures)
      (sym c.if-is_full.false ∙ c.is_full.ensures)));
}
