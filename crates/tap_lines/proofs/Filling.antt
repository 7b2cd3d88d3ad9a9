-- Ready fronts that move to the batch, one after another.
use Rattle.std.proofs.Common.{◌≡◌, ℕ, zero, suc, ◌+◌, List, Option, Some, None, refl, ap, ◌∙◌, arith}
use Rattle.std.specs.Option.{option_map_or}
use Rattle.tap_world.specs.declared.line.Entry.{Entry}
use Rattle.tap_world.specs.declared.line.Standing.TheVariants.{Batched}
use Rattle.tap_world.specs.LineSteps.{filled, ready_front, restand}
use Rattle.tap_lines.specs.Indexed.{filled_up}

pub up_is : (line : List Entry) → filled_up line ≡ filled 64 line
unfolding filled_up
up_is line = refl

pub filled_next : (n m i : ℕ) (line : List Entry) → n ≡ m + 1 → ready_front line ≡ Some i → filled n line ≡ filled m (restand i Batched line)
filled_next zero m i line is front = absurd (omega (arith, is))
filled_next (suc n) m i line is front =
    let same : n ≡ m = omega (arith, is) in
    ap (λ (o : Option ℕ). option_map_or (λ j. filled n (restand j Batched line)) o line) front ∙ ap (λ (k : ℕ). filled k (restand i Batched line)) same

pub filled_stop : (n : ℕ) (line : List Entry) → ready_front line ≡ None → filled n line ≡ line
filled_stop zero line front = refl
filled_stop (suc n) line front = ap (λ (o : Option ℕ). option_map_or (λ j. filled n (restand j Batched line)) o line) front

pub filled_none : (n : ℕ) (line : List Entry) → n ≡ 0 → filled n line ≡ line
filled_none n line none = ap (λ (k : ℕ). filled k line) none
