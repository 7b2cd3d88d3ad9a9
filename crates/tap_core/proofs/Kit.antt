-- Lists by place.
use Rattle.std.proofs.Common.{◌≡◌, ℕ, zero, suc, List, [], ◌∷◌, Some, subst}
use Rattle.std.specs.Prelude.{slice_get, IfSome}
use Rattle.std.specs.List.{AllByRecursion}

-- what holds of all holds of the one in a place
pub at_place : {X : Type 0} (P : X → Type 0) (xs : List X) (i : ℕ) (x : X) → AllByRecursion P xs → slice_get xs i ≡ Some x → P x
at_place P [] zero x all e = absurd (cc e)
at_place P [] (suc i) x all e = absurd (cc e)
at_place P (y ∷ ys) zero x all e = subst (λ o. IfSome o P) e all.0
at_place P (y ∷ ys) (suc i) x all e = at_place P ys i x all.1 e
