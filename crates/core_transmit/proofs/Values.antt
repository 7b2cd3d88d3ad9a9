-- This project's own: facts of a call's value, where there is one.
use Rattle.std.proofs.Common.{◌≡◌, Result, Ok, Err, sym, subst}
use Rattle.std.specs.Prelude.{IfOk, OnOk}

pub ok_then : {A E : Type 0} (r : Result A E) (P Q : A → Type 0) → IfOk r P → ((x : A) → P x → Q x) → IfOk r Q
ok_then (Ok x) P Q h f = f x h
ok_then (Err e) P Q h f = tt

pub ok_is : {A E : Type 0} (r : Result A E) (y : A) (T : Type 0) (Q : A → Type 0) → OnOk r T → IfOk r (λ x. x ≡ y) → (T → Q y)
    → IfOk r Q
ok_is (Ok x) y T Q h is f = subst Q (sym is) (f h)
ok_is (Err e) y T Q h is f = tt
