-- The first setting of each key.
use Rattle.std.proofs.Common.{◌≡◌, ℕ, zero, suc, ◌<◌, Bool, true, false, cond, eqb, List, [], ◌∷◌, ◌++◌, length, set, get_or, Option, Some, None, refl, sym, ap, ◌∙◌}
use Rattle.std.specs.Prelude.{unwrap_or}
use Rattle.std.specs.List.{find}
use Rattle.std.specs.Option.{option_or}
use Rattle.std.proofs.lemmas.Bool.{eqb-true, eqb-false}
use Rattle.std.proofs.lemmas.Option.{unwrap_or-slice_get}
use Rattle.std.proofs.lemmas.Option.{slice_get-get_or}
use Rattle.std.proofs.lemmas.List.{get_or-set_same}
use Rattle.std.proofs.lemmas.List.{get_or-set_other}
use Rattle.tap_report.specs.declared.history.Setting.{Setting}
use Rattle.tap_report.specs.History.{KeepsFirst, first_kept}
use Rattle.tap_report.specs.Index.{sets_ever}

pub first_kept-push : (firsts : List (Option Setting)) (k : ℕ) → first_kept (firsts ++ None ∷ []) k ≡ first_kept firsts k
first_kept-push [] zero = refl
first_kept-push [] (suc k) = refl
first_kept-push (f ∷ fs) zero = refl
first_kept-push (f ∷ fs) (suc k) = first_kept-push fs k

-- what is found where one more setting stands behind
found_push : (p : Setting → Bool) (xs : List Setting) (s : Setting) → find p (xs ++ s ∷ []) ≡ option_or (find p xs) (cond (p s) (Some s) None)
found_push p [] s = refl
found_push p (x ∷ xs) s = choose (p x) (found_push p xs s)
  where
    choose : (b : Bool) → find p (xs ++ s ∷ []) ≡ option_or (find p xs) (cond (p s) (Some s) None)
        → cond b (Some x) (find p (xs ++ s ∷ [])) ≡ option_or (cond b (Some x) (find p xs)) (cond (p s) (Some s) None)
    choose true rest = refl
    choose false rest = rest

or_none : (o : Option Setting) → option_or o None ≡ o
or_none None = refl
or_none (Some s) = refl

first_is : (firsts : List (Option Setting)) (k : ℕ) → first_kept firsts k ≡ get_or firsts k None
first_is firsts k = unwrap_or-slice_get firsts k None

-- one more setting, kept where it is the first of its key
pub noted_first : (all : List Setting) (firsts grown : List (Option Setting)) (s : Setting) (key : ℕ) (was new d : Option Setting) → key ≡ s.key → KeepsFirst all firsts
    → ((k : ℕ) → first_kept grown k ≡ first_kept firsts k) → key < length grown → was ≡ get_or grown key d → new ≡ option_or was (Some s)
    → KeepsFirst (all ++ s ∷ []) (set grown key new)
noted_first all firsts grown s key was new d key_is keeps same within was_is new_is = record { first = λ k. at k (eqb key k) refl }
  where
    is_own : (k : ℕ) → eqb key k ≡ eqb s.key k
    is_own k = ap (λ (n : ℕ). eqb n k) key_is

    was_first : (k : ℕ) → eqb key k ≡ true → was ≡ find (sets_ever k) all
    was_first k is =
        was_is ∙ ap (λ o. unwrap_or o None) (sym (slice_get-get_or grown key d within)) ∙ ap (first_kept grown) (eqb-true key k is) ∙ same k ∙ keeps.first k

    at : (k : ℕ) (b : Bool) → eqb key k ≡ b → first_kept (set grown key new) k ≡ find (sets_ever k) (all ++ s ∷ [])
    at k true is =
        ap (first_kept (set grown key new)) (sym (eqb-true key k is)) ∙ first_is (set grown key new) key ∙ get_or-set_same grown key new None within
        ∙ new_is ∙ ap (λ o. option_or o (Some s)) (was_first k is)
        ∙ sym (found_push (sets_ever k) all s ∙ ap (λ b. option_or (find (sets_ever k) all) (cond b (Some s) None)) (sym (is_own k) ∙ is))
    at k false isnt =
        first_is (set grown key new) k ∙ get_or-set_other grown key k new None (λ e. eqb-false key k isnt (sym e)) ∙ sym (first_is grown k) ∙ same k ∙ keeps.first k
        ∙ sym (found_push (sets_ever k) all s ∙ ap (λ b. option_or (find (sets_ever k) all) (cond b (Some s) None)) (sym (is_own k) ∙ isnt) ∙ or_none (find (sets_ever k) all))
