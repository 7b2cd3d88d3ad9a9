-- Frames leave a line in the order placed.
use Rattle.std.proofs.Common.{◌≡◌, ◌⊎◌, ℕ, zero, suc, ◌<◌, ◌≤◌, List, [], ◌∷◌, Some, true, true≢false, sym, ap, ◌∙◌, subst, inl, inr, ⊎_elim, arith}
use Rattle.std.specs.Prelude.{slice_get}
use Rattle.tap_ledger.specs.declared.fate.Fate.{Fate}
use Rattle.tap_world.specs.Line.{Entry}
use Rattle.tap_world.specs.declared.line.Standing.TheVariants.{Out}
use Rattle.tap_world.specs.Sound.{ComesLast, InThreeParts, is_cut, rank}

some_same : {A : Type 0} (x y : A) → Some x ≡ Some y → x ≡ y
some_same x y e = cc (e)

-- an entry that is out has rank 0, and isn't cut
out_first : (r : ℕ) (e : Entry) (fate : Fate) → e.stands ≡ Out fate → (is_cut e.stands ≡ true) ⊎ (r ≤ rank e.stands) → r ≡ 0
out_first r e fate is or =
    ⊎_elim (λ cut. absurd (true≢false (sym cut ∙ ap is_cut is))) (λ le. omega (arith, subst (λ (n : ℕ). r ≤ n) (ap rank is) le)) or

last_out : (r : ℕ) (line : List Entry) (j : ℕ) (e : Entry) (fate : Fate) → ComesLast r line → slice_get line j ≡ Some e → e.stands ≡ Out fate → r ≡ 0
last_out r [] j e fate last at is = absurd (cc (at))
last_out r (x ∷ xs) zero e fate last at is = out_first r e fate is (subst (λ (y : Entry). (is_cut y.stands ≡ true) ⊎ (r ≤ rank y.stands)) (some_same x e at) last.0)
last_out r (x ∷ xs) (suc j) e fate last at is = last_out r xs j e fate last.1 at is

pub leave_in_order : (line : List Entry) (i j : ℕ) (d e : Entry) (fate : Fate) → InThreeParts line → i < j
    → slice_get line i ≡ Some d → slice_get line j ≡ Some e → e.stands ≡ Out fate
    → (is_cut d.stands ≡ true) ⊎ (rank d.stands ≡ 0)
leave_in_order [] i j d e fate parts lt a b is = absurd (cc (a))
leave_in_order (x ∷ xs) i zero d e fate parts lt a b is = absurd (omega (arith, lt))
leave_in_order (x ∷ xs) zero (suc j) d e fate parts lt a b is =
    subst (λ (y : Entry). (is_cut y.stands ≡ true) ⊎ (rank y.stands ≡ 0)) (some_same x d a)
    (⊎_elim (λ cut. inl cut) (λ last. inr (last_out (rank x.stands) xs j e fate last b is)) parts.0)
leave_in_order (x ∷ xs) (suc i) (suc j) d e fate parts lt a b is =
    leave_in_order xs i j d e fate parts.1 (omega (arith, lt)) a b is
