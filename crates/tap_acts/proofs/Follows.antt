-- Steps of a guest follow the commands: each stands between the sights of its command.
use Rattle.std.proofs.Common.{◌≡◌, ℕ, suc, ◌+◌, ◌≤◌, ◌<◌, cond, List, [], ◌∷◌, Option, Some, Bool, true, false, refl, sym, ap, ◌∙◌, subst, ⊎_elim, true≢false, arith}
use Rattle.std.specs.Prelude.{◌==◌, not, filter, slice_get}
use Rattle.std.specs.Option.{option_map_or}
use Rattle.std.proofs.lemmas.Bool.{cases_Bool, cases_eq, eq-eqb, ne_eqb, or_left, or_right}
use Rattle.tap_legal.specs.Numbered.{StepAt, Told}
use Rattle.tap_legal.specs.Case.{Case, fails_order, of_step}
use Rattle.tap_legal.specs.LegalGuests.{steps_follow}
use Rattle.tap_legal.specs.Lookups.{is_before, told_of}
use Rattle.tap_sights.specs.GuestFacts.{StepIsSeen}
use Rattle.tap_sights.specs.Sight.{In, Ordered}
use Rattle.tap_sights.specs.Sights.{Sighted}
use Rattle.tap_sights.proofs.Kit.{in_filter_of, none_breaks}
use Rattle.tap_sights.proofs.Orders.{told_is}
use Rattle.tap_acts.proofs.Lines.{at_some}

abbrev on : ℕ → StepAt → Bool
on guest x = x.guest == guest

abbrev many : Bool → ℕ
many b = cond b 1 0

module _ (c : Case) (s : Sighted c) where
  abbrev Follows : StepAt → StepAt → Type 0
  Follows x y = steps_follow c x y ≡ true

  -- steps from a number of each guest on are seen
  abbrev SeenFrom : (ℕ → ℕ) → List StepAt → Type 0
  SeenFrom from xs = (guest i : ℕ) (x : StepAt) → slice_get (filter (on guest) xs) i ≡ Some x → StepIsSeen c s.seen guest (from guest + i) x

  not_before : (t u : Told) → told_of c t.command ≡ Some t → told_of c u.command ≡ Some u → (guest i j : ℕ)
      → (s.seen.before t).steps guest ≤ i → i < j → j < (s.seen.after u).steps guest → is_before u t ≡ false
  not_before t u told_t told_u guest i j from lt to = ⊎_elim
      (λ e. let r = (s.rise u t told_u told_t e).steps guest in absurd (omega (arith, r, from, lt, to)))
      (λ e. e)
      (cases_Bool (is_before u t))

  two : (guest i j : ℕ) (x y : StepAt) → StepIsSeen c s.seen guest i x → StepIsSeen c s.seen guest j y → i < j → Follows x y
  two guest i j x y f g lt =
      or_right (not (x.guest == y.guest)) _
      (ap (λ (o : Option Told). option_map_or (λ a. option_map_or (λ b. not (is_before b a)) (told_of c y.at.command) true) o true) f.is
      ∙ ap (λ (o : Option Told). option_map_or (λ b. not (is_before b f.by)) o true) g.is
      ∙ ap not (not_before f.by g.by (told_is c s.shape x.at.command f.by f.is) (told_is c s.shape y.at.command g.by g.is) guest i j f.from lt g.to))

  in_cond : (b : Bool) (x : StepAt) (xs : List StepAt) → b ≡ true → (i : ℕ) (y : StepAt) → slice_get xs i ≡ Some y
      → slice_get (cond b (x ∷ xs) xs) (suc i) ≡ Some y
  in_cond true x xs e i y h = h
  in_cond false x xs e i y h = absurd (true≢false (sym e))

  later : (b : Bool) (x : StepAt) (xs : List StepAt) (i : ℕ) (y : StepAt) → slice_get xs i ≡ Some y
      → slice_get (cond b (x ∷ xs) xs) (many b + i) ≡ Some y
  later true x xs i y h = subst (λ n. slice_get (x ∷ xs) n ≡ Some y) (let e : suc i ≡ 1 + i = omega arith in e) h
  later false x xs i y h = subst (λ n. slice_get xs n ≡ Some y) (let e : i ≡ 0 + i = omega arith in e) h

  first : (b : Bool) (x : StepAt) (xs : List StepAt) → b ≡ true → slice_get (cond b (x ∷ xs) xs) 0 ≡ Some x
  first true x xs e = refl
  first false x xs e = absurd (true≢false (sym e))

  in_order : (from : ℕ → ℕ) (xs : List StepAt) → SeenFrom from xs → Ordered Follows xs
  in_order from [] seen = tt
  in_order from (x ∷ xs) seen = (
    λ y i. ⊎_elim (same y i) (other y) (cases_eq x.guest y.guest),
    in_order (λ g. from g + many (on g x)) xs (λ g i y e.
        subst (λ n. StepIsSeen c s.seen g n y) (sum (from g) (many (on g x)) i) (seen g (many (on g x) + i) y (later (on g x) x (filter (on g) xs) i y e))),
  )
    where
      sum : (a b i : ℕ) → a + (b + i) ≡ a + b + i
      sum a b i = omega arith

      other : (y : StepAt) → (x.guest ≡ y.guest → ⊥) → Follows x y
      other y ne = or_left (not (x.guest == y.guest)) _ (ap not (ne_eqb x.guest y.guest ne))

      same : (y : StepAt) → In y xs → x.guest ≡ y.guest → Follows x y
      same y i e =
          let a = at_some (filter (on x.guest) xs) y (in_filter_of (on x.guest) xs y i (eq-eqb y.guest x.guest (sym e))) in
          let here : on x.guest x ≡ true = eq-eqb x.guest x.guest refl in
          two x.guest (from x.guest + 0) (from x.guest + suc a.0) x y
          (seen x.guest 0 x (first (on x.guest x) x (filter (on x.guest) xs) here))
          (seen x.guest (suc a.0) y (in_cond (on x.guest x) x (filter (on x.guest) xs) here a.0 y a.1))
          (omega arith)

  pub steps_in_order : fails_order of_step (steps_follow c) c.steps ≡ []
  steps_in_order = none_breaks of_step (steps_follow c) Follows c.steps (λ x y h. h) (in_order (λ g. 0) c.steps
      (λ g i x e. subst (λ n. StepIsSeen c s.seen g n x) (let h : i ≡ 0 + i = omega arith in h) (s.guests.steps g i x e)))
