-- Acts one behind the other.
use Rattle.std.proofs.Common.{◌≡◌, ℕ, List, [], ◌∷◌, ◌++◌, Option, Some, None, refl, ap, subst}
use Rattle.std.specs.Prelude.{filter_map}
use Rattle.std.specs.List.{cons_option}
use Rattle.tap_legal.specs.Case.{Case}
use Rattle.tap_sound.proofs.Kit.{some_same, some_then, then_some}
use Rattle.tap_sights.specs.Acts.{Act, Done, State, all_done, does, last_state}
use Rattle.tap_sights.specs.GuestFacts.{printed}

pub all_more : (c : Case) (guest : ℕ) (xs ys : List Act) (st : State) (ds es : List (Act × Done)) → all_done c guest xs st ≡ Some ds
    → all_done c guest ys (last_state st ds) ≡ Some es → all_done c guest (xs ++ ys) st ≡ Some (ds ++ es)
all_more c guest [] ys st ds es e h =
    subst (λ (q : List (Act × Done)). all_done c guest ys (last_state st q) ≡ Some es → all_done c guest ys st ≡ Some (q ++ es))
    (some_same [] ds e) (λ k. k) h
all_more c guest (a ∷ xs) ys st ds es e h =
    let d = then_some (does c guest a a.what st) _ ds e in
    let r = then_some (all_done c guest xs d.0.state) _ ds d.2 in
    subst (λ (q : List (Act × Done)). all_done c guest ys (last_state st q) ≡ Some es → all_done c guest (a ∷ xs ++ ys) st ≡ Some (q ++ es))
    (some_same ((a, d.0) ∷ r.0) ds r.2)
    (λ k. some_then (does c guest a a.what st) _ d.0 _ d.1
    (some_then (all_done c guest (xs ++ ys) d.0.state) _ (r.0 ++ es) _ (all_more c guest xs ys d.0.state r.0 es r.1 k) refl)) h

pub last_more : (st : State) (ds es : List (Act × Done)) → last_state st (ds ++ es) ≡ last_state (last_state st ds) es
last_more st [] es = refl
last_more st (d ∷ ds) es = last_more d.1.state ds es

mapped_more : {A B : Type 0} (h : A → Option B) (xs ys : List A) → filter_map h (xs ++ ys) ≡ filter_map h xs ++ filter_map h ys
mapped_more h [] ys = refl
mapped_more h (x ∷ xs) ys = go (h x) (mapped_more h xs ys)
  where
    go : (o : Option _) → filter_map h (xs ++ ys) ≡ filter_map h xs ++ filter_map h ys
        → cons_option o (filter_map h (xs ++ ys)) ≡ cons_option o (filter_map h xs) ++ filter_map h ys
    go None e = e
    go (Some y) e = ap (λ l. y ∷ l) e

pub printed_more : (ds es : List (Act × Done)) → printed (ds ++ es) ≡ printed ds ++ printed es
printed_more ds es = mapped_more _ ds es
