-- Reopenings and resizes: what one more of them makes of the lists, and what other steps leave of them.
use Rattle.std.proofs.Common.{◌≡◌, ◌≢◌, ℕ, zero, suc, ◌+◌, ◌≤◌, ◌<◌, eqb, ltb, List, [], ◌∷◌, ◌++◌, length, Some, Bool, true, false, refl, sym, ap, ◌∙◌, ⊎_elim, le_refl, arith, length-append}
use Rattle.std.specs.Prelude.{slice_get}
use Rattle.std.proofs.lemmas.Bool.Decides.{eqb_tells}
use Rattle.std.proofs.lemmas.Bool.{ltb-true, ltb-false, lt-ltb, le-ltb}
use mathlib.Core.Option.{some}
use lib.ListN.{get_elem?}
use Rattle.tap_ring.specs.declared.rule.Loaded.{Loaded}
use Rattle.tap_ring.specs.Moments.{capacity_at}
use Rattle.tap_ring.specs.Turns.{turns_to, EachGiven}
use Rattle.tap_ring.specs.Standing.{Placing, CountsTurns, CountsSizes}
use Rattle.tap_ring.proofs.Kit.{at_snoc_where, entered_below}

-- ---- reopenings

turns-append : (p : ℕ) (opened more : List ℕ) → turns_to p (opened ++ more) ≡ turns_to p opened + turns_to p more
turns-append p [] more = omega arith
turns-append p (x ∷ xs) more = let r = turns-append p xs more in omega (arith, r)

turn_ahead : (p claimed : ℕ) → p < claimed → turns_to p (claimed ∷ []) ≡ 0
turn_ahead p claimed lt = rw (lt-ltb p claimed lt) refl

turn_behind : (p claimed : ℕ) → claimed ≤ p → turns_to p (claimed ∷ []) ≡ 1
turn_behind p claimed le = rw (le-ltb p claimed le) refl

-- the further the place, the more reopenings are behind it
pub turns_rise : (p q : ℕ) (opened : List ℕ) → p ≤ q → turns_to p opened ≤ turns_to q opened
turns_rise p q [] le = le_refl 0
turns_rise p q (x ∷ xs) le = let r = turns_rise p q xs le in go r (ltb p x) refl (ltb q x) refl
  where
    go : turns_to p xs ≤ turns_to q xs → (b : Bool) → ltb p x ≡ b → (d : Bool) → ltb q x ≡ d → turns_to p (x ∷ xs) ≤ turns_to q (x ∷ xs)
    go r true t true u = rw (t, u) (omega (arith, r))
    go r true t false u = rw (t, u) (omega (arith, r))
    go r false t true u = let ge = ltb-false p x t in let lt = ltb-true q x u in absurd (omega (arith, ge, lt, le))
    go r false t false u = rw (t, u) (omega (arith, r))

-- one more place is given out, under the epoch
pub turns_claim : (first claimed epoch : ℕ) (log : List Placing) (opened : List ℕ) (x : Placing) → claimed ≡ first + length log → x.claim.epoch ≡ epoch
    → CountsTurns first claimed epoch log opened → CountsTurns first (claimed + 1) epoch (log ++ x ∷ []) opened
turns_claim first claimed epoch log opened x long same t = record {
  count = t.count;
  ahead = λ p le. t.ahead p (omega (arith, le));
  claims = λ p y e. ⊎_elim
      (λ (a : (get_elem? log e.0 ≡ some y) × (e.0 ≢ length log)). t.claims p y (e.0, e.1, e.2, a.0))
      (λ (a : (e.0 ≡ length log) × (x ≡ y)).
      let is = e.1 in
      let last = a.0 in
      sym (ap (λ (z : Placing). z.claim.epoch) a.1) ∙ same ∙ sym (t.ahead p (omega (arith, is, last, long))))
      (at_snoc_where log x y e.0 e.3);
}

-- the gate is reopened: no place below the claim count has one more
pub turns_reopen : (first claimed epoch : ℕ) (log : List Placing) (opened : List ℕ) → claimed ≡ first + length log
    → CountsTurns first claimed epoch log opened → CountsTurns first claimed (epoch + 1) log (opened ++ claimed ∷ [])
turns_reopen first claimed epoch log opened long t = record {
  count = let c = t.count in let a = length-append opened (claimed ∷ []) in omega (arith, c, a);
  ahead = λ p le.
      let a = turns-append p opened (claimed ∷ []) in
      let b = turn_behind p claimed le in
      let d = t.ahead p le in
      omega (arith, a, b, d);
  claims = λ p x e.
      let low = entered_below first log p x e in
      let a = turns-append p opened (claimed ∷ []) in
      let b = turn_ahead p claimed (omega (arith, low, long)) in
      t.claims p x e ∙ omega (arith, a, b);
}

-- ---- resizes

get_front : (xs ys : List ℕ) (k a : ℕ) → slice_get xs k ≡ Some a → slice_get (xs ++ ys) k ≡ Some a
get_front [] ys k a e = absurd (cc (e))
get_front (x ∷ xs) ys zero a e = e
get_front (x ∷ xs) ys (suc k) a e = get_front xs ys k a e

get_last : (xs : List ℕ) (a : ℕ) → slice_get (xs ++ a ∷ []) (length xs) ≡ Some a
get_last [] a = refl
get_last (x ∷ xs) a = get_last xs a

pub given_more : (first : ℕ) (resized more : List ℕ) (xs : List Loaded) → EachGiven first resized xs → EachGiven first (resized ++ more) xs
given_more first resized more [] e = tt
given_more first resized more (x ∷ xs) e = (get_front (first ∷ resized) more x.resizes x.capacity e.0, given_more first resized more xs e.1)

pub given_append : (first : ℕ) (resized : List ℕ) (xs ys : List Loaded) → EachGiven first resized xs → EachGiven first resized ys → EachGiven first resized (xs ++ ys)
given_append first resized [] ys a b = b
given_append first resized (x ∷ xs) ys a b = (a.0, given_append first resized xs ys a.1 b)

pub given_parts : (first : ℕ) (resized : List ℕ) (xs ys : List Loaded) → EachGiven first resized (xs ++ ys) → EachGiven first resized xs × EachGiven first resized ys
given_parts first resized [] ys e = (tt, e)
given_parts first resized (x ∷ xs) ys e = let r = given_parts first resized xs ys e.1 in ((e.0, r.0), r.1)

-- the words have the same capacities
pub sizes_same : (first : ℕ) (ws ws' : List ℕ) (resizes : ℕ) (resized : List ℕ) → ((k : ℕ) → k ≤ resizes → capacity_at ws' k ≡ capacity_at ws k)
    → CountsSizes first ws resizes resized → CountsSizes first ws' resizes resized
sizes_same first ws ws' resizes resized same t = record {
  count = t.count;
  given = λ n le. t.given n le ∙ ap (λ (m : ℕ). Some m) (sym (same n le));
}

-- one more resize: its capacity stands in the next word
pub sizes_more : (first : ℕ) (ws : List ℕ) (resizes capacity : ℕ) (resized : List ℕ) → capacity_at ws (resizes + 1) ≡ capacity
    → CountsSizes first ws resizes resized → CountsSizes first ws (resizes + 1) (resized ++ capacity ∷ [])
sizes_more first ws resizes capacity resized stored t = record {
  count = let c = t.count in let a = length-append resized (capacity ∷ []) in omega (arith, c, a);
  given = λ n le. ⊎_elim
      (λ (e : (eqb n (resizes + 1) ≡ true) × (n ≡ resizes + 1)).
      let c = t.count in
      let is = e.1 in
      let last : n ≡ length (first ∷ resized) = omega (arith, is, c) in
      ap (slice_get (first ∷ (resized ++ capacity ∷ []))) last
      ∙ get_last (first ∷ resized) capacity
      ∙ ap (λ (m : ℕ). Some m) (sym (ap (capacity_at ws) is ∙ stored)))
      (λ (e : (eqb n (resizes + 1) ≡ false) × (n ≢ resizes + 1)).
      let ne = e.1 in
      get_front (first ∷ resized) (capacity ∷ []) n (capacity_at ws n) (t.given n (omega (arith, le, ne))))
      (eqb_tells n (resizes + 1));
}
