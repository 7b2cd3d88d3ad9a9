-- Lists read by number, gate words, and sums over views.
use Rattle.std.proofs.Common.{◌≡◌, ◌≢◌, ◌⊎◌, ℕ, zero, suc, ◌+◌, ◌%◌, ◌/◌, ◌^◌, ◌≤◌, ◌<◌, ◌==◌, eqb, ltb, List, [], ◌∷◌, ◌++◌, take, length, set, Some, None, Bool, true, false, true≢false, refl, sym, ap, ◌∙◌, ⊎_elim, inl, inr, le_trans, le_refl, arith}
use Rattle.std.proofs.lemmas.Bool.Decides.{eqb_tells}
use Rattle.std.proofs.lemmas.Bool.{ltb-true, ltb-false, lt-ltb, le-ltb}
use mathlib.Core.Option.{some, some-ne-none, some-injective}
use lib.ListN.{get_elem?}
use Rattle.atomic_table.proofs.Lists.{at_longer, one_turn}
use Rattle.tap_ring.specs.declared.rule.Moment.{Moment}
use Rattle.tap_ring.specs.declared.rule.Claim.{Claim}
use Rattle.tap_ring.specs.declared.rule.View.{View}
use Rattle.tap_ring.specs.GateWord.{gate_word, GateLaws}
use Rattle.tap_ring.specs.Moments.{Fits, IsLater, IsPast, EachPast, gate_of, capacity_at}
use Rattle.tap_ring.specs.Standing.{Placing, EachClaim, IsEntered, times, total, within}

pub off : false ≡ true → ⊥
off e = true≢false (sym e)

pub on : true ≡ false → ⊥
on e = true≢false e

pub some_not_none : {A : Type 0} (a : A) → Some a ≡ None → ⊥
some_not_none a e = absurd (cc (e))

pub some_is : {A : Type 0} (a b : A) → Some a ≡ Some b → a ≡ b
some_is a b e = cc (e)

-- ---- lists

module _ {A : Type 0} where
  pub before_end : (l : List A) (j : ℕ) (b : A) → get_elem? l j ≡ some b → j < length l
  before_end [] j b e = absurd (some-ne-none b (sym e))
  before_end (x ∷ xs) zero b e = omega arith
  before_end (x ∷ xs) (suc j) b e = let r = before_end xs j b e in omega (arith, r)

  pub set_there : (l : List A) (i : ℕ) (a b : A) → get_elem? l i ≡ some a → get_elem? (set l i b) i ≡ some b
  set_there [] i a b e = absurd (some-ne-none a (sym e))
  set_there (x ∷ xs) zero a b e = refl
  set_there (x ∷ xs) (suc i) a b e = set_there xs i a b e

  pub at_snoc_where : (l : List A) (a b : A) (j : ℕ) → get_elem? (l ++ a ∷ []) j ≡ some b → ((get_elem? l j ≡ some b) × (j ≢ length l)) ⊎ ((j ≡ length l) × (a ≡ b))
  at_snoc_where [] a b zero e = inr (refl, some-injective a b e)
  at_snoc_where [] a b (suc j) e = absurd (some-ne-none b (sym e))
  at_snoc_where (x ∷ xs) a b zero e = inl (e, (λ n. omega (arith, n)))
  at_snoc_where (x ∷ xs) a b (suc j) e = ⊎_elim
      (λ (t : (get_elem? xs j ≡ some b) × (j ≢ length xs)). inl (t.0, (λ n. t.1 (omega (arith, n)))))
      (λ (t : (j ≡ length xs) × (a ≡ b)). inr (omega (arith, t.0), t.1))
      (at_snoc_where xs a b j e)

  pub take_more : (n : ℕ) (xs ys : List A) → n ≤ length xs → take n (xs ++ ys) ≡ take n xs
  take_more zero xs ys le = refl
  take_more (suc n) [] ys le = absurd (omega (arith, le))
  take_more (suc n) (x ∷ xs) ys le = ap (λ l. x ∷ l) (take_more n xs ys (omega (arith, le)))

  pub take_next : (n : ℕ) (xs : List A) (a : A) → get_elem? xs n ≡ some a → take (suc n) xs ≡ take n xs ++ a ∷ []
  take_next n [] a e = absurd (some-ne-none a (sym e))
  take_next zero (x ∷ xs) a e = ap (λ y. y ∷ []) (some-injective x a e)
  take_next (suc n) (x ∷ xs) a e = ap (λ l. x ∷ l) (take_next n xs a e)

-- ---- the gate word

-- two words of parts within their bits are equal only where the parts are
pub parts_equal : (m n : Moment) → Fits m → Fits n → gate_of m ≡ gate_of n → (m.claimed ≡ n.claimed) × (m.shut ≡ n.shut) × (m.epoch ≡ n.epoch) × (m.resizes ≡ n.resizes)
parts_equal m n f g e = go m.shut n.shut e
  where
    go : (a b : Bool) → gate_word m.claimed a m.epoch m.resizes ≡ gate_word n.claimed b n.epoch n.resizes → (m.claimed ≡ n.claimed) × (a ≡ b) × (m.epoch ≡ n.epoch) × (m.resizes ≡ n.resizes)
    go true true w = let fc = f.claimed in let gc = g.claimed in let fe = f.epoch in let ge = g.epoch in (omega (arith, w, fc, gc), refl, omega (arith, w, fc, gc, fe, ge), omega (arith, w, fc, gc, fe, ge))
    go false false w = let fc = f.claimed in let gc = g.claimed in let fe = f.epoch in let ge = g.epoch in (omega (arith, w, fc, gc), refl, omega (arith, w, fc, gc, fe, ge), omega (arith, w, fc, gc, fe, ge))
    go true false w = let fc = f.claimed in let gc = g.claimed in absurd (omega (arith, w, fc, gc))
    go false true w = let fc = f.claimed in let gc = g.claimed in absurd (omega (arith, w, fc, gc))

-- ---- moments

pub past_later : (ws : List ℕ) (now m : Moment) → IsPast ws now m → capacity_at ws now.resizes ≡ now.capacity → IsLater m now
past_later ws now m p cap = record {
  claimed = p.claimed;
  freed = p.freed;
  epoch = p.epoch;
  resizes = p.resizes;
  capacity = λ e. sym p.capacity ∙ ap (capacity_at ws) e ∙ cap;
}

-- the ring goes on, and its words keep the capacities so far
pub record GoesOn (ws ws' : List ℕ) (now now' : Moment) : Type 0 where
  pub claimed : now.claimed ≤ now'.claimed
  pub freed : now.freed ≤ now'.freed
  pub epoch : now.epoch ≤ now'.epoch
  pub resizes : now.resizes ≤ now'.resizes
  pub caps : (k : ℕ) → k ≤ now.resizes → capacity_at ws' k ≡ capacity_at ws k
  pub shut : now.epoch ≡ now'.epoch → now.shut ≡ true → now'.shut ≡ true

pub goes_same : (ws : List ℕ) (now : Moment) → GoesOn ws ws now now
goes_same ws now = record {
  claimed = le_refl now.claimed;
  freed = le_refl now.freed;
  epoch = le_refl now.epoch;
  resizes = le_refl now.resizes;
  caps = λ k le. refl;
  shut = λ _ e. e;
}

pub past_stays : (ws ws' : List ℕ) (now now' m : Moment) → GoesOn ws ws' now now' → IsPast ws now m → IsPast ws' now' m
past_stays ws ws' now now' m g p = record {
  fits = p.fits;
  claimed = le_trans p.claimed g.claimed;
  freed = le_trans p.freed g.freed;
  epoch = le_trans p.epoch g.epoch;
  resizes = le_trans p.resizes g.resizes;
  capacity = g.caps m.resizes p.resizes ∙ p.capacity;
  shut = λ same e.
      let a = p.epoch in
      let b = g.epoch in
      g.shut (omega (arith, a, b, same)) (p.shut (omega (arith, a, b, same)) e);
}

pub mets_stay : (ws ws' : List ℕ) (now now' : Moment) (ms : List Moment) → GoesOn ws ws' now now' → EachPast ws now ms → EachPast ws' now' ms
mets_stay ws ws' now now' [] g e = tt
mets_stay ws ws' now now' (m ∷ ms) g e = (past_stays ws ws' now now' m g e.0, mets_stay ws ws' now now' ms g e.1)

pub mets_both : (ws : List ℕ) (now : Moment) (xs ys : List Moment) → EachPast ws now xs → EachPast ws now ys → EachPast ws now (xs ++ ys)
mets_both ws now [] ys a b = b
mets_both ws now (x ∷ xs) ys a b = (a.0, mets_both ws now xs ys a.1 b)

pub mets_parts : (ws : List ℕ) (now : Moment) (xs ys : List Moment) → EachPast ws now (xs ++ ys) → EachPast ws now xs × EachPast ws now ys
mets_parts ws now [] ys e = (tt, e)
mets_parts ws now (x ∷ xs) ys e = let r = mets_parts ws now xs ys e.1 in ((e.0, r.0), r.1)

-- ---- the log

pub entered_longer : (first : ℕ) (log more : List Placing) (p : ℕ) (x : Placing) → IsEntered first log p x → IsEntered first (log ++ more) p x
entered_longer first log more p x e = (e.0, e.1, e.2, at_longer log more e.0 x e.3)

pub entered_once : (first : ℕ) (log : List Placing) (p : ℕ) (x y : Placing) → IsEntered first log p x → IsEntered first log p y → x ≡ y
entered_once first log p x y a b =
    let is = a.1 in
    let same = b.1 in
    let k : a.0 ≡ b.0 = omega (arith, is, same) in
    some-injective x y (sym a.3 ∙ ap (get_elem? log) k ∙ b.3)

pub entered_below : (first : ℕ) (log : List Placing) (p : ℕ) (x : Placing) → IsEntered first log p x → p < first + length log
entered_below first log p x e = let b = before_end log e.0 x e.3 in let is = e.1 in omega (arith, b, is)

pub each_append : (P : Claim → Type 0) (xs ys : List Claim) → EachClaim P xs → EachClaim P ys → EachClaim P (xs ++ ys)
each_append P [] ys a b = b
each_append P (x ∷ xs) ys a b = (a.0, each_append P xs ys a.1 b)

pub each_map : (P Q : Claim → Type 0) (xs : List Claim) → ((c : Claim) → P c → Q c) → EachClaim P xs → EachClaim Q xs
each_map P Q [] f a = tt
each_map P Q (x ∷ xs) f a = (f x a.0, each_map P Q xs f a.1)

-- ---- sums over views

pub total_set : (f : View → ℕ) (views : List View) (by : ℕ) (v w : View) → get_elem? views by ≡ some v → total f (set views by w) + f v ≡ total f views + f w
total_set f [] by v w at = absurd (some-ne-none v (sym at))
total_set f (x ∷ xs) zero v w at = let same = ap f (some-injective x v at) in omega (arith, same)
total_set f (x ∷ xs) (suc by) v w at = let r = total_set f xs by v w at in omega (arith, r)

pub total_snoc : (f : View → ℕ) (views : List View) (w : View) → total f (views ++ w ∷ []) ≡ total f views + f w
total_snoc f [] w = omega arith
total_snoc f (x ∷ xs) w = let r = total_snoc f xs w in omega (arith, r)

pub times-append : (p : ℕ) (xs ys : List Claim) → times p (xs ++ ys) ≡ times p xs + times p ys
times-append p [] ys = omega arith
times-append p (x ∷ xs) ys = let r = times-append p xs ys in omega (arith, r)

-- one more place is given out
pub within_more : (first end p : ℕ) (c : Claim) → c.place ≡ end → first ≤ end → within first (end + 1) p ≡ within first end p + times p (c ∷ [])
within_more first end p c at le = go (ltb p first) refl (ltb p end) refl (eqb_tells c.place p)
  where
    go : (b : Bool) → ltb p first ≡ b → (d : Bool) → ltb p end ≡ d → ((eqb c.place p ≡ true) × (c.place ≡ p)) ⊎ ((eqb c.place p ≡ false) × (c.place ≢ p)) → within first (end + 1) p ≡ within first end p + times p (c ∷ [])
    go true t d u (inl e) = let lt = ltb-true p first t in let is = e.1 in absurd (omega (arith, lt, is, le, at))
    go true t d u (inr e) = rw (t, e.0) refl
    go false t true u (inl e) = let lt = ltb-true p end u in let is = e.1 in absurd (omega (arith, lt, is, at))
    go false t true u (inr e) = let lt = ltb-true p end u in let m = lt-ltb p (end + 1) (omega (arith, lt)) in rw (t, u, m, e.0) refl
    go false t false u (inl e) = let is = e.1 in let m = lt-ltb p (end + 1) (omega (arith, is, at)) in rw (t, u, m, e.0) refl
    go false t false u (inr e) = let ge = ltb-false p end u in let ne = e.1 in let m = le-ltb p (end + 1) (omega (arith, ge, ne, at)) in rw (t, u, m, e.0) refl

-- ---- slots

-- two places less than a round apart have two slots
pub slots_apart : (n low p q : ℕ) → low ≤ p → p < low + n → low ≤ q → q < low + n → p ≢ q → (p % n) ≢ (q % n)
slots_apart n low p q a b c d ne e = go (ltb p q) refl
  where
    go : (b : Bool) → ltb p q ≡ b → ⊥
    go true t = let lt = ltb-true p q t in ne (one_turn p q n (omega (arith, lt)) (omega (arith, a, d)) e)
    go false t = let ge = ltb-false p q t in ne (sym (one_turn q p n (omega (arith, ge)) (omega (arith, b, c)) (sym e)))

pub gate_parts : GateLaws
gate_parts claimed true epoch resizes a b c = (omega (arith, a), one (gate_word claimed true epoch resizes / 2 ^ 40 % 2) (omega (arith, a)), omega (arith, a, b), omega (arith, a, b, c))
  where
    one : (n : ℕ) → n ≡ 1 → (n == 1) ≡ true
    one n e = ap (λ m. m == 1) e
gate_parts claimed false epoch resizes a b c = (omega (arith, a), zero_is (gate_word claimed false epoch resizes / 2 ^ 40 % 2) (omega (arith, a)), omega (arith, a, b), omega (arith, a, b, c))
  where
    zero_is : (n : ℕ) → n ≡ 0 → (n == 1) ≡ false
    zero_is n e = ap (λ m. m == 1) e
