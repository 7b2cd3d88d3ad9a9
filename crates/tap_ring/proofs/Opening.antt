-- How a ring begins.
use Rattle.std.proofs.Common.{◌≡◌, ℕ, zero, suc, ◌+◌, ◌^◌, ◌%◌, ◌≤◌, ◌<◌, List, [], ◌∷◌, replicate, map, length, set, Some, None, Option, Bool, true, false, refl, sym, ap, ◌∙◌, subst, inl, le_refl, arith, ltb, length-set, mod-lt, get_or-set_same, get_or-set_other}
use Rattle.std.specs.Prelude.{slice_index}
use Rattle.std.proofs.lemmas.List.{length-map, length-replicate}
use mathlib.Core.Option.{some, some-injective, some-ne-none}
use lib.ListN.{get_elem?}
use Rattle.atomic_table.specs.Table.{opening}
use Rattle.tap_frame.specs.Frame.{FrameValue}
use Rattle.tap_ring.specs.declared.rule.View.{View}
use Rattle.tap_ring.specs.declared.rule.Plan.{Plan}
use Rattle.tap_ring.specs.Moments.{IsPast, capacity_at}
use Rattle.tap_ring.specs.Turns.{IsGiven}
use Rattle.tap_ring.specs.Standing.{RingState, Standing, slots_of, slot_at, word_at, home_at, Knows, Ring, within, maker, opening_moment, first_words}
use Rattle.tap_ring.proofs.Kit.{some_not_none}
use Rattle.tap_ring.proofs.Splits.{no_claims}

module _ (plan : Plan) where
  abbrev no_frame : Option FrameValue
  no_frame = None

  pub home_none : (n k : ℕ) → k < n → get_elem? (map some (replicate n no_frame)) k ≡ some (some no_frame)
  home_none zero k lt = absurd (omega (arith, lt))
  home_none (suc n) zero lt = refl
  home_none (suc n) (suc k) lt = home_none n k (omega (arith, lt))

  within_none : (first p : ℕ) → 0 ≡ within first first p
  within_none first p = go (ltb p first) refl
    where
      go : (b : Bool) → ltb p first ≡ b → 0 ≡ within first first p
      go true t = rw t refl
      go false t = rw t refl

  module _ (words : List ℕ) (n : ℕ) (some_slot : 0 < n) (wide : length words ≡ 130 + n) (low : plan.first < 2 ^ 40) (small : plan.capacity ≤ n)
      (gate : slice_index words 0 ≡ plan.first + 2 ^ 40) (freed : slice_index words 1 ≡ plan.first) (capacity : slice_index words 2 ≡ plan.capacity)
      (zeros : (k : ℕ) → 2 < k → slice_index words k ≡ 0) where
    abbrev os : RingState
    os = opening words (replicate n None) (maker plan)

    abbrev oh : Standing
    oh = record { now = opening_moment plan.first plan.capacity; lifted = plan.first; log = []; opened = []; resized = []; resized_from = plan.first; consumer = 0; keeper = 0 }

    onow : IsPast words oh.now oh.now
    onow = record {
      fits = record { claimed = low; epoch = omega arith; resizes = omega arith };
      claimed = le_refl plan.first;
      freed = le_refl plan.first;
      epoch = omega arith;
      resizes = omega arith;
      capacity = capacity;
      shut = λ _ e. e;
    }

    oslots : slots_of os ≡ n
    oslots = length-map (replicate n None) some ∙ length-replicate n None

    oword : (p : ℕ) → word_at os p ≡ 0
    oword p = zeros (130 + slot_at os p) (omega arith)

    ohome : (p : ℕ) → home_at os p ≡ some (some None)
    ohome p = ap (λ m. get_elem? os.homes (p % m)) oslots ∙ home_none n (p % n) (mod-lt p some_slot)

    maker_knows : Knows plan os oh 0 (maker plan)
    maker_knows = record {
      claims = no_claims plan os oh 0 (maker plan) refl refl;
      front = λ _. record { own = refl; next = refl; freed = refl; count = omega arith; frames = refl; hand = λ y is. absurd (some_not_none y (sym is)) };
      keeps = λ _. record { own = refl; shut = refl; epoch = refl; resizes = refl; claimed = λ _. refl; stored = λ y is. absurd (some_not_none y (sym is)) };
      turns = λ _. (refl, refl, refl);
      sizes = tt;
      gate = λ _. onow;
      asked = λ _. onow;
      room = λ _. onow;
      met = tt;
    }

    first_given : (k : ℕ) → k ≤ 0 → IsGiven plan.capacity [] k (capacity_at words k)
    first_given zero le = ap (λ (c : ℕ). Some c) (sym capacity)
    first_given (suc k) le = absurd (omega (arith, le))

    only : (j : ℕ) (v : View) → get_elem? (maker plan ∷ []) j ≡ some v → (j ≡ 0) × (maker plan ≡ v)
    only zero v e = (refl, some-injective (maker plan) v e)
    only (suc j) v e = absurd (some-ne-none v (sym e))

    pub opens : Ring plan os
    opens = record {
      h = oh;
      some_slot = subst (λ m. 0 < m) (sym oslots) some_slot;
      wide = wide ∙ ap (λ m. 130 + m) (sym oslots);
      gate = gate ∙ (omega arith);
      freed = freed;
      capacity = capacity;
      fits = onow.fits;
      small = subst (λ m. plan.capacity ≤ m) (sym oslots) small;
      start = le_refl plan.first;
      below = le_refl plan.first;
      behind = le_refl plan.first;
      ahead = omega arith;
      long = omega arith;
      room = inl (omega arith);
      turns = record { count = refl; ahead = λ p le. refl; claims = λ p x e. absurd (some-ne-none x (sym e.3)) };
      sizes = record { count = refl; given = first_given };
      places = λ p a b. record {
        word = let z = oword p in omega (arith, z);
        lifted = λ _. ohome p;
        spare = λ _. ohome p;
        unput = λ _. let z = oword p in omega (arith, z);
        waits = λ t w. absurd (omega (arith, t, w));
      };
      seats = λ j v e. let t = only j v e in subst (λ (z : ℕ × View). Knows plan os oh z.0 z.1) (λ i. (sym t.0 i, t.1 i)) maker_knows;
      parts = omega arith;
      once = λ p. let z = within_none plan.first p in omega (arith, z);
    }

  zeros : (n k : ℕ) → slice_index (replicate n 0) k ≡ 0
  zeros zero k = refl
  zeros (suc n) zero = refl
  zeros (suc n) (suc k) = zeros n k

  abbrev blank : ℕ → List ℕ
  blank most = replicate (130 + most) 0

  abbrev with_gate : ℕ → List ℕ
  with_gate most = set (blank most) 0 (plan.first + 2 ^ 40)

  abbrev with_freed : ℕ → List ℕ
  with_freed most = set (with_gate most) 1 plan.first

  -- the ring begins by its rule
  pub opens_words : (most : ℕ) (words : List ℕ) → words ≡ first_words most plan.first plan.capacity → 1 ≤ plan.capacity → plan.capacity ≤ most → plan.first < 2 ^ 40
      → Ring plan (opening words (replicate most None) (maker plan))
  opens_words most words is some_capacity small low =
      let z = blank most in
      let a = with_gate most in
      let b = with_freed most in
      let l : length z ≡ 130 + most = length-replicate (130 + most) 0 in
      let la : length a ≡ length z = length-set z 0 (plan.first + 2 ^ 40) in
      let lb : length b ≡ length a = length-set a 1 plan.first in
      subst (λ ws. Ring plan (opening ws (replicate most None) (maker plan))) (sym is)
      (opens (first_words most plan.first plan.capacity) most (omega (arith, some_capacity, small))
      (length-set b 2 plan.capacity ∙ lb ∙ la ∙ l)
      low small
      (get_or-set_other b 2 0 plan.capacity 0 (λ e. omega (arith, e)) ∙ get_or-set_other a 1 0 plan.first 0 (λ e. omega (arith, e)) ∙ get_or-set_same z 0 (plan.first + 2 ^ 40) 0 (omega (arith, l)))
      (get_or-set_other b 2 1 plan.capacity 0 (λ e. omega (arith, e)) ∙ get_or-set_same a 1 plan.first 0 (omega (arith, l, la)))
      (get_or-set_same b 2 plan.capacity 0 (omega (arith, l, la, lb)))
      (λ k far. get_or-set_other b 2 k plan.capacity 0 (λ e. omega (arith, e, far)) ∙ get_or-set_other a 1 k plan.first 0 (λ e. omega (arith, e, far)) ∙ get_or-set_other z 0 k (plan.first + 2 ^ 40) 0 (λ e. omega (arith, e, far)) ∙ zeros (130 + most) k))
