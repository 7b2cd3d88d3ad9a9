-- The consumer's load of the front place's number, which takes the slot where the frame is there.
use Rattle.std.proofs.Common.{◌≡◌, ◌≢◌, ◌⊎◌, ℕ, ◌+◌, ◌%◌, ◌≤◌, ◌<◌, eqb, [], ◌∷◌, set, Some, None, Bool, true, false, refl, sym, ap, ◌∙◌, subst, ⊎_elim, inr, le_refl, arith, append-nil, le_antisymm, ltb, ltb-true, ltb-false, length-set, le_of_eq}
use Rattle.std.specs.Prelude.{slice_index, slice_set, MatchBool}
use Rattle.std.proofs.lemmas.List.{set-get_or}
use Rattle.std.proofs.lemmas.Bool.Decides.{eqb_tells}
use mathlib.Core.Option.{none, some, some-injective}
use lib.ListN.{get_elem?}
use native.Mathlib.Nat.{add-mod_right}
use native.Mathlib.Decide.{dec_lt}
use Rattle.atomic_table.specs.Table.{step, Allows, keeps, takes}
use Rattle.atomic_table.proofs.Lists.{set_else}
use Rattle.tap_frame.specs.Frame.{FrameValue}
use Rattle.tap_ring.specs.declared.rule.View.{View}
use Rattle.tap_ring.specs.declared.rule.Plan.{Plan}
use Rattle.tap_ring.specs.Standing.{RingState, Placing, slots_of, slot_at, word_at, IsEntered, IsReady, IsClaimed, IsInHand, IsPlace, Knows, Ring, times}
use Rattle.tap_ring.specs.Steps.{Seated, LoadsFront, seen_front}
use Rattle.tap_ring.proofs.Kit.{some_not_none, some_is, set_there, goes_same, total_set, slots_apart}
use Rattle.tap_ring.proofs.Stays.{Apart, seats_set, place_stays, word_same, home_same}
use Rattle.tap_ring.proofs.Loads.{still_set, looked, kept_words}

module _ (plan : Plan) where
  -- ---- the load of the front place's number, where it is ready

  module _ (s : RingState) (r : Ring plan s) (by found : ℕ) (v : View) (x : Placing) (at : get_elem? s.views by ≡ some v) (takes_is : v.takes ≡ true)
      (empty : v.in_hand ≡ None) (low : r.h.lifted < r.h.now.claimed) (word : word_at s r.h.lifted ≡ r.h.lifted + 1) (entry : IsEntered plan.first r.h.log r.h.lifted x) where
    abbrev q : ℕ
    q = r.h.lifted

    abbrev i : ℕ
    i = slot_at s q

    abbrev w : View
    w = record (seen_front found v) { in_hand = Some x.claim.frame }

    abbrev s' : RingState
    s' = record { words = s.words; homes = set s.homes i none; views = set s.views by w }

    knows : Knows plan s r.h by v
    knows = r.seats by v at

    own : by ≡ r.h.consumer
    own = (knows.front takes_is).own

    slots : slots_of s' ≡ slots_of s
    slots = length-set s.homes i none

    place_word : (p : ℕ) → word_at s' p ≡ word_at s p
    place_word p = word_same s s' p slots refl

    in_window : q < r.h.now.freed + slots_of s
    in_window = let a = r.ahead in omega (arith, a, low)

    front_place : IsPlace plan.first s' r.h q
    front_place = record {
      word = subst (λ m. m ≤ q + 1) (sym (place_word q)) (le_of_eq word);
      lifted = λ t. absurd (omega (arith, t));
      spare = λ t. absurd (omega (arith, t, low));
      unput = λ t. absurd (omega (arith, t, low));
      waits = λ _ _. inr (inr (refl, (w, x.claim.frame, ap (get_elem? s'.views) (sym own) ∙ set_there s.views by v w at, refl)));
    }

    other_place : (p : ℕ) → p ≢ q → r.h.now.freed ≤ p → p < r.h.now.freed + slots_of s → IsPlace plan.first s' r.h p
    other_place p ne a b = place_stays plan.first s s' r.h r.h p [] (sym (append-nil r.h.log)) (place_word p)
        (home_same s s' p slots (set_else s.homes i (slot_at s p) none (slots_apart (slots_of s) r.h.now.freed p q a b r.below in_window ne)))
        (λ t. t) (λ t. t) (λ t. t) (λ t. t)
        (still_set plan s by v w p at refl s' refl)
        (λ t. absurd (ne t.0))
        (r.places p a b)

    others : Apart plan.first s s' r.h r.h by
    others = record {
      goes = goes_same s.words r.h.now;
      more = [];
      log = sym (append-nil r.h.log);
      slots = slots;
      consumer = λ _. refl;
      keeper = refl;
      front = λ _. (refl, refl, (λ e. place_word q ∙ e));
      gate = λ _. (refl, refl, refl, (λ _. refl), (λ _. refl));
      turns = λ _. (refl, refl, refl);
      given = λ _ _ e. e;
      putting = λ j c ne e le m. (le, subst (λ z. z ≤ c.place) (sym (place_word c.place)) m);
    }

    taker : Knows plan s' r.h by w
    taker = record {
      claims = record {
        mine = knows.claims.mine;
        idle = knows.claims.idle;
        putting = λ c is. let t = knows.claims.putting c is in (t.0, t.1, subst (λ z. z ≤ c.place) (sym (place_word c.place)) t.2);
      };
      front = λ t.
          let f = knows.front t in
          record {
            own = f.own;
            next = f.next;
            freed = f.freed;
            count = f.count;
            frames = f.frames;
            hand = λ y is. (place_word q ∙ word, (x, entry, some_is x.claim.frame y is));
          };
      keeps = λ t.
          let g = knows.keeps t in
          record {
            own = g.own;
            shut = g.shut;
            epoch = g.epoch;
            resizes = g.resizes;
            claimed = g.claimed;
            stored = λ y is. let z = g.stored y is in (z.0, z.1, subst (λ m. y ≤ m) (sym slots) z.2);
          };
      turns = knows.turns;
      sizes = knows.sizes;
      gate = knows.gate;
      asked = knows.asked;
      room = knows.room;
      met = knows.met;
    }

    pub taken_ring : Ring plan s'
    taken_ring = record {
      h = r.h;
      some_slot = subst (λ m. 0 < m) (sym slots) r.some_slot;
      wide = r.wide ∙ ap (λ m. 130 + m) (sym slots);
      gate = r.gate;
      freed = r.freed;
      capacity = r.capacity;
      fits = r.fits;
      small = subst (λ m. r.h.now.capacity ≤ m) (sym slots) r.small;
      start = r.start;
      below = r.below;
      behind = r.behind;
      ahead = subst (λ m. r.h.now.claimed ≤ r.h.now.freed + m) (sym slots) r.ahead;
      long = r.long;
      room = r.room;
      turns = r.turns;
      sizes = r.sizes;
      places = λ p a b. ⊎_elim
          (λ (t : (eqb p q ≡ true) × (p ≡ q)). subst (λ m. IsPlace plan.first s' r.h m) (sym t.1) front_place)
          (λ (t : (eqb p q ≡ false) × (p ≢ q)). other_place p t.1 a (subst (λ m. p < r.h.now.freed + m) slots b))
          (eqb_tells p q);
      seats = seats_set plan s s' r r.h by w refl others taker;
      parts = let t = total_set (λ y. y.parts) s.views by v w at in let o = r.parts in omega (arith, t, o);
      once = λ p. let t = total_set (λ y. times p y.mine) s.views by v w at in let o = r.once p in omega (arith, t, o);
    }

  -- the front place's word is its number only where a frame was put there and not lifted
  ready_below : (s : RingState) (r : Ring plan s) → word_at s r.h.lifted ≡ r.h.lifted + 1 → r.h.lifted < r.h.now.claimed
  ready_below s r word = go (ltb r.h.lifted r.h.now.claimed) refl
    where
      far : r.h.now.claimed ≤ r.h.lifted → Dec (r.h.lifted < r.h.now.freed + slots_of s) → ⊥
      far le (yes d) = let u = (r.places r.h.lifted r.below d).unput le in omega (arith, u, word)
      far le (no d) =
          let a = r.ahead in
          let b = r.behind in
          let pos = r.some_slot in
          let is : r.h.lifted ≡ r.h.now.freed + slots_of s = le_antisymm (omega (arith, a, b)) (le_of_not_lt r.h.lifted (r.h.now.freed + slots_of s) d) in
          let u = (r.places r.h.now.freed (le_refl r.h.now.freed) (omega (arith, pos))).word in
          let same : word_at s r.h.lifted ≡ word_at s r.h.now.freed = ap (λ m. slice_index s.words (130 + m)) (ap (λ m. m % slots_of s) is ∙ add-mod_right r.h.now.freed (slots_of s)) in
          omega (arith, u, word, same, is, pos)
        where
          le_of_not_lt : (m n : ℕ) → ¬ (m < n) → n ≤ m
          le_of_not_lt m n no_lt = omega (arith, no_lt)

      go : (b : Bool) → ltb r.h.lifted r.h.now.claimed ≡ b → r.h.lifted < r.h.now.claimed
      go true t = ltb-true r.h.lifted r.h.now.claimed t
      go false t = absurd (far (ltb-false r.h.lifted r.h.now.claimed t) (dec_lt r.h.lifted (r.h.now.freed + slots_of s)))

  -- where the word says so, the frame lies in the slot
  front_ready : (s : RingState) (r : Ring plan s) (by : ℕ) (v : View) → get_elem? s.views by ≡ some v → v.takes ≡ true → v.in_hand ≡ None → word_at s r.h.lifted ≡ r.h.lifted + 1 → IsReady plan.first s r.h r.h.lifted
  front_ready s r by v at takes_is empty word =
      let low = ready_below s r word in
      let a = r.ahead in
      ⊎_elim
      (λ (t : IsReady plan.first s r.h r.h.lifted). t)
      (λ (t : IsClaimed plan.first s r.h r.h.lifted ⊎ IsInHand plan.first s r.h r.h.lifted). ⊎_elim
      (λ (u : IsClaimed plan.first s r.h r.h.lifted). let m = u.0 in absurd (omega (arith, m, word)))
      (λ (u : IsInHand plan.first s r.h r.h.lifted).
      let own = ((r.seats by v at).front takes_is).own in
      let same : v ≡ u.1.0 = some-injective v u.1.0 (sym at ∙ ap (get_elem? s.views) own ∙ u.1.2) in
      absurd (some_not_none u.1.1 (sym u.1.3 ∙ sym (ap (λ (y : View). y.in_hand) same) ∙ empty)))
      t)
      ((r.places r.h.lifted r.below (omega (arith, a, low))).waits (le_refl r.h.lifted) low)

  -- what the load tells where the place is ready, and where it isn't
  abbrev Ready : Seated → ℕ → ℕ → Seated → Type 0
  Ready v n found w = (frame : FrameValue) × (w.0 ≡ record (seen_front found v.0) { in_hand = Some frame }) × (w.1 ≡ (v.0.next % n, Some frame) ∷ v.1)

  abbrev Unready : Seated → ℕ → Seated → Type 0
  Unready v found w = (w.0 ≡ seen_front found v.0) × (w.1 ≡ v.1)

  -- The front place's number is loaded: where it is there, the slot with the frame is the consumer's.
  pub loads_front : (n by i : ℕ) (v : Seated) → v.0.takes ≡ true → v.0.in_hand ≡ None → i ≡ 130 + v.0.next % n
      → Allows (Ring plan) n by v i (λ m. m) (LoadsFront (step n i 0 0 none) v)
  loads_front n by i v takes_is empty i_is s r len at fits =
      let k = r.seats by v.0 at in
      let f = k.front takes_is in
      let found = slice_index s.words i in
      let spot : slot_at s r.h.lifted ≡ v.0.next % n = ap (λ m. m % slots_of s) (sym f.next) ∙ ap (λ m. v.0.next % m) len in
      let is : found ≡ word_at s r.h.lifted = ap (slice_index s.words) (i_is ∙ ap (λ m. 130 + m) (sym spot)) in
      let next = f.next in
      ⊎_elim
      (λ (t : (eqb found (v.0.next + 1) ≡ true) × (found ≡ v.0.next + 1)).
      let there = t.1 in
      let word : word_at s r.h.lifted ≡ r.h.lifted + 1 = omega (arith, is, there, next) in
      let ready = front_ready s r by v.0 at takes_is empty word in
      let x = ready.1.0 in
      let w : View = record (seen_front found v.0) { in_hand = Some x.claim.frame } in (
        w,
        takes (slot_at s r.h.lifted) (Some x.claim.frame),
        ready.1.2,
        subst (λ ws. Ring plan (record { words = ws; homes = slice_set s.homes (slot_at s r.h.lifted) none; views = slice_set s.views by w })) (sym (set-get_or s.words i 0))
            (taken_ring s r by found v.0 x at takes_is empty (ready_below s r word) word ready.1.1),
        (
          i_is,
          subst (λ (b : Bool). MatchBool b (Ready v n found (w, (slot_at s r.h.lifted, Some x.claim.frame) ∷ v.1)) (Unready v found (w, (slot_at s r.h.lifted, Some x.claim.frame) ∷ v.1))) (sym t.0)
              (x.claim.frame, refl, ap (λ m. (m, Some x.claim.frame) ∷ v.1) spot),
        ),
      ))
      (λ (t : (eqb found (v.0.next + 1) ≡ false) × (found ≢ v.0.next + 1)).
      let w = seen_front found v.0 in (
        w,
        keeps,
        tt,
        kept_words plan s i (set s.views by w) (looked plan s r by v.0 w at refl refl refl refl (record {
          claims = record { mine = k.claims.mine; idle = k.claims.idle; putting = k.claims.putting };
          front = λ e. let y = k.front e in record { own = y.own; next = y.next; freed = y.freed; count = y.count; frames = y.frames; hand = y.hand };
          keeps = λ e. let g = k.keeps e in record { own = g.own; shut = g.shut; epoch = g.epoch; resizes = g.resizes; claimed = g.claimed; stored = g.stored };
          turns = k.turns;
          sizes = k.sizes;
          gate = k.gate;
          asked = k.asked;
          room = k.room;
          met = k.met;
        })),
        (i_is, subst (λ (b : Bool). MatchBool b (Ready v n found (w, v.1)) (Unready v found (w, v.1))) (sym t.0) (refl, refl)),
      ))
      (eqb_tells found (v.0.next + 1))
