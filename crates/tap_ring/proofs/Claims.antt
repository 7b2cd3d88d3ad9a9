-- A producer's two steps that change a word: the claim by exchange, and the put.
use Rattle.std.proofs.Common.{◌≡◌, ◌≢◌, ℕ, ◌+◌, ◌^◌, ◌%◌, ◌≤◌, ◌<◌, ◌==◌, eqb, List, [], ◌∷◌, ◌++◌, length, set, Some, None, Option, Bool, true, false, refl, sym, ap, ◌∙◌, subst, ⊎_elim, inl, inr, le_refl, arith, length-append, length-set, get_or-set_same, get_or-set_other}
use Rattle.std.specs.Prelude.{slice_index, slice_set, MatchBool}
use Rattle.std.proofs.lemmas.List.{set-get_or}
use Rattle.std.proofs.lemmas.Bool.Decides.{eqb_tells}
use mathlib.Core.Path.{Path}
use mathlib.Core.Option.{none, some, some-injective}
use mathlib.Core.Option as maybe
use lib.ListN.{get_elem?}
use prog.Atomic.{either}
use Rattle.atomic_table.specs.Table.{step, Allows, keeps, takes}
use Rattle.atomic_table.proofs.Lists.{set_else, at_last}
use Rattle.tap_frame.specs.Frame.{FrameValue}
use Rattle.tap_ring.specs.declared.rule.Moment.{Moment}
use Rattle.tap_ring.specs.declared.rule.Claim.{Claim}
use Rattle.tap_ring.specs.declared.rule.View.{View}
use Rattle.tap_ring.specs.declared.rule.Plan.{Plan}
use Rattle.tap_ring.specs.Moments.{HasRoom, gate_of, capacity_at}
use Rattle.tap_ring.specs.Standing.{RingState, Placing, Standing, slots_of, slot_at, word_at, IsEntered, IsPlace, Knows, Ring, times}
use Rattle.tap_ring.specs.Steps.{Seated, claim, with_claim, seen_gate, Exchanges}
use Rattle.tap_ring.proofs.Kit.{off, some_not_none, some_is, set_there, parts_equal, past_stays, mets_stay, entered_longer, each_append, each_map, total_set, times-append, within_more, slots_apart}
use Rattle.tap_ring.proofs.Counts.{turns_claim, sizes_same}
use Rattle.tap_ring.proofs.Stays.{Apart, seats_set, place_stays, word_same, home_same, frames_front}
use Rattle.tap_ring.proofs.Loads.{past_now, new_now, hand_set, looked, gate_knows}

module _ (plan : Plan) where
  -- the ring with one more place given out
  abbrev after_claim : Standing → ℕ → Claim → Standing
  after_claim h by c = record h { now = record h.now { claimed = h.now.claimed + 1 }; log = h.log ++ record { by = by; claim = c } ∷ [] }

  -- words from 2 on stay where the gate or the freed count changes
  pub caps_apart : (ws : List ℕ) (i n k : ℕ) → i < 2 → capacity_at (set ws i n) k ≡ capacity_at ws k
  caps_apart ws i n k lt = get_or-set_other ws i (2 + k) n 0 (λ e. omega (arith, e, lt))

  pub place_words_apart : (ws : List ℕ) (i n k : ℕ) → i < 130 → slice_index (set ws i n) (130 + k) ≡ slice_index ws (130 + k)
  place_words_apart ws i n k lt = get_or-set_other ws i (130 + k) n 0 (λ e. omega (arith, e, lt))

  module _ (s : RingState) (r : Ring plan s) (by : ℕ) (v : View) (c : Claim) (n : ℕ) (at : get_elem? s.views by ≡ some v) (live : v.spent ≡ false) (idle : v.putting ≡ None) (part : v.parts ≢ 0)
      (room : HasRoom r.h.now) (place : c.place ≡ r.h.now.claimed) (few : r.h.now.claimed + 1 < 2 ^ 40) (unshut : r.h.now.shut ≡ false) (epoch : c.epoch ≡ r.h.now.epoch)
      (word : n ≡ gate_of (record r.h.now { claimed = r.h.now.claimed + 1 })) where
    abbrev q : ℕ
    q = r.h.now.claimed

    abbrev i : ℕ
    i = slot_at s q

    abbrev w : View
    w = record (seen_gate r.h.now v) { mine = v.mine ++ c ∷ []; putting = Some c }

    abbrev s' : RingState
    s' = record { words = set s.words 0 n; homes = set s.homes i none; views = set s.views by w }

    abbrev h' : Standing
    h' = after_claim r.h by c

    in_window : q < r.h.now.freed + slots_of s
    in_window = let a = r.small in omega (arith, room, a)

    above : r.h.now.freed ≤ q
    above = let a = r.below in let b = r.behind in omega (arith, a, b)

    slots : slots_of s' ≡ slots_of s
    slots = length-set s.homes i none

    place_word : (p : ℕ) → word_at s' p ≡ word_at s p
    place_word p = word_same s s' p slots (place_words_apart s.words 0 n (slot_at s p) (omega arith))

    entered : IsEntered plan.first h'.log q (record { by = by; claim = c })
    entered = (length r.h.log, r.long, place, at_last r.h.log (record { by = by; claim = c }) (length r.h.log) refl)

    new_seat : get_elem? s'.views by ≡ some w
    new_seat = set_there s.views by v w at

    old_place : IsPlace plan.first s r.h q
    old_place = r.places q above in_window

    new_place : IsPlace plan.first s' h' q
    new_place = record {
      word = subst (λ m. m ≤ q + 1) (sym (place_word q)) old_place.word;
      lifted = λ t. let b = r.behind in absurd (omega (arith, t, b));
      spare = λ t. absurd (omega (arith, t));
      unput = λ t. absurd (omega (arith, t));
      waits = λ _ _. inr (inl (subst (λ m. m ≤ q) (sym (place_word q)) (old_place.unput (le_refl q)), (record { by = by; claim = c }, w, entered, new_seat, refl)));
    }

    other_place : (p : ℕ) → p ≢ q → r.h.now.freed ≤ p → p < r.h.now.freed + slots_of s → IsPlace plan.first s' h' p
    other_place p ne a b = place_stays plan.first s s' r.h h' p (record { by = by; claim = c } ∷ []) refl (place_word p)
        (home_same s s' p slots (set_else s.homes i (slot_at s p) none (slots_apart (slots_of s) r.h.now.freed p q a b above in_window ne)))
        (λ t. t) (λ t. t) (λ t. omega (arith, t)) (λ t. omega (arith, t, ne))
        (λ j u d there putting at_p. ⊎_elim
        (λ (t : (eqb j by ≡ true) × (j ≡ by)). absurd (some_not_none d (sym putting ∙ ap (λ (x : View). x.putting) (some-injective u v (sym there ∙ ap (get_elem? s.views) t.1 ∙ at)) ∙ idle)))
        (λ (t : (eqb j by ≡ false) × (j ≢ by)). (u, set_else s.views by j w t.1 ∙ there, putting))
        (eqb_tells j by))
        (hand_set plan s r.h by v w p at refl s' h' refl refl refl)
        (r.places p a b)

    others : Apart plan.first s s' r.h h' by
    others = record {
      goes = record {
        claimed = omega arith;
        freed = le_refl r.h.now.freed;
        epoch = le_refl r.h.now.epoch;
        resizes = le_refl r.h.now.resizes;
        caps = λ k _. caps_apart s.words 0 n k (omega arith);
        shut = λ _ e. e;
      };
      more = record { by = by; claim = c } ∷ [];
      log = refl;
      slots = slots;
      consumer = λ _. refl;
      keeper = refl;
      front = λ _. (refl, refl, (λ e. place_word r.h.lifted ∙ e));
      gate = λ _. (refl, refl, refl, (λ e. absurd (off (sym unshut ∙ e))), (λ _. caps_apart s.words 0 n (r.h.now.resizes + 1) (omega arith)));
      turns = λ _. (refl, refl, refl);
      given = λ _ _ e. e;
      putting = λ j d ne e low word. (low, subst (λ m. m ≤ d.place) (sym (place_word d.place)) word);
    }

    claimer : Knows plan s' h' by w
    claimer =
        let k = r.seats by v at in
        record {
          claims = record {
            mine = each_append (λ d. (x : Placing) × IsEntered plan.first h'.log d.place x × (x.claim ≡ d)) v.mine (c ∷ [])
                (each_map (λ d. (x : Placing) × IsEntered plan.first r.h.log d.place x × (x.claim ≡ d)) (λ d. (x : Placing) × IsEntered plan.first h'.log d.place x × (x.claim ≡ d)) v.mine
                (λ d t. (t.0, entered_longer plan.first r.h.log (record { by = by; claim = c } ∷ []) d.place t.0 t.1, t.2)) k.claims.mine)
                ((record { by = by; claim = c }, subst (λ m. IsEntered plan.first h'.log m (record { by = by; claim = c })) (sym place) entered, refl), tt);
            idle = λ none_left. absurd (part none_left);
            putting = λ d is.
                let same : c ≡ d = some_is c d is in
                subst (λ (e : Claim). IsEntered plan.first h'.log e.place (record { by = by; claim = e }) × (h'.lifted ≤ e.place) × (word_at s' e.place ≤ e.place)) same
                (subst (λ m. IsEntered plan.first h'.log m (record { by = by; claim = c }) × (h'.lifted ≤ m) × (word_at s' m ≤ m)) (sym place)
                (entered, r.behind, subst (λ m. m ≤ q) (sym (place_word q)) (old_place.unput (le_refl q))));
          };
          front = λ t.
              let f = k.front t in
              let b = r.behind in
              let l = r.long in
              let o = f.count in
              record {
                own = f.own;
                next = f.next;
                freed = f.freed;
                count = f.count;
                frames = f.frames ∙ frames_front plan.first r.h h' (record { by = by; claim = c } ∷ []) (length v.lifted) refl (omega (arith, o, b, l));
                hand = λ x is.
                    let y = f.hand x is in
                    (place_word r.h.lifted ∙ y.0, (y.1.0, entered_longer plan.first r.h.log (record { by = by; claim = c } ∷ []) r.h.lifted y.1.0 y.1.1, y.1.2));
              };
          keeps = λ t.
              let g = k.keeps t in
              record {
                own = g.own;
                shut = refl;
                epoch = refl;
                resizes = refl;
                claimed = λ e. absurd (off (sym unshut ∙ e));
                stored = λ x is. let y = g.stored x is in (y.0, caps_apart s.words 0 n (r.h.now.resizes + 1) (omega arith) ∙ y.1, subst (λ m. x ≤ m) (sym slots) y.2);
              };
          turns = k.turns;
          sizes = k.sizes;
          gate = λ _. past_stays s.words s'.words r.h.now h'.now r.h.now others.goes (past_now plan s r);
          asked = λ t. past_stays s.words s'.words r.h.now h'.now v.asked others.goes (k.asked t);
          room = λ t. past_stays s.words s'.words r.h.now h'.now v.room others.goes (k.room t);
          met = mets_stay s.words s'.words r.h.now h'.now v.met others.goes k.met;
        }

    pub claimed_ring : Ring plan s'
    claimed_ring =
        let some_slot = r.some_slot in
        let wide = r.wide in
        let start = r.start in
        let below = r.below in
        let behind = r.behind in
        let small = r.small in
        record {
          h = h';
          some_slot = subst (λ m. 0 < m) (sym slots) r.some_slot;
          wide = length-set s.words 0 n ∙ r.wide ∙ ap (λ m. 130 + m) (sym slots);
          gate = get_or-set_same s.words 0 n 0 (omega (arith, wide)) ∙ word;
          freed = get_or-set_other s.words 0 1 n 0 (λ e. omega (arith, e)) ∙ r.freed;
          capacity = caps_apart s.words 0 n r.h.now.resizes (omega arith) ∙ r.capacity;
          fits = record { claimed = few; epoch = r.fits.epoch; resizes = r.fits.resizes };
          small = subst (λ m. r.h.now.capacity ≤ m) (sym slots) r.small;
          start = r.start;
          below = r.below;
          behind = omega (arith, behind);
          ahead = subst (λ m. q + 1 ≤ r.h.now.freed + m) (sym slots) (let e = in_window in omega (arith, e));
          room = let x = room in inl (omega (arith, x));
          long = let l = r.long in let a = length-append r.h.log (record { by = by; claim = c } ∷ []) in omega (arith, l, a);
          turns = turns_claim plan.first q r.h.now.epoch r.h.log r.h.opened (record { by = by; claim = c }) r.long epoch r.turns;
          sizes = sizes_same plan.capacity s.words s'.words r.h.now.resizes r.h.resized others.goes.caps r.sizes;
          places = λ p a b. ⊎_elim
              (λ (t : (eqb p q ≡ true) × (p ≡ q)). subst (λ m. IsPlace plan.first s' h' m) (sym t.1) new_place)
              (λ (t : (eqb p q ≡ false) × (p ≢ q)). other_place p t.1 a (subst (λ m. p < r.h.now.freed + m) slots b))
              (eqb_tells p q);
          seats = seats_set plan s s' r h' by w refl others claimer;
          parts = let t = total_set (λ x. x.parts) s.views by v w at in let o = r.parts in omega (arith, t, o);
          once = λ p.
              let t = total_set (λ x. times p x.mine) s.views by v w at in
              let a = times-append p v.mine (c ∷ []) in
              let o = r.once p in
              let m = within_more plan.first q p c place (omega (arith, start, below, behind)) in
              omega (arith, t, a, o, m);
        }

  -- what the exchange tells where the gate was the expected one, and where it wasn't
  abbrev Hit : Seated → ℕ → Moment → FrameValue → Seated → Type 0
  Hit v n m said w = HasRoom m × ((frame : FrameValue) × (Path (maybe.Option (Option FrameValue)) (some (Some said)) (some (Some frame))) × (w.0 ≡ with_claim m frame v.0))
      × (w.1 ≡ (m.claimed % n, None) ∷ v.1)

  abbrev Miss : Seated → Moment → Seated → Type 0
  Miss v m w = (w.0 ≡ seen_gate m v.0) × (w.1 ≡ v.1)

  gate_more : (m : Moment) → gate_of m + 1 ≡ gate_of (record m { claimed = m.claimed + 1 })
  gate_more m = omega arith

  -- the new word of an exchange that hits is the next gate word; one that misses leaves the words
  hit_word : (x old new : ℕ) → eqb x old ≡ true → either (eqb x old) new x ≡ new
  hit_word x old new t = rw t refl

  miss_words : (ws : List ℕ) (old new : ℕ) → eqb (slice_index ws 0) old ≡ false → ws ≡ slice_set ws 0 (either (eqb (slice_index ws 0) old) new (slice_index ws 0))
  miss_words ws old new t = rw t (sym (set-get_or ws 0 0))

  -- The exchange: the gate was open and had room by the numbers that the seat saw; so it does where the gate is the same.
  pub exchanges : (n by old new : ℕ) (frame : FrameValue) (v : Seated) → v.0.spent ≡ false → v.0.putting ≡ None → v.0.parts ≢ 0
      → old ≡ gate_of v.0.gate → new ≡ old + 1 → v.0.gate.shut ≡ false → v.0.gate.claimed + 1 < 2 ^ 40 → v.0.gate.claimed < v.0.room.freed + v.0.gate.capacity
      → Allows (Ring plan) n by v 0 (λ m. either (m == old) new m) (Exchanges (step n 0 old new (some (Some frame))) v)
  exchanges n by old new frame v live idle part old_is new_is unshut few free s r len at fits = ⊎_elim
      (λ (t : (eqb (slice_index s.words 0) old ≡ true) × (slice_index s.words 0 ≡ old)).
      let k = r.seats by v.0 at in
      let now = r.h.now in
      let past = k.gate live in
      let same = parts_equal now v.0.gate r.fits past.fits (sym r.gate ∙ t.1 ∙ old_is) in
      let cap : now.capacity ≡ v.0.gate.capacity = sym r.capacity ∙ ap (capacity_at s.words) same.3 ∙ past.capacity in
      let seen = (k.room live).freed in
      let same_claimed = same.0 in
      let room : HasRoom now = omega (arith, free, seen, cap, same_claimed) in
      let x = slice_index s.words 0 in
      let stored : either (eqb x old) new x ≡ gate_of (record now { claimed = now.claimed + 1 }) = hit_word x old new t.0 ∙ new_is ∙ ap (λ m. m + 1) (sym t.1 ∙ r.gate) ∙ gate_more now in
      let below = r.below in
      let behind = r.behind in
      let small = r.small in
      let w = with_claim now frame v.0 in (
        w,
        takes (slot_at s now.claimed) None,
        (r.places now.claimed (omega (arith, below, behind)) (omega (arith, room, small))).spare (le_refl now.claimed),
        claimed_ring s r by v.0 (claim now.claimed now.epoch frame) (either (eqb x old) new x) at live idle part room refl (omega (arith, few, same_claimed)) (same.1 ∙ unshut) refl stored,
        (
          now,
          r.gate,
          new_now plan s r by v.0 live k,
          subst (λ (b : Bool). MatchBool b (Hit v n now frame (w, (slot_at s now.claimed, None) ∷ v.1)) (Miss v now (w, (slot_at s now.claimed, None) ∷ v.1))) (sym t.0)
              (room, (frame, refl, refl), ap (λ m. (now.claimed % m, None) ∷ v.1) len),
        ),
      ))
      (λ (t : (eqb (slice_index s.words 0) old ≡ false) × (slice_index s.words 0 ≢ old)).
      let k = r.seats by v.0 at in
      let now = r.h.now in
      let w = seen_gate now v.0 in (
        w,
        keeps,
        tt,
        subst (λ ws. Ring plan (record { words = ws; homes = s.homes; views = set s.views by w })) (miss_words s.words old new t.0) (looked plan s r by v.0 w at refl refl refl refl (gate_knows plan s r by v.0 k)),
        (
          now,
          r.gate,
          new_now plan s r by v.0 live k,
          subst (λ (b : Bool). MatchBool b (Hit v n now frame (w, v.1)) (Miss v now (w, v.1))) (sym t.0) (refl, refl),
        ),
      ))
      (eqb_tells (slice_index s.words 0) old)
