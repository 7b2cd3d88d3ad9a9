-- The steps of the keeper: shut, reopen, the store of a capacity, and the addition to the number of resizes.
use Rattle.std.proofs.Common.{◌≡◌, ◌≢◌, ℕ, ◌+◌, ◌^◌, ◌%◌, ◌≤◌, ◌<◌, List, [], ◌∷◌, ◌++◌, set, Some, None, Option, Bool, true, false, refl, sym, ap, ◌∙◌, subst, inr, le_refl, arith, append-nil, length-set, get_or-set_same, get_or-set_other}
use Rattle.std.specs.Prelude.{slice_index, slice_set}
use mathlib.Core.Option.{none, some}
use lib.ListN.{get_elem?}
use Rattle.atomic_table.specs.Table.{step, Allows, keeps}
use Rattle.tap_ring.specs.declared.rule.Moment.{Moment}
use Rattle.tap_ring.specs.declared.rule.Loaded.{Loaded}
use Rattle.tap_ring.specs.declared.rule.View.{View}
use Rattle.tap_ring.specs.declared.rule.Plan.{Plan}
use Rattle.tap_ring.specs.GateWord.{gate_word}
use Rattle.tap_ring.specs.Moments.{Fits, KeepsRoom, gate_of, capacity_at}
use Rattle.tap_ring.specs.Turns.{EachGiven}
use Rattle.tap_ring.specs.Standing.{RingState, Standing, slots_of, slot_at, word_at, CountsTurns, CountsSizes, Knows, Ring, times}
use Rattle.tap_ring.specs.Steps.{Seated, seen_gate, Shuts, Reopens, Stores, Resizes, IsKept, shut_at, reopened_at, resized_at, with_turn, with_resize}
use Rattle.tap_ring.proofs.Kit.{off, on, some_not_none, some_is, GoesOn, past_stays, mets_stay, total_set}
use Rattle.tap_ring.proofs.Counts.{turns_reopen, sizes_same, sizes_more, given_more}
use Rattle.tap_ring.proofs.Stays.{Apart, seats_set, place_stays}
use Rattle.tap_ring.proofs.Loads.{new_now, still_set, hand_set}
use Rattle.tap_ring.proofs.Claims.{caps_apart, place_words_apart}

module _ (plan : Plan) where
  -- ---- the gate word changes

  module _ (s : RingState) (r : Ring plan s) (by : ℕ) (v : View) (n : ℕ) (at : get_elem? s.views by ≡ some v) (keeps_is : v.keeps ≡ true)
      (shut : Bool) (epoch resizes capacity : ℕ) (opened resized : List ℕ) (resized_from : ℕ) (stored : Option ℕ)
      (later_epoch : r.h.now.epoch ≤ epoch) (stays_shut : r.h.now.epoch ≡ epoch → r.h.now.shut ≡ true → shut ≡ true) (later_resizes : r.h.now.resizes ≤ resizes) (few_epochs : epoch < 2 ^ 16) (few_resizes : resizes < 2 ^ 7)
      (stands : capacity_at s.words resizes ≡ capacity) (small : capacity ≤ slots_of s)
      (next : (c : ℕ) → stored ≡ Some c → (resizes + 1 < 2 ^ 7) × (capacity_at s.words (resizes + 1) ≡ c) × (c ≤ slots_of s))
      (turns_are : CountsTurns plan.first r.h.now.claimed epoch r.h.log opened) (sizes_are : CountsSizes plan.capacity s.words resizes resized)
      (given_still : (first : ℕ) (xs : List Loaded) → EachGiven first r.h.resized xs → EachGiven first resized xs)
      (room_is : KeepsRoom r.h.now.claimed r.h.now.freed capacity resized_from)
      (word : n ≡ gate_of (record r.h.now { shut = shut; epoch = epoch; resizes = resizes; capacity = capacity })) where
    abbrev m : Moment
    m = record r.h.now { shut = shut; epoch = epoch; resizes = resizes; capacity = capacity }

    abbrev w : View
    w = record (seen_gate m v) { opened = opened; resized = resized; resized_from = resized_from; stored = stored }

    abbrev s' : RingState
    s' = record { words = set s.words 0 n; homes = s.homes; views = set s.views by w }

    abbrev h' : Standing
    h' = record r.h { now = m; opened = opened; resized = resized; resized_from = resized_from }

    knows : Knows plan s r.h by v
    knows = r.seats by v at

    own : by ≡ r.h.keeper
    own = (knows.keeps keeps_is).own

    place_word : (p : ℕ) → word_at s' p ≡ word_at s p
    place_word p = place_words_apart plan s.words 0 n (slot_at s p) (omega arith)

    goes : GoesOn s.words s'.words r.h.now m
    goes = record {
      claimed = le_refl r.h.now.claimed;
      freed = le_refl r.h.now.freed;
      epoch = later_epoch;
      resizes = later_resizes;
      caps = λ k _. caps_apart plan s.words 0 n k (omega arith);
      shut = stays_shut;
    }

    others : Apart plan.first s s' r.h h' by
    others = record {
      goes = goes;
      more = [];
      log = sym (append-nil r.h.log);
      slots = refl;
      consumer = λ _. refl;
      keeper = refl;
      front = λ _. (refl, refl, (λ e. place_word r.h.lifted ∙ e));
      gate = λ ne. absurd (ne (sym own));
      turns = λ ne. absurd (ne (sym own));
      given = given_still;
      putting = λ j c ne e le z. (le, subst (λ y. y ≤ c.place) (sym (place_word c.place)) z);
    }

    fits_now : Fits m
    fits_now = record { claimed = r.fits.claimed; epoch = few_epochs; resizes = few_resizes }

    keeper_knows : Knows plan s' h' by w
    keeper_knows = record {
      claims = record {
        mine = knows.claims.mine;
        idle = knows.claims.idle;
        putting = λ c is. let t = knows.claims.putting c is in (t.0, t.1, subst (λ z. z ≤ c.place) (sym (place_word c.place)) t.2);
      };
      front = λ t.
          let f = knows.front t in
          record {
            own = f.own;
            next = f.next;
            freed = f.freed;
            count = f.count;
            frames = f.frames;
            hand = λ y is. let z = f.hand y is in (place_word r.h.lifted ∙ z.0, z.1);
          };
      keeps = λ t. record {
        own = own;
        shut = refl;
        epoch = refl;
        resizes = refl;
        claimed = λ _. refl;
        stored = λ c is. let z = next c is in (z.0, caps_apart plan s.words 0 n (resizes + 1) (omega arith) ∙ z.1, z.2);
      };
      turns = λ _. (refl, refl, refl);
      sizes = given_still plan.capacity v.loaded knows.sizes;
      gate = λ _. record {
        fits = fits_now;
        claimed = le_refl m.claimed;
        freed = le_refl m.freed;
        epoch = le_refl m.epoch;
        resizes = le_refl m.resizes;
        capacity = caps_apart plan s.words 0 n resizes (omega arith) ∙ stands;
        shut = λ _ e. e;
      };
      asked = λ t. past_stays s.words s'.words r.h.now m v.asked goes (knows.asked t);
      room = λ t. past_stays s.words s'.words r.h.now m v.room goes (knows.room t);
      met = mets_stay s.words s'.words r.h.now m v.met goes knows.met;
    }

    pub gated_ring : Ring plan s'
    gated_ring =
        let wide = r.wide in
        record {
          h = h';
          some_slot = r.some_slot;
          wide = length-set s.words 0 n ∙ r.wide;
          gate = get_or-set_same s.words 0 n 0 (omega (arith, wide)) ∙ word;
          freed = get_or-set_other s.words 0 1 n 0 (λ e. omega (arith, e)) ∙ r.freed;
          capacity = caps_apart plan s.words 0 n resizes (omega arith) ∙ stands;
          fits = fits_now;
          small = small;
          start = r.start;
          below = r.below;
          behind = r.behind;
          ahead = r.ahead;
          long = r.long;
          room = room_is;
          turns = turns_are;
          sizes = sizes_same plan.capacity s.words s'.words resizes resized (λ k _. caps_apart plan s.words 0 n k (omega arith)) sizes_are;
          places = λ p a b. place_stays plan.first s s' r.h h' p [] (sym (append-nil r.h.log)) (place_word p) refl (λ t. t) (λ t. t) (λ t. t) (λ t. t)
              (still_set plan s by v w p at refl s' refl)
              (hand_set plan s r.h by v w p at refl s' h' refl refl refl)
              (r.places p a b);
          seats = seats_set plan s s' r h' by w refl others keeper_knows;
          parts = let t = total_set (λ y. y.parts) s.views by v w at in let o = r.parts in omega (arith, t, o);
          once = λ p. let t = total_set (λ y. times p y.mine) s.views by v w at in let o = r.once p in omega (arith, t, o);
        }

  kept_now : (s : RingState) (r : Ring plan s) (by : ℕ) (v : View) → v.spent ≡ false → Knows plan s r.h by v → v.keeps ≡ true → IsKept v r.h.now
  kept_now s r by v live k keeps_is =
      let g = k.keeps keeps_is in
      record { is_new = new_now plan s r by v live k; shut = sym g.shut; epoch = sym g.epoch; resizes = sym g.resizes; claimed = λ e. sym (g.claimed e) }

  -- what the rule says of reopenings and resizes, over the keeper's lists
  kept_turns : (s : RingState) (r : Ring plan s) (by : ℕ) (v : View) → Knows plan s r.h by v → v.keeps ≡ true → CountsTurns plan.first r.h.now.claimed r.h.now.epoch r.h.log v.opened
  kept_turns s r by v k keeps_is = subst (CountsTurns plan.first r.h.now.claimed r.h.now.epoch r.h.log) (sym (k.turns keeps_is).0) r.turns

  kept_sizes : (s : RingState) (r : Ring plan s) (by : ℕ) (v : View) → Knows plan s r.h by v → v.keeps ≡ true → CountsSizes plan.capacity s.words r.h.now.resizes v.resized
  kept_sizes s r by v k keeps_is = subst (CountsSizes plan.capacity s.words r.h.now.resizes) (sym (k.turns keeps_is).1) r.sizes

  kept_given : (s : RingState) (r : Ring plan s) (by : ℕ) (v : View) → Knows plan s r.h by v → v.keeps ≡ true → (first : ℕ) (xs : List Loaded) → EachGiven first r.h.resized xs → EachGiven first v.resized xs
  kept_given s r by v k keeps_is first xs e = subst (λ l. EachGiven first l xs) (sym (k.turns keeps_is).1) e

  kept_room : (s : RingState) (r : Ring plan s) (by : ℕ) (v : View) → Knows plan s r.h by v → v.keeps ≡ true → KeepsRoom r.h.now.claimed r.h.now.freed r.h.now.capacity v.resized_from
  kept_room s r by v k keeps_is = subst (KeepsRoom r.h.now.claimed r.h.now.freed r.h.now.capacity) (sym (k.turns keeps_is).2) r.room

  -- adding the shut bit to the word of an open gate shuts it
  shut_word : (claimed epoch resizes : ℕ) (shut : Bool) → shut ≡ false → claimed < 2 ^ 40 → epoch < 2 ^ 16 → resizes < 2 ^ 7 → (gate_word claimed shut epoch resizes + 2 ^ 40) % 2 ^ 64 ≡ gate_word claimed true epoch resizes
  shut_word claimed epoch resizes true e a b c = absurd (on e)
  shut_word claimed epoch resizes false e a b c = omega arith

  -- adding it to the word of a shut gate opens it at the next epoch
  reopen_word : (claimed epoch resizes : ℕ) (shut : Bool) → shut ≡ true → claimed < 2 ^ 40 → epoch + 1 < 2 ^ 16 → resizes < 2 ^ 7 → (gate_word claimed shut epoch resizes + 2 ^ 40) % 2 ^ 64 ≡ gate_word claimed false (epoch + 1) resizes
  reopen_word claimed epoch resizes true e a b c = omega arith
  reopen_word claimed epoch resizes false e a b c = absurd (off e)

  resize_word : (claimed epoch resizes : ℕ) (shut : Bool) → claimed < 2 ^ 40 → epoch < 2 ^ 16 → resizes + 1 < 2 ^ 7 → (gate_word claimed shut epoch resizes + 2 ^ 57) % 2 ^ 64 ≡ gate_word claimed shut epoch (resizes + 1)
  resize_word claimed epoch resizes true a b c = omega arith
  resize_word claimed epoch resizes false a b c = omega arith

  pub shuts : (n by : ℕ) (v : Seated) → v.0.spent ≡ false → v.0.keeps ≡ true → v.0.gate.shut ≡ false
      → Allows (Ring plan) n by v 0 (λ m. (m + 2 ^ 40) % 2 ^ 64) (Shuts (step n 0 (2 ^ 40) 0 none) v)
  shuts n by v live keeps_is unshut s r len at fits =
      let k = r.seats by v.0 at in
      let g = k.keeps keeps_is in
      let now = r.h.now in
      let is : (slice_index s.words 0 + 2 ^ 40) % 2 ^ 64 ≡ gate_of (shut_at now) = ap (λ m. (m + 2 ^ 40) % 2 ^ 64) r.gate ∙ shut_word now.claimed now.epoch now.resizes now.shut (sym g.shut ∙ unshut) r.fits.claimed r.fits.epoch r.fits.resizes in (
        seen_gate (shut_at now) v.0,
        keeps,
        tt,
        gated_ring s r by v.0 ((slice_index s.words 0 + 2 ^ 40) % 2 ^ 64) at keeps_is true now.epoch now.resizes now.capacity v.0.opened v.0.resized v.0.resized_from v.0.stored (le_refl now.epoch) (λ _ _. refl) (le_refl now.resizes) r.fits.epoch r.fits.resizes r.capacity r.small g.stored
            (kept_turns s r by v.0 k keeps_is) (kept_sizes s r by v.0 k keeps_is) (kept_given s r by v.0 k keeps_is) (kept_room s r by v.0 k keeps_is) is,
        (now, r.gate, kept_now s r by v.0 live k keeps_is, refl, refl),
      )

  pub reopens : (n by : ℕ) (v : Seated) → v.0.spent ≡ false → v.0.keeps ≡ true → v.0.gate.shut ≡ true → v.0.gate.epoch + 1 < 2 ^ 16
      → Allows (Ring plan) n by v 0 (λ m. (m + 2 ^ 40) % 2 ^ 64) (Reopens (step n 0 (2 ^ 40) 0 none) v)
  reopens n by v live keeps_is shut few s r len at fits =
      let k = r.seats by v.0 at in
      let g = k.keeps keeps_is in
      let now = r.h.now in
      let epoch = g.epoch in
      let few_now : now.epoch + 1 < 2 ^ 16 = omega (arith, epoch, few) in
      let is : (slice_index s.words 0 + 2 ^ 40) % 2 ^ 64 ≡ gate_of (reopened_at now) = ap (λ m. (m + 2 ^ 40) % 2 ^ 64) r.gate ∙ reopen_word now.claimed now.epoch now.resizes now.shut (sym g.shut ∙ shut) r.fits.claimed few_now r.fits.resizes in (
        with_turn now v.0,
        keeps,
        tt,
        gated_ring s r by v.0 ((slice_index s.words 0 + 2 ^ 40) % 2 ^ 64) at keeps_is false (now.epoch + 1) now.resizes now.capacity (v.0.opened ++ now.claimed ∷ []) v.0.resized v.0.resized_from v.0.stored (omega arith) (λ e. absurd (omega (arith, e))) (le_refl now.resizes) few_now r.fits.resizes r.capacity r.small g.stored
            (turns_reopen plan.first now.claimed now.epoch r.h.log v.0.opened r.long (kept_turns s r by v.0 k keeps_is)) (kept_sizes s r by v.0 k keeps_is) (kept_given s r by v.0 k keeps_is) (kept_room s r by v.0 k keeps_is) is,
        (now, r.gate, kept_now s r by v.0 live k keeps_is, refl, refl),
      )

  pub resizes_by : (n by c : ℕ) (v : Seated) → v.0.spent ≡ false → v.0.keeps ≡ true → v.0.stored ≡ Some c
      → Allows (Ring plan) n by v 0 (λ m. (m + 2 ^ 57) % 2 ^ 64) (Resizes (step n 0 (2 ^ 57) 0 none) v)
  resizes_by n by c v live keeps_is stored s r len at fits =
      let k = r.seats by v.0 at in
      let g = k.keeps keeps_is in
      let now = r.h.now in
      let z = g.stored c stored in
      let is : (slice_index s.words 0 + 2 ^ 57) % 2 ^ 64 ≡ gate_of (resized_at c now) = ap (λ m. (m + 2 ^ 57) % 2 ^ 64) r.gate ∙ resize_word now.claimed now.epoch now.resizes now.shut r.fits.claimed r.fits.epoch z.0 in (
        with_resize c now v.0,
        keeps,
        tt,
        gated_ring s r by v.0 ((slice_index s.words 0 + 2 ^ 57) % 2 ^ 64) at keeps_is now.shut now.epoch (now.resizes + 1) c v.0.opened (v.0.resized ++ c ∷ []) now.claimed None (le_refl now.epoch) (λ _ e. e) (omega arith) r.fits.epoch z.0 z.1 z.2 (λ d e. absurd (some_not_none d (sym e)))
            (kept_turns s r by v.0 k keeps_is) (sizes_more plan.capacity s.words now.resizes c v.0.resized z.1 (kept_sizes s r by v.0 k keeps_is))
            (λ first xs e. given_more first v.0.resized (c ∷ []) xs (kept_given s r by v.0 k keeps_is first xs e)) (inr refl) is,
        (now, r.gate, kept_now s r by v.0 live k keeps_is, (c, stored, refl), refl),
      )

  -- ---- the capacity of the next number

  module _ (s : RingState) (r : Ring plan s) (by : ℕ) (v : View) (c : ℕ) (at : get_elem? s.views by ≡ some v) (keeps_is : v.keeps ≡ true)
      (more : r.h.now.resizes + 1 < 2 ^ 7) (fit : c ≤ slots_of s) where
    abbrev sw : View
    sw = record v { stored = Some c }

    abbrev si : ℕ
    si = 2 + (r.h.now.resizes + 1)

    abbrev ss : RingState
    ss = record { words = set s.words si c; homes = s.homes; views = set s.views by sw }

    sknows : Knows plan s r.h by v
    sknows = r.seats by v at

    sown : by ≡ r.h.keeper
    sown = (sknows.keeps keeps_is).own

    sother : (k : ℕ) → k ≢ si → slice_index ss.words k ≡ slice_index s.words k
    sother k ne = get_or-set_other s.words si k c 0 ne

    splace_word : (p : ℕ) → word_at ss p ≡ word_at s p
    splace_word p = sother (130 + slot_at s p) (λ e. omega (arith, e, more))

    sgoes : GoesOn s.words ss.words r.h.now r.h.now
    sgoes = record {
      claimed = le_refl r.h.now.claimed;
      freed = le_refl r.h.now.freed;
      epoch = le_refl r.h.now.epoch;
      resizes = le_refl r.h.now.resizes;
      caps = λ k le. sother (2 + k) (λ e. omega (arith, e, le));
      shut = λ _ e. e;
    }

    sothers : Apart plan.first s ss r.h r.h by
    sothers = record {
      goes = sgoes;
      more = [];
      log = sym (append-nil r.h.log);
      slots = refl;
      consumer = λ _. refl;
      keeper = refl;
      front = λ _. (refl, refl, (λ e. splace_word r.h.lifted ∙ e));
      gate = λ ne. absurd (ne (sym sown));
      turns = λ ne. absurd (ne (sym sown));
      given = λ _ _ e. e;
      putting = λ j d ne e le z. (le, subst (λ y. y ≤ d.place) (sym (splace_word d.place)) z);
    }

    stored_here : capacity_at ss.words (r.h.now.resizes + 1) ≡ c
    stored_here = get_or-set_same s.words si c 0 (let wide = r.wide in let pos = r.some_slot in omega (arith, wide, more, pos))

    storer : Knows plan ss r.h by sw
    storer = record {
      claims = record {
        mine = sknows.claims.mine;
        idle = sknows.claims.idle;
        putting = λ d is. let t = sknows.claims.putting d is in (t.0, t.1, subst (λ z. z ≤ d.place) (sym (splace_word d.place)) t.2);
      };
      front = λ t.
          let f = sknows.front t in
          record {
            own = f.own;
            next = f.next;
            freed = f.freed;
            count = f.count;
            frames = f.frames;
            hand = λ y is. let z = f.hand y is in (splace_word r.h.lifted ∙ z.0, z.1);
          };
      keeps = λ t.
          let g = sknows.keeps t in
          record {
            own = g.own;
            shut = g.shut;
            epoch = g.epoch;
            resizes = g.resizes;
            claimed = g.claimed;
            stored = λ d is. let same : c ≡ d = some_is c d is in (more, stored_here ∙ same, subst (λ z. z ≤ slots_of s) same fit);
          };
      turns = sknows.turns;
      sizes = sknows.sizes;
      gate = λ t. past_stays s.words ss.words r.h.now r.h.now v.gate sgoes (sknows.gate t);
      asked = λ t. past_stays s.words ss.words r.h.now r.h.now v.asked sgoes (sknows.asked t);
      room = λ t. past_stays s.words ss.words r.h.now r.h.now v.room sgoes (sknows.room t);
      met = mets_stay s.words ss.words r.h.now r.h.now v.met sgoes sknows.met;
    }

    pub stored_ring : Ring plan ss
    stored_ring = record {
      h = r.h;
      some_slot = r.some_slot;
      wide = length-set s.words si c ∙ r.wide;
      gate = sother 0 (λ e. omega (arith, e)) ∙ r.gate;
      freed = sother 1 (λ e. omega (arith, e)) ∙ r.freed;
      capacity = sother (2 + r.h.now.resizes) (λ e. omega (arith, e)) ∙ r.capacity;
      fits = r.fits;
      small = r.small;
      start = r.start;
      below = r.below;
      behind = r.behind;
      ahead = r.ahead;
      long = r.long;
      room = r.room;
      turns = r.turns;
      sizes = sizes_same plan.capacity s.words ss.words r.h.now.resizes r.h.resized sgoes.caps r.sizes;
      places = λ p a b. place_stays plan.first s ss r.h r.h p [] (sym (append-nil r.h.log)) (splace_word p) refl (λ t. t) (λ t. t) (λ t. t) (λ t. t)
          (still_set plan s by v sw p at refl ss refl)
          (hand_set plan s r.h by v sw p at refl ss r.h refl refl refl)
          (r.places p a b);
      seats = seats_set plan s ss r r.h by sw refl sothers storer;
      parts = let t = total_set (λ y. y.parts) s.views by v sw at in let o = r.parts in omega (arith, t, o);
      once = λ p. let t = total_set (λ y. times p y.mine) s.views by v sw at in let o = r.once p in omega (arith, t, o);
    }

  pub stores : (n by i c : ℕ) (v : Seated) → v.0.keeps ≡ true → i ≡ 3 + v.0.gate.resizes → v.0.gate.resizes + 1 < 2 ^ 7 → c ≤ n
      → Allows (Ring plan) n by v i (λ _. c) (λ _. Stores (step n i c 0 none) v c)
  stores n by i c v keeps_is i_is few fit s r len at fits =
      let g = (r.seats by v.0 at).keeps keeps_is in
      let same = g.resizes in
      let w : View = record v.0 { stored = Some c } in (
        w,
        keeps,
        tt,
        subst (λ m. Ring plan (record { words = slice_set s.words m c; homes = s.homes; views = slice_set s.views by w })) (omega (arith, i_is, same))
            (stored_ring s r by v.0 c at keeps_is (omega (arith, same, few)) (subst (λ m. c ≤ m) (sym len) fit)),
        (refl, refl),
      )
