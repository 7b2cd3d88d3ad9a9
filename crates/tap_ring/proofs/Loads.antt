-- The steps that change no word and no slot: each keeps the rule, and tells what the table of steps says.
use Rattle.std.proofs.Common.{◌≡◌, ◌≢◌, ℕ, ◌+◌, eqb, List, [], ◌∷◌, set, Some, true, false, refl, sym, ap, ◌∙◌, subst, ⊎_elim, le_refl, arith, append-nil, ◌<◌}
use Rattle.std.specs.Prelude.{slice_index, slice_set}
use Rattle.std.proofs.lemmas.List.{set-get_or}
use Rattle.std.proofs.lemmas.Bool.Decides.{eqb_tells}
use mathlib.Core.Option.{none, some, some-injective}
use lib.ListN.{get_elem?}
use Rattle.atomic_table.specs.Table.{step, Allows, keeps}
use Rattle.atomic_table.proofs.Lists.{set_else}
use Rattle.tap_ring.specs.declared.rule.View.{View}
use Rattle.tap_ring.specs.declared.rule.Plan.{Plan}
use Rattle.tap_ring.specs.Moments.{IsPast}
use Rattle.tap_ring.specs.Turns.{IsGiven, loaded}
use Rattle.tap_ring.specs.Standing.{RingState, Placing, Standing, IsEntered, IsInHand, EachClaim, Knows, Ring, times}
use Rattle.tap_ring.specs.Steps.{Seated, IsNew, seen_gate, seen_capacity, seen_freed, LoadsGate, LoadsCapacity, LoadsFreed}
use Rattle.tap_ring.proofs.Kit.{set_there, goes_same, past_later, entered_below, each_map, total_set}
use Rattle.tap_ring.proofs.Counts.{given_append}
use Rattle.tap_ring.proofs.Stays.{Apart, Still, seats_set, place_stays}

module _ (plan : Plan) where
  -- the ring as it is now, as a moment that lies behind
  pub past_now : (s : RingState) (r : Ring plan s) → IsPast s.words r.h.now r.h.now
  past_now s r = record {
    fits = r.fits;
    claimed = le_refl r.h.now.claimed;
    freed = le_refl r.h.now.freed;
    epoch = le_refl r.h.now.epoch;
    resizes = le_refl r.h.now.resizes;
    capacity = r.capacity;
    shut = λ _ e. e;
  }

  -- each place that a seat claimed is below the claim count
  all_below : (s : RingState) (r : Ring plan s) (by : ℕ) (v : View) → Knows plan s r.h by v → EachClaim (λ c. c.place < r.h.now.claimed) v.mine
  all_below s r by v k = each_map (λ c. (x : Placing) × IsEntered plan.first r.h.log c.place x × (x.claim ≡ c)) (λ c. c.place < r.h.now.claimed) v.mine
      (λ c t. let b = entered_below plan.first r.h.log c.place t.0 t.1 in let l = r.long in omega (arith, b, l)) k.claims.mine

  pub new_now : (s : RingState) (r : Ring plan s) (by : ℕ) (v : View) → v.spent ≡ false → Knows plan s r.h by v → IsNew v r.h.now
  new_now s r by v live k = record {
    fits = r.fits;
    mine = all_below s r by v k;
    gate = past_later s.words r.h.now v.gate (k.gate live) r.capacity;
    asked = past_later s.words r.h.now v.asked (k.asked live) r.capacity;
    room = past_later s.words r.h.now v.room (k.room live) r.capacity;
  }

  -- a step that changes no word and no slot leaves all other seats as they were
  pub apart_same : (s : RingState) (h : Standing) (by : ℕ) (views : List View) → Apart plan.first s (record s { views = views }) h h by
  apart_same s h by views = record {
    goes = goes_same s.words h.now;
    more = [];
    log = sym (append-nil h.log);
    slots = refl;
    consumer = λ _. refl;
    keeper = refl;
    front = λ _. (refl, refl, (λ e. e));
    gate = λ _. (refl, refl, refl, (λ _. refl), (λ _. refl));
    turns = λ _. (refl, refl, refl);
    given = λ _ _ e. e;
    putting = λ j c ne e low word. (low, word);
  }

  -- whoever is putting is putting still, where the stepping seat is
  pub still_set : (s : RingState) (by : ℕ) (v w : View) (p : ℕ) → get_elem? s.views by ≡ some v → w.putting ≡ v.putting
      → (s' : RingState) → s'.views ≡ set s.views by w → Still s s' p
  still_set s by v w p at same s' is j u c there putting place = ⊎_elim
      (λ (t : (eqb j by ≡ true) × (j ≡ by)). (
        w,
        ap (λ l. get_elem? l j) is ∙ ap (get_elem? (set s.views by w)) t.1 ∙ set_there s.views by v w at,
        same ∙ ap (λ (x : View). x.putting) (some-injective v u (sym at ∙ sym (ap (get_elem? s.views) t.1) ∙ there)) ∙ putting,
      ))
      (λ (t : (eqb j by ≡ false) × (j ≢ by)). (u, ap (λ l. get_elem? l j) is ∙ set_else s.views by j w t.1 ∙ there, putting))
      (eqb_tells j by)

  -- the consumer has the front place in hand still
  pub hand_set : (s : RingState) (h : Standing) (by : ℕ) (v w : View) (p : ℕ) → get_elem? s.views by ≡ some v → w.in_hand ≡ v.in_hand
      → (s' : RingState) (h' : Standing) → s'.views ≡ set s.views by w → h'.consumer ≡ h.consumer → h'.lifted ≡ h.lifted → IsInHand plan.first s h p → IsInHand plan.first s' h' p
  hand_set s h by v w p at same s' h' is who front k = ⊎_elim
      (λ (t : (eqb h.consumer by ≡ true) × (h.consumer ≡ by)). (
        k.0 ∙ sym front,
        (
          w,
          k.1.1,
          ap (λ l. get_elem? l h'.consumer) is ∙ ap (get_elem? (set s.views by w)) (who ∙ t.1) ∙ set_there s.views by v w at,
          same ∙ ap (λ (x : View). x.in_hand) (some-injective v k.1.0 (sym at ∙ sym (ap (get_elem? s.views) t.1) ∙ k.1.2)) ∙ k.1.3,
        ),
      ))
      (λ (t : (eqb h.consumer by ≡ false) × (h.consumer ≢ by)). (
        k.0 ∙ sym front,
        (
          k.1.0,
          k.1.1,
          ap (λ l. get_elem? l h'.consumer) is ∙ ap (get_elem? (set s.views by w)) who ∙ set_else s.views by h.consumer w t.1 ∙ k.1.2,
          k.1.3,
        ),
      ))
      (eqb_tells h.consumer by)

  -- a seat saw something
  pub looked : (s : RingState) (r : Ring plan s) (by : ℕ) (v w : View) → get_elem? s.views by ≡ some v
      → w.putting ≡ v.putting → w.in_hand ≡ v.in_hand → w.parts ≡ v.parts → w.mine ≡ v.mine
      → Knows plan (record s { views = set s.views by w }) r.h by w → Ring plan (record s { views = set s.views by w })
  looked s r by v w at same_putting same_hand same_parts same_mine mine =
      let s' : RingState = record s { views = set s.views by w } in
      record {
        h = r.h;
        some_slot = r.some_slot;
        wide = r.wide;
        gate = r.gate;
        freed = r.freed;
        capacity = r.capacity;
        fits = r.fits;
        small = r.small;
        start = r.start;
        below = r.below;
        behind = r.behind;
        ahead = r.ahead;
        long = r.long;
        room = r.room;
        turns = r.turns;
        sizes = r.sizes;
        places = λ p a b. place_stays plan.first s s' r.h r.h p [] (sym (append-nil r.h.log)) refl refl (λ t. t) (λ t. t) (λ t. t) (λ t. t)
            (still_set s by v w p at same_putting s' refl) (hand_set s r.h by v w p at same_hand s' r.h refl refl refl) (r.places p a b);
        seats = seats_set plan s s' r r.h by w refl (apart_same s r.h by (set s.views by w)) mine;
        parts = let t = total_set (λ x. x.parts) s.views by v w at in let o = r.parts in omega (arith, t, o, same_parts);
        once = λ p.
            let t = total_set (λ x. times p x.mine) s.views by v w at in
            let o = r.once p in
            let m = ap (times p) same_mine in
            omega (arith, t, o, m);
      }

  -- the same, as the state after a load
  pub kept_words : (s : RingState) (i : ℕ) (views : List View) → Ring plan (record s { views = views }) → Ring plan (record { words = slice_set s.words i (slice_index s.words i); homes = s.homes; views = views })
  kept_words s i views r = subst (λ ws. Ring plan (record { words = ws; homes = s.homes; views = views })) (sym (set-get_or s.words i 0)) r

  pub gate_knows : (s : RingState) (r : Ring plan s) (by : ℕ) (v : View) → Knows plan s r.h by v → Knows plan (record s { views = set s.views by (seen_gate r.h.now v) }) r.h by (seen_gate r.h.now v)
  gate_knows s r by v k = record {
    claims = record { mine = k.claims.mine; idle = k.claims.idle; putting = k.claims.putting };
    front = λ t. let f = k.front t in record { own = f.own; next = f.next; freed = f.freed; count = f.count; frames = f.frames; hand = f.hand };
    keeps = λ t. let g = k.keeps t in record { own = g.own; shut = refl; epoch = refl; resizes = refl; claimed = λ _. refl; stored = g.stored };
    turns = k.turns;
    sizes = k.sizes;
    gate = λ _. past_now s r;
    asked = k.asked;
    room = k.room;
    met = k.met;
  }

  pub loads_gate : (slots by : ℕ) (v : Seated) → v.0.spent ≡ false → Allows (Ring plan) slots by v 0 (λ n. n) (LoadsGate (step slots 0 0 0 none) v)
  loads_gate slots by v live s r len at fits =
      let k = r.seats by v.0 at in
      let w = seen_gate r.h.now v.0 in (
        w,
        keeps,
        tt,
        kept_words s 0 (set s.views by w) (looked s r by v.0 w at refl refl refl refl (gate_knows s r by v.0 k)),
        (r.h.now, r.gate, new_now s r by v.0 live k, refl, refl),
      )

  -- the capacity of the gate that a seat met is the one that was given under its number of resizes
  given_gate : (s : RingState) (r : Ring plan s) (by : ℕ) (v : View) → v.spent ≡ false → Knows plan s r.h by v → IsGiven plan.capacity r.h.resized v.gate.resizes v.gate.capacity
  given_gate s r by v live k = let p = k.gate live in r.sizes.given v.gate.resizes p.resizes ∙ ap (λ (n : ℕ). Some n) p.capacity

  pub loads_capacity : (slots by i : ℕ) (v : Seated) → v.0.spent ≡ false → i ≡ 2 + v.0.gate.resizes → Allows (Ring plan) slots by v i (λ n. n) (LoadsCapacity (step slots i 0 0 none) v)
  loads_capacity slots by i v live is s r len at fits =
      let k = r.seats by v.0 at in
      let w = seen_capacity v.0 in (
        w,
        keeps,
        tt,
        kept_words s i (set s.views by w) (looked s r by v.0 w at refl refl refl refl (record {
          claims = record { mine = k.claims.mine; idle = k.claims.idle; putting = k.claims.putting };
          front = λ t. let f = k.front t in record { own = f.own; next = f.next; freed = f.freed; count = f.count; frames = f.frames; hand = f.hand };
          keeps = λ t. let g = k.keeps t in record { own = g.own; shut = g.shut; epoch = g.epoch; resizes = g.resizes; claimed = g.claimed; stored = g.stored };
          turns = k.turns;
          sizes = given_append plan.capacity r.h.resized v.0.loaded (loaded v.0.gate.resizes v.0.gate.capacity ∷ []) k.sizes (given_gate s r by v.0 live k, tt);
          gate = k.gate;
          asked = k.gate;
          room = k.room;
          met = k.met;
        })),
        (ap (slice_index s.words) is ∙ (k.gate live).capacity, refl, refl),
      )

  pub loads_freed : (slots by : ℕ) (v : Seated) → v.0.spent ≡ false → Allows (Ring plan) slots by v 1 (λ n. n) (LoadsFreed (step slots 1 0 0 none) v)
  loads_freed slots by v live s r len at fits =
      let k = r.seats by v.0 at in
      let w = seen_freed r.h.now v.0 in (
        w,
        keeps,
        tt,
        kept_words s 1 (set s.views by w) (looked s r by v.0 w at refl refl refl refl (record {
          claims = record { mine = k.claims.mine; idle = k.claims.idle; putting = k.claims.putting };
          front = λ t. let f = k.front t in record { own = f.own; next = f.next; freed = f.freed; count = f.count; frames = f.frames; hand = f.hand };
          keeps = λ t. let g = k.keeps t in record { own = g.own; shut = g.shut; epoch = g.epoch; resizes = g.resizes; claimed = g.claimed; stored = g.stored };
          turns = k.turns;
          sizes = k.sizes;
          gate = k.gate;
          asked = k.asked;
          room = λ _. past_now s r;
          met = k.met;
        })),
        (r.h.now, r.freed, new_now s r by v.0 live k, refl, refl),
      )
