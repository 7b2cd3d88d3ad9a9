-- The consumer's addition to the freed count.
use Rattle.std.proofs.Common.{◌≡◌, ◌≢◌, ℕ, ◌+◌, ◌^◌, ◌%◌, ◌≤◌, ◌<◌, eqb, [], set, true, false, refl, sym, ap, ◌∙◌, subst, ⊎_elim, inl, inr, le_refl, arith, append-nil, length-set, get_or-set_same, get_or-set_other}
use Rattle.std.specs.Prelude.{slice_index}
use Rattle.std.proofs.lemmas.Bool.Decides.{eqb_tells}
use mathlib.Core.Option.{none, some}
use lib.ListN.{get_elem?}
use native.Mathlib.Nat.{add-mod_right}
use Rattle.atomic_table.specs.Table.{step, Allows, keeps}
use Rattle.tap_ring.specs.declared.rule.View.{View}
use Rattle.tap_ring.specs.declared.rule.Plan.{Plan}
use Rattle.tap_ring.specs.Standing.{RingState, Standing, slots_of, slot_at, word_at, IsPlace, KnowsFront, Knows, Ring, times}
use Rattle.tap_ring.specs.Steps.{Seated, Frees}
use Rattle.tap_ring.proofs.Kit.{past_stays, mets_stay, total_set}
use Rattle.tap_ring.proofs.Counts.{sizes_same}
use Rattle.tap_ring.proofs.Stays.{Apart, seats_set, place_stays}
use Rattle.tap_ring.proofs.Loads.{still_set, hand_set}
use Rattle.tap_ring.proofs.Claims.{caps_apart, place_words_apart}

module _ (plan : Plan) where
  module _ (s : RingState) (r : Ring plan s) (by : ℕ) (v : View) (n : ℕ) (at : get_elem? s.views by ≡ some v) (takes_is : v.takes ≡ true)
      (some_lifted : v.freed < v.next) (word : n ≡ r.h.now.freed + 1) where
    abbrev fw : View
    fw = record v { freed = v.freed + 1 }

    abbrev fs : RingState
    fs = record { words = set s.words 1 n; homes = s.homes; views = set s.views by fw }

    abbrev fh : Standing
    fh = record r.h { now = record r.h.now { freed = r.h.now.freed + 1 } }

    fknows : Knows plan s r.h by v
    fknows = r.seats by v at

    ffront : KnowsFront plan s r.h by v
    ffront = fknows.front takes_is

    fbelow : r.h.now.freed < r.h.lifted
    fbelow = let a = ffront.next in let b = ffront.freed in omega (arith, a, b, some_lifted)

    fplace_word : (p : ℕ) → word_at fs p ≡ word_at s p
    fplace_word p = place_words_apart plan s.words 1 n (slot_at s p) (omega arith)

    -- the place that comes into reach has the slot of the freed one
    new_reach : IsPlace plan.first fs fh (r.h.now.freed + slots_of s)
    new_reach =
        let old = r.places r.h.now.freed (le_refl r.h.now.freed) (let pos = r.some_slot in omega (arith, pos)) in
        let slot : slot_at s (r.h.now.freed + slots_of s) ≡ slot_at s r.h.now.freed = add-mod_right r.h.now.freed (slots_of s) in
        let pos = r.some_slot in
        let same : word_at fs (r.h.now.freed + slots_of s) ≡ word_at s r.h.now.freed = fplace_word (r.h.now.freed + slots_of s) ∙ ap (λ m. slice_index s.words (130 + m)) slot in
        let m = old.word in
        let ahead = r.ahead in
        let behind = r.behind in
        record {
          word = omega (arith, same, m, pos);
          lifted = λ t. absurd (omega (arith, t, ahead, behind));
          spare = λ _. ap (get_elem? s.homes) slot ∙ old.lifted fbelow;
          unput = λ _. omega (arith, same, m, pos);
          waits = λ _ t. absurd (omega (arith, t, ahead));
        }

    old_reach : (p : ℕ) → r.h.now.freed ≤ p → p < r.h.now.freed + slots_of s → IsPlace plan.first fs fh p
    old_reach p a b = place_stays plan.first s fs r.h fh p [] (sym (append-nil r.h.log)) (fplace_word p) refl (λ t. t) (λ t. t) (λ t. t) (λ t. t)
        (still_set plan s by v fw p at refl fs refl)
        (hand_set plan s r.h by v fw p at refl fs fh refl refl refl)
        (r.places p a b)

    fothers : Apart plan.first s fs r.h fh by
    fothers = record {
      goes = record {
        claimed = le_refl r.h.now.claimed;
        freed = omega arith;
        epoch = le_refl r.h.now.epoch;
        resizes = le_refl r.h.now.resizes;
        caps = λ k _. caps_apart plan s.words 1 n k (omega arith);
        shut = λ _ e. e;
      };
      more = [];
      log = sym (append-nil r.h.log);
      slots = refl;
      consumer = λ _. refl;
      keeper = refl;
      front = λ ne. absurd (ne (sym ffront.own));
      gate = λ _. (refl, refl, refl, (λ _. refl), (λ _. caps_apart plan s.words 1 n (r.h.now.resizes + 1) (omega arith)));
      turns = λ _. (refl, refl, refl);
      given = λ _ _ e. e;
      putting = λ j c ne e le m. (le, subst (λ z. z ≤ c.place) (sym (fplace_word c.place)) m);
    }

    freer : Knows plan fs fh by fw
    freer = record {
      claims = record {
        mine = fknows.claims.mine;
        idle = fknows.claims.idle;
        putting = λ c is. let t = fknows.claims.putting c is in (t.0, t.1, subst (λ z. z ≤ c.place) (sym (fplace_word c.place)) t.2);
      };
      front = λ _. record {
        own = ffront.own;
        next = ffront.next;
        freed = ap (λ m. m + 1) ffront.freed;
        count = ffront.count;
        frames = ffront.frames;
        hand = λ y is. let t = ffront.hand y is in (fplace_word r.h.lifted ∙ t.0, t.1);
      };
      keeps = λ t.
          let g = fknows.keeps t in
          record {
            own = g.own;
            shut = g.shut;
            epoch = g.epoch;
            resizes = g.resizes;
            claimed = g.claimed;
            stored = λ y is. let z = g.stored y is in (z.0, caps_apart plan s.words 1 n (r.h.now.resizes + 1) (omega arith) ∙ z.1, z.2);
          };
      turns = fknows.turns;
      sizes = fknows.sizes;
      gate = λ t. past_stays s.words fs.words r.h.now fh.now v.gate fothers.goes (fknows.gate t);
      asked = λ t. past_stays s.words fs.words r.h.now fh.now v.asked fothers.goes (fknows.asked t);
      room = λ t. past_stays s.words fs.words r.h.now fh.now v.room fothers.goes (fknows.room t);
      met = mets_stay s.words fs.words r.h.now fh.now v.met fothers.goes fknows.met;
    }

    pub freed_ring : Ring plan fs
    freed_ring =
        let wide = r.wide in
        let start = r.start in
        let ahead = r.ahead in
        record {
          h = fh;
          some_slot = r.some_slot;
          wide = length-set s.words 1 n ∙ r.wide;
          gate = get_or-set_other s.words 1 0 n 0 (λ e. omega (arith, e)) ∙ r.gate;
          freed = get_or-set_same s.words 1 n 0 (omega (arith, wide)) ∙ word;
          capacity = caps_apart plan s.words 1 n r.h.now.resizes (omega arith) ∙ r.capacity;
          fits = record { claimed = r.fits.claimed; epoch = r.fits.epoch; resizes = r.fits.resizes };
          small = r.small;
          start = omega (arith, start);
          below = let b = fbelow in omega (arith, b);
          behind = r.behind;
          ahead = omega (arith, ahead);
          long = r.long;
          room = ⊎_elim
              (λ (t : r.h.now.claimed ≤ r.h.now.freed + r.h.now.capacity). inl (omega (arith, t)))
              (λ (t : r.h.now.claimed ≡ r.h.resized_from). inr t)
              r.room;
          turns = r.turns;
          sizes = sizes_same plan.capacity s.words fs.words r.h.now.resizes r.h.resized fothers.goes.caps r.sizes;
          places = λ p a b. ⊎_elim
              (λ (t : (eqb p (r.h.now.freed + slots_of s) ≡ true) × (p ≡ r.h.now.freed + slots_of s)). subst (λ m. IsPlace plan.first fs fh m) (sym t.1) new_reach)
              (λ (t : (eqb p (r.h.now.freed + slots_of s) ≡ false) × (p ≢ r.h.now.freed + slots_of s)). let ne = t.1 in old_reach p (omega (arith, a)) (omega (arith, b, ne)))
              (eqb_tells p (r.h.now.freed + slots_of s));
          seats = seats_set plan s fs r fh by fw refl fothers freer;
          parts = let t = total_set (λ y. y.parts) s.views by v fw at in let o = r.parts in omega (arith, t, o);
          once = λ p. let t = total_set (λ y. times p y.mine) s.views by v fw at in let o = r.once p in omega (arith, t, o);
        }

  -- One is added to the freed count: a place that was lifted is free again.
  pub frees : (n by : ℕ) (v : Seated) → v.0.takes ≡ true → v.0.freed < v.0.next
      → Allows (Ring plan) n by v 1 (λ m. (m + 1) % 2 ^ 64) (Frees (step n 1 1 0 none) v)
  frees n by v takes_is some_lifted s r len at fits =
      let f = (r.seats by v.0 at).front takes_is in
      let is = r.freed in
      let below = r.below in
      let behind = r.behind in
      let few = r.fits.claimed in (
        record v.0 { freed = v.0.freed + 1 },
        keeps,
        tt,
        freed_ring s r by v.0 ((slice_index s.words 1 + 1) % 2 ^ 64) at takes_is some_lifted (omega (arith, is, below, behind, few)),
        (r.freed ∙ sym f.freed, refl, refl),
      )
