-- The consumer's load by which the front slot goes back, empty.
use Rattle.std.proofs.Common.{◌≡◌, ◌≢◌, ℕ, suc, ◌+◌, ◌%◌, ◌≤◌, ◌<◌, eqb, List, [], ◌∷◌, ◌++◌, take, length, set, Some, None, Option, true, false, refl, sym, ap, ◌∙◌, subst, ⊎_elim, arith, append-nil, length-append, length-set, mod-lt, le_of_eq}
use Rattle.std.specs.Prelude.{slice_set}
use Rattle.std.proofs.lemmas.List.{set-get_or}
use Rattle.std.proofs.lemmas.Bool.Decides.{eqb_tells}
use mathlib.Core.Option.{none, some}
use lib.ListN.{get_elem?}
use Rattle.atomic_table.specs.Table.{step, Allows, gives}
use Rattle.atomic_table.proofs.Lists.{set_else, set_here}
use Rattle.tap_frame.specs.Frame.{FrameValue}
use Rattle.tap_ring.specs.declared.rule.View.{View}
use Rattle.tap_ring.specs.declared.rule.Plan.{Plan}
use Rattle.tap_ring.specs.Standing.{RingState, Placing, Standing, slots_of, slot_at, word_at, IsEntered, IsPlace, KnowsFront, Knows, Ring, times}
use Rattle.tap_ring.specs.Steps.{Seated, Lifts, with_lifted}
use Rattle.tap_ring.proofs.Kit.{some_not_none, goes_same, entered_below, total_set, slots_apart}
use Rattle.tap_ring.proofs.Stays.{Apart, seats_set, place_stays, word_same, home_same}
use Rattle.tap_ring.proofs.Loads.{still_set}
use Rattle.tap_ring.proofs.Kit.{take_next}
use Rattle.tap_ring.specs.Standing.{frames_of}
use Rattle.atomic_table.proofs.Lists.{at_map}

module _ (plan : Plan) where
  module _ (s : RingState) (r : Ring plan s) (by : ℕ) (v : View) (frame : FrameValue) (at : get_elem? s.views by ≡ some v) (takes_is : v.takes ≡ true)
      (hand : v.in_hand ≡ Some frame) where
    abbrev lq : ℕ
    lq = r.h.lifted

    abbrev li : ℕ
    li = slot_at s lq

    abbrev lw : View
    lw = with_lifted frame v

    abbrev ls : RingState
    ls = record { words = s.words; homes = set s.homes li (some None); views = set s.views by lw }

    abbrev lh : Standing
    lh = record r.h { lifted = r.h.lifted + 1 }

    lknows : Knows plan s r.h by v
    lknows = r.seats by v at

    lfront : KnowsFront plan s r.h by v
    lfront = lknows.front takes_is

    lentry : (x : Placing) × IsEntered plan.first r.h.log lq x × (x.claim.frame ≡ frame)
    lentry = (lfront.hand frame hand).1

    llow : lq < r.h.now.claimed
    llow = let b = entered_below plan.first r.h.log lq lentry.0 lentry.1 in let l = r.long in omega (arith, b, l)

    lword : word_at s lq ≡ lq + 1
    lword = (lfront.hand frame hand).0

    lslots : slots_of ls ≡ slots_of s
    lslots = length-set s.homes li (some None)

    lplace_word : (p : ℕ) → word_at ls p ≡ word_at s p
    lplace_word p = word_same s ls p lslots refl

    lwindow : lq < r.h.now.freed + slots_of s
    lwindow = let a = r.ahead in let b = llow in omega (arith, a, b)

    lfront_place : IsPlace plan.first ls lh lq
    lfront_place = record {
      word = subst (λ m. m ≤ lq + 1) (sym (lplace_word lq)) (le_of_eq lword);
      lifted = λ _. ap (λ m. get_elem? ls.homes (lq % m)) lslots ∙ set_here s.homes li (some None) (mod-lt lq r.some_slot);
      spare = λ t. let b = llow in absurd (omega (arith, t, b));
      unput = λ t. let b = llow in absurd (omega (arith, t, b));
      waits = λ t _. absurd (omega (arith, t));
    }

    lother_place : (p : ℕ) → p ≢ lq → r.h.now.freed ≤ p → p < r.h.now.freed + slots_of s → IsPlace plan.first ls lh p
    lother_place p ne a b = place_stays plan.first s ls r.h lh p [] (sym (append-nil r.h.log)) (lplace_word p)
        (home_same s ls p lslots (set_else s.homes li (slot_at s p) (some None) (slots_apart (slots_of s) r.h.now.freed p lq a b r.below lwindow ne)))
        (λ t. omega (arith, t, ne)) (λ t. omega (arith, t)) (λ t. t) (λ t. t)
        (still_set plan s by v lw p at refl ls refl)
        (λ t. absurd (ne t.0))
        (r.places p a b)

    lothers : Apart plan.first s ls r.h lh by
    lothers = record {
      goes = goes_same s.words r.h.now;
      more = [];
      log = sym (append-nil r.h.log);
      slots = lslots;
      consumer = λ _. refl;
      keeper = refl;
      front = λ ne. absurd (ne (sym lfront.own));
      gate = λ _. (refl, refl, refl, (λ _. refl), (λ _. refl));
      turns = λ _. (refl, refl, refl);
      given = λ _ _ e. e;
      putting = λ j c ne e le m.
          let w = lword in
          let away : c.place ≢ lq = λ same. let u = subst (λ z. word_at s z ≤ z) same m in omega (arith, u, w) in
          (omega (arith, le, away), subst (λ z. z ≤ c.place) (sym (lplace_word c.place)) m);
    }

    frame_there : get_elem? (frames_of r.h.log) (length v.lifted) ≡ some frame
    frame_there =
        let e = lentry.1 in
        let is = e.1 in
        let c = lfront.count in
        ap (get_elem? (frames_of r.h.log)) (omega (arith, is, c)) ∙ at_map (λ (x : Placing). x.claim.frame) r.h.log e.0 lentry.0 e.3 ∙ ap some lentry.2

    lifter : Knows plan ls lh by lw
    lifter = record {
      claims = record {
        mine = lknows.claims.mine;
        idle = lknows.claims.idle;
        putting = λ c is.
            let t = lknows.claims.putting c is in
            let le = t.1 in
            let w = lword in
            let away : c.place ≢ lq = λ same. let u = subst (λ z. word_at s z ≤ z) same t.2 in omega (arith, u, w) in
            (t.0, omega (arith, le, away), subst (λ z. z ≤ c.place) (sym (lplace_word c.place)) t.2);
      };
      front = λ _. record {
        own = lfront.own;
        next = ap (λ m. m + 1) lfront.next;
        freed = lfront.freed;
        count = let c = lfront.count in let a = length-append v.lifted (frame ∷ []) in omega (arith, c, a);
        frames =
            let a = length-append v.lifted (frame ∷ []) in
            let more : suc (length v.lifted) ≡ length (v.lifted ++ frame ∷ []) = omega (arith, a) in
            ap (λ l. l ++ frame ∷ []) lfront.frames
            ∙ sym (take_next (length v.lifted) (frames_of r.h.log) frame frame_there)
            ∙ ap (λ m. take m (frames_of r.h.log)) more;
        hand = λ y is. absurd (some_not_none y (sym is));
      };
      keeps = λ t.
          let g = lknows.keeps t in
          record {
            own = g.own;
            shut = g.shut;
            epoch = g.epoch;
            resizes = g.resizes;
            claimed = g.claimed;
            stored = λ y is. let z = g.stored y is in (z.0, z.1, subst (λ m. y ≤ m) (sym lslots) z.2);
          };
      turns = lknows.turns;
      sizes = lknows.sizes;
      gate = lknows.gate;
      asked = lknows.asked;
      room = lknows.room;
      met = lknows.met;
    }

    pub lifted_ring : Ring plan ls
    lifted_ring = record {
      h = lh;
      some_slot = subst (λ m. 0 < m) (sym lslots) r.some_slot;
      wide = r.wide ∙ ap (λ m. 130 + m) (sym lslots);
      gate = r.gate;
      freed = r.freed;
      capacity = r.capacity;
      fits = r.fits;
      small = subst (λ m. r.h.now.capacity ≤ m) (sym lslots) r.small;
      start = r.start;
      below = let b = r.below in omega (arith, b);
      behind = let b = llow in omega (arith, b);
      ahead = subst (λ m. r.h.now.claimed ≤ r.h.now.freed + m) (sym lslots) r.ahead;
      long = r.long;
      room = r.room;
      turns = r.turns;
      sizes = r.sizes;
      places = λ p a b. ⊎_elim
          (λ (t : (eqb p lq ≡ true) × (p ≡ lq)). subst (λ m. IsPlace plan.first ls lh m) (sym t.1) lfront_place)
          (λ (t : (eqb p lq ≡ false) × (p ≢ lq)). lother_place p t.1 a (subst (λ m. p < r.h.now.freed + m) lslots b))
          (eqb_tells p lq);
      seats = seats_set plan s ls r lh by lw refl lothers lifter;
      parts = let t = total_set (λ y. y.parts) s.views by v lw at in let o = r.parts in omega (arith, t, o);
      once = λ p. let t = total_set (λ y. times p y.mine) s.views by v lw at in let o = r.once p in omega (arith, t, o);
    }

  lifts_at : (n by i : ℕ) (frame : FrameValue) (more : List (ℕ × Option FrameValue)) (v : View) → v.takes ≡ true → v.in_hand ≡ Some frame
      → Allows (Ring plan) n by (v, (v.next % n, None) ∷ more) i (λ m. m) (Lifts (step n i 0 0 none) (v, (v.next % n, None) ∷ more))
  lifts_at n by i frame more v takes_is hand s r len at fits =
      let next = ((r.seats by v at).front takes_is).next in
      let spot : slot_at s r.h.lifted ≡ v.next % n = ap (λ m. m % slots_of s) (sym next) ∙ ap (λ m. v.next % m) len in
      let w = with_lifted frame v in (
        w,
        gives,
        tt,
        subst (λ (x : List ℕ × ℕ). Ring plan (record { words = x.0; homes = slice_set s.homes x.1 (some None); views = slice_set s.views by w }))
            (λ j. (sym (set-get_or s.words i 0) j, spot j)) (lifted_ring s r by v frame at takes_is hand),
        (frame, hand, (let low = llow s r by v frame at takes_is hand in let few = r.fits.claimed in omega (arith, next, low, few)), refl, refl),
      )

  -- The front slot goes back, empty: the frame is lifted.
  pub lifts : (n by i k : ℕ) (frame : FrameValue) (more : List (ℕ × Option FrameValue)) (v : Seated) → v.0.takes ≡ true → v.0.in_hand ≡ Some frame → v.1 ≡ (k, None) ∷ more → k ≡ v.0.next % n
      → Allows (Ring plan) n by v i (λ m. m) (Lifts (step n i 0 0 none) v)
  lifts n by i k frame more v takes_is hand has k_is =
      let spots : v.1 ≡ (v.0.next % n, None) ∷ more = has ∙ ap (λ m. (m, None) ∷ more) k_is in
      subst (λ (x : List (ℕ × Option FrameValue)). Allows (Ring plan) n by (v.0, x) i (λ m. m) (Lifts (step n i 0 0 none) (v.0, x))) (sym spots)
      (lifts_at n by i frame more v.0 takes_is hand)
