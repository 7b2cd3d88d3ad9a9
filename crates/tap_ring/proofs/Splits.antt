-- How tokens come from one seat.
use Rattle.std.proofs.Common.{◌≡◌, ◌≢◌, ℕ, ◌+◌, ◌<◌, eqb, [], ◌∷◌, ◌++◌, length, set, None, true, false, refl, sym, ap, ◌∙◌, subst, ⊎_elim, arith, append-nil, length-set}
use Rattle.std.proofs.lemmas.Bool.Decides.{eqb_tells}
use mathlib.Core.Option.{some, some-injective}
use lib.ListN.{get_elem?}
use Rattle.atomic_table.specs.Table.{Splits}
use Rattle.atomic_table.proofs.Lists.{at_longer, at_set, set_else}
use Rattle.tap_ring.specs.declared.rule.View.{View}
use Rattle.tap_ring.specs.declared.rule.Plan.{Plan}
use Rattle.tap_ring.specs.Standing.{RingState, Placing, Standing, IsEntered, EachClaim, KnowsClaims, Knows, Ring, times}
use Rattle.tap_ring.specs.Steps.{without_producer, one_producer, without_consumer, the_consumer}
use Rattle.tap_ring.proofs.Kit.{off, some_not_none, goes_same, at_snoc_where, total_set, total_snoc}
use Rattle.tap_ring.proofs.Stays.{Apart, Still, knows_apart, place_stays}

module _ (plan : Plan) where
  -- all seats, after one was cut in two
  seats_cut : (s s' : RingState) (r : Ring plan s) (h' : Standing) (by : ℕ) (left right : View) → s'.views ≡ set s.views by left ++ right ∷ []
      → Apart plan.first s s' r.h h' by → Knows plan s' h' by left → Knows plan s' h' (length s.views) right
      → (j : ℕ) (u : View) → get_elem? s'.views j ≡ some u → Knows plan s' h' j u
  seats_cut s s' r h' by left right is a mine new j u at = ⊎_elim
      (λ (t : (get_elem? (set s.views by left) j ≡ some u) × (j ≢ length (set s.views by left))). ⊎_elim
      (λ (y : (j ≡ by) × (left ≡ u)). subst (λ (z : ℕ × View). Knows plan s' h' z.0 z.1) (λ i. (sym y.0 i, y.1 i)) mine)
      (λ (y : (j ≢ by) × (get_elem? s.views j ≡ some u)). knows_apart plan s s' r h' by j u a y.0 (r.seats j u y.1))
      (at_set s.views by j left u t.0))
      (λ (t : (j ≡ length (set s.views by left)) × (right ≡ u)). subst (λ (z : ℕ × View). Knows plan s' h' z.0 z.1) (λ i. (sym (t.0 ∙ length-set s.views by left) i, t.1 i)) new)
      (at_snoc_where (set s.views by left) right u j (sym (ap (λ l. get_elem? l j) is) ∙ at))

  -- whoever is putting is putting still, where a seat that isn't was cut in two
  still_cut : (s : RingState) (by : ℕ) (v left right : View) (p : ℕ) → get_elem? s.views by ≡ some v → v.putting ≡ None
      → (s' : RingState) → s'.views ≡ set s.views by left ++ right ∷ [] → Still s s' p
  still_cut s by v left right p at idle s' is j u c there putting place = ⊎_elim
      (λ (t : (eqb j by ≡ true) × (j ≡ by)). absurd (some_not_none c (sym putting ∙ ap (λ (x : View). x.putting) (some-injective u v (sym there ∙ ap (get_elem? s.views) t.1 ∙ at)) ∙ idle)))
      (λ (t : (eqb j by ≡ false) × (j ≢ by)). (u, ap (λ l. get_elem? l j) is ∙ at_longer (set s.views by left) (right ∷ []) j u (set_else s.views by j left t.1 ∙ there), putting))
      (eqb_tells j by)

  -- a seat that has nothing under way is cut in two, and perhaps the consumer is the new one
  cut : (s : RingState) (r : Ring plan s) (by : ℕ) (v left right : View) (consumer : ℕ) → get_elem? s.views by ≡ some v → by ≡ r.h.consumer → v.in_hand ≡ None → v.putting ≡ None
      → left.parts + right.parts ≡ v.parts → ((p : ℕ) → times p left.mine + times p right.mine ≡ times p v.mine)
      → (let s' : RingState = record s { views = set s.views by left ++ right ∷ [] } in Knows plan s' (record r.h { consumer = consumer }) by left)
      → (let s' : RingState = record s { views = set s.views by left ++ right ∷ [] } in Knows plan s' (record r.h { consumer = consumer }) (length s.views) right)
      → Ring plan (record s { views = set s.views by left ++ right ∷ [] })
  cut s r by v left right consumer at own empty idle parts mine knows_left knows_right =
      let s' : RingState = record s { views = set s.views by left ++ right ∷ [] } in
      let h' : Standing = record r.h { consumer = consumer } in
      let others : Apart plan.first s s' r.h h' by = record {
        goes = goes_same s.words r.h.now;
        more = [];
        log = sym (append-nil r.h.log);
        slots = refl;
        consumer = λ ne. absurd (ne (sym own));
        keeper = refl;
        front = λ _. (refl, refl, (λ e. e));
        gate = λ _. (refl, refl, refl, (λ _. refl), (λ _. refl));
        turns = λ _. (refl, refl, refl);
        given = λ _ _ e. e;
        putting = λ j c ne e low word. (low, word);
      } in
      record {
        h = h';
        some_slot = r.some_slot;
        wide = r.wide;
        gate = r.gate;
        freed = r.freed;
        capacity = r.capacity;
        fits = r.fits;
        small = r.small;
        start = r.start;
        below = r.below;
        behind = r.behind;
        ahead = r.ahead;
        long = r.long;
        room = r.room;
        turns = r.turns;
        sizes = r.sizes;
        places = λ p a b. place_stays plan.first s s' r.h h' p [] (sym (append-nil r.h.log)) refl refl (λ t. t) (λ t. t) (λ t. t) (λ t. t)
            (still_cut s by v left right p at idle s' refl)
            (λ k. absurd (some_not_none k.1.1 (sym k.1.3 ∙ ap (λ (x : View). x.in_hand) (some-injective k.1.0 v (sym k.1.2 ∙ sym (ap (get_elem? s.views) own) ∙ at)) ∙ empty)))
            (r.places p a b);
        seats = seats_cut s s' r h' by left right refl others knows_left knows_right;
        parts =
            let t = total_set (λ x. x.parts) s.views by v left at in
            let u = total_snoc (λ x. x.parts) (set s.views by left) right in
            let o = r.parts in
            omega (arith, t, u, o, parts);
        once = λ p.
            let t = total_set (λ x. times p x.mine) s.views by v left at in
            let u = total_snoc (λ x. times p x.mine) (set s.views by left) right in
            let o = r.once p in
            let m = mine p in
            omega (arith, t, u, o, m);
      }

  -- what a producer knows that has claimed nothing
  pub no_claims : (s : RingState) (h : Standing) (j : ℕ) (v : View) → v.mine ≡ [] → v.putting ≡ None → KnowsClaims plan s h j v
  no_claims s h j v none_mine idle = record {
    mine = subst (EachClaim (λ c. (x : Placing) × IsEntered plan.first h.log c.place x × (x.claim ≡ c))) (sym none_mine) tt;
    idle = λ _. (none_mine, idle);
    putting = λ c is. absurd (some_not_none c (sym is ∙ idle));
  }

  -- one producer leaves the first seat
  pub splits_producer : (by : ℕ) (v : View) → v.takes ≡ true → v.in_hand ≡ None → v.putting ≡ None → v.mine ≡ [] → 0 < v.parts
      → Splits (Ring plan) by v (without_producer v) (one_producer v)
  splits_producer by v takes_is empty idle none_mine some_parts s r at =
      let k = r.seats by v at in
      let f = k.front takes_is in
      cut s r by v (without_producer v) (one_producer v) r.h.consumer at f.own empty idle (omega (arith, some_parts)) (λ p. let z = ap (times p) none_mine in omega (arith, z))
      (record {
        claims = no_claims (record s { views = set s.views by (without_producer v) ++ one_producer v ∷ [] }) (record r.h { consumer = r.h.consumer }) by (without_producer v) none_mine idle;
        front = λ e. let y = k.front e in record { own = y.own; next = y.next; freed = y.freed; count = y.count; frames = y.frames; hand = y.hand };
        keeps = λ e. let g = k.keeps e in record { own = g.own; shut = g.shut; epoch = g.epoch; resizes = g.resizes; claimed = g.claimed; stored = g.stored };
        turns = k.turns;
        sizes = k.sizes;
        gate = k.gate;
        asked = k.asked;
        room = k.room;
        met = k.met;
      })
      (record {
        claims = no_claims (record s { views = set s.views by (without_producer v) ++ one_producer v ∷ [] }) (record r.h { consumer = r.h.consumer }) (length s.views) (one_producer v) none_mine idle;
        front = λ e. absurd (off e);
        keeps = λ e. absurd (off e);
        turns = λ e. absurd (off e);
        sizes = k.sizes;
        gate = k.gate;
        asked = k.asked;
        room = k.room;
        met = k.met;
      })

  -- the consumer leaves the first seat
  pub splits_consumer : (by : ℕ) (v : View) → v.takes ≡ true → v.in_hand ≡ None → v.putting ≡ None → v.mine ≡ []
      → Splits (Ring plan) by v (without_consumer v) (the_consumer v)
  splits_consumer by v takes_is empty idle none_mine s r at =
      let k = r.seats by v at in
      let f = k.front takes_is in
      cut s r by v (without_consumer v) (the_consumer v) (length s.views) at f.own empty idle (omega arith) (λ p. let z = ap (times p) none_mine in omega (arith, z))
      (record {
        claims = no_claims (record s { views = set s.views by (without_consumer v) ++ the_consumer v ∷ [] }) (record r.h { consumer = length s.views }) by (without_consumer v) none_mine idle;
        front = λ e. absurd (off e);
        keeps = λ e. let g = k.keeps e in record { own = g.own; shut = g.shut; epoch = g.epoch; resizes = g.resizes; claimed = g.claimed; stored = g.stored };
        turns = k.turns;
        sizes = k.sizes;
        gate = k.gate;
        asked = k.asked;
        room = k.room;
        met = k.met;
      })
      (record {
        claims = no_claims (record s { views = set s.views by (without_consumer v) ++ the_consumer v ∷ [] }) (record r.h { consumer = length s.views }) (length s.views) (the_consumer v) none_mine idle;
        front = λ e. record { own = refl; next = f.next; freed = f.freed; count = f.count; frames = f.frames; hand = λ y is. absurd (some_not_none y (sym is ∙ empty)) };
        keeps = λ e. absurd (off e);
        turns = λ e. absurd (off e);
        sizes = k.sizes;
        gate = k.gate;
        asked = k.asked;
        room = k.room;
        met = k.met;
      })
