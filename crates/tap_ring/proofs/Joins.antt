-- How tokens come to one seat again.
use Rattle.std.proofs.Common.{◌≡◌, ◌≢◌, ℕ, ◌+◌, eqb, [], ◌∷◌, set, None, true, false, refl, sym, ap, ◌∙◌, subst, ⊎_elim, arith, append-nil}
use Rattle.std.proofs.lemmas.Bool.Decides.{eqb_tells}
use mathlib.Core.Option.{some, some-injective}
use lib.ListN.{get_elem?}
use Rattle.atomic_table.specs.Table.{Joins}
use Rattle.atomic_table.proofs.Lists.{at_set, set_else}
use Rattle.tap_ring.specs.declared.rule.View.{View}
use Rattle.tap_ring.specs.declared.rule.Plan.{Plan}
use Rattle.tap_ring.specs.Standing.{RingState, Placing, Standing, IsEntered, Knows, Ring, times}
use Rattle.tap_ring.specs.Steps.{with_producer, with_keeper, spent_view}
use Rattle.tap_ring.specs.Tokens.{produced, kept}
use Rattle.tap_ring.proofs.Kit.{off, on, some_not_none, each_append, total_set, times-append, mets_both}
use Rattle.tap_ring.proofs.Counts.{given_append}
use Rattle.tap_ring.proofs.Stays.{Still, knows_apart, place_stays}
use Rattle.tap_ring.proofs.Loads.{apart_same}
use Rattle.tap_ring.proofs.Splits.{no_claims}

module _ (plan : Plan) where
  spent_knows : (s : RingState) (h : Standing) (j : ℕ) → Knows plan s h j spent_view
  spent_knows s h j = record {
    claims = no_claims plan s h j spent_view refl refl;
    front = λ e. absurd (off e);
    keeps = λ e. absurd (off e);
    turns = λ e. absurd (off e);
    sizes = tt;
    gate = λ e. absurd (on e);
    asked = λ e. absurd (on e);
    room = λ e. absurd (on e);
    met = tt;
  }

  -- all seats, after two became one
  seats_joined : (s s' : RingState) (h' : Standing) (by other : ℕ) (w : View) → s'.views ≡ set (set s.views by w) other spent_view → Knows plan s' h' by w
      → ((j : ℕ) (x : View) → j ≢ by → j ≢ other → get_elem? s.views j ≡ some x → Knows plan s' h' j x)
      → (j : ℕ) (x : View) → get_elem? s'.views j ≡ some x → Knows plan s' h' j x
  seats_joined s s' h' by other w is mine rest j x e = ⊎_elim
      (λ (t : (j ≡ other) × (spent_view ≡ x)). subst (Knows plan s' h' j) t.1 (spent_knows s' h' j))
      (λ (t : (j ≢ other) × (get_elem? (set s.views by w) j ≡ some x)). ⊎_elim
      (λ (y : (j ≡ by) × (w ≡ x)). subst (λ (z : ℕ × View). Knows plan s' h' z.0 z.1) (λ i. (sym y.0 i, y.1 i)) mine)
      (λ (y : (j ≢ by) × (get_elem? s.views j ≡ some x)). rest j x y.0 t.0 y.1)
      (at_set s.views by j w x t.1))
      (at_set (set s.views by w) other j spent_view x (sym (ap (λ l. get_elem? l j) is) ∙ e))

  -- whoever is putting is putting still, where two seats that aren't became one
  still_joined : (s : RingState) (by other : ℕ) (v u w : View) (p : ℕ) → get_elem? s.views by ≡ some v → get_elem? s.views other ≡ some u → v.putting ≡ None → u.putting ≡ None
      → (s' : RingState) → s'.views ≡ set (set s.views by w) other spent_view → Still s s' p
  still_joined s by other v u w p at there idle theirs_idle s' is j x c here putting place = ⊎_elim
      (λ (t : (eqb j by ≡ true) × (j ≡ by)). absurd (some_not_none c (sym putting ∙ ap (λ (y : View). y.putting) (some-injective x v (sym here ∙ ap (get_elem? s.views) t.1 ∙ at)) ∙ idle)))
      (λ (t : (eqb j by ≡ false) × (j ≢ by)). ⊎_elim
      (λ (z : (eqb j other ≡ true) × (j ≡ other)). absurd (some_not_none c (sym putting ∙ ap (λ (y : View). y.putting) (some-injective x u (sym here ∙ ap (get_elem? s.views) z.1 ∙ there)) ∙ theirs_idle)))
      (λ (z : (eqb j other ≡ false) × (j ≢ other)). (x, ap (λ l. get_elem? l j) is ∙ set_else (set s.views by w) other j spent_view z.1 ∙ set_else s.views by j w t.1 ∙ here, putting))
      (eqb_tells j other))
      (eqb_tells j by)

  -- the consumer's seat and another, neither with anything under way, become one, and perhaps the keeper is the new one
  join : (s : RingState) (r : Ring plan s) (by : ℕ) (v : View) (other : ℕ) (u w : View) (keeper : ℕ) → get_elem? s.views by ≡ some v → ¬ (other ≡ by) → get_elem? (set s.views by w) other ≡ some u
      → by ≡ r.h.consumer → v.in_hand ≡ None → v.putting ≡ None → u.putting ≡ None
      → w.parts ≡ v.parts + u.parts → ((p : ℕ) → times p w.mine ≡ times p v.mine + times p u.mine)
      → (let s' : RingState = record s { views = set (set s.views by w) other spent_view } in (j : ℕ) (x : View) → get_elem? s'.views j ≡ some x → Knows plan s' (record r.h { keeper = keeper }) j x)
      → Ring plan (record s { views = set (set s.views by w) other spent_view })
  join s r by v other u w keeper at apart there own empty idle theirs_idle parts mine seats =
      let s' : RingState = record s { views = set (set s.views by w) other spent_view } in
      let h' : Standing = record r.h { keeper = keeper } in
      record {
        h = h';
        some_slot = r.some_slot;
        wide = r.wide;
        gate = r.gate;
        freed = r.freed;
        capacity = r.capacity;
        fits = r.fits;
        small = r.small;
        start = r.start;
        below = r.below;
        behind = r.behind;
        ahead = r.ahead;
        long = r.long;
        room = r.room;
        turns = r.turns;
        sizes = r.sizes;
        places = λ p a b. place_stays plan.first s s' r.h h' p [] (sym (append-nil r.h.log)) refl refl (λ t. t) (λ t. t) (λ t. t) (λ t. t)
            (still_joined s by other v u w p at (sym (set_else s.views by other w apart) ∙ there) idle theirs_idle s' refl)
            (λ k. absurd (some_not_none k.1.1 (sym k.1.3 ∙ ap (λ (x : View). x.in_hand) (some-injective k.1.0 v (sym k.1.2 ∙ sym (ap (get_elem? s.views) own) ∙ at)) ∙ empty)))
            (r.places p a b);
        seats = seats;
        parts =
            let t = total_set (λ x. x.parts) s.views by v w at in
            let y = total_set (λ x. x.parts) (set s.views by w) other u spent_view there in
            let o = r.parts in
            omega (arith, t, y, o, parts);
        once = λ p.
            let t = total_set (λ x. times p x.mine) s.views by v w at in
            let y = total_set (λ x. times p x.mine) (set s.views by w) other u spent_view there in
            let o = r.once p in
            let m = mine p in
            omega (arith, t, y, o, m);
      }

  -- ---- a producer's claims come to the consumer's seat

  pub joins_producer : (by : ℕ) (v : View) (other : ℕ) (u : View) → v.takes ≡ true → v.in_hand ≡ None → v.putting ≡ None → u.putting ≡ None → u.spent ≡ false → u.parts ≡ 1
      → Joins (Ring plan) by v other u (with_producer v (produced u)) spent_view
  joins_producer by v other u takes_is empty idle theirs_idle live one s r at apart there =
      let w = with_producer v (produced u) in
      let s' : RingState = record s { views = set (set s.views by w) other spent_view } in
      let k = r.seats by v at in
      let theirs = r.seats other u (sym (set_else s.views by other w apart) ∙ there) in
      let f = k.front takes_is in
      let knows : Knows plan s' r.h by w = record {
        claims = record {
          mine = each_append (λ c. (x : Placing) × IsEntered plan.first r.h.log c.place x × (x.claim ≡ c)) v.mine u.mine k.claims.mine theirs.claims.mine;
          idle = λ e. absurd (omega (arith, e));
          putting = λ c is. absurd (some_not_none c (sym is ∙ idle));
        };
        front = λ e. record { own = f.own; next = f.next; freed = f.freed; count = f.count; frames = f.frames; hand = f.hand };
        keeps = λ e. let g = k.keeps e in record { own = g.own; shut = g.shut; epoch = g.epoch; resizes = g.resizes; claimed = g.claimed; stored = g.stored };
        turns = k.turns;
        sizes = given_append plan.capacity r.h.resized v.loaded u.loaded k.sizes theirs.sizes;
        gate = k.gate;
        asked = k.asked;
        room = k.room;
        met = mets_both s.words r.h.now v.met (u.gate ∷ u.asked ∷ u.room ∷ []) k.met (theirs.gate live, (theirs.asked live, (theirs.room live, tt)));
      } in
      join s r by v other u w r.h.keeper at apart there f.own empty idle theirs_idle (omega (arith, one)) (λ p. times-append p v.mine u.mine)
      (seats_joined s s' r.h by other w refl knows (λ j x ne _ e. knows_apart plan s s' r r.h by j x (apart_same plan s r.h by s'.views) ne (r.seats j x e)))

  -- ---- the keeper's part comes to the consumer's seat

  pub joins_keeper : (by : ℕ) (v : View) (other : ℕ) (u : View) → v.takes ≡ true → v.in_hand ≡ None → v.putting ≡ None
      → u.keeps ≡ true → u.spent ≡ false → u.parts ≡ 0 → u.mine ≡ [] → u.putting ≡ None
      → Joins (Ring plan) by v other u (with_keeper v (kept u)) spent_view
  joins_keeper by v other u takes_is empty idle keeps_is live no_parts no_mine theirs_idle s r at apart there =
      let w = with_keeper v (kept u) in
      let s' : RingState = record s { views = set (set s.views by w) other spent_view } in
      let h' : Standing = record r.h { keeper = by } in
      let k = r.seats by v at in
      let theirs = r.seats other u (sym (set_else s.views by other w apart) ∙ there) in
      let f = k.front takes_is in
      let g = theirs.keeps keeps_is in
      let knows : Knows plan s' h' by w = record {
        claims = record { mine = k.claims.mine; idle = k.claims.idle; putting = k.claims.putting };
        front = λ e. record { own = f.own; next = f.next; freed = f.freed; count = f.count; frames = f.frames; hand = f.hand };
        keeps = λ _. record { own = refl; shut = g.shut; epoch = g.epoch; resizes = g.resizes; claimed = g.claimed; stored = λ c is. absurd (some_not_none c (sym is)) };
        turns = λ _. theirs.turns keeps_is;
        sizes = k.sizes;
        gate = λ _. theirs.gate live;
        asked = k.asked;
        room = k.room;
        met = k.met;
      } in
      join s r by v other u w by at apart there f.own empty idle theirs_idle (omega (arith, no_parts)) (λ p. let m = ap (times p) no_mine in omega (arith, m))
      (seats_joined s s' h' by other w refl knows (λ j x _ ne e.
      let o = r.seats j x e in
      record {
        claims = record { mine = o.claims.mine; idle = o.claims.idle; putting = o.claims.putting };
        front = λ t. let y = o.front t in record { own = y.own; next = y.next; freed = y.freed; count = y.count; frames = y.frames; hand = y.hand };
        keeps = λ t. absurd (ne ((o.keeps t).own ∙ sym g.own));
        turns = o.turns;
        sizes = o.sizes;
        gate = o.gate;
        asked = o.asked;
        room = o.room;
        met = o.met;
      }))
