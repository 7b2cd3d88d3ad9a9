-- A producer's store of the place's number: the frame of its claim lies in the slot.
use Rattle.std.proofs.Common.{◌≡◌, ◌≢◌, ℕ, ◌+◌, ◌%◌, ◌≤◌, ◌<◌, eqb, List, [], ◌∷◌, set, Some, None, Option, true, false, refl, sym, ap, ◌∙◌, subst, ⊎_elim, inl, le_refl, arith, append-nil, length-set, mod-lt, le_of_eq, get_or-set_same, get_or-set_other}
use Rattle.std.specs.Prelude.{slice_index, slice_set}
use Rattle.std.proofs.lemmas.Bool.Decides.{eqb_tells}
use mathlib.Core.Option.{none, some, some-injective}
use lib.ListN.{get_elem?}
use Rattle.atomic_table.specs.Table.{step, Allows, gives}
use Rattle.atomic_table.proofs.Lists.{set_else, set_here}
use Rattle.tap_frame.specs.Frame.{FrameValue}
use Rattle.tap_ring.specs.declared.rule.Claim.{Claim}
use Rattle.tap_ring.specs.declared.rule.View.{View}
use Rattle.tap_ring.specs.declared.rule.Plan.{Plan}
use Rattle.tap_ring.specs.Standing.{RingState, Placing, slots_of, slot_at, word_at, IsEntered, IsPlace, Knows, Ring, times}
use Rattle.tap_ring.specs.Steps.{Seated, Puts}
use Rattle.tap_ring.proofs.Kit.{some_not_none, some_is, past_stays, mets_stay, entered_once, entered_below, total_set, slots_apart}
use Rattle.tap_ring.proofs.Counts.{sizes_same}
use Rattle.tap_ring.proofs.Stays.{Apart, seats_set, place_stays, word_same, home_same}
use Rattle.tap_ring.proofs.Loads.{hand_set}

module _ (plan : Plan) where
  module _ (s : RingState) (r : Ring plan s) (by : ℕ) (v : View) (c : Claim) (at : get_elem? s.views by ≡ some v) (putting : v.putting ≡ Some c) where
    abbrev spot : ℕ
    spot = slot_at s c.place

    abbrev put_view : View
    put_view = record v { putting = None }

    abbrev put_state : RingState
    put_state = record { words = set s.words (130 + spot) (c.place + 1); homes = set s.homes spot (some (Some c.frame)); views = set s.views by put_view }

    mine_put : IsEntered plan.first r.h.log c.place (record { by = by; claim = c }) × (r.h.lifted ≤ c.place) × (word_at s c.place ≤ c.place)
    mine_put = (r.seats by v at).claims.putting c putting

    put_below : c.place < r.h.now.claimed
    put_below = let b = entered_below plan.first r.h.log c.place (record { by = by; claim = c }) mine_put.0 in let l = r.long in omega (arith, b, l)

    put_from : r.h.now.freed ≤ c.place
    put_from = let a = mine_put.1 in let b = r.below in omega (arith, a, b)

    put_to : c.place < r.h.now.freed + slots_of s
    put_to = let a = put_below in let b = r.ahead in omega (arith, a, b)

    spot_in : spot < slots_of s
    spot_in = mod-lt c.place r.some_slot

    put_slots : slots_of put_state ≡ slots_of s
    put_slots = length-set s.homes spot (some (Some c.frame))

    put_low : (k : ℕ) → k < 130 → slice_index put_state.words k ≡ slice_index s.words k
    put_low k lt = get_or-set_other s.words (130 + spot) k (c.place + 1) 0 (λ e. omega (arith, e, lt))

    put_else : (p : ℕ) → slot_at s p ≢ spot → word_at put_state p ≡ word_at s p
    put_else p ne = word_same s put_state p put_slots (get_or-set_other s.words (130 + spot) (130 + slot_at s p) (c.place + 1) 0 (λ e. ne (omega (arith, e))))

    put_here : word_at put_state c.place ≡ c.place + 1
    put_here = ap (λ m. slice_index put_state.words (130 + c.place % m)) put_slots ∙ get_or-set_same s.words (130 + spot) (c.place + 1) 0 (let a = r.wide in let b = spot_in in omega (arith, a, b))

    put_place : IsPlace plan.first put_state r.h c.place
    put_place = record {
      word = le_of_eq put_here;
      lifted = λ t. let l = mine_put.1 in absurd (omega (arith, t, l));
      spare = λ t. let l = put_below in absurd (omega (arith, t, l));
      unput = λ t. let l = put_below in absurd (omega (arith, t, l));
      waits = λ _ _. inl (put_here, (record { by = by; claim = c }, mine_put.0, ap (λ m. get_elem? put_state.homes (c.place % m)) put_slots ∙ set_here s.homes spot (some (Some c.frame)) spot_in));
    }

    -- a place of the window that isn't the one that is put
    put_other : (p : ℕ) → p ≢ c.place → r.h.now.freed ≤ p → p < r.h.now.freed + slots_of s → slot_at s p ≢ spot
    put_other p ne a b = slots_apart (slots_of s) r.h.now.freed p c.place a b put_from put_to ne

    put_rest : (p : ℕ) → p ≢ c.place → r.h.now.freed ≤ p → p < r.h.now.freed + slots_of s → IsPlace plan.first put_state r.h p
    put_rest p ne a b = place_stays plan.first s put_state r.h r.h p [] (sym (append-nil r.h.log)) (put_else p (put_other p ne a b))
        (home_same s put_state p put_slots (set_else s.homes spot (slot_at s p) (some (Some c.frame)) (put_other p ne a b)))
        (λ t. t) (λ t. t) (λ t. t) (λ t. t)
        (λ j u d there is at_p. ⊎_elim
        (λ (t : (eqb j by ≡ true) × (j ≡ by)).
        let same : c ≡ d = some_is c d (sym putting ∙ ap (λ (x : View). x.putting) (some-injective v u (sym at ∙ sym (ap (get_elem? s.views) t.1) ∙ there)) ∙ is) in
        absurd (ne (sym at_p ∙ sym (ap (λ (x : Claim). x.place) same))))
        (λ (t : (eqb j by ≡ false) × (j ≢ by)). (u, set_else s.views by j put_view t.1 ∙ there, is))
        (eqb_tells j by))
        (hand_set plan s r.h by v put_view p at refl put_state r.h refl refl refl)
        (r.places p a b)

    -- a place in the ring that another claim has, or that is lifted next
    put_apart : (p : ℕ) → p ≢ c.place → r.h.lifted ≤ p → p < r.h.now.claimed → word_at put_state p ≡ word_at s p
    put_apart p ne low high = let a = r.below in let b = r.ahead in put_else p (put_other p ne (omega (arith, a, low)) (omega (arith, b, high)))

    put_hand : word_at s r.h.lifted ≡ r.h.lifted + 1 → word_at put_state r.h.lifted ≡ r.h.lifted + 1
    put_hand e =
        let low = mine_put.1 in
        let below = put_below in
        let ne : r.h.lifted ≢ c.place = λ same. let w = subst (λ m. word_at s m ≤ m) (sym same) mine_put.2 in omega (arith, w, e) in
        put_apart r.h.lifted ne (le_refl r.h.lifted) (omega (arith, low, below)) ∙ e

    put_others : Apart plan.first s put_state r.h r.h by
    put_others = record {
      goes = record {
        claimed = le_refl r.h.now.claimed;
        freed = le_refl r.h.now.freed;
        epoch = le_refl r.h.now.epoch;
        resizes = le_refl r.h.now.resizes;
        caps = λ k le. let f = r.fits.resizes in put_low (2 + k) (omega (arith, le, f));
        shut = λ _ e. e;
      };
      more = [];
      log = sym (append-nil r.h.log);
      slots = put_slots;
      consumer = λ _. refl;
      keeper = refl;
      front = λ _. (refl, refl, put_hand);
      gate = λ _. (refl, refl, refl, (λ _. refl), (λ le. put_low (2 + (r.h.now.resizes + 1)) (omega (arith, le))));
      turns = λ _. (refl, refl, refl);
      given = λ _ _ e. e;
      putting = λ j d ne e low word.
          let apart : d.place ≢ c.place = λ same. ne (ap (λ (x : Placing). x.by) (entered_once plan.first r.h.log d.place (record { by = j; claim = d }) (record { by = by; claim = c }) e (subst (λ m. IsEntered plan.first r.h.log m (record { by = by; claim = c })) (sym same) mine_put.0))) in
          let below = entered_below plan.first r.h.log d.place (record { by = j; claim = d }) e in
          let long = r.long in
          (low, subst (λ m. m ≤ d.place) (sym (put_apart d.place apart low (omega (arith, below, long)))) word);
    }

    putter : Knows plan put_state r.h by put_view
    putter =
        let k = r.seats by v at in
        record {
          claims = record { mine = k.claims.mine; idle = λ e. ((k.claims.idle e).0, refl); putting = λ d is. absurd (some_not_none d (sym is)) };
          front = λ t.
              let f = k.front t in
              record {
                own = f.own;
                next = f.next;
                freed = f.freed;
                count = f.count;
                frames = f.frames;
                hand = λ x is. let y = f.hand x is in (put_hand y.0, y.1);
              };
          keeps = λ t.
              let g = k.keeps t in
              record {
                own = g.own;
                shut = g.shut;
                epoch = g.epoch;
                resizes = g.resizes;
                claimed = g.claimed;
                stored = λ x is. let y = g.stored x is in let few = y.0 in (y.0, put_low (2 + (r.h.now.resizes + 1)) (omega (arith, few)) ∙ y.1, subst (λ m. x ≤ m) (sym put_slots) y.2);
              };
          turns = k.turns;
          sizes = k.sizes;
          gate = λ t. past_stays s.words put_state.words r.h.now r.h.now v.gate put_others.goes (k.gate t);
          asked = λ t. past_stays s.words put_state.words r.h.now r.h.now v.asked put_others.goes (k.asked t);
          room = λ t. past_stays s.words put_state.words r.h.now r.h.now v.room put_others.goes (k.room t);
          met = mets_stay s.words put_state.words r.h.now r.h.now v.met put_others.goes k.met;
        }

    pub put_ring : Ring plan put_state
    put_ring = record {
      h = r.h;
      some_slot = subst (λ m. 0 < m) (sym put_slots) r.some_slot;
      wide = length-set s.words (130 + spot) (c.place + 1) ∙ r.wide ∙ ap (λ m. 130 + m) (sym put_slots);
      gate = put_low 0 (omega arith) ∙ r.gate;
      freed = put_low 1 (omega arith) ∙ r.freed;
      capacity = (let f = r.fits.resizes in put_low (2 + r.h.now.resizes) (omega (arith, f))) ∙ r.capacity;
      fits = r.fits;
      small = subst (λ m. r.h.now.capacity ≤ m) (sym put_slots) r.small;
      start = r.start;
      below = r.below;
      behind = r.behind;
      ahead = subst (λ m. r.h.now.claimed ≤ r.h.now.freed + m) (sym put_slots) r.ahead;
      long = r.long;
      room = r.room;
      turns = r.turns;
      sizes = sizes_same plan.capacity s.words put_state.words r.h.now.resizes r.h.resized put_others.goes.caps r.sizes;
      places = λ p a b. ⊎_elim
          (λ (t : (eqb p c.place ≡ true) × (p ≡ c.place)). subst (λ m. IsPlace plan.first put_state r.h m) (sym t.1) put_place)
          (λ (t : (eqb p c.place ≡ false) × (p ≢ c.place)). put_rest p t.1 a (subst (λ m. p < r.h.now.freed + m) put_slots b))
          (eqb_tells p c.place);
      seats = seats_set plan s put_state r r.h by put_view refl put_others putter;
      parts = let t = total_set (λ x. x.parts) s.views by v put_view at in let o = r.parts in omega (arith, t, o);
      once = λ p. let t = total_set (λ x. times p x.mine) s.views by v put_view at in let o = r.once p in omega (arith, t, o);
    }

  puts_at : (n by : ℕ) (c : Claim) (more : List (ℕ × Option FrameValue)) (v : View) → v.putting ≡ Some c
      → Allows (Ring plan) n by (v, (c.place % n, Some c.frame) ∷ more) (130 + c.place % n) (λ _. c.place + 1)
      (λ _. Puts (step n (130 + c.place % n) (c.place + 1) 0 none) (v, (c.place % n, Some c.frame) ∷ more) (c.place + 1))
  puts_at n by c more v putting s r len at fits = (
    record v { putting = None },
    gives,
    tt,
    subst (λ m. Ring plan (record { words = slice_set s.words (130 + c.place % m) (c.place + 1); homes = slice_set s.homes (c.place % m) (some (Some c.frame)); views = slice_set s.views by (record v { putting = None }) }))
        len (put_ring s r by v c at putting),
    (refl, refl),
  )

  -- The place's number is stored: the frame of the claim lies in its slot.
  pub puts : (n by i new k : ℕ) (c : Claim) (more : List (ℕ × Option FrameValue)) (v : Seated) → v.0.putting ≡ Some c → v.1 ≡ (k, Some c.frame) ∷ more → k ≡ c.place % n → i ≡ 130 + k → new ≡ c.place + 1
      → Allows (Ring plan) n by v i (λ _. new) (λ _. Puts (step n i new 0 none) v new)
  puts n by i new k c more v putting has k_is i_is new_is =
      let spots : v.1 ≡ (c.place % n, Some c.frame) ∷ more = has ∙ ap (λ m. (m, Some c.frame) ∷ more) k_is in
      subst (λ (x : ℕ × ℕ × List (ℕ × Option FrameValue)). Allows (Ring plan) n by (v.0, x.2) x.0 (λ _. x.1) (λ _. Puts (step n x.0 x.1 0 none) (v.0, x.2) x.1))
      (λ j. (sym (i_is ∙ ap (λ m. 130 + m) k_is) j, sym new_is j, sym spots j))
      (puts_at n by c more v.0 putting)
