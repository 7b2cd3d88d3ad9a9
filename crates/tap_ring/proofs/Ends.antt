-- What the rule says once all producers' claims are with the consumer's seat: whose each place is, and what lies in each slot.
use Rattle.std.proofs.Common.{◌≡◌, ◌≢◌, ◌⊎◌, ℕ, zero, suc, ◌+◌, ◌-◌, ◌%◌, ◌≤◌, ◌<◌, eqb, List, [], ◌∷◌, ◌++◌, take, drop, length, Some, None, Option, true, false, refl, sym, ap, ◌∙◌, subst, ⊎_elim, le_refl, arith, length-append, length-drop, take-append-drop, mod-lt}
use Rattle.std.specs.Prelude.{slice_index, slice_index_or, Contains}
use Rattle.std.proofs.lemmas.Bool.Decides.{eqb_tells}
use Rattle.std.proofs.lemmas.List.{length-map}
use mathlib.Core.Option.{some, some-ne-none, some-injective}
use lib.ListN.{get_elem?}
use native.Mathlib.Nat.{mod-add-mod}
use Rattle.atomic_table.specs.Table.{Final, Seen}
use Rattle.tap_frame.specs.Frame.{FrameValue}
use Rattle.tap_ring.specs.declared.rule.Moment.{Moment}
use Rattle.tap_ring.specs.declared.rule.Claim.{Claim}
use Rattle.tap_ring.specs.declared.rule.Produced.{Produced}
use Rattle.tap_ring.specs.declared.rule.Kept.{Kept}
use Rattle.tap_ring.specs.declared.gate.TheConstants.{CLAIMS_END}
use Rattle.tap_ring.specs.declared.rule.View.{View}
use Rattle.tap_ring.specs.declared.rule.Plan.{Plan}
use Rattle.tap_ring.specs.GateWord.{claimed_of}
use Rattle.tap_ring.specs.Turns.{turns_to, IsGiven, EachGiven}
use Rattle.tap_ring.specs.Standing.{RingState, Placing, slots_of, home_at, IsEntered, IsReady, IsClaimed, IsInHand, EachClaim, KnowsFront, Ring, frames_of, times, total, within}
use Rattle.tap_ring.specs.Steps.{with_producer, with_keeper}
use Rattle.tap_ring.specs.Tokens.{Token, consumed}
use Rattle.tap_ring.specs.Moments.{KeepsRoom, IsPast, EachPast, IsBefore, capacity_at}
use Rattle.tap_ring.specs.Finish.{StandsIn, AllClaims, AllGiven, AllBefore, EpochsNeverFall, IsEnd, claims_of, claims_to}
use Rattle.tap_ring.specs.Leaving.{present, slots_from, gathered}
use Rattle.tap_ring.proofs.Kit.{some_not_none, before_end, each_append, each_map, times-append, mets_parts}
use Rattle.tap_ring.proofs.Counts.{turns_rise, given_parts}
use Rattle.tap_ring.proofs.Lines.{get_drop, slice_there, map_there, rotated, present_is}
use Rattle.tap_ring.proofs.Causes.{word_parts}
use Rattle.atomic_table.proofs.Lists.{at_map}

-- ---- sums over views of which one has all

one_of : (f : View → ℕ) (l : List View) (i : ℕ) (a : View) → get_elem? l i ≡ some a → f a ≤ total f l
one_of f [] i a e = absurd (some-ne-none a (sym e))
one_of f (x ∷ xs) zero a e = let same = ap f (some-injective x a e) in omega (arith, same)
one_of f (x ∷ xs) (suc i) a e = let r = one_of f xs i a e in omega (arith, r)

two_of : (f : View → ℕ) (l : List View) (i j : ℕ) (a b : View) → get_elem? l i ≡ some a → get_elem? l j ≡ some b → i ≢ j → f a + f b ≤ total f l
two_of f [] i j a b e g ne = absurd (some-ne-none a (sym e))
two_of f (x ∷ xs) zero zero a b e g ne = absurd (ne refl)
two_of f (x ∷ xs) zero (suc j) a b e g ne = let same = ap f (some-injective x a e) in let r = one_of f xs j b g in omega (arith, same, r)
two_of f (x ∷ xs) (suc i) zero a b e g ne = let same = ap f (some-injective x b g) in let r = one_of f xs i a e in omega (arith, same, r)
two_of f (x ∷ xs) (suc i) (suc j) a b e g ne = let r = two_of f xs i j a b e g (λ h. ne (ap suc h)) in omega (arith, r)

none_of : (f : View → ℕ) (l : List View) → ((j : ℕ) (b : View) → get_elem? l j ≡ some b → f b ≡ 0) → total f l ≡ 0
none_of f [] all = refl
none_of f (x ∷ xs) all = let a = all 0 x refl in let r = none_of f xs (λ j. all (suc j)) in omega (arith, a, r)

all_of : (f : View → ℕ) (l : List View) (i : ℕ) (a : View) → get_elem? l i ≡ some a → ((j : ℕ) (b : View) → j ≢ i → get_elem? l j ≡ some b → f b ≡ 0) → total f l ≡ f a
all_of f [] i a e all = absurd (some-ne-none a (sym e))
all_of f (x ∷ xs) zero a e all = let same = ap f (some-injective x a e) in let r = none_of f xs (λ j b at. all (suc j) b (λ z. omega (arith, z)) at) in omega (arith, same, r)
all_of f (x ∷ xs) (suc i) a e all =
    let z = all 0 x (λ h. omega (arith, h)) refl in
    let r = all_of f xs i a e (λ j b ne at. all (suc j) b (λ h. ne (omega (arith, h))) at) in
    omega (arith, z, r)

-- ---- what was gathered

pub gathered_times : (p : ℕ) (v : View) (all : List (Token Produced)) → v.mine ≡ [] → times p (gathered v all).mine ≡ claims_to p all
gathered_times p v [] none_mine = ap (times p) none_mine
gathered_times p v (t ∷ ts) none_mine =
    let r = gathered_times p v ts none_mine in
    let a = times-append p (gathered v ts).mine t.view.mine in
    omega (arith, r, a)

each_parts : (P : Claim → Type 0) (xs ys : List Claim) → EachClaim P (xs ++ ys) → EachClaim P xs × EachClaim P ys
each_parts P [] ys e = (tt, e)
each_parts P (x ∷ xs) ys e = let r = each_parts P xs ys e.1 in ((e.0, r.0), r.1)

gathered_claims : (P : Claim → Type 0) (v : View) (all : List (Token Produced)) → EachClaim P (gathered v all).mine → AllClaims P all
gathered_claims P v [] e = tt
gathered_claims P v (t ∷ ts) e = let r = each_parts P (gathered v ts).mine t.view.mine e in (r.1, gathered_claims P v ts r.0)

gathered_given : (first : ℕ) (resized : List ℕ) (v : View) (all : List (Token Produced)) → EachGiven first resized (gathered v all).loaded → AllGiven first resized all
gathered_given first resized v [] e = tt
gathered_given first resized v (t ∷ ts) e = let r = given_parts first resized (gathered v ts).loaded t.view.loaded e in (r.1, gathered_given first resized v ts r.0)

-- ---- epochs along the places

claims_each : (P : Claim → Type 0) (all : List (Token Produced)) → AllClaims P all → EachClaim P (claims_of all)
claims_each P [] a = tt
claims_each P (t ∷ ts) a = each_append P t.view.mine (claims_of ts) a.0 (claims_each P ts a.1)

each_there : (P : Claim → Type 0) (xs : List Claim) (c : Claim) → EachClaim P xs → Contains xs c → P c
each_there P [] c a e = let lt = e.1 in absurd (omega (arith, lt))
each_there P (x ∷ xs) c a e = go (each_there P xs c a.1) e.0 e.1 e.2
  where
    go : (Contains xs c → P c) → (k : ℕ) → k < length (x ∷ xs) → slice_index_or (x ∷ xs) k c ≡ c → P c
    go behind zero lt is = subst P is a.0
    go behind (suc k) lt is = behind (k, omega (arith, lt), is)

-- who counts the reopenings up to a place never counts less at a further one
epochs_rise : (opened : List ℕ) (all : List (Token Produced)) → AllClaims (λ x. x.epoch ≡ turns_to x.place opened) all → EpochsNeverFall (claims_of all)
epochs_rise opened all a c d in_c in_d le =
    let each = claims_each (λ x. x.epoch ≡ turns_to x.place opened) all a in
    let low = each_there (λ x. x.epoch ≡ turns_to x.place opened) (claims_of all) c each in_c in
    let high = each_there (λ x. x.epoch ≡ turns_to x.place opened) (claims_of all) d each in_d in
    let rise = turns_rise c.place d.place opened le in
    omega (arith, low, high, rise)

-- the consumer's part stays as it was
pub gathered_front : (v : View) (all : List (Token Produced)) → ((gathered v all).takes ≡ v.takes) × ((gathered v all).next ≡ v.next) × ((gathered v all).lifted ≡ v.lifted) × ((gathered v all).in_hand ≡ v.in_hand) × ((gathered v all).freed ≡ v.freed) × ((gathered v all).putting ≡ v.putting)
gathered_front v [] = (refl, refl, refl, refl, refl, refl)
gathered_front v (t ∷ ts) = gathered_front v ts

-- and the keeper's
gathered_gate : (v : View) (all : List (Token Produced)) → ((gathered v all).keeps ≡ v.keeps) × ((gathered v all).gate ≡ v.gate) × ((gathered v all).spent ≡ v.spent) × ((gathered v all).opened ≡ v.opened) × ((gathered v all).resized ≡ v.resized) × ((gathered v all).resized_from ≡ v.resized_from)
gathered_gate v [] = (refl, refl, refl, refl, refl, refl)
gathered_gate v (t ∷ ts) = gathered_gate v ts

pub gathered_snoc : (v : View) (all : List (Token Produced)) (t : Token Produced) → gathered v (all ++ t ∷ []) ≡ gathered (with_producer v t.view) all
gathered_snoc v [] t = refl
gathered_snoc v (x ∷ xs) t = ap (λ (y : View). with_producer y x.view) (gathered_snoc v xs t)

-- what each producer saw lies behind
before_of : (ws : List ℕ) (now m last : Moment) (claimed freed : ℕ) → now.claimed ≡ claimed → now.freed ≡ freed → now.epoch ≡ last.epoch → now.resizes ≡ last.resizes → now.shut ≡ last.shut
    → IsPast ws now m → IsBefore claimed freed last m
before_of ws now m last claimed freed a b c d e p =
    let pa = p.claimed in
    let pb = p.freed in
    let pc = p.epoch in
    let pd = p.resizes in
    record {
      claimed = omega (arith, a, pa);
      freed = omega (arith, b, pb);
      epoch = omega (arith, c, pc);
      resizes = omega (arith, d, pd);
      shut = λ same shut. sym e ∙ p.shut (same ∙ sym c) shut;
    }

gathered_seen : (ws : List ℕ) (now last : Moment) (claimed freed : ℕ) → now.claimed ≡ claimed → now.freed ≡ freed → now.epoch ≡ last.epoch → now.resizes ≡ last.resizes → now.shut ≡ last.shut
    → (v : View) (all : List (Token Produced)) → EachPast ws now (gathered v all).met → AllBefore claimed freed last all
gathered_seen ws now last claimed freed a b c d e v [] past = tt
gathered_seen ws now last claimed freed a b c d e v (t ∷ ts) past =
    let r = mets_parts ws now (gathered v ts).met (t.view.gate ∷ t.view.asked ∷ t.view.room ∷ []) past in
    let is : (m : Moment) → IsPast ws now m → IsBefore claimed freed last m = λ m. before_of ws now m last claimed freed a b c d e in
    ((is t.view.gate r.1.0, is t.view.asked r.1.1.0, is t.view.room r.1.1.1.0), gathered_seen ws now last claimed freed a b c d e v ts r.0)

-- ---- the end

module _ (plan : Plan) (s : RingState) (r : Ring plan s) (id : ℕ) (w : View) (at : get_elem? s.views id ≡ some w) (takes_is : w.takes ≡ true) (empty : w.in_hand ≡ None) (idle : w.putting ≡ None) (parts : w.parts ≡ plan.producers) where
  mine : KnowsFront plan s r.h id w
  mine = (r.seats id w at).front takes_is

  others : (j : ℕ) (b : View) → j ≢ id → get_elem? s.views j ≡ some b → (b.mine ≡ []) × (b.putting ≡ None)
  others j b ne there =
      let t = two_of (λ (x : View). x.parts) s.views id j w b at there (λ e. ne (sym e)) in
      let o = r.parts in
      (r.seats j b there).claims.idle (omega (arith, t, o, parts))

  -- each claim has the epoch of its place
  pub epochs_mine : EachClaim (λ c. c.epoch ≡ turns_to c.place r.h.opened) w.mine
  epochs_mine = each_map (λ c. (x : Placing) × IsEntered plan.first r.h.log c.place x × (x.claim ≡ c)) (λ c. c.epoch ≡ turns_to c.place r.h.opened) w.mine
      (λ c t. sym (ap (λ (d : Claim). d.epoch) t.2) ∙ r.turns.claims c.place t.0 t.1)
      (r.seats id w at).claims.mine

  pub once_mine : (p : ℕ) → times p w.mine ≡ within plan.first r.h.now.claimed p
  once_mine p = sym (all_of (λ (x : View). times p x.mine) s.views id w at (λ j b ne there. ap (times p) (others j b ne there).0)) ∙ r.once p

  -- nobody is putting any more
  nobody : (j : ℕ) (b : View) (c : Claim) → get_elem? s.views j ≡ some b → b.putting ≡ Some c → ⊥
  nobody j b c there putting = ⊎_elim
      (λ (t : (eqb j id ≡ true) × (j ≡ id)). some_not_none c (sym putting ∙ ap (λ (x : View). x.putting) (some-injective b w (sym there ∙ ap (get_elem? s.views) t.1 ∙ at)) ∙ idle))
      (λ (t : (eqb j id ≡ false) × (j ≢ id)). some_not_none c (sym putting ∙ (others j b t.1 there).1))
      (eqb_tells j id)

  ready : (p : ℕ) → r.h.lifted ≤ p → p < r.h.now.claimed → IsReady plan.first s r.h p
  ready p low high =
      let below = r.below in
      let ahead = r.ahead in
      ⊎_elim
      (λ (t : IsReady plan.first s r.h p). t)
      (λ (t : IsClaimed plan.first s r.h p ⊎ IsInHand plan.first s r.h p). ⊎_elim
      (λ (u : IsClaimed plan.first s r.h p). absurd (nobody u.1.0.by u.1.1 u.1.0.claim u.1.3 u.1.4))
      (λ (u : IsInHand plan.first s r.h p).
      let same : w ≡ u.1.0 = some-injective w u.1.0 (sym at ∙ ap (get_elem? s.views) mine.own ∙ u.1.2) in
      absurd (some_not_none u.1.1 (sym u.1.3 ∙ sym (ap (λ (y : View). y.in_hand) same) ∙ empty)))
      t)
      ((r.places p (omega (arith, below, low)) (omega (arith, ahead, high))).waits low high)

  module _ (slots : List (Option FrameValue)) (n : ℕ) (len : length s.homes ≡ length slots) (count : length slots ≡ n) (homes : (k : ℕ) (y : Option FrameValue) → get_elem? s.homes k ≡ some (some y) → get_elem? slots k ≡ some y) where
    abbrev frames : List FrameValue
    frames = frames_of r.h.log

    abbrev up : ℕ
    up = length w.lifted

    slots_are : slots_of s ≡ n
    slots_are = len ∙ count

    -- the j-th slot from the freed count's on is that of the place freed + j
    slot_of : (j : ℕ) (y : Option FrameValue) → j < n → home_at s (r.h.now.freed + j) ≡ some (some y) → get_elem? (slots_from (w.freed % n) slots) j ≡ some y
    slot_of j y lt home =
        rotated (w.freed % n) n slots j count (mod-lt w.freed (subst (λ m. 0 < m) slots_are r.some_slot)) lt
        ∙ ap (get_elem? slots) (mod-add-mod w.freed n j ∙ ap (λ m. (m + j) % n) mine.freed)
        ∙ homes ((r.h.now.freed + j) % n) y (ap (λ m. get_elem? s.homes ((r.h.now.freed + j) % m)) (sym slots_are) ∙ home)

    long_frames : length frames ≡ length r.h.log
    long_frames = length-map r.h.log (λ (x : Placing). x.claim.frame)

    left_is : present (slots_from (w.freed % n) slots) ≡ drop up frames
    left_is =
        let below = r.below in
        let behind = r.behind in
        let ahead = r.ahead in
        let sizes = slots_are in
        let c = mine.count in
        let l = r.long in
        let f = long_frames in
        let d : length (drop up frames) ≡ length frames - up = length-drop up frames in
        present_is (slots_from (w.freed % n) slots) (r.h.lifted - r.h.now.freed) (drop up frames)
        (λ j lt long. slot_of j None (omega (arith, lt, sizes, below, behind, ahead)) ((r.places (r.h.now.freed + j) (omega arith) (omega (arith, lt, below, behind, ahead))).lifted (omega (arith, lt, below))))
        (λ k g e.
        let in_frames : get_elem? frames (up + k) ≡ some g = sym (get_drop up frames k) ∙ e in
        let x = map_there (λ (y : Placing). y.claim.frame) r.h.log (up + k) g in_frames in
        let inside = before_end r.h.log (up + k) x.0 x.1 in
        let p : ℕ = r.h.now.freed + ((r.h.lifted - r.h.now.freed) + k) in
        let at_p : p ≡ plan.first + (up + k) = omega (arith, below, c) in
        let rd = ready p (omega (arith, below)) (omega (arith, at_p, inside, l)) in
        let same : rd.1.0 ≡ x.0 = some-injective rd.1.0 x.0 (sym rd.1.1.3 ∙ ap (get_elem? r.h.log) (let is = rd.1.1.1 in let z : rd.1.1.0 ≡ up + k = omega (arith, at_p, is) in z) ∙ x.1) in
        slot_of ((r.h.lifted - r.h.now.freed) + k) (Some g) (omega (arith, at_p, inside, l, ahead, sizes, below))
        (rd.1.2 ∙ ap (λ (y : Placing). some (some (Some y.claim.frame))) same ∙ ap (λ (y : FrameValue). some (some (Some y))) x.2))
        (λ j le long.
        let wide : length (slots_from (w.freed % n) slots) ≡ n = rotated_length in
        let lt : j < n = omega (arith, long, wide) in
        slot_of j None lt ((r.places (r.h.now.freed + j) (omega arith) (omega (arith, lt, sizes))).spare (omega (arith, le, d, f, l, c, below, behind))))
      where
        rotated_length : length (slots_from (w.freed % n) slots) ≡ n
        rotated_length =
            let lt : w.freed % n < n = mod-lt w.freed (subst (λ m. 0 < m) slots_are r.some_slot) in
            let a = length-append (drop (w.freed % n) slots) (take (w.freed % n) slots) in
            let b = length-append (take (w.freed % n) slots) (drop (w.freed % n) slots) in
            let e = ap length (take-append-drop (w.freed % n) slots) in
            omega (arith, a, b, e, count)

    line_is : w.lifted ++ present (slots_from (w.freed % n) slots) ≡ frames
    line_is = ap (λ l. l ++ present (slots_from (w.freed % n) slots)) mine.frames ∙ ap (λ l. take up frames ++ l) left_is ∙ take-append-drop up frames

    pub stand_mine : EachClaim (StandsIn plan.first (w.lifted ++ present (slots_from (w.freed % n) slots))) w.mine
    stand_mine = subst (λ l. EachClaim (StandsIn plan.first l) w.mine) (sym line_is)
        (each_map (λ c. (x : Placing) × IsEntered plan.first r.h.log c.place x × (x.claim ≡ c)) (StandsIn plan.first frames) w.mine
        (λ c t. (t.1.0, t.1.1, slice_there frames t.1.0 c.frame (at_map (λ (x : Placing). x.claim.frame) r.h.log t.1.0 t.0 t.1.3 ∙ ap (λ (d : Claim). some d.frame) t.2)))
        (r.seats id w at).claims.mine)

    pub counts_mine : (r.h.now.claimed ≡ plan.first + length (w.lifted ++ present (slots_from (w.freed % n) slots))) × (w.next ≡ plan.first + length w.lifted) × (plan.first ≤ w.freed) × (w.freed ≤ w.next) × (w.next ≤ r.h.now.claimed)
    counts_mine =
        let e = ap length line_is in
        let f = long_frames in
        let l = r.long in
        let c = mine.count in
        let x = mine.next in
        let y = mine.freed in
        let a = r.start in
        let b = r.below in
        let d = r.behind in
        (omega (arith, e, f, l), omega (arith, c, x), omega (arith, y, a), omega (arith, x, y, b), omega (arith, x, d))

-- What is known once the table is closed.
pub ended : (plan : Plan) (words : List ℕ) (slots : List (Option FrameValue)) (id n claimed : ℕ) (v w : View) (k : Kept) (all : List (Token Produced)) → Final (Seen (Ring plan) id w) words slots → length slots ≡ n
    → w ≡ gathered (with_keeper v k) all → w.parts ≡ plan.producers → v.takes ≡ true → v.in_hand ≡ None → v.putting ≡ None → v.mine ≡ [] → v.spent ≡ false → claimed ≡ claimed_of (slice_index words 0)
    → IsEnd plan all (consumed v) k claimed v.freed v.next (present (slots_from (v.freed % n) slots))
ended plan words slots id n claimed v w k all final count is parts takes_is empty idle none_mine live claimed_is =
    let s = final.0 in
    let r = final.1.0 in
    let at = final.1.1 in
    let g = gathered_front (with_keeper v k) all in
    let q = gathered_gate (with_keeper v k) all in
    let keeps_w : w.keeps ≡ true = ap (λ (x : View). x.keeps) is ∙ q.0 in
    let gate_w : w.gate ≡ k.gate = ap (λ (x : View). x.gate) is ∙ q.1 in
    let live_w : w.spent ≡ false = ap (λ (x : View). x.spent) is ∙ q.2 ∙ live in
    let kept = (r.seats id w at).keeps keeps_w in
    let takes_w : w.takes ≡ true = ap (λ (x : View). x.takes) is ∙ g.0 ∙ takes_is in
    let empty_w : w.in_hand ≡ None = ap (λ (x : View). x.in_hand) is ∙ g.3 ∙ empty in
    let idle_w : w.putting ≡ None = ap (λ (x : View). x.putting) is ∙ g.5 ∙ idle in
    let freed_w : w.freed ≡ v.freed = ap (λ (x : View). x.freed) is ∙ g.4 in
    let next_w : w.next ≡ v.next = ap (λ (x : View). x.next) is ∙ g.1 in
    let lifted_w : w.lifted ≡ v.lifted = ap (λ (x : View). x.lifted) is ∙ g.2 in
    let now : claimed ≡ r.h.now.claimed = claimed_is ∙ ap (λ (ws : List ℕ). claimed_of (slice_index ws 0)) (sym final.2) ∙ ap claimed_of r.gate ∙ (word_parts r.h.now r.fits).0 in
    let lists = (r.seats id w at).turns keeps_w in
    let opened_k : r.h.opened ≡ k.opened = sym lists.0 ∙ ap (λ (x : View). x.opened) is ∙ q.3 in
    let resized_k : r.h.resized ≡ k.resized = sym lists.1 ∙ ap (λ (x : View). x.resized) is ∙ q.4 in
    let from_k : r.h.resized_from ≡ k.resized_from = sym lists.2 ∙ ap (λ (x : View). x.resized_from) is ∙ q.5 in
    let resizes_k : r.h.now.resizes ≡ k.gate.resizes = sym kept.resizes ∙ ap (λ (m : Moment). m.resizes) gate_w in
    let capacity_k : capacity_at s.words k.gate.resizes ≡ k.gate.capacity =
    subst (λ (m : Moment). capacity_at s.words m.resizes ≡ m.capacity) gate_w ((r.seats id w at).gate live_w).capacity in
    let now_capacity : r.h.now.capacity ≡ k.gate.capacity = sym r.capacity ∙ ap (capacity_at s.words) resizes_k ∙ capacity_k in
    let now_freed : r.h.now.freed ≡ v.freed = sym ((r.seats id w at).front takes_w).freed ∙ freed_w in
    let epochs : AllClaims (λ x. x.epoch ≡ turns_to x.place k.opened) all =
    gathered_claims (λ x. x.epoch ≡ turns_to x.place k.opened) (with_keeper v k) all
    (subst (λ (x : List ℕ × View). EachClaim (λ c. c.epoch ≡ turns_to c.place x.0) x.1.mine) (λ i. (opened_k i, is i))
    (epochs_mine plan s r id w at takes_w empty_w idle_w parts)) in
    let counts = counts_mine plan s r id w at takes_w empty_w idle_w parts slots n final.3 count final.4 in
    let stand = stand_mine plan s r id w at takes_w empty_w idle_w parts slots n final.3 count final.4 in
    let line : w.lifted ++ present (slots_from (w.freed % n) slots) ≡ v.lifted ++ present (slots_from (v.freed % n) slots) = (λ i. lifted_w i ++ present (slots_from (freed_w i % n) slots)) in
    let c0 = counts.0 in
    let c1 = counts.1 in
    let c2 = counts.2 in
    let c3 = counts.3 in
    let c4 = counts.4 in
    let lengths = ap length line in
    let lifted_lengths = ap length lifted_w in
    record {
      lifted_is = omega (arith, next_w, c1, lifted_lengths);
      freed_is = refl;
      claimed_is = omega (arith, now, c0, lengths);
      once = λ p. sym (gathered_times p (with_keeper v k) all none_mine) ∙ ap (λ (x : View). times p x.mine) (sym is) ∙ once_mine plan s r id w at takes_w empty_w idle_w parts p ∙ ap (λ m. within plan.first m p) (sym now);
      stand = gathered_claims (StandsIn plan.first (v.lifted ++ present (slots_from (v.freed % n) slots))) (with_keeper v k) all
          (subst (λ (x : View). EachClaim (StandsIn plan.first (v.lifted ++ present (slots_from (v.freed % n) slots))) x.mine) is
          (subst (λ l. EachClaim (StandsIn plan.first l) w.mine) line stand));
      epochs = epochs;
      rising = epochs_rise k.opened all epochs;
      capacities = gathered_given plan.capacity k.resized (with_keeper v k) all
          (subst (λ (x : List ℕ × View). EachGiven plan.capacity x.0 x.1.loaded) (λ i. (resized_k i, is i)) (r.seats id w at).sizes);
      seen = gathered_seen s.words r.h.now k.gate claimed v.freed (sym now) now_freed
          (sym kept.epoch ∙ ap (λ (m : Moment). m.epoch) gate_w) resizes_k (sym kept.shut ∙ ap (λ (m : Moment). m.shut) gate_w)
          (with_keeper v k) all (subst (λ (x : View). EachPast s.words r.h.now x.met) is (r.seats id w at).met);
      last_capacity = subst (λ (x : List ℕ × ℕ × ℕ). IsGiven plan.capacity x.0 x.1 x.2) (λ i. (resized_k i, resizes_k i, (r.capacity ∙ now_capacity) i))
          (r.sizes.given r.h.now.resizes (le_refl r.h.now.resizes));
      room = subst (λ (x : ℕ × ℕ × ℕ × ℕ). KeepsRoom x.0 x.1 x.2 x.3) (λ i. (sym now i, now_freed i, now_capacity i, from_k i)) r.room;
      order = (omega (arith, c2, freed_w), omega (arith, c3, freed_w, next_w), omega (arith, c4, next_w, now));
      bound = subst (λ (m : ℕ). m < CLAIMS_END) (sym now) r.fits.claimed;
      turns = (
        ap (λ (m : Moment). m.epoch) (sym gate_w) ∙ kept.epoch ∙ r.turns.count ∙ ap length opened_k,
        ap (λ (m : Moment). m.resizes) (sym gate_w) ∙ kept.resizes ∙ r.sizes.count ∙ ap length resized_k,
      );
      later = subst (λ (m : Moment). m.claimed ≤ claimed) gate_w (subst (λ m. w.gate.claimed ≤ m) (sym now) ((r.seats id w at).gate live_w).claimed);
      still = λ e. now ∙ sym (kept.claimed (ap (λ (m : Moment). m.shut) gate_w ∙ e)) ∙ ap (λ (m : Moment). m.claimed) gate_w;
    }
