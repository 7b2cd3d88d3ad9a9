-- What a step leaves as it was: other seats' knowledge, and places that it doesn't touch.
use Rattle.std.proofs.Common.{◌≡◌, ◌≢◌, ◌⊎◌, ℕ, ◌+◌, ◌%◌, ◌^◌, ◌≤◌, ◌<◌, List, ◌++◌, take, length, set, Some, true, sym, ap, ◌∙◌, subst, ⊎_elim, inl, inr, arith}
use Rattle.std.specs.Prelude.{slice_index}
use Rattle.std.proofs.lemmas.List.{length-map, map-append}
use mathlib.Core.Option.{some}
use lib.ListN.{get_elem?}
use Rattle.atomic_table.proofs.Lists.{at_set}
use Rattle.tap_ring.specs.declared.rule.Claim.{Claim}
use Rattle.tap_ring.specs.declared.rule.Loaded.{Loaded}
use Rattle.tap_ring.specs.declared.rule.View.{View}
use Rattle.tap_ring.specs.declared.rule.Plan.{Plan}
use Rattle.tap_ring.specs.Moments.{capacity_at}
use Rattle.tap_ring.specs.Turns.{EachGiven}
use Rattle.tap_ring.specs.Standing.{RingState, Placing, Standing, slots_of, slot_at, word_at, home_at, IsEntered, IsReady, IsClaimed, IsInHand, IsPlace, frames_of, KnowsClaims, KnowsFront, KnowsGate, Knows, Ring}
use Rattle.tap_ring.proofs.Kit.{take_more, GoesOn, past_stays, mets_stay, entered_longer, each_map}

-- what a step of the seat `by` must leave as it was for all others
pub record Apart (first : ℕ) (s s' : RingState) (h h' : Standing) (by : ℕ) : Type 0 where
  pub goes : GoesOn s.words s'.words h.now h'.now
  pub more : List Placing
  pub log : h'.log ≡ h.log ++ more
  pub slots : slots_of s' ≡ slots_of s
  pub consumer : h.consumer ≢ by → h'.consumer ≡ h.consumer
  pub keeper : h'.keeper ≡ h.keeper
  pub front : h.consumer ≢ by → (h'.now.freed ≡ h.now.freed) × (h'.lifted ≡ h.lifted) × (word_at s h.lifted ≡ h.lifted + 1 → word_at s' h.lifted ≡ h.lifted + 1)
  pub gate : h.keeper ≢ by → (h.now.shut ≡ h'.now.shut) × (h.now.epoch ≡ h'.now.epoch) × (h.now.resizes ≡ h'.now.resizes)
      × (h.now.shut ≡ true → h.now.claimed ≡ h'.now.claimed) × (h.now.resizes + 1 < 2 ^ 7 → capacity_at s'.words (h.now.resizes + 1) ≡ capacity_at s.words (h.now.resizes + 1))
  pub turns : h.keeper ≢ by → (h.opened ≡ h'.opened) × (h.resized ≡ h'.resized) × (h.resized_from ≡ h'.resized_from)
  pub given : (capacity : ℕ) (xs : List Loaded) → EachGiven capacity h.resized xs → EachGiven capacity h'.resized xs
  pub putting : (j : ℕ) (c : Claim) → j ≢ by → IsEntered first h.log c.place (record { by = j; claim = c }) → h.lifted ≤ c.place → word_at s c.place ≤ c.place
      → (h'.lifted ≤ c.place) × (word_at s' c.place ≤ c.place)

pub entered_in : (first : ℕ) (log log' more : List Placing) (p : ℕ) (x : Placing) → log' ≡ log ++ more → IsEntered first log p x → IsEntered first log' p x
entered_in first log log' more p x is e = subst (λ l. IsEntered first l p x) (sym is) (entered_longer first log more p x e)

pub claims_apart : (plan : Plan) (s s' : RingState) (h h' : Standing) (by j : ℕ) (v : View) → Apart plan.first s s' h h' by → j ≢ by → KnowsClaims plan s h j v → KnowsClaims plan s' h' j v
claims_apart plan s s' h h' by j v a ne k = record {
  mine = each_map (λ c. (x : Placing) × IsEntered plan.first h.log c.place x × (x.claim ≡ c)) (λ c. (x : Placing) × IsEntered plan.first h'.log c.place x × (x.claim ≡ c)) v.mine
      (λ c t. (t.0, entered_in plan.first h.log h'.log a.more c.place t.0 a.log t.1, t.2)) k.mine;
  idle = k.idle;
  putting = λ c is.
      let t = k.putting c is in
      let u = a.putting j c ne t.0 t.1 t.2 in
      (entered_in plan.first h.log h'.log a.more c.place (record { by = j; claim = c }) a.log t.0, u.0, u.1);
}

-- the first frames stay the first
pub frames_front : (first : ℕ) (h h' : Standing) (more : List Placing) (n : ℕ) → h'.log ≡ h.log ++ more → n ≤ length h.log → take n (frames_of h.log) ≡ take n (frames_of h'.log)
frames_front first h h' more n is le =
    sym (take_more n (frames_of h.log) (frames_of more) (let l = length-map h.log (λ (x : Placing). x.claim.frame) in omega (arith, l, le)))
    ∙ ap (take n) (sym (map-append (λ (x : Placing). x.claim.frame) h.log more) ∙ ap frames_of (sym is))

pub front_apart : (plan : Plan) (s s' : RingState) (r : Ring plan s) (h' : Standing) (by j : ℕ) (v : View) → Apart plan.first s s' r.h h' by → j ≢ by → KnowsFront plan s r.h j v → KnowsFront plan s' h' j v
front_apart plan s s' r h' by j v a ne k =
    let h = r.h in
    let away : h.consumer ≢ by = λ e. ne (k.own ∙ e) in
    let same = a.front away in
    let count = k.count in
    let behind = r.behind in
    let long = r.long in
    record {
      own = k.own ∙ sym (a.consumer away);
      next = k.next ∙ sym same.1;
      freed = k.freed ∙ sym same.0;
      count = same.1 ∙ k.count;
      frames = k.frames ∙ frames_front plan.first h h' a.more (length v.lifted) a.log (omega (arith, count, behind, long));
      hand = λ f is.
          let t = k.hand f is in (
            subst (λ n. word_at s' n ≡ n + 1) (sym same.1) (same.2 t.0),
            (t.1.0, subst (λ n. IsEntered plan.first h'.log n t.1.0) (sym same.1) (entered_in plan.first h.log h'.log a.more h.lifted t.1.0 a.log t.1.1), t.1.2),
          );
    }

pub gate_apart : (plan : Plan) (s s' : RingState) (h h' : Standing) (by j : ℕ) (v : View) → Apart plan.first s s' h h' by → j ≢ by → KnowsGate plan s h j v → KnowsGate plan s' h' j v
gate_apart plan s s' h h' by j v a ne k =
    let away : h.keeper ≢ by = λ e. ne (k.own ∙ e) in
    let same = a.gate away in
    record {
      own = k.own ∙ sym a.keeper;
      shut = k.shut ∙ same.0;
      epoch = k.epoch ∙ same.1;
      resizes = k.resizes ∙ same.2;
      claimed = λ e. k.claimed e ∙ same.3 (sym k.shut ∙ e);
      stored = λ c is. let t = k.stored c is in (subst (λ n. n + 1 < 2 ^ 7) same.2 t.0, ap (λ n. capacity_at s'.words (n + 1)) (sym same.2) ∙ same.4 t.0 ∙ t.1, subst (λ n. c ≤ n) (sym a.slots) t.2);
    }

pub knows_apart : (plan : Plan) (s s' : RingState) (r : Ring plan s) (h' : Standing) (by j : ℕ) (v : View) → Apart plan.first s s' r.h h' by → j ≢ by → Knows plan s r.h j v → Knows plan s' h' j v
knows_apart plan s s' r h' by j v a ne k = record {
  claims = claims_apart plan s s' r.h h' by j v a ne k.claims;
  front = λ t. front_apart plan s s' r h' by j v a ne (k.front t);
  keeps = λ t. gate_apart plan s s' r.h h' by j v a ne (k.keeps t);
  turns = λ t. let same = a.turns (λ e. ne ((k.keeps t).own ∙ e)) in ((k.turns t).0 ∙ same.0, (k.turns t).1 ∙ same.1, (k.turns t).2 ∙ same.2);
  sizes = a.given plan.capacity v.loaded k.sizes;
  gate = λ t. past_stays s.words s'.words r.h.now h'.now v.gate a.goes (k.gate t);
  asked = λ t. past_stays s.words s'.words r.h.now h'.now v.asked a.goes (k.asked t);
  room = λ t. past_stays s.words s'.words r.h.now h'.now v.room a.goes (k.room t);
  met = mets_stay s.words s'.words r.h.now h'.now v.met a.goes k.met;
}

-- all seats, after a step of one
pub seats_set : (plan : Plan) (s s' : RingState) (r : Ring plan s) (h' : Standing) (by : ℕ) (w : View) → s'.views ≡ set s.views by w → Apart plan.first s s' r.h h' by → Knows plan s' h' by w
    → (j : ℕ) (u : View) → get_elem? s'.views j ≡ some u → Knows plan s' h' j u
seats_set plan s s' r h' by w is a mine j u at = ⊎_elim
    (λ (t : (j ≡ by) × (w ≡ u)). subst (λ (y : ℕ × View). Knows plan s' h' y.0 y.1) (λ i. (sym t.0 i, t.1 i)) mine)
    (λ (t : (j ≢ by) × (get_elem? s.views j ≡ some u)). knows_apart plan s s' r h' by j u a t.0 (r.seats j u t.1))
    (at_set s.views by j w u (sym (ap (λ l. get_elem? l j) is) ∙ at))

-- ---- places

pub word_same : (s s' : RingState) (p : ℕ) → slots_of s' ≡ slots_of s → slice_index s'.words (130 + slot_at s p) ≡ slice_index s.words (130 + slot_at s p) → word_at s' p ≡ word_at s p
word_same s s' p slots same = ap (λ n. slice_index s'.words (130 + p % n)) slots ∙ same

pub home_same : (s s' : RingState) (p : ℕ) → slots_of s' ≡ slots_of s → get_elem? s'.homes (slot_at s p) ≡ get_elem? s.homes (slot_at s p) → home_at s' p ≡ home_at s p
home_same s s' p slots same = ap (λ n. get_elem? s'.homes (p % n)) slots ∙ same

-- a seat that is putting this claim is putting it still
abbrev pub Still : RingState → RingState → ℕ → Type 0
Still s s' p = (j : ℕ) (u : View) (c : Claim) → get_elem? s.views j ≡ some u → u.putting ≡ Some c → c.place ≡ p → (w : View) × (get_elem? s'.views j ≡ some w) × (w.putting ≡ Some c)

pub claimed_stays : (first : ℕ) (s s' : RingState) (h h' : Standing) (p : ℕ) (more : List Placing) → h'.log ≡ h.log ++ more → word_at s' p ≡ word_at s p → Still s s' p → IsClaimed first s h p → IsClaimed first s' h' p
claimed_stays first s s' h h' p more is same still c =
    let x = c.1.0 in
    let e = c.1.2 in
    let t = still x.by c.1.1 x.claim c.1.3 c.1.4 e.2 in (
      subst (λ n. n ≤ p) (sym same) c.0,
      (x, t.0, entered_in first h.log h'.log more p x is e, t.1, t.2),
    )

-- a place whose slot and word a step doesn't touch, and which its counts don't reach
pub place_stays : (first : ℕ) (s s' : RingState) (h h' : Standing) (p : ℕ) (more : List Placing) → h'.log ≡ h.log ++ more
    → word_at s' p ≡ word_at s p → home_at s' p ≡ home_at s p
    → (p < h'.lifted → p < h.lifted) → (h'.lifted ≤ p → h.lifted ≤ p) → (h'.now.claimed ≤ p → h.now.claimed ≤ p) → (p < h'.now.claimed → p < h.now.claimed)
    → Still s s' p → (IsInHand first s h p → IsInHand first s' h' p)
    → IsPlace first s h p → IsPlace first s' h' p
place_stays first s s' h h' p more is word home a b c d still hand k = record {
  word = subst (λ n. n ≤ p + 1) (sym word) k.word;
  lifted = λ t. home ∙ k.lifted (a t);
  spare = λ t. home ∙ k.spare (c t);
  unput = λ t. subst (λ n. n ≤ p) (sym word) (k.unput (c t));
  waits = λ t u. ⊎_elim
      (λ (x : IsReady first s h p). inl (word ∙ x.0, (x.1.0, entered_in first h.log h'.log more p x.1.0 is x.1.1, home ∙ x.1.2)))
      (λ (x : IsClaimed first s h p ⊎ IsInHand first s h p). inr (⊎_elim
      (λ (y : IsClaimed first s h p). inl (claimed_stays first s s' h h' p more is word still y))
      (λ (y : IsInHand first s h p). inr (hand y)) x))
      (k.waits (b t) (d u));
}
