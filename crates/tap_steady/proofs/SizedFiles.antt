-- What a change of a file makes of a resize that is under way on it.
use Rattle.std.proofs.Common.{◌≡◌, ◌⊎◌, ℕ, zero, suc, ◌+◌, ◌<◌, ◌≤◌, List, [], ◌∷◌, ◌++◌, length, max, Bool, true, false, Option, Some, None, inl, inr, ⊎_elim, refl, sym, ap, ◌∙◌, subst, true≢false, arith, length-append}
use Rattle.std.specs.Prelude.{if◌then◌else◌, ◌-◌, ◌&&◌, ◌||◌, not, nat_le, slice_get}
use Rattle.std.proofs.lemmas.Bool.Decides.{leb_tells}
use Rattle.std.proofs.lemmas.Bool.{cases_lt}
use Rattle.tap_frame.specs.declared.name.Name.{Name}
use Rattle.tap_ledger.specs.declared.fate.Fate.{Fate}
use Rattle.tap_ground.specs.Options.{only_if}
use Rattle.tap_world.specs.declared.line.Entry.{Entry}
use Rattle.tap_world.specs.declared.line.Standing.{Standing}
use Rattle.tap_world.specs.declared.line.Standing.TheVariants.{Batched, Claimed, Cut, Out, Ready}
use Rattle.tap_world.specs.Line.{File, claimed, count, first_that, freed, has_batch, has_claim, in_batch, in_ring, is_full, is_gone, is_over, is_spent, last_that}
use Rattle.tap_world.specs.LineSteps.{Change, changed, filled, is_claim_of, may_leave, moves_to, ready_front, restand}
use Rattle.tap_world.specs.LineSteps.Change.{Claims, Cuts, Leaves, Moves, Owned, Puts, PutsBack, Reopens, Shuts, Sizes, Takes}
use Rattle.tap_world.specs.Effect.OnFiles.{OnFile}
use Rattle.tap_world.specs.Sound.{InThreeParts}
use Rattle.tap_sound.proofs.Kit.{WhereSome, only_some, some_same, then_some, where_some}
use Rattle.tap_sound.proofs.Shapes as shapes
use Rattle.tap_sound.proofs.Taken.{both, if_some}
use Rattle.tap_steady.proofs.Kit.{at_below}
use Rattle.tap_steady.proofs.ToldLists.{below_or_same}
use Rattle.tap_steady.proofs.SizedLines.{GoesOn, Has, IsLast, LastOf, MayStand, behind_ring, bit, filled_goes, first_has, free, last_of, ready_is, ready_may, restand_count, restand_get, restand_goes, restand_length, restand_same, still}

-- ---- a resize under way

-- of a file alone: T is that others take frames, and the number is the table's capacity
pub record IsCutting (T : Type 0) (tabled : ℕ) (f : File) (places cuts asked : ℕ) : Type 0 where
  pub capacity : f.capacity ≡ asked
  pub most : places ≤ claimed f
  pub over : is_over f ≡ true → claimed f ≡ places
  pub smaller : 0 < cuts → asked < tabled
  pub least : 0 < cuts → is_over f ≡ false → T ⊎ (places ≡ freed f + f.capacity)
  pub from : ℕ
  pub as_many : f.first + from + cuts ≤ places
  pub cut : (i : ℕ) (e : Entry) → from ≤ i → f.first + i < places → slice_get f.line i ≡ Some e → e.stands ≡ Cut

at_most : (a b : ℕ) → nat_le a b ≡ true → a ≤ b
at_most a b e = ⊎_elim (λ t. t.1) (λ t. absurd (true≢false (sym e ∙ t.0))) (leb_tells a b)

not_at_most : (a b : ℕ) → nat_le a b ≡ false → b < a
not_at_most a b e = ⊎_elim (λ t. absurd (true≢false (sym t.0 ∙ e))) (λ t. t.1) (leb_tells a b)

is_at_most : (a b : ℕ) → a ≤ b → nat_le a b ≡ true
is_at_most a b h = ⊎_elim (λ t. t.0) (λ t. let less = t.1 in absurd (omega (arith, h, less))) (leb_tells a b)

isnt_at_most : (a b : ℕ) → b < a → nat_le a b ≡ false
isnt_at_most a b h = ⊎_elim (λ t. let le = t.1 in absurd (omega (arith, h, le))) (λ t. t.0) (leb_tells a b)

not_true : (b : Bool) → not b ≡ true → b ≡ false
not_true true e = absurd (true≢false (sym e))
not_true false e = refl

-- ---- where places become free, and what is cut stays so

record Rests (T : Type 0) (f g : File) : Type 0 where
  first : g.first ≡ f.first
  capacity : g.capacity ≡ f.capacity
  line : GoesOn f.line g.line
  same : T ⊎ (freed g ≡ freed f)

claimed_same : (T : Type 0) (f g : File) → Rests T f g → claimed g ≡ claimed f
claimed_same T f g r = ap (λ n. n + length g.line) r.first ∙ ap (λ n. f.first + n) r.line.many

freed_more : (T : Type 0) (f g : File) → Rests T f g → freed f ≤ freed g
freed_more T f g r = let first = r.first in let more = r.line.freed in omega (arith, first, more)

over_before : (f g : File) → freed f ≤ freed g → g.capacity ≡ f.capacity → claimed g ≡ claimed f → is_over g ≡ true → is_over f ≡ true
over_before f g more capacity places over =
    let le = at_most (freed g + g.capacity + 1) (claimed g) over in
    is_at_most (freed f + f.capacity + 1) (claimed f) (omega (arith, le, more, capacity, places))

cutting_rests : (T : Type 0) (tabled places cuts asked : ℕ) (f g : File) → Rests T f g → IsCutting T tabled f places cuts asked → IsCutting T tabled g places cuts asked
cutting_rests T tabled places cuts asked f g r h =
    let same = claimed_same T f g r in record {
      capacity = r.capacity ∙ h.capacity;
      most = subst (λ n. places ≤ n) (sym same) h.most;
      over = λ e. same ∙ h.over (over_before f g (freed_more T f g r) r.capacity same e);
      smaller = h.smaller;
      least = λ some e. ⊎_elim (λ t. inl t) (λ freed_. still_least freed_ some e) r.same;
      from = h.from;
      as_many = subst (λ n. n + h.from + cuts ≤ places) (sym r.first) h.as_many;
      cut = λ i e le lt at_.
          let d = r.line.cut i e at_ in d.2 (h.cut i d.0 le (subst (λ n. n + i < places) r.first lt) d.1);
    }
  where
    still_least : freed g ≡ freed f → 0 < cuts → is_over g ≡ false → T ⊎ (places ≡ freed g + g.capacity)
    still_least freed_ some e =
        let same = claimed_same T f g r in
        let capacity = r.capacity in
        let was : is_over f ≡ false =
        isnt_at_most (freed f + f.capacity + 1) (claimed f)
        (let less = not_at_most (freed g + g.capacity + 1) (claimed g) e in omega (arith, less, freed_, capacity, same)) in
        ⊎_elim (λ t. inl t) (λ p. inr (omega (arith, p, freed_, capacity))) (h.least some was)

-- ---- the changes

line_same : (T : Type 0) (f g : File) → g.first ≡ f.first → g.capacity ≡ f.capacity → g.line ≡ f.line → Rests T f g
line_same T f g first capacity line = record {
  first = first;
  capacity = capacity;
  line = subst (λ l. GoesOn f.line l) (sym line) (still f.line);
  same = inr (ap (λ n. n + count free g.line) first ∙ ap (λ l. f.first + count free l) line);
}

-- an entry that is met stands elsewhere
record Meets (T : Type 0) (line : List Entry) (s : Standing) (i : ℕ) : Type 0 where
  entry : Entry
  here : slice_get line i ≡ Some entry
  may : MayStand entry.stands s
  same : T ⊎ (free s ≡ free entry.stands)

restand_rests : (T : Type 0) (f : File) (s : Standing) (i : ℕ) → Meets T f.line s i → Rests T f (record f { line = restand i s f.line })
restand_rests T f s i m = record {
  first = refl;
  capacity = refl;
  line = restand_goes i s f.line m.entry m.here m.may;
  same = ⊎_elim (λ t. inl t) (λ e. inr (ap (λ n. f.first + n) (restand_same i s f.line m.entry m.here e))) m.same;
}

moved_rests : (T : Type 0) (f g : File) (s : Standing) (o : Option ℕ) → WhereSome (Meets T f.line s) o → moves_to s f o ≡ Some g → Rests T f g
moved_rests T f g s None meets e = absurd (cc (e))
moved_rests T f g s (Some i) meets e = subst (Rests T f) (some_same _ g e) (restand_rests T f s i meets)

each_meets : (P : ℕ → Type 0) (o : Option ℕ) → ((i : ℕ) → o ≡ Some i → P i) → WhereSome P o
each_meets P None h = tt
each_meets P (Some i) h = h i refl

put_may : (actor : ℕ) (s : Standing) → is_claim_of actor s ≡ true → MayStand s Ready × (free Ready ≡ free s)
put_may actor (Claimed other) e = (record { freed = λ h. absurd (true≢false (sym h)); cut = λ h. absurd (cc (h)) }, refl)
put_may actor s e = absurd (true≢false (sym e))

batched_may : (fate : Fate) (s : Standing) → in_batch s ≡ true → MayStand s (Out fate) × (free (Out fate) ≡ free s)
batched_may fate Batched e = (record { freed = λ h. refl; cut = λ h. absurd (cc (h)) }, refl)
batched_may fate s e = absurd (true≢false (sym e))

cut_may : (s : Standing) → MayStand s Cut
cut_may s = record { freed = λ h. refl; cut = λ h. refl }

-- it makes places free
abbrev pub frees : Change → Bool
frees Moves = true
frees (Takes vhost) = true
frees Cuts = true
frees c = false

taken_rests : (T : Type 0) (f g : File) (b test : Bool) (vhost : ℕ) → T
    → only_if test (record f { line = if b then f.line else filled 64 f.line; hand = Some vhost }) ≡ Some g → Rests T f g
taken_rests T f g true test vhost t e = let o = only_some test _ g e in subst (Rests T f) o.1 (line_same T f _ refl refl refl)
taken_rests T f g false test vhost t e =
    let o = only_some test _ g e in
    subst (Rests T f) o.1 (record { first = refl; capacity = refl; line = filled_goes 64 f.line; same = inl t })

-- a change other than of the capacity, and other than a claim
abbrev IsCalm : Change → Type 0
IsCalm (Claims actor name epoch len) = ⊥
IsCalm (Sizes capacity) = ⊥
IsCalm c = Unit {0}

change_rests : (T : Type 0) (c : Change) (f g : File) → IsCalm c → (frees c ≡ true → T) → changed c f ≡ Some g → Rests T f g
change_rests T (Claims actor name epoch len) f g calm taken e = absurd calm
change_rests T (Sizes capacity) f g calm taken e = absurd calm
change_rests T (Puts actor place) f g calm taken e =
    let d = then_some (slice_get f.line (place - f.first)) _ g e in
    let o = only_some _ _ g d.2 in
    let may = put_may actor d.0.stands o.0 in
    subst (Rests T f) o.1 (restand_rests T f Ready (place - f.first) (record { entry = d.0; here = d.1; may = may.0; same = inr may.1 }))
change_rests T Moves f g calm taken e =
    let i = if_some _ _ g e in
    moved_rests T f g Batched (ready_front f.line) (each_meets (Meets T f.line Batched) (ready_front f.line) (λ k is.
    let d = ready_is f.line k is in
    record { entry = d.0; here = d.1; may = ready_may d.0.stands d.2; same = inl (taken refl) })) i.1
change_rests T (Takes vhost) f g calm taken e = taken_rests T f g (has_batch f) _ vhost (taken refl) e
change_rests T (PutsBack vhost) f g calm taken e = let o = only_some _ _ g e in subst (Rests T f) o.1 (line_same T f _ refl refl refl)
change_rests T (Leaves worker fate) f g calm taken e =
    let i = if_some (may_leave worker f) _ g e in
    let h = record f { hand = None } in
    let r = moved_rests T h g (Out fate) (first_that in_batch f.line) (each_meets (Meets T f.line (Out fate)) (first_that in_batch f.line) (λ k is.
    let d = where_some (Has in_batch f.line) (first_that in_batch f.line) k (first_has in_batch f.line) is in
    let may = batched_may fate d.0.stands d.2 in
    record { entry = d.0; here = d.1; may = may.0; same = inr may.1 })) i.1 in
    record { first = r.first; capacity = r.capacity; line = r.line; same = r.same }
change_rests T Shuts f g calm taken e = let o = only_some _ _ g e in subst (Rests T f) o.1 (line_same T f _ refl refl refl)
change_rests T Reopens f g calm taken e = let o = only_some _ _ g e in subst (Rests T f) o.1 (line_same T f _ refl refl refl)
change_rests T (Owned owner) f g calm taken e = let o = only_some _ _ g e in subst (Rests T f) o.1 (line_same T f _ refl refl refl)
change_rests T Cuts f g calm taken e =
    let i = if_some _ _ g e in
    moved_rests T f g Cut (last_that in_ring f.line) (each_meets (Meets T f.line Cut) (last_that in_ring f.line) (λ k is.
    let l : IsLast in_ring f.line k = subst (LastOf in_ring f.line) is (last_of in_ring f.line) in
    record { entry = l.e; here = l.here; may = cut_may l.e.stands; same = inl (taken refl) })) i.1

-- ---- a claim

count_more : (test : Standing → Bool) (line : List Entry) (x : Entry) → count test (line ++ x ∷ []) ≡ count test line + bit (test x.stands)
count_more test [] x = omega arith
count_more test (y ∷ ys) x = let h = count_more test ys x in one_more (bit (test y.stands)) (count test (ys ++ x ∷ [])) (count test ys) (bit (test x.stands)) h
  where
    one_more : (a b c d : ℕ) → b ≡ c + d → a + b ≡ a + c + d
    one_more a b c d e = omega (arith, e)

get_more : (line : List Entry) (x : Entry) (i : ℕ) (e : Entry) → slice_get (line ++ x ∷ []) i ≡ Some e → (slice_get line i ≡ Some e) ⊎ (i ≡ length line)
get_more [] x zero e h = inr refl
get_more [] x (suc i) e h = absurd (cc (h))
get_more (y ∷ ys) x zero e h = inl h
get_more (y ∷ ys) x (suc i) e h = ⊎_elim (λ t. inl t) (λ t. inr (ap suc t)) (get_more ys x i e h)

one_longer : (line : List Entry) (x : Entry) → length (line ++ x ∷ []) ≡ length line + 1
one_longer line x = length-append line (x ∷ [])

not_full : (a b c : Bool) → not (a || b || c) ≡ true → c ≡ false
not_full false false c e = not_true c e
not_full true b c e = absurd (true≢false (sym e))
not_full false true c e = absurd (true≢false (sym e))

-- a place is claimed only where the ring isn't full, so that nothing is over
claims_cut : (T : Type 0) (tabled actor : ℕ) (name : Name) (epoch len : ℕ) (f g : File) (places cuts asked : ℕ) → changed (Claims actor name epoch len) f ≡ Some g
    → IsCutting T tabled f places cuts asked → IsCutting T tabled g places cuts asked
claims_cut T tabled actor name epoch len f g places cuts asked e h =
    let o = only_some _ _ g e in
    subst (λ (q : File). IsCutting T tabled q places cuts asked) o.1 (more (not_full (is_gone epoch f) (is_spent f) (is_full f) o.0))
  where
    new : Entry
    new = record { name = name; epoch = epoch; len = len; stands = Claimed actor }

    more : is_full f ≡ false → IsCutting T tabled (record f { line = f.line ++ new ∷ [] }) places cuts asked
    more open_ =
        let less : claimed f < freed f + f.capacity = not_at_most (freed f + f.capacity) (claimed f) open_ in
        let number : count free (f.line ++ new ∷ []) ≡ count free f.line + 0 = count_more free f.line new in
        let many = one_longer f.line new in
        let most = h.most in record {
          capacity = h.capacity;
          most = omega (arith, most, many);
          over = λ over. let le = at_most _ _ over in absurd (omega (arith, le, less, number, many));
          smaller = h.smaller;
          least = λ some over. ⊎_elim (λ t. inl t) (λ p. inr (omega (arith, p, number)))
              (h.least some (isnt_at_most (freed f + f.capacity + 1) (claimed f) (omega (arith, less))));
          from = h.from;
          as_many = h.as_many;
          cut = λ i x le lt at_. ⊎_elim
              (λ old. h.cut i x le lt old) (λ last. absurd (omega (arith, last, lt, most)))
              (get_more f.line new i x at_);
        }

-- a change that leaves the capacity
pub others_cut : (T : Type 0) (tabled : ℕ) (file : ℕ) (c : Change) (f g : File) (places cuts asked : ℕ) → shapes.Leaves (OnFile file c) → (frees c ≡ true → T)
    → changed c f ≡ Some g → IsCutting T tabled f places cuts asked → IsCutting T tabled g places cuts asked
others_cut T tabled file (Claims actor name epoch len) f g places cuts asked leaves taken e h = claims_cut T tabled actor name epoch len f g places cuts asked e h
others_cut T tabled file (Sizes capacity) f g places cuts asked leaves taken e h = absurd leaves
others_cut T tabled file (Puts actor place) f g places cuts asked leaves taken e h = cutting_rests T tabled places cuts asked f g (change_rests T (Puts actor place) f g tt taken e) h
others_cut T tabled file Moves f g places cuts asked leaves taken e h = cutting_rests T tabled places cuts asked f g (change_rests T Moves f g tt taken e) h
others_cut T tabled file (Takes vhost) f g places cuts asked leaves taken e h = cutting_rests T tabled places cuts asked f g (change_rests T (Takes vhost) f g tt taken e) h
others_cut T tabled file (PutsBack vhost) f g places cuts asked leaves taken e h = cutting_rests T tabled places cuts asked f g (change_rests T (PutsBack vhost) f g tt taken e) h
others_cut T tabled file (Leaves worker fate) f g places cuts asked leaves taken e h = cutting_rests T tabled places cuts asked f g (change_rests T (Leaves worker fate) f g tt taken e) h
others_cut T tabled file Shuts f g places cuts asked leaves taken e h = absurd leaves
others_cut T tabled file Reopens f g places cuts asked leaves taken e h = absurd leaves
others_cut T tabled file (Owned owner) f g places cuts asked leaves taken e h = absurd leaves
others_cut T tabled file Cuts f g places cuts asked leaves taken e h = cutting_rests T tabled places cuts asked f g (change_rests T Cuts f g tt taken e) h

-- ---- the resize's own events

-- its beginning
pub sizes_cut : (T : Type 0) (tabled asked : ℕ) (f g : File) → changed (Sizes asked) f ≡ Some g → IsCutting T tabled g (claimed f) 0 asked
sizes_cut T tabled asked f g e =
    let o = only_some _ _ g e in
    subst (λ (q : File). IsCutting T tabled q (claimed f) 0 asked) o.1 (record {
      capacity = refl;
      most = omega arith;
      over = λ over. refl;
      smaller = λ some. absurd (omega (arith, some));
      least = λ some over. absurd (omega (arith, some));
      from = length f.line;
      as_many = omega arith;
      cut = λ i x le lt at_. let below = at_below f.line i x at_ in absurd (omega (arith, le, below));
    })

-- the entry that it cuts is before those that it has cut
below_cut : (T : Type 0) (tabled : ℕ) (f : File) (places cuts asked i : ℕ) (h : IsCutting T tabled f places cuts asked) → claimed f ≡ places
    → IsLast in_ring f.line i → i < h.from
below_cut T tabled f places cuts asked i h all l = elim (cases_lt i h.from) [
  | inl lt ↦ lt
  | inr le ↦
      let below = at_below f.line i l.e l.here in
      let cut : l.e.stands ≡ Cut = h.cut i l.e le (omega (arith, below, all)) l.here in
      absurd (true≢false (sym l.passes ∙ ap in_ring cut))
]

own_cut_at : (T : Type 0) (tabled : ℕ) (f : File) (places cuts asked i : ℕ) → InThreeParts f.line → claimed f ≤ freed f + max f.capacity tabled → is_over f ≡ true
    → IsLast in_ring f.line i → IsCutting T tabled f places cuts asked
    → IsCutting T tabled (record f { line = restand i Cut f.line }) places (cuts + 1) asked
own_cut_at T tabled f places cuts asked i parts room is l h =
    let all : claimed f ≡ places = h.over is in
    let le : freed f + f.capacity + 1 ≤ claimed f = at_most (freed f + f.capacity + 1) (claimed f) is in
    let before = below_cut T tabled f places cuts asked i h all l in
    let many = restand_length i Cut f.line in
    let number = restand_count free i Cut f.line l.e l.here in
    let ring : bit (free l.e.stands) ≡ 0 = ap (λ (b : Bool). bit (not b)) l.passes in
    let capacity = h.capacity in
    let as_many = h.as_many in record {
      capacity = h.capacity;
      most = omega (arith, all, many);
      over = λ over. omega (arith, all, many);
      smaller = λ some. omega (arith, room, le, capacity);
      least = λ some over.
          let less = not_at_most _ _ over in
          inr (omega (arith, less, all, le, number, ring, many));
      from = i;
      as_many = omega (arith, before, as_many);
      cut = λ j e from lt at_. ⊎_elim
          (λ t. t.1)
          (λ t. ⊎_elim
          (λ later. behind_ring f.line i j l.e e parts l.here l.passes later t.1 (l.behind j e later t.1))
          (λ same. absurd (t.0 same))
          (below_or_same i j (omega (arith, from))))
          (restand_get i Cut f.line j e at_);
    }

pub own_cut : (T : Type 0) (tabled : ℕ) (f g : File) (places cuts asked : ℕ) → InThreeParts f.line → claimed f ≤ freed f + max f.capacity tabled
    → changed Cuts f ≡ Some g → IsCutting T tabled f places cuts asked → IsCutting T tabled g places (cuts + 1) asked
own_cut T tabled f g places cuts asked parts room e h =
    let i = if_some (is_over f && not (has_claim f)) _ g e in
    let over = both (is_over f) (not (has_claim f)) i.0 in
    go (last_that in_ring f.line) (last_of in_ring f.line) i.1 over.0
  where
    go : (o : Option ℕ) → LastOf in_ring f.line o → moves_to Cut f o ≡ Some g → is_over f ≡ true → IsCutting T tabled g places (cuts + 1) asked
    go None l k is = absurd (cc (k))
    go (Some j) l k is =
        subst (λ (q : File). IsCutting T tabled q places (cuts + 1) asked) (some_same _ g k) (own_cut_at T tabled f places cuts asked j parts room is l h)
