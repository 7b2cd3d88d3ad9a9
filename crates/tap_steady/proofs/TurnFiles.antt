-- A frame in hand stays the front of its file's batch, whatever others change of the file.
use Rattle.std.proofs.Common.{◌≡◌, ◌≢◌, ◌⊎◌, ℕ, zero, suc, ◌+◌, ◌-◌, ◌≤◌, List, [], ◌∷◌, ◌++◌, Bool, true, false, true≢false, Option, Some, None, inl, inr, ⊎_elim, refl, sym, ap, ◌∙◌, subst, arith}
use Rattle.std.specs.Prelude.{◌==◌, ◌&&◌, if◌then◌else◌, is_none, option_map, slice_get}
use Rattle.std.specs.Option.{option_map_or}
use Rattle.std.proofs.lemmas.Bool.Decides.{eqb_tells}
use Rattle.tap_frame.specs.declared.name.Name.{Name}
use Rattle.tap_ground.specs.Options.{◌>>=◌, only_if}
use Rattle.tap_world.specs.Setup.{Setup}
use Rattle.tap_world.specs.declared.line.Entry.{Entry}
use Rattle.tap_world.specs.declared.line.Standing.{Standing}
use Rattle.tap_world.specs.declared.line.Standing.TheVariants.{Batched, Claimed, Cut, Out, Ready}
use Rattle.tap_world.specs.Line.{File, first_that, in_batch, in_ring, last_that, or_here}
use Rattle.tap_world.specs.LineSteps.{Change, changed, is_claim_of, is_in_hand_of, may_leave, moves_to, ready_front, restand}
use Rattle.tap_world.specs.LineSteps.Change.{Claims, Cuts, Leaves, Moves, Owned, Puts, PutsBack, Reopens, Shuts, Sizes, Takes}
use Rattle.tap_world.specs.StepTurns.{frame_at, front_frame}
use Rattle.tap_world.specs.Sound.{ComesLast, InThreeParts, front_name, is_cut, rank}
use Rattle.tap_sound.proofs.Kit.{only_some, some_same, then_some}
use Rattle.tap_sound.proofs.Taken.{if_some}
use Rattle.tap_sound.proofs.Turned.{others}
use Rattle.tap_steady.proofs.PlacedLines.{PassesAt}

-- ---- the front of the batch

abbrev pub front_of : List Entry → Option Entry
front_of [] = None
front_of (e ∷ es) = if in_batch e.stands then Some e else front_of es

pub front_by : {B : Type 0} (k : Entry → Option B) (line : List Entry) → (first_that in_batch line >>= λ i. slice_get line i >>= k) ≡ (front_of line >>= k)
front_by k [] = refl
front_by k (e ∷ es) = go (in_batch e.stands) (front_by k es)
  where
    up : (o : Option ℕ) → (option_map (λ i. i + 1) o >>= λ i. slice_get (e ∷ es) i >>= k) ≡ (o >>= λ i. slice_get es i >>= k)
    up None = refl
    up (Some j) = let one : j + 1 ≡ suc j = omega arith in ap (λ (n : ℕ). slice_get (e ∷ es) n >>= k) one

    go : (b : Bool) → (first_that in_batch es >>= λ i. slice_get es i >>= k) ≡ (front_of es >>= k)
        → ((if b then Some 0 else option_map (λ i. i + 1) (first_that in_batch es)) >>= λ i. slice_get (e ∷ es) i >>= k)
        ≡ ((if b then Some e else front_of es) >>= k)
    go true h = refl
    go false h = up (first_that in_batch es) ∙ h

pub frame_by : (s : Setup) (f : File) → front_frame s f ≡ (front_of f.line >>= λ (e : Entry). frame_at s e)
frame_by s f = front_by (λ (e : Entry). frame_at s e) f.line

-- where there is a front's name, there is a front
pub front_named : (line : List Entry) (n : Name) → front_name line ≡ Some n → (e : Entry) × (front_of line ≡ Some e)
front_named line n h = go (front_of line) refl (sym (front_by (λ (e : Entry). Some e.name) line) ∙ h)
  where
    go : (o : Option Entry) → front_of line ≡ o → (o >>= λ (e : Entry). Some e.name) ≡ Some n → (e : Entry) × (front_of line ≡ Some e)
    go None is q = absurd (cc (q))
    go (Some e) is q = (e, is)

-- ---- lines

with_more : (line : List Entry) (d : Entry) → in_batch d.stands ≡ false → front_of (line ++ d ∷ []) ≡ front_of line
with_more [] d no_ = ap (λ (b : Bool). if b then Some d else None) no_
with_more (e ∷ es) d no_ = ap (λ (o : Option Entry). if in_batch e.stands then Some e else o) (with_more es d no_)

restood : (line : List Entry) (i : ℕ) (s : Standing) (d : Entry) → slice_get line i ≡ Some d → in_batch d.stands ≡ false → in_batch s ≡ false
    → front_of (restand i s line) ≡ front_of line
restood [] i s d get was is = refl
restood (e ∷ es) zero s d get was is =
    ap (λ (b : Bool). if b then Some (record e { stands = s }) else front_of es) is
    ∙ ap (λ (b : Bool). if b then Some e else front_of es) (sym (ap (λ (x : Entry). in_batch x.stands) (some_same e d get) ∙ was))
restood (e ∷ es) (suc i) s d get was is = ap (λ (o : Option Entry). if in_batch e.stands then Some e else o) (restood es i s d get was is)

-- what stands behind an entry of the ring isn't in the batch
none_behind : (es : List Entry) (e : Entry) → ComesLast 2 es → front_of es ≡ Some e → ⊥
none_behind [] e h is = cc (is)
none_behind (x ∷ xs) e h is = go x.stands h.0 is (none_behind xs e h.1)
  where
    go : (s : Standing) → ((is_cut s ≡ true) ⊎ (2 ≤ rank s)) → (if in_batch s then Some x else front_of xs) ≡ Some e → (front_of xs ≡ Some e → ⊥) → ⊥
    go Batched (inl h) q rest = true≢false (sym h)
    go Batched (inr h) q rest = omega (arith, h)
    go (Claimed actor) h q rest = rest q
    go Ready h q rest = rest q
    go Cut h q rest = rest q
    go (Out fate) h q rest = rest q

-- the ring's front goes to the batch's end
moved_on : (line : List Entry) (i : ℕ) (e : Entry) → InThreeParts line → first_that in_ring line ≡ Some i → front_of line ≡ Some e
    → front_of (restand i Batched line) ≡ Some e
moved_on [] i e parts first is = absurd (cc (first))
moved_on (x ∷ xs) i e parts first is = go x.stands refl parts.0 first is (moved_on xs)
  where
    ring_case : ((is_cut x.stands ≡ true) ⊎ ComesLast (rank x.stands) xs) → is_cut x.stands ≡ false → rank x.stands ≡ 2 → front_of xs ≡ Some e → ⊥
    ring_case (inl h) no_ two q = true≢false (sym h ∙ no_)
    ring_case (inr h) no_ two q = none_behind xs e (subst (λ (n : ℕ). ComesLast n xs) two h) q

    skip : (b : Bool) (j : ℕ) → in_batch x.stands ≡ b → option_map (λ k. k + 1) (first_that in_ring xs) ≡ Some j → (if b then Some x else front_of xs) ≡ Some e
        → ((k : ℕ) → first_that in_ring xs ≡ Some k → front_of xs ≡ Some e → front_of (restand k Batched xs) ≡ Some e)
        → front_of (restand j Batched (x ∷ xs)) ≡ Some e
    skip b j eq q front rest = up (first_that in_ring xs) refl q
      where
        inner : (b : Bool) → in_batch x.stands ≡ b → (if b then Some x else front_of xs) ≡ Some e → (k : ℕ)
            → (front_of xs ≡ Some e → front_of (restand k Batched xs) ≡ Some e) → (if in_batch x.stands then Some x else front_of (restand k Batched xs)) ≡ Some e
        inner true is_ f k r = ap (λ (y : Bool). if y then Some x else front_of (restand k Batched xs)) is_ ∙ f
        inner false is_ f k r = ap (λ (y : Bool). if y then Some x else front_of (restand k Batched xs)) is_ ∙ r f

        up : (o : Option ℕ) → first_that in_ring xs ≡ o → option_map (λ k. k + 1) o ≡ Some j → front_of (restand j Batched (x ∷ xs)) ≡ Some e
        up None is_ h = absurd (cc (h))
        up (Some k) is_ h =
            let same = some_same (k + 1) j h in
            let one : suc k ≡ j = omega (arith, same) in
            subst (λ (n : ℕ). front_of (restand n Batched (x ∷ xs)) ≡ Some e) one (inner b eq front k (λ f. rest k is_ f))

    go : (s : Standing) → x.stands ≡ s → ((is_cut x.stands ≡ true) ⊎ ComesLast (rank x.stands) xs)
        → (if in_ring x.stands then Some 0 else option_map (λ k. k + 1) (first_that in_ring xs)) ≡ Some i → (if in_batch x.stands then Some x else front_of xs) ≡ Some e
        → ((k : ℕ) (d : Entry) → InThreeParts xs → first_that in_ring xs ≡ Some k → front_of xs ≡ Some d → front_of (restand k Batched xs) ≡ Some d)
        → front_of (restand i Batched (x ∷ xs)) ≡ Some e
    go (Claimed actor) is_ p f q rest = absurd (ring_case p (ap is_cut is_) (ap rank is_) (subst (λ (y : Standing). (if in_batch y then Some x else front_of xs) ≡ Some e) is_ q))
    go Ready is_ p f q rest = absurd (ring_case p (ap is_cut is_) (ap rank is_) (subst (λ (y : Standing). (if in_batch y then Some x else front_of xs) ≡ Some e) is_ q))
    go Batched is_ p f q rest = skip true i (ap in_batch is_)
        (subst (λ (y : Standing). (if in_ring y then Some 0 else option_map (λ k. k + 1) (first_that in_ring xs)) ≡ Some i) is_ f)
        (subst (λ (y : Standing). (if in_batch y then Some x else front_of xs) ≡ Some e) is_ q) (λ k a b. rest k e parts.1 a b)
    go Cut is_ p f q rest = skip false i (ap in_batch is_)
        (subst (λ (y : Standing). (if in_ring y then Some 0 else option_map (λ k. k + 1) (first_that in_ring xs)) ≡ Some i) is_ f)
        (subst (λ (y : Standing). (if in_batch y then Some x else front_of xs) ≡ Some e) is_ q) (λ k a b. rest k e parts.1 a b)
    go (Out fate) is_ p f q rest = skip false i (ap in_batch is_)
        (subst (λ (y : Standing). (if in_ring y then Some 0 else option_map (λ k. k + 1) (first_that in_ring xs)) ≡ Some i) is_ f)
        (subst (λ (y : Standing). (if in_batch y then Some x else front_of xs) ≡ Some e) is_ q) (λ k a b. rest k e parts.1 a b)

-- the ring's last entry isn't in the batch
last_there : (line : List Entry) (i : ℕ) → last_that in_ring line ≡ Some i → PassesAt in_ring line i
last_there [] i h = absurd (cc (h))
last_there (x ∷ xs) i h = go (last_that in_ring xs) (in_ring x.stands) refl h (last_there xs)
  where
    go : (o : Option ℕ) (b : Bool) → in_ring x.stands ≡ b → or_here b o ≡ Some i → ((k : ℕ) → o ≡ Some k → PassesAt in_ring xs k) → PassesAt in_ring (x ∷ xs) i
    go (Some k) b t g rest =
        let same = some_same (k + 1) i g in
        let up : suc k ≡ i = omega (arith, same) in
        let r = rest k refl in
        subst (PassesAt in_ring (x ∷ xs)) up (record { e = r.e; here = r.here; passes = r.passes })
    go None true t g rest = subst (PassesAt in_ring (x ∷ xs)) (some_same 0 i g) (record { e = x; here = refl; passes = t })
    go None false t g rest = absurd (cc (g))

ring_unbatched : (s : Standing) → in_ring s ≡ true → in_batch s ≡ false
ring_unbatched (Claimed actor) h = refl
ring_unbatched Ready h = refl
ring_unbatched Batched h = absurd (true≢false (sym h))
ring_unbatched Cut h = refl
ring_unbatched (Out fate) h = refl

claim_unbatched : (actor : ℕ) (s : Standing) → is_claim_of actor s ≡ true → in_batch s ≡ false
claim_unbatched actor (Claimed other) h = refl
claim_unbatched actor Batched h = absurd (true≢false (sym h))
claim_unbatched actor Ready h = refl
claim_unbatched actor Cut h = refl
claim_unbatched actor (Out fate) h = refl

-- ---- changes

-- a worker that takes, puts back or gives up a frame isn't this one
abbrev pub IsApart : ℕ → Change → Type 0
IsApart vhost (Takes other) = other ≢ vhost
IsApart vhost (PutsBack other) = other ≢ vhost
IsApart vhost (Leaves (Some other) fate) = other ≢ vhost
IsApart vhost c = Unit {0}

-- this worker has a frame in hand exactly where it had, and then the same
pub record KeepsHand (vhost : ℕ) (f g : File) : Type 0 where
  pub hand : is_in_hand_of vhost g ≡ is_in_hand_of vhost f
  pub front : f.hand ≡ Some vhost → front_of g.line ≡ front_of f.line

lets : (vhost : ℕ) (f h g : File) (test : Bool) → only_if test h ≡ Some g → h.hand ≡ f.hand → front_of h.line ≡ front_of f.line → KeepsHand vhost f g
lets vhost f h g test e hand front = subst (KeepsHand vhost f) (only_some test h g e).1 (record {
  hand = ap (λ (o : Option ℕ). option_map_or (λ v. v == vhost) o false) hand;
  front = λ is. front;
})

-- nothing is in this worker's hand, before and after
bare : (vhost : ℕ) (f g : File) → is_in_hand_of vhost f ≡ false → is_in_hand_of vhost g ≡ false → KeepsHand vhost f g
bare vhost f g was is = record {
  hand = is ∙ sym was;
  front = λ h. absurd (true≢false (sym (mine vhost) ∙ ap (λ (o : Option ℕ). option_map_or (λ v. v == vhost) o false) (sym h) ∙ was));
}
  where
    mine : (n : ℕ) → (n == n) ≡ true
    mine n = ⊎_elim (λ t. t.0) (λ t. absurd (t.1 refl)) (eqb_tells n n)

-- it is in no hand, or in another's
free_hand : (vhost : ℕ) (o : Option ℕ) → is_none o ≡ true → option_map_or (λ v. v == vhost) o false ≡ false
free_hand vhost None h = refl
free_hand vhost (Some v) h = absurd (true≢false (sym h))

others_hand : (vhost other : ℕ) (o : Option ℕ) → other ≢ vhost → option_map_or (λ v. v == other) o false ≡ true → option_map_or (λ v. v == vhost) o false ≡ false
others_hand vhost other None apart h = refl
others_hand vhost other (Some v) apart h = ⊎_elim (λ t. others v vhost (λ q. apart (sym t.1 ∙ q))) (λ t. absurd (true≢false (sym h ∙ t.0))) (eqb_tells v other)

-- the entry that moves has no place in the batch, before and after
stood : (vhost : ℕ) (f g : File) (s : Standing) (o : Option ℕ) → ((i : ℕ) → o ≡ Some i → front_of (restand i s f.line) ≡ front_of f.line)
    → moves_to s f o ≡ Some g → KeepsHand vhost f g
stood vhost f g s None h e = absurd (cc (e))
stood vhost f g s (Some i) h e = subst (KeepsHand vhost f) (some_same (record f { line = restand i s f.line }) g e)
    (record { hand = refl; front = λ is. h i refl })

left_on : (vhost : ℕ) (f g : File) (s : Standing) (o : Option ℕ) → is_in_hand_of vhost f ≡ false → moves_to s (record f { hand = None }) o ≡ Some g → KeepsHand vhost f g
left_on vhost f g s None was e = absurd (cc (e))
left_on vhost f g s (Some i) was e = bare vhost f g was
    (ap (λ (q : File). is_in_hand_of vhost q) (sym (some_same (record f { hand = None; line = restand i s f.line }) g e)))

three : (a b c : Bool) → (a && b && c) ≡ true → b ≡ true
three true true c h = refl
three true false c h = absurd (true≢false (sym h))
three false b c h = absurd (true≢false (sym h))

pub hand_stays : (vhost : ℕ) (c : Change) (f g : File) → IsApart vhost c → InThreeParts f.line → (f.hand ≡ Some vhost → (e : Entry) × (front_of f.line ≡ Some e))
    → changed c f ≡ Some g → KeepsHand vhost f g
hand_stays vhost (Claims actor name epoch len) f g apart parts has e =
    lets vhost f (record f { line = f.line ++ record { name = name; epoch = epoch; len = len; stands = Claimed actor } ∷ [] }) g _ e refl
    (with_more f.line (record { name = name; epoch = epoch; len = len; stands = Claimed actor }) refl)
hand_stays vhost (Puts actor place) f g apart parts has e =
    let t = then_some (slice_get f.line (place - f.first)) _ g e in
    let b = (only_some _ _ g t.2).0 in
    lets vhost f (record f { line = restand (place - f.first) Ready f.line }) g _ t.2 refl
    (restood f.line (place - f.first) Ready t.0 t.1 (claim_unbatched actor t.0.stands b) refl)
hand_stays vhost Moves f g apart parts has e = moves_on (ready_front f.line) refl (if_some _ _ g e).1
  where
    moves_on : (o : Option ℕ) → ready_front f.line ≡ o → moves_to Batched f o ≡ Some g → KeepsHand vhost f g
    moves_on None is h = absurd (cc (h))
    moves_on (Some i) is h = subst (KeepsHand vhost f) (some_same (record f { line = restand i Batched f.line }) g h) (record {
      hand = refl;
      front = λ mine.
          let r = then_some (first_that in_ring f.line) _ i is in
          let o = only_some _ r.0 i r.2 in
          let x = has mine in
          moved_on f.line i x.0 parts (r.1 ∙ ap (λ (k : ℕ). Some k) o.1) x.1 ∙ sym x.1;
    })
hand_stays vhost (Takes other) f g apart parts has e =
    let o = only_some _ _ g e in
    bare vhost f g (free_hand vhost f.hand (three _ (is_none f.hand) _ o.0))
    (ap (λ (q : File). is_in_hand_of vhost q) (sym o.1) ∙ others other vhost apart)
hand_stays vhost (PutsBack other) f g apart parts has e =
    let o = only_some (is_in_hand_of other f) (record f { hand = None }) g e in
    bare vhost f g (others_hand vhost other f.hand apart o.0) (ap (λ (q : File). is_in_hand_of vhost q) (sym o.1))
hand_stays vhost (Leaves None fate) f g apart parts has e =
    let t = if_some (may_leave None f) _ g e in
    left_on vhost f g (Out fate) (first_that in_batch f.line) (free_hand vhost f.hand t.0) t.1
hand_stays vhost (Leaves (Some other) fate) f g apart parts has e =
    let t = if_some (may_leave (Some other) f) _ g e in
    left_on vhost f g (Out fate) (first_that in_batch f.line) (others_hand vhost other f.hand apart t.0) t.1
hand_stays vhost Shuts f g apart parts has e = lets vhost f (record f { shut = true }) g _ e refl refl
hand_stays vhost Reopens f g apart parts has e = lets vhost f (record f { shut = false; epoch = f.epoch + 1 }) g _ e refl refl
hand_stays vhost (Sizes capacity) f g apart parts has e = lets vhost f (record f { capacity = capacity; resizes = f.resizes + 1 }) g _ e refl refl
hand_stays vhost Cuts f g apart parts has e = stood vhost f g Cut (last_that in_ring f.line)
    (λ i is. let p = last_there f.line i is in restood f.line i Cut p.e p.here (ring_unbatched p.e.stands p.passes) refl)
    (if_some _ _ g e).1
hand_stays vhost (Owned owner) f g apart parts has e = lets vhost f (record f { owner = owner }) g _ e refl refl
