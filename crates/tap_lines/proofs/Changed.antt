-- What each file keeps, after each change of it.
use Rattle.std.proofs.Common.{◌≡◌, ℕ, zero, suc, ◌+◌, ◌-◌, ◌^◌, ◌<◌, ◌≤◌, List, [], ◌∷◌, ◌++◌, length, Bool, true, false, Option, Some, None, refl, sym, ap, ◌∙◌, subst, true≢false, length-append, arith}
use Rattle.std.proofs.lemmas.Bool.{eqb-false, false≢true}
use Rattle.std.proofs.lemmas.Option.{slice_get_within}
use Rattle.std.specs.Prelude.{if◌then◌else◌, ◌==◌, ◌||◌, ◌&&◌, not, nat_lt, IfSome, IsSome, is_none, is_some, option_map, slice_get, slice_set}
use Rattle.std.specs.Option.{option_map_or}
use Rattle.tap_frame.specs.declared.name.Name.{Name}
use Rattle.tap_frame.specs.Frame.{FrameValue}
use Rattle.tap_ledger.specs.declared.fate.Fate.{Fate}
use Rattle.tap_ground.specs.Options.{◌>>=◌, only_if}
use Rattle.tap_world.specs.declared.line.Entry.{Entry}
use Rattle.tap_world.specs.declared.line.Standing.{Standing}
use Rattle.tap_world.specs.declared.line.Standing.TheVariants.{Batched, Claimed, Cut, Out, Ready}
use Rattle.tap_world.specs.Line.{File, claimed, count, first_that, has_claim, in_batch, in_ring, is_claimed, is_full, is_gone, is_over, is_spent, last_that}
use Rattle.tap_world.specs.LineSteps.{changed, filled, is_claim_of, is_in_hand_of, may_leave, moves_to, ready_front, restand}
use Rattle.tap_world.specs.LineSteps.Change.{Claims, Cuts, Leaves, Moves, Puts, PutsBack, Takes}
use Rattle.tap_world.specs.StepRing.{name_at}
use Rattle.tap_lines.specs.Framed.{Goes, HasFrameAt, HasFrames, IsFrameAt, IsFrameOf}
use Rattle.tap_lines.specs.Indexed.{AreParted, filled_up, to_be_taken}
use Rattle.tap_lines.specs.Placed.{IsPlaced, MayChange, Placed}
use Rattle.tap_lines.proofs.Kit.{some_same}
use Rattle.tap_lines.proofs.Filling.{up_is}
use Rattle.tap_lines.proofs.Parted.{parted_moved}
use Rattle.tap_lines.proofs.Places.{first_at, first_more, first_same, last_at}
use Rattle.tap_lines.proofs.Index.{IsClaimAt, ready_front_is}
use Rattle.tap_lines.proofs.Fronts.{none_count}
use Rattle.tap_lines.proofs.Beside.{IsBeside, frames_cut, frames_left, frames_long, frames_more, frames_moved, frames_put, frames_put_back, frames_taken, front_beside, ready_beside}

abbrev pub placed : File → List (Option FrameValue) → Placed
placed f frames = record { file = f; frames = frames }

-- ---- what a change asks

only_there : {A : Type 0} (b : Bool) (x : A) → is_some (only_if b x) ≡ true → b ≡ true
only_there true x h = refl
only_there false x h = h

none_of : (a b c : Bool) → not (a || b || c) ≡ true → (a ≡ false) × (b ≡ false) × (c ≡ false)
none_of false false false h = (refl, refl, refl)
none_of false false true h = absurd (true≢false (sym h))
none_of false true c h = absurd (true≢false (sym h))
none_of true b c h = absurd (true≢false (sym h))

pub length_restand : (i : ℕ) (s : Standing) (line : List Entry) → length (restand i s line) ≡ length line
length_restand i s [] = refl
length_restand zero s (x ∷ xs) = refl
length_restand (suc i) s (x ∷ xs) = ap suc (length_restand i s xs)

-- ---- a claim

pub claim_placed : (actor : ℕ) (name : Name) (epoch len : ℕ) (f : File) (frames : List (Option FrameValue)) → MayChange (Claims actor name epoch len) f
    → IsPlaced (placed f frames)
    → IsPlaced (placed (record f { line = f.line ++ record { name = name; epoch = epoch; len = len; stands = Claimed actor } ∷ [] }) (frames ++ None ∷ []))
claim_placed actor name epoch len f frames may h =
    let e : Entry = record { name = name; epoch = epoch; len = len; stands = Claimed actor } in
    let open_ = none_of (is_gone epoch f) (is_spent f) (is_full f) (only_there _ _ may) in
    let spent = eqb-false (claimed f) (2 ^ 40 - 1) open_.1 in
    let more = length-append f.line (e ∷ []) in
    record {
      places = le_next (claimed f) (2 ^ 40 - 1) f.first (length f.line) _ h.places spent refl more;
      hand = λ t. ap (λ (o : Option ℕ). is_some o) (first_more in_batch f.line e refl) ∙ h.hand t;
      frames = frames_more (is_some f.hand) f.line frames e actor refl h.frames;
    }
  where
    le_next : (n m a k l : ℕ) → n ≤ m → (n ≡ m → ⊥) → n ≡ a + k → l ≡ k + 1 → a + l ≤ m
    le_next n m a k l le ne is more = omega (arith, le, ne, is, more)

-- ---- a put

pub record IsPut (actor i : ℕ) (f : File) : Type 0 where
  pub e : Entry
  pub at : slice_get f.line i ≡ Some e
  pub its : is_claim_of actor e.stands ≡ true
  pub here : e.stands ≡ Claimed actor

claim_of : (actor : ℕ) (s : Standing) → is_claim_of actor s ≡ true → s ≡ Claimed actor
claim_of actor (Claimed other) h = ap (λ (n : ℕ). Claimed n) (Rattle.std.proofs.lemmas.Bool.eqb-true other actor h)
claim_of actor Ready h = absurd (true≢false (sym h))
claim_of actor Batched h = absurd (true≢false (sym h))
claim_of actor (Out fate) h = absurd (true≢false (sym h))
claim_of actor Cut h = absurd (true≢false (sym h))

pub put_is : (actor place : ℕ) (f : File) → MayChange (Puts actor place) f → IsPut actor (place - f.first) f
put_is actor place f may = go (slice_get f.line (place - f.first)) refl may
  where
    go : (o : Option Entry) → slice_get f.line (place - f.first) ≡ o
        → is_some (o >>= λ (e : Entry). only_if (is_claim_of actor e.stands) (record f { line = restand (place - f.first) Ready f.line })) ≡ true
        → IsPut actor (place - f.first) f
    go None at h = absurd (true≢false (sym h))
    go (Some e) at h = let c = only_there (is_claim_of actor e.stands) _ h in record { e = e; at = at; its = c; here = claim_of actor e.stands c }

pub put_claim : (actor i : ℕ) (f : File) → IsPut actor i f → IsClaimAt i f.line
put_claim actor i f p = ap (λ (o : Option Entry). option_map_or (λ (e : Entry). is_claimed e.stands) o false) p.at ∙ ap is_claimed p.here

pub put_changed : (actor place : ℕ) (f : File) → IsPut actor (place - f.first) f
    → changed (Puts actor place) f ≡ Some (record f { line = restand (place - f.first) Ready f.line })
put_changed actor place f p =
    ap (λ (o : Option Entry). o >>= λ (e : Entry). only_if (is_claim_of actor e.stands) (record f { line = restand (place - f.first) Ready f.line })) p.at
    ∙ ap (λ (b : Bool). only_if b (record f { line = restand (place - f.first) Ready f.line })) p.its

pub its_frame : (o : Option Entry) (e : Entry) (frame : FrameValue) → o ≡ Some e → IfSome o (λ d. IsFrameOf d frame) → IsFrameOf e frame
its_frame o e frame is h = subst (λ (p : Option Entry). IfSome p (λ d. IsFrameOf d frame)) is h

pub put_placed : (actor i : ℕ) (f : File) (frames : List (Option FrameValue)) (frame : FrameValue) → IsPut actor i f
    → IfSome (slice_get f.line i) (λ e. IsFrameOf e frame) → IsPlaced (placed f frames)
    → IsPlaced (placed (record f { line = restand i Ready f.line }) (slice_set frames i (Some frame)))
put_placed actor i f frames frame p its h =
    let ring : in_ring p.e.stands ≡ true = ap in_ring p.here in
    record {
      places = let long = length_restand i Ready f.line in subst (λ (n : ℕ). f.first + n ≤ 2 ^ 40 - 1) (sym long) h.places;
      hand = λ t. ap (λ (o : Option ℕ). is_some o) (first_same in_batch i Ready f.line p.e p.at (ap in_batch p.here)) ∙ h.hand t;
      frames = frames_put (is_some f.hand) i f.line frames p.e frame p.at ring (its_frame _ p.e frame p.at its) h.frames;
    }

pub put_within : (actor i : ℕ) (f : File) (frames : List (Option FrameValue)) → IsPut actor i f → IsPlaced (placed f frames) → i < length frames
put_within actor i f frames p h =
    let w = slice_get_within f.line i p.e p.at in let l = frames_long (is_some f.hand) f.line frames h.frames in omega (arith, w, l)

-- ---- a move

batch_there : (i : ℕ) (line : List Entry) → i < length line → is_some (first_that in_batch (restand i Batched line)) ≡ true
batch_there i [] lt = absurd (omega (arith, lt))
batch_there zero (x ∷ xs) lt = refl
batch_there (suc i) (x ∷ xs) lt = go (in_batch x.stands) (first_that in_batch (restand i Batched xs)) (batch_there i xs (omega (arith, lt)))
  where
    go : (b : Bool) (o : Option ℕ) → is_some o ≡ true → is_some (if b then Some 0 else option_map (λ j. j + 1) o) ≡ true
    go true o h = refl
    go false None h = h
    go false (Some j) h = refl

pub move_is : (f : File) → MayChange Moves f → (nat_lt (count in_batch f.line) 64 ≡ true) × (is_some (ready_front f.line) ≡ true)
move_is f may = go (nat_lt (count in_batch f.line) 64) (ready_front f.line) may
  where
    go : (b : Bool) (o : Option ℕ) → is_some (if b then moves_to Batched f o else None) ≡ true → (b ≡ true) × (is_some o ≡ true)
    go true None h = absurd (true≢false (sym h))
    go true (Some i) h = (refl, refl)
    go false o h = absurd (true≢false (sym h))

pub move_changed : (f : File) (i : ℕ) → MayChange Moves f → ready_front f.line ≡ Some i → changed Moves f ≡ Some (record f { line = restand i Batched f.line })
move_changed f i may front =
    ap (λ (b : Bool). if b then moves_to Batched f (ready_front f.line) else None) (move_is f may).0 ∙ ap (λ (o : Option ℕ). moves_to Batched f o) front

pub move_placed : (f : File) (i : ℕ) (frames : List (Option FrameValue)) → ready_front f.line ≡ Some i → AreParted f.line → IsPlaced (placed f frames)
    → IsPlaced (placed (record f { line = restand i Batched f.line }) frames)
move_placed f i frames front parted h =
    let r = ready_front_is f.line i front in
    record {
      places = let long = length_restand i Batched f.line in subst (λ (n : ℕ). f.first + n ≤ 2 ^ 40 - 1) (sym long) h.places;
      hand = λ t. batch_there i f.line (slice_get_within f.line i r.e r.at);
      frames = frames_moved (is_some f.hand) f.line frames i r.e parted r.first r.at r.stands
          (λ t none. absurd (false≢true (ap (λ (o : Option ℕ). is_some o) (sym none) ∙ h.hand t))) h.frames;
    }

pub name_is : (line : List Entry) (found : Option ℕ) (i : ℕ) (n : Name) → found ≡ Some i → IsSome (slice_get line i) → IfSome (slice_get line i) (λ e. n ≡ e.name)
    → name_at line found ≡ Some n
name_is line found i n is there h =
    ap (λ (o : Option ℕ). name_at line o) is ∙ go (slice_get line i) there h
  where
    go : (o : Option Entry) → IsSome o → IfSome o (λ e. n ≡ e.name) → (o >>= λ (e : Entry). Some e.name) ≡ Some n
    go None there h = absurd (true≢false (sym there))
    go (Some e) there h = ap Some (sym h)

pub get_there : (line : List Entry) (i : ℕ) (e : Entry) → slice_get line i ≡ Some e → IsSome (slice_get line i)
get_there line i e at = ap (λ (o : Option Entry). is_some o) at

-- ---- a frame that goes

pub goes : (line : List Entry) (frames : List (Option FrameValue)) (i : ℕ) (found : Option ℕ) (frame : FrameValue) (left : List (Option FrameValue)) → found ≡ Some i
    → IsBeside line frames i → slice_get frames i ≡ Some (Some frame) → left ≡ slice_set frames i None → Goes found (record { line = line; frames = frames }) frame left
goes line frames i found frame left is b stood gone =
    let same : b.frame ≡ frame = some_same b.frame frame (some_same (Some b.frame) (Some frame) (sym b.stood ∙ stood)) in
    let its : IsFrameOf b.e frame = subst (λ (x : FrameValue). IsFrameOf b.e x) same b.its in
    let at : IfSome (slice_get line i) (λ e. IsFrameOf e frame) = subst (λ (o : Option Entry). IfSome o (λ e. IsFrameOf e frame)) (sym b.at) its in
    record {
      index = i;
      is = is;
      stood = stood;
      its = subst (λ (o : Option ℕ). IsFrameAt o line frame) (sym is) at;
      gone = gone;
    }

pub stands_there : (line : List Entry) (frames : List (Option FrameValue)) (i : ℕ) → IsBeside line frames i → HasFrameAt i frames
stands_there line frames i b = (b.frame, b.stood)

-- ---- the frame in hand

in_hand_is : (vhost : ℕ) (o : Option ℕ) → option_map_or (λ v. v == vhost) o false ≡ true → is_some o ≡ true
in_hand_is vhost None h = h
in_hand_is vhost (Some v) h = refl

pub put_back_is : (vhost : ℕ) (f : File) → MayChange (PutsBack vhost) f → is_some f.hand ≡ true
put_back_is vhost f may = in_hand_is vhost f.hand (only_there (is_in_hand_of vhost f) _ may)

left_is : (b : Bool) (s : Standing) (f : File) (o : Option ℕ) → is_some (if b then moves_to s f o else None) ≡ true → (b ≡ true) × (is_some o ≡ true)
left_is true s f None h = absurd (true≢false (sym h))
left_is true s f (Some i) h = (refl, refl)
left_is false s f o h = absurd (true≢false (sym h))

pub hand_leaves : (vhost : ℕ) (fate : Fate) (f : File) → MayChange (Leaves (Some vhost) fate) f → (is_some f.hand ≡ true) × (is_some (first_that in_batch f.line) ≡ true)
hand_leaves vhost fate f may =
    let l = left_is (may_leave (Some vhost) f) (Out fate) (record f { hand = None }) (first_that in_batch f.line) may in
    (in_hand_is vhost f.hand l.0, l.1)

pub front_leaves : (fate : Fate) (f : File) → MayChange (Leaves None fate) f → (f.hand ≡ None) × (is_some (first_that in_batch f.line) ≡ true)
front_leaves fate f may =
    let l = left_is (may_leave None f) (Out fate) (record f { hand = None }) (first_that in_batch f.line) may in
    (none_is f.hand l.0, l.1)
  where
    none_is : (o : Option ℕ) → is_none o ≡ true → o ≡ None
    none_is None h = refl
    none_is (Some x) h = absurd (true≢false (sym h))

pub front_is_there : (f : File) (frames : List (Option FrameValue)) → is_some f.hand ≡ true → IsPlaced (placed f frames) → IsSome (first_that in_batch f.line)
front_is_there f frames t h = h.hand t

-- a line of the same length
same_places : (f : File) (line : List Entry) → length line ≡ length f.line → claimed f ≤ 2 ^ 40 - 1 → f.first + length line ≤ 2 ^ 40 - 1
same_places f line long h = subst (λ (n : ℕ). f.first + n ≤ 2 ^ 40 - 1) (sym long) h

pub put_back_placed : (f : File) (frames : List (Option FrameValue)) (i : ℕ) (frame : FrameValue) → is_some f.hand ≡ true → first_that in_batch f.line ≡ Some i
    → IsFrameAt (first_that in_batch f.line) f.line frame → IsPlaced (placed f frames)
    → IsPlaced (placed (record f { hand = None }) (slice_set frames i (Some frame)))
put_back_placed f frames i frame t first its h =
    let a = first_at in_batch f.line i first in
    let here : IfSome (slice_get f.line i) (λ e. IsFrameOf e frame) = subst (λ (o : Option ℕ). IsFrameAt o f.line frame) first its in
    let had : HasFrames true f.line frames = subst (λ (b : Bool). HasFrames b f.line frames) t h.frames in
    record {
      places = h.places;
      hand = λ n. absurd (true≢false (sym n));
      frames = frames_put_back f.line frames i a.0 frame first a.1 (its_frame _ a.0 frame a.1 here) had;
    }

pub put_back_within : (f : File) (frames : List (Option FrameValue)) (i : ℕ) → first_that in_batch f.line ≡ Some i → IsPlaced (placed f frames) → i < length frames
put_back_within f frames i first h =
    let a = first_at in_batch f.line i first in
    let w = slice_get_within f.line i a.0 a.1 in let l = frames_long (is_some f.hand) f.line frames h.frames in omega (arith, w, l)

pub hand_left_placed : (fate : Fate) (f : File) (frames : List (Option FrameValue)) (i : ℕ) → is_some f.hand ≡ true → first_that in_batch f.line ≡ Some i
    → IsPlaced (placed f frames) → IsPlaced (placed (record f { line = restand i (Out fate) f.line; hand = None }) frames)
hand_left_placed fate f frames i t first h =
    let had : HasFrames true f.line frames = subst (λ (b : Bool). HasFrames b f.line frames) t h.frames in
    record {
      places = same_places f _ (length_restand i (Out fate) f.line) h.places;
      hand = λ n. absurd (true≢false (sym n));
      frames = frames_left fate f.line frames i first had;
    }

-- the file has the frame of its front, where nothing is in hand
pub front_has : (f : File) (frames : List (Option FrameValue)) (i : ℕ) → f.hand ≡ None → first_that in_batch f.line ≡ Some i → IsPlaced (placed f frames) → IsBeside f.line frames i
front_has f frames i none first h =
    front_beside f.line frames i first (subst (λ (o : Option ℕ). HasFrames (is_some o) f.line frames) none h.frames)

pub left_placed : (fate : Fate) (f : File) (frames : List (Option FrameValue)) (i : ℕ) → f.hand ≡ None → first_that in_batch f.line ≡ Some i
    → IsPlaced (placed f frames) → IsPlaced (placed (record f { line = restand i (Out fate) f.line }) (slice_set frames i None))
left_placed fate f frames i none first h =
    let had : HasFrames false f.line frames = subst (λ (o : Option ℕ). HasFrames (is_some o) f.line frames) none h.frames in
    let off : HasFrames false (restand i (Out fate) f.line) (slice_set frames i None) =
    frames_left fate f.line (slice_set frames i None) i first (frames_taken f.line frames i first had) in
    record {
      places = same_places f _ (length_restand i (Out fate) f.line) h.places;
      hand = λ n. absurd (false≢true (sym (ap (λ (o : Option ℕ). is_some o) none) ∙ n));
      frames = subst (λ (o : Option ℕ). HasFrames (is_some o) (restand i (Out fate) f.line) (slice_set frames i None)) (sym none) off;
    }

pub left_changed : (fate : Fate) (f : File) (i : ℕ) → f.hand ≡ None → first_that in_batch f.line ≡ Some i
    → changed (Leaves None fate) f ≡ Some (record f { line = restand i (Out fate) f.line })
left_changed fate f i none first =
    ap (λ (o : Option ℕ). if is_none o then moves_to (Out fate) (record f { hand = None }) (first_that in_batch f.line) else None) none
    ∙ ap (λ (o : Option ℕ). moves_to (Out fate) (record f { hand = None }) o) first
    ∙ ap (λ (o : Option ℕ). Some (record f { line = restand i (Out fate) f.line; hand = o })) (sym none)

-- ---- a cut

pub cut_is : (f : File) → MayChange Cuts f → (count is_claimed f.line ≡ 0) × (is_some (last_that in_ring f.line) ≡ true)
cut_is f may =
    let l = left_is (is_over f && not (has_claim f)) Cut f (last_that in_ring f.line) may in
    (none_count is_claimed f.line (none_claimed (is_over f) (first_that is_claimed f.line) l.0), l.1)
  where
    none_claimed : (b : Bool) (o : Option ℕ) → (b && not (is_some o)) ≡ true → o ≡ None
    none_claimed true None h = refl
    none_claimed true (Some i) h = absurd (true≢false (sym h))
    none_claimed false o h = absurd (true≢false (sym h))

pub cut_changed : (f : File) (i : ℕ) → MayChange Cuts f → last_that in_ring f.line ≡ Some i → changed Cuts f ≡ Some (record f { line = restand i Cut f.line })
cut_changed f i may last =
    let l = left_is (is_over f && not (has_claim f)) Cut f (last_that in_ring f.line) may in
    ap (λ (b : Bool). if b then moves_to Cut f (last_that in_ring f.line) else None) l.0 ∙ ap (λ (o : Option ℕ). moves_to Cut f o) last

unclaimed : (line : List Entry) (i : ℕ) (e : Entry) → slice_get line i ≡ Some e → count is_claimed line ≡ 0 → is_claimed e.stands ≡ false
unclaimed [] i e at none = absurd (cc (at))
unclaimed (x ∷ xs) zero e at none = ap (λ (y : Entry). is_claimed y.stands) (sym (some_same x e at)) ∙ zero_of (is_claimed x.stands) none
  where
    zero_of : (b : Bool) → (if b then 1 else 0) + count is_claimed xs ≡ 0 → b ≡ false
    zero_of true h = absurd (omega (arith, h))
    zero_of false h = refl
unclaimed (x ∷ xs) (suc i) e at none = unclaimed xs i e at (omega (arith, none))

ring_ready : (s : Standing) → in_ring s ≡ true → is_claimed s ≡ false → s ≡ Ready
ring_ready (Claimed actor) r c = absurd (true≢false c)
ring_ready Ready r c = refl
ring_ready Batched r c = absurd (true≢false (sym r))
ring_ready (Out fate) r c = absurd (true≢false (sym r))
ring_ready Cut r c = absurd (true≢false (sym r))

pub record IsCut (f : File) (i : ℕ) : Type 0 where
  pub e : Entry
  pub at : slice_get f.line i ≡ Some e
  pub ready : e.stands ≡ Ready

pub cut_at : (f : File) (i : ℕ) → MayChange Cuts f → last_that in_ring f.line ≡ Some i → IsCut f i
cut_at f i may last =
    let a = last_at in_ring f.line i last in
    record { e = a.0; at = a.1; ready = ring_ready a.0.stands a.2 (unclaimed f.line i a.0 a.1 (cut_is f may).0) }

pub cut_has : (f : File) (frames : List (Option FrameValue)) (i : ℕ) → IsCut f i → IsPlaced (placed f frames) → IsBeside f.line frames i
cut_has f frames i c h = ready_beside (is_some f.hand) i f.line frames c.e c.at c.ready h.frames

pub cut_placed : (f : File) (frames : List (Option FrameValue)) (i : ℕ) → IsCut f i → IsPlaced (placed f frames)
    → IsPlaced (placed (record f { line = restand i Cut f.line }) (slice_set frames i None))
cut_placed f frames i c h = record {
  places = same_places f _ (length_restand i Cut f.line) h.places;
  hand = λ t. ap (λ (o : Option ℕ). is_some o) (first_same in_batch i Cut f.line c.e c.at (ap in_batch c.ready)) ∙ h.hand t;
  frames = frames_cut (is_some f.hand) i f.line frames c.e c.at c.ready h.frames;
}

-- ---- a frame that is taken in hand

take_go : (vhost : ℕ) (f : File) (line : List Entry)
    → is_some (only_if (option_map_or (λ v. v == vhost) f.owner false && is_none f.hand && is_some (first_that in_batch line)) (record f { line = line; hand = Some vhost })) ≡ true
    → (f.hand ≡ None) × (is_some (first_that in_batch line) ≡ true)
    × (only_if (option_map_or (λ v. v == vhost) f.owner false && is_none f.hand && is_some (first_that in_batch line)) (record f { line = line; hand = Some vhost })
    ≡ Some (record f { line = line; hand = Some vhost }))
take_go vhost f line h = go (option_map_or (λ v. v == vhost) f.owner false) f.hand (is_some (first_that in_batch line)) h
  where
    go : (a : Bool) (o : Option ℕ) (c : Bool) → is_some (only_if (a && is_none o && c) (record f { line = line; hand = Some vhost })) ≡ true
        → (o ≡ None) × (c ≡ true) × (only_if (a && is_none o && c) (record f { line = line; hand = Some vhost }) ≡ Some (record f { line = line; hand = Some vhost }))
    go true None true h = (refl, refl, refl)
    go true None false h = absurd (true≢false (sym h))
    go true (Some v) c h = absurd (true≢false (sym h))
    go false o c h = absurd (true≢false (sym h))

taken_line : (line : List Entry) → (if is_some (first_that in_batch line) then line else filled 64 line) ≡ to_be_taken line
taken_line line = ap (λ (l : List Entry). if is_some (first_that in_batch line) then line else l) (sym (up_is line))

pub record IsTaking (vhost : ℕ) (f : File) : Type 0 where
  pub free : f.hand ≡ None
  pub front : is_some (first_that in_batch (to_be_taken f.line)) ≡ true
  pub new : changed (Takes vhost) f ≡ Some (record f { line = to_be_taken f.line; hand = Some vhost })

pub take_is : (vhost : ℕ) (f : File) → MayChange (Takes vhost) f → IsTaking vhost f
take_is vhost f may =
    let t = take_go vhost f (if is_some (first_that in_batch f.line) then f.line else filled 64 f.line) may in
    record {
      free = t.0;
      front = ap (λ (l : List Entry). is_some (first_that in_batch l)) (sym (taken_line f.line)) ∙ t.1;
      new = t.2 ∙ ap (λ (l : List Entry). Some (record f { line = l; hand = Some vhost })) (taken_line f.line);
    }

filled_frames : (n : ℕ) (line : List Entry) (frames : List (Option FrameValue)) → AreParted line → HasFrames false line frames → HasFrames false (filled n line) frames
filled_frames zero line frames p h = h
filled_frames (suc n) line frames p h = go (ready_front line) refl (filled_frames n)
  where
    go : (o : Option ℕ) → ready_front line ≡ o → ((l : List Entry) (xs : List (Option FrameValue)) → AreParted l → HasFrames false l xs → HasFrames false (filled n l) xs)
        → HasFrames false (option_map_or (λ i. filled n (restand i Batched line)) o line) frames
    go None is more = h
    go (Some i) is more =
        let r = ready_front_is line i is in
        more (restand i Batched line) frames (parted_moved line i r.first p)
        (frames_moved false line frames i r.e p r.first r.at r.stands (λ t. absurd (true≢false (sym t))) h)

filled_long : (n : ℕ) (line : List Entry) → length (filled n line) ≡ length line
filled_long zero line = refl
filled_long (suc n) line = go (ready_front line) (filled_long n)
  where
    go : (o : Option ℕ) → ((l : List Entry) → length (filled n l) ≡ length l) → length (option_map_or (λ i. filled n (restand i Batched line)) o line) ≡ length line
    go None more = refl
    go (Some i) more = more (restand i Batched line) ∙ length_restand i Batched line

taken_frames : (line : List Entry) (frames : List (Option FrameValue)) → AreParted line → HasFrames false line frames → HasFrames false (to_be_taken line) frames
taken_frames line frames p h = go (is_some (first_that in_batch line))
  where
    go : (b : Bool) → HasFrames false (if b then line else filled_up line) frames
    go true = h
    go false = subst (λ (l : List Entry). HasFrames false l frames) (sym (up_is line)) (filled_frames 64 line frames p h)

taken_long : (line : List Entry) → length (to_be_taken line) ≡ length line
taken_long line = go (is_some (first_that in_batch line))
  where
    go : (b : Bool) → length (if b then line else filled_up line) ≡ length line
    go true = refl
    go false = ap (λ (l : List Entry). length l) (up_is line) ∙ filled_long 64 line

took_frames : (f : File) (frames : List (Option FrameValue)) → f.hand ≡ None → AreParted f.line → IsPlaced (placed f frames) → HasFrames false (to_be_taken f.line) frames
took_frames f frames free p h = taken_frames f.line frames p (subst (λ (o : Option ℕ). HasFrames (is_some o) f.line frames) free h.frames)

pub take_has : (f : File) (frames : List (Option FrameValue)) (i : ℕ) → f.hand ≡ None → first_that in_batch (to_be_taken f.line) ≡ Some i → AreParted f.line
    → IsPlaced (placed f frames) → IsBeside (to_be_taken f.line) frames i
take_has f frames i free first p h = front_beside (to_be_taken f.line) frames i first (took_frames f frames free p h)

pub take_placed : (vhost : ℕ) (f : File) (frames : List (Option FrameValue)) (i : ℕ) → f.hand ≡ None → first_that in_batch (to_be_taken f.line) ≡ Some i → AreParted f.line
    → IsPlaced (placed f frames) → IsPlaced (placed (record f { line = to_be_taken f.line; hand = Some vhost }) (slice_set frames i None))
take_placed vhost f frames i free first p h = record {
  places = same_places f _ (taken_long f.line) h.places;
  hand = λ t. ap (λ (o : Option ℕ). is_some o) first;
  frames = frames_taken (to_be_taken f.line) frames i first (took_frames f frames free p h);
}
