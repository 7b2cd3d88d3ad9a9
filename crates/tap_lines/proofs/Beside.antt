-- The frames beside a line, after each change of the line.
use Rattle.std.proofs.Common.{◌≡◌, ℕ, zero, suc, ◌+◌, List, [], ◌∷◌, ◌++◌, length, Bool, true, false, Option, Some, None, refl, sym, ap, ◌∙◌, subst, true≢false, arith}
use Rattle.std.specs.Prelude.{if◌then◌else◌, ◌&&◌, not, option_map, slice_get, slice_set}
use Rattle.tap_frame.specs.Frame.{FrameValue}
use Rattle.tap_ledger.specs.declared.fate.Fate.{Fate}
use Rattle.tap_world.specs.declared.line.Entry.{Entry}
use Rattle.tap_world.specs.declared.line.Standing.{Standing}
use Rattle.tap_world.specs.declared.line.Standing.TheVariants.{Batched, Claimed, Cut, Out, Ready}
use Rattle.tap_world.specs.Line.{first_that, in_batch, in_ring}
use Rattle.tap_world.specs.LineSteps.{restand}
use Rattle.tap_lines.specs.Framed.{HasFrames, IsFrameOf, StandsBeside, has_frame}
use Rattle.tap_lines.specs.Indexed.{AreParted}
use Rattle.tap_lines.proofs.Kit.{next_some, some_same}
use Rattle.tap_lines.proofs.Parted.{not_batched}

-- ---- what stands beside one entry

stands_by : (b d : Bool) (e : Entry) (x : Option FrameValue) → b ≡ d → StandsBeside b e x → StandsBeside d e x
stands_by b d e x is h = subst (λ (a : Bool). StandsBeside a e x) is h

nothing_beside : (e : Entry) (x : Option FrameValue) → StandsBeside false e x → x ≡ None
nothing_beside e None h = refl
nothing_beside e (Some x) h = elim h [ ]

one_beside : (e : Entry) (x : Option FrameValue) → StandsBeside true e x → (y : FrameValue) × (x ≡ Some y) × IsFrameOf e y
one_beside e None h = elim h [ ]
one_beside e (Some x) h = (x, refl, h)

-- it is the same entry for its frame where it stands elsewhere
beside_restood : (b : Bool) (s : Standing) (e : Entry) (x : Option FrameValue) → StandsBeside b e x → StandsBeside b (record e { stands = s }) x
beside_restood true s e None h = elim h [ ]
beside_restood true s e (Some x) h = record { name = h.name; mark = h.mark }
beside_restood false s e None h = tt
beside_restood false s e (Some x) h = elim h [ ]

frame_of_restood : (s : Standing) (e : Entry) (x : FrameValue) → IsFrameOf e x → IsFrameOf (record e { stands = s }) x
frame_of_restood s e x h = record { name = h.name; mark = h.mark }

-- ---- as many frames as entries

pub frames_long : (in_hand : Bool) (line : List Entry) (frames : List (Option FrameValue)) → HasFrames in_hand line frames → length frames ≡ length line
frames_long in_hand [] [] h = refl
frames_long in_hand [] (x ∷ xs) h = elim h [ ]
frames_long in_hand (e ∷ es) [] h = elim h [ ]
frames_long in_hand (e ∷ es) (x ∷ xs) h = ap suc (frames_long (in_hand && not (in_batch e.stands)) es xs h.1)

pub no_frames : (in_hand : Bool) → HasFrames in_hand [] []
no_frames in_hand = tt

-- ---- one entry more, which is claimed

pub frames_more : (in_hand : Bool) (line : List Entry) (frames : List (Option FrameValue)) (e : Entry) (actor : ℕ) → e.stands ≡ Claimed actor
    → HasFrames in_hand line frames → HasFrames in_hand (line ++ e ∷ []) (frames ++ None ∷ [])
frames_more in_hand [] [] e actor is h = (stands_by false (has_frame in_hand e.stands) e None (sym (ap (λ (s : Standing). has_frame in_hand s) is)) tt, tt)
frames_more in_hand [] (x ∷ xs) e actor is h = elim h [ ]
frames_more in_hand (y ∷ ys) [] e actor is h = elim h [ ]
frames_more in_hand (y ∷ ys) (x ∷ xs) e actor is h = (h.0, frames_more (in_hand && not (in_batch y.stands)) ys xs e actor is h.1)

-- ---- a claimed place is put

pub frames_put : (in_hand : Bool) (i : ℕ) (line : List Entry) (frames : List (Option FrameValue)) (e : Entry) (frame : FrameValue) → slice_get line i ≡ Some e
    → in_ring e.stands ≡ true → IsFrameOf e frame → HasFrames in_hand line frames → HasFrames in_hand (restand i Ready line) (slice_set frames i (Some frame))
frames_put in_hand i [] frames e frame at ring its h = absurd (cc (at))
frames_put in_hand i (y ∷ ys) [] e frame at ring its h = elim h [ ]
frames_put in_hand zero (y ∷ ys) (x ∷ xs) e frame at ring its h =
    let same = some_same y e at in
    let off : in_batch y.stands ≡ false = ap (λ (z : Entry). in_batch z.stands) same ∙ not_batched e.stands ring in (
      frame_of_restood Ready y frame (subst (λ (z : Entry). IsFrameOf z frame) (sym same) its),
      subst (λ (b : Bool). HasFrames (in_hand && not b) ys xs) off h.1,
    )
frames_put in_hand (suc i) (y ∷ ys) (x ∷ xs) e frame at ring its h = (h.0, frames_put (in_hand && not (in_batch y.stands)) i ys xs e frame at ring its h.1)

-- ---- the ring's front, which is ready, joins the batch

pub frames_moved : (in_hand : Bool) (line : List Entry) (frames : List (Option FrameValue)) (i : ℕ) (e : Entry) → AreParted line
    → first_that in_ring line ≡ Some i → slice_get line i ≡ Some e → e.stands ≡ Ready
    → (in_hand ≡ true → first_that in_batch line ≡ None → ⊥) → HasFrames in_hand line frames → HasFrames in_hand (restand i Batched line) frames
frames_moved in_hand [] frames i e p first at ready hand h = absurd (cc (at))
frames_moved in_hand (y ∷ ys) [] i e p first at ready hand h = elim h [ ]
frames_moved in_hand (y ∷ ys) (x ∷ xs) i e p first at ready hand h = go in_hand (in_ring y.stands) refl first hand h (λ c. frames_moved c ys xs)
  where
    go : (c b : Bool) → in_ring y.stands ≡ b → (if b then Some 0 else option_map (λ j. j + 1) (first_that in_ring ys)) ≡ Some i
        → (c ≡ true → first_that in_batch (y ∷ ys) ≡ None → ⊥) → HasFrames c (y ∷ ys) (x ∷ xs)
        → ((d : Bool) (j : ℕ) (z : Entry) → AreParted ys → first_that in_ring ys ≡ Some j → slice_get ys j ≡ Some z → z.stands ≡ Ready
        → (d ≡ true → first_that in_batch ys ≡ None → ⊥) → HasFrames d ys xs → HasFrames d (restand j Batched ys) xs)
        → HasFrames c (restand i Batched (y ∷ ys)) (x ∷ xs)
    go true true t g hand h rest = absurd (hand refl (rw (not_batched y.stands t, p.0 t) refl))
    go false true t g hand h rest =
        let z = some_same 0 i g in
        let here : y.stands ≡ Ready = ap (λ (w : Entry). w.stands) (some_same y e (subst (λ (n : ℕ). slice_get (y ∷ ys) n ≡ Some e) (sym z) at)) ∙ ready in
        subst (λ (n : ℕ). HasFrames false (restand n Batched (y ∷ ys)) (x ∷ xs)) z
        (beside_restood true Batched y x (stands_by (has_frame false y.stands) true y x (ap (λ (s : Standing). has_frame false s) here) h.0), h.1)
    go c false t g hand h rest =
        let n = next_some (first_that in_ring ys) i g in let up : suc n.0 ≡ i = omega (arith, n.2) in
        let at_next : slice_get ys n.0 ≡ Some e = subst (λ (m : ℕ). slice_get (y ∷ ys) m ≡ Some e) (sym up) at in
        subst (λ (m : ℕ). HasFrames c (restand m Batched (y ∷ ys)) (x ∷ xs)) up
        (h.0, rest (c && not (in_batch y.stands)) n.0 e p.1 n.1 at_next ready (behind c (in_batch y.stands) hand) h.1)
      where
        behind : (c b : Bool) → (c ≡ true → (if b then Some 0 else option_map (λ j. j + 1) (first_that in_batch ys)) ≡ None → ⊥)
            → (c && not b) ≡ true → first_that in_batch ys ≡ None → ⊥
        behind true true hand d none = absurd (true≢false (sym d))
        behind true false hand d none = hand refl (ap (λ (o : Option ℕ). option_map (λ j. j + 1) o) none)
        behind false b hand d none = absurd (true≢false (sym d))

-- ---- the batch's front

batched_is : (s : Standing) → in_batch s ≡ true → s ≡ Batched
batched_is (Claimed actor) e = absurd (true≢false (sym e))
batched_is Ready e = absurd (true≢false (sym e))
batched_is Batched e = refl
batched_is (Out fate) e = absurd (true≢false (sym e))
batched_is Cut e = absurd (true≢false (sym e))

-- the frame of an entry, beside it
pub record IsBeside (line : List Entry) (frames : List (Option FrameValue)) (i : ℕ) : Type 0 where
  pub e : Entry
  pub frame : FrameValue
  pub at : slice_get line i ≡ Some e
  pub stood : slice_get frames i ≡ Some (Some frame)
  pub its : IsFrameOf e frame

next_beside : (y : Entry) (ys : List Entry) (x : Option FrameValue) (xs : List (Option FrameValue)) (j i : ℕ) → suc j ≡ i
    → IsBeside ys xs j → IsBeside (y ∷ ys) (x ∷ xs) i
next_beside y ys x xs j i up h =
    subst (IsBeside (y ∷ ys) (x ∷ xs)) up (record { e = h.e; frame = h.frame; at = h.at; stood = h.stood; its = h.its })

here_beside : (y : Entry) (ys : List Entry) (x : Option FrameValue) (xs : List (Option FrameValue)) (i : ℕ) → 0 ≡ i → StandsBeside true y x
    → IsBeside (y ∷ ys) (x ∷ xs) i
here_beside y ys x xs i is h =
    let o = one_beside y x h in
    subst (IsBeside (y ∷ ys) (x ∷ xs)) is (record { e = y; frame = o.0; at = refl; stood = ap Some o.1; its = o.2 })

-- its frame stands beside it, where nothing is in hand
pub front_beside : (line : List Entry) (frames : List (Option FrameValue)) (i : ℕ) → first_that in_batch line ≡ Some i → HasFrames false line frames
    → IsBeside line frames i
front_beside [] frames i first h = absurd (cc (first))
front_beside (y ∷ ys) [] i first h = elim h [ ]
front_beside (y ∷ ys) (x ∷ xs) i first h = go (in_batch y.stands) refl first (front_beside ys xs)
  where
    go : (b : Bool) → in_batch y.stands ≡ b → (if b then Some 0 else option_map (λ j. j + 1) (first_that in_batch ys)) ≡ Some i
        → ((j : ℕ) → first_that in_batch ys ≡ Some j → HasFrames false ys xs → IsBeside ys xs j) → IsBeside (y ∷ ys) (x ∷ xs) i
    go true t g rest =
        here_beside y ys x xs i (some_same 0 i g)
        (stands_by (has_frame false y.stands) true y x (ap (λ (s : Standing). has_frame false s) (batched_is y.stands t)) h.0)
    go false t g rest =
        let n = next_some (first_that in_batch ys) i g in let up : suc n.0 ≡ i = omega (arith, n.2) in
        next_beside y ys x xs n.0 i up (rest n.0 n.1 h.1)

-- it is taken in hand
pub frames_taken : (line : List Entry) (frames : List (Option FrameValue)) (i : ℕ) → first_that in_batch line ≡ Some i → HasFrames false line frames
    → HasFrames true line (slice_set frames i None)
frames_taken [] frames i first h = absurd (cc (first))
frames_taken (y ∷ ys) [] i first h = elim h [ ]
frames_taken (y ∷ ys) (x ∷ xs) i first h = go (in_batch y.stands) refl first (frames_taken ys xs)
  where
    go : (b : Bool) → in_batch y.stands ≡ b → (if b then Some 0 else option_map (λ j. j + 1) (first_that in_batch ys)) ≡ Some i
        → ((j : ℕ) → first_that in_batch ys ≡ Some j → HasFrames false ys xs → HasFrames true ys (slice_set xs j None))
        → HasFrames true (y ∷ ys) (slice_set (x ∷ xs) i None)
    go true t g rest =
        let is = batched_is y.stands t in
        subst (λ (n : ℕ). HasFrames true (y ∷ ys) (slice_set (x ∷ xs) n None)) (some_same 0 i g) (
          stands_by false (has_frame true y.stands) y None (sym (ap (λ (s : Standing). has_frame true s) is)) tt,
          subst (λ (b : Bool). HasFrames (not b) ys xs) (sym t) h.1,
        )
    go false t g rest =
        let n = next_some (first_that in_batch ys) i g in let up : suc n.0 ≡ i = omega (arith, n.2) in
        subst (λ (m : ℕ). HasFrames true (y ∷ ys) (slice_set (x ∷ xs) m None)) up (
          stands_by (has_frame false y.stands) (has_frame true y.stands) y x (apart y.stands t) h.0,
          subst (λ (b : Bool). HasFrames (not b) ys (slice_set xs n.0 None)) (sym t) (rest n.0 n.1 h.1),
        )
      where
        apart : (s : Standing) → in_batch s ≡ false → has_frame false s ≡ has_frame true s
        apart (Claimed actor) e = refl
        apart Ready e = refl
        apart Batched e = absurd (true≢false e)
        apart (Out fate) e = refl
        apart Cut e = refl

-- it is put back
pub frames_put_back : (line : List Entry) (frames : List (Option FrameValue)) (i : ℕ) (e : Entry) (frame : FrameValue) → first_that in_batch line ≡ Some i
    → slice_get line i ≡ Some e → IsFrameOf e frame → HasFrames true line frames → HasFrames false line (slice_set frames i (Some frame))
frames_put_back [] frames i e frame first at its h = absurd (cc (first))
frames_put_back (y ∷ ys) [] i e frame first at its h = elim h [ ]
frames_put_back (y ∷ ys) (x ∷ xs) i e frame first at its h = go (in_batch y.stands) refl first (frames_put_back ys xs)
  where
    go : (b : Bool) → in_batch y.stands ≡ b → (if b then Some 0 else option_map (λ j. j + 1) (first_that in_batch ys)) ≡ Some i
        → ((j : ℕ) (z : Entry) (f : FrameValue) → first_that in_batch ys ≡ Some j → slice_get ys j ≡ Some z → IsFrameOf z f → HasFrames true ys xs
        → HasFrames false ys (slice_set xs j (Some f)))
        → HasFrames false (y ∷ ys) (slice_set (x ∷ xs) i (Some frame))
    go true t g rest =
        let is = batched_is y.stands t in
        let z = some_same 0 i g in
        let same = some_same y e (subst (λ (n : ℕ). slice_get (y ∷ ys) n ≡ Some e) (sym z) at) in
        subst (λ (n : ℕ). HasFrames false (y ∷ ys) (slice_set (x ∷ xs) n (Some frame))) z (
          stands_by true (has_frame false y.stands) y (Some frame) (sym (ap (λ (s : Standing). has_frame false s) is))
              (subst (λ (w : Entry). IsFrameOf w frame) (sym same) its),
          subst (λ (b : Bool). HasFrames (not b) ys xs) t h.1,
        )
    go false t g rest =
        let n = next_some (first_that in_batch ys) i g in let up : suc n.0 ≡ i = omega (arith, n.2) in
        let at_next : slice_get ys n.0 ≡ Some e = subst (λ (m : ℕ). slice_get (y ∷ ys) m ≡ Some e) (sym up) at in
        subst (λ (m : ℕ). HasFrames false (y ∷ ys) (slice_set (x ∷ xs) m (Some frame))) up (
          stands_by (has_frame true y.stands) (has_frame false y.stands) y x (apart y.stands t) h.0,
          rest n.0 e frame n.1 at_next its (subst (λ (b : Bool). HasFrames (not b) ys xs) t h.1),
        )
      where
        apart : (s : Standing) → in_batch s ≡ false → has_frame true s ≡ has_frame false s
        apart (Claimed actor) e = refl
        apart Ready e = refl
        apart Batched e = absurd (true≢false e)
        apart (Out fate) e = refl
        apart Cut e = refl

-- it leaves from the hand
pub frames_left : (fate : Fate) (line : List Entry) (frames : List (Option FrameValue)) (i : ℕ) → first_that in_batch line ≡ Some i
    → HasFrames true line frames → HasFrames false (restand i (Out fate) line) frames
frames_left fate [] frames i first h = absurd (cc (first))
frames_left fate (y ∷ ys) [] i first h = elim h [ ]
frames_left fate (y ∷ ys) (x ∷ xs) i first h = go (in_batch y.stands) refl first (frames_left fate ys xs)
  where
    go : (b : Bool) → in_batch y.stands ≡ b → (if b then Some 0 else option_map (λ j. j + 1) (first_that in_batch ys)) ≡ Some i
        → ((j : ℕ) → first_that in_batch ys ≡ Some j → HasFrames true ys xs → HasFrames false (restand j (Out fate) ys) xs)
        → HasFrames false (restand i (Out fate) (y ∷ ys)) (x ∷ xs)
    go true t g rest =
        let is = batched_is y.stands t in
        subst (λ (n : ℕ). HasFrames false (restand n (Out fate) (y ∷ ys)) (x ∷ xs)) (some_same 0 i g) (
          beside_restood false (Out fate) y x (stands_by (has_frame true y.stands) false y x (ap (λ (s : Standing). has_frame true s) is) h.0),
          subst (λ (b : Bool). HasFrames (not b) ys xs) t h.1,
        )
    go false t g rest =
        let n = next_some (first_that in_batch ys) i g in let up : suc n.0 ≡ i = omega (arith, n.2) in
        subst (λ (m : ℕ). HasFrames false (restand m (Out fate) (y ∷ ys)) (x ∷ xs)) up (
          stands_by (has_frame true y.stands) (has_frame false y.stands) y x (apart y.stands t) h.0,
          rest n.0 n.1 (subst (λ (b : Bool). HasFrames (not b) ys xs) t h.1),
        )
      where
        apart : (s : Standing) → in_batch s ≡ false → has_frame true s ≡ has_frame false s
        apart (Claimed actor) e = refl
        apart Ready e = refl
        apart Batched e = absurd (true≢false e)
        apart (Out fate) e = refl
        apart Cut e = refl

-- ---- an entry of the ring, which is ready

pub ready_beside : (in_hand : Bool) (i : ℕ) (line : List Entry) (frames : List (Option FrameValue)) (e : Entry) → slice_get line i ≡ Some e → e.stands ≡ Ready
    → HasFrames in_hand line frames → IsBeside line frames i
ready_beside in_hand i [] frames e at ready h = absurd (cc (at))
ready_beside in_hand i (y ∷ ys) [] e at ready h = elim h [ ]
ready_beside in_hand zero (y ∷ ys) (x ∷ xs) e at ready h =
    let is : y.stands ≡ Ready = ap (λ (w : Entry). w.stands) (some_same y e at) ∙ ready in
    here_beside y ys x xs 0 refl (stands_by (has_frame in_hand y.stands) true y x (ap (λ (s : Standing). has_frame in_hand s) is) h.0)
ready_beside in_hand (suc i) (y ∷ ys) (x ∷ xs) e at ready h =
    next_beside y ys x xs i (suc i) refl (ready_beside (in_hand && not (in_batch y.stands)) i ys xs e at ready h.1)

-- it is cut
pub frames_cut : (in_hand : Bool) (i : ℕ) (line : List Entry) (frames : List (Option FrameValue)) (e : Entry) → slice_get line i ≡ Some e → e.stands ≡ Ready
    → HasFrames in_hand line frames → HasFrames in_hand (restand i Cut line) (slice_set frames i None)
frames_cut in_hand i [] frames e at ready h = absurd (cc (at))
frames_cut in_hand i (y ∷ ys) [] e at ready h = elim h [ ]
frames_cut in_hand zero (y ∷ ys) (x ∷ xs) e at ready h =
    let is : y.stands ≡ Ready = ap (λ (w : Entry). w.stands) (some_same y e at) ∙ ready in
    (tt, subst (λ (s : Standing). HasFrames (in_hand && not (in_batch s)) ys xs) is h.1)
frames_cut in_hand (suc i) (y ∷ ys) (x ∷ xs) e at ready h = (h.0, frames_cut (in_hand && not (in_batch y.stands)) i ys xs e at ready h.1)
