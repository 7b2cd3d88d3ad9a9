-- This project's own: a line of frames, with the frames themselves.
use Rattle.std.specs.Prelude.{◌≡◌, ℕ, ◌&&◌, not, List, [], ◌∷◌, Bool, true, false, Option, Some, None, IfSome, slice_get, slice_set}
use Rattle.tap_frame.specs.Frame.{FrameValue}
use Rattle.tap_world.specs.declared.line.Entry.{Entry}
use Rattle.tap_world.specs.declared.line.Standing.{Standing}
use Rattle.tap_world.specs.Line.{in_batch}
use Rattle.tap_world.specs.declared.line.Standing.TheVariants.{Batched, Ready}

-- a line, and beside each entry its frame, where the line has it
pub record Framed : Type 0 where
  pub line : List Entry
  pub frames : List (Option FrameValue)

-- a frame is the one of an entry: it has its name, and as many bytes as are kept
pub record IsFrameOf (e : Entry) (x : FrameValue) : Type 0 where
  pub name : x.name ≡ e.name
  pub mark : x.mark ≡ e.len

-- whether the line has the frame of an entry that stands so; that of the batch's front may be in a worker's hand
abbrev pub has_frame : Bool → Standing → Bool
has_frame in_hand Ready = true
has_frame in_hand Batched = not in_hand
has_frame in_hand other = false

-- what stands beside an entry: its frame where there is one, and else nothing
abbrev pub StandsBeside : Bool → Entry → Option FrameValue → Type 0
StandsBeside true e (Some x) = IsFrameOf e x
StandsBeside false e None = Unit {0}
StandsBeside there e other = ⊥

-- The frames beside a line, whose batch's front is in a worker's hand or not: those of the entries that were put and
-- wait, but for the one in hand.
abbrev pub HasFrames : Bool → List Entry → List (Option FrameValue) → Type 0
HasFrames in_hand [] [] = Unit {0}
HasFrames in_hand (e ∷ es) (x ∷ xs) =
    StandsBeside (has_frame in_hand e.stands) e x × HasFrames (in_hand && not (in_batch e.stands)) es xs
HasFrames in_hand line frames = ⊥

-- a frame is that of the entry that is found
abbrev pub IsFrameAt : Option ℕ → List Entry → FrameValue → Type 0
IsFrameAt found line x = IfSome found (λ i. IfSome (slice_get line i) (λ e. IsFrameOf e x))

-- a frame stands at this place
abbrev pub HasFrameAt : ℕ → List (Option FrameValue) → Type 0
HasFrameAt i frames = (x : FrameValue) × (slice_get frames i ≡ Some (Some x))

-- The frame of the entry that is found goes from the line: it stood beside it, and nothing stands there afterwards.
pub record Goes (found : Option ℕ) (before : Framed) (frame : FrameValue) (left : List (Option FrameValue))
    : Type 0 where
  pub index : ℕ
  pub is : found ≡ Some index
  pub stood : slice_get before.frames index ≡ Some (Some frame)
  pub its : IsFrameAt found before.line frame
  pub gone : left ≡ slice_set before.frames index None
