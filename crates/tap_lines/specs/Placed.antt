-- This project's own: a file with its frames, and when a change of it is allowed.
use Rattle.std.specs.Prelude.{◌≡◌, ◌-◌, ◌^◌, ◌≤◌, List, true, IsSome, Option, is_some}
use Rattle.tap_frame.specs.Frame.{FrameValue}
use Rattle.tap_world.specs.Line.{File, claimed, has_batch}
use Rattle.tap_world.specs.LineSteps.{Change, changed}
use Rattle.tap_lines.specs.Framed.{Framed, HasFrames}

-- a file, and beside each entry of its line its frame, where the file has it
pub record Placed : Type 0 where
  pub file : File
  pub frames : List (Option FrameValue)

-- its line with the frames
abbrev pub framed : Placed → Framed
framed p = record { line = p.file.line; frames = p.frames }

-- a change of a file is allowed
abbrev pub MayChange : Change → File → Type 0
MayChange change f = IsSome (changed change f)

-- What each file keeps: no place is past the last one that can be given out; a frame is in hand only where there is a
-- batch; and it has the frames of the entries that were put and wait, but for the one in hand.
pub record IsPlaced (p : Placed) : Type 0 where
  pub places : claimed p.file ≤ 2 ^ 40 - 1
  pub hand : is_some p.file.hand ≡ true → has_batch p.file ≡ true
  pub frames : HasFrames (is_some p.file.hand) p.file.line p.frames
