-- This project's own: what the answer of a read says of the worlds before and after its event.
use Rattle.std.specs.Prelude.{◌≡◌, ℕ, ◌+◌, ◌<◌, ◌≤◌, List, slice_get, Some, None}
use Rattle.tap_frame.specs.declared.name.Name.{Name}
use Rattle.tap_ledger.specs.declared.error.TapErr.{TapErr}
use Rattle.tap_ledger.specs.declared.error.TapErr.TheVariants.{EBADFD}
use Rattle.tap_ledger.specs.declared.fate.Fate.TheVariants as fate
use Rattle.tap_steer.specs.Select as steer
use Rattle.tap_trace.specs.declared.answer.Answer.{Answer}
use Rattle.tap_trace.specs.declared.answer.Answer.TheVariants as answer
use Rattle.tap_world.specs.declared.line.Entry.{Entry}
use Rattle.tap_world.specs.declared.line.Standing.TheVariants.{Out}
use Rattle.tap_world.specs.ByNumber.{at}
use Rattle.tap_world.specs.Frames.{FrameText, Front, least_in, text_in}
use Rattle.tap_world.specs.Line.{File, first_that, front_place, in_batch}
use Rattle.tap_world.specs.LineSteps.{ready_front}
use Rattle.tap_world.specs.Setup.{Setup, frame_of}
use Rattle.tap_world.specs.Steady.{WasSent}
use Rattle.tap_world.specs.World.{table_at}
use Rattle.tap_answers.specs.SaysShared.{HasEntry, IsKnown, IsNewest, Occasion}

-- ---- at the look: SEEN is the newest version of the world before the event

-- the file has no device at SEEN
pub record HasNoDevice (s : Setup) (o : Occasion) (file seen : ℕ) (e : TapErr) : Type 0 where
  pub looked : IsNewest o seen
  pub none : steer.shape_of (table_at s o.before seen) file ≡ None
  pub told : e ≡ EBADFD

-- the room is too small for what stands in front of the file's frames at SEEN
pub record HasNoRoom (s : Setup) (o : Occasion) (file room seen least : ℕ) : Type 0 where
  pub looked : IsNewest o seen
  pub front : Front
  pub shape : steer.shape_of (table_at s o.before seen) file ≡ Some front
  pub small : room < least_in front
  pub told : least ≡ least_in front

-- ---- at the file: SEEN is that of the look before it

-- this front stands before the file's frames at SEEN, and the room is enough for it; and the file is so
pub record Looks (s : Setup) (o : Occasion) (file room seen : ℕ) : Type 0 where
  pub known : IsKnown o seen
  pub front : Front
  pub shape : steer.shape_of (table_at s o.before seen) file ≡ Some front
  pub enough : least_in front ≤ room
  pub f : File
  pub is_file : at o.before.files file ≡ Some f

-- The frame stood at the front of the batch, at its place, and it was sent; as much of its text as the room gets is
-- read, with the front at SEEN; and it is out as read now.
pub record IsTaken (s : Setup) (o : Occasion) (file room seen : ℕ) (name : Name) (place : ℕ) (bytes : List ℕ) :
    Type 0 where
  pub looks : Looks s o file room seen
  pub index : ℕ
  pub is_front : first_that in_batch looks.f.line ≡ Some index
  pub entry : Entry
  pub is_entry : slice_get looks.f.line index ≡ Some entry
  pub named : name ≡ entry.name
  pub placed : place ≡ looks.f.first + index
  pub sent : WasSent s entry
  pub frame : FrameText
  pub is_frame : frame_of s entry.name entry.len ≡ Some frame
  pub text : bytes ≡ text_in looks.front frame room
  pub out : HasEntry o file looks.f index (record entry { stands = Out fate.Read })

-- a worker owns the file
pub record MeetsWorker (s : Setup) (o : Occasion) (file room seen : ℕ) : Type 0 where
  pub looks : Looks s o file room seen
  pub vhost : ℕ
  pub owner : looks.f.owner ≡ Some vhost

-- the batch is empty, and the front place isn't ready
pub record FindsNone (s : Setup) (o : Occasion) (file room seen place : ℕ) : Type 0 where
  pub looks : Looks s o file room seen
  pub batch : first_that in_batch looks.f.line ≡ None
  pub ready : ready_front looks.f.line ≡ None
  pub front : place ≡ front_place looks.f

-- ---- by answer; a read has no other

abbrev pub ReadSays : Setup → Occasion → ℕ → ℕ → ℕ → Answer → Type 0
ReadSays s o file room seen (answer.Tap e) = HasNoDevice s o file seen e
ReadSays s o file room seen (answer.Room least) = HasNoRoom s o file room seen least
ReadSays s o file room seen (answer.Read name place bytes) = IsTaken s o file room seen name place bytes
ReadSays s o file room seen answer.Busy = MeetsWorker s o file room seen
ReadSays s o file room seen (answer.Again place) = FindsNone s o file room seen place
ReadSays s o file room seen other = ⊥
