-- This project's own: how a receive turn goes on behind an event, and what becomes of its file.
use Rattle.std.specs.Prelude.{◌≡◌, ℕ, [], List, Option, Some, None, option_map, slice_get}
use Rattle.tap_frame.specs.Frame.{FrameValue}
use Rattle.tap_lines.specs.Framed.{IsFrameAt}
use Rattle.tap_lines.specs.Placed.{MayChange, Placed}
use Rattle.tap_trace.specs.declared.answer.Answer.TheVariants as answer
use Rattle.tap_world.specs.declared.event.Found.{Found}
use Rattle.tap_world.specs.ByNumber.{at}
use Rattle.tap_world.specs.Effect.{OnFiles}
use Rattle.tap_world.specs.Effect.OnFiles.{NoFile, OnFile}
use Rattle.tap_world.specs.Line.{first_that, in_batch}
use Rattle.tap_world.specs.LineSteps.Change.{Leaves, PutsBack}
use Rattle.tap_world.specs.Setup.{Setup}
use Rattle.tap_world.specs.StepTurns.{end_told}
use Rattle.vhost_step.specs.declared.went.Went.{Went}
use Rattle.vhost_step.specs.declared.went.Went.TheVariants as went
use Rattle.vring_turns.specs.declared.end.TurnEnd.{TurnEnd}
use Rattle.core_shared.specs.Suiting.{IsSent}
use Rattle.core_shared.specs.declared.doing.Doing.TheVariants as doing
use Rattle.core_shared.specs.declared.onward.Onward.{Onward}
use Rattle.core_shared.specs.declared.onward.Onward.TheVariants as on

-- it goes on with what the event found, or ends with its answer; none where the end can't be told
abbrev pub turn_goes : ℕ → ℕ → ℕ → Found → Option TurnEnd → Option Onward
turn_goes seen vhost file found None = Some (on.Goes seen (doing.Receives vhost file) found)
turn_goes seen vhost file found (Some turn) =
    option_map (λ x. on.Ends seen (answer.Turn turn.packets turn.bytes x [])) (end_told turn.end)

-- ---- the file

-- the frame in hand stays there, is put back, or leaves with a fate
abbrev pub file_change : ℕ → ℕ → Went → OnFiles
file_change vhost file went.Nowhere = NoFile
file_change vhost file (went.Back frame) = OnFile file (PutsBack vhost)
file_change vhost file (went.Out fate) = OnFile file (Leaves (Some vhost) fate)

-- a file may change so: a frame that comes back is the front of its batch
abbrev pub MayGoSo : ℕ → Went → Placed → Type 0
MayGoSo vhost went.Nowhere p = Unit {0}
MayGoSo vhost (went.Back frame) p =
    MayChange (PutsBack vhost) p.file × (index : ℕ) × (first_that in_batch p.file.line ≡ Some index)
    × IsFrameAt (Some index) p.file.line frame
MayGoSo vhost (went.Out fate) p = MayChange (Leaves (Some vhost) fate) p.file

-- each frame of the files is the one that was sent under its name
abbrev pub AreSent : Setup → List (Option Placed) → Type 0
AreSent s files =
    (file i : ℕ) (p : Placed) (frame : FrameValue) → at files file ≡ Some p
    → slice_get p.frames i ≡ Some (Some frame) → IsSent s frame

-- so is a frame that comes back
abbrev pub ComesSent : Setup → Went → Type 0
ComesSent s went.Nowhere = Unit {0}
ComesSent s (went.Back frame) = IsSent s frame
ComesSent s (went.Out fate) = Unit {0}
