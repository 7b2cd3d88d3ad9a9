-- This project's own: what the definitions of the world mean.
use Rattle.std.specs.Prelude.{◌≡◌, ℕ, ◌<◌, ◌≤◌, ◌⊎◌, ◌↔◌, true, List, slice_get, Some}
use Rattle.tap_frame.specs.declared.name.Name.{Name}
use Rattle.tap_frame.specs.declared.shape.Shape.{Shape}
use Rattle.tap_frame.specs.Spelling.{first_case}
use Rattle.tap_frame.specs.Text.{text}
use Rattle.tap_ledger.specs.declared.fate.Fate.{Fate}
use Rattle.tap_steer.specs.Select.{parts_of}
use Rattle.scen_text.specs.declared.scenario.Scenario.{Scenario}
use Rattle.tap_world.specs.declared.event.Event.{Event}
use Rattle.tap_world.specs.Frames.{FrameText, bad_in, text_in}
use Rattle.tap_world.specs.Setup.{Setup}
use Rattle.tap_world.specs.Line.{Entry}
use Rattle.tap_world.specs.declared.line.Standing.TheVariants.{Out}
use Rattle.tap_world.specs.World.{World}
use Rattle.tap_world.specs.Runs.{IsOrder}
use Rattle.tap_world.specs.Sound.{InThreeParts, IsSound, is_cut, rank}
use Rattle.tap_world.specs.Stands.{times}

-- A scenario has at most one order for each seed: its events, and the world that it ends in.
abbrev pub OneOrder : Type 0
OneOrder =
    (s : Scenario) (seed : ℕ) (es ds : List (List Event)) (w v : World)
    → IsOrder s seed es w → IsOrder s seed ds v → (es ≡ ds) × (w ≡ v)

-- A scenario and its upgrade to version 2 have the same orders.
abbrev pub UpgradeHasSameOrders : Type 0
UpgradeHasSameOrders =
    (s : Scenario) (seed : ℕ) (es : List (List Event)) (w : World)
    → IsOrder s seed es w ↔ IsOrder (record s { version = 2 }) seed es w

-- In a sound world a name stands once: it was dropped, or given to the host, or is one entry of one line.
abbrev pub NameStandsOnce : Type 0
NameStandsOnce = (s : Setup) (w : World) (n : Name) → IsSound s w → times w n ≤ 1

-- Frames leave a line in the order placed: what stands before an entry that is out is out, or was cut.
abbrev pub LeaveInOrder : Type 0
LeaveInOrder =
    (line : List Entry) (i j : ℕ) (d e : Entry) (fate : Fate) → InThreeParts line → i < j
    → slice_get line i ≡ Some d → slice_get line j ≡ Some e → e.stands ≡ Out fate
    → (is_cut d.stands ≡ true) ⊎ (rank d.stands ≡ 0)

-- What is told of bytes and of texts by the parts of a shape is what a frame's spelling and text tell by the shape.
abbrev pub FramesAgree : Type 0
FramesAgree =
    (shape : Shape) (bytes : List ℕ) (frame : FrameText) (room : ℕ)
    → (bad_in (parts_of shape) bytes ≡ first_case shape bytes)
    × (text_in (parts_of shape) frame room ≡ text shape frame.hdr frame.ether room)
