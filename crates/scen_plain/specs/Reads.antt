-- This project's own: that reads give what was sent.
use Rattle.std.specs.Prelude.{◌≡◌, ℕ, ◌+◌, List, slice_get, Some}
use Rattle.scen_laid.specs.Laid.{IsLaid}
use Rattle.scen_text.specs.declared.scenario.Scenario.{Scenario}
use Rattle.scen_words.specs.declared.command.Command.TheVariants as command
use Rattle.tap_frame.specs.declared.name.Name.{Name}
use Rattle.tap_sound.specs.Worlds.{IsWorldOf}
use Rattle.tap_steer.specs.Select.{shape_of}
use Rattle.tap_trace.specs.declared.answer.Answer.TheVariants as answer
use Rattle.tap_world.specs.declared.event.Event.{Event}
use Rattle.tap_world.specs.declared.event.Heard.TheVariants as heard
use Rattle.tap_world.specs.ByNumber.{at}
use Rattle.tap_world.specs.Frames.{FrameText, Front, text_in}
use Rattle.tap_world.specs.declared.line.Entry.{Entry}
use Rattle.tap_world.specs.Line.{File, first_that, in_batch}
use Rattle.tap_world.specs.Setup.{Setup, frame_of, setup_of}
use Rattle.tap_world.specs.Steady.{WasSent}
use Rattle.tap_world.specs.Step.{step}
use Rattle.tap_world.specs.World.{Actor, World, current, table_at}

-- The actor's command reads a file with this room, and these bytes are a frame that was sent: the one of this name,
-- which stands at this place of the file as its batch's front, with the bytes of it that are kept, as the room gets
-- them behind what stands in front of the file's frames.
pub record GivesFrame (s : Setup) (w : World) (actor : ℕ) (name : Name) (place : ℕ) (bytes : List ℕ) : Type 0 where
  pub reader : Actor
  pub is_reader : slice_get w.actors actor ≡ Some reader
  pub number : ℕ
  pub file : ℕ
  pub room : ℕ
  pub reads : current reader.script ≡ Some (record { number = number; command = command.Read file room })
  pub f : File
  pub is_file : at w.files file ≡ Some f
  pub i : ℕ
  pub is_front : first_that in_batch f.line ≡ Some i
  pub is_place : place ≡ f.first + i
  pub entry : Entry
  pub is_entry : slice_get f.line i ≡ Some entry
  pub is_name : entry.name ≡ name
  pub was_sent : WasSent s entry
  pub frame : FrameText
  pub is_frame : frame_of s name entry.len ≡ Some frame
  pub front : Front
  pub is_shape : shape_of (table_at s w reader.seen) file ≡ Some front
  pub gives : bytes ≡ text_in front frame room

-- In each world that a run of a laid scenario reaches: where an event answers with a frame, it does so for a `read`,
-- and these are the bytes of that frame, in the room that the command asks for.
abbrev pub ReadsGiveWhatWasSent : Type 0
ReadsGiveWhatWasSent =
    (s : Scenario) (w v : World) (e : Event) (name : Name) (place : ℕ) (bytes : List ℕ) → IsLaid s → IsWorldOf s w
    → step (setup_of s) w e ≡ Some (v, heard.Answer (answer.Read name place bytes))
    → GivesFrame (setup_of s) w e.actor name place bytes
