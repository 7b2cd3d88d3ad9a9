-- This project's own: that each answer which an event tells says what it does, in every run of a laid scenario.
use Rattle.std.specs.Prelude.{◌≡◌, ◌||◌, not, Bool, true, false, slice_get, Some}
use Rattle.scen_laid.specs.Laid.{IsLaid}
use Rattle.scen_text.specs.declared.scenario.Scenario.{Scenario}
use Rattle.scen_words.specs.declared.command.Command.{Command}
use Rattle.scen_words.specs.declared.command.Command.TheVariants as command
use Rattle.tap_grows.specs.Moments.{EventTells}
use Rattle.tap_sound.specs.Worlds.{IsWorldOf}
use Rattle.tap_world.specs.declared.event.Event.{Event}
use Rattle.tap_world.specs.declared.event.Heard.{Heard}
use Rattle.tap_world.specs.Setup.{Numbered, setup_of}
use Rattle.tap_world.specs.SoundActors.{is_rx_turn, is_send, is_tx_turn}
use Rattle.tap_world.specs.Step.{step}
use Rattle.tap_world.specs.declared.told.Said.{Said}
use Rattle.tap_world.specs.World.{Actor, World, current}
use Rattle.tap_answers.specs.Says.{Says, SaysBy, on_event}

-- ---- commands of a kind

-- an answer that an event tells of a command of a kind
abbrev pub Say : (Command → Bool) → Type 0
Say is_its =
    (s : Scenario) (w : World) (e : Event) (u : World × Heard) (x : Said) → IsLaid s → IsWorldOf s w
    → step (setup_of s) w e ≡ Some u → EventTells (setup_of s) w e x
    → (a : Actor) (now : Numbered) → slice_get w.actors x.line.actor ≡ Some a → current a.script ≡ Some now
    → is_its now.command ≡ true
    → SaysBy (setup_of s) (on_event w u.0 a x) now.command x.line.seen x.line.answer

abbrev pub is_read : Command → Bool
is_read (command.Read file room) = true
is_read c = false

abbrev pub is_write : Command → Bool
is_write (command.Write file bytes) = true
is_write c = false

abbrev pub is_backend : Command → Bool
is_backend (command.Backend vhost ring file) = true
is_backend c = false

abbrev pub is_turn : Command → Bool
is_turn c = is_rx_turn c || is_tx_turn c

-- a command on the queue table
abbrev pub is_operation : Command → Bool
is_operation (command.SetIff file device flags) = true
is_operation (command.SetQueue file flags) = true
is_operation (command.Close file) = true
is_operation (command.Persist file on) = true
is_operation (command.HdrSize file size) = true
is_operation (command.Steer file program) = true
is_operation (command.Filter file program) = true
is_operation (command.Tick now) = true
is_operation (command.Resize file capacity) = true
is_operation c = false

-- a poke, a peek, or a call of a vhost or a driver
abbrev pub is_on_guest : Command → Bool
is_on_guest c =
    not (is_send c || is_read c || is_write c || is_operation c || is_backend c || is_turn c)

abbrev pub SendsSay : Type 0
SendsSay = Say is_send

abbrev pub ReadsSay : Type 0
ReadsSay = Say is_read

abbrev pub WritesSay : Type 0
WritesSay = Say is_write

abbrev pub OperationsSay : Type 0
OperationsSay = Say is_operation

abbrev pub BackendsSay : Type 0
BackendsSay = Say is_backend

abbrev pub TurnsSay : Type 0
TurnsSay = Say is_turn

abbrev pub GuestsSay : Type 0
GuestsSay = Say is_on_guest

-- ---- all

abbrev pub AnswersSay : Type 0
AnswersSay =
    (s : Scenario) (w : World) (e : Event) (u : World × Heard) (x : Said) → IsLaid s → IsWorldOf s w
    → step (setup_of s) w e ≡ Some u → EventTells (setup_of s) w e x → Says (setup_of s) w u.0 x
