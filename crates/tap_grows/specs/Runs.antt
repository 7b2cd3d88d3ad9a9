-- This project's own: that worlds grow along every run of a laid scenario, and actors see ever more.
use Rattle.std.specs.Prelude.{◌≡◌, ℕ, ◌≤◌, true, slice_get, Some}
use Rattle.scen_text.specs.declared.scenario.Phase.{Phase}
use Rattle.scen_text.specs.declared.scenario.Scenario.{Scenario}
use Rattle.scen_laid.specs.Laid.{IsLaid}
use Rattle.tap_sound.specs.Worlds.{IsWorldOf}
use Rattle.tap_world.specs.declared.event.Event.{Event}
use Rattle.tap_world.specs.declared.event.Heard.{Heard}
use Rattle.tap_world.specs.Each.{EachActor}
use Rattle.tap_world.specs.Runs.{begins, has_ended}
use Rattle.tap_world.specs.Setup.{Setup, setup_of}
use Rattle.tap_world.specs.Sound.{HasSeen, WriterIsHeld}
use Rattle.tap_world.specs.SoundActors.{CanBe}
use Rattle.tap_world.specs.Step.{step}
use Rattle.tap_world.specs.World.{Actor, World}
use Rattle.tap_grows.specs.Coming.{coming}
use Rattle.tap_grows.specs.Grows.{Continues, Grows}
use Rattle.tap_grows.specs.Leads.{Leads}

-- ---- an order

abbrev pub GrowsToItself : Type 0
GrowsToItself = (s : Setup) (w : World) → Grows s w w

abbrev pub GrowsOn : Type 0
GrowsOn = (s : Setup) (w v u : World) → Grows s w v → Grows s v u → Grows s w u

-- ---- what grows

-- What is published and to be published only grows, where each command has come no further than it can and the writer
-- is held by the command that holds it.
abbrev pub ComingGrows : Type 0
ComingGrows =
    (s : Setup) (w : World) (e : Event) (u : World × Heard) → step s w e ≡ Some u
    → EachActor w (λ actor a. CanBe a) → EachActor w (WriterIsHeld w) → Continues (coming s w) (coming s u.0)

-- Where all commands have ended all of it is published.
abbrev pub AllIsPublished : Type 0
AllIsPublished = (s : Setup) (w : World) → has_ended w ≡ true → coming s w ≡ w.ops

-- each actor is there later, and has seen no less
abbrev pub SeesOn : World → World → Type 0
SeesOn w u = EachActor w (λ i a. (b : Actor) × (slice_get u.actors i ≡ Some b) × (a.seen ≤ b.seen))

-- No event lowers the version that an actor has seen, where none has seen more than there are.
abbrev pub SeenRises : Type 0
SeenRises =
    (s : Setup) (w : World) (e : Event) (u : World × Heard) → step s w e ≡ Some u → EachActor w (HasSeen w)
    → SeesOn w u.0

-- Every event of a world that a run of a laid scenario reaches makes it grow.
abbrev pub EventsGrow : Type 0
EventsGrow =
    (s : Scenario) (w : World) (e : Event) (u : World × Heard) → IsLaid s → IsWorldOf s w
    → step (setup_of s) w e ≡ Some u → Grows (setup_of s) w u.0

-- So does the beginning of a phase, where all commands have ended.
abbrev pub BeginningsGrow : Type 0
BeginningsGrow =
    (s : Setup) (number : ℕ) (p : Phase) (w : World) → has_ended w ≡ true → w.phase ≤ number
    → Grows s w (begins number p w)

-- So a world that a run reaches grows to each one to which the run leads, which it reaches too.
abbrev pub RunsGrow : Type 0
RunsGrow =
    (s : Scenario) (w u : World) → IsLaid s → IsWorldOf s w → Leads s w u → IsWorldOf s u × Grows (setup_of s) w u
