-- This project's own: the moment at which a run told an answer.
use Rattle.std.specs.Prelude.{◌≡◌, ◌⊎◌, ℕ, ◌<◌, ◌≤◌, true, [], ◌∷◌, slice_get, Some}
use Rattle.scen_text.specs.declared.scenario.Phase.{Phase}
use Rattle.scen_text.specs.declared.scenario.Scenario.{Scenario}
use Rattle.scen_laid.specs.Laid.{IsLaid}
use Rattle.tap_sound.specs.Worlds.{IsWorldOf}
use Rattle.tap_steady.specs.Part.{IsBetween}
use Rattle.tap_trace.specs.declared.answer.Answer.TheVariants as answer
use Rattle.tap_world.specs.declared.event.Event.{Event}
use Rattle.tap_world.specs.declared.event.Heard.{Heard}
use Rattle.tap_world.specs.Effect.{Effect, Ending, ending, said_after, with_effect}
use Rattle.tap_world.specs.Effect.Onward.{Ends}
use Rattle.tap_world.specs.Runs.{begins, has_ended, opening}
use Rattle.tap_world.specs.Setup.{Numbered, Setup, setup_of}
use Rattle.tap_world.specs.Step.{effect, step}
use Rattle.tap_world.specs.declared.told.Said.{Said}
use Rattle.tap_world.specs.World.{Actor, World, current, newest}
use Rattle.tap_world.specs.World.Doing.{Begun}
use Rattle.tap_grows.specs.Grows.{Grows}
use Rattle.tap_grows.specs.Leads.{Leads, Passes}

-- An event tells an answer: it is the last one of the answer's command; or it empties the file of the answer's command,
-- a detach, which ends by it, whoever's event it is.
pub data EventTells (s : Setup) (w : World) (e : Event) (x : Said) : Type 0 where
  OfItsOwn : (r : Effect) → effect s w e ≡ Some r → said_after r.onward w.phase e.actor e.command ≡ x ∷ []
      → EventTells s w e x
  OfAPurge : (r : Effect) (a : Actor) (v : World) (p : Ending) → effect s w e ≡ Some r
      → slice_get w.actors e.actor ≡ Some a → with_effect r e.actor a e.command w ≡ Some v → ending v ≡ Some p
      → said_after (Ends p.state.seen (answer.Version p.version)) w.phase p.actor p.command ≡ x ∷ []
      → EventTells s w e x

-- An actor's next command can begin: the phase does, or the actor's answer before was told just now.
pub data IsNext (s : Scenario) (phase actor : ℕ) (w : World) : Type 0 where
  First : (p : Phase) (v : World) → IsBetween s phase v → slice_get s.phases phase ≡ Some p → begins phase p v ≡ w
      → IsNext s phase actor w
  Behind : (v : World) (e : Event) (h : Heard) (x : Said) → step (setup_of s) v e ≡ Some (w, h)
      → EventTells (setup_of s) v e x → x.phase ≡ phase → x.line.actor ≡ actor → IsNext s phase actor w

-- The start of an answer's command: in its phase its actor has come to it, and not begun it, since just now.
pub record IsStart (s : Scenario) (w : World) (x : Said) : Type 0 where
  pub phase : w.phase ≡ x.phase
  pub actor : Actor
  pub now : Numbered
  pub is_actor : slice_get w.actors x.line.actor ≡ Some actor
  pub is_now : current actor.script ≡ Some now
  pub number : now.number ≡ x.line.command
  pub begun : actor.doing ≡ Begun
  pub next : IsNext s x.phase x.line.actor w

-- The moment of an answer, in a run that leads to this world: the start of its command, the world before the event that
-- told it, and the one after that.
pub record Moment (s : Scenario) (w : World) (x : Said) : Type 0 where
  pub start : World
  pub before : World
  pub event : Event
  pub heard : Heard
  pub after : World
  pub is_start : IsStart s start x
  pub on : Leads s start before
  pub step : step (setup_of s) before event ≡ Some (after, heard)
  pub tells : EventTells (setup_of s) before event x
  pub rest : Leads s after w
  -- the actor had seen no more as its command could start, and there were no fewer versions as it was told
  pub from : is_start.actor.seen ≤ x.line.seen
  pub to : x.line.seen ≤ newest after
  -- each of the three is reached, and they grow
  pub start_reached : IsWorldOf s start
  pub before_reached : IsWorldOf s before
  pub after_reached : IsWorldOf s after
  pub grown : Grows (setup_of s) start before
  pub grows : Grows (setup_of s) after w

-- ---- one after another

-- an answer's command is before that of another: of an earlier phase, or of the same phase and actor with a smaller
-- number
abbrev pub IsBefore : Said → Said → Type 0
IsBefore x y =
    (x.phase < y.phase)
    ⊎ (x.phase ≡ y.phase) × (x.line.actor ≡ y.line.actor) × (x.line.command < y.line.command)

-- Each answer that a run has told has its moment, of one of its events. Where its command is before that of another,
-- that one starts at the end of this one or later, and its actor has then seen what this answer tells that was seen.
-- Each event of its command comes after its start, and not after the event that told it.
pub record HasMoments (s : Scenario) (w : World) (r : Leads s (opening (setup_of s)) w) : Type 0 where
  pub moment : (k : ℕ) (x : Said) → slice_get w.said k ≡ Some x → Moment s w x
  pub earlier : (j k : ℕ) (x y : Said) (is_x : slice_get w.said j ≡ Some x) (is_y : slice_get w.said k ≡ Some y)
      → IsBefore x y → Grows (setup_of s) (moment j x is_x).after (moment k y is_y).start
  pub known : (j k : ℕ) (x y : Said) → slice_get w.said j ≡ Some x → (is_y : slice_get w.said k ≡ Some y)
      → IsBefore x y → x.line.seen ≤ (moment k y is_y).is_start.actor.seen
  pub passed : (k : ℕ) (x : Said) (is_x : slice_get w.said k ≡ Some x)
      → Passes r (moment k x is_x).before (moment k x is_x).event (moment k x is_x).after
  pub around : (k : ℕ) (x : Said) (is_x : slice_get w.said k ≡ Some x) (v : World) (e : Event) (u : World)
      → Passes r v e u → v.phase ≡ x.phase → e.actor ≡ x.line.actor → e.command ≡ x.line.command
      → Grows (setup_of s) (moment k x is_x).start v × Grows (setup_of s) u (moment k x is_x).after

-- So it is along every run of a laid scenario, as far as it has come.
abbrev pub RunsHaveMoments : Type 0
RunsHaveMoments = (s : Scenario) (w : World) (r : Leads s (opening (setup_of s)) w) → IsLaid s → HasMoments s w r

-- an answer in this world is that of the command of an event in another one
pub record IsAnswered (w v : World) (e : Event) : Type 0 where
  pub place : ℕ
  pub said : Said
  pub is : slice_get w.said place ≡ Some said
  pub phase : said.phase ≡ v.phase
  pub actor : said.line.actor ≡ e.actor
  pub command : said.line.command ≡ e.command

-- Each event that a run of a laid scenario has passed is of a command that is answered, where all commands have ended.
abbrev pub EventsAreAnswered : Type 0
EventsAreAnswered =
    (s : Scenario) (w : World) (r : Leads s (opening (setup_of s)) w) → IsLaid s → has_ended w ≡ true
    → (v : World) (e : Event) (u : World) → Passes r v e u → IsAnswered w v e
