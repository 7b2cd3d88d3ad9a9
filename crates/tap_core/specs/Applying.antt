-- This project's own: an event as a run makes it: what is asked before it, and what it leaves of actors and answers.
use Rattle.std.specs.Prelude.{◌≡◌, ℕ, ◌==◌, ◌++◌, ◌∷◌, [], List, true, if◌then◌else◌, slice_get, Option, Some, None, option_map}
use Rattle.std.specs.List.{AllByRecursion}
use Rattle.scen_text.specs.declared.scenario.Line.{Line}
use Rattle.scen_text.specs.declared.scenario.Scenario.{Scenario}
use Rattle.tap_world.specs.declared.event.Event.{Event}
use Rattle.tap_world.specs.declared.event.Found.{Found}
use Rattle.tap_world.specs.declared.told.Said.{Said}
use Rattle.tap_world.specs.ByNumber.{with_nth}
use Rattle.tap_world.specs.Effect.{Ending, ending, settled}
use Rattle.tap_world.specs.Setup.{setup_of}
use Rattle.tap_world.specs.Step.{is_allowed}
use Rattle.core_actors.specs.Acting.{Acting, HasPlaces, actor_of, going, numbered}
use Rattle.core_actors.specs.Acting as acting
use Rattle.core_shared.specs.Did.{Went}
use Rattle.core_shared.specs.Held.{IsHeld}
use Rattle.core_shared.specs.MayDo.{MayGo}
use Rattle.core_shared.specs.declared.doing.Doing.TheVariants.{Begun}
use Rattle.core_shared.specs.declared.onward.Onward.{Onward}
use Rattle.core_shared.specs.declared.onward.Onward.TheVariants as on
use Rattle.core_shared.specs.declared.shared.Shared.{Shared}
use Rattle.tap_core.specs.Running.{IsRunning, Running, SuitsItsCommand, asking_for, current_line, lines_in, world_of}
use Rattle.tap_core.specs.Telling.{IsApplied}
use Rattle.tap_core.specs.declared.settle.Detached.{Detached}

-- ---- before it

-- The event is one of an actor's first command, which may make its next one.
pub record IsReady (s : Scenario) (x : Shared) (actors : List Acting) (e : Event) : Type 0 where
  pub acting : Acting
  pub is_acting : slice_get actors e.actor ≡ Some acting
  pub line : Line
  pub is_line : current_line s x.phase actors e.actor ≡ Some line
  pub number : line.number ≡ e.command
  pub may : MayGo (asking_for s e.actor acting (numbered line)) acting.doing x

-- each command of an actor is a line of the phase
abbrev pub HavePlaces : Scenario → Shared → List Acting → Type 0
HavePlaces s x actors = AllByRecursion (HasPlaces (lines_in s x.phase)) actors

-- ---- the event of the command

-- It was made, and what the actor's command had carried was taken out of it.
pub record WasMade (s : Scenario) (actor : ℕ) (x y : Shared) (old new : List Acting) (o : Onward) : Type 0 where
  pub acting : Acting
  pub is_acting : slice_get old actor ≡ Some acting
  pub line : Line
  pub is_line : current_line s x.phase old actor ≡ Some line
  pub went : Went (asking_for s actor acting (numbered line)) acting.doing x y o
  pub taken : new ≡ with_nth actor (record acting { doing = Begun }) old

-- the actor behind it: its command goes on, or has ended
abbrev pub acting_after : Onward → Acting → Acting
acting_after (on.Goes seen d found) a = going seen d a
acting_after (on.Ends seen answer) a = acting.ending seen a

-- its answer, where it has ended
abbrev pub said_on : Onward → ℕ → ℕ → ℕ → List Said
said_on (on.Goes seen d found) phase actor command = []
said_on (on.Ends seen answer) phase actor command =
    record { phase = phase; line = record { actor = actor; command = command; seen = seen; answer = answer } } ∷ []

-- what the event found, where it isn't the last one of its command
abbrev pub found_on : Onward → Option Found
found_on (on.Goes seen d found) = Some found
found_on (on.Ends seen answer) = None

-- ---- the end of a detach

-- This is the detach that ends now, and what its actor has seen.
pub record IsEnding (s : Scenario) (x : Shared) (actors : List Acting) (e : Detached) : Type 0 where
  pub acting : Acting
  pub is_acting : slice_get actors e.actor ≡ Some acting
  pub seen : e.seen ≡ acting.seen
  pub is : (said : List Said) → ending (world_of s x actors said)
      ≡ Some (record {
        actor = e.actor;
        state = actor_of (lines_in s x.phase) x.vhosts acting;
        command = e.command;
        version = e.version;
      })

-- none ends now
abbrev pub NoneEnds : Scenario → Shared → List Acting → Type 0
NoneEnds s x actors = (said : List Said) → ending (world_of s x actors said) ≡ None

-- What always holds of what actors share does, each command is a line of the phase, and what it carries is its own.
pub record IsKept (s : Scenario) (x : Shared) (actors : List Acting) : Type 0 where
  pub held : IsHeld (setup_of s) x
  pub places : HavePlaces s x actors
  pub suits : (actor : ℕ) (a : Acting) → slice_get actors actor ≡ Some a → SuitsItsCommand s x actor a

-- The detach that ends now has ended: so the world is settled. It is told whose it is, and what is kept stays so.
pub record IsSettled
    (s : Scenario) (x y : Shared) (old new : List Acting) (said answered : List Said) (ended : Option ℕ) : Type 0 where
  pub world : world_of s y new answered ≡ settled (world_of s x old said) (ending (world_of s x old said))
  pub told : ended ≡ option_map (λ (e : Ending). e.actor) (ending (world_of s x old said))
  pub kept : IsKept s x old → IsKept s y new

-- ---- all of it

-- what an event found, where its command doesn't end, neither by itself nor by the end of a detach
abbrev pub found_by : Option ℕ → ℕ → Option Found → Option Found
found_by None actor found = found
found_by (Some other) actor found = if other == actor then None else found

-- The event was made, the command went on, and the detach that ends by it has ended.
pub record WasDone
    (s : Scenario) (e : Event) (x y : Shared) (old new : List Acting) (said answered : List Said) (found : Option Found) : Type 0
  where
    pub acting : Acting
    pub is_acting : slice_get old e.actor ≡ Some acting
    pub line : Line
    pub is_line : current_line s x.phase old e.actor ≡ Some line
    pub between : Shared
    pub onward : Onward
    pub went : Went (asking_for s e.actor acting (numbered line)) acting.doing x between onward
    pub ended : Option ℕ
    pub settled : IsSettled s between y (with_nth e.actor (acting_after onward acting) old) new
        (said ++ said_on onward between.phase e.actor e.command) answered ended
    pub found_is : found ≡ found_by ended e.actor (found_on onward)

-- ---- laws

-- An allowed event of a run is ready to be made.
abbrev pub EventsAreReady : Type 0
EventsAreReady =
    (s : Scenario) (begun : ℕ) (x : Shared) (actors : List Acting) (said : List Said) (e : Event)
    → IsRunning s begun x actors said → is_allowed (setup_of s) (world_of s x actors said) e ≡ true → IsReady s x actors e

-- Where it was made, the run goes on, and the event was applied.
abbrev pub run_of : Scenario → ℕ → Shared → List Acting → List Said → Running
run_of s begun x actors said = record { scenario = s; begun = begun; world = world_of s x actors said }

abbrev pub EventsAreApplied : Type 0
EventsAreApplied =
    (s : Scenario) (begun : ℕ) (x y : Shared) (old new : List Acting) (said answered : List Said) (e : Event)
    (found : Option Found) → IsRunning s begun x old said
    → is_allowed (setup_of s) (world_of s x old said) e ≡ true → WasDone s e x y old new said answered found
    → IsRunning s begun y new answered
    × IsApplied e (run_of s begun x old said) (run_of s begun y new answered) found
