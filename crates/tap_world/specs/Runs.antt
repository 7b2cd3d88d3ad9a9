-- This project's own: runs of a scenario, and the one that a seed picks.
use Rattle.std.specs.Prelude.{◌≡◌, ℕ, zero, suc, ◌+◌, ◌*◌, ◌/◌, ◌%◌, ◌^◌, Bool, true, if◌then◌else◌, List, [], ◌∷◌, length, map, slice_get, Option, Some, None, is_none, option_map}
use Rattle.std.specs.List.{list_all}
use Rattle.std.specs.Option.{option_map_or}
use Rattle.scen_text.specs.declared.scenario.Phase.{Phase}
use Rattle.scen_text.specs.declared.scenario.Scenario.{Scenario}
use Rattle.tap_world.specs.declared.event.Event.{Event}
use Rattle.tap_world.specs.declared.event.Heard.{Heard}
use Rattle.tap_ground.specs.Options.{◌>>=◌}
use Rattle.tap_world.specs.Setup.{Declared, Numbered, Setup, script_in, setup_of}
use Rattle.tap_world.specs.Line.{File}
use Rattle.tap_world.specs.Guests.{new_guest, new_vhost}
use Rattle.tap_world.specs.World.{Actor, World, current, newest}
use Rattle.tap_world.specs.World.Doing.{Begun}
use Rattle.tap_world.specs.Scripts.{next_kind}
use Rattle.tap_world.specs.Step.{is_allowed, step}

-- ---- where a run begins

-- a file that was declared so: nothing in its line, its gate shut
abbrev pub new_file : Declared → File
new_file d = record {
  first = d.first;
  capacity = d.capacity;
  resizes = 0;
  line = [];
  epoch = 0;
  shut = true;
  owner = None;
  hand = None;
}

abbrev pub opening : Setup → World
opening s = record {
  ops = [];
  files = map (λ d. option_map new_file d) s.files;
  guests = map (λ r. option_map new_guest r) s.guests;
  vhosts = map (λ g. option_map new_vhost g) s.vhosts;
  hosted = [];
  dropped = [];
  writer = None;
  phase = 0;
  actors = [];
  said = [];
}

-- so many actors of a phase, from a number on, each of which has seen this version
abbrev pub actors_from : Phase → ℕ → ℕ → ℕ → List Actor
actors_from p seen actor zero = []
actors_from p seen actor (suc more) =
    record { seen = seen; script = script_in p actor; doing = Begun } ∷ actors_from p seen (actor + 1) more

-- a phase begins: its actors have seen the newest version
abbrev pub begins : ℕ → Phase → World → World
begins number p w = record w { phase = number; actors = actors_from p (newest w) 0 p.actors }

-- every command of the phase has ended
abbrev pub has_ended : World → Bool
has_ended w = list_all (λ (a : Actor). is_none (current a.script)) w.actors

-- ---- runs

-- the world after a list of allowed events
abbrev pub run : Setup → List Event → World → Option World
run s [] w = Some w
run s (e ∷ es) w = do
  next ← step s w e
  run s es next.0

-- the world after phases, each with its list of events, from this number on
abbrev pub run_phases : Setup → ℕ → List Phase → List (List Event) → World → Option World
run_phases s number [] [] w = Some w
run_phases s number (p ∷ ps) (es ∷ more) w = do
  v ← run s es (begins number p w)
  if has_ended v then run_phases s (number + 1) ps more v else None
run_phases s number ps more w = None

-- a run of the scenario, phase by phase, and the world that it ends in
abbrev pub IsRun : Scenario → List (List Event) → World → Type 0
IsRun s events w = run_phases (setup_of s) 0 s.phases events (opening (setup_of s)) ≡ Some w

-- ---- what an actor does next

-- an event, nothing now, or nothing any more
pub data Next : Type 0 where
  Does : Event → Next
  Waits : Next
  Ended : Next

abbrev pub if_allowed : Setup → World → Event → Next
if_allowed s w e = if is_allowed s w e then Does e else Waits

abbrev pub next_of : Setup → World → ℕ → Actor → Option Numbered → Next
next_of s w actor a None = Ended
next_of s w actor a (Some c) =
    option_map_or (λ kind. if_allowed s w (record { actor = actor; command = c.number; kind = kind }))
    (next_kind w a.doing c.command) Waits

abbrev pub next : Setup → World → ℕ → Next
next s w actor = option_map_or (λ (a : Actor). next_of s w actor a (current a.script)) (slice_get w.actors actor) Ended

-- ---- the run of a seed

-- the events that may come next, in the order of their actors
abbrev pub with_event : Next → List Event → List Event
with_event (Does e) events = e ∷ events
with_event Waits events = events
with_event Ended events = events

abbrev pub choices_from : Setup → World → ℕ → List Actor → List Event
choices_from s w actor [] = []
choices_from s w actor (a ∷ as_) =
    with_event (next_of s w actor a (current a.script)) (choices_from s w (actor + 1) as_)

abbrev pub choices : Setup → World → List Event
choices s w = choices_from s w 0 w.actors

-- a choice moves the number x on, and picks by its upper bits
abbrev pub moved_on : ℕ → ℕ
moved_on x = (x * 6364136223846793005 + 1442695040888963407) % 2 ^ 64

abbrev pub picked : ℕ → List Event → Option Event
picked x events = slice_get events (x / 2 ^ 33 % length events)

-- x and the world after a phase's events, each of which x picked, and after which there is no choice
abbrev pub IsChosen : Setup → ℕ → List Event → World → ℕ → World → Type 0
IsChosen s x [] w y v = (picked (moved_on x) (choices s w) ≡ None) × (y ≡ x) × (v ≡ w)
IsChosen s x (e ∷ es) w y v =
    (picked (moved_on x) (choices s w) ≡ Some e)
    × (u : World × Heard) × (step s w e ≡ Some u) × IsChosen s (moved_on x) es u.0 y v

-- the same of all phases from a number on: x runs on
abbrev pub AreChosen : Setup → ℕ → ℕ → List Phase → List (List Event) → World → World → Type 0
AreChosen s x number [] [] w v = v ≡ w
AreChosen s x number (p ∷ ps) (es ∷ more) w v =
    (y : ℕ) × (u : World) × IsChosen s x es (begins number p w) y u × (has_ended u ≡ true)
    × AreChosen s y (number + 1) ps more u v
AreChosen s x number ps more w v = ⊥

-- the run of a seed, phase by phase, and the world that it ends in
abbrev pub IsOrder : Scenario → ℕ → List (List Event) → World → Type 0
IsOrder s seed events w = AreChosen (setup_of s) seed 0 s.phases events (opening (setup_of s)) w
