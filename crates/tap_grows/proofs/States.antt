-- What is kept along a run of the moments of its answers.
use Rattle.std.proofs.Common.{◌≡◌, ◌⊎◌, ℕ, ◌≤◌, ◌<◌, Some}
use Rattle.std.specs.Prelude.{slice_get}
use Rattle.scen_text.specs.declared.scenario.Scenario.{Scenario}
use Rattle.tap_sound.specs.Worlds.{IsWorldOf}
use Rattle.tap_world.specs.declared.event.Event.{Event}
use Rattle.tap_world.specs.declared.told.Said.{Said}
use Rattle.tap_world.specs.Runs.{opening}
use Rattle.tap_world.specs.Setup.{Numbered, setup_of}
use Rattle.tap_world.specs.World.{Actor, World, current}
use Rattle.tap_world.specs.World.Doing.{Begun}
use Rattle.tap_grows.specs.Grows.{Grows}
use Rattle.tap_grows.specs.Leads.{Leads, Passes}
use Rattle.tap_grows.specs.Moments.{HasMoments, IsNext, Moment}
use Rattle.tap_grows.proofs.Orders.{grows_on}

-- ---- what is kept along a run

abbrev pub Moments : Scenario → World → Type 0
Moments s v = (k : ℕ) (x : Said) → slice_get v.said k ≡ Some x → Moment s v x

-- The command that an actor comes to next could start here. What is before it ended earlier, and is known; and the
-- actor's events of this phase are of commands before it, or come after its start.
pub record Waits (s : Scenario) (v : World) (r : Leads s (opening (setup_of s)) v) (moment : Moments s v) (i : ℕ) (a : Actor)
    : Type 0 where
  pub start : World
  pub reached : IsWorldOf s start
  pub on : Leads s start v
  pub grown : Grows (setup_of s) start v
  pub phase : start.phase ≡ v.phase
  pub was : Actor
  pub is_was : slice_get start.actors i ≡ Some was
  pub script : was.script ≡ a.script
  pub begun : was.doing ≡ Begun
  pub next : IsNext s v.phase i start
  pub sees : was.seen ≤ a.seen
  pub known : (k : ℕ) (x : Said) → slice_get v.said k ≡ Some x
      → (x.phase < v.phase) ⊎ ((x.phase ≡ v.phase) × (x.line.actor ≡ i)) → x.line.seen ≤ was.seen
  pub behind : (k : ℕ) (x : Said) (is : slice_get v.said k ≡ Some x)
      → (x.phase < v.phase) ⊎ ((x.phase ≡ v.phase) × (x.line.actor ≡ i)) → Grows (setup_of s) (moment k x is).after start
  pub past : (x : World) (f : Event) (y : World) → Passes r x f y → x.phase ≡ v.phase → f.actor ≡ i
      → (c : Numbered) → current a.script ≡ Some c
      → (f.command < c.number) ⊎ ((f.command ≡ c.number) × Grows (setup_of s) start x)

-- a world that an event of the run has led to grew to this one, its phase isn't a later one, and there are actors
pub record IsPassed (s : Scenario) (v x y : World) : Type 0 where
  pub rest : Grows (setup_of s) y v
  pub so_far : x.phase ≤ v.phase
  pub actor : ℕ
  pub is : Actor
  pub there : slice_get v.actors actor ≡ Some is

pub record State (s : Scenario) (v : World) (r : Leads s (opening (setup_of s)) v) : Type 0 where
  pub reached : IsWorldOf s v
  pub passed : (x : World) (f : Event) (y : World) → Passes r x f y → IsPassed s v x y
  pub has : HasMoments s v r
  pub waits : (i : ℕ) (a : Actor) → slice_get v.actors i ≡ Some a → Waits s v r has.moment i a

-- a moment, seen from a later world
abbrev pub later : {s : Scenario} {v : World} {x : Said} (u : World) → ((o : World) → Leads s o v → Leads s o u)
    → Grows (setup_of s) v u → Moment s v x → Moment s u x
later {s} {v} {x} u lead grows m = record {
  start = m.start;
  before = m.before;
  event = m.event;
  heard = m.heard;
  after = m.after;
  is_start = m.is_start;
  on = m.on;
  step = m.step;
  tells = m.tells;
  rest = lead m.after m.rest;
  from = m.from;
  to = m.to;
  start_reached = m.start_reached;
  before_reached = m.before_reached;
  after_reached = m.after_reached;
  grown = m.grown;
  grows = grows_on (setup_of s) m.after v u m.grows grows;
}
