-- This project's own: how a guest stands in a world and after acts. They hold rings' turns otherwise: a world by an actor,
-- and for a backend too; acts by the command of a turn alone. So vhosts are compared without who holds their turns, and
-- the turns under way by themselves.
use Rattle.std.specs.Prelude.{◌≡◌, ℕ, ◌==◌, ◌<◌, ◌≤◌, if◌then◌else◌, List, slice_get, find, Option, Some, None, option_map}
use Rattle.guest_mem.specs.declared.region.Region.{Region}
use Rattle.tap_ground.specs.Options.{◌>>=◌}
use Rattle.tap_world.specs.ByNumber.{at}
use Rattle.tap_world.specs.Guests.{Guest, Vhost, turn_of}
use Rattle.tap_world.specs.Setup.{Setup}
use Rattle.tap_world.specs.World.{Actor, Doing, World, current, newest}
use Rattle.tap_world.specs.World as world
use Rattle.tap_world.specs.World.Doing.{Given, Receives, Teaches, Transmits}
use Rattle.tap_legal.specs.Case.{Case}
use Rattle.tap_legal.specs.Lookups.{table_at}
use Rattle.tap_legal.specs.Replay.{Under}
use Rattle.tap_legal.specs.Replay.Turning.{Receiving, Sending}
use Rattle.tap_legal.specs.ReplayTurns.{is_under_on}
use Rattle.tap_sights.specs.Acts.{Act, Done, State, all_done, first_state, last_state}
use Rattle.tap_sights.specs.GuestFacts.{printed}

-- ---- vhosts, but for who holds their turns

abbrev pub held_by : Option ℕ → Option ℕ → Vhost → Vhost
held_by rx tx v = record v { rx_turn = rx; tx_turn = tx }

abbrev pub bare : Vhost → Vhost
bare v = held_by None None v

-- a vhost of this guest
abbrev pub if_on : {A : Type 0} → ℕ → Vhost → Option A → Option A
if_on guest v o = if v.guest == guest then o else None

-- ---- turns under way

-- the turn of a command that has come so far
abbrev pub turn_at : ℕ → ℕ → Doing → Option Under
turn_at vhost command (Receives file t) =
    Some (record { vhost = vhost; command = command; turning = Receiving t })
turn_at vhost command (Transmits file t chains) =
    Some (record { vhost = vhost; command = command; turning = Sending t chains })
turn_at vhost command (Given file t chains frame) =
    Some (record { vhost = vhost; command = command; turning = Sending t chains })
turn_at vhost command (Teaches file t chains frame) =
    Some (record { vhost = vhost; command = command; turning = Sending t chains })
turn_at vhost command doing = None

-- the turn that an actor has under way, and that of the actor which holds a ring
abbrev pub turn_in : ℕ → Actor → Option Under
turn_in vhost a = do
  c ← current a.script
  turn_at vhost c.number a.doing

abbrev pub turn_by : List Actor → ℕ → Option ℕ → Option Under
turn_by actors vhost holder = do
  actor ← holder
  a ← slice_get actors actor
  turn_in vhost a

-- ---- a guest in a world, and after acts

-- A vhost after acts is that of the world, if it is one of this guest. The turn under way on each of its rings is that of
-- the actor which holds the ring, and its command holds the ring after acts.
pub record VhostStands (guest : ℕ) (actors : List Actor) (under : List Under) (vhost : ℕ) (x v : Option Vhost) : Type 0 where
  pub same : option_map bare x ≡ v >>= (λ y. if_on guest y (Some (bare y)))
  pub turns : (ring : ℕ) → ring < 2
      → find (is_under_on vhost ring) under ≡ v >>= (λ y. if_on guest y (turn_by actors vhost (turn_of ring y)))
  pub held : (ring : ℕ) → ring < 2
      → x >>= (λ y. turn_of ring y) ≡ option_map (λ (u : Under). u.command) (find (is_under_on vhost ring) under)

-- The memory is the guest's, and each vhost stands so.
pub record StandsAs (w : World) (guest : ℕ) (g : Guest) (st : State) : Type 0 where
  pub memory : st.memory ≡ g.memory
  pub vhosts : (vhost : ℕ) → VhostStands guest w.actors st.under vhost (at st.vhosts vhost) (at w.vhosts vhost)

-- ---- the acts of a run

-- what is asked of a case: its set-up, and the table of each version so far
pub record IsCaseOf (c : Case) (s : Setup) (w : World) : Type 0 where
  pub setup : c.setup ≡ s
  pub tables : (version : ℕ) → version ≤ newest w → table_at c version ≡ world.table_at s w version

-- The acts are a fold from a guest's zeros. After them it stands as in the world, and its steps are the lines that they
-- print.
pub record AreActs (c : Case) (w : World) (guest : ℕ) (regions : List Region) (acts : List Act) : Type 0 where
  pub done : List (Act × Done)
  pub folds : all_done c guest acts (first_state c guest regions) ≡ Some done
  pub now : Guest
  pub is_now : at w.guests guest ≡ Some now
  pub stands : StandsAs w guest now (last_state (first_state c guest regions) done)
  pub steps : printed done ≡ now.steps
