-- This project's own: when an actor's next event may be done.
use Rattle.std.specs.Prelude.{◌≡◌, ◌∷◌, List, Option, Some, slice_get}
use Rattle.tap_world.specs.declared.event.EventKind.{EventKind}
use Rattle.tap_world.specs.Effect.{Effect, files_after, guests_after}
use Rattle.tap_world.specs.Guests.{Guest}
use Rattle.tap_world.specs.Line.{File}
use Rattle.tap_world.specs.Scripts.{next_kind}
use Rattle.tap_world.specs.Setup.{Numbered}
use Rattle.tap_world.specs.Sound.{IsSound}
use Rattle.tap_world.specs.Steady.{IsSteady}
use Rattle.tap_world.specs.Step.{row}
use Rattle.tap_world.specs.World as world
use Rattle.tap_world.specs.World.{Actor, World}
use Rattle.tap_world.specs.declared.told.Said.{Said}
use Rattle.scen_laid.specs.Laid.{IsLaid}
use Rattle.core_shared.specs.Asking.{Asking, IsAsked, setup}
use Rattle.core_shared.specs.Coming.{come_of}
use Rattle.core_shared.specs.Held.{IsHeld}
use Rattle.core_shared.specs.Suiting.{Suits}
use Rattle.core_shared.specs.Worlds.{world_in}
use Rattle.core_shared.specs.declared.doing.Doing.{Doing}
use Rattle.core_shared.specs.declared.shared.Shared.{Shared}

-- the actor, as far as its command has come, with the commands behind it
abbrev pub actor_at : Asking → world.Doing → List Numbered → Actor
actor_at a so_far rest =
    record { seen = a.seen; script = record { number = a.number; command = a.command } ∷ rest; doing = so_far }

-- The next event of the command is of this kind, and its row has an effect, which the world bears.
pub record HasEvent (w : World) (a : Asking) (so_far : world.Doing) (rest : List Numbered) (kind : EventKind) : Type 0
  where
    pub is_next : next_kind w so_far a.command ≡ Some kind
    pub effect : Effect
    pub is_row : row (setup a) w kind a.actor (actor_at a so_far rest) a.number a.command ≡ Some effect
    pub files : List (Option File)
    pub is_files : files_after effect.files w.files ≡ Some files
    pub guests : List (Option Guest)
    pub is_guests : guests_after a.actor a.number effect.guests w.guests ≡ Some guests

-- The scenario is laid. The command is one of the phase that is under way. With these actors and answers the world is
-- sound and steady, the actor is one of them and has come so far with its command, whose next event is of this kind and
-- has an effect. What the command carries is its own, and what always holds does.
pub record MayDo (a : Asking) (d : Doing) (kind : EventKind) (x : Shared) : Type 0 where
  pub laid : IsLaid a.scenario
  pub asked : IsAsked x.phase a
  pub held : IsHeld (setup a) x
  pub suits : Suits x.vhosts a d
  pub actors : List Actor
  pub said : List Said
  pub sound : IsSound (setup a) (world_in x actors said)
  pub steady : IsSteady (setup a) (world_in x actors said)
  pub rest : List Numbered
  pub is_actor : slice_get actors a.actor ≡ Some (actor_at a (come_of x.vhosts d) rest)
  pub event : HasEvent (world_in x actors said) a (come_of x.vhosts d) rest kind

-- The next event may be done, whichever it is.
abbrev pub MayGo : Asking → Doing → Shared → Type 0
MayGo a d x = (kind : EventKind) × MayDo a d kind x
