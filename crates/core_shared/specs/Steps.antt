-- This project's own: that an event which was done is a step of the world.
use Rattle.std.specs.Prelude.{◌≡◌, ◌++◌, true, List, Some, slice_get}
use Rattle.tap_world.specs.declared.event.Event.{Event}
use Rattle.tap_world.specs.declared.event.EventKind.{EventKind}
use Rattle.tap_world.specs.Effect.{actor_after, ending, heard_by, said_after, settled}
use Rattle.tap_world.specs.ByNumber.{with_nth}
use Rattle.tap_world.specs.Setup.{Numbered}
use Rattle.tap_world.specs.Step.{is_allowed, step}
use Rattle.tap_world.specs.World.{Actor, World}
use Rattle.tap_world.specs.declared.told.Said.{Said}
use Rattle.core_shared.specs.Asking.{Asking, setup}
use Rattle.core_shared.specs.Coming.{come_of, onward_of}
use Rattle.core_shared.specs.Did.{Did}
use Rattle.core_shared.specs.MayDo.{actor_at}
use Rattle.core_shared.specs.Worlds.{world_in}
use Rattle.core_shared.specs.declared.doing.Doing.{Doing}
use Rattle.core_shared.specs.declared.onward.Onward.{Onward}
use Rattle.core_shared.specs.declared.shared.Shared.{Shared}

-- the event of a command
abbrev pub event_of : Asking → EventKind → Event
event_of a kind = record { actor = a.actor; command = a.number; kind = kind }

-- the world after it, before a detach ends by it: the actor goes on or has answered
abbrev pub world_on : Asking → Doing → Shared → Shared → Onward → List Numbered → List Actor → List Said → World
world_on a d old new on rest actors said =
    let o = onward_of new.vhosts on in
    world_in new (with_nth a.actor (actor_after o (actor_at a (come_of old.vhosts d) rest)) actors)
    (said ++ said_after o new.phase a.actor a.number)

-- An allowed event of an actor that was done is a step of the world, with the detach that ends by it.
abbrev pub EventsMakeSteps : Type 0
EventsMakeSteps =
    (a : Asking) (d : Doing) (kind : EventKind) (old new : Shared) (on : Onward) (rest : List Numbered)
    (actors : List Actor) (said : List Said)
    → Did a d kind old new on
    → (slice_get actors a.actor ≡ Some (actor_at a (come_of old.vhosts d) rest))
    → (is_allowed (setup a) (world_in old actors said) (event_of a kind) ≡ true)
    → step (setup a) (world_in old actors said) (event_of a kind)
    ≡ Some (
      settled (world_on a d old new on rest actors said) (ending (world_on a d old new on rest actors said)),
      heard_by a.actor (onward_of new.vhosts on) (ending (world_on a d old new on rest actors said)),
    )
