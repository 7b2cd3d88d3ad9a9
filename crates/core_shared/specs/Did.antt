-- This project's own: what it is that an actor's event was done.
use Rattle.std.specs.Prelude.{◌≡◌, ℕ, ◌==◌, ◌++◌, false, map, List, Option, Some}
use Rattle.tap_guests.specs.Side.{Side}
use Rattle.tap_lines.specs.Files.{files_of}
use Rattle.tap_world.specs.ByNumber.{at}
use Rattle.tap_world.specs.declared.event.EventKind.{EventKind}
use Rattle.tap_world.specs.Effect.{Effect, files_after, guests_after, vhosts_after}
use Rattle.tap_world.specs.Guests.{turn_of}
use Rattle.tap_world.specs.Scripts.{next_kind}
use Rattle.tap_world.specs.Setup.{Numbered}
use Rattle.tap_world.specs.Step.{row}
use Rattle.tap_world.specs.World as world
use Rattle.tap_world.specs.World.{Actor}
use Rattle.tap_world.specs.declared.told.Said.{Said}
use Rattle.core_shared.specs.Asking.{Asking, setup}
use Rattle.core_shared.specs.Coming.{come_of, onward_of, rx_turn_in, tx_turn_in, written_out}
use Rattle.core_shared.specs.Held.{IsHeld}
use Rattle.core_shared.specs.MayDo.{actor_at}
use Rattle.core_shared.specs.Suiting.{SuitsOn}
use Rattle.core_shared.specs.Worlds.{vhosts_of, world_in}
use Rattle.core_shared.specs.declared.doing.Doing.{Doing}
use Rattle.core_shared.specs.declared.onward.Onward.{Onward}
use Rattle.core_shared.specs.declared.shared.Shared.{Shared}

-- An effect was done to what actors share: each part is what the effect makes of it.
pub record IsLeft (r : Effect) (a : Asking) (old new : Shared) : Type 0 where
  pub ops : new.ops.ops
      ≡ old.ops.ops ++ map (λ x. record { phase = old.phase; actor = a.actor; command = a.number; op = x }) r.ops
  pub files : files_after r.files (files_of old.files) ≡ Some (files_of new.files)
  pub guests : guests_after a.actor a.number r.guests old.guests ≡ Some new.guests
  pub vhosts : vhosts_after r.vhosts (vhosts_of old.vhosts) ≡ vhosts_of new.vhosts
  pub hosted : new.hosted.items ≡ old.hosted.items ++ r.hosts
  pub dropped : new.dropped.items ≡ old.dropped.items ++ r.drops
  pub writer : new.writer ≡ r.writer
  pub phase : new.phase ≡ old.phase

-- The turn that another actor holds is where it was, as far as its worker goes.
pub record TurnsStay (actor : ℕ) (old new : List (Option Side)) : Type 0 where
  pub rx : (vhost other : ℕ) (v : Side) → at old vhost ≡ Some v → turn_of 0 v.vhost ≡ Some other → (other == actor) ≡ false
      → rx_turn_in new vhost ≡ rx_turn_in old vhost
  pub tx : (vhost other : ℕ) (v : Side) → at old vhost ≡ Some v → turn_of 1 v.vhost ≡ Some other → (other == actor) ≡ false
      → tx_turn_in new vhost ≡ tx_turn_in old vhost

-- The next event of a command, as far as it has come, is of this kind and has this effect, whoever the other actors are
-- and whatever was answered.
pub record HasEffect (a : Asking) (so_far : world.Doing) (kind : EventKind) (old : Shared) (r : Effect) : Type 0 where
  pub is_next : (actors : List Actor) (said : List Said)
      → next_kind (world_in old actors said) so_far a.command ≡ Some kind
  pub is_row : (actors : List Actor) (said : List Said) (rest : List Numbered)
      → row (setup a) (world_in old actors said) kind a.actor (actor_at a so_far rest) a.number a.command ≡ Some r

-- The next event of a command was done: its effect is what was left, and the command goes on so. What always holds does,
-- what the command carries is its own, and turns of others stay.
pub record Did (a : Asking) (d : Doing) (kind : EventKind) (old new : Shared) (on : Onward) : Type 0 where
  pub effect : Effect
  pub has : HasEffect a (come_of old.vhosts d) kind old effect
  pub left : IsLeft effect a old new
  pub onward : written_out a.seen (come_of old.vhosts d) effect.onward ≡ onward_of new.vhosts on
  pub held : IsHeld (setup a) new
  pub suits : SuitsOn new.vhosts a on
  pub stay : TurnsStay a.actor old.vhosts new.vhosts

-- The next event was done, whichever it is.
abbrev pub Went : Asking → Doing → Shared → Shared → Onward → Type 0
Went a d old new on = (kind : EventKind) × Did a d kind old new on
