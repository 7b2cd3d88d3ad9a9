-- This project's own: when a receive turn on a vhost can begin, and when it can make its next step.
use Rattle.std.specs.Prelude.{◌≡◌, ℕ, Bool, true, List, Option, Some, None, is_some}
use Rattle.tap_guests.specs.Side.{Side}
use Rattle.tap_guests.specs.Within.{IsIn}
use Rattle.tap_ground.specs.Options.{◌>>=◌}
use Rattle.tap_trace.specs.declared.kind.Kind.{Kind}
use Rattle.tap_trace.specs.declared.turn.TurnText.{TurnText}
use Rattle.tap_world.specs.ByNumber.{at}
use Rattle.tap_world.specs.Guests.{Guest, is_free}
use Rattle.tap_world.specs.StepTurns.{is_off}
use Rattle.vhost_dev.specs.Settings.{hdr_of}
use Rattle.vhost_rx.specs.Worker.{Worker}
use Rattle.vring_turns.specs.RxTurn.{RxTurn, rx_begun}
use Rattle.vring_turns.specs.Stage.{is_asking}
use Rattle.core_shared.specs.declared.shared.Shared.{Shared}

-- a turn as it begins on a vhost
abbrev pub begun_on : Side → RxTurn
begun_on s = rx_begun s.vhost.settings.mrg (hdr_of s.vhost.settings)

-- a receive turn of a vhost finds that its ring has no backend, or is stopped
abbrev pub off_in : List (Option Side) → ℕ → Option (TurnText × Kind)
off_in vhosts vhost = do
  s ← at vhosts vhost
  is_off vhost 0 s.vhost

-- the vhost is there with its guest, in whose memory it lies; its receive ring has a backend, runs, and is free
pub record CanBegin (vhost : ℕ) (x : Shared) : Type 0 where
  pub side : Side
  pub is_side : at x.vhosts vhost ≡ Some side
  pub backed : is_some side.vhost.settings.rx.file ≡ true
  pub running : side.vhost.settings.rx.queue.stopped ≡ None
  pub free : is_free 0 side.vhost ≡ true
  pub guest : Guest
  pub is_guest : at x.guests side.vhost.guest ≡ Some guest
  pub within : IsIn guest.memory.regions side

-- the vhost is there with its guest, in whose memory it lies; and a turn of this actor is under way on its receive ring,
-- which asks for a frame next, or doesn't
pub record CanStep (actor vhost : ℕ) (asking : Bool) (x : Shared) : Type 0 where
  pub side : Side
  pub is_side : at x.vhosts vhost ≡ Some side
  pub worker : Worker
  pub is_worker : side.rx ≡ Some worker
  pub stage : is_asking worker.turn.stage ≡ asking
  pub holder : side.vhost.rx_turn ≡ Some actor
  pub guest : Guest
  pub is_guest : at x.guests side.vhost.guest ≡ Some guest
  pub within : IsIn guest.memory.regions side
