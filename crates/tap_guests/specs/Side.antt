-- This project's own: a vhost with the workers of the turns that are under way on its rings.
use Rattle.std.specs.Prelude.{◌≡◌, ℕ, ◌==◌, Bool, true, false, Option, None, is_some, MatchOption, if◌then◌else◌}
use Rattle.vhost_queue.specs.Positions.{IsIdle}
use Rattle.vhost_queue.specs.Queue.{Reserved}
use Rattle.vhost_dev.specs.Device.{Device, queue_of}
use Rattle.vhost_dev.specs.Settings.{ring_of}
use Rattle.vring_turns.specs.Standing.{RxStands, TxStands}
use Rattle.vhost_rx.specs.Worker.{Worker as RxWorker, Fits as RxFits}
use Rattle.vhost_tx.specs.Worker.{Worker as TxWorker, Fits as TxFits}
use Rattle.tap_world.specs.Guests.{Vhost, new_vhost}

-- the vhost, how many places for published chains each of its rings has reserved, and the worker of each ring while a
-- turn is under way
pub record Side : Type 0 where
  pub vhost : Vhost
  pub rx_reserved : ℕ
  pub tx_reserved : ℕ
  pub rx : Option RxWorker
  pub tx : Option TxWorker

-- as it begins, over a guest
abbrev pub new_side : ℕ → Side
new_side guest =
    record { vhost = new_vhost guest; rx_reserved = 0; tx_reserved = 0; rx = None; tx = None }

-- its device
abbrev pub device_in : Side → Device
device_in s =
    record { settings = s.vhost.settings; rx_reserved = s.rx_reserved; tx_reserved = s.tx_reserved }

-- the queue of a ring
abbrev pub queue_in : Bool → Side → Reserved
queue_in rx s = queue_of rx (device_in s)

-- the same with another device
abbrev pub with_device : Device → Side → Side
with_device d s = record s {
  vhost = record s.vhost { settings = d.settings };
  rx_reserved = d.rx_reserved;
  tx_reserved = d.tx_reserved;
}

-- a worker serves a ring
abbrev pub is_served : ℕ → Side → Bool
is_served ring s = if ring == 0 then is_some s.rx else is_some s.tx

-- ---- what holds of it

-- a ring that nobody serves is idle: nothing of it is served and not published
abbrev pub RingIsIdle : Bool → Side → Type 0
RingIsIdle rx s = IsIdle (ring_of rx s.vhost.settings).queue.positions

-- A ring that a worker serves fits the worker, and stands with its turn as between two steps; somebody holds the
-- ring's turn, and it has a backend.
pub record RxIsServed (s : Side) (w : RxWorker) : Type 0 where
  pub fits : RxFits w (queue_in true s)
  pub stands : RxStands w.turn (queue_in true s).queue
  pub held : is_some s.vhost.rx_turn ≡ true
  pub backed : is_some s.vhost.settings.rx.file ≡ true

pub record TxIsServed (s : Side) (w : TxWorker) : Type 0 where
  pub fits : TxFits w (queue_in false s)
  pub stands : TxStands w.turn (queue_in false s).queue
  pub held : is_some s.vhost.tx_turn ≡ true
  pub backed : is_some s.vhost.settings.tx.file ≡ true

-- each ring is idle or served
pub record IsSide (s : Side) : Type 0 where
  pub rx : MatchOption s.rx (RingIsIdle true s) (RxIsServed s)
  pub tx : MatchOption s.tx (RingIsIdle false s) (TxIsServed s)
