-- This project's own: that what a command carries, as far as it has come, is that command's.
use Rattle.std.specs.Prelude.{◌≡◌, ℕ, List, length, Option, Some, None, IsSome}
use Rattle.scen_words.specs.declared.command.Command.TheVariants as command
use Rattle.tap_frame.specs.Frame.{FrameValue}
use Rattle.tap_guests.specs.Side.{Side}
use Rattle.tap_steer.specs.declared.operation.Op.{Op}
use Rattle.tap_world.specs.Setup.{Setup, kept_frame, op_of}
use Rattle.tap_world.specs.World.{name_of}
use Rattle.core_shared.specs.Asking.{Asking, setup}
use Rattle.core_shared.specs.Coming.{rx_turn_in, tx_turn_in}
use Rattle.core_shared.specs.declared.doing.Doing.{Doing}
use Rattle.core_shared.specs.declared.doing.Doing.TheVariants as doing
use Rattle.core_shared.specs.declared.onward.Onward.{Onward}
use Rattle.core_shared.specs.declared.onward.Onward.TheVariants as on

-- a frame is the one that was sent under its name, with as many bytes as are kept
abbrev pub IsSent : Setup → FrameValue → Type 0
IsSent s frame = kept_frame s frame.name frame.mark ≡ Some frame

-- the operation of a command
abbrev pub IsItsOp : Asking → Op → Type 0
IsItsOp a op = op_of (setup a) a.command ≡ Some op

-- the frame that it sends
pub record IsItsFrame (a : Asking) (frame : FrameValue) : Type 0 where
  pub sent : IsSent (setup a) frame
  pub name : frame.name ≡ name_of a.actor a.number

-- the frame that it writes, with all its bytes
pub record IsItsWritten (a : Asking) (frame : FrameValue) : Type 0 where
  pub name : frame.name ≡ name_of a.actor a.number
  pub whole : frame.mark ≡ length frame.made

-- a receive turn of a vhost, whose worker is there; and a transmit turn
abbrev pub IsAtRx : List (Option Side) → Asking → ℕ → Type 0
IsAtRx vhosts a vhost = (a.command ≡ command.RxTurn vhost) × IsSome (rx_turn_in vhosts vhost)

abbrev pub IsAtTx : List (Option Side) → Asking → ℕ → Type 0
IsAtTx vhosts a vhost = (a.command ≡ command.TxTurn vhost) × IsSome (tx_turn_in vhosts vhost)

-- no worker serves a ring of a vhost
pub record HasNoWorker (vhosts : List (Option Side)) (vhost ring : ℕ) : Type 0 where
  pub rx : ring ≡ 0 → rx_turn_in vhosts vhost ≡ None
  pub tx : ring ≡ 1 → tx_turn_in vhosts vhost ≡ None

-- a backend's command, and none serves the ring whose turn it holds
abbrev pub IsAtRing : List (Option Side) → Asking → ℕ → ℕ → Option ℕ → Type 0
IsAtRing vhosts a vhost ring file = (a.command ≡ command.Backend vhost ring file) × HasNoWorker vhosts vhost ring

-- What a command carries is its own: its operation, its vhost and ring, and the frame that it sends. A turn under way
-- has a worker; while a backend holds its ring's turn, there is none.
abbrev pub Suits : List (Option Side) → Asking → Doing → Type 0
Suits vhosts a doing.Begun = Unit {0}
Suits vhosts a (doing.Changes op) = IsItsOp a op
Suits vhosts a (doing.Opens file op) = IsItsOp a op
Suits vhosts a (doing.Opened file op) = IsItsOp a op
Suits vhosts a (doing.Withdraws file op) = IsItsOp a op
Suits vhosts a (doing.Withdrawn file version) = Unit {0}
Suits vhosts a (doing.Purges file version) = Unit {0}
Suits vhosts a (doing.Resizes file capacity) = a.command ≡ command.Resize file capacity
Suits vhosts a (doing.Shrinks file capacity places cuts) = a.command ≡ command.Resize file capacity
Suits vhosts a (doing.Routed file epoch frame) = IsItsFrame a frame
Suits vhosts a (doing.Placed file place epoch frame) = IsItsFrame a frame
Suits vhosts a (doing.Reads file room shape) = Unit {0}
Suits vhosts a (doing.Hosts file frame learns) = IsItsWritten a frame
Suits vhosts a (doing.Learns file frame) = IsItsWritten a frame
Suits vhosts a (doing.Backs vhost ring file refusal) =
    (a.command ≡ command.Backend vhost ring file) × (refusal ≡ None → HasNoWorker vhosts vhost ring)
Suits vhosts a (doing.Backed vhost ring file) = IsAtRing vhosts a vhost ring (Some file)
Suits vhosts a (doing.Owns vhost file version) = IsAtRing vhosts a vhost 0 (Some file)
Suits vhosts a (doing.Unbacked vhost file) = IsAtRing vhosts a vhost 0 None
Suits vhosts a (doing.Disowned vhost file) = IsAtRing vhosts a vhost 0 None
Suits vhosts a (doing.Released vhost file) = IsAtRing vhosts a vhost 1 None
Suits vhosts a (doing.Receives vhost file) = IsAtRx vhosts a vhost
Suits vhosts a (doing.Transmits vhost file chains) = IsAtTx vhosts a vhost
Suits vhosts a (doing.Given vhost file chains frame) = IsAtTx vhosts a vhost
Suits vhosts a (doing.Teaches vhost file chains frame) = IsAtTx vhosts a vhost

-- the same of how it goes on; of one that ends there is nothing to say
abbrev pub SuitsOn : List (Option Side) → Asking → Onward → Type 0
SuitsOn vhosts a (on.Goes seen d found) = Suits vhosts a d
SuitsOn vhosts a (on.Ends seen answer) = Unit {0}
