-- This project's own: the frame that a command under way has accepted, and that isn't placed, given to the host or dropped
-- yet.
use Rattle.std.specs.Prelude.{◌≡◌, ℕ, List, length, Option, Some, None}
use Rattle.tap_frame.specs.Frame.{FrameValue}
use Rattle.tap_frame.specs.declared.name.Name.{Name}
use Rattle.tap_world.specs.Setup.{Numbered, Setup, kept_frame}
use Rattle.tap_world.specs.World.{Actor, Doing, current, name_of}
use Rattle.tap_world.specs.World.Doing.{Hosts, Routed, Transmits}
use Rattle.tap_ground.specs.Options.{◌>>=◌}
use Rattle.tap_guests.specs.Side.{Side}
use Rattle.core_shared.specs.Coming.{tx_turn_in}
use Rattle.core_shared.specs.declared.doing.Doing as code
use Rattle.core_shared.specs.declared.doing.Doing.TheVariants as doing

-- the one that a transmit turn is to give
abbrev pub held_in : List (Option Side) → ℕ → Option FrameValue
held_in vhosts vhost = do
  t ← tx_turn_in vhosts vhost
  t.held

-- that of a send with a row, of a write that is to be given to the host, and of a transmit turn
abbrev pub pending_in : List (Option Side) → code.Doing → Option FrameValue
pending_in vhosts (doing.Routed file epoch frame) = Some frame
pending_in vhosts (doing.Hosts file frame learns) = Some frame
pending_in vhosts (doing.Transmits vhost file chains) = held_in vhosts vhost
pending_in vhosts other = None

-- ---- in the words of the world

-- a frame of this name with these Ethernet bytes, all of them
pub record IsWritten (named : Name) (ether : List ℕ) (frame : FrameValue) : Type 0 where
  pub name : frame.name ≡ named
  pub made : frame.made ≡ ether
  pub mark : frame.mark ≡ length ether

-- The frame of a send is the one that it sent, with as many bytes as are kept; a write's has the bytes that it wrote; a
-- transmit turn's is the one that it holds; no other command has one.
abbrev pub IsPending : Setup → ℕ → ℕ → Doing → Option FrameValue → Type 0
IsPending s actor n (Routed file epoch len) f = f ≡ kept_frame s (name_of actor n) len
IsPending s actor n (Transmits file t chains) f = f ≡ t.held
IsPending s actor n (Hosts file ether learns) f =
    (frame : FrameValue) × (f ≡ Some frame) × IsWritten (name_of actor n) ether frame
IsPending s actor n other f = f ≡ None

-- that of an actor's command, if it has one
abbrev pub IsPendingOf : Setup → ℕ → Doing → Option Numbered → Option FrameValue → Type 0
IsPendingOf s actor so_far (Some c) f = IsPending s actor c.number so_far f
IsPendingOf s actor so_far None f = f ≡ None

-- that of an actor, if there is one
abbrev pub IsPendingAt : Setup → ℕ → Option Actor → Option FrameValue → Type 0
IsPendingAt s actor (Some a) f = IsPendingOf s actor a.doing (current a.script) f
IsPendingAt s actor None f = f ≡ None
