-- This project's own: what a world holds while a scenario runs.
use Rattle.std.specs.Prelude.{ℕ, ◌==◌, List, length, map, take, slice_get, Bool, false, Option}
use Rattle.std.specs.Option.{option_map_or}
use Rattle.tap_frame.specs.declared.name.Name.{Name}
use Rattle.tap_steer.specs.Table.{Table}
use Rattle.tap_steer.specs.After.{after_all}
use Rattle.tap_ledger.specs.declared.error.TapErr.{TapErr as TapText}
use Rattle.tap_trace.specs.declared.turn.ChainText.{ChainText}
use Rattle.vring_turns.specs.RxTurn.{RxTurn}
use Rattle.vring_turns.specs.TxTurn.{TxTurn}
use Rattle.tap_world.specs.Frames.{Front}
use Rattle.tap_world.specs.Setup.{Numbered, Setup, opening_table}
use Rattle.tap_world.specs.Line.{File}
use Rattle.tap_world.specs.Guests.{Guest, Vhost}
pub use Rattle.tap_world.specs.declared.told.Published.{Published}
pub use Rattle.tap_world.specs.declared.told.Said.{Said}

-- a frame that the host has: its name, and the hash of its flow
pub record HostFrame : Type 0 where
  pub name : Name
  pub flow : ℕ

-- How far a command has come, with the file that it is about.
pub data Doing : Type 0 where
  Begun : Doing  -- no event yet
  Changes : Doing  -- it changes the table alone, and is to publish
  Opens : ℕ → Doing  -- an attach, to open the gate
  Opened : ℕ → Doing  -- to publish
  Withdraws : ℕ → Doing  -- a detach, to publish
  Withdrawn : ℕ → ℕ → Doing  -- to shut the gate; and the version that it published
  Purges : ℕ → ℕ → Doing  -- to empty batch and ring; and the version that it published
  Resizes : ℕ → ℕ → Doing  -- a resize, to change the capacity to this one
  Shrinks : ℕ → ℕ → ℕ → Doing  -- to cut what is over, and to publish; the claim count at its resize, and its cuts
  Routed : ℕ → ℕ → ℕ → Doing  -- a send with a row: its file and epoch, and the length that is kept
  Placed : ℕ → ℕ → ℕ → ℕ → Doing  -- a send with a place: file, place, epoch and length
  Reads : ℕ → ℕ → Front → Doing  -- a read: its room, and what stands in front of frames
  Hosts : ℕ → List ℕ → Bool → Doing  -- a write of these Ethernet bytes, and whether they are learnt
  Learns : ℕ → List ℕ → Doing  -- the frame is with the host, and its flow is to be learnt
  Backs : Option TapText → Doing  -- a backend, to be set or unset in the ring; and the table's refusal
  Backed : ℕ → Doing  -- it is set in the ring, to publish
  Owns : ℕ → ℕ → Doing  -- published as this version, to make the worker the owner
  Unbacked : ℕ → Doing  -- it is unset in a receive ring, to give the file back
  Disowned : ℕ → Doing  -- it is given back, to publish
  Released : ℕ → Doing  -- it is unset in a transmit ring, to publish
  Receives : ℕ → RxTurn → Doing  -- a receive turn on a file
  Transmits : ℕ → TxTurn → List ChainText → Doing  -- a transmit turn on a file, and what became of its chains
  Given : ℕ → TxTurn → List ChainText → HostFrame → Doing  -- its frame is with the host, to look
  Teaches : ℕ → TxTurn → List ChainText → HostFrame → Doing  -- the frame's flow is to be learnt

-- an actor: the newest version that it has seen, its commands that haven't ended, and how far the first of them has
-- come
pub record Actor : Type 0 where
  pub seen : ℕ
  pub script : List Numbered
  pub doing : Doing

-- A world: the operations; files, guests and vhosts by number; the names that were given to the host, and that were
-- dropped; the actor that holds the writer; the number of the phase; its actors; and the answers given.
pub record World : Type 0 where
  pub ops : List Published
  pub files : List (Option File)
  pub guests : List (Option Guest)
  pub vhosts : List (Option Vhost)
  pub hosted : List Name
  pub dropped : List Name
  pub writer : Option ℕ
  pub phase : ℕ
  pub actors : List Actor
  pub said : List Said

-- ---- the table

abbrev pub newest : World → ℕ
newest w = length w.ops

-- the table at a version, and the newest one
abbrev pub table_at : Setup → World → ℕ → Table
table_at s w version = after_all (opening_table s) (map (λ (p : Published). p.op) (take version w.ops))

abbrev pub table : Setup → World → Table
table s w = after_all (opening_table s) (map (λ (p : Published). p.op) w.ops)

-- ---- actors

-- the command under way
abbrev pub current : List Numbered → Option Numbered
current script = slice_get script 0

-- this actor holds the writer
abbrev pub holds_writer : World → ℕ → Bool
holds_writer w actor = option_map_or (λ a. a == actor) w.writer false

-- the name of a frame that is the only one of its command
abbrev pub name_of : ℕ → ℕ → Name
name_of actor command = record { actor = actor; turn = command; part = 0 }
