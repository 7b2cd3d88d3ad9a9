-- This project's own: what the events of a transmit turn do to what actors share.
use Rattle.std.specs.Prelude.{◌≡◌, ℕ, ◌++◌, ◌∷◌, [], true, List, Option, Some, None, IfSome, Vec, is_some}
use Rattle.std.specs.declared.alloc.Global.{Global}
use Rattle.guest_mem.specs.Memory.{Contents}
use Rattle.tap_frame.specs.Frame.{FrameValue}
use Rattle.tap_guests.specs.Lending.{with_memory}
use Rattle.tap_guests.specs.Side.{Side}
use Rattle.tap_guests.specs.Turning.{TxGoes, TxSteps}
use Rattle.tap_guests.specs.Within.{IsIn}
use Rattle.tap_ground.specs.Options.{◌>>=◌}
use Rattle.tap_ledger.specs.declared.act.Act.{Act}
use Rattle.tap_trace.specs.declared.answer.Answer.TheVariants as answer
use Rattle.tap_trace.specs.declared.kind.Kind.{Kind}
use Rattle.tap_trace.specs.declared.turn.ChainText.{ChainText}
use Rattle.tap_world.specs.ByNumber.{at, with_at}
use Rattle.tap_world.specs.declared.event.Found.TheVariants as found
use Rattle.tap_world.specs.Guests.{Guest, is_free}
use Rattle.tap_world.specs.StepTransmits.{chains_after}
use Rattle.tap_world.specs.StepTurns.{end_told, kind_of}
use Rattle.tap_world.specs.World.{name_of}
use Rattle.vhost_dev.specs.Settings.{hdr_of}
use Rattle.vhost_step.specs.Transmit.{tx_given}
use Rattle.vring_turns.specs.declared.end.TurnEnd.{TurnEnd}
use Rattle.vring_turns.specs.TxTurn.{tx_begun}
use Rattle.core_shared.specs.Asking.{Asking}
use Rattle.core_shared.specs.declared.doing.Doing.TheVariants as doing
use Rattle.core_shared.specs.declared.onward.Onward.{Onward}
use Rattle.core_shared.specs.declared.onward.Onward.TheVariants as on
use Rattle.core_shared.specs.declared.shared.Shared.{Shared}

-- ---- a vhost and its guest

-- The vhost of a number is there, with its guest, and lies in the regions of that guest's memory.
pub record IsThere (vhost : ℕ) (x : Shared) : Type 0 where
  pub side : Side
  pub guest : Guest
  pub is_side : at x.vhosts vhost ≡ Some side
  pub is_guest : at x.guests side.vhost.guest ≡ Some guest
  pub within : IsIn guest.memory.regions side

-- The vhost of a number and the memory of its guest changed in this way, in the regions of that memory; and nothing else.
pub record OnVhost (vhost : ℕ) (Way : Side → Contents → Side → Contents → Type 0) (old new : Shared) : Type 0 where
  pub before : Side
  pub guest : Guest
  pub after : Side
  pub memory : Contents
  pub is_before : at old.vhosts vhost ≡ Some before
  pub is_guest : at old.guests before.vhost.guest ≡ Some guest
  pub way : Way before guest.memory after memory
  pub within : IsIn memory.regions after
  pub regions : memory.regions ≡ guest.memory.regions
  pub left : new ≡ record old {
    vhosts = with_at vhost after old.vhosts;
    guests = with_at before.vhost.guest (with_memory guest memory) old.guests;
  }

-- the guest with one step more, of a command
abbrev pub with_step : Asking → Kind → Guest → Guest
with_step a kind g =
    record g { steps = g.steps ++ record { actor = a.actor; command = a.number; kind = kind } ∷ [] }

-- The guest of a vhost is told a step, and nothing else changed.
pub record Tells (a : Asking) (vhost : ℕ) (kind : Kind) (old new : Shared) : Type 0 where
  pub side : Side
  pub guest : Guest
  pub is_side : at old.vhosts vhost ≡ Some side
  pub is_guest : at old.guests side.vhost.guest ≡ Some guest
  pub left : new ≡ record old { guests = with_at side.vhost.guest (with_step a kind guest) old.guests }

-- ---- steps

-- A turn may begin: its ring has a backend and isn't stopped, and the ring's turn is free.
pub record MayBegin (s : Side) : Type 0 where
  pub backed : is_some s.vhost.settings.tx.file ≡ true
  pub running : s.vhost.settings.tx.queue.stopped ≡ None
  pub free : is_free 1 s.vhost ≡ true

-- the first step of a turn, whose frames get the command's name
abbrev pub Begins : Asking → Act → Side → Contents → Side → Contents → Type 0
Begins a told old m new m' =
    TxSteps (tx_begun (hdr_of old.vhost.settings) (name_of a.actor a.number)) a.actor old m told None None new m'

-- The worker's next step told this event, gave the host the frame that it held where it gives one, and ended the turn or
-- didn't.
pub record Goes (told : Act) (given : Option FrameValue) (over : Option TurnEnd) (old : Side) (m : Contents)
    (new : Side) (m' : Contents) : Type 0 where
  pub goes : TxGoes old m told given over new m'
  pub gives : IfSome old.tx (λ w. given ≡ tx_given w.turn.stage w.turn)

-- the frame that the worker holds
abbrev pub held_in : Side → Option FrameValue
held_in s = do
  w ← s.tx
  w.turn.held

-- ---- how the turn goes on

-- what became of chains, as it is kept
abbrev pub Chains : Type 0
Chains = Vec ChainText Global

-- it goes on to its next step, or ends with an answer in these words
abbrev pub onward_by : ℕ → ℕ → ℕ → Chains → Kind → Option TurnEnd → Option Onward
onward_by seen vhost file chains kind None = Some (on.Goes seen (doing.Transmits vhost file chains) (found.Step kind))
onward_by seen vhost file chains kind (Some t) = do
  words ← end_told t.end
  Some (on.Ends seen (answer.Turn t.packets t.bytes words chains.items))

-- The guest of a vhost was told the step of an event, the turn tells what became of its chain, and goes on or ends so.
pub record WentOn (a : Asking) (vhost file : ℕ) (chains : List ChainText) (told : Act) (over : Option TurnEnd)
    (old new : Shared) (o : Onward) : Type 0 where
  pub kind : Kind
  pub is_kind : kind_of vhost 1 told ≡ Some kind
  pub tells : Tells a vhost kind old new
  pub more : Chains
  pub is_more : more.items ≡ chains_after told (held_in tells.side) chains
  pub onward : onward_by a.seen vhost file more kind over ≡ Some o

-- The turn began: its first step was told to the guest of its vhost, and it goes on, on the file of its ring.
pub record BeganSo (a : Asking) (vhost : ℕ) (old new : Shared) (o : Onward) : Type 0 where
  pub told : Act
  pub between : Shared
  pub begins : OnVhost vhost (Begins a told) old between
  pub file : ℕ
  pub is_file : begins.after.vhost.settings.tx.file ≡ Some file
  pub kind : Kind
  pub is_kind : kind_of vhost 1 told ≡ Some kind
  pub tells : Tells a vhost kind between new
  pub chains : Chains
  pub none : chains.items ≡ []
  pub onward : o ≡ on.Goes a.seen (doing.Transmits vhost file chains) (found.Step kind)
