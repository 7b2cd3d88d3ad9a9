-- What an event changes has one of few shapes, whatever its row.
use Rattle.tap_trace.specs.declared.turn.TurnText.{TurnText}
use Rattle.std.proofs.Common.{◌≡◌, ◌⊎◌, ℕ, ◌+◌, List, [], ◌∷◌, true, false, Option, Some, None}
use Rattle.std.specs.Prelude.{◌||◌, is_none, not}
use Rattle.guest_mem.specs.Memory.{Contents}
use Rattle.tap_ledger.specs.declared.act.Act.{Act}
use Rattle.tap_ledger.specs.declared.hand.Hand.{Hand}
use Rattle.tap_steer.specs.declared.operation.Op.{Op}
use Rattle.tap_steer.specs.declared.operation.Op.TheVariants as op
use Rattle.tap_steer.specs.Rules.{refuse}
use Rattle.vhost_dev.specs.Settings.{hdr_of}
use Rattle.vring_turns.specs.RxTurn.{RxState, RxTurn, rx_begun, rx_step}
use Rattle.vring_turns.specs.TxTurn.{TxState, TxTurn, tx_begun, tx_step}
use Rattle.vring_turns.specs.declared.stage.TxStage.TheVariants as tx
use Rattle.scen_words.specs.declared.command.Command.{Command}
use Rattle.scen_words.specs.declared.command.Command.TheVariants as command
use Rattle.tap_frame.specs.declared.name.Name.{Name}
use Rattle.tap_trace.specs.declared.answer.Answer.{Answer}
use Rattle.tap_ledger.specs.declared.error.TapErr.{TapErr as TapText}
use Rattle.tap_trace.specs.declared.kind.Kind.{Kind}
use Rattle.tap_trace.specs.declared.turn.ChainText.{ChainText}
use Rattle.tap_world.specs.declared.event.Found.{Found}
use Rattle.tap_world.specs.declared.event.Found.TheVariants as found
use Rattle.tap_world.specs.ByNumber.{at}
use Rattle.tap_world.specs.Setup.{Setup, op_of}
use Rattle.tap_world.specs.Line.{File, claimed}
use Rattle.tap_world.specs.LineSteps.Change.{Cuts, Owned, Reopens, Shuts, Sizes}
use Rattle.tap_world.specs.Guests.{Guest, Vhost, is_free, is_free_for, is_ring, turn_of}
use Rattle.tap_world.specs.World.{Doing, World, table, HostFrame}
use Rattle.tap_world.specs.World.Doing.{Backs, Begun, Changes, Given, Opened, Opens, Purges, Receives, Resizes, Shrinks, Transmits, Withdrawn, Withdraws}
use Rattle.tap_world.specs.Effect.{Effect, OnFiles, Onward, on_file}
use Rattle.tap_world.specs.Effect.OnFiles.{NoFile, OnFile}
use Rattle.tap_world.specs.Effect.OnGuests.{NoGuest, OnGuest}
use Rattle.tap_world.specs.Effect.OnVhosts.{NoVhost}
use Rattle.tap_world.specs.Effect.Onward.{Ends, Goes, Stays}
use Rattle.tap_world.specs.StepBackend as back
use Rattle.tap_world.specs.StepControl as control
use Rattle.tap_world.specs.StepTable as tables
use Rattle.tap_world.specs.StepTurns as rx_turns
use Rattle.tap_world.specs.StepTransmits as tx_turns
use Rattle.tap_world.specs.Sound.{holds}
use Rattle.tap_world.specs.SoundRings.{StandsWith, holds_turn, serves}

-- a change of a file that leaves gate, owner and capacity
abbrev pub Leaves : OnFiles → Type 0
Leaves (OnFile file Shuts) = ⊥
Leaves (OnFile file Reopens) = ⊥
Leaves (OnFile file (Sizes capacity)) = ⊥
Leaves (OnFile file (Owned owner)) = ⊥
Leaves o = Unit {0}

-- it goes on holding what it holds, and ends where it holds nothing
abbrev pub Alike : Doing → Onward → Type 0
Alike d (Stays f) = Unit {0}
Alike d (Ends seen x) = (holds d ≡ false) × (holds_turn d ≡ false)
Alike d (Goes seen e f) =
    (holds d ≡ false) × (holds e ≡ false) × (holds_turn e ≡ holds_turn d) × (serves e ≡ serves d) × ((v : Vhost) → StandsWith d v → StandsWith e v)

-- it publishes and ends
abbrev pub IsLast : Doing → Type 0
IsLast Changes = Unit {0}
IsLast (Opened file) = Unit {0}
IsLast (Shrinks file places cuts) = Unit {0}
IsLast d = ⊥

-- a turn is under way, or begins
abbrev pub RxWay : ℕ → Doing → ℕ → RxTurn → Vhost → Type 0
RxWay actor d file t v =
    (d ≡ Receives file t)
    ⊎ ((d ≡ Begun) × (v.settings.rx.file ≡ Some file) × (is_free 0 v ≡ true) × (t ≡ rx_begun v.settings.mrg (hdr_of v.settings)))

abbrev pub TxWay : Doing → ℕ → TxTurn → List ChainText → Vhost → Type 0
TxWay d file t told v =
    (d ≡ Transmits file t told)
    ⊎ ((d ≡ Begun) × (v.settings.tx.file ≡ Some file) × (is_free 1 v ≡ true) × (first : Name) × (t ≡ tx_begun (hdr_of v.settings) first))

-- a transmit turn gives its frame to the host
pub record Gives (w : World) (vhost file : ℕ) (t : TxTurn) (told : List ChainText) (d : Doing) (c : Command) (o : Onward) : Type 0 where
  pub v : Vhost
  pub g : Guest
  pub made : TxState × Act
  pub frame : HostFrame
  pub seen : ℕ
  pub f : Found
  pub doing : d ≡ Transmits file t told
  pub stage : t.stage ≡ tx.Give
  pub command : c ≡ command.TxTurn vhost
  pub at_vhost : at w.vhosts vhost ≡ Some v
  pub step : tx_step (tx_turns.tx_state t v g.memory) ≡ Some made
  pub goes : o ≡ Goes seen (Given file made.0.turn told frame) f

pub data Shape (s : Setup) (w : World) (me seen : ℕ) (d : Doing) (c : Command) (r : Effect) : Type 0 where
  Quiet : r.ops ≡ [] → Leaves r.files → r.guests ≡ NoGuest → r.vhosts ≡ NoVhost → r.writer ≡ w.writer → Alike d r.onward → Shape s w me seen d c r
  Giving : (vhost file : ℕ) (t : TxTurn) (told : List ChainText) → r.ops ≡ [] → r.files ≡ NoFile → r.guests ≡ NoGuest → r.vhosts ≡ NoVhost
      → r.writer ≡ w.writer → Gives w vhost file t told d c r.onward → Shape s w me seen d c r
  Trims : (file n m k : ℕ) (f : Found) → d ≡ Shrinks file n m → on_file file Cuts (Goes seen (Shrinks file n k) f) w ≡ r → Shape s w me seen d c r
  Approves : (x : Op) → d ≡ Begun → op_of s c ≡ Some x → w.writer ≡ None → refuse (table s w) x ≡ None
      → tables.decided w me (tables.course (table s w) x) None ≡ r → Shape s w me seen d c r
  BackApproves : (vhost ring : ℕ) (file : Option ℕ) (v : Vhost) → d ≡ Begun → c ≡ command.Backend vhost ring file → at w.vhosts vhost ≡ Some v
      → w.writer ≡ None → (not (is_ring ring) || is_none (turn_of ring v)) ≡ true → back.back_refusal (table s w) vhost ring file ≡ None
      → back.back_seen w me vhost ring v None ≡ r → Shape s w me seen d c r
  Reopening : (file : ℕ) (f : File) → d ≡ Opens file → at w.files file ≡ Some f
      → on_file file Reopens (Goes seen (Opened file) (found.Epoch (f.epoch + 1))) w ≡ r → Shape s w me seen d c r
  Shutting : (file version : ℕ) (f : File) → d ≡ Withdrawn file version → at w.files file ≡ Some f
      → on_file file Shuts (Goes seen (Purges file version) (found.Claimed (claimed f))) w ≡ r → Shape s w me seen d c r
  Sizing : (file capacity : ℕ) (f : File) → d ≡ Resizes file capacity → at w.files file ≡ Some f
      → on_file file (Sizes capacity) (Goes seen (Shrinks file (claimed f) 0) (found.Claimed (claimed f))) w ≡ r → Shape s w me seen d c r
  Publishing : (x : Op) (v : ℕ) (y : Answer) → IsLast d → op_of s c ≡ Some x → refuse (table s w) x ≡ None
      → tables.publishes_with w x None (λ version. Ends version y) ≡ r → Shape s w me seen d c r
  Withdrawing : (x : Op) (file : ℕ) → d ≡ Withdraws file → op_of s c ≡ Some x → refuse (table s w) x ≡ None
      → tables.publishes_with w x w.writer (λ version. Goes version (Withdrawn file version) (found.Version version)) ≡ r → Shape s w me seen d c r
  Learning : (file hash : ℕ) → r.ops ≡ op.Learn file hash ∷ [] → r.files ≡ NoFile → r.guests ≡ NoGuest → r.vhosts ≡ NoVhost
      → r.writer ≡ w.writer → w.writer ≡ None → Alike d r.onward → Shape s w me seen d c r
  BackPublishes : (vhost ring : ℕ) (asked : Option ℕ) → c ≡ command.Backend vhost ring asked
      → back.publishes_back w d (command.Backend vhost ring asked) ≡ Some r → Shape s w me seen d c r
  Owning : (vhost ring : ℕ) (asked : Option ℕ) → c ≡ command.Backend vhost ring asked
      → back.owns w seen d (command.Backend vhost ring asked) ≡ Some r → Shape s w me seen d c r
  BackDrives : (refusal : Option TapText) (vhost ring : ℕ) (file : Option ℕ) (v : Vhost) (g : Guest) → d ≡ Backs refusal
      → c ≡ command.Backend vhost ring file → at w.vhosts vhost ≡ Some v → at w.guests v.guest ≡ Some g → is_free_for me ring v ≡ true
      → back.back_call s w me seen refusal vhost ring file v g.memory ≡ Some r → Shape s w me seen d c r
  Calling : (vhost : ℕ) (v : Vhost) (g : Guest) (x : control.Call) → d ≡ Begun → control.driven_vhost c ≡ Some vhost → at w.vhosts vhost ≡ Some v
      → at w.guests v.guest ≡ Some g → control.call_of c v g.memory ≡ Some x → control.may_call me c v ≡ true
      → control.call_effect w seen vhost v.guest x ≡ r → Shape s w me seen d c r
  Touching : (guest : ℕ) (g : Guest) (m : Contents) (step : Option Kind) (v : ℕ) (y : Answer) → at w.guests guest ≡ Some g
      → m.regions ≡ g.memory.regions → d ≡ Begun → r.ops ≡ [] → r.files ≡ NoFile → r.guests ≡ OnGuest guest m step → r.vhosts ≡ NoVhost
      → r.writer ≡ w.writer → r.onward ≡ Ends v y → Shape s w me seen d c r
  RxTurning : (vhost file : ℕ) (t : RxTurn) (v : Vhost) (g : Guest) (h : Hand) (made : RxState × Act) (files : OnFiles) (f : Found) (over : Option TurnText)
      → c ≡ command.RxTurn vhost → at w.vhosts vhost ≡ Some v → at w.guests v.guest ≡ Some g → RxWay me d file t v
      → rx_step h (rx_turns.rx_state t v g.memory) ≡ Some made → Leaves files → rx_turns.over_told (rx_turns.rx_over made.0.turn.stage) ≡ Some over
      → rx_turns.rx_effect w me seen vhost file v files f over made ≡ r → Shape s w me seen d c r
  TxTurning : (vhost file : ℕ) (t : TxTurn) (told : List ChainText) (v : Vhost) (g : Guest) (made : TxState × Act) (step : Kind) (over : Option TurnText)
      → c ≡ command.TxTurn vhost → at w.vhosts vhost ≡ Some v → at w.guests v.guest ≡ Some g → TxWay d file t told v
      → tx_step (tx_turns.tx_state t v g.memory) ≡ Some made → rx_turns.over_told (tx_turns.tx_over made.0.turn.stage) ≡ Some over
      → tx_turns.tx_effect w me seen vhost file told v step over made ≡ r → Shape s w me seen d c r
