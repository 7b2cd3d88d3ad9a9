-- This project's own: what the answer of a turn says of the worlds before and after its last event. SEEN is what the
-- actor had seen before that.
use Rattle.std.specs.Prelude.{◌≡◌, ◌⊎◌, ℕ, true, List, [], Some, None}
use Rattle.tap_ledger.specs.declared.act.Act.{Act}
use Rattle.tap_ledger.specs.declared.hand.Hand.{Hand}
use Rattle.tap_ledger.specs.declared.hand.Hand.TheVariants as hand
use Rattle.tap_trace.specs.declared.answer.Answer.{Answer}
use Rattle.tap_trace.specs.declared.answer.Answer.TheVariants as answer
use Rattle.tap_trace.specs.declared.kind.Kind.{Kind}
use Rattle.tap_trace.specs.declared.turn.ChainText.{ChainText}
use Rattle.tap_trace.specs.declared.turn.TurnText.{TurnText}
use Rattle.vhost_dev.specs.Settings.{hdr_of}
use Rattle.vring_turns.specs.declared.end.End.{End}
use Rattle.vring_turns.specs.declared.stage.RxStage.TheVariants as rx
use Rattle.vring_turns.specs.declared.stage.TxStage.TheVariants as tx
use Rattle.vring_turns.specs.RxTurn.{RxState, RxTurn, rx_begun, rx_step}
use Rattle.vring_turns.specs.TxTurn.{TxState, TxTurn, tx_begun, tx_step}
use Rattle.tap_world.specs.ByNumber.{at}
use Rattle.tap_world.specs.Guests.{Guest, Vhost, is_free}
use Rattle.tap_world.specs.Line.{File, first_that, front_place, in_batch}
use Rattle.tap_world.specs.LineSteps.{ready_front}
use Rattle.tap_world.specs.StepTransmits.{chains_after, tx_state}
use Rattle.tap_world.specs.StepTurns.{end_told, is_off, rx_state}
use Rattle.tap_world.specs.World.{Doing, World, name_of}
use Rattle.tap_world.specs.World.Doing.{Begun, Receives, Transmits}
use Rattle.tap_answers.specs.SaysShared.{IsKnown, Occasion}

-- ---- both kinds

-- the turn's vhost and its guest as the event finds them
pub record Serves (o : Occasion) (vhost seen : ℕ) : Type 0 where
  pub known : IsKnown o seen
  pub v : Vhost
  pub is_vhost : at o.before.vhosts vhost ≡ Some v
  pub g : Guest
  pub is_guest : at o.before.guests v.guest ≡ Some g

-- it has done nothing: its ring, which nobody serves, has no backend or is stopped
pub record IsOff (o : Occasion) (vhost ring seen : ℕ) (x : TurnText) : Type 0 where
  pub serves : Serves o vhost seen
  pub step : Kind
  pub off : is_off vhost ring serves.v ≡ Some (x, step)
  pub free : is_free ring serves.v ≡ true

-- ---- receive turns

-- a receive turn on a file is under way, or begins on that of its ring
abbrev pub Receiving : Doing → ℕ → RxTurn → Vhost → Type 0
Receiving d file t v =
    (d ≡ Receives file t)
    ⊎ ((d ≡ Begun) × (v.settings.rx.file ≡ Some file) × (t ≡ rx_begun v.settings.mrg (hdr_of v.settings)))

-- what the event handed to the worker: that no frame was ready means that the batch was empty and the front place,
-- which it tells, wasn't ready
pub record HasNoFrame (w : World) (file place : ℕ) : Type 0 where
  pub f : File
  pub is_file : at w.files file ≡ Some f
  pub batch : first_that in_batch f.line ≡ None
  pub ready : ready_front f.line ≡ None
  pub front : place ≡ front_place f

abbrev pub IsHanded : World → ℕ → Hand → Type 0
IsHanded w file (hand.NotReady place) = HasNoFrame w file place
IsHanded w file other = Unit {0}

-- its last step, with what was handed to it, leaves it over, for the end that is told
pub record Received (o : Occasion) (vhost seen packets bytes : ℕ) (x : TurnText) : Type 0 where
  pub serves : Serves o vhost seen
  pub file : ℕ
  pub turn : RxTurn
  pub on : Receiving o.doing file turn serves.v
  pub handed : Hand
  pub found : IsHanded o.before file handed
  pub made : RxState × Act
  pub step : rx_step handed (rx_state turn serves.v serves.g.memory) ≡ Some made
  pub end : End
  pub over : made.0.turn.stage ≡ rx.Ended end
  pub told : end_told end ≡ Some x
  pub as_many : packets ≡ made.0.turn.packets
  pub as_long : bytes ≡ made.0.turn.bytes

-- ---- transmit turns

-- a transmit turn on a file is under way, with what became of its chains so far, or begins on that of its ring
abbrev pub Transmitting : Occasion → ℕ → TxTurn → List ChainText → Vhost → Type 0
Transmitting o file t chains v =
    (o.doing ≡ Transmits file t chains)
    ⊎ ((o.doing ≡ Begun) × (v.settings.tx.file ≡ Some file)
    × (t ≡ tx_begun (hdr_of v.settings) (name_of o.actor o.number)) × (chains ≡ []))

-- its last step leaves it over, for the end that is told, with what became of its chains
pub record Transmitted (o : Occasion) (vhost seen packets bytes : ℕ) (x : TurnText) (chains : List ChainText) :
    Type 0 where
  pub serves : Serves o vhost seen
  pub file : ℕ
  pub turn : TxTurn
  pub so_far : List ChainText
  pub on : Transmitting o file turn so_far serves.v
  pub made : TxState × Act
  pub step : tx_step (tx_state turn serves.v serves.g.memory) ≡ Some made
  pub end : End
  pub over : made.0.turn.stage ≡ tx.Ended end
  pub told : end_told end ≡ Some x
  pub as_many : packets ≡ made.0.turn.packets
  pub as_long : bytes ≡ made.0.turn.bytes
  pub became : chains ≡ chains_after made.1 made.0.turn.held so_far

-- ---- by answer; a turn has no other

-- nothing was done
abbrev pub IsNothing : ℕ → ℕ → List ChainText → Type 0
IsNothing packets bytes chains = (packets ≡ 0) × (bytes ≡ 0) × (chains ≡ [])

abbrev pub RxTurnSays : Occasion → ℕ → ℕ → Answer → Type 0
RxTurnSays o vhost seen (answer.Turn packets bytes x chains) =
    (IsOff o vhost 0 seen x × IsNothing packets bytes chains)
    ⊎ (Received o vhost seen packets bytes x × (chains ≡ []))
RxTurnSays o vhost seen other = ⊥

abbrev pub TxTurnSays : Occasion → ℕ → ℕ → Answer → Type 0
TxTurnSays o vhost seen (answer.Turn packets bytes x chains) =
    (IsOff o vhost 1 seen x × IsNothing packets bytes chains)
    ⊎ Transmitted o vhost seen packets bytes x chains
TxTurnSays o vhost seen other = ⊥
