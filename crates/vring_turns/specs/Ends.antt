-- This project's own, after Linux's vhost_net: why a turn ends. Its steps tell the end, but for the two ends without an
-- event (a queue that is off, want of memory), of which a run of events says nothing.
use Rattle.std.specs.Prelude.{◌≡◌, ℕ, ◌==◌, Bool, true, false, List, [], ◌∷◌, ◌++◌, Option, None, Some, if◌then◌else◌}
use Rattle.std.specs.Option.{option_to_list}
use Rattle.vring_split.specs.declared.fault.RingFault.{RingFault}
use Rattle.vring_split.specs.Split.{number_of_fault}
use Rattle.tap_frame.specs.declared.name.Name.{Name}
use Rattle.tap_ledger.specs.declared.act.Act.{Act}
use Rattle.tap_ledger.specs.declared.act.Act.TheVariants as act
use Rattle.vhost_queue.specs.Queue.{Queue}
use Rattle.vring_turns.specs.declared.end.End.{End}
use Rattle.vring_turns.specs.declared.end.End.TheVariants.{Idle, Short, Again, Stopped}
use Rattle.vring_turns.specs.declared.stage.TxStage.{TxStage}
use Rattle.vring_turns.specs.declared.stage.TxStage.TheVariants as tx
use Rattle.vring_turns.specs.declared.stage.RxStage.{RxStage}
use Rattle.vring_turns.specs.declared.stage.RxStage.TheVariants as rx
use Rattle.vring_turns.specs.declared.stage.After.TheVariants as after
use Rattle.vring_turns.specs.Ring.{room_in}
use Rattle.vring_turns.specs.Turn.{is_enough}
use Rattle.vring_turns.specs.Stage.{first_answer, tx_end_at, tx_is_second, need_at, rx_end_at, rx_is_second}
use Rattle.vring_turns.specs.TxTurn.{TxTurn, TxState, tx_begun}
use Rattle.vring_turns.specs.TxRun.{Moment, IsTxRun}
use Rattle.vring_turns.specs.RxTurn.{RxTurn, RxState, rx_begun}
use Rattle.vring_turns.specs.RxRun.{RxMoment, IsRxRun}
use Rattle.vring_turns.specs.Standing.{RxStands, IsGathering}

-- What a step tells.

-- notices were turned on, so the fetch that follows is the second of two
abbrev pub turns_on : Act → Bool
turns_on (act.Notices on wrote) = on
turns_on other = false

-- the fault that stopped the ring, where a step told its number
abbrev pub stopped_by : ℕ → Option RingFault → List End
stopped_by number None = []
stopped_by number (Some fault) = if number_of_fault fault == number then Stopped fault ∷ [] else []

-- the turn did as much as one turn does
abbrev pub again_where : Bool → List End
again_where enough = if enough then Again ∷ [] else []

-- an end is that a turn did as much as one turn does
abbrev pub is_again : End → Bool
is_again Again = true
is_again other = false

-- Transmit.

abbrev pub tx_enough : TxTurn → Bool
tx_enough t = is_enough t.packets t.bytes t.packets

-- the end that a step brings about: a second fetch found nothing, or a fetch found a fault, which it told and which
-- stopped the ring, or a chain was given or refused with which the turn did enough
abbrev pub tx_ends_at : Bool → Act → TxState → List End
tx_ends_at second act.Nothing left = if second then Idle ∷ [] else []
tx_ends_at second (act.Halt number) left = stopped_by number left.queue.stopped
tx_ends_at second (act.Given name) left = again_where (tx_enough left.turn)
tx_ends_at second (act.Refused position bad) left = again_where (tx_enough left.turn)
tx_ends_at second other left = []

-- the same over steps, where the first of them is a second fetch or isn't
abbrev pub tx_ends_by : Bool → List Moment → List End
tx_ends_by second [] = []
tx_ends_by second (m ∷ ms) = tx_ends_at second m.told m.after ++ tx_ends_by (turns_on m.told) ms

-- it is Again exactly where the turn did enough; a frame may have to be given before that
abbrev pub TxAgainAt : TxStage → Bool → Type 0
TxAgainAt tx.Begin enough = enough ≡ false
TxAgainAt tx.Fetch enough = enough ≡ false
TxAgainAt tx.NoticesOn enough = enough ≡ false
TxAgainAt tx.FetchAgain enough = enough ≡ false
TxAgainAt (tx.NoticesOff fault) enough = enough ≡ false
TxAgainAt tx.Copy enough = enough ≡ false
TxAgainAt tx.Give enough = Unit {0}
TxAgainAt (tx.Publish None) enough = enough ≡ false
TxAgainAt (tx.Publish (Some end)) enough = is_again end ≡ enough
TxAgainAt (tx.Ended end) enough = is_again end ≡ enough

-- what ends a turn is what was to end it before, or what its steps brought about; no two of them bring about an end
pub record TxEnds (t t' : TxTurn) (ms : List Moment) : Type 0 where
  pub ends : option_to_list (tx_end_at t'.stage)
      ≡ option_to_list (tx_end_at t.stage) ++ tx_ends_by (tx_is_second t.stage) ms
  pub again : TxAgainAt t.stage (tx_enough t) → TxAgainAt t'.stage (tx_enough t')

-- every run does so
abbrev pub TransmitTurnsTell : Type 0
TransmitTurnsTell =
    (t t' : TxTurn) (q q' : Queue) (ms : List Moment) → IsTxRun t q ms t' q' → TxEnds t t' ms

-- a whole turn, with what it is at its end: it ends at once, or makes steps from its beginning to its end
abbrev pub IsWholeTx : Option End → TxTurn → Queue → List Moment → TxTurn → End → Type 0
IsWholeTx (Some first) t q ms t' end = (ms ≡ []) × (t' ≡ t) × (end ≡ first)
IsWholeTx None t q ms t' end = (q' : Queue) × IsTxRun t q ms t' q' × (t'.stage ≡ tx.Ended end)

-- the end of a whole turn is its first answer, or the one end that its steps brought about; it is Again exactly where
-- the turn did enough
abbrev pub TransmitTurnsEnd : Type 0
TransmitTurnsEnd =
    (header : ℕ) (first : Name) (backed : Bool) (q : Queue) (ms : List Moment) (t' : TxTurn) (end : End)
    → IsWholeTx (first_answer backed q.stopped) (tx_begun header first) q ms t' end
    → (option_to_list (first_answer backed q.stopped) ++ tx_ends_by false ms ≡ end ∷ [])
    × (is_again end ≡ tx_enough t')

-- Receive.

abbrev pub rx_enough : RxTurn → Bool
rx_enough t = is_enough t.packets t.bytes t.handled

-- the end that a step brings about, by what it began with and what it left: no frame was ready, or a second fetch found
-- nothing, or a fetch found a fault, which it told and which stopped the ring, or a frame went out with which the turn
-- did enough
abbrev pub rx_ends_at : Bool → Act → RxState → RxState → List End
rx_ends_at second act.NotReady was left = Idle ∷ []
rx_ends_at second act.Nothing was left =
    if second then Short (need_at was.turn.header was.turn.held) (room_in was.turn.chains) ∷ [] else []
rx_ends_at second (act.Halt number) was left = stopped_by number left.queue.stopped
rx_ends_at second (act.Out name) was left = again_where (rx_enough left.turn)
rx_ends_at second other was left = []

abbrev pub rx_ends_by : Bool → List RxMoment → List End
rx_ends_by second [] = []
rx_ends_by second (m ∷ ms) = rx_ends_at second m.told m.before m.after ++ rx_ends_by (turns_on m.told) ms

-- it is Again exactly where the turn did enough; a frame may have to go out before that
abbrev pub RxAgainAt : RxStage → Bool → Type 0
RxAgainAt rx.Begin enough = enough ≡ false
RxAgainAt rx.Hand enough = enough ≡ false
RxAgainAt rx.Fetch enough = enough ≡ false
RxAgainAt rx.NoticesOn enough = enough ≡ false
RxAgainAt rx.FetchAgain enough = enough ≡ false
RxAgainAt (rx.NoticesOff after.Fetch) enough = enough ≡ false
RxAgainAt (rx.NoticesOff after.Copy) enough = enough ≡ false
RxAgainAt (rx.NoticesOff (after.Discard had)) enough = enough ≡ false
RxAgainAt (rx.NoticesOff (after.PutBack end)) enough = is_again end ≡ enough
RxAgainAt rx.Copy enough = enough ≡ false
RxAgainAt rx.Out enough = Unit {0}
RxAgainAt (rx.Discard had) enough = enough ≡ false
RxAgainAt (rx.PutBack end) enough = is_again end ≡ enough
RxAgainAt (rx.Publish None) enough = enough ≡ false
RxAgainAt (rx.Publish (Some end)) enough = is_again end ≡ enough
RxAgainAt (rx.Ended end) enough = is_again end ≡ enough

pub record RxEnds (t t' : RxTurn) (ms : List RxMoment) : Type 0 where
  pub ends : option_to_list (rx_end_at t'.stage)
      ≡ option_to_list (rx_end_at t.stage) ++ rx_ends_by (rx_is_second t.stage) ms
  pub again : RxAgainAt t.stage (rx_enough t) → RxAgainAt t'.stage (rx_enough t')

abbrev pub ReceiveTurnsTell : Type 0
ReceiveTurnsTell =
    (t t' : RxTurn) (q q' : Queue) (ms : List RxMoment) → IsRxRun t q ms t' q' → RxEnds t t' ms

abbrev pub IsWholeRx : Option End → RxTurn → Queue → List RxMoment → RxTurn → End → Type 0
IsWholeRx (Some first) t q ms t' end = (ms ≡ []) × (t' ≡ t) × (end ≡ first)
IsWholeRx None t q ms t' end = (q' : Queue) × IsRxRun t q ms t' q' × (t'.stage ≡ rx.Ended end)

abbrev pub ReceiveTurnsEnd : Type 0
ReceiveTurnsEnd =
    (mergeable : Bool) (header : ℕ) (backed : Bool) (q : Queue) (ms : List RxMoment) (t' : RxTurn) (end : End)
    → IsWholeRx (first_answer backed q.stopped) (rx_begun mergeable header) q ms t' end
    → (option_to_list (first_answer backed q.stopped) ++ rx_ends_by false ms ≡ end ∷ [])
    × (is_again end ≡ rx_enough t')

-- a fetch that finds nothing is made where the chains are too short for the frame in hand, and fewer than it may go
-- into
abbrev pub IsShortAt : Act → RxState → Type 0
IsShortAt act.Nothing was = IsGathering was.turn was.queue
IsShortAt other was = Unit {0}

abbrev pub AreShort : List RxMoment → Type 0
AreShort [] = Unit {0}
AreShort (m ∷ ms) = IsShortAt m.told m.before × AreShort ms

abbrev pub ReceiveTurnsAreShort : Type 0
ReceiveTurnsAreShort =
    (t t' : RxTurn) (q q' : Queue) (ms : List RxMoment) → RxStands t q → IsRxRun t q ms t' q' → AreShort ms
