-- This project's own: how a turn and its ring stand together between two steps, why a turn ends, and that a whole turn
-- keeps the order of positions.
use Rattle.std.specs.Prelude.{◌≡◌, ℕ, ◌<◌, Bool, true, List, [], length, None, Some}
use Rattle.tap_frame.specs.declared.name.Name.{Name}
use Rattle.vhost_queue.specs.Positions.{IsIdle, IsInOrder}
use Rattle.vhost_queue.specs.Queue.{Queue}
use Rattle.vring_turns.specs.declared.end.End.{End}
use Rattle.vring_turns.specs.declared.end.End.TheVariants as end
use Rattle.vring_turns.specs.declared.stage.TxStage.{TxStage}
use Rattle.vring_turns.specs.declared.stage.TxStage.TheVariants as tx
use Rattle.vring_turns.specs.declared.stage.RxStage.{RxStage}
use Rattle.vring_turns.specs.declared.stage.RxStage.TheVariants as rx
use Rattle.vring_turns.specs.declared.stage.After.TheVariants as after
use Rattle.vring_turns.specs.Ring.{Gathered, room_in, done_in}
use Rattle.vring_turns.specs.Turn.{is_enough}
use Rattle.vring_turns.specs.TxTurn.{TxTurn, tx_begun}
use Rattle.vring_turns.specs.TxRun.{Moment, IsTxRun}
use Rattle.vring_turns.specs.RxTurn.{RxTurn, rx_begun, quota}
use Rattle.vring_turns.specs.RxRun.{RxMoment, IsRxRun}
use Rattle.vring_turns.specs.Stage.{need_at}

-- no chain is gathered
abbrev pub HasNone : List Gathered → Type 0
HasNone chains = chains ≡ []

-- none is gathered, and fewer are done than are published at once
abbrev pub IsFree : List Gathered → Queue → Type 0
IsFree chains q = HasNone chains × (done_in q < 64)

-- Transmit.

-- why a turn ends: it did enough, or this fault stopped its ring, or no chain was there
abbrev pub HasTxCause : End → TxTurn → Queue → Type 0
HasTxCause end.Idle t q = Unit {0}
HasTxCause end.Again t q = is_enough t.packets t.bytes t.packets ≡ true
HasTxCause (end.Stopped fault) t q = q.stopped ≡ Some fault
HasTxCause (end.Short need had) t q = ⊥
HasTxCause end.Off t q = ⊥
HasTxCause end.NoMemory t q = ⊥

-- one chain is gathered from its fetch to its copy; a turn that is over leaves nothing that is done and not published
abbrev pub TxStandsAt : TxStage → TxTurn → Queue → Type 0
TxStandsAt tx.Begin t q = IsFree t.chains q
TxStandsAt tx.Fetch t q = IsFree t.chains q
TxStandsAt tx.NoticesOn t q = IsFree t.chains q
TxStandsAt tx.FetchAgain t q = IsFree t.chains q
TxStandsAt (tx.NoticesOff None) t q = length t.chains ≡ 1
TxStandsAt (tx.NoticesOff (Some fault)) t q = HasNone t.chains × (q.stopped ≡ Some fault)
TxStandsAt tx.Copy t q = length t.chains ≡ 1
TxStandsAt tx.Give t q = HasNone t.chains
TxStandsAt (tx.Publish None) t q = HasNone t.chains
TxStandsAt (tx.Publish (Some end)) t q = HasNone t.chains × HasTxCause end t q
TxStandsAt (tx.Ended end) t q = HasNone t.chains × HasTxCause end t q × (done_in q ≡ 0)

pub record TxStands (t : TxTurn) (q : Queue) : Type 0 where
  pub gathered : q.positions.gathered ≡ length t.chains
  pub stage : TxStandsAt t.stage t q

-- a turn that begins on a queue of which nothing is served and not published stands so
abbrev pub TransmitTurnsBegin : Type 0
TransmitTurnsBegin = (header : ℕ) (first : Name) (q : Queue) → IsIdle q.positions → TxStands (tx_begun header first) q

-- and so does every run of its steps
abbrev pub TransmitTurnsStand : Type 0
TransmitTurnsStand =
    (t t' : TxTurn) (q q' : Queue) (ms : List Moment) → TxStands t q → IsTxRun t q ms t' q' → TxStands t' q'

-- which keeps the k-th chain of a list of positions at the k-th position
abbrev pub TransmitTurnsKeepOrder : Type 0
TransmitTurnsKeepOrder =
    (t t' : TxTurn) (q q' : Queue) (ms : List Moment) (base start : ℕ)
    → TxStands t q → IsInOrder base start q.positions → IsTxRun t q ms t' q' → IsInOrder base start q'.positions

-- Receive.

-- why a turn ends: no frame was ready, or the chains were too short, or it did enough, or this fault stopped its ring
abbrev pub HasRxCause : End → RxTurn → Queue → Type 0
HasRxCause end.Idle t q = Unit {0}
HasRxCause (end.Short need had) t q = had < need
HasRxCause end.Again t q = is_enough t.packets t.bytes t.handled ≡ true
HasRxCause (end.Stopped fault) t q = q.stopped ≡ Some fault
HasRxCause end.Off t q = ⊥
HasRxCause end.NoMemory t q = ⊥

-- the chains that are gathered are fewer than a frame may go into, and too short for the one in hand
pub record IsGathering (t : RxTurn) (q : Queue) : Type 0 where
  pub fewer : length t.chains < quota t.mergeable
  pub short : room_in t.chains < need_at t.header t.held
  pub few_done : done_in q < 64

-- chains are gathered from the first fetch for a frame to its copy, or to where they are given up; a turn that is over
-- leaves nothing that is done and not published
abbrev pub RxStandsAt : RxStage → RxTurn → Queue → Type 0
RxStandsAt rx.Begin t q = IsFree t.chains q
RxStandsAt rx.Hand t q = IsFree t.chains q
RxStandsAt rx.Fetch t q = IsGathering t q
RxStandsAt rx.NoticesOn t q = IsGathering t q
RxStandsAt rx.FetchAgain t q = IsGathering t q
RxStandsAt (rx.NoticesOff after.Fetch) t q = IsGathering t q
RxStandsAt (rx.NoticesOff after.Copy) t q = Unit {0}
RxStandsAt (rx.NoticesOff (after.Discard had)) t q = HasNone t.chains
RxStandsAt (rx.NoticesOff (after.PutBack end)) t q = HasNone t.chains × HasRxCause end t q
RxStandsAt rx.Copy t q = Unit {0}
RxStandsAt rx.Out t q = HasNone t.chains
RxStandsAt (rx.Discard had) t q = HasNone t.chains
RxStandsAt (rx.PutBack end) t q = HasNone t.chains × HasRxCause end t q
RxStandsAt (rx.Publish None) t q = HasNone t.chains
RxStandsAt (rx.Publish (Some end)) t q = HasNone t.chains × HasRxCause end t q
RxStandsAt (rx.Ended end) t q = HasNone t.chains × HasRxCause end t q × (done_in q ≡ 0)

pub record RxStands (t : RxTurn) (q : Queue) : Type 0 where
  pub header : 0 < t.header
  pub gathered : q.positions.gathered ≡ length t.chains
  pub stage : RxStandsAt t.stage t q

abbrev pub ReceiveTurnsBegin : Type 0
ReceiveTurnsBegin =
    (mergeable : Bool) (header : ℕ) (q : Queue)
    → 0 < header → IsIdle q.positions → RxStands (rx_begun mergeable header) q

abbrev pub ReceiveTurnsStand : Type 0
ReceiveTurnsStand =
    (t t' : RxTurn) (q q' : Queue) (ms : List RxMoment) → RxStands t q → IsRxRun t q ms t' q' → RxStands t' q'

abbrev pub ReceiveTurnsKeepOrder : Type 0
ReceiveTurnsKeepOrder =
    (t t' : RxTurn) (q q' : Queue) (ms : List RxMoment) (base start : ℕ)
    → RxStands t q → IsInOrder base start q.positions → IsRxRun t q ms t' q' → IsInOrder base start q'.positions
