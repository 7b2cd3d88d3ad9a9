-- This project's own: what a turn has ready for its next step, beside how it and its ring stand, and that there is one
-- until it is over.
use Rattle.std.specs.Prelude.{◌≡◌, ℕ, ◌<◌, ◌≤◌, Bool, true, false, List, length, is_some}
use Rattle.tap_frame.specs.declared.name.Name.{Name}
use Rattle.tap_ledger.specs.declared.hand.Hand.{Hand}
use Rattle.tap_ledger.specs.declared.hand.Hand.TheVariants.{Got, NotReady, Off, NoMemory}
use Rattle.vhost_queue.specs.Queue.{Queue}
use Rattle.vring_turns.specs.Ring.{room_in, done_in}
use Rattle.vring_turns.specs.Stage.{is_giving, tx_is_publishing, tx_is_over, has_in_hand, need_at, is_asking, copies_at, rx_is_publishing, rx_is_over}
use Rattle.vring_turns.specs.TxTurn.{TxTurn, TxState, tx_begun, tx_step}
use Rattle.vring_turns.specs.TxRun.{Moment, IsTxRun, HoldsRightly}
use Rattle.vring_turns.specs.RxTurn.{RxTurn, RxState, rx_begun, rx_step, quota}
use Rattle.vring_turns.specs.RxRun.{RxMoment, IsRxRun}
use Rattle.vring_turns.specs.Standing.{TxStands, RxStands}

-- Transmit.

-- a frame is held exactly where one is given next, and something is done where it is published next
pub record TxReady (t : TxTurn) (q : Queue) : Type 0 where
  pub held : HoldsRightly t
  pub done : tx_is_publishing t.stage ≡ true → 0 < done_in q

-- a turn that begins is ready
abbrev pub TransmitTurnsBeginReady : Type 0
TransmitTurnsBeginReady = (header : ℕ) (first : Name) (q : Queue) → TxReady (tx_begun header first) q

-- and every run of its steps keeps it so
abbrev pub TransmitTurnsStayReady : Type 0
TransmitTurnsStayReady =
    (t t' : TxTurn) (q q' : Queue) (ms : List Moment) → TxReady t q → IsTxRun t q ms t' q' → TxReady t' q'

-- until it is over there is a next step, where the host has room for the frame that is given
abbrev pub TransmitTurnsGoOn : Type 0
TransmitTurnsGoOn =
    (s : TxState)
    → TxStands s.turn s.queue → TxReady s.turn s.queue → tx_is_over s.turn.stage ≡ false
    → (is_giving s.turn.stage ≡ true → 0 < s.host.room)
    → is_some (tx_step s) ≡ true

-- Receive.

-- a frame is held exactly at the stages with one; no more chains are gathered than it may go into, and where it is copied
-- next, they hold it; and something is done where it is published next
pub record RxReady (t : RxTurn) (q : Queue) : Type 0 where
  pub held : is_some t.held ≡ has_in_hand t.stage
  pub most : length t.chains ≤ quota t.mergeable
  pub enough : copies_at t.stage ≡ true → need_at t.header t.held ≤ room_in t.chains
  pub done : rx_is_publishing t.stage ≡ true → 0 < done_in q

abbrev pub ReceiveTurnsBeginReady : Type 0
ReceiveTurnsBeginReady = (mergeable : Bool) (header : ℕ) (q : Queue) → RxReady (rx_begun mergeable header) q

abbrev pub ReceiveTurnsStayReady : Type 0
ReceiveTurnsStayReady =
    (t t' : RxTurn) (q q' : Queue) (ms : List RxMoment)
    → RxStands t q → RxReady t q → IsRxRun t q ms t' q' → RxReady t' q'

-- a step tells what the queue of frames handed out: a frame, or that none was ready
abbrev pub is_told : Hand → Bool
is_told (Got frame) = true
is_told (NotReady place) = true
is_told Off = false
is_told NoMemory = false

-- until it is over there is a next step, where a frame that is looked for is handed out or isn't ready
abbrev pub ReceiveTurnsGoOn : Type 0
ReceiveTurnsGoOn =
    (h : Hand) (s : RxState)
    → RxReady s.turn s.queue → rx_is_over s.turn.stage ≡ false
    → (is_asking s.turn.stage ≡ true → is_told h ≡ true)
    → is_some (rx_step h s) ≡ true
