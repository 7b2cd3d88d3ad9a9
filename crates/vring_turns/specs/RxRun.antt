-- This project's own: what a whole receive turn did, over the list of its steps.
use Rattle.std.specs.Prelude.{◌≡◌, ℕ, ◌+◌, List, [], ◌∷◌, ◌++◌, length, map, Option, None, Some}
use Rattle.tap_frame.specs.Frame.{FrameValue}
use Rattle.tap_ledger.specs.declared.act.Act.{Act}
use Rattle.tap_ledger.specs.declared.hand.Hand.{Hand}
use Rattle.vhost_queue.specs.declared.done.Done.{Done}
use Rattle.vhost_queue.specs.Queue.{Queue}
use Rattle.vring_turns.specs.declared.stage.RxStage.{RxStage}
use Rattle.vring_turns.specs.declared.stage.RxStage.TheVariants as stage
use Rattle.vring_turns.specs.Ring.{Gathered}
use Rattle.vring_turns.specs.Stage.{need_at}
use Rattle.vring_turns.specs.ReceiveImage.{need_of, shares}
use Rattle.vring_turns.specs.RxTurn.{RxTurn, RxState, rx_step}
use Rattle.vring_turns.specs.TxRun.{chains_told}

-- a step of a turn: what the queue of frames would hand out, what it began with, what it told, and what it left
pub record RxMoment : Type 0 where
  pub hand : Hand
  pub before : RxState
  pub told : Act
  pub after : RxState

-- steps of one turn on one queue, each of them the one that comes next; between two of them others may write into the
-- memory
abbrev pub IsRxRun : RxTurn → Queue → List RxMoment → RxTurn → Queue → Type 0
IsRxRun t q [] t' q' = (t' ≡ t) × (q' ≡ q)
IsRxRun t q (m ∷ ms) t' q' =
    (m.before.turn ≡ t) × (m.before.queue ≡ q) × (rx_step m.hand m.before ≡ Some (m.after, m.told))
    × IsRxRun m.after.turn m.after.queue ms t' q'

-- the chains that a step is done with, each with the bytes that it got: those into which a frame is copied
abbrev pub taken_by : ℕ → List Gathered → Option FrameValue → List Done
taken_by size chains None = []
taken_by size chains (Some frame) = shares chains (need_of size frame)

abbrev pub done_at : RxStage → RxTurn → List Done
done_at stage.Copy t = taken_by t.header t.chains t.held
done_at other t = []

-- the packets that a step counts, and their bytes: a frame that leaves the line, as received with what it needs, or as
-- an overrun with none
abbrev pub packets_at : RxStage → ℕ
packets_at stage.Out = 1
packets_at (stage.Discard had) = 1
packets_at other = 0

abbrev pub bytes_at : RxStage → RxTurn → ℕ
bytes_at stage.Out t = need_at t.header t.held
bytes_at other t = 0

-- the same over steps
abbrev pub done_by : List RxMoment → List Done
done_by [] = []
done_by (m ∷ ms) = done_at m.before.turn.stage m.before.turn ++ done_by ms

abbrev pub packets_by : List RxMoment → ℕ
packets_by [] = 0
packets_by (m ∷ ms) = packets_at m.before.turn.stage + packets_by ms

abbrev pub bytes_by : List RxMoment → ℕ
bytes_by [] = 0
bytes_by (m ∷ ms) = bytes_at m.before.turn.stage m.before.turn + bytes_by ms

-- packets and bytes are counted; the chains into which frames were copied are published or done with what they got, in
-- the order of their positions, and no other chain is: what was gathered for a frame that was put back or discarded is
-- not
pub record RxDid (t t' : RxTurn) (q q' : Queue) (done : List Done) (packets bytes : ℕ) : Type 0 where
  pub header : t'.header ≡ t.header
  pub packets_are : t'.packets ≡ t.packets + packets
  pub bytes_are : t'.bytes ≡ t.bytes + bytes
  pub handled : t'.handled ≡ t.handled + length done
  pub chains : chains_told q' ≡ chains_told q ++ map (λ d. (d.head, d.len)) done

-- every run does so
abbrev pub ReceiveTurnsDo : Type 0
ReceiveTurnsDo =
    (t t' : RxTurn) (q q' : Queue) (ms : List RxMoment)
    → IsRxRun t q ms t' q' → RxDid t t' q q' (done_by ms) (packets_by ms) (bytes_by ms)
