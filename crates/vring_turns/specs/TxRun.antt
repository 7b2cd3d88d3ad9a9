-- This project's own: what a whole transmit turn did, over the list of its steps.
use Rattle.std.specs.Prelude.{◌≡◌, ℕ, ◌+◌, List, [], ◌∷◌, ◌++◌, length, map, is_some, Some}
use Rattle.std.specs.Option.{option_to_list}
use Rattle.tap_frame.specs.Frame.{FrameValue}
use Rattle.tap_ledger.specs.declared.act.Act.{Act}
use Rattle.vhost_queue.specs.Queue.{Queue}
use Rattle.vring_turns.specs.declared.stage.TxStage.{TxStage}
use Rattle.vring_turns.specs.declared.stage.TxStage.TheVariants.{Copy, Give}
use Rattle.vring_turns.specs.Ring.{Gathered}
use Rattle.vring_turns.specs.TransmitBytes.{counted}
use Rattle.vring_turns.specs.Stage.{is_giving}
use Rattle.vring_turns.specs.TxTurn.{TxTurn, TxState, tx_step}

-- a step of a turn: what it began with, what it told, and what it left
pub record Moment : Type 0 where
  pub before : TxState
  pub told : Act
  pub after : TxState

-- steps of one turn on one queue, each of them the one that comes next; between two of them others may write into the
-- memory and give to the host
abbrev pub IsTxRun : TxTurn → Queue → List Moment → TxTurn → Queue → Type 0
IsTxRun t q [] t' q' = (t' ≡ t) × (q' ≡ q)
IsTxRun t q (m ∷ ms) t' q' =
    (m.before.turn ≡ t) × (m.before.queue ≡ q) × (tx_step m.before ≡ Some (m.after, m.told))
    × IsTxRun m.after.turn m.after.queue ms t' q'

-- the chain whose bytes a step reads
abbrev pub first_chain : List Gathered → List Gathered
first_chain [] = []
first_chain (c ∷ cs) = c ∷ []

abbrev pub reads_at : TxStage → TxState → List Gathered
reads_at Copy s = first_chain s.turn.chains
reads_at other s = []

-- the same over steps, in their order
abbrev pub read_by : List Moment → List Gathered
read_by [] = []
read_by (m ∷ ms) = reads_at m.before.turn.stage m.before ++ read_by ms

-- for how many bytes chains count
abbrev pub counted_in : ℕ → List Gathered → ℕ
counted_in size [] = 0
counted_in size (c ∷ cs) = counted size c + counted_in size cs

-- head and length of each chain that was published, and then of each that is done
abbrev pub chains_told : Queue → List (ℕ × ℕ)
chains_told q = map (λ e. (e.1, e.2)) q.positions.journal ++ map (λ d. (d.head, d.len)) q.positions.done

-- each chain that was read is a packet of its bytes, and is done with length 0, in the order in which they were read
pub record TxDid (t t' : TxTurn) (q q' : Queue) (read : List Gathered) : Type 0 where
  pub header : t'.header ≡ t.header
  pub packets : t'.packets ≡ t.packets + length read
  pub bytes : t'.bytes ≡ t.bytes + counted_in t.header read
  pub chains : chains_told q' ≡ chains_told q ++ map (λ c. (c.head, 0)) read

-- every run does so
abbrev pub TransmitTurnsDo : Type 0
TransmitTurnsDo =
    (t t' : TxTurn) (q q' : Queue) (ms : List Moment) → IsTxRun t q ms t' q' → TxDid t t' q q' (read_by ms)

-- Frames.

-- the frame that a step accepts, and the one that it gives
abbrev pub accepts_at : TxStage → TxState → List FrameValue
accepts_at Copy after = option_to_list after.turn.held
accepts_at other after = []

abbrev pub gives_at : TxStage → TxState → List FrameValue
gives_at Give before = option_to_list before.turn.held
gives_at other before = []

abbrev pub accepted_by : List Moment → List FrameValue
accepted_by [] = []
accepted_by (m ∷ ms) = accepts_at m.before.turn.stage m.after ++ accepted_by ms

abbrev pub given_by : List Moment → List FrameValue
given_by [] = []
given_by (m ∷ ms) = gives_at m.before.turn.stage m.before ++ given_by ms

-- a turn holds a frame where it is to give one, and else none
abbrev pub HoldsRightly : TxTurn → Type 0
HoldsRightly t = is_some t.held ≡ is_giving t.stage

-- what was held and what was accepted was given, in this order, or is held; and a turn that held rightly does
pub record PassesFrames (t t' : TxTurn) (accepted given : List FrameValue) : Type 0 where
  pub frames : given ++ option_to_list t'.held ≡ option_to_list t.held ++ accepted
  pub rightly : HoldsRightly t'

abbrev pub TransmitTurnsPass : Type 0
TransmitTurnsPass =
    (t t' : TxTurn) (q q' : Queue) (ms : List Moment)
    → HoldsRightly t → IsTxRun t q ms t' q' → PassesFrames t t' (accepted_by ms) (given_by ms)
