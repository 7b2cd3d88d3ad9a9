-- This project's own: what ends turns on worked rings, read off their steps, and a line that others change.
use Rattle.std.specs.Prelude.{◌≡◌, ℕ, zero, suc, Bool, true, false, List, [], ◌∷◌, None, Some}
use Rattle.vring_split.specs.declared.fault.RingFault.TheVariants.{Direction}
use Rattle.tap_frame.specs.Frame.{FrameValue}
use Rattle.vring_turns.specs.declared.end.End.TheVariants.{Idle, Short, Again, Stopped}
use Rattle.vring_turns.specs.TxTurn.{TxState, tx_step}
use Rattle.vring_turns.specs.TxRun.{Moment}
use Rattle.vring_turns.specs.RxTurn.{RxState, rx_step}
use Rattle.vring_turns.specs.RxRun.{RxMoment}
use Rattle.vring_turns.specs.RxLine.{Joins, Purges, Cuts, Meets, line_by}
use Rattle.vring_turns.specs.Ends.{tx_ends_by, rx_ends_by}
use Rattle.vring_turns.specs.Example.{queue_on, frame_with}
use Rattle.vring_turns.specs.TxExamples.{tx_start, small_ring, sendable, good}
use Rattle.vring_turns.specs.TxCases.{going_on}
use Rattle.vring_turns.specs.RxExamples.{handed_from, rx_start, receivable}

-- the steps of a turn
abbrev pub tx_moments : ℕ → TxState → List Moment
tx_moments zero s = []
tx_moments (suc n) s =
    elim (tx_step s) [
      | None ↦ []
      | Some r ↦ record { before = s; told = r.1; after = r.0 } ∷ tx_moments n r.0
    ]

abbrev pub rx_moments : ℕ → List FrameValue → RxState → List RxMoment
rx_moments zero frames s = []
rx_moments (suc n) frames s =
    let next = handed_from frames s.turn.stage in
    elim (rx_step next.0 s) [
      | None ↦ []
      | Some r ↦ record { hand = next.0; before = s; told = r.1; after = r.0 } ∷ rx_moments n next.1 r.0
    ]

-- one chain and then none; a bad chain behind a good one; as many bytes as are enough
abbrev pub TransmitEnds : Type 0
TransmitEnds =
    (tx_ends_by false (tx_moments 20 (tx_start (queue_on small_ring) (sendable 1 (good ∷ [])))) ≡ Idle ∷ [])
    × (tx_ends_by false
    (tx_moments 20 (tx_start (queue_on small_ring) (sendable 2 (good ∷ (4096, 26, 2, 0) ∷ []))))
    ≡ Stopped Direction ∷ [])
    × (tx_ends_by false (tx_moments 20 (going_on 10 524262)) ≡ Again ∷ [])

-- the steps of a turn over one frame and a chain of 40 bytes
abbrev pub over_one : Bool → List RxMoment
over_one mergeable = rx_moments 30 (frame_with 0 46 ∷ []) (rx_start mergeable (receivable 1 ((4096, 40, 2, 0) ∷ [])))

-- the chain is too short, and may be followed by others, or may not
abbrev pub ReceiveEnds : Type 0
ReceiveEnds = (rx_ends_by false (over_one true) ≡ Short 72 40 ∷ []) × (rx_ends_by false (over_one false) ≡ Idle ∷ [])

-- of two frames that wait the newest is cut, a third one is sent, and the first one is purged
abbrev pub LineIsCut : Type 0
LineIsCut =
    line_by
    (Meets (Cuts (frame_with 1 0)) ∷ Meets (Joins (frame_with 2 0)) ∷ Meets (Purges (frame_with 0 0)) ∷ [])
    (frame_with 0 0 ∷ frame_with 1 0 ∷ []) ≡ frame_with 0 0 ∷ frame_with 2 0 ∷ []
