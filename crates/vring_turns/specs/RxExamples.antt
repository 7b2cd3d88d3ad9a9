-- VIRTIO 1.2, 2.7 and 5.1.6, and this project's own: receive turns on worked rings.
use Rattle.std.specs.Prelude.{◌≡◌, ℕ, zero, suc, ◌+◌, Bool, true, false, List, [], ◌∷◌, Option, None, Some}
use Rattle.guest_mem.specs.Memory.{Contents, bytes_from}
use Rattle.vring_split.specs.declared.fault.RingFault.TheVariants.{IndirectLength}
use Rattle.tap_frame.specs.Frame.{FrameValue}
use Rattle.tap_ledger.specs.declared.act.Act.{Act}
use Rattle.tap_ledger.specs.declared.act.Act.TheVariants as act
use Rattle.tap_ledger.specs.declared.hand.Hand.{Hand}
use Rattle.tap_ledger.specs.declared.hand.Hand.TheVariants.{Got, NotReady}
use Rattle.vring_turns.specs.declared.end.End.{End}
use Rattle.vring_turns.specs.declared.end.End.TheVariants.{Idle, Short, Stopped}
use Rattle.vring_turns.specs.declared.stage.RxStage.{RxStage}
use Rattle.vring_turns.specs.declared.stage.RxStage.TheVariants as stage
use Rattle.vring_turns.specs.RxTurn.{RxState, rx_begun, rx_step}
use Rattle.vring_turns.specs.Example.{memory_with, ring_of, queue_on, with_table, offered_at, number_at, name_of, frame_with}

-- what a queue of these frames hands out, and those behind it; a frame that is put back isn't followed here
abbrev pub handed_from : List FrameValue → RxStage → Hand × List FrameValue
handed_from [] s = (NotReady 0, [])
handed_from (f ∷ fs) stage.Hand = (Got f, fs)
handed_from (f ∷ fs) other = (Got f, f ∷ fs)

-- so many steps over these frames, or fewer where the turn is over: what they tell, and what they leave
abbrev pub rx_steps : ℕ → List FrameValue → RxState → List Act × RxState
rx_steps zero frames s = ([], s)
rx_steps (suc n) frames s =
    let next = handed_from frames s.turn.stage in
    elim (rx_step next.0 s) [
      | None ↦ ([], s)
      | Some r ↦ let rest = rx_steps n next.1 r.0 in (r.1 ∷ rest.0, rest.1)
    ]

abbrev pub rx_start : Bool → Contents → RxState
rx_start mergeable m =
    record { turn = rx_begun mergeable 12; queue = queue_on (ring_of true 4 64 80); memory = m }

abbrev pub rx_reported : RxState → ℕ × ℕ × Option End
rx_reported s = (s.turn.packets, s.turn.bytes, elim s.turn.stage [ stage.Ended end ↦ Some end | _ ↦ None ])

-- writable descriptors, each its own chain
abbrev pub receivable : ℕ → List (ℕ × ℕ × ℕ × ℕ) → Contents
receivable index descs = memory_with (with_table 0 descs (offered_at 64 index (0 ∷ 1 ∷ 2 ∷ 3 ∷ []) []))

-- a frame of 60 bytes goes into two chains of 40
abbrev pub two_chains : List Act × RxState
two_chains =
    rx_steps 30 (frame_with 0 46 ∷ []) (rx_start true (receivable 2 ((4096, 40, 2, 0) ∷ (8192, 40, 2, 0) ∷ [])))

abbrev pub TwoChainsTakeIt : Type 0
TwoChainsTakeIt =
    (two_chains.0
    ≡ act.Notices false false ∷ act.Hand ∷ act.Fetch 0 0 ∷ act.Fetch 1 1 ∷ act.Copy 0 (name_of 0) ∷ act.Out (name_of 0)
    ∷ act.NotReady ∷ act.Publish 2 true ∷ [])
    × (rx_reported two_chains.1 ≡ (1, 72, Some Idle))
    × (two_chains.1.queue.positions.journal ≡ (0, 0, 40) ∷ (1, 1, 32) ∷ [])
    × (number_at (4096 + 10) two_chains.1.memory ≡ 2)
    × (bytes_from two_chains.1.memory.bytes (4096 + 12) 14 ≡ 2 ∷ 0 ∷ 0 ∷ 0 ∷ 0 ∷ 1 ∷ 2 ∷ 0 ∷ 0 ∷ 0 ∷ 0 ∷ 2 ∷ 8 ∷ 0 ∷ [])

-- one chain of 40 is too short, and nothing is published
abbrev pub one_chain : List Act × RxState
one_chain = rx_steps 30 (frame_with 0 46 ∷ []) (rx_start true (receivable 1 ((4096, 40, 2, 0) ∷ [])))

abbrev pub OneChainIsShort : Type 0
OneChainIsShort =
    (one_chain.0
    ≡ act.Notices false false ∷ act.Hand ∷ act.Fetch 0 0 ∷ act.Nothing ∷ act.Notices true true ∷ act.Nothing
    ∷ act.PutBack ∷ [])
    × (rx_reported one_chain.1 ≡ (0, 0, Some (Short 72 40)))
    × (one_chain.1.queue ≡ queue_on (ring_of true 4 64 80))
    × (number_at 82 one_chain.1.memory ≡ 0)
    × (number_at 116 one_chain.1.memory ≡ 1)

-- without mergeable buffers it is an overrun, and the chain stays available
abbrev pub overrun_turn : List Act × RxState
overrun_turn = rx_steps 30 (frame_with 0 46 ∷ []) (rx_start false (receivable 1 ((4096, 40, 2, 0) ∷ [])))

abbrev pub OneChainOverruns : Type 0
OneChainOverruns =
    (overrun_turn.0
    ≡ act.Notices false false ∷ act.Hand ∷ act.Fetch 0 0 ∷ act.Out (name_of 0) ∷ act.NotReady ∷ [])
    × (rx_reported overrun_turn.1 ≡ (1, 0, Some Idle))
    × (overrun_turn.1.queue ≡ queue_on (ring_of true 4 64 80))
    × ((rx_steps 3 (frame_with 0 46 ∷ []) (rx_start false (receivable 1 ((4096, 40, 2, 0) ∷ [])))).1.turn.stage
    ≡ stage.Discard 40)

-- a table of 24 bytes stops the ring, and the frame is put back
abbrev pub stopped_turn : List Act × RxState
stopped_turn = rx_steps 30 (frame_with 0 46 ∷ []) (rx_start true (receivable 1 ((4096, 24, 4, 0) ∷ [])))

abbrev pub BadTableStops : Type 0
BadTableStops =
    (stopped_turn.0 ≡ act.Notices false false ∷ act.Hand ∷ act.Halt 7 ∷ act.PutBack ∷ [])
    × (rx_reported stopped_turn.1 ≡ (0, 0, Some (Stopped IndirectLength)))
    × (stopped_turn.1.queue.stopped ≡ Some IndirectLength)

-- frames and no chain: the first one is put back, and lacks all that it needs
abbrev pub NoChainIsShort : Type 0
NoChainIsShort =
    rx_reported (rx_steps 30 (frame_with 0 46 ∷ frame_with 1 46 ∷ []) (rx_start true (receivable 0 []))).1
    ≡ (0, 0, Some (Short 72 0))
