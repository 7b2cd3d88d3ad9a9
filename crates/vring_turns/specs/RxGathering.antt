-- VIRTIO 1.2, 2.7 and 5.1.6.3, and this project's own: how receive turns gather chains, on worked rings.
use Rattle.std.specs.Prelude.{◌≡◌, ℕ, true, false, List, [], ◌∷◌, ◌++◌, replicate, None, Some}
use Rattle.guest_mem.specs.Memory.{Contents}
use Rattle.vring_split.specs.declared.layout.Layout.{Layout}
use Rattle.vring_split.specs.declared.segment.Segment.{Segment}
use Rattle.vring_split.specs.declared.fault.RingFault.TheVariants.{AvailJump}
use Rattle.vhost_queue.specs.Queue.{Queue}
use Rattle.tap_ledger.specs.declared.act.Act.{Act}
use Rattle.tap_ledger.specs.declared.act.Act.TheVariants as act
use Rattle.tap_ledger.specs.declared.hand.Hand.TheVariants.{Off, NoMemory}
use Rattle.vring_turns.specs.declared.end.End.TheVariants.{Idle, Short, Stopped}
use Rattle.vring_turns.specs.declared.stage.RxStage.TheVariants as stage
use Rattle.vring_turns.specs.Ring.{Gathered}
use Rattle.vring_turns.specs.RxTurn.{RxTurn, RxState, rx_begun, rx_step}
use Rattle.vring_turns.specs.Example.{memory_with, ring_of, queue_on, with_table, offered_at, number_at, name_of, frame_with}
use Rattle.vring_turns.specs.RxExamples.{rx_steps, rx_start, rx_reported, receivable}

abbrev pub small : Layout
small = ring_of true 4 64 80

-- the state with a memory in which more was offered
abbrev pub with_offer : ℕ → RxState → RxState
with_offer index s = record s {
  memory = record s.memory { bytes = offered_at 64 index (0 ∷ 1 ∷ 2 ∷ 3 ∷ []) s.memory.bytes };
}

abbrev pub forty : ℕ × ℕ × ℕ × ℕ
forty = (4096, 40, 2, 0)

-- a chain comes between the two fetches, and is too short: notices go off, and on again behind it
abbrev pub before_offer : List Act × RxState
before_offer = rx_steps 4 (frame_with 0 46 ∷ []) (rx_start true (receivable 0 (forty ∷ [])))

abbrev pub after_offer : List Act × RxState
after_offer = rx_steps 30 [] (with_offer 1 before_offer.1)

abbrev pub StillTooShort : Type 0
StillTooShort =
    (before_offer.0 ≡ act.Notices false false ∷ act.Hand ∷ act.Nothing ∷ act.Notices true true ∷ [])
    × (after_offer.0
    ≡ act.Fetch 0 0 ∷ act.Notices false false ∷ act.Nothing ∷ act.Notices true true ∷ act.Nothing ∷ act.PutBack ∷ [])
    × (rx_reported after_offer.1 ≡ (0, 0, Some (Short 72 40)))
    × (after_offer.1.queue ≡ queue_on small)
    × (number_at 116 after_offer.1.memory ≡ 1)

-- a chain that is long enough: notices go off, and the frame goes into it
abbrev pub late_chain : List Act × RxState
late_chain =
    rx_steps 30 []
    (with_offer 1 (rx_steps 4 (frame_with 0 46 ∷ []) (rx_start true (receivable 0 ((4096, 72, 2, 0) ∷ [])))).1)

abbrev pub LateChainTakesIt : Type 0
LateChainTakesIt =
    (late_chain.0
    ≡ act.Fetch 0 0 ∷ act.Notices false false ∷ act.Copy 0 (name_of 0) ∷ act.Out (name_of 0) ∷ act.NotReady
    ∷ act.Publish 1 true ∷ [])
    × (rx_reported late_chain.1 ≡ (1, 72, Some Idle))

-- the same without mergeable buffers: the quota is reached at the second fetch, and the frame is out
abbrev pub overrun_late : List Act × RxState
overrun_late =
    rx_steps 30 []
    (with_offer 1 (rx_steps 4 (frame_with 0 46 ∷ []) (rx_start false (receivable 0 (forty ∷ [])))).1)

abbrev pub OverrunAtSecondFetch : Type 0
OverrunAtSecondFetch =
    (overrun_late.0
    ≡ act.Fetch 0 0 ∷ act.Notices false false ∷ act.Out (name_of 0) ∷ act.NotReady ∷ [])
    × (rx_reported overrun_late.1 ≡ (1, 0, Some Idle))
    × (overrun_late.1.queue ≡ queue_on small)

-- a turn that goes on with chains that were gathered before: their segments, and where the queue stands
abbrev pub queue_at : Layout → ℕ → ℕ → Queue
queue_at l next gathered = record (queue_on l) {
  positions = record { next = next; gathered = gathered; done = []; journal = [] };
}

abbrev pub none_long : ℕ → List Segment
none_long n = replicate n (record { addr = 0; len = 0; write = true })

-- one of ten bytes, and others of none
abbrev pub ten_long : ℕ → List Segment
ten_long n = record { addr = 4096; len = 10; write = true } ∷ none_long n

abbrev pub gathering : List Gathered → RxTurn
gathering chains =
    record (rx_begun true 12) { held = Some (frame_with 0 46); chains = chains; stage = stage.Fetch }

abbrev pub wide : Layout
wide = ring_of true 8 128 152

-- a third chain at the third position, whose descriptors are linked
abbrev pub third : List (ℕ × ℕ × ℕ × ℕ) → Contents
third descs = memory_with (with_table 2 descs (offered_at 128 3 (0 ∷ 1 ∷ 2 ∷ []) []))

-- 1,022 segments in two chains, and this third one
abbrev pub two_gathered : Contents → RxState
two_gathered m = record {
  turn = gathering (record { head = 0; segments = none_long 1000 } ∷ record { head = 1; segments = ten_long 21 } ∷ []);
  queue = queue_at wide 2 2;
  memory = m;
}

abbrev pub crowded_turn : ℕ → List Act × RxState
crowded_turn n =
    rx_steps n [] (two_gathered (third ((8192, 40, 3, 3) ∷ (8192, 40, 3, 4) ∷ (8192, 40, 2, 0) ∷ [])))

-- three segments more don't fit: the frame is an overrun by what the two chains have, and both stay available
abbrev pub CrowdedAfterTwo : Type 0
CrowdedAfterTwo =
    ((crowded_turn 30).0 ≡ act.Crowded ∷ act.Out (name_of 0) ∷ act.NotReady ∷ [])
    × ((crowded_turn 1).1.turn.stage ≡ stage.Discard 10)
    × (rx_reported (crowded_turn 30).1 ≡ (1, 0, Some Idle))
    × ((crowded_turn 30).1.queue ≡ queue_on wide)

-- the same where the third chain comes between the two fetches: notices go off before the frame is out
abbrev pub crowded_late : List Act × RxState
crowded_late =
    let descs = (8192, 40, 3, 3) ∷ (8192, 40, 3, 4) ∷ (8192, 40, 2, 0) ∷ [] in
    let first = rx_steps 2 [] (two_gathered
    (memory_with (with_table 2 descs (offered_at 128 2 (0 ∷ 1 ∷ 2 ∷ []) [])))) in
    let rest = rx_steps 30 [] (record first.1 { memory = third descs }) in
    (first.0 ++ rest.0, rest.1)

abbrev pub CrowdedAtSecondFetch : Type 0
CrowdedAtSecondFetch =
    (crowded_late.0
    ≡ act.Nothing ∷ act.Notices true true ∷ act.Crowded ∷ act.Notices false false ∷ act.Out (name_of 0)
    ∷ act.NotReady ∷ [])
    × (rx_reported crowded_late.1 ≡ (1, 0, Some Idle))
    × (crowded_late.1.queue ≡ queue_on wide)

-- two segments more do
abbrev pub full_turn : List Act × RxState
full_turn = rx_steps 3 [] (two_gathered (third ((8192, 40, 3, 3) ∷ (12288, 40, 2, 0) ∷ [])))

abbrev pub JustFits : Type 0
JustFits =
    (full_turn.0 ≡ act.Fetch 2 2 ∷ act.Copy 0 (name_of 0) ∷ act.Out (name_of 0) ∷ [])
    × (full_turn.1.queue.positions.done
    ≡ record { head = 0; len = 0 } ∷ record { head = 1; len = 10 } ∷ record { head = 2; len = 62 } ∷ [])
    × (full_turn.1.turn.handled ≡ 3)
    × (number_at 8192 full_turn.1.memory ≡ 3)

-- the 1,024th chain of a frame doesn't suffice
abbrev pub last_chain : ℕ → List Act × RxState
last_chain n = rx_steps n [] (record {
  turn = gathering (replicate 1023 (record { head = 0; segments = none_long 1 }));
  queue = queue_at small 1023 1023;
  memory = receivable 1024 (forty ∷ forty ∷ forty ∷ (4096, 10, 2, 0) ∷ []);
})

abbrev pub QuotaOverruns : Type 0
QuotaOverruns =
    ((last_chain 2).0 ≡ act.Fetch 1023 3 ∷ act.Out (name_of 0) ∷ [])
    × ((last_chain 1).1.turn.stage ≡ stage.Discard 10)
    × ((last_chain 1).1.queue ≡ queue_on small)

-- an index that jumps stops the ring; a queue of frames that is off makes no step
abbrev pub jumped : List Act × RxState
jumped = rx_steps 30 (frame_with 0 0 ∷ []) (rx_start true (receivable 5 (forty ∷ [])))

abbrev pub JumpStops : Type 0
JumpStops =
    (jumped.0 ≡ act.Notices false false ∷ act.Hand ∷ act.Halt 1 ∷ act.PutBack ∷ [])
    × (rx_reported jumped.1 ≡ (0, 0, Some (Stopped AvailJump)))
    × (rx_step Off (rx_steps 1 [] (rx_start true (receivable 0 []))).1 ≡ None)
    × (rx_step NoMemory (rx_steps 1 [] (rx_start true (receivable 0 []))).1 ≡ None)
