-- VIRTIO 1.2, 2.7 and 5.1.6, and this project's own: more transmit turns, on worked rings.
use Rattle.std.specs.Prelude.{◌≡◌, ℕ, ◌+◌, true, false, List, [], ◌∷◌, map, Some}
use Rattle.guest_mem.specs.Memory.{Contents, with_bytes}
use Rattle.vring_split.specs.declared.layout.Layout.{Layout}
use Rattle.vring_split.specs.declared.fault.RingFault.TheVariants.{Direction}
use Rattle.tap_frame.specs.declared.reading.BadFrame.TheVariants.{ShortHdr, HdrBeyond, ShortEther, HdrShort, TooLong}
use Rattle.tap_ledger.specs.declared.act.Act.{Act}
use Rattle.tap_ledger.specs.declared.act.Act.TheVariants.{Fetch, Nothing, Halt, Copy, Refused, Given, Publish, Notices}
use Rattle.vring_turns.specs.declared.end.End.TheVariants.{Idle, Again, Stopped}
use Rattle.vring_turns.specs.declared.stage.TxStage.TheVariants as stage
use Rattle.vring_turns.specs.TxTurn.{TxState, tx_begun, tx_step}
use Rattle.vring_turns.specs.Example.{memory_with, ring_of, queue_on, with_table, offered_at, number_at, ethernet, name_of, frame_with}
use Rattle.vring_turns.specs.TxExamples.{tx_steps, tx_start, tx_reported, small_ring, sendable, good}

-- the state with a memory in which more was offered
abbrev pub with_offer : ℕ → TxState → TxState
with_offer index s = record s {
  memory = record s.memory { bytes = offered_at 64 index (0 ∷ 1 ∷ 2 ∷ 3 ∷ []) s.memory.bytes };
}

-- a bad chain comes between the two fetches: notices go off, and what is done is published behind that
abbrev pub before_bad : List Act × TxState
before_bad = tx_steps 6 (tx_start (queue_on small_ring) (sendable 1 (good ∷ (4096, 26, 2, 0) ∷ [])))

abbrev pub after_bad : List Act × TxState
after_bad = tx_steps 20 (with_offer 2 before_bad.1)

abbrev pub HaltAtSecondFetch : Type 0
HaltAtSecondFetch =
    (before_bad.0
    ≡ Notices false false ∷ Fetch 0 0 ∷ Copy 0 (name_of 0) ∷ Given (name_of 0) ∷ Nothing ∷ Notices true true ∷ [])
    × (after_bad.0 ≡ Halt 10 ∷ Notices false false ∷ Publish 1 true ∷ [])
    × (tx_reported after_bad.1 ≡ (1, 26, Some (Stopped Direction)))
    × (after_bad.1.queue.stopped ≡ Some Direction) × (after_bad.1.queue.positions.next ≡ 1)
    × (map (λ addr. number_at addr after_bad.1.memory) (82 ∷ 116 ∷ []) ≡ 1 ∷ 1 ∷ [])

-- a good chain comes between them: the turn goes on
abbrev pub after_good : List Act × TxState
after_good =
    tx_steps 20 (with_offer 2 (tx_steps 6 (tx_start (queue_on small_ring) (sendable 1 (good ∷ good ∷ [])))).1)

abbrev pub ChainAtSecondFetch : Type 0
ChainAtSecondFetch =
    (after_good.0
    ≡ Fetch 1 1 ∷ Notices false false ∷ Copy 1 (name_of 1) ∷ Given (name_of 1)
    ∷ Nothing ∷ Notices true true ∷ Nothing ∷ Publish 2 true ∷ [])
    × (tx_reported after_good.1 ≡ (2, 52, Some Idle))

-- a chain between two good ones is refused: it is done and counts, and takes no part
abbrev pub refused_between : List Act × TxState
refused_between =
    tx_steps 30 (tx_start (queue_on small_ring) (sendable 3 (good ∷ (4096, 25, 0, 0) ∷ good ∷ [])))

abbrev pub RefusedBetween : Type 0
RefusedBetween =
    (refused_between.0
    ≡ Notices false false ∷ Fetch 0 0 ∷ Copy 0 (name_of 0) ∷ Given (name_of 0) ∷ Fetch 1 1 ∷ Refused 1 ShortEther
    ∷ Fetch 2 2 ∷ Copy 2 (name_of 1) ∷ Given (name_of 1)
    ∷ Nothing ∷ Notices true true ∷ Nothing ∷ Publish 3 true ∷ [])
    × (tx_reported refused_between.1 ≡ (3, 77, Some Idle))
    × (refused_between.1.host.given ≡ frame_with 0 0 ∷ frame_with 1 0 ∷ [])
    × (refused_between.1.queue.positions.journal ≡ (0, 0, 0) ∷ (1, 1, 0) ∷ (2, 2, 0) ∷ [])

-- Without event indexes.

abbrev pub flagged : Layout
flagged = record small_ring { event = false }

-- the used ring's flags, and the available ring's, before a turn over one chain
abbrev pub with_flags : ℕ → ℕ → ℕ → Contents
with_flags used avail index =
    let m = sendable index (good ∷ []) in
    memory_with
    (with_bytes (with_bytes m.bytes 80 (used ∷ 128 ∷ [])) 64 (avail ∷ 0 ∷ []))

abbrev pub flags_at : ℕ → Contents → ℕ
flags_at n m = number_at 80 (tx_steps n (tx_start (queue_on flagged) m)).1.memory

-- NO_NOTIFY alone changes, and is written though it stands; avail_event stays
abbrev pub NoNotifyAlone : Type 0
NoNotifyAlone =
    ((tx_steps 20 (tx_start (queue_on flagged) (with_flags 4 0 0))).0
    ≡ Notices false true ∷ Nothing ∷ Notices true true ∷ Nothing ∷ [])
    × (flags_at 1 (with_flags 4 0 0) ≡ 32773) × (flags_at 3 (with_flags 4 0 0) ≡ 32772)
    × (flags_at 1 (with_flags 5 0 0) ≡ 32773) × (flags_at 3 (with_flags 5 0 0) ≡ 32772)
    × (number_at 116 (tx_steps 20 (tx_start (queue_on flagged) (with_flags 4 0 1))).1.memory ≡ 0)

-- a turn with these flags of the available ring
abbrev pub tx_restarted : ℕ → TxState
tx_restarted avail = tx_start (queue_on flagged) (with_flags 0 avail 1)

-- NO_INTERRUPT says that no notice is needed, and no other bit does
abbrev pub NoInterrupt : Type 0
NoInterrupt =
    ((tx_steps 7 (tx_restarted 1)).0
    ≡ Notices false true ∷ Fetch 0 0 ∷ Copy 0 (name_of 0) ∷ Given (name_of 0)
    ∷ Nothing ∷ Notices true true ∷ Nothing ∷ [])
    × ((tx_step (tx_steps 7 (tx_restarted 1)).1) ≡ Some ((tx_steps 8 (tx_restarted 1)).1, Publish 1 false))
    × ((tx_step (tx_steps 7 (tx_restarted 254)).1) ≡ Some ((tx_steps 8 (tx_restarted 254)).1, Publish 1 true))

-- used_event is read after the used entries are written: here the first of them lies over it, and makes a 0 of the 5
-- that the driver left there
abbrev pub laid_over : Layout
laid_over = ring_of false 4 64 72

abbrev pub overwritten : List Act × TxState
overwritten = tx_steps 20 (tx_start (queue_on laid_over) (memory_with
    (with_bytes (with_bytes (with_table 0 (good ∷ []) (offered_at 64 1 (0 ∷ []) [])) 76 (5 ∷ []))
    (4096 + 12) ethernet)))

abbrev pub NoticeIsJudgedLast : Type 0
NoticeIsJudgedLast =
    (overwritten.0
    ≡ Notices false false ∷ Fetch 0 0 ∷ Copy 0 (name_of 0) ∷ Given (name_of 0)
    ∷ Nothing ∷ Notices true true ∷ Nothing ∷ Publish 1 true ∷ [])
    × (number_at 76 overwritten.1.memory ≡ 0)

-- Enough.

abbrev pub going_on : ℕ → ℕ → TxState
going_on packets bytes = record (tx_start (queue_on small_ring) (sendable 1 (good ∷ []))) {
  turn = record (tx_begun 12 (name_of 0)) { packets = packets; bytes = bytes; stage = stage.Fetch };
}

abbrev pub EnoughBytes : Type 0
EnoughBytes =
    ((tx_steps 20 (going_on 10 524262)).0
    ≡ Fetch 0 0 ∷ Copy 0 (name_of 0) ∷ Given (name_of 0) ∷ Publish 1 true ∷ [])
    × (tx_reported (tx_steps 20 (going_on 10 524262)).1 ≡ (11, 524288, Some Again))
    × (tx_reported (tx_steps 20 (going_on 10 524261)).1 ≡ (11, 524287, Some Idle))
    × (tx_reported (tx_steps 20 (going_on 255 26)).1 ≡ (256, 52, Some Again))

-- Headers.

abbrev pub ten_start : Contents → TxState
ten_start m = record (tx_start (queue_on small_ring) m) { turn = tx_begun 10 (name_of 0) }

-- 24 bytes are a frame behind a header of 10, of which ten are kept
abbrev pub ten_headed : Contents
ten_headed = memory_with
    (with_bytes (with_table 0 ((4096, 24, 0, 0) ∷ []) (offered_at 64 1 (0 ∷ []) []))
    4096 (0 ∷ 9 ∷ 14 ∷ 0 ∷ 1 ∷ 2 ∷ 3 ∷ 4 ∷ 5 ∷ 6 ∷ 2 ∷ 0 ∷ 0 ∷ 0 ∷ 0 ∷ 1 ∷ 2 ∷ 0 ∷ 0 ∷ 0 ∷ 0 ∷ 2 ∷ 8 ∷ 0 ∷ []))

abbrev pub TenBytesOfHeader : Type 0
TenBytesOfHeader =
    (tx_reported (tx_steps 20 (ten_start ten_headed)).1 ≡ (1, 24, Some Idle))
    × ((tx_steps 20 (ten_start ten_headed)).1.host.given
    ≡ record (frame_with 0 0) { hdr = 0 ∷ 9 ∷ 14 ∷ 0 ∷ 1 ∷ 2 ∷ 3 ∷ 4 ∷ 5 ∷ 6 ∷ [] } ∷ [])

-- 11 bytes are no header of 12; hdr_len 15 lies behind 14 bytes; hdr_len 13 is too short a reach
abbrev pub refusal : ℕ → ℕ → List Act × TxState
refusal len hdr_len = tx_steps 3 (tx_start (queue_on small_ring) (memory_with
    (with_bytes (with_table 0 ((4096, len, 0, 0) ∷ []) (offered_at 64 1 (0 ∷ []) [])) 4098 (hdr_len ∷ 0 ∷ []))))

abbrev pub Refusals : Type 0
Refusals =
    ((refusal 11 0).0 ≡ Notices false false ∷ Fetch 0 0 ∷ Refused 0 ShortHdr ∷ [])
    × ((refusal 26 15).0 ≡ Notices false false ∷ Fetch 0 0 ∷ Refused 0 HdrBeyond ∷ [])
    × ((refusal 26 13).0 ≡ Notices false false ∷ Fetch 0 0 ∷ Refused 0 HdrShort ∷ [])
    × ((refusal 0 0).0 ≡ Notices false false ∷ Fetch 0 0 ∷ Refused 0 ShortHdr ∷ [])
    × ((refusal 0 0).1.turn.bytes ≡ 0) × ((refusal 0 0).1.turn.packets ≡ 1)

-- a chain of 65,548 bytes is too long, and counts with 65,547, as a longer one does
abbrev pub long_chain : ℕ → List Act × TxState
long_chain len = tx_steps 3 (tx_start (queue_on small_ring)
    (memory_with (with_table 0 ((0, 65536, 1, 1) ∷ (0, len, 0, 0) ∷ []) (offered_at 64 1 (0 ∷ []) []))))

abbrev pub LongIsRefused : Type 0
LongIsRefused =
    ((long_chain 12).0 ≡ Notices false false ∷ Fetch 0 0 ∷ Refused 0 TooLong ∷ [])
    × ((long_chain 12).1.turn.bytes ≡ 65547)
    × ((long_chain 40000).1.turn.bytes ≡ 65547)
