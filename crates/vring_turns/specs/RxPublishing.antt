-- VIRTIO 1.2, 2.7 and 5.1.6.3, and this project's own: what receive turns publish and when they end, on worked rings.
use Rattle.std.specs.Prelude.{◌≡◌, ℕ, ◌+◌, true, false, List, [], ◌∷◌, replicate, drop, Some}
use Rattle.guest_mem.specs.Memory.{Contents, bytes_from, with_bytes}
use Rattle.vring_split.specs.declared.layout.Layout.{Layout}
use Rattle.vring_split.specs.declared.fault.RingFault.TheVariants.{Direction}
use Rattle.tap_frame.specs.Frame.{FrameValue}
use Rattle.tap_ledger.specs.declared.act.Act.{Act}
use Rattle.tap_ledger.specs.declared.act.Act.TheVariants as act
use Rattle.vring_turns.specs.declared.end.End.TheVariants.{Idle, Short, Again, Stopped}
use Rattle.vring_turns.specs.declared.stage.RxStage.TheVariants as stage
use Rattle.vring_turns.specs.RxTurn.{RxTurn, RxState, rx_begun}
use Rattle.vring_turns.specs.Example.{memory_with, ring_of, queue_on, with_table, offered_at, number_at, ethernet, name_of, frame_with}
use Rattle.vring_turns.specs.RxExamples.{rx_steps, rx_start, rx_reported, receivable}
use Rattle.vring_turns.specs.RxGathering.{small, with_offer, forty, queue_at}

-- a turn that goes on with a next frame after so many packets, bytes and chains
abbrev pub going_on : ℕ → ℕ → ℕ → RxTurn
going_on packets bytes handled = record (rx_begun true 12) {
  packets = packets;
  bytes = bytes;
  handled = handled;
  stage = stage.Hand;
}

abbrev pub run_on : RxTurn → Contents → List Act × RxState
run_on t m = rx_steps 30 (frame_with 0 46 ∷ []) (record { turn = t; queue = queue_on small; memory = m })

abbrev pub eighteen : ℕ → ℕ × ℕ × ℕ × ℕ
eighteen addr = (addr, 18, 2, 0)

abbrev pub four_chains : Contents
four_chains = receivable 4 (eighteen 4096 ∷ eighteen 5120 ∷ eighteen 6144 ∷ eighteen 7168 ∷ [])

-- 1,024 chains are enough for a turn, 1,023 aren't
abbrev pub EnoughChains : Type 0
EnoughChains =
    ((run_on (going_on 10 720 1020) four_chains).0
    ≡ act.Hand ∷ act.Fetch 0 0 ∷ act.Fetch 1 1 ∷ act.Fetch 2 2 ∷ act.Fetch 3 3 ∷ act.Copy 0 (name_of 0)
    ∷ act.Out (name_of 0) ∷ act.Publish 4 true ∷ [])
    × (rx_reported (run_on (going_on 10 720 1020) four_chains).1 ≡ (11, 792, Some Again))
    × (rx_reported (run_on (going_on 10 720 1019) four_chains).1 ≡ (11, 792, Some Idle))

abbrev pub hundred : Contents
hundred = receivable 1 ((4096, 100, 2, 0) ∷ [])

-- so are 524,288 bytes, and 256 packets, also where the last one is an overrun
abbrev pub EnoughBytesOrPackets : Type 0
EnoughBytesOrPackets =
    (rx_reported (run_on (going_on 10 524216 10) hundred).1 ≡ (11, 524288, Some Again))
    × (rx_reported (run_on (going_on 10 524215 10) hundred).1 ≡ (11, 524287, Some Idle))
    × (rx_reported (run_on (going_on 255 510 10) hundred).1 ≡ (256, 582, Some Again))
    × ((run_on (record (going_on 255 510 10) { mergeable = false }) (receivable 1 (forty ∷ []))).0
    ≡ act.Hand ∷ act.Fetch 0 0 ∷ act.Out (name_of 0) ∷ [])
    × (rx_reported (run_on (record (going_on 255 510 10) { mergeable = false }) (receivable 1 (forty ∷ []))).1
    ≡ (256, 510, Some Again))

-- so many chains are done, on a ring of 64 entries
abbrev pub sixty_four : Layout
sixty_four = ring_of true 64 1024 1160

abbrev pub done_before : ℕ → RxState
done_before n = record {
  turn = going_on n 0 n;
  queue = record (queue_on sixty_four) {
    positions = record { next = n; gathered = 0; done = replicate n (record { head = 0; len = 5 }); journal = [] };
  };
  memory = memory_with (with_table 0 ((8192, 100, 2, 0) ∷ []) (offered_at 1024 (n + 1) [] []));
}

abbrev pub at_64 : List Act × RxState
at_64 = rx_steps 30 (frame_with 0 46 ∷ []) (done_before 63)

abbrev pub at_63 : List Act × RxState
at_63 = rx_steps 30 (frame_with 0 46 ∷ []) (done_before 62)

-- the 64th chain that is done is published before the next frame is taken, the 63rd at the end
abbrev pub PublishedBy64 : Type 0
PublishedBy64 =
    (at_64.0
    ≡ act.Hand ∷ act.Fetch 63 0 ∷ act.Copy 63 (name_of 0) ∷ act.Out (name_of 0) ∷ act.Publish 64 true
    ∷ act.NotReady ∷ [])
    × (rx_reported at_64.1 ≡ (64, 72, Some Idle))
    × (drop 62 at_64.1.queue.positions.journal ≡ (62, 0, 5) ∷ (63, 0, 72) ∷ [])
    × (number_at 1162 at_64.1.memory ≡ 64)
    × (at_63.0
    ≡ act.Hand ∷ act.Fetch 62 0 ∷ act.Copy 62 (name_of 0) ∷ act.Out (name_of 0) ∷ act.NotReady
    ∷ act.Publish 63 true ∷ [])

-- without mergeable buffers one chain that is too short ends a frame, though a second one is there; the next frame gets
-- the same chain
abbrev pub two_frames : List Act × RxState
two_frames =
    rx_steps 30 (frame_with 0 46 ∷ frame_with 1 0 ∷ []) (rx_start false (receivable 2 (forty ∷ (8192, 40, 2, 0) ∷ [])))

abbrev pub OverrunThenGuest : Type 0
OverrunThenGuest =
    (two_frames.0
    ≡ act.Notices false false ∷ act.Hand ∷ act.Fetch 0 0 ∷ act.Out (name_of 0) ∷ act.Hand ∷ act.Fetch 0 0
    ∷ act.Copy 0 (name_of 1) ∷ act.Out (name_of 1) ∷ act.NotReady ∷ act.Publish 1 true ∷ [])
    × (rx_reported two_frames.1 ≡ (2, 26, Some Idle))
    × (two_frames.1.queue.positions.journal ≡ (0, 0, 26) ∷ [])
    × (number_at (4096 + 10) two_frames.1.memory ≡ 1)

-- what is done is published behind the PutBack of a short or stopped frame
abbrev pub short_second : List Act × RxState
short_second =
    rx_steps 30 (frame_with 0 0 ∷ frame_with 1 46 ∷ []) (rx_start true (receivable 2 (forty ∷ (8192, 40, 2, 0) ∷ [])))

abbrev pub to_stop : List Act × RxState
to_stop =
    rx_steps 8 (frame_with 0 0 ∷ frame_with 1 46 ∷ []) (rx_start true (receivable 1 (forty ∷ (8192, 40, 0, 0) ∷ [])))

abbrev pub stopped_second : List Act × RxState
stopped_second = rx_steps 30 [] (with_offer 2 to_stop.1)

abbrev pub DoneThenPutBack : Type 0
DoneThenPutBack =
    (short_second.0
    ≡ act.Notices false false ∷ act.Hand ∷ act.Fetch 0 0 ∷ act.Copy 0 (name_of 0) ∷ act.Out (name_of 0)
    ∷ act.Hand ∷ act.Fetch 1 1 ∷ act.Nothing ∷ act.Notices true true ∷ act.Nothing ∷ act.PutBack
    ∷ act.Publish 1 true ∷ [])
    × (rx_reported short_second.1 ≡ (1, 26, Some (Short 72 40)))
    × (short_second.1.queue.positions.next ≡ 1) × (short_second.1.queue.positions.gathered ≡ 0)
    × (number_at 116 short_second.1.memory ≡ 2)
    × (stopped_second.0
    ≡ act.Halt 10 ∷ act.Notices false false ∷ act.PutBack ∷ act.Publish 1 true ∷ [])
    × (rx_reported stopped_second.1 ≡ (1, 26, Some (Stopped Direction)))
    × (stopped_second.1.queue.stopped ≡ Some Direction)

-- a frame that a filter cut to 20 of its 60 bytes needs 32, and what is behind them stays
abbrev pub cut_frame : List Act × RxState
cut_frame =
    let m = receivable 1 (forty ∷ []) in
    rx_steps 30 (record (frame_with 0 46) { mark = 20 } ∷ [])
    (rx_start true (record m { bytes = with_bytes m.bytes (4096 + 31) (255 ∷ 255 ∷ []) }))

abbrev pub CutFrameGoesCut : Type 0
CutFrameGoesCut =
    (rx_reported cut_frame.1 ≡ (1, 32, Some Idle))
    × (cut_frame.1.queue.positions.journal ≡ (0, 0, 32) ∷ [])
    × (bytes_from cut_frame.1.memory.bytes (4096 + 31) 2 ≡ 0 ∷ 255 ∷ [])

-- a header of 10 bytes has no num_buffers; a chain of two segments takes it across their border, and all else stays
abbrev pub headed : FrameValue
headed = record (frame_with 0 46) { hdr = 1 ∷ 2 ∷ 3 ∷ 4 ∷ 5 ∷ 6 ∷ 7 ∷ 8 ∷ 9 ∷ 10 ∷ [] }

abbrev pub marked : Contents
marked = memory_with
    (with_table 0 ((4096, 5, 3, 1) ∷ (8192, 100, 2, 0) ∷ [])
    (offered_at 64 1 (0 ∷ []) (with_bytes (with_bytes [] 4101 (255 ∷ [])) 8257 (255 ∷ []))))

abbrev pub ten_bytes : List Act × RxState
ten_bytes = rx_steps 30 (headed ∷ []) (record {
  turn = rx_begun false 10;
  queue = queue_on small;
  memory = marked;
})

abbrev pub NoCountOfBuffers : Type 0
NoCountOfBuffers =
    (rx_reported ten_bytes.1 ≡ (1, 70, Some Idle))
    × (ten_bytes.1.queue.positions.journal ≡ (0, 0, 70) ∷ [])
    × (bytes_from ten_bytes.1.memory.bytes 4096 6 ≡ 1 ∷ 2 ∷ 3 ∷ 4 ∷ 5 ∷ 255 ∷ [])
    × (bytes_from ten_bytes.1.memory.bytes 8192 19 ≡ 6 ∷ 7 ∷ 8 ∷ 9 ∷ 10 ∷ ethernet)
    × (bytes_from ten_bytes.1.memory.bytes 8256 2 ≡ 0 ∷ 255 ∷ [])

-- the last position is followed by 0
abbrev pub wrapped : List Act × RxState
wrapped = rx_steps 30 (frame_with 0 0 ∷ []) (record {
  turn = rx_begun true 12;
  queue = record (queue_at small 65535 0) { used = 65535 };
  memory = receivable 0 (forty ∷ forty ∷ forty ∷ (8192, 26, 2, 0) ∷ []);
})

abbrev pub PositionsWrap : Type 0
PositionsWrap =
    (wrapped.0
    ≡ act.Notices false false ∷ act.Hand ∷ act.Fetch 65535 3 ∷ act.Copy 65535 (name_of 0) ∷ act.Out (name_of 0)
    ∷ act.NotReady ∷ act.Publish 1 false ∷ [])
    × (wrapped.1.queue.positions.journal ≡ (65535, 3, 26) ∷ [])
    × (wrapped.1.queue.positions.next ≡ 0) × (wrapped.1.queue.used ≡ 0)
