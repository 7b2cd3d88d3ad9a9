-- VIRTIO 1.2, 2.7, and this project's own: transmit turns on worked rings.
use Rattle.std.specs.Prelude.{◌≡◌, ℕ, zero, suc, ◌+◌, true, false, List, [], ◌∷◌, map, Option, None, Some}
use Rattle.guest_mem.specs.Memory.{Contents, with_bytes}
use Rattle.vring_split.specs.declared.layout.Layout.{Layout}
use Rattle.vring_split.specs.declared.fault.RingFault.TheVariants.{Direction}
use Rattle.vhost_queue.specs.Queue.{Queue}
use Rattle.tap_frame.specs.declared.reading.BadFrame.TheVariants.{ShortEther}
use Rattle.tap_ledger.specs.declared.act.Act.{Act}
use Rattle.tap_ledger.specs.declared.act.Act.TheVariants.{Fetch, Nothing, Copy, Refused, Given, Publish, Notices}
use Rattle.vring_turns.specs.declared.end.End.{End}
use Rattle.vring_turns.specs.declared.end.End.TheVariants.{Idle, Again, Stopped}
use Rattle.vring_turns.specs.declared.stage.TxStage.TheVariants.{Ended}
use Rattle.vring_turns.specs.TxTurn.{TxState, tx_begun, tx_step}
use Rattle.vring_turns.specs.Example.{memory_with, ring_of, queue_on, with_table, offered_at, number_at, ethernet, name_of, frame_with}

-- so many steps, or fewer where the turn is over: what they tell, and what they leave
abbrev pub tx_steps : ℕ → TxState → List Act × TxState
tx_steps zero s = ([], s)
tx_steps (suc n) s =
    elim (tx_step s) [
      | None ↦ ([], s)
      | Some r ↦ let rest = tx_steps n r.0 in (r.1 ∷ rest.0, rest.1)
    ]

-- a turn begins on a queue, with a host that takes 1,000 frames
abbrev pub tx_start : Queue → Contents → TxState
tx_start q m = record {
  turn = tx_begun 12 (name_of 0);
  queue = q;
  memory = m;
  host = record { given = []; room = 1000 };
}

-- a turn begins where another one ended
abbrev pub tx_restart : TxState → TxState
tx_restart s = record s { turn = tx_begun 12 (name_of 0) }

-- the report of a turn that is over: packets, bytes and its end
abbrev pub tx_reported : TxState → ℕ × ℕ × Option End
tx_reported s = (s.turn.packets, s.turn.bytes, elim s.turn.stage [ Ended end ↦ Some end | _ ↦ None ])

-- a ring of four entries, whose first descriptors name 26 bytes each: 12 zeros and the frame
abbrev pub small_ring : Layout
small_ring = ring_of false 4 64 80

abbrev pub sendable : ℕ → List (ℕ × ℕ × ℕ × ℕ) → Contents
sendable index descs =
    memory_with (with_bytes (with_table 0 descs (offered_at 64 index (0 ∷ 1 ∷ 2 ∷ 3 ∷ []) [])) (4096 + 12) ethernet)

abbrev pub good : ℕ × ℕ × ℕ × ℕ
good = (4096, 26, 0, 0)

-- one chain, and then a turn with none
abbrev pub one_sent : List Act × TxState
one_sent = tx_steps 20 (tx_start (queue_on small_ring) (sendable 1 (good ∷ [])))

abbrev pub OneIsSent : Type 0
OneIsSent =
    (one_sent.0
    ≡ Notices false false ∷ Fetch 0 0 ∷ Copy 0 (name_of 0) ∷ Given (name_of 0)
    ∷ Nothing ∷ Notices true true ∷ Nothing ∷ Publish 1 true ∷ [])
    × (tx_reported one_sent.1 ≡ (1, 26, Some Idle))
    × (one_sent.1.host.given ≡ frame_with 0 0 ∷ [])
    × (one_sent.1.queue.positions.journal ≡ (0, 0, 0) ∷ [])
    × (map (λ addr. number_at addr one_sent.1.memory) (80 ∷ 82 ∷ 84 ∷ 88 ∷ 116 ∷ []) ≡ 0 ∷ 1 ∷ 0 ∷ 0 ∷ 1 ∷ [])

abbrev pub none_sent : List Act × TxState
none_sent = tx_steps 20 (tx_restart one_sent.1)

abbrev pub NoneIsSent : Type 0
NoneIsSent =
    (none_sent.0 ≡ Notices false false ∷ Nothing ∷ Notices true true ∷ Nothing ∷ [])
    × (tx_reported none_sent.1 ≡ (0, 0, Some Idle))

-- three good chains and one that the device would write: the turn stops, and the three are published
abbrev pub halted_turn : List Act × TxState
halted_turn = tx_steps 30 (tx_start (queue_on small_ring) (sendable 4 (good ∷ good ∷ good ∷ (4096, 26, 2, 0) ∷ [])))

abbrev pub HaltPublishes : Type 0
HaltPublishes =
    (tx_reported halted_turn.1 ≡ (3, 78, Some (Stopped Direction)))
    × (halted_turn.1.queue.stopped ≡ Some Direction)
    × (number_at 82 halted_turn.1.memory ≡ 3)
    × (map (λ f. f.name.part) halted_turn.1.host.given ≡ 0 ∷ 1 ∷ 2 ∷ [])

-- a chain of 25 bytes is no frame: it is refused, done with length 0, and counts with its bytes
abbrev pub refused_turn : List Act × TxState
refused_turn = tx_steps 20 (tx_start (queue_on small_ring) (sendable 1 ((4096, 25, 0, 0) ∷ [])))

abbrev pub ShortIsRefused : Type 0
ShortIsRefused =
    (refused_turn.0
    ≡ Notices false false ∷ Fetch 0 0 ∷ Refused 0 ShortEther
    ∷ Nothing ∷ Notices true true ∷ Nothing ∷ Publish 1 true ∷ [])
    × (tx_reported refused_turn.1 ≡ (1, 25, Some Idle))
    × (refused_turn.1.host.given ≡ [])

-- 300 chains on a ring of 512 entries, each by the same descriptor: 256 are one turn, published by 64, and 44 the next
abbrev pub large_ring : Layout
large_ring = ring_of false 512 8192 9222

abbrev pub many_offered : Contents
many_offered =
    memory_with (with_bytes (with_table 0 ((16384, 26, 0, 0) ∷ []) (offered_at 8192 300 [] [])) (16384 + 12) ethernet)

abbrev pub first_turn : List Act × TxState
first_turn = tx_steps 900 (tx_start (queue_on large_ring) many_offered)

abbrev pub second_turn : List Act × TxState
second_turn = tx_steps 900 (tx_restart first_turn.1)

abbrev pub publications : List Act → List ℕ
publications [] = []
publications (Publish count call ∷ acts) = count ∷ publications acts
publications (other ∷ acts) = publications acts

abbrev pub ManyTakeTwoTurns : Type 0
ManyTakeTwoTurns =
    (tx_reported first_turn.1 ≡ (256, 6656, Some Again))
    × (publications first_turn.0 ≡ 64 ∷ 64 ∷ 64 ∷ 64 ∷ [])
    × (tx_reported second_turn.1 ≡ (44, 1144, Some Idle))
    × (number_at 9224 second_turn.1.memory ≡ 300)
