-- VIRTIO 1.2, 2.7.7 to 2.7.10: chains that are served, done and published, and notices, as worked examples.
use Rattle.std.specs.Prelude.{◌≡◌, ℕ, zero, suc, true, false, [], ◌∷◌, map, None}
use Rattle.guest_mem.specs.Memory.{Contents}
use Rattle.guest_mem.specs.Regions.{zeroed}
use Rattle.vring_split.specs.declared.layout.Layout.{Layout}
use Rattle.vring_split.specs.Split.{needs_event}
use Rattle.vhost_queue.specs.Positions.{Positions, positions_from, rebased, served, rewound, with_done, all_published}
use Rattle.vhost_queue.specs.Queue.{Queue, first_positions}
use Rattle.vhost_queue.specs.Publication.{published_in, with_published, next_used, wants_notice, noticed_in}

-- an index that wraps at 65,536 reaches the position behind the event, or doesn't
abbrev pub NoticesWrap : Type 0
NoticesWrap =
    (needs_event 65535 0 65535 ≡ true) × (needs_event 0 1 65535 ≡ true) × (needs_event 3 8 5 ≡ false)
    × (needs_event 5 5 5 ≡ false)

-- a receive ring of four entries with event indexes, at position 65,535, and 4 KiB of zeros
abbrev pub four_ring : Layout
four_ring = record { num = 4; desc = 0; avail = 64; used = 80; indirect = false; event = true; rx = true }

abbrev pub four_queue : Queue
four_queue = record { layout = four_ring; positions = rebased 65535 first_positions; used = 0; stopped = None }

abbrev pub page : Contents
page = zeroed (record { addr = 0; len = 4096 } ∷ [])

-- a frame of 60 bytes behind a header of 12 takes two chains of 40: 40 bytes of the first and 32 of the second
abbrev pub two_done : Positions
two_done = with_done 1 32 (with_done 0 40 (served (served four_queue.positions)))

abbrev pub two_chains : Queue
two_chains = record four_queue { positions = two_done }

abbrev pub TwoChains : Type 0
TwoChains =
    ((published_in two_chains page).bytes ≡ (82, 2) ∷ (88, 40) ∷ (92, 1) ∷ (96, 32) ∷ [])
    × ((with_published two_chains).positions.journal ≡ (65535, 0, 40) ∷ (0, 1, 32) ∷ [])
    × (next_used two_chains ≡ 2) × ((with_published two_chains).positions.next ≡ 1)
    × (wants_notice four_ring 0 2 (published_in two_chains page) ≡ true)
    × ((noticed_in true (with_published two_chains) page).bytes ≡ (116, 1) ∷ [])

-- with one chain of 40 it doesn't fit: the chain stands at its position again, and nothing is published
abbrev pub OneChainIsRewound : Type 0
OneChainIsRewound =
    (rewound 1 (served four_queue.positions) ≡ four_queue.positions)
    × ((published_in four_queue page).bytes ≡ []) × (next_used four_queue ≡ 0)

-- so many chains, each served and done in its turn, with its position as its head
abbrev pub all_done : ℕ → Positions → Positions
all_done zero p = p
all_done (suc n) p = all_done n (with_done p.next 0 (served p))

-- a turn of 256 chains that are published at every 64, and one of 44, from 65,400 on
abbrev pub turned : Positions
turned =
    all_published (all_done 44 (all_published (all_done 64 (all_published (all_done 64 (all_published (all_done 64
    (all_published (all_done 64 (rebased 65400 first_positions))))))))))

abbrev pub ThreeHundred : Type 0
ThreeHundred =
    (map (λ e. e.0) turned.journal ≡ positions_from 65400 300) × (turned.next ≡ 164)
    × (turned.done ≡ []) × (turned.gathered ≡ 0)
