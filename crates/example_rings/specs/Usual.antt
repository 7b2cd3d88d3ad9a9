-- This project's own: the usual start of a queue pair, from the driver's area to a harvest, as a worked example.
use Rattle.std.specs.Prelude.{◌≡◌, ℕ, Bool, true, false, List, [], ◌∷◌}
use Rattle.guest_mem.specs.Memory.{Contents, byte_at, covers}
use Rattle.vring_split.specs.declared.segment.Segment.{Segment}
use Rattle.vring_walk.specs.declared.walk.Fetched.TheVariants.{Chain, Nothing}
use Rattle.vring_walk.specs.Fetched.{fetched}
use Rattle.vring_walk.specs.Spread.{gathered}
use Rattle.vhost_queue.specs.Positions.{served, with_done}
use Rattle.vhost_queue.specs.Queue.{Queue}
use Rattle.vhost_queue.specs.Publication.{published_in, wants_notice}
use Rattle.vring_drive.specs.Area.{layout_at, data_offset}
use Rattle.vring_drive.specs.Books.{Books, first_books, sent_out}
use Rattle.vring_drive.specs.Posts.{posted_in, posted_out}
use Rattle.vring_drive.specs.Harvests.{harvested}
use Rattle.vhost_dev.specs.Settings.{ring_of}
use Rattle.vhost_dev.specs.Examples.{four_mib, started_up}

-- the two drivers of a queue pair, with 256 descriptors each
abbrev pub rx_driver : Books
rx_driver = first_books 65536 256 true

abbrev pub tx_driver : Books
tx_driver = first_books 1114112 256 true

-- what they laid out is what the device was told
abbrev pub AddressesAgree : Type 0
AddressesAgree =
    (started_up.rx.queue.layout ≡ layout_at 65536 256 true true true)
    × (started_up.tx.queue.layout ≡ layout_at 1114112 256 true true false)
    × (data_offset 256 ≡ 6672)

-- a frame of 14 bytes behind 12 bytes of header
abbrev pub sent : List ℕ
sent =
    0 ∷ 0 ∷ 0 ∷ 0 ∷ 0 ∷ 0 ∷ 0 ∷ 0 ∷ 0 ∷ 0 ∷ 0 ∷ 0
    ∷ 2 ∷ 0 ∷ 0 ∷ 0 ∷ 0 ∷ 1 ∷ 2 ∷ 0 ∷ 0 ∷ 0 ∷ 0 ∷ 2 ∷ 8 ∷ 0 ∷ []

-- the memory with room for 1,526 bytes posted to receive, and the frame to transmit
abbrev pub both_posted : Contents
both_posted = posted_out tx_driver sent (posted_in rx_driver (1526 ∷ []) four_mib)

-- the device finds the frame, and nothing behind it
abbrev pub frame_segments : List Segment
frame_segments = record { addr = 1120784; len = 26; write = false } ∷ []

abbrev pub FrameIsFound : Type 0
FrameIsFound =
    (fetched (byte_at both_posted) (covers both_posted.regions) started_up.tx.queue.layout 0 1024
    ≡ (Chain 0, frame_segments))
    × (gathered both_posted.bytes frame_segments ≡ sent)
    × ((fetched (byte_at both_posted) (covers both_posted.regions) started_up.tx.queue.layout 1 1024).0 ≡ Nothing)
    × (fetched (byte_at both_posted) (covers both_posted.regions) started_up.rx.queue.layout 0 1024
    ≡ (Chain 0, record { addr = 72208; len = 1526; write = true } ∷ []))

-- the chain of a ring is done with so many bytes
abbrev pub one_done : Bool → ℕ → Queue
one_done rx len =
    let q : Queue = (ring_of rx started_up).queue in
    record q { positions = with_done 0 len (served q.positions) }

-- the receive chain is done with 26 bytes and the transmit chain with none; each publication is noticed, and the
-- drivers harvest these lengths
abbrev pub Harvested : Type 0
Harvested =
    ((harvested (published_in (one_done true 26) both_posted) (sent_out 1 rx_driver)).found ≡ (0, 26) ∷ [])
    × ((harvested (published_in (one_done false 0) both_posted) (sent_out 1 tx_driver)).found ≡ (0, 0) ∷ [])
    × (wants_notice started_up.rx.queue.layout 0 1 (published_in (one_done true 26) both_posted) ≡ true)
    × (wants_notice started_up.tx.queue.layout 0 1 (published_in (one_done false 0) both_posted) ≡ true)
