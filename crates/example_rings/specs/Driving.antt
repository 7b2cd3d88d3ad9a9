-- VIRTIO 1.2, 2.7.13 and 2.7.14: a driver with four descriptors, as worked examples.
use Rattle.std.specs.Prelude.{◌≡◌, ℕ, ◌+◌, true, List, [], ◌∷◌, None, Some}
use Rattle.guest_mem.specs.Memory.{Contents, written}
use Rattle.guest_mem.specs.Regions.{zeroed}
use Rattle.vring_split.specs.Split.{used_idx_addr, used_entry_addr, used_elem_bytes}
use Rattle.vring_drive.specs.declared.error.DriveErr.TheVariants.{Unaligned, Outside}
use Rattle.vring_drive.specs.declared.error.PostErr.TheVariants.{TooLong, Full}
use Rattle.vring_drive.specs.Area.{area_len, drive_refusal, with_field}
use Rattle.vring_drive.specs.Books.{Books, ring_of, first_books, chain_of, head_of, sent_out, taken_back}
use Rattle.vring_drive.specs.Posts.{post_in_refusal, post_out_refusal, piece_lens, posted_in}
use Rattle.vring_drive.specs.Harvests.{harvested, harvested_in}

-- 16 KiB of zeros
abbrev pub small_memory : Contents
small_memory = zeroed (record { addr = 0; len = 16384 } ∷ [])

-- a driver of four descriptors at 0, with event indexes
abbrev pub four : Books
four = first_books 0 4 true

-- an address off 16 comes before a byte outside
abbrev pub AreasAreLookedAt : Type 0
AreasAreLookedAt =
    (drive_refusal small_memory 8 4 ≡ Some Unaligned) × (drive_refusal small_memory 0 4 ≡ None)
    × (drive_refusal small_memory 8192 4 ≡ Some (Outside 16384)) × (area_len 4 ≡ 8320)

-- a length comes before the count of descriptors, and the first one too long is told
abbrev pub PostsAreLookedAt : Type 0
PostsAreLookedAt =
    (post_in_refusal (1 ∷ 1 ∷ 1 ∷ 1 ∷ 1 ∷ []) four ≡ Some (Full 5 4))
    × (post_in_refusal (1 ∷ 2049 ∷ 1 ∷ 1 ∷ 4096 ∷ []) four ≡ Some (TooLong 2049))
    × (post_in_refusal (40 ∷ []) four ≡ None) × (post_out_refusal 8193 four ≡ Some (Full 5 4))
    × (post_out_refusal 8192 four ≡ None) × (piece_lens 2049 ≡ 2048 ∷ 1 ∷ []) × (piece_lens 0 ≡ 0 ∷ [])

-- room for 40 bytes takes the lowest descriptor, 0, and the next post the one above
abbrev pub posted : Books
posted = sent_out 1 four

abbrev pub LowestFirst : Type 0
LowestFirst =
    (head_of (chain_of 1 four) ≡ 0) × (chain_of 2 posted ≡ 1 ∷ 2 ∷ []) × (posted.out ≡ (0, 0 ∷ []) ∷ [])
    × (posted.avail ≡ 1)

-- the bytes of that post: the descriptor for the slot at 128, writable, and the available index
abbrev pub PostIsWritten : Type 0
PostIsWritten =
    (posted_in four (40 ∷ []) small_memory).bytes ≡ (0, 128) ∷ (8, 40) ∷ (12, 2) ∷ (66, 1) ∷ []

-- a memory with used entries, from a place on
abbrev pub with_entries : ℕ → List (ℕ × ℕ) → Contents → Contents
with_entries place [] m = m
with_entries place (e ∷ es) m =
    let entry = used_elem_bytes (record { id = e.0; len = e.1 }) in
    with_entries (place + 1) es (written m (used_entry_addr (ring_of four) place) entry)

-- the memory after that post with two used entries, and the used index behind them
abbrev pub with_used : ℕ × ℕ → ℕ × ℕ → Contents
with_used e f =
    with_field (used_idx_addr (ring_of four)) 2 (with_entries 0 (e ∷ f ∷ []) (posted_in four (40 ∷ []) small_memory))

-- with nothing used nothing is found, but the driver says that it wants a notice; an entry whose head isn't out ends a
-- harvest, what came before it stays taken back, and used_event isn't moved
abbrev pub StrayEnds : Type 0
StrayEnds =
    (harvested small_memory posted ≡ record { books = posted; found = []; stray = None })
    × (harvested (with_used (0, 9) (3, 0)) posted
    ≡ record { books = taken_back 0 (0 ∷ []) posted; found = (0, 9) ∷ []; stray = Some 3 })
    × (harvested_in (with_used (0, 9) (3, 0)) posted ≡ with_used (0, 9) (3, 0))
    × ((taken_back 0 (0 ∷ []) posted).free ≡ 0 ∷ 1 ∷ 2 ∷ 3 ∷ [])
