-- VIRTIO 1.2, 2.7.5, 2.7.6 and 2.7.13, and this project's own: how a driver makes a chain available.
use Rattle.std.specs.Prelude.{ℕ, ◌+◌, ◌-◌, ◌*◌, ◌/◌, Bool, true, false, nat_lt, min, List, [], ◌∷◌, ◌++◌, length, take, drop, slice_index, find, replicate, Option, None, Some, if◌then◌else◌}
use Rattle.std.specs.Option.{option_or, option_map}
use Rattle.guest_mem.specs.Memory.{Contents, written}
use Rattle.vring_split.specs.Split.{desc_addr, avail_idx_addr, avail_entry_addr, desc_bytes}
use Rattle.vring_split.specs.declared.desc.Desc.{Desc}
use Rattle.vring_split.specs.declared.layout.Layout.{Layout}
use Rattle.vring_drive.specs.declared.error.PostErr.{PostErr}
use Rattle.vring_drive.specs.declared.error.PostErr.TheVariants.{TooLong, Full}
use Rattle.vring_drive.specs.Area.{slot_len, slot_at, after, with_field}
use Rattle.vring_drive.specs.Books.{Books, ring_of, chain_of, head_of}

-- Refusals.

-- a count as it is told: those above 65,535 are told as 65,535
abbrev pub told : ℕ → ℕ
told n = min n 65535

-- fewer descriptors are free than are needed
abbrev pub full_refusal : ℕ → Books → Option PostErr
full_refusal need b = if nat_lt (length b.free) need then Some (Full (told need) (told (length b.free))) else None

-- a length is more than a data slot has
abbrev pub length_refusal : List ℕ → Option PostErr
length_refusal lens = option_map TooLong (find (λ n. nat_lt slot_len n) lens)

abbrev pub post_in_refusal : List ℕ → Books → Option PostErr
post_in_refusal lens b = option_or (length_refusal lens) (full_refusal (length lens) b)

-- The pieces of bytes that are sent: each fills a data slot but the last, which has what is left.
abbrev pub full_pieces : ℕ → ℕ
full_pieces len = (len - 1) / slot_len

abbrev pub piece_lens : ℕ → List ℕ
piece_lens len = replicate (full_pieces len) slot_len ++ (len - slot_len * full_pieces len) ∷ []

abbrev pub post_out_refusal : ℕ → Books → Option PostErr
post_out_refusal len b = full_refusal (full_pieces len + 1) b

-- What a post writes.

-- the flags of a descriptor: WRITE where the device writes, NEXT where others follow
abbrev pub flags_for : Bool → List ℕ → ℕ
flags_for writable behind = (if writable then 2 else 0) + (if nat_lt 0 (length behind) then 1 else 0)

-- a descriptor of a chain, for its data slot; the last one has the next one 0
abbrev pub desc_for : Layout → Bool → ℕ → ℕ → List ℕ → Desc
desc_for l writable d size behind =
    record { addr = slot_at l d; len = size; flags = flags_for writable behind; next = slice_index behind 0 }

-- the memory with the descriptors of a chain, of these lengths
unfoldable pub linked : Layout → Bool → List ℕ → List ℕ → Contents → Contents
linked l writable [] lens m = m
linked l writable (d ∷ ds) lens m =
    linked l writable ds (drop 1 lens)
    (written m (desc_addr l d) (desc_bytes (desc_for l writable d (slice_index lens 0) ds)))

-- the memory with bytes in the data slots of a chain
unfoldable pub filled : Layout → List ℕ → List ℕ → Contents → Contents
filled l [] bytes m = m
filled l (d ∷ ds) bytes m = filled l ds (drop slot_len bytes) (written m (slot_at l d) (take slot_len bytes))

-- the memory with a head in the available ring's entry of a place, and then the index behind it
unfoldable pub offered : Layout → ℕ → ℕ → Contents → Contents
offered l place head m =
    with_field (avail_idx_addr l) (after place 1) (with_field (avail_entry_addr l place) head m)

-- the memory after a post of writable room, and after one of bytes to be read
abbrev pub posted_in : Books → List ℕ → Contents → Contents
posted_in b lens m =
    let chain = chain_of (length lens) b in
    offered (ring_of b) b.avail (head_of chain) (linked (ring_of b) true chain lens m)

abbrev pub posted_out : Books → List ℕ → Contents → Contents
posted_out b bytes m =
    let lens = piece_lens (length bytes) in
    let chain = chain_of (length lens) b in
    offered (ring_of b) b.avail (head_of chain) (linked (ring_of b) false chain lens (filled (ring_of b) chain bytes m))
