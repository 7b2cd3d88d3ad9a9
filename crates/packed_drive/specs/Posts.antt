-- VIRTIO 1.2, 2.8.6 and 2.8.13, and this project's own: how a driver makes a chain available in a packed ring.
use Rattle.std.specs.Prelude.{ℕ, ◌+◌, ◌*◌, Bool, true, false, nat_lt, List, [], ◌∷◌, length, take, drop, Option, None, Some, if◌then◌else◌}
use Rattle.std.specs.Option.{option_or}
use Rattle.guest_mem.specs.Memory.{Contents, written}
use Rattle.vring_drive.specs.declared.error.PostErr.{PostErr}
use Rattle.vring_drive.specs.declared.error.PostErr.TheVariants.{Full}
use Rattle.vring_drive.specs.Posts.{told, length_refusal, full_pieces, piece_lens}
use Rattle.vring_packed.specs.declared.desc.PackedDesc.{PackedDesc}
use Rattle.vring_packed.specs.declared.place.Place.{Place}
use Rattle.vring_packed.specs.Packed.{desc_bytes, place_after}
use Rattle.packed_drive.specs.Area.{slot_at}
use Rattle.packed_drive.specs.Books.{Books, lowest, free_of}

-- Refusals.

-- fewer descriptors are free than are needed
abbrev pub full_refusal : ℕ → Books → Option PostErr
full_refusal need b = if nat_lt (free_of b) need then Some (Full (told need) (told (free_of b))) else None

abbrev pub post_in_refusal : List ℕ → Books → Option PostErr
post_in_refusal lens b = option_or (length_refusal lens) (full_refusal (length lens) b)

abbrev pub post_out_refusal : ℕ → Books → Option PostErr
post_out_refusal len b = full_refusal (full_pieces len + 1) b

-- What a post writes.

-- the flags of a descriptor that is made available: NEXT where others follow, WRITE where the device writes, and AVAIL
-- or else USED by the wrap counter
abbrev pub flags_for : Bool → Bool → Bool → ℕ
flags_for writable more wrap =
    (if more then 1 else 0) + ((if writable then 2 else 0) + (if wrap then 128 else 32768))

-- a descriptor of a chain at a place, for the data slot there; each has the chain's id
abbrev pub desc_for : ℕ → ℕ → Bool → ℕ → Place → ℕ → Bool → PackedDesc
desc_for start num writable chain p n more =
    record { addr = slot_at start num p.at; len = n; id = chain; flags = flags_for writable more p.wrap }

-- the memory with a descriptor at a place
abbrev pub with_desc : ℕ → ℕ → Bool → ℕ → Place → ℕ → Bool → Contents → Contents
with_desc start num writable chain p n more m =
    written m (start + 16 * p.at) (desc_bytes (desc_for start num writable chain p n more))

-- the memory with descriptors of these lengths from a place on
unfoldable pub linked : ℕ → ℕ → Bool → ℕ → Place → List ℕ → Contents → Contents
linked start num writable chain p [] m = m
linked start num writable chain p (n ∷ ns) m =
    linked start num writable chain (place_after num p 1) ns
    (with_desc start num writable chain p n (nat_lt 0 (length ns)) m)

-- the memory with bytes in the data slots of so many places from one on, 2,048 in each as far as they go
unfoldable pub filled : ℕ → ℕ → Place → List ℕ → List ℕ → Contents → Contents
filled start num p [] bytes m = m
filled start num p (n ∷ ns) bytes m =
    filled start num (place_after num p 1) ns (drop n bytes) (written m (slot_at start num p.at) (take n bytes))

-- a post of a chain: the descriptors behind the first, and then the first, by which all are made available
abbrev pub offered : Books → Bool → List ℕ → Contents → Contents
offered b writable [] m = m
offered b writable (n ∷ ns) m =
    let id = lowest b.out in
    with_desc b.start b.num writable id b.next n (nat_lt 0 (length ns))
    (linked b.start b.num writable id (place_after b.num b.next 1) ns m)

abbrev pub posted_in : Books → List ℕ → Contents → Contents
posted_in b lens m = offered b true lens m

abbrev pub posted_out : Books → List ℕ → Contents → Contents
posted_out b bytes m =
    let lens = piece_lens (length bytes) in
    offered b false lens (filled b.start b.num b.next lens bytes m)
