-- This project's own: what ties a memory's regions, its list of bytes and the byte at an address together.
use Rattle.std.specs.Prelude.{◌≡◌, ℕ, ◌+◌, ◌-◌, ◌^◌, ◌<◌, ◌≤◌, ◌&&◌, nat_lt, nat_le, List, length, slice_index, slice_range, Option, MatchOption, IsTrue, if◌then◌else◌}
use Rattle.guest_mem.specs.declared.region.Region.{Region}
use Rattle.guest_mem.specs.Memory.{ByteList, Contents, is_in, value_at, look, byte_at, first_bad, covers, IsStretchAround, bytes_at, bytes_from, with_bytes, written, CoversBy, IsFirstBadBy, WrittenBy, AreStored}
use Rattle.guest_mem.specs.Regions.{IsSound}

-- what the regions tell of a range is so: all of it has bytes, or the first address that has none is told
abbrev pub RangesAreTold : Type 0
RangesAreTold =
    (rs : List Region) (bs : ByteList) (a n : ℕ)
    → MatchOption (first_bad rs a n) (CoversBy (look rs bs) a n) (IsFirstBadBy (look rs bs) a n)

-- each part of a range that has bytes has them
abbrev pub PartsAreCovered : Type 0
PartsAreCovered =
    (rs : List Region) (a n b k : ℕ)
    → IsTrue (covers rs a n) → a ≤ b → b + k ≤ a + n → IsTrue (covers rs b k)

-- a range that has bytes ends before the last address
abbrev pub CoveredFits : Type 0
CoveredFits = (rs : List Region) (a n : ℕ) → IsTrue (covers rs a n) → 0 < n → a + n < 2 ^ 64

-- a range that starts in a stretch of addresses has bytes exactly where it ends in it
abbrev pub StretchesTell : Type 0
StretchesTell =
    (rs : List Region) (a : ℕ) (s : Region) (b n : ℕ)
    → IsStretchAround rs a s → IsTrue (is_in b s) → 0 < n → covers rs b n ≡ nat_le (b + n) (s.addr + s.len)

-- lists of bytes with the same byte at each address are one
abbrev pub SameBytesOneList : Type 0
SameBytesOneList =
    (rs : List Region) (bs cs : ByteList)
    → AreStored rs 0 bs → AreStored rs 0 cs → ((a : ℕ) → value_at bs a ≡ value_at cs a) → bs ≡ cs

-- a sound memory's bytes are those that are looked up one by one
abbrev pub BytesAreLookedUp : Type 0
BytesAreLookedUp = (m : Contents) (a n : ℕ) → IsSound m → bytes_from m.bytes a n ≡ bytes_at (byte_at m) a n

-- bytes of a range that lie in a part of it are the bytes of the part
abbrev pub PartsAreBytes : Type 0
PartsAreBytes =
    (look : ℕ → Option ℕ) (a n k m : ℕ)
    → k + m ≤ n → slice_range (bytes_at look a n) k (k + m) ≡ bytes_at look (a + k) m

-- the byte at an address after a write
abbrev pub ByteAfterWrite : Type 0
ByteAfterWrite =
    (bs : ByteList) (a : ℕ) (xs : List ℕ) (x : ℕ)
    → value_at (with_bytes bs a xs) x
    ≡ (if nat_le a x && nat_lt x (a + length xs) then slice_index xs (x - a) else value_at bs x)

-- where a range has bytes, a write of them writes these bytes and no other
abbrev pub WritesBytes : Type 0
WritesBytes =
    (m : Contents) (a : ℕ) (xs : List ℕ)
    → IsTrue (covers m.regions a (length xs)) → WrittenBy (byte_at m) (byte_at (written m a xs)) a xs

-- and leaves the memory sound
abbrev pub WritesSoundly : Type 0
WritesSoundly =
    (m : Contents) (a : ℕ) (xs : List ℕ)
    → IsSound m → IsTrue (covers m.regions a (length xs)) → IsSound (written m a xs)
