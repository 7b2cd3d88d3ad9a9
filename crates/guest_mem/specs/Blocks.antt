-- This project's own: how a memory is kept, as blocks of bytes in rising order.
use Rattle.std.specs.Prelude.{◌≡◌, ℕ, ◌+◌, ◌-◌, ◌^◌, ◌<◌, ◌≤◌, Bool, ◌&&◌, nat_lt, nat_le, List, [], ◌∷◌, ◌++◌, length, slice_index, slice_index_or, Option, None, Some, is_some, if◌then◌else◌}
use Rattle.std.specs.List.{list_any}
use Rattle.guest_mem.specs.declared.block.Block.{Block}
use Rattle.guest_mem.specs.declared.span.Spot.{Spot}
use Rattle.guest_mem.specs.declared.region.Region.{Region}
use Rattle.guest_mem.specs.Memory.{ByteList, is_in, is_there, nonzero_from}
use Rattle.guest_mem.specs.Regions.{refusal}

-- the first address after a block
abbrev pub end_of : Block → ℕ
end_of b = b.addr + length b.bytes.items

-- a block has the byte of an address
abbrev pub has_addr : Block → ℕ → Bool
has_addr b a = nat_le b.addr a && nat_lt a (end_of b)

-- the byte of an address that the block has
abbrev pub byte_of : Block → ℕ → ℕ
byte_of b a = slice_index b.bytes.items (a - b.addr)

-- the byte at an address, if a block has it
abbrev pub byte_in : List Block → ℕ → Option ℕ
byte_in [] a = None
byte_in (b ∷ bs) a = if has_addr b a then Some (byte_of b a) else byte_in bs a

-- blocks in rising order from an address on: none is empty, none has the last address, and behind each there is an
-- address that none has
abbrev pub AreApart : ℕ → List Block → Type 0
AreApart low [] = Unit {0}
AreApart low (b ∷ bs) =
    (low ≤ b.addr) × (0 < length b.bytes.items) × (end_of b < 2 ^ 64) × AreApart (end_of b + 1) bs

-- regions in rising order from an address on: none is empty, none shares an address with another, and none has the
-- last address
abbrev pub AreOrdered : ℕ → List Region → Type 0
AreOrdered low [] = Unit {0}
AreOrdered low (r ∷ rs) =
    (low ≤ r.addr) × (0 < r.len) × (r.addr + r.len < 2 ^ 64) × AreOrdered (r.addr + r.len) rs

-- the same of regions of which no two touch
abbrev pub AreSeparate : ℕ → List Region → Type 0
AreSeparate low [] = Unit {0}
AreSeparate low (r ∷ rs) =
    (low ≤ r.addr) × (0 < r.len) × (r.addr + r.len < 2 ^ 64) × AreSeparate (r.addr + r.len + 1) rs

-- stretches with one more region behind them: they stay before all that comes behind it
pub record IsJoined (old new : List Region) (r : Region) : Type 0 where
  pub separate : AreSeparate 0 new
  pub ahead : (rest : List Region) → AreOrdered 0 (old ++ r ∷ rest) → AreOrdered 0 (new ++ rest)
  pub same : (a : ℕ) → list_any (is_in a) new ≡ list_any (is_in a) (old ++ r ∷ [])

-- an address lies in a block, behind so many of its bytes
pub record IsSpot (bs : List Block) (a : ℕ) (spot : Spot) : Type 0 where
  pub within : spot.block < length bs
  pub at : (d : Block) → (slice_index_or bs spot.block d).addr + spot.before ≡ a
  pub inside : (d : Block) → spot.before < length (slice_index_or bs spot.block d).bytes.items

-- the bytes of blocks as a list without the zeros
unfoldable pub bytes_of : List Block → ByteList
bytes_of [] = []
bytes_of (b ∷ bs) = nonzero_from b.addr b.bytes.items ++ bytes_of bs

-- blocks in rising order have the bytes of these regions, and of no others
pub record IsKept (rs : List Region) (bs : List Block) : Type 0 where
  pub regions : refusal rs ≡ None
  pub apart : AreApart 0 bs
  pub domain : (a : ℕ) → is_some (byte_in bs a) ≡ is_there rs a

-- the byte at x after a write of bytes from a on, where old stood there
abbrev pub byte_after : ℕ → List ℕ → ℕ → ℕ → ℕ
byte_after a bytes x old =
    if nat_le a x && nat_lt x (a + length bytes) then slice_index bytes (x - a) else old

-- what stands at place k of a target after the source was put into it from a place on
abbrev pub spliced_byte : List ℕ → ℕ → List ℕ → ℕ → ℕ
spliced_byte target at source k = byte_after at source k (slice_index target k)

-- the bytes of one block after a write of bytes from an address on: those that the write reaches are new
pub record IsWrittenBlock (old new : Block) (a : ℕ) (bytes : List ℕ) : Type 0 where
  pub addr : new.addr ≡ old.addr
  pub len : length new.bytes.items ≡ length old.bytes.items
  pub byte : (x : ℕ) → old.addr ≤ x → x < end_of old → byte_of new x ≡ byte_after a bytes x (byte_of old x)

-- the same of each block
abbrev pub AreWritten : List Block → List Block → ℕ → List ℕ → Type 0
AreWritten [] [] a bytes = Unit {0}
AreWritten (b ∷ bs) (c ∷ cs) a bytes = IsWrittenBlock b c a bytes × AreWritten bs cs a bytes
AreWritten [] (c ∷ cs) a bytes = ⊥
AreWritten (b ∷ bs) [] a bytes = ⊥
