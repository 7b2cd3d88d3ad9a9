-- This project's own: a guest's memory is its regions and those of their bytes that aren't 0.
use Rattle.std.specs.Prelude.{◌≡◌, ℕ, ◌+◌, ◌-◌, ◌^◌, ◌<◌, ◌≤◌, zero, suc, min, max, Bool, false, ◌&&◌, ◌==◌, nat_lt, nat_le, List, [], ◌∷◌, ◌++◌, length, filter, slice_get, slice_index, Option, None, Some, is_some, is_none, IsSome, IsTrue, unwrap_or, if◌then◌else◌}
use Rattle.std.specs.Int.{w16, from_le_bytes, to_le_bytes}
use Rattle.std.specs.List.{list_any}
use Rattle.std.specs.Option.{option_map}
use Rattle.guest_mem.specs.declared.region.Region.{Region}

-- bytes with their addresses, in rising order, and none of them 0; a byte that isn't there is 0
abbrev pub ByteList : Type 0
ByteList = List (ℕ × ℕ)

-- what a clause sees of a memory: its regions as they were given, and its bytes
pub record Contents : Type 0 where
  pub regions : List Region
  pub bytes : ByteList

-- Addresses.

-- the last of the 2 ^ 64 addresses, at which no memory has a byte
abbrev pub last_address : ℕ
last_address = 2 ^ 64 - 1

-- an address is in a region
abbrev pub is_in : ℕ → Region → Bool
is_in a r = nat_le r.addr a && nat_lt a (r.addr + r.len)

-- there is a byte at an address
unfoldable pub is_there : List Region → ℕ → Bool
is_there rs a = nat_lt a last_address && list_any (is_in a) rs

-- the byte that a list has at an address
abbrev pub value_at : ByteList → ℕ → ℕ
value_at [] a = 0
value_at (e ∷ es) a = if e.0 == a then e.1 else value_at es a

-- the byte at an address, if there is one
unfoldable pub look : List Region → ByteList → ℕ → Option ℕ
look rs bs a = if is_there rs a then Some (value_at bs a) else None

-- the same of a memory
abbrev pub byte_at : Contents → ℕ → Option ℕ
byte_at m = look m.regions m.bytes

-- Ranges, read off the regions.

-- the addresses from one up to another, as a stretch, if there are any
abbrev pub stretch : ℕ → ℕ → List (ℕ × ℕ)
stretch from to = if nat_lt from to then (from, to) ∷ [] else []

-- what is left of stretches without the addresses of a region
abbrev pub without : Region → List (ℕ × ℕ) → List (ℕ × ℕ)
without r [] = []
without r (s ∷ ss) =
    stretch s.0 (min s.1 r.addr) ++ (stretch (max s.0 (r.addr + r.len)) s.1 ++ without r ss)

-- what is left without the addresses of each region
abbrev pub left_over : List Region → List (ℕ × ℕ) → List (ℕ × ℕ)
left_over [] ss = ss
left_over (r ∷ rs) ss = left_over rs (without r ss)

-- the stretches of the n addresses from a on at which there is no byte, in rising order
unfoldable pub gaps : List Region → ℕ → ℕ → List (ℕ × ℕ)
gaps rs a n =
    left_over rs (stretch a (min (a + n) last_address)) ++ stretch (max a last_address) (a + n)

-- the first of the n addresses from a on at which there is no byte
unfoldable pub first_bad : List Region → ℕ → ℕ → Option ℕ
first_bad rs a n = option_map (λ s. s.0) (slice_get (gaps rs a n) 0)

-- there is a byte at each of the n addresses from a on
abbrev pub covers : List Region → ℕ → ℕ → Bool
covers rs a n = is_none (first_bad rs a n)

-- a stretch of addresses around one: there is a byte at each of its addresses, and none right before or behind them
pub record IsStretchAround (rs : List Region) (a : ℕ) (s : Region) : Type 0 where
  pub around : IsTrue (is_in a s)
  pub covered : IsTrue (covers rs s.addr s.len)
  pub before : (x : ℕ) → x + 1 ≡ s.addr → is_there rs x ≡ false
  pub behind : is_there rs (s.addr + s.len) ≡ false

-- Bytes.

-- the n bytes from a on, each looked up, with 0 where there is none
unfoldable pub bytes_at : (ℕ → Option ℕ) → ℕ → ℕ → List ℕ
bytes_at look a zero = []
bytes_at look a (suc n) = unwrap_or (look a) 0 ∷ bytes_at look (a + 1) n

-- the n bytes from a on of a list that begins there or later
abbrev pub filled : ByteList → ℕ → ℕ → List ℕ
filled bs a zero = []
filled [] a (suc n) = 0 ∷ filled [] (a + 1) n
filled (e ∷ es) a (suc n) = (if e.0 == a then e.1 else 0) ∷ filled (if e.0 == a then es else e ∷ es) (a + 1) n

-- the n bytes from a on
unfoldable pub bytes_from : ByteList → ℕ → ℕ → List ℕ
bytes_from bs a n = filled (filter (λ e. nat_le a e.0) bs) a n

-- bytes that stand one after the other from a on, as a list without the zeros
abbrev pub nonzero_from : ℕ → List ℕ → ByteList
nonzero_from a [] = []
nonzero_from a (x ∷ xs) = (if x == 0 then [] else (a, x) ∷ []) ++ nonzero_from (a + 1) xs

-- a list with bytes written from a on: what stood below, the bytes, and what stood behind them
unfoldable pub with_bytes : ByteList → ℕ → List ℕ → ByteList
with_bytes bs a xs =
    filter (λ e. nat_lt e.0 a) bs ++ (nonzero_from a xs ++ filter (λ e. nat_le (a + length xs) e.0) bs)

-- the memory with bytes written from a on
abbrev pub written : Contents → ℕ → List ℕ → Contents
written m a xs = record m { bytes = with_bytes m.bytes a xs }

-- the 16-bit number whose bytes start at an address, the low one first, and the memory with a number there
unfoldable pub le16_at : Contents → ℕ → ℕ
le16_at m a = from_le_bytes w16 (bytes_from m.bytes a 2)

unfoldable pub with_le16 : ℕ → ℕ → Contents → Contents
with_le16 a number m = written m a (to_le_bytes w16 number)

-- What is said of bytes as a function of the address.

-- there is a byte at each of the n addresses from a on
abbrev pub CoversBy : (ℕ → Option ℕ) → ℕ → ℕ → Type 0
CoversBy look a n = (k : ℕ) → k < n → IsSome (look (a + k))

-- the bytes stand one after the other from a on
abbrev pub HoldsBy : (ℕ → Option ℕ) → ℕ → List ℕ → Type 0
HoldsBy look a bytes = (k : ℕ) → k < length bytes → look (a + k) ≡ Some (slice_index bytes k)

-- bad is the first of the n addresses from a on at which there is no byte
pub record IsFirstBadBy (look : ℕ → Option ℕ) (a n bad : ℕ) : Type 0 where
  pub start : a ≤ bad
  pub within : bad < a + n
  pub missing : look bad ≡ None
  pub first : (x : ℕ) → a ≤ x → x < bad → IsSome (look x)

-- the bytes were written from a on, every other byte is as before, and the same addresses have one
pub record WrittenBy (old new : ℕ → Option ℕ) (a : ℕ) (bytes : List ℕ) : Type 0 where
  pub written : HoldsBy new a bytes
  pub before : (x : ℕ) → x < a → new x ≡ old x
  pub after : (x : ℕ) → a + length bytes ≤ x → new x ≡ old x
  pub same_domain : (x : ℕ) → is_some (new x) ≡ is_some (old x)

-- What holds of each memory.

-- the addresses rise from one on, each is one of the regions', and none of the bytes is 0
abbrev pub AreStored : List Region → ℕ → ByteList → Type 0
AreStored rs low [] = Unit {0}
AreStored rs low (e ∷ es) =
    (low ≤ e.0) × (0 < e.1) × IsTrue (is_there rs e.0) × AreStored rs (e.0 + 1) es
