-- VIRTIO 1.2, 2.7.4: what a device reads from the segments of a chain, and what it makes of the memory where it
-- writes into them.
use Rattle.std.specs.Prelude.{ℕ, ◌+◌, ◌-◌, min, Bool, true, not, ◌&&◌, nat_lt, nat_le, List, [], ◌∷◌, ◌++◌, take, drop}
use Rattle.guest_mem.specs.Memory.{ByteList, bytes_from, with_bytes}
use Rattle.vring_split.specs.declared.segment.Segment.{Segment}

-- how many bytes segments have
abbrev pub bytes_in : List Segment → ℕ
bytes_in [] = 0
bytes_in (s ∷ ss) = s.len + bytes_in ss

-- bytes laid over segments: each segment takes the next of them, as many as it has room for
abbrev pub laid : ByteList → List Segment → List ℕ → ByteList
laid bs [] xs = bs
laid bs (s ∷ ss) xs = laid (with_bytes bs s.addr (take s.len xs)) ss (drop s.len xs)

-- an address lies in none of the segments
abbrev pub is_outside : List Segment → ℕ → Bool
is_outside [] a = true
is_outside (s ∷ ss) a = not (nat_le s.addr a && nat_lt a (s.addr + s.len)) && is_outside ss a

-- the bytes of segments, one after the other
abbrev pub gathered : ByteList → List Segment → List ℕ
gathered bs [] = []
gathered bs (s ∷ ss) = bytes_from bs s.addr s.len ++ gathered bs ss

-- the first n of them
abbrev pub first_gathered : ℕ → ByteList → List Segment → List ℕ
first_gathered n bs [] = []
first_gathered n bs (s ∷ ss) = bytes_from bs s.addr (min s.len n) ++ first_gathered (n - s.len) bs ss
