-- VIRTIO 1.2, 2.8.9, 2.8.10 and 2.8.21: what a device reads and writes to publish chains and to tell of notices.
use Rattle.std.specs.Prelude.{ℕ, zero, suc, ◌+◌, ◌-◌, ◌*◌, ◌%◌, Bool, true, false, ◌&&◌, ◌||◌, not, ◌==◌, nat_le, bit_and, bit_or, List, [], ◌∷◌, ◌++◌, if◌then◌else◌}
use Rattle.std.specs.Int.{w16, w32, to_le_bytes}
use Rattle.guest_mem.specs.Memory.{Contents, written}
use Rattle.vhost_queue.specs.Publication.{field_at, with_field}
use Rattle.vring_packed.specs.declared.done.PackedDone.{PackedDone}
use Rattle.vring_packed.specs.declared.layout.PackedLayout.{PackedLayout}
use Rattle.vring_packed.specs.declared.place.Place.{Place}
use Rattle.vring_packed.specs.Packed.{place_after}

-- 2.8.1, 2.8.9: the flags of a used descriptor: AVAIL and USED are the wrap counter, and WRITE says that bytes were
-- written
abbrev pub used_flags : Bool → ℕ → ℕ
used_flags wrap len = bit_or (if wrap then 32896 else 0) (if len == 0 then 0 else 2)

-- what a used descriptor has behind its address, which stays: le32 len, le16 id and le16 flags
unfoldable pub used_bytes : Bool → PackedDone → List ℕ
used_bytes wrap d = to_le_bytes w32 d.len ++ to_le_bytes w16 d.id ++ to_le_bytes w16 (used_flags wrap d.len)

-- the memory with a used descriptor at a place
unfoldable pub with_used : PackedLayout → Place → PackedDone → Contents → Contents
with_used l p d m = written m (l.ring + 16 * p.at + 8) (used_bytes p.wrap d)

-- the memory with used descriptors from a place on: each stands as many places after the one before it as that one's
-- chain has descriptors in the ring
abbrev pub published_at : PackedLayout → Place → List PackedDone → Contents → Contents
published_at l p [] m = m
published_at l p (d ∷ ds) m = published_at l (place_after l.num p d.count) ds (with_used l p d m)

-- the place behind them
abbrev pub place_behind : ℕ → Place → List PackedDone → Place
place_behind num p [] = p
place_behind num p (d ∷ ds) = place_behind num (place_after num p d.count) ds

-- how many places a publication passes
abbrev pub passed : List PackedDone → ℕ
passed [] = 0
passed (d ∷ ds) = d.count + passed ds

-- Notices.

-- a place is among so many places from one on
abbrev pub is_same : Place → Place → Bool
is_same p q = p.at == q.at && (if p.wrap then q.wrap else not q.wrap)

abbrev pub is_among : ℕ → Place → ℕ → Place → Bool
is_among num p zero q = false
is_among num p (suc n) q = is_same p q || is_among num (place_after num p 1) n q

-- how many places an entry is ahead of another with the same wrap counter
abbrev pub ahead_in : ℕ → ℕ → ℕ → ℕ
ahead_in num at to = if nat_le at to then to - at else to + 2 * num - at

-- how many places a place is ahead of another, where the places of both wrap counters make one round
abbrev pub places_ahead : ℕ → Place → Place → ℕ
places_ahead num p q =
    if p.wrap then (if q.wrap then ahead_in num p.at q.at else q.at + num - p.at)
    else (if q.wrap then q.at + num - p.at else ahead_in num p.at q.at)

-- 2.8.10: the place that the first field of an event suppression area names: bit 15 is its wrap counter
abbrev pub named_place : ℕ → Place
named_place field = record { at = field % 32768; wrap = nat_le 32768 field }

-- where the second field of an area stands, its flags
abbrev pub flags_addr : ℕ → ℕ
flags_addr area = area + 2

-- 2.8.10: the driver wants a notice of a publication that passed so many places from one on, unless it turned them
-- off, 1, or asked, 2, for one at a place that this publication didn't pass
unfoldable pub wants_notice : PackedLayout → Place → ℕ → Contents → Bool
wants_notice l p count m =
    let flags = bit_and (field_at m (flags_addr l.driver)) 3 in
    if flags == 1 then false
    else (if flags == 2 && l.event then is_among l.num p count (named_place (field_at m l.driver)) else true)

-- 2.8.10: the memory where the driver was told that notices are wanted, 0, or aren't, 1
abbrev pub noticed_at : PackedLayout → Bool → Contents → Contents
noticed_at l on m = with_field (flags_addr l.device) (if on then 0 else 1) m
