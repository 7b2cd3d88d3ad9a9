-- VIRTIO 1.2, 2.7.7, 2.7.8 and 2.7.10: what a device reads and writes to publish chains and to tell of notices.
use Rattle.std.specs.Prelude.{◌≡◌, ℕ, Bool, ◌==◌, bit_and, bit_or, List, [], ◌∷◌, length, None, if◌then◌else◌}
use Rattle.guest_mem.specs.Memory.{Contents, written}
-- the 16-bit field at an address, and the memory with a number in it
unfoldable pub use Rattle.guest_mem.specs.Memory.{le16_at as field_at, with_le16 as with_field}
use Rattle.vring_split.specs.Split.{avail_flags_addr, used_event_addr, used_flags_addr, used_idx_addr, used_entry_addr, avail_event_addr, used_elem_bytes, needs_event}
use Rattle.vring_split.specs.declared.layout.Layout.{Layout}
use Rattle.vhost_queue.specs.declared.done.Done.{Done}
use Rattle.vhost_queue.specs.Positions.{after, all_published}
use Rattle.vhost_queue.specs.Queue.{Queue}

-- the bytes of a used entry: the head, then the length
abbrev pub entry_bytes : Done → List ℕ
entry_bytes d = used_elem_bytes (record { id = d.head; len = d.len })

-- 2.7.8: the memory with used entries from an index on
unfoldable pub with_entries : Layout → ℕ → List Done → Contents → Contents
with_entries l index [] m = m
with_entries l index (d ∷ ds) m =
    with_entries l (after index 1) ds (written m (used_entry_addr l index) (entry_bytes d))

-- these entries were written into the memory, from an index on
abbrev pub StandIn : Layout → ℕ → List Done → Contents → Type 0
StandIn l index done m = (old : Contents) × (m ≡ with_entries l index done old)

-- the memory after a publication: the used entries of what is done, then the used index behind them
abbrev pub next_used : Queue → ℕ
next_used q = after q.used (length q.positions.done)

unfoldable pub published_in : Queue → Contents → Contents
published_in q m =
    with_field (used_idx_addr q.layout) (next_used q) (with_entries q.layout q.used q.positions.done m)

-- 2.7.7, 2.7.10: the driver wants a notice of an index that went from old to new: with event indexes where it reaches
-- the position after used_event, else where NO_INTERRUPT isn't set
unfoldable pub wants_notice : Layout → ℕ → ℕ → Contents → Bool
wants_notice l old new m =
    if l.event then needs_event (field_at m (used_event_addr l)) new old
    else bit_and (field_at m (avail_flags_addr l)) 1 == 0

-- the queue after a publication
abbrev pub with_published : Queue → Queue
with_published q = record q { positions = all_published q.positions; used = next_used q }

-- 2.7.10: the used ring's flags with NO_NOTIFY set or cleared; the other bits stay
abbrev pub flags_with : Bool → ℕ → ℕ
flags_with on flags = if on then bit_and flags 65534 else bit_or flags 1

-- the memory where the driver was told that notices are wanted, or aren't: with event indexes avail_event is the next
-- position where they are and stays where they aren't, else NO_NOTIFY alone says so
unfoldable pub noticed_at : Layout → ℕ → Bool → Contents → Contents
noticed_at l next on m =
    if l.event then (if on then with_field (avail_event_addr l) next m else m)
    else with_field (used_flags_addr l) (flags_with on (field_at m (used_flags_addr l))) m

abbrev pub noticed_in : Bool → Queue → Contents → Contents
noticed_in on q m = noticed_at q.layout q.positions.next on m

-- the queue that begins to serve a ring: the used index is the ring's, and no fault stops it
abbrev pub started : Contents → Queue → Queue
started m q = record q { used = field_at m (used_idx_addr q.layout); stopped = None }
