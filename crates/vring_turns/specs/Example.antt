-- VIRTIO 1.2, 2.7: rings on which worked turns run.
use Rattle.std.specs.Prelude.{ℕ, ◌+◌, ◌*◌, Bool, true, List, [], ◌∷◌, ◌++◌, replicate, None}
use Rattle.std.specs.Int.{w16, from_le_bytes, to_le_bytes}
use Rattle.guest_mem.specs.Memory.{ByteList, Contents, bytes_from, with_bytes}
use Rattle.vring_split.specs.declared.layout.Layout.{Layout}
use Rattle.vring_split.specs.Split.{desc_bytes}
use Rattle.vhost_queue.specs.Queue.{Queue}
use Rattle.tap_frame.specs.declared.name.Name.{Name}
use Rattle.tap_frame.specs.Frame.{FrameValue}

-- one region of 65,536 bytes with these bytes
abbrev pub memory_with : ByteList → Contents
memory_with bytes = record { regions = record { addr = 0; len = 65536 } ∷ []; bytes = bytes }

-- a ring of so many entries: its table at 0, its available ring and its used ring behind it
abbrev pub ring_of : Bool → ℕ → ℕ → ℕ → Layout
ring_of rx num avail used =
    record { num = num; desc = 0; avail = avail; used = used; indirect = true; event = true; rx = rx }

-- a queue on a ring, of which nothing was served yet
abbrev pub queue_on : Layout → Queue
queue_on l = record {
  layout = l;
  positions = record { next = 0; gathered = 0; done = []; journal = [] };
  used = 0;
  stopped = None;
}

-- descriptors one after the other from an entry of the table at 0 on: address, length, flags and next of each
abbrev pub with_table : ℕ → List (ℕ × ℕ × ℕ × ℕ) → ByteList → ByteList
with_table at [] bs = bs
with_table at (d ∷ ds) bs =
    with_table (at + 1) ds
    (with_bytes bs (16 * at) (desc_bytes (record { addr = d.0; len = d.1; flags = d.2; next = d.3 })))

-- an available ring: its index, and its first entries
abbrev pub le16s : List ℕ → List ℕ
le16s [] = []
le16s (n ∷ ns) = to_le_bytes w16 n ++ le16s ns

abbrev pub offered_at : ℕ → ℕ → List ℕ → ByteList → ByteList
offered_at avail index heads bs = with_bytes bs (avail + 2) (le16s (index ∷ heads))

-- the 16-bit number at an address
abbrev pub number_at : ℕ → Contents → ℕ
number_at addr m = from_le_bytes w16 (bytes_from m.bytes addr 2)

-- the frame from 02:00:00:00:00:01 to 02:00:00:00:00:02, with so many zeros behind its 14 bytes
abbrev pub ethernet : List ℕ
ethernet = 2 ∷ 0 ∷ 0 ∷ 0 ∷ 0 ∷ 1 ∷ 2 ∷ 0 ∷ 0 ∷ 0 ∷ 0 ∷ 2 ∷ 8 ∷ 0 ∷ []

abbrev pub name_of : ℕ → Name
name_of part = record { actor = 0; turn = 9; part = part }

abbrev pub frame_with : ℕ → ℕ → FrameValue
frame_with part zeros = record {
  name = name_of part;
  hdr = replicate 10 0;
  made = ethernet ++ replicate zeros 0;
  mark = 14 + zeros;
}
