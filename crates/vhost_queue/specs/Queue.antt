-- VIRTIO 1.2, 2.7, and this project's own: what a device keeps of a split ring that it serves.
use Rattle.std.specs.Prelude.{ℕ, ◌-◌, ◌≤◌, min, Bool, false, [], length, Option, None, IsTrue}
use Rattle.std.specs.Int.{is_power_of_two}
use Rattle.guest_mem.specs.Memory.{Contents, covers}
use Rattle.vring_split.specs.Good.{IsGoodFor}
use Rattle.vring_split.specs.declared.fault.RingFault.{RingFault}
use Rattle.vring_split.specs.declared.layout.Layout.{Layout}
use Rattle.vhost_queue.specs.Positions.{Positions}

-- the ring's layout, the lists of positions, the used index, and the fault that stopped the ring
pub record Queue : Type 0 where
  pub layout : Layout
  pub positions : Positions
  pub used : ℕ
  pub stopped : Option RingFault

-- the same, and how many places for published chains are reserved
pub record Reserved : Type 0 where
  pub queue : Queue
  pub reserved : ℕ

-- how many chains can be served and not done, and how many done and not published
abbrev pub most_gathered : ℕ
most_gathered = 1024

abbrev pub most_done : ℕ
most_done = 1087

-- how many places a turn reserves
abbrev pub turn_places : ℕ
turn_places = 2047

-- how many more chains can be done before the next publication, where so many places are reserved
abbrev pub room_in : Positions → ℕ → ℕ
room_in p reserved = min most_done reserved - length p.done

abbrev pub room_of : Reserved → ℕ
room_of r = room_in r.queue.positions r.reserved

-- 2.7: a queue size
pub record IsQueueSize (num : ℕ) : Type 0 where
  pub power : IsTrue (is_power_of_two num)
  pub most : num ≤ 32768

-- the layout lies in the memory
abbrev pub IsGood : Queue → Contents → Type 0
IsGood q m = IsGoodFor q.layout (covers m.regions)

-- a queue as it begins: one entry, every part at 0, no feature, and nothing served
abbrev pub first_layout : Bool → Layout
first_layout rx =
    record { num = 1; desc = 0; avail = 0; used = 0; indirect = false; event = false; rx = rx }

abbrev pub first_positions : Positions
first_positions = record { next = 0; gathered = 0; done = []; journal = [] }

abbrev pub first_queue : Bool → Queue
first_queue rx =
    record { layout = first_layout rx; positions = first_positions; used = 0; stopped = None }
