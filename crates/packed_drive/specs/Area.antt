-- This project's own: where a driver puts a packed ring and its data.
use Rattle.std.specs.Prelude.{ℕ, ◌+◌, ◌*◌, ◌%◌, Bool, ◌==◌, not, Option, Some, IsTrue, if◌then◌else◌}
use Rattle.std.specs.Option.{option_map}
use Rattle.guest_mem.specs.Memory.{Contents, first_bad, covers}
use Rattle.vring_drive.specs.declared.error.DriveErr.{DriveErr}
use Rattle.vring_drive.specs.declared.error.DriveErr.TheVariants.{Unaligned, Outside}
use Rattle.vring_drive.specs.Area.{slot_len, up_to}
use Rattle.vring_packed.specs.Packed.{ring_len, area_len as notice_len}
use Rattle.vring_packed.specs.declared.layout.PackedLayout.{PackedLayout}

-- how far behind the ring's start the driver area, the device area and the data slots start, and where they end: each
-- descriptor has a slot of 2,048 bytes
abbrev pub data_offset : ℕ → ℕ
data_offset num = up_to 16 (ring_len num + notice_len + notice_len)

abbrev pub area_len : ℕ → ℕ
area_len num = data_offset num + slot_len * num

-- the ring of a driver at an address
abbrev pub layout_at : ℕ → ℕ → Bool → Bool → Bool → PackedLayout
layout_at start size ind ev dir = record {
  num = size;
  ring = start;
  driver = start + ring_len size;
  device = start + ring_len size + notice_len;
  indirect = ind;
  event = ev;
  rx = dir;
}

-- where the data slot of an entry of the ring starts
abbrev pub slot_at : ℕ → ℕ → ℕ → ℕ
slot_at start num entry = start + (data_offset num + slot_len * entry)

-- the whole area of a ring and its data lies in a memory
abbrev pub IsIn : ℕ → ℕ → Contents → Type 0
IsIn start num m = IsTrue (covers m.regions start (area_len num))

-- why an area can't be used: it doesn't start at a multiple of 16, or a byte of it isn't there
abbrev pub drive_refusal : Contents → ℕ → ℕ → Option DriveErr
drive_refusal m start num =
    if not (start % 16 == 0) then Some Unaligned else option_map Outside (first_bad m.regions start (area_len num))
