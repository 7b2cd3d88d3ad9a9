-- This project's own: where a driver puts a ring (VIRTIO 1.2, 2.7) and its data, and positions.
use Rattle.std.specs.Prelude.{◌≡◌, ℕ, ◌+◌, ◌-◌, ◌*◌, ◌/◌, ◌%◌, ◌^◌, Bool, ◌==◌, not, Option, Some, IsTrue, if◌then◌else◌}
use Rattle.std.specs.Option.{option_map}
use Rattle.guest_mem.specs.Memory.{Contents, first_bad, covers}
-- the 16-bit field at an address, and the memory with a number in it
unfoldable pub use Rattle.guest_mem.specs.Memory.{le16_at as field_at, with_le16 as with_field}
use Rattle.vring_split.specs.Split.{desc_len, avail_len, used_len}
use Rattle.vring_split.specs.declared.layout.Layout.{Layout}
use Rattle.vring_drive.specs.declared.error.DriveErr.{DriveErr}
use Rattle.vring_drive.specs.declared.error.DriveErr.TheVariants.{Unaligned, Outside}

-- the bytes of a data slot; each descriptor has one
abbrev pub slot_len : ℕ
slot_len = 2048

-- the next multiple of a step
abbrev pub up_to : ℕ → ℕ → ℕ
up_to step n = (n + (step - 1)) / step * step

-- how far behind the descriptor table the available ring, the used ring and the data slots start, and where they end
abbrev pub avail_offset : ℕ → ℕ
avail_offset num = desc_len num

abbrev pub used_offset : ℕ → ℕ
used_offset num = up_to 4 (avail_offset num + avail_len num)

abbrev pub data_offset : ℕ → ℕ
data_offset num = up_to 16 (used_offset num + used_len num)

abbrev pub area_len : ℕ → ℕ
area_len num = data_offset num + slot_len * num

-- the ring of a driver at an address
abbrev pub layout_at : ℕ → ℕ → Bool → Bool → Bool → Layout
layout_at start size ev ind dir = record {
  num = size;
  desc = start;
  avail = start + avail_offset size;
  used = start + used_offset size;
  indirect = ind;
  event = ev;
  rx = dir;
}

-- a layout is that of a driver at its first address
abbrev pub IsLaidOut : Layout → Type 0
IsLaidOut l = l ≡ layout_at l.desc l.num l.event l.indirect l.rx

-- the whole area of a ring and its data lies in a memory
abbrev pub IsIn : Layout → Contents → Type 0
IsIn l m = IsTrue (covers m.regions l.desc (area_len l.num))

-- where the data slot of a descriptor starts
abbrev pub slot_at : Layout → ℕ → ℕ
slot_at l d = l.desc + (data_offset l.num + slot_len * d)

-- why an area can't be used: it doesn't start at a multiple of 16, or a byte of it isn't there
abbrev pub drive_refusal : Contents → ℕ → ℕ → Option DriveErr
drive_refusal m start num =
    if not (start % 16 == 0) then Some Unaligned else option_map Outside (first_bad m.regions start (area_len num))

-- a position further on, and how far one lies behind another; from 65,535 on to 0
abbrev pub after : ℕ → ℕ → ℕ
after position count = (position + count) % 2 ^ 16
