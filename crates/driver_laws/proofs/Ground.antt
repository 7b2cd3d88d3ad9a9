-- The ring's fields and data slots of a driver lie in its area.
use Rattle.std.proofs.Common.{◌≡◌, ℕ, ◌+◌, ◌*◌, ◌^◌, ◌<◌, ◌≤◌, true, List, arith}
use Rattle.guest_mem.specs.declared.region.Region.{Region}
use Rattle.guest_mem.specs.Memory.{covers}
use Rattle.guest_mem.specs.Laws.{PartsAreCovered, CoveredFits, WritesBytes}
use Rattle.vring_split.specs.declared.layout.Layout.{Layout}
use Rattle.vring_split.specs.Laws.{DescIsReadBack}
use Rattle.vring_split.specs.Split.{desc_addr, avail_idx_addr, avail_entry_addr, avail_len, used_len}
use Rattle.vring_drive.specs.Area.{up_to, avail_offset, used_offset, data_offset, area_len, slot_len, slot_at}

-- what is known of memories and descriptors
pub record Known : Type 0 where
  pub parts : PartsAreCovered
  pub fits : CoveredFits
  pub writes : WritesBytes
  pub desc : DescIsReadBack

-- a driver's ring in a memory of these regions
pub record Ground (rs : List Region) (l : Layout) : Type 0 where
  pub some : 0 < l.num
  pub size : l.num ≤ 32768
  pub behind : l.avail ≡ l.desc + 16 * l.num
  pub area : covers rs l.desc (area_len l.num) ≡ true

up_four : (n : ℕ) → n ≤ up_to 4 n
up_four n = omega arith

up_sixteen : (n : ℕ) → n ≤ up_to 16 n
up_sixteen n = omega arith

-- how far the data slots lie behind the ring's table
pub data_behind : (num : ℕ) → 16 * num + (6 + 2 * num) ≤ data_offset num
data_behind num =
    let four = up_four (avail_offset num + avail_len num) in
    let sixteen = up_sixteen (used_offset num + used_len num) in
    omega arith

-- the bytes of a descriptor, of the available ring's fields and of a data slot are there
pub desc_there :
    {rs : List Region} (k : Known) (l : Layout) → Ground rs l → (d : ℕ) → d < l.num → covers rs (desc_addr l d) 16 ≡ true
desc_there {rs} k l g d h =
    let far = data_behind l.num in
    k.parts rs l.desc (area_len l.num) (desc_addr l d) 16 g.area (omega arith) (omega arith)

pub index_there : {rs : List Region} (k : Known) (l : Layout) → Ground rs l → covers rs (avail_idx_addr l) 2 ≡ true
index_there {rs} k l g =
    let far = data_behind l.num in
    let start : l.avail ≡ l.desc + 16 * l.num = g.behind in
    k.parts rs l.desc (area_len l.num) (avail_idx_addr l) 2 g.area (omega arith) (omega arith)

pub entry_there :
    {rs : List Region} (k : Known) (l : Layout) → Ground rs l → (p : ℕ) → covers rs (avail_entry_addr l p) 2 ≡ true
entry_there {rs} k l g p =
    let far = data_behind l.num in
    let start : l.avail ≡ l.desc + 16 * l.num = g.behind in
    let some : 0 < l.num = g.some in
    k.parts rs l.desc (area_len l.num) (avail_entry_addr l p) 2 g.area (omega arith) (omega arith)

pub slot_there :
    {rs : List Region} (k : Known) (l : Layout) → Ground rs l → (d n : ℕ) → d < l.num → n ≤ slot_len
    → covers rs (slot_at l d) n ≡ true
slot_there {rs} k l g d n h small =
    k.parts rs l.desc (area_len l.num) (slot_at l d) n g.area (omega arith) (omega arith)

-- a data slot's address is one
pub slot_fits :
    {rs : List Region} (k : Known) (l : Layout) → Ground rs l → (d : ℕ) → d < l.num → slot_at l d < 2 ^ 64
slot_fits {rs} k l g d h =
    let end = k.fits rs l.desc (area_len l.num) g.area (omega arith) in
    omega arith
