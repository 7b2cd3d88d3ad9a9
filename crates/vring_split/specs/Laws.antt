-- VIRTIO 1.2, 2.7: what ties the fields of a ring to their bytes, and the two words for a good layout.
use Rattle.std.specs.Prelude.{◌≡◌, ℕ, ◌^◌, ◌<◌, ◌↔◌, Bool, IsTrue, length}
use Rattle.vring_split.specs.declared.desc.Desc.{Desc}
use Rattle.vring_split.specs.declared.layout.Layout.{Layout}
use Rattle.vring_split.specs.declared.used_elem.UsedElem.{UsedElem}
use Rattle.vring_split.specs.Split.{desc_of, desc_bytes, used_elem_of, used_elem_bytes}
use Rattle.vring_split.specs.Good.{IsGoodFor, is_good_for}

-- the fields of a descriptor fit their bytes
pub record DescFits (d : Desc) : Type 0 where
  pub addr : d.addr < 2 ^ 64
  pub len : d.len < 2 ^ 32
  pub flags : d.flags < 2 ^ 16
  pub next : d.next < 2 ^ 16

-- a descriptor has 16 bytes, and is read back from them
abbrev pub DescIsReadBack : Type 0
DescIsReadBack = (d : Desc) → DescFits d → (length (desc_bytes d) ≡ 16) × (desc_of (desc_bytes d) ≡ d)

-- a used element has 8 bytes, and is read back from them
abbrev pub ElemIsReadBack : Type 0
ElemIsReadBack =
    (e : UsedElem) → e.id < 2 ^ 32 → e.len < 2 ^ 32
    → (length (used_elem_bytes e) ≡ 8) × (used_elem_of (used_elem_bytes e) ≡ e)

-- the test says whether a layout is good
abbrev pub GoodIsTested : Type 0
GoodIsTested = (l : Layout) (covers : ℕ → ℕ → Bool) → IsTrue (is_good_for l covers) ↔ IsGoodFor l covers
