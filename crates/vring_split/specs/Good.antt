-- VIRTIO 1.2, 2.7: the layouts that a device can work with.
use Rattle.std.specs.Prelude.{ℕ, ◌≤◌, Bool, ◌&&◌, nat_le, IsTrue}
use Rattle.std.specs.Int.{is_power_of_two}
use Rattle.vring_split.specs.declared.layout.Layout.{Layout}
use Rattle.vring_split.specs.Split.{desc_len, avail_len, used_len}

-- a layout is good for a memory, of which a test tells whether the bytes from an address on are there: the queue
-- size is a power of two up to 32,768, and the three parts lie in the memory
pub record IsGoodFor (l : Layout) (covers : ℕ → ℕ → Bool) : Type 0 where
  pub power : IsTrue (is_power_of_two l.num)
  pub most : l.num ≤ 32768
  pub desc : IsTrue (covers l.desc (desc_len l.num))
  pub avail : IsTrue (covers l.avail (avail_len l.num))
  pub used : IsTrue (covers l.used (used_len l.num))

-- the same as a test
abbrev pub is_good_for : Layout → (ℕ → ℕ → Bool) → Bool
is_good_for l covers =
    is_power_of_two l.num && nat_le l.num 32768 && covers l.desc (desc_len l.num)
    && covers l.avail (avail_len l.num) && covers l.used (used_len l.num)
