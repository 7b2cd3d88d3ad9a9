-- This project's own: how a driver's books are kept.
use Rattle.std.specs.Prelude.{◌+◌, ◌^◌, ◌<◌, ◌≤◌, All, IsTrue}
use Rattle.std.specs.Map.{values_of}
use Rattle.std.specs.Int.{is_power_of_two}
use Rattle.vring_drive.specs.declared.driver.Driver.TheInside.{Inside}
use Rattle.vring_drive.specs.Area.{area_len}
use Rattle.vring_drive.specs.Books.{Books}

-- the books that the fields stand for
abbrev pub books_of : Inside → Books
books_of d = record {
  start = d.at;
  num = d.num;
  event = d.event;
  free = d.free.keys;
  out = d.out.entries;
  avail = d.avail;
  used = d.used;
}

-- the queue size is a power of two up to 32,768, and each descriptor is one of the ring's
pub record IsKept (d : Inside) : Type 0 where
  pub power : IsTrue (is_power_of_two d.num)
  pub most : d.num ≤ 32768
  pub fits : d.at + area_len d.num < 2 ^ 64
  pub free : All (λ i. i < d.num) d.free.keys
  pub out : All (λ chain. All (λ i. i < d.num) chain) (values_of d.out.entries)
