-- This project's own: how a driver's books are kept.
use Rattle.std.specs.Prelude.{◌≡◌, ◌+◌, ◌^◌, ◌<◌, ◌≤◌, length, All, IfSome}
use Rattle.packed_drive.specs.declared.driver.PackedDriver.TheInside.{Inside}
use Rattle.packed_drive.specs.Area.{area_len}
use Rattle.packed_drive.specs.Books.{Books, total}

-- the books that the fields stand for
abbrev pub books_of : Inside → Books
books_of d = record { start = d.at; num = d.num; out = d.out.items; next = d.next; used = d.used }

-- the places lie in the ring, each chain that is out has a descriptor, and together with the free ones these are all of
-- the ring's
pub record IsKept (d : Inside) : Type 0 where
  pub some : 1 ≤ d.num
  pub most : d.num ≤ 32768
  pub fits : d.at + area_len d.num < 2 ^ 64
  pub next : d.next.at < d.num
  pub used : d.used.at < d.num
  pub ids : length d.out.items ≡ d.num
  pub counts : All (λ o. IfSome o (λ count. 1 ≤ count)) d.out.items
  pub free : d.free + total d.out.items ≡ d.num
