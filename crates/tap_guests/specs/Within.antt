-- This project's own: a vhost and the regions of its guest's memory.
use Rattle.std.specs.Prelude.{[], List, Option, IfSome, IsTrue}
use Rattle.guest_mem.specs.Memory.{Contents, covers}
use Rattle.guest_mem.specs.declared.region.Region.{Region}
use Rattle.vhost_dev.specs.Laws.{BackedAreGood}
use Rattle.vring_drive.specs.Area.{area_len}
use Rattle.vring_drive.specs.Books.{Books}
use Rattle.vring_turns.specs.Ring.{LieIn}
use Rattle.tap_guests.specs.Side.{Side}

-- a memory of these regions, of zeros
abbrev pub blank : List Region → Contents
blank rs = record { regions = rs; bytes = [] }

-- the whole area of a driver, where there is one, lies in the regions
abbrev pub HasArea : List Region → Option Books → Type 0
HasArea rs driver = IfSome driver (λ b. IsTrue (covers rs b.start (area_len b.num)))

-- Each ring that has a backend lies in the regions, and so do the chains that a worker has gathered, and the areas of
-- the drivers. Of a memory this asks for its regions alone, which never change.
pub record IsIn (rs : List Region) (s : Side) : Type 0 where
  pub good : BackedAreGood (blank rs) s.vhost.settings
  pub rx_driver : HasArea rs s.vhost.rx_driver
  pub tx_driver : HasArea rs s.vhost.tx_driver
  pub rx : IfSome s.rx (λ w. LieIn (covers rs) w.turn.chains)
  pub tx : IfSome s.tx (λ w. LieIn (covers rs) w.turn.chains)

-- it stays where it was, in whatever regions that is
abbrev pub StaysIn : Side → Side → Type 0
StaysIn old new = (rs : List Region) → IsIn rs old → IsIn rs new
