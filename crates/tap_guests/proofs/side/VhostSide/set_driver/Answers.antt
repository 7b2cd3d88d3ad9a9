use Rattle.std.proofs.Common.{subst, sym}
use Rattle.tap_guests.specs.Kept.{side_of}
use Rattle.tap_guests.specs.Side.{Side}
use Rattle.tap_guests.specs.Within.{IsIn}
use Rattle.tap_guests.proofs.Area.{in_rx_driver, in_tx_driver}
use Rattle.tap_guests.proofs.side.VhostSide.set_driver.Goals as goal

pub returns-then-ring-eq0-clause-within : goal.returns-then-ring-eq0-clause-within
returns-then-ring-eq0-clause-within c = λ rs area h.
    in_rx_driver rs c.put.new.place (side_of c.self.inside) (rw c.put.ensures area)
    (subst (λ (x : Side). IsIn rs x) (sym c.self.view_is) h)

pub returns-else-ring-eq0-clause-within : goal.returns-else-ring-eq0-clause-within
returns-else-ring-eq0-clause-within c = λ rs area h.
    in_tx_driver rs c.put-else-ring-eq0.new.place (side_of c.self.inside) (rw c.put-else-ring-eq0.ensures area)
    (subst (λ (x : Side). IsIn rs x) (sym c.self.view_is) h)
