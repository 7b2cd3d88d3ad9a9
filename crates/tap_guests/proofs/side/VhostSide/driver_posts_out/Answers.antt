use Rattle.std.proofs.Common.{subst, sym}
use Rattle.tap_guests.specs.Kept.{side_of}
use Rattle.tap_guests.specs.Side.{Side}
use Rattle.tap_guests.specs.Within.{IsIn}
use Rattle.tap_guests.proofs.Area.{in_rx_driver, in_tx_driver}
use Rattle.tap_guests.proofs.side.VhostSide.driver_posts_out.Goals as goal

pub returns-then-ring-eq0-clause-within : goal.returns-then-ring-eq0-clause-within
returns-then-ring-eq0-clause-within c =
    in_rx_driver c.args.mem.now.regions c.post_out.new.driver (side_of c.self.inside) c.post_out.ensures.area
    (subst (λ (x : Side). IsIn c.args.mem.now.regions x) (sym c.self.view_is) c.requires.within)

pub returns-else-ring-eq0-clause-within : goal.returns-else-ring-eq0-clause-within
returns-else-ring-eq0-clause-within c =
    in_tx_driver c.args.mem.now.regions c.post_out-else-ring-eq0.new.driver (side_of c.self.inside)
    c.post_out-else-ring-eq0.ensures.area
    (subst (λ (x : Side). IsIn c.args.mem.now.regions x) (sym c.self.view_is) c.requires.within)
