use Rattle.std.proofs.Common.{subst, sym}
use Rattle.tap_guests.specs.Kept.{side_of}
use Rattle.tap_guests.specs.Side.{Side}
use Rattle.tap_guests.specs.Within.{IsIn}
use Rattle.tap_guests.proofs.Area.{in_base}
use Rattle.tap_guests.proofs.side.VhostSide.set_base.Goals as goal

pub returns-clause-within : goal.returns-clause-within
returns-clause-within c = λ rs h.
    in_base rs c.args.ring c.args.base (side_of c.self.inside) c.set_base.new.self c.set_base.result
    c.set_base.ensures.refused c.set_base.ensures.begun c.set_base.ensures.unchanged
    (subst (λ (x : Side). IsIn rs x) (sym c.self.view_is) h)
