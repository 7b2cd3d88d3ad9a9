use Rattle.std.proofs.Common.{subst, sym}
use Rattle.tap_guests.specs.Kept.{side_of}
use Rattle.tap_guests.specs.Side.{Side}
use Rattle.tap_guests.specs.Within.{IsIn, blank}
use Rattle.tap_guests.proofs.Area.{features_good, in_with}
use Rattle.tap_guests.proofs.side.VhostSide.set_features.Goals as goal

pub returns-clause-within : goal.returns-clause-within
returns-clause-within c = λ rs h.
    let s = side_of c.self.inside in
    let inside = subst (λ (x : Side). IsIn rs x) (sym c.self.view_is) h in
    rw c.set_features.ensures.settings
    (in_with rs _ s (features_good c.args.bits (blank rs) s.vhost.settings inside.good) inside)
