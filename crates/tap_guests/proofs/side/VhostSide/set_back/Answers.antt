use Rattle.std.proofs.Common.{subst, sym}
use Rattle.tap_guests.specs.Kept.{side_of}
use Rattle.tap_guests.specs.Side.{Side}
use Rattle.tap_guests.specs.Within.{IsIn}
use Rattle.tap_guests.proofs.Area.{in_backed}
use Rattle.tap_guests.proofs.side.VhostSide.set_back.Goals as goal

pub returns-in-None-clause-within : goal.returns-in-None-clause-within
returns-in-None-clause-within c =
    rw c.set_backend.ensures
    (in_backed c.args.ring c.args.file c.args.mem.now (side_of c.self.inside) (c.in_ok-answer.ensures.good c.in-None.is)
    (subst (λ (x : Side). IsIn c.args.mem.now.regions x) (sym c.self.view_is) c.requires.within))
