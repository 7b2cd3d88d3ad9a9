-- The device of a file is one of the names.
use Rattle.std.proofs.Common.{ℕ, ◌<◌, Option, IfSome, sym, subst}
use Rattle.tap_steer.proofs.Homes.{home_is_named}
use Rattle.tap_steer.proofs.steer.Steer.device_of.Goals as goal

pub returns-clause-named : goal.returns-clause-named
returns-clause-named c =
    subst (λ (o : Option ℕ). IfSome o (λ d. d < 64)) (sym c.device_of.ensures) (home_is_named c.self.inside.state c.self.invariant c.args.file)
