use Rattle.std.proofs.Common.{◌∙◌, sym, arith}
use Rattle.std.proofs.lemmas.Bool.{eqb-true}
use Rattle.vhost_dev.proofs.Sizes.{size_below}
use Rattle.vhost_dev.proofs.checks.queue_size.Goals as goal

pub returns-in-Ok-clause-good : goal.returns-in-Ok-clause-good
returns-in-Ok-clause-good c =
    let power = sym c.is_power_of_two.ensures ∙ c.if-is_power_of_two.true in
    record {
      power = power;
      most = size_below c.in-Ok.size (eqb-true _ _ power) (omega arith);
    }
