use Rattle.std.proofs.Common.{refl}
use Rattle.tap_steer.specs.Rules.{refuse}
use Rattle.core_calls.proofs.publishing.publish_unset.Goals as goal

pub publish-requires-clause-lawful : goal.publish-requires-clause-lawful
unfolding refuse
publish-requires-clause-lawful c = refl
