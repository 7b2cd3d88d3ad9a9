use Rattle.tap_flow_key.proofs.KeyLemmas.{hash-reply}
use Rattle.tap_flow_key.proofs.laws.replies_have_one_hash.Goals as goal

pub returns : goal.returns
returns c = hash-reply
