use Rattle.std.proofs.Common.{refl}
use Rattle.tap_bridge.proofs.laws.bridge_examples.Goals as goal

pub returns-clause-frames : goal.returns-clause-frames
returns-clause-frames c = record {
  first_learnt = refl;
  first_flooded = refl;
  second_learnt = refl;
  second_to_one = refl;
  own_port = refl;
  to_itself = refl;
  to_group = refl;
  source_group = refl;
  moved = refl;
}

pub returns-clause-ages : goal.returns-clause-ages
returns-clause-ages c = record { one_less = refl; exactly = refl; port_gone = refl; back_again = refl }

pub returns-clause-full : goal.returns-clause-full
returns-clause-full c = record { last = refl; one_more = refl; known = refl }
