use Rattle.std.proofs.Common.{rules, IsTrue, refl}
use Rattle.std.specs.Int.{is_power_of_two}
use Rattle.vhost_queue.proofs.vq.Vq.new.Goals as goal

one_is_power : IsTrue (is_power_of_two 1)
unfolding lib.Count.ones
one_is_power = refl

pub invariant_of-result : goal.invariant_of-result
invariant_of-result c = record {
  size = record { power = one_is_power; most = search rules };
  gathered = search rules;
  done = search rules;
  done_room = search rules;
  reserved = search rules;
  journal_room = search rules;
}
