use Rattle.std.proofs.Common.{◌≡◌, ℕ, ◌<◌, ◌≤◌, Some, false, length, get_or}
use Rattle.ebpf_code.specs.Faults.{set_after}
use Rattle.ebpf_code.specs.Sets.{read}
use Rattle.ebpf_code.proofs.set.RegisterSet.after.Given as goal

abbrev pub invariant-loop-register : goal.invariant-loop-register
invariant-loop-register l = record {
  long : length l.after.set ≡ 11;
  done : (r : ℕ) → r < l.register → get_or l.after.set r false ≡ set_after (Some (read l.decoded)) (get_or l.self.set r false) r;
  left : (r : ℕ) → l.register ≤ r → get_or l.after.set r false ≡ get_or l.self.set r false;
}
