use Rattle.std.proofs.Common.{◌≡◌, ℕ, ◌<◌, ◌≤◌, ◌&&◌, false, length, get_or}
use Rattle.ebpf_code.proofs.set.RegisterSet.meet.Given as goal

abbrev pub invariant-loop-register : goal.invariant-loop-register
invariant-loop-register l = record {
  long : length l.self.set ≡ 11;
  done : (r : ℕ) → r < l.register → get_or l.self.set r false ≡ (get_or l.fn.self.set r false && get_or l.other.set r false);
  left : (r : ℕ) → l.register ≤ r → get_or l.self.set r false ≡ get_or l.fn.self.set r false;
}
