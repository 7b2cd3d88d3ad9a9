use Rattle.std.proofs.Common.{◌≡◌, ℕ, ◌<◌, false, length, get_or}
use Rattle.ebpf_code.specs.Faults.{is_second}
use Rattle.ebpf_code.proofs.check.second_slots.Given as goal

abbrev pub invariant-loop-place : goal.invariant-loop-place
invariant-loop-place l = record {
  long : length l.flags.items ≡ l.place;
  each : (p : ℕ) → p < l.place → get_or l.flags.items p false ≡ is_second l.bytes p;
  now : l.second ≡ is_second l.bytes l.place;
}
