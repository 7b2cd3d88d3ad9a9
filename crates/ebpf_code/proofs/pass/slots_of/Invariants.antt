use Rattle.std.proofs.Common.{◌≡◌, ℕ, ◌<◌, length}
use Rattle.std.specs.Prelude.{slice_get}
use Rattle.ebpf_code.specs.Faults.{slot_at, HasNone}
use Rattle.ebpf_code.specs.Sets.{AreKept}
use Rattle.ebpf_code.proofs.pass.slots_of.Given as goal

abbrev pub invariant-loop-place : goal.invariant-loop-place
invariant-loop-place l = record {
  many : length l.sets.items ≡ length l.seconds;
  kept : AreKept l.bytes l.place l.sets.items;
  long : length l.slots.items ≡ l.place;
  each : (p : ℕ) → p < l.place → slice_get l.slots.items p ≡ slot_at l.bytes p;
  none : (p : ℕ) → p < l.place → HasNone l.bytes p;
}
