use Rattle.std.proofs.Common.{◌≡◌, ℕ, ◌+◌, ◌-◌, ◌<◌, ◌≤◌, false, ◌++◌, take, drop, vec_len, vec_capacity, slice_index_or}
use Rattle.std.specs.Mem.Slots.{slots_items, slots_filled, slots_len}
use Rattle.tap_ring.specs.Leaving.{present}
use Rattle.tap_ring.proofs.ending.empty_slots.Given as goal

abbrev pub invariant-loop-i : goal.invariant-loop-i
invariant-loop-i l = record {
  items : slots_items l.closed.slots ≡ slots_items l.fn.closed.slots;
  len : slots_len l.closed.slots ≡ slots_len l.fn.closed.slots;
  emptied : (k : ℕ) → l.from ≤ k → k < l.i → slice_index_or (slots_filled l.closed.slots) k false ≡ false;
  others : (k : ℕ) → k < l.from → slice_index_or (slots_filled l.closed.slots) k false ≡ slice_index_or (slots_filled l.fn.closed.slots) k false;
  ahead : (k : ℕ) → l.i ≤ k → slice_index_or (slots_filled l.closed.slots) k false ≡ slice_index_or (slots_filled l.fn.closed.slots) k false;
  left : l.left.items ≡ l.fn.left.items ++ present (take (l.i - l.from) (drop l.from (slots_items l.fn.closed.slots)));
  capacity : vec_capacity l.left ≡ vec_capacity l.fn.left;
  room : vec_len l.left ≤ vec_len l.fn.left + (l.i - l.from);
}
