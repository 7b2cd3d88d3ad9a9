use Rattle.std.proofs.Common.{arith, ◌≡◌, ◌≢◌, ◌-◌, ◌++◌, ◌∷◌, [], true, false, eqb, sym, ap, ◌∙◌, ⊎_elim, append_assoc, take, drop, slice_index_or}
use Rattle.std.proofs.lemmas.Bool.Decides.{eqb_tells}
use Rattle.std.specs.Mem.Slots.{slots_items, slots_filled}
use lib.ListN.{get_elem?}
use Rattle.tap_ring.specs.Leaving.{present}
use Rattle.tap_ring.proofs.Lines.{present_more, set_false_here, set_false_else}
use Rattle.tap_ring.proofs.ending.empty_slots.Goals as goal

pub loop-i-preserved : goal.loop-i-preserved
loop-i-preserved c =
    let l = c.loop-i.invariant in
    let i = c.loop-i.i in
    let t = c.take.ensures in
    let was = slots_filled c.loop-i.closed.slots in
    let xs = slots_items c.args.closed.now.slots in
    let from = c.loop-i.auto.i in
    let room = l.room in
    let more = c.keep.ensures.len in
    let filled = t.others.1 in
    let there = sym (ap (λ ys. get_elem? ys i) l.items) ∙ t.value in
    record {
      items = t.others.0 ∙ l.items;
      len = t.others.2 ∙ l.len;
      emptied = λ k low high. ap (λ f. slice_index_or f k false) filled ∙ ⊎_elim
          (λ (e : (eqb k i ≡ true) × (k ≡ i)). ap (λ m. slice_index_or (Rattle.std.specs.Prelude.slice_set was i false) m false) e.1 ∙ set_false_here was i)
          (λ (e : (eqb k i ≡ false) × (k ≢ i)). let ne = e.1 in set_false_else was i k ne ∙ l.emptied k low (omega (arith, high, ne)))
          (eqb_tells k i);
      others = λ k low. ap (λ f. slice_index_or f k false) filled ∙ set_false_else was i k (λ e. omega (arith, e, low, from)) ∙ l.others k low;
      ahead = λ k high. ap (λ f. slice_index_or f k false) filled ∙ set_false_else was i k (λ e. omega (arith, e, high)) ∙ l.ahead k (omega (arith, high));
      left =
          c.keep.ensures.items
          ∙ ap (λ ys. ys ++ present (c.take.result ∷ [])) l.left
          ∙ append_assoc c.args.left.now.items (present (take (i - c.args.from) (drop c.args.from xs))) (present (c.take.result ∷ []))
          ∙ ap (λ ys. c.args.left.now.items ++ ys) (sym (present_more xs c.args.from i c.take.result from there));
      capacity = c.keep.ensures.capacity ∙ l.capacity;
      room = omega (arith, room, more, from);
    }
