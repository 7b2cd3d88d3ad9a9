use Rattle.std.proofs.Common.{arith, ◌≡◌, ◌-◌, ◌++◌, take, drop, length, sym, ap, ◌∙◌}
use Rattle.std.specs.Mem.Slots.{slots_items, slots_counts}
use Rattle.tap_ring.specs.Leaving.{present}
use Rattle.tap_ring.proofs.Lines.{present_parts, whole_stretch}
use Rattle.tap_ring.proofs.ending.empty_from.Goals as goal

pub returns : goal.returns
returns c =
    let xs = slots_items c.args.closed.slots in
    let one = c.empty_slots.ensures in
    let two = c.empty_slots-2.ensures in
    let most : length xs ≡ c.from.result = sym (slots_counts c.args.closed.slots).0 ∙ c.requires.slots.0 ∙ sym c.from.ensures in
    two.left
    ∙ ap (λ l. l ++ present (take (c.args.start - 0) (slots_items c.empty_slots.new.closed.slots))) (one.left ∙ ap (λ l. l ++ present (take (c.from.result - c.args.start) (drop c.args.start xs))) c.requires.room.0)
    ∙ ap (λ ys. present (take (c.from.result - c.args.start) (drop c.args.start xs)) ++ present (take (c.args.start - 0) ys)) one.items
    ∙ ap (λ m. present (take (c.from.result - c.args.start) (drop c.args.start xs)) ++ present (take m xs)) (let z : c.args.start - 0 ≡ c.args.start = omega arith in z)
    ∙ ap (λ ys. present ys ++ present (take c.args.start xs)) (whole_stretch xs c.args.start c.from.result most)
    ∙ sym (present_parts (drop c.args.start xs) (take c.args.start xs))
