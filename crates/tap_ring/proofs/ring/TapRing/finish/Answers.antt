use Rattle.std.proofs.Common.{arith, [], ◌≡◌, ◌%◌, ℕ, List, length, sym, ap, ◌∙◌, subst}
use Rattle.std.specs.Mem.Slots.{slots_items, slots_counts}
use Rattle.tap_frame.specs.Frame.{FrameValue}
use Rattle.tap_ring.specs.declared.rule.Consumed.{Consumed}
use Rattle.tap_ring.specs.declared.rule.Kept.{Kept}
use Rattle.tap_ring.specs.declared.rule.View.{View}
use Rattle.tap_ring.specs.declared.rule.Plan.{Plan}
use Rattle.tap_ring.specs.GateWord.{claimed_of}
use Rattle.tap_ring.specs.Tokens.{Token}
use Rattle.tap_ring.specs.Calls.{RingValue}
use Rattle.tap_ring.specs.Finish.{IsEnd}
use Rattle.tap_ring.specs.Steps.{Seated}
use Rattle.tap_ring.specs.Leaving.{present, slots_from, gathered}
use Rattle.tap_ring.proofs.Lines.{index_there}
use Rattle.tap_ring.proofs.Ends.{ended}
use Rattle.tap_ring.proofs.ring.TapRing.finish.Goals as goal

pub returns : goal.returns
returns c =
    let closed = c.close_with-closed.result in
    let k = c.c.invariant in
    let v : View = c.c.inside.seat.me.0 in
    let theirs : Kept = c.args.k.view in
    let j = c.join_keeper.ensures.joined in
    let g = c.gather.ensures.gathered ∙ ap (λ (m : Seated). (gathered m.0 c.args.all.items, [])) j in
    let plan = c.self.inside.table.shared.key in
    let plan_is = ap (λ (r : RingValue). r.plan) c.self.view_is in
    let view_is = ap (λ (t : Token Consumed). t.view) c.c.view_is in
    let long : length (slots_items closed.slots) ≡ c.from.result = sym (slots_counts closed.slots).0 ∙ c.close_with-closed.ensures.counts.1 ∙ c.self.invariant.1 ∙ sym c.from.ensures in
    let word = index_there (slots_items closed.words) 0 c.word.result c.word.ensures in
    let producers = c.requires.producers.1 in
    let more = c.gather.ensures.parts in
    let none = k.0.parts in
    let named = ap (λ p. p.producers) plan_is in
    let joined = ap (λ (m : Seated). m.0.parts) j in
    let end = ended plan (slots_items closed.words) (slots_items closed.slots) c.gather.new.seat.id c.from.result c.claimed_of-claimed.result v c.gather.new.seat.me.0 theirs c.args.all.items
    c.close_with-closed.ensures.values.2 long (ap (λ (m : Seated). m.0) g) (omega (arith, more, none, producers, named, joined)) k.0.takes k.0.in_hand k.0.putting k.0.mine k.0.spent
    (c.claimed_of-claimed.ensures ∙ ap claimed_of (sym word)) in
    subst (λ (x : Plan × Consumed × ℕ × ℕ × List FrameValue). IsEnd x.0 c.args.all.items x.1 theirs c.claimed_of-claimed.result x.2 x.3 x.4)
    (λ i. (plan_is i, view_is i, sym k.3 i, sym k.2 i, (ap (λ n. present (slots_from (n % c.from.result) (slots_items closed.slots))) (sym k.3) ∙ sym c.empty_from-left.ensures) i)) end
