use Rattle.std.proofs.Common.{◌-◌, length, drop, ◌∙◌, arith}
use Rattle.std.proofs.lemmas.List.{length-drop, length-take}
use Rattle.tap_top.proofs.Passing.{Appends-front}
use Rattle.tap_top.proofs.ends.write_all.Goals as goal

pub loop-done-preserved : goal.loop-done-preserved
loop-done-preserved g c =
    let e = c.in_ok-done.ensures in
    let most = e.some.1 in
    let text = c.args.text.now in
    let i = c.loop-done.invariant in
    record {
      within = omega (arith, most, length-take (length text - c.loop-done.done) (drop c.loop-done.done text), length-drop c.loop-done.done text);
      so_far = Appends-front _ _ _ text c.loop-done.done c.in_ok-done.field-0 i.so_far e.appended;
      no_fault = e.no_fault ∙ i.no_fault;
      reliable = λ r. (e.reliable (i.reliable r)).0;
    }
