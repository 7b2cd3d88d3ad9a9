use Rattle.std.proofs.Common.{arith}
use Rattle.core_open.proofs.Putting.{made_more}
use Rattle.core_open.proofs.numbered.reach.Goals as goal

pub loop-preserved : goal.loop-preserved
loop-preserved g c =
    let from = c.loop.invariant.from in
    let test = c.loop-test.true in
    let to = c.loop.invariant.to in
    let end = c.loop.invariant.end in
    record {
      made = made_more _ _ _ c.loop.counter c.loop.invariant.made from c.in_ok-push.ensures.items;
      from = omega (arith, from);
      to = omega (arith, to, test, end);
      end = end;
    }
