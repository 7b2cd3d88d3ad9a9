use Rattle.std.proofs.Common.{ap}
use Rattle.tap_trace.specs.declared.trace.PositionList.{PositionList}
use Rattle.trace_text.proofs.Adds.{used_put}
use Rattle.trace_text.proofs.parts.put_used.Goals as goal

pub returns : goal.returns
returns c =
    let list : PositionList = record { base = c.in-Some.list.base; used = c.push.new.self } in
    used_put c.args.chain c.args.ring.now c.pop.new.self c.push-2.new.self c.in-Some.list list c.in-Some.ensures
    (ap (λ us. record { base = c.in-Some.list.base; used = us }) c.in_ok-push.ensures.ok) c.in_ok-push-2.ensures.ok
