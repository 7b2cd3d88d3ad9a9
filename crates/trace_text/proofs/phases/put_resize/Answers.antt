use Rattle.std.proofs.Common.{◌≡◌, None, rules, sym}
use Rattle.trace_text.specs.Building.{with_resize}
use Rattle.trace_text.proofs.Adds.{behind_put, behind_refused}
use Rattle.trace_text.proofs.phases.put_resize.Goals as goal

pub returns-in_default-resized : goal.returns-in_default-resized
returns-in_default-resized c =
    let none : with_resize c.args.claimed c.args.freed c.args.cut c.in-Some.line.answer ≡ None = search rules in
    behind_refused (with_resize c.args.claimed c.args.freed c.args.cut) c.args.phase.now c.pop.new.self c.in-Some.line c.in-Some.ensures none

pub returns : goal.returns
returns c =
    behind_put (with_resize c.args.claimed c.args.freed c.args.cut) c.args.phase.now c.pop.new.self c.push.new.self c.in-Some.line c.in-Some-resized.answer c.in-Some.ensures (sym c.in-Some-resized.ensures) c.in_ok-push.ensures.ok
