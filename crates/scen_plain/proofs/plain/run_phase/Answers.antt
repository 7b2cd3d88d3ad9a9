use Rattle.std.proofs.Common.{sym, ◌∙◌}
use Rattle.scen_plain.proofs.OnePhase.{goes_on_first, goes_on_more, went_on}
use Rattle.scen_plain.proofs.plain.run_phase.Goals as goal

pub loop-init : goal.loop-init
loop-init c = goes_on_first c.args.x c.args.core

pub returns-in-Ok-None : goal.returns-in-Ok-None
returns-in-Ok-None c =
    let none = c.in-Ok-None in
    went_on c.args.x c.args.core c.loop.y c.move_on-moved.result c.loop.running c.loop.invariant c.move_on-moved.ensures
    (sym none.ensures.picked ∙ none.field-0-is) (none.ensures.ended none.field-0-is)

pub loop-preserved : goal.loop-preserved
loop-preserved c =
    let some = c.in-Ok-Some in
    let applied = c.in_ok-running-in-Ok-Some in
    goes_on_more c.args.x c.args.core c.loop.y c.move_on-moved.result c.loop.running applied.field-0.0 some.event
    applied.field-0.1 c.loop.invariant c.move_on-moved.ensures (sym some.ensures.picked ∙ some.field-0-is) applied.ensures
