use Rattle.std.proofs.Common.{sym, ◌∙◌}
use Rattle.tap_core.proofs.Firsts.{ends, no_line, not_empty, not_there}
use Rattle.tap_core.proofs.settle.ending.Goals as goal
use Rattle.tap_core.proofs.settle.ending.Goals.{else-has-via-then-has+else-is_empty, else-has-via-else-has}

pub returns-in_err-line : goal.returns-in_err-line
returns-in_err-line c =
    rw (c.from_residual-in_err-line.ensures)
    (no_line c.args.scenario.now c.args.shared.now c.args.actors.now c.in_ok-actor.actor c.in-Purges.file c.in-Purges.version
    c.in_ok-state.state.now c.in_ok-actor.was (sym c.in_ok-state.ensures) (sym c.doing.ensures ∙ c.in-Purges.is)
    c.requires (sym c.in_err-line.ensures))

pub returns-then-is_empty : goal.returns-then-is_empty
returns-then-is_empty c =
    ends c.args.scenario.now c.args.shared.now c.args.actors.now c.in_ok-actor.actor c.in-Purges.file c.in-Purges.version
    c.in_ok-state.state.now c.in_ok-actor.was (sym c.in_ok-state.ensures) (sym c.doing.ensures ∙ c.in-Purges.is)
    c.in_ok-line.line.now c.side.result.now c.seen.result (sym c.in_ok-line.ensures) c.side.ensures
    (sym c.is_empty.ensures ∙ c.if-is_empty.true) c.seen.ensures

pub returns-else-has : goal.returns-else-has
returns-else-has c =
    elim c.else-has.branch [
      | else-has-via-then-has+else-is_empty w ↦
          not_empty c.args.scenario.now c.args.shared.now c.args.actors.now c.in_ok-actor.actor c.in-Purges.file c.in-Purges.version
          c.in_ok-state.state.now c.in_ok-actor.was (sym c.in_ok-state.ensures) (sym c.doing.ensures ∙ c.in-Purges.is)
          c.in_ok-line.line.now w.side.result.now (sym c.in_ok-line.ensures) w.side.ensures
          (sym w.is_empty.ensures ∙ w.if-is_empty.false)
      | else-has-via-else-has w ↦
          not_there c.args.scenario.now c.args.shared.now c.args.actors.now c.in_ok-actor.actor c.in-Purges.file c.in-Purges.version
          c.in_ok-state.state.now c.in_ok-actor.was (sym c.in_ok-state.ensures) (sym c.doing.ensures ∙ c.in-Purges.is)
          (sym c.has.ensures ∙ w.if-has.false)
    ]
