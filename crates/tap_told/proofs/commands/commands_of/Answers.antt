use Rattle.std.proofs.Common.{◌++◌, ◌∙◌, ap, map, Bor}
use Rattle.scen_words.specs.declared.command.Command.{Command}
use Rattle.scen_text.specs.declared.scenario.Line.{Line}
use Rattle.scen_text.specs.declared.scenario.Phase.{Phase}
use Rattle.tap_told.proofs.Lists.{appended}
use Rattle.tap_told.proofs.commands.commands_of.Goals as goal

pub loop-phase-preserved : goal.loop-phase-preserved
loop-phase-preserved c =
    appended (λ (p : Phase). map (λ (l : Line). l.command) p.lines) _ _ c.args.phases.now c.loop-phase.phase-index c.phase-item.result _
    c.loop-phase-test.true c.phase-item.is c.loop-phase.invariant
    (c.in_ok-push_commands.ensures
    ∙ ap (λ ls. map (λ (b : Bor Command). b.now) c.loop-phase.commands.items ++ map (λ (l : Line). l.command) ls) c.as_slice.ensures)
