use Rattle.std.proofs.Common.{◌≡◌, ◌++◌, take, map}
use Rattle.scen_text.specs.declared.scenario.Line.{Line}
use Rattle.tap_told.proofs.commands.push_commands.Given as goal

abbrev pub invariant-loop-line : goal.invariant-loop-line
invariant-loop-line l =
    map (λ c. c.now) l.commands.items ≡ map (λ c. c.now) l.fn.commands.items ++ map (λ (x : Line). x.command) (take l.line-index l.lines)
