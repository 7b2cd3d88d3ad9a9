use Rattle.std.proofs.Common.{◌≡◌, take}
use Rattle.scen_text.proofs.Scripts.{commands_of}
use Rattle.scen_text.proofs.phases.script_of.Given as goal

abbrev pub invariant-loop-line : goal.invariant-loop-line
invariant-loop-line l = l.commands ≡ commands_of (take l.line-index l.lines) l.actor
