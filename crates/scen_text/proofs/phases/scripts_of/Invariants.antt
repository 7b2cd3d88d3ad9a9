use Rattle.std.proofs.Common.{◌≡◌}
use Rattle.scen_text.specs.Before.{scripts_from}
use Rattle.scen_text.proofs.phases.scripts_of.Given as goal

abbrev pub invariant-loop-actor : goal.invariant-loop-actor
invariant-loop-actor l = l.scripts ≡ scripts_from l.lines 0 l.actor
