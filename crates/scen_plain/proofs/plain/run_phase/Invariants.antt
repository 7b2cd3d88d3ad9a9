use Rattle.scen_plain.proofs.OnePhase.{GoesOn}
use Rattle.scen_plain.proofs.plain.run_phase.Given as goal

-- the run went on so far
abbrev pub invariant-loop : goal.invariant-loop
invariant-loop l = GoesOn l.fn.x l.fn.core l.y l.running
