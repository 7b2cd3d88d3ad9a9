use Rattle.scen_plain.proofs.ManyPhases.{HaveEnded}
use Rattle.scen_plain.proofs.plain.run_plain.Given as goal

-- so many phases have ended
abbrev pub invariant-loop : goal.invariant-loop
invariant-loop l = HaveEnded l.scenario l.seed l.counter l.x l.core
