use Rattle.core_actors.proofs.actors.Actors.abandon.Given as goal

abbrev pub invariant-loop-actor : goal.invariant-loop-actor
invariant-loop-actor l = Unit {0}

abbrev pub decreases-loop-actor : goal.decreases-loop-actor
decreases-loop-actor l = goal.left-loop-actor l
