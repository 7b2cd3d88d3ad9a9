-- This project's own: what a step answered, as an event and what the turn did where it is over.
use Rattle.std.specs.Prelude.{Option, Some, None}
use Rattle.vring_turns.specs.declared.end.TurnEnd.{TurnEnd}
use Rattle.vring_turns.specs.declared.step.Step.{Step}
use Rattle.vring_turns.specs.declared.step.Step.TheVariants.{More, Ended}

-- what the turn did, where a step says that it is over
abbrev pub over_in : Step → Option TurnEnd
over_in (More act) = None
over_in (Ended act turn) = Some turn
