-- This project's own: what is asked of an actor, as it is kept.
use Rattle.core_shared.specs.Asking.{Asking}
use Rattle.core_shared.specs.declared.asked.Asked.TheInside.{Inside}

-- what the fields of a command that is asked for mean
abbrev pub asking_of : Inside → Asking
asking_of a = record {
  scenario = a.scenario.now;
  actor = a.actor;
  number = a.number;
  command = a.command.now;
  seen = a.seen;
}
