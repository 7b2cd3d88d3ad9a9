use Rattle.std.proofs.Common.{refl}
use Rattle.tap_world.specs.Runs.{opening}
use Rattle.tap_world.specs.Setup.{setup_of}
use Rattle.tap_acted.specs.Laws.{EventsAreActs}
use Rattle.tap_acted.proofs.Along as acts
use Rattle.tap_acted.proofs.runs_are_acts.Goals as goal

laws : goal.After-runs_grow → EventsAreActs → acts.ActLaws
laws c events = record {
  first = c.worlds_go_on.ensures.first;
  grow = c.events_grow.ensures;
  runs = c.runs_grow.ensures;
  events = events;
}

pub returns : goal.returns
returns c = λ events s w laid lead case is guest regions there.
    acts.along (laws c events) s (opening (setup_of s)) w refl laid lead case is guest regions there
