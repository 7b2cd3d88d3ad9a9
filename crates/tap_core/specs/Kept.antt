-- This project's own: what the fields of a run mean, and what they keep.
use Rattle.tap_core.specs.Running.{IsRunning, Running, world_of}
use Rattle.tap_core.specs.declared.run.Core.TheInside.{Inside}

abbrev pub running_of : Inside → Running
running_of c = record {
  scenario = c.scenario.now;
  begun = c.begun;
  world = world_of c.scenario.now c.shared c.actors c.said.items;
}

abbrev pub KeepsRunning : Inside → Type 0
KeepsRunning c = IsRunning c.scenario.now c.begun c.shared c.actors c.said.items
