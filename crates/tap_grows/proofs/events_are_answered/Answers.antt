use Rattle.std.proofs.Common.{inl, refl}
use Rattle.tap_world.specs.Runs.{opening}
use Rattle.tap_world.specs.Setup.{setup_of}
use Rattle.tap_grows.proofs.Answered as answered
use Rattle.tap_grows.proofs.events_are_answered.Goals as goal

pub returns : goal.returns
returns c = answered.events_are_answered (record {
  first = λ s. record {
    ended = 0;
    before = opening (setup_of s);
    is_before = c.worlds_go_on.ensures.first s;
    now = inl refl;
  };
  runs = c.runs_grow.ensures;
  sound = c.laid_runs_are_sound.ensures;
  seen = c.seen_rises.ensures;
  events = c.events_grow.ensures;
})
