use Rattle.tap_grows.proofs.Moments as moments
use Rattle.tap_grows.proofs.answers_have_moments.Goals as goal

pub returns : goal.returns
returns c = λ s w r laid. (moments.along (record {
  first = c.worlds_go_on.ensures.first;
  begin = c.worlds_go_on.ensures.begin;
  next = c.worlds_go_on.ensures.reached;
  steady = c.runs_are_steady.ensures.reached;
  events = c.events_grow.ensures;
  beginnings = c.beginnings_grow.ensures;
  sound = c.laid_runs_are_sound.ensures;
  seen = c.seen_rises.ensures;
}) s w r laid).has
