use Rattle.scen_laid.proofs.SoundRuns.{sound_runs}
use Rattle.scen_laid.proofs.laid_runs_are_sound.Goals as goal

pub returns : goal.returns
returns c = sound_runs (record {
  sound = c.runs_are_sound.ensures.reached;
  sound_ended = c.runs_are_sound.ensures.ended;
  new = c.names_are_new.ensures;
  once = c.name_stands_once.ensures;
  in_order = c.leave_in_order.ensures;
  counted = c.used_is_counted.ensures;
})
