use Rattle.scen_plain.proofs.SoundRuns.{sound_runs}
use Rattle.scen_plain.proofs.laws.plain_runs_are_sound.Goals as goal

pub returns : goal.returns
returns c = sound_runs c.order_is_run.ensures c.laid_runs_are_sound.ensures
