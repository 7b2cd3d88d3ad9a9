-- The runs of a scenario that is laid are sound.
use Rattle.scen_text.specs.declared.scenario.Scenario.{Scenario}
use Rattle.tap_world.specs.Laws.{LeaveInOrder, NameStandsOnce}
use Rattle.tap_world.specs.Setup.{setup_of}
use Rattle.tap_world.specs.World.{World}
use Rattle.tap_sound.specs.Fresh.{NamesAreNew}
use Rattle.tap_sound.specs.SoundRuns.{ReachedIsSound, RunIsSound}
use Rattle.tap_sound.specs.Used.{UsedIsCounted}
use Rattle.tap_sound.specs.Worlds.{IsWorldOf}
use Rattle.scen_laid.specs.Laid.{IsLaid}
use Rattle.scen_laid.specs.Runs.{IsSoundWorld, LaidRunsAreSound}

-- what the crates below say of runs
pub record Laws : Type 0 where
  pub sound : ReachedIsSound
  pub sound_ended : RunIsSound
  pub new : NamesAreNew
  pub once : NameStandsOnce
  pub in_order : LeaveInOrder
  pub counted : UsedIsCounted

sound_world : Laws → (s : Scenario) → IsLaid s → (w : World) → IsWorldOf s w → IsSoundWorld s w
sound_world laws s laid w reached =
    let sound = laws.sound s w laid.places laid.guests reached in
    record {
      sound = sound;
      once = λ n. laws.once (setup_of s) w n sound;
      in_order = λ file i j f d e fate at_ lt before there out. laws.in_order f.line i j d e fate (sound.lines file f at_).ordered.parts lt before there out;
      counted = λ vhost ring v at_. laws.counted (setup_of s) w vhost ring v sound at_;
    }

pub sound_runs : Laws → LaidRunsAreSound
sound_runs laws s laid = record {
  reached = λ w reached. sound_world laws s laid w reached;
  ended = λ events w run. laws.sound_ended s events w laid.places laid.guests run;
  new = λ w e r reached row. laws.new s w e r laid.numbers reached row;
}
