-- The run that a seed picks of a laid scenario is sound.
use Rattle.std.proofs.Common.{◌≡◌, ℕ, ◌+◌, true, List, [], ◌∷◌, Some, length, inl, refl, sym, subst, arith}
use Rattle.std.proofs.lemmas.List.{take_all}
use Rattle.scen_laid.specs.Runs.{HasSoundRuns, LaidRunsAreSound}
use Rattle.scen_text.specs.declared.scenario.Phase.{Phase}
use Rattle.scen_text.specs.declared.scenario.Scenario.{Scenario}
use Rattle.tap_sound.specs.Laws.{OrderIsRun}
use Rattle.tap_sound.specs.Worlds.{IsWorldOf}
use Rattle.tap_sound.proofs.Kit.{some_same, then_some}
use Rattle.tap_sound.proofs.Taken.{if_some}
use Rattle.tap_world.specs.declared.event.Event.{Event}
use Rattle.tap_world.specs.Runs.{IsRun, begins, has_ended, opening, run, run_phases}
use Rattle.tap_world.specs.Setup.{Setup, setup_of}
use Rattle.tap_world.specs.World.{World}
use Rattle.scen_plain.specs.PlainRun.{IsSoundRun, PlainRunsAreSound}

-- where all have ended before phases, they have ended after them
phases_end : (s : Setup) (number : ℕ) (ps : List Phase) (es : List (List Event)) (w v : World) → run_phases s number ps es w ≡ Some v
    → has_ended w ≡ true → has_ended v ≡ true
phases_end s number [] [] w v e h = subst (λ (q : World). has_ended q ≡ true) (some_same w v e) h
phases_end s number [] (d ∷ ds) w v e h = absurd (cc (e))
phases_end s number (p ∷ ps) [] w v e h = absurd (cc (e))
phases_end s number (p ∷ ps) (es ∷ more) w v e h =
    let t = then_some (run s es (begins number p w)) _ v e in
    let c = if_some (has_ended t.0) _ v t.2 in
    phases_end s (number + 1) ps more t.0 v c.1 c.0

-- the world that a run ends in is one that it reaches
ends_in : (s : Scenario) (events : List (List Event)) (w : World) → IsRun s events w → IsWorldOf s w
ends_in s events w is = record {
  ended = length s.phases;
  before = w;
  is_before = record {
    events = events;
    is = subst (λ (ps : List Phase). run_phases (setup_of s) 0 ps events (opening (setup_of s)) ≡ Some w)
        (sym (take_all (length s.phases) s.phases (omega arith))) is;
  };
  now = inl refl;
}

sound_run : (s : Scenario) (events : List (List Event)) (w : World) → HasSoundRuns s → IsRun s events w → IsSoundRun s events w
sound_run s events w runs is =
    let world = runs.reached w (ends_in s events w is) in
    record {
      is_run = is;
      sound = world.sound;
      once = world.sound.names;
      in_order = world.in_order;
      counted = world.counted;
      ended = phases_end (setup_of s) 0 s.phases events (opening (setup_of s)) w is refl;
    }

pub sound_runs : OrderIsRun → LaidRunsAreSound → PlainRunsAreSound
sound_runs is_run sound s seed t laid p = sound_run s p.events p.world (sound s laid) (is_run s seed p.events p.world p.order)
