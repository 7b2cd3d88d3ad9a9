-- This project's own: a scenario's text played by a seed, and a verdict as the text that an audit writes.
use Rattle.std.specs.Prelude.{ℕ, zero, suc, ◌+◌, List, [], ◌∷◌, ◌++◌, codes, decimal, Option, Some, None, Result, Ok, Err, option_map, option_and_then}
use Rattle.std.specs.Option.{option_map_or}
use Rattle.scen_text.specs.declared.scenario.Phase.{Phase}
use Rattle.scen_text.specs.declared.scenario.Scenario.{Scenario}
use Rattle.scen_text.specs.declared.fault.ScenFault.{ScenFault}
use Rattle.scen_text.specs.Refusals.{Said, said_of}
use Rattle.scen_text.specs.Scenario.{scenario_of}
use Rattle.tap_trace.specs.declared.trace.Trace.{Trace}
use Rattle.trace_text.specs.TraceText.{trace_text}
use Rattle.tap_world.specs.Setup.{Setup, setup_of}
use Rattle.tap_world.specs.World.{World}
use Rattle.tap_world.specs.Step.{step}
use Rattle.tap_world.specs.Runs.{begins, choices, moved_on, opening, picked}
use Rattle.tap_world.specs.Project.{project}
use Rattle.tap_legal.specs.declared.clause.Clause.{Clause}
use Rattle.tap_legal.specs.declared.clause.Clause.TheVariants as clause
use Rattle.tap_legal.specs.Verdict.{verdict}

-- x and the world after all events of a phase, of which there are fewer than so many
abbrev pub play : ℕ → Setup → ℕ → World → Option (ℕ × World)
play zero s x w = None
play (suc n) s x w =
    option_map_or (λ e. option_and_then (λ v. play n s (moved_on x) v.0) (step s w e))
    (picked (moved_on x) (choices s w)) (Some (x, w))

abbrev pub play_phases : Setup → ℕ → ℕ → List Phase → World → Option World
play_phases s x number [] w = Some w
play_phases s x number (p ∷ ps) w =
    option_and_then (λ v. play_phases s v.0 (number + 1) ps v.1) (play 1000 s x (begins number p w))

-- the trace of the run that a seed picks
abbrev pub played : ℕ → Scenario → Option Trace
played seed s =
    option_map (λ w. project (setup_of s) w) (play_phases (setup_of s) seed 0 s.phases (opening (setup_of s)))

abbrev pub scenario_in : Result Said ScenFault → Option Scenario
scenario_in (Ok said) = Some (scenario_of said)
scenario_in (Err fault) = None

abbrev pub read : List ℕ → Option Scenario
read bytes = scenario_in (said_of bytes)

-- the text of the trace, from the text of the scenario
abbrev pub output : ℕ → List ℕ → Option (List ℕ)
output seed bytes = option_map trace_text (option_and_then (played seed) (read bytes))

-- a verdict's text: `legal`, or the line and the letter of its clause
abbrev pub letter : Clause → List ℕ
letter clause.A = codes "a"
letter clause.B = codes "b"
letter clause.C = codes "c"
letter clause.D = codes "d"
letter clause.E = codes "e"
letter clause.F = codes "f"
letter clause.G = codes "g"
letter clause.H = codes "h"

abbrev pub told : Option (Clause × ℕ) → List ℕ
told None = codes "legal"
told (Some v) = codes "illegal " ++ decimal v.1 ++ codes " " ++ letter v.0

-- the verdict on the trace of a seed's run after a change
abbrev pub judged_run : ℕ → (Trace → Trace) → Scenario → Option (List ℕ)
judged_run seed change s = option_map (λ t. told (verdict s (change t))) (played seed s)

abbrev pub judged_by : ℕ → List ℕ → (Trace → Trace) → Option (List ℕ)
judged_by seed bytes change = option_and_then (judged_run seed change) (read bytes)

abbrev pub judged : List ℕ → (Trace → Trace) → Option (List ℕ)
judged bytes change = judged_by 0 bytes change
