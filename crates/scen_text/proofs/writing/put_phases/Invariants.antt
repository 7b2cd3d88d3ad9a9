use Rattle.std.proofs.Common.{◌≡◌, ◌++◌, false, take, string_bytes}
use Rattle.scen_words.specs.Field.{text}
use Rattle.scen_text.specs.ScenarioText.{phases_rows}
use Rattle.scen_text.proofs.PhaseRows.{bare_after}
use Rattle.scen_text.proofs.writing.put_phases.Given as goal

abbrev pub invariant-loop-phase : goal.invariant-loop-phase
invariant-loop-phase l =
    (string_bytes l.out ≡ string_bytes l.fn.out ++ text (phases_rows l.names false (take l.phase-index l.phases)))
    × (l.bare ≡ bare_after false (take l.phase-index l.phases))
