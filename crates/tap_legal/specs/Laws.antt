-- This project's own: what the definition of a legal trace means, and worked verdicts.
use Rattle.std.specs.Prelude.{◌≡◌, ◌↔◌, [], Some}
use Rattle.scen_text.specs.declared.scenario.Scenario.{Scenario}
use Rattle.tap_trace.specs.declared.trace.Trace.{Trace}
use Rattle.tap_world.specs.Examples.{scenario, sent_by, trace_of}
use Rattle.tap_legal.specs.declared.clause.Clause.TheVariants.{C}
use Rattle.tap_legal.specs.Case.{Case, case_of}
use Rattle.tap_legal.specs.LegalTable.{a_fails}
use Rattle.tap_legal.specs.LegalAnswers.{b_fails}
use Rattle.tap_legal.specs.LegalLines.{c_fails}
use Rattle.tap_legal.specs.LegalFull.{d_fails}
use Rattle.tap_legal.specs.LegalGone.{e_fails}
use Rattle.tap_legal.specs.LegalNotReady.{f_fails}
use Rattle.tap_legal.specs.LegalGuests.{g_fails}
use Rattle.tap_legal.specs.Replays.{Replays, replays}
use Rattle.tap_legal.specs.LegalFates.{h_fails}
use Rattle.tap_legal.specs.Verdict.{IsLegal, verdict}

-- A scenario and its upgrade to version 2 have the same legal traces.
abbrev pub UpgradeHasSameTraces : Type 0
UpgradeHasSameTraces = (s : Scenario) (t : Trace) → IsLegal s t ↔ IsLegal (record s { version = 2 }) t

-- no sentence of any clause fails
abbrev pub NoneFails : Case → Replays → Type 0
NoneFails c rs =
    (a_fails c rs ≡ []) × (b_fails c ≡ []) × (c_fails c ≡ []) × (d_fails c ≡ []) × (e_fails c ≡ [])
    × (f_fails c ≡ []) × (g_fails c rs ≡ []) × (h_fails c rs ≡ [])

-- A trace is legal exactly where no sentence of any clause fails.
abbrev pub LegalWhereNoneFails : Type 0
LegalWhereNoneFails = (s : Scenario) (t : Trace) → IsLegal s t ↔ NoneFails (case_of s t) (replays (case_of s t))

-- the trace of the worked run is legal
abbrev pub WorkedIsLegal : Type 0
WorkedIsLegal = IsLegal scenario (trace_of (sent_by 1))

-- with the other frame's name in its line, the answer in line 5 isn't at its place
abbrev pub OtherNameIsIllegal : Type 0
OtherNameIsIllegal = verdict scenario (trace_of (sent_by 2)) ≡ Some (C, 5)
