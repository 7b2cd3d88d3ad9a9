-- This project's own: the verdict on a trace: none where it is legal, and else the first clause by letter with the
-- least of its lines.
use Rattle.std.specs.Prelude.{◌≡◌, ℕ, min, List, [], ◌∷◌, Option, Some, None, fold}
use Rattle.scen_text.specs.declared.scenario.Scenario.{Scenario}
use Rattle.tap_trace.specs.declared.trace.Trace.{Trace}
use Rattle.tap_legal.specs.declared.clause.Clause.{Clause}
use Rattle.tap_legal.specs.declared.clause.Clause.TheVariants as clause
use Rattle.tap_legal.specs.Case.{Case, case_of}
use Rattle.tap_legal.specs.LegalTable.{a_fails}
use Rattle.tap_legal.specs.LegalAnswers.{b_fails}
use Rattle.tap_legal.specs.LegalLines.{c_fails}
use Rattle.tap_legal.specs.LegalFull.{d_fails}
use Rattle.tap_legal.specs.LegalGone.{e_fails}
use Rattle.tap_legal.specs.LegalNotReady.{f_fails}
use Rattle.tap_legal.specs.LegalGuests.{g_fails}
use Rattle.tap_legal.specs.Replays.{Replays, replays}
use Rattle.tap_legal.specs.LegalFates.{h_fails}

-- a clause with the lines at which it fails
abbrev pub Failing : Type 0
Failing = Clause × List ℕ

abbrev pub first_failing : List Failing → Option (Clause × ℕ)
first_failing [] = None
first_failing ((letter, []) ∷ more) = first_failing more
first_failing ((letter, line ∷ lines) ∷ more) = Some (letter, fold min line lines)

abbrev pub failing : Case → Replays → List Failing
failing c rs =
    (clause.A, a_fails c rs) ∷ (clause.B, b_fails c) ∷ (clause.C, c_fails c) ∷ (clause.D, d_fails c)
    ∷ (clause.E, e_fails c) ∷ (clause.F, f_fails c) ∷ (clause.G, g_fails c rs) ∷ (clause.H, h_fails c rs) ∷ []

abbrev pub judged : Case → Option (Clause × ℕ)
judged c = first_failing (failing c (replays c))

-- the verdict
abbrev pub verdict : Scenario → Trace → Option (Clause × ℕ)
verdict s t = judged (case_of s t)

-- the trace is legal for the scenario
abbrev pub IsLegal : Scenario → Trace → Type 0
IsLegal s t = verdict s t ≡ None
