-- This project's own: a scenario and a trace that is judged by it, and where a sentence fails.
use Rattle.std.specs.Prelude.{ℕ, not, if◌then◌else◌, List, [], ◌∷◌, ◌++◌, flat_map, Bool, Option, Some, None}
use Rattle.std.specs.List.{list_any}
use Rattle.tap_steer.specs.declared.operation.Op.{Op}
use Rattle.tap_steer.specs.Table.{Table}
use Rattle.tap_steer.specs.After.{after}
use Rattle.scen_text.specs.declared.scenario.Scenario.{Scenario}
use Rattle.tap_trace.specs.declared.trace.Trace.{Trace}
use Rattle.tap_world.specs.Setup.{Setup, opening_table, setup_of}
use Rattle.tap_legal.specs.Numbered.{AnswerAt, Asked, EntryAt, FileAt, GuestAt, OpAt, PhaseAt, RingAt, StepAt, answers_at, asked_from, behind_files, behind_guests, behind_phases, end_line, entries_of, files_at, guests_at, ops_at, phases_at, rings_at, steps_at}

-- what the scenario lays down and asks for; the lines of the trace; the table at each version, from 0 on; the line of
-- `end`
pub record Case : Type 0 where
  pub setup : Setup
  pub asked : List Asked
  pub phases : List PhaseAt
  pub ops : List OpAt
  pub tables : List Table
  pub answers : List AnswerAt
  pub files : List FileAt
  pub entries : List EntryAt
  pub guests : List GuestAt
  pub steps : List StepAt
  pub rings : List RingAt
  pub end : ℕ

-- an operation that can't be told changes nothing
abbrev pub table_after : Table → Option Op → Table
table_after t None = t
table_after t (Some x) = after t x

abbrev pub tables_from : Table → List OpAt → List Table
tables_from t [] = t ∷ []
tables_from t (o ∷ os) = t ∷ tables_from (table_after t o.op) os

-- the case of a scenario with its setup and commands
abbrev pub case_with : Setup → List Asked → Trace → Case
case_with s asked t = record {
  setup = s;
  asked = asked;
  phases = phases_at 2 0 t.phases;
  ops = ops_at s 2 0 t.phases;
  tables = tables_from (opening_table s) (ops_at s 2 0 t.phases);
  answers = answers_at asked 2 0 t.phases;
  files = files_at (behind_phases 2 t.phases) t.files;
  entries = flat_map entries_of (files_at (behind_phases 2 t.phases) t.files);
  guests = guests_at (behind_files (behind_phases 2 t.phases) t.files) t.guests;
  steps = steps_at (behind_files (behind_phases 2 t.phases) t.files) t.guests;
  rings = rings_at (behind_guests (behind_files (behind_phases 2 t.phases) t.files) t.guests) t.rings;
  end = end_line t;
}

abbrev pub case_of : Scenario → Trace → Case
case_of s t = case_with (setup_of s) (asked_from 0 s.phases) t

-- ---- where a sentence fails

-- each of these lines passes the test
abbrev pub fails_each : {A : Type 0} → (A → ℕ) → (A → Bool) → List A → List ℕ
fails_each line test [] = []
fails_each line test (x ∷ xs) = (if test x then [] else line x ∷ []) ++ fails_each line test xs

-- each of these lines agrees with every one before it
abbrev pub fails_after : {A : Type 0} → (A → ℕ) → (A → A → Bool) → List A → List A → List ℕ
fails_after line agrees earlier [] = []
fails_after line agrees earlier (x ∷ xs) =
    (if list_any (λ e. not (agrees e x)) earlier then line x ∷ [] else []) ++ fails_after line agrees (x ∷ earlier) xs

abbrev pub fails_order : {A : Type 0} → (A → ℕ) → (A → A → Bool) → List A → List ℕ
fails_order line agrees xs = fails_after line agrees [] xs

-- each of these, which the scenario wants, has a line; a line that is wanted and missing fails at `end`
abbrev pub fails_missing : {A : Type 0} → Case → (A → Bool) → List A → List ℕ
fails_missing c is_there xs = fails_each (λ x. c.end) is_there xs

-- lines are the wanted ones, one after another: the first that isn't fails, and `end` where one is missing
abbrev pub fails_as : {A B : Type 0} → ℕ → (A → B → Bool) → (B → ℕ) → List A → List B → List ℕ
fails_as end same line [] [] = []
fails_as end same line [] (y ∷ ys) = line y ∷ []
fails_as end same line (x ∷ xs) [] = end ∷ []
fails_as end same line (x ∷ xs) (y ∷ ys) = if same x y then fails_as end same line xs ys else line y ∷ []

-- lines are the wanted ones by their numbers, which rise: one too many fails, and `end` where one is missing
abbrev pub fails_wanted :
    {A B : Type 0} → Case → (B → ℕ) → (A → B → Bool) → (B → B → Bool) → List A → List B → List ℕ
fails_wanted c line same rises wanted lines =
    fails_each line (λ l. list_any (λ w. same w l) wanted) lines ++ fails_order line rises lines
    ++ fails_missing c (λ w. list_any (same w) lines) wanted

-- the lines of answers, operations, entries, files and steps
abbrev pub of_answer : AnswerAt → ℕ
of_answer a = a.line

abbrev pub of_op : OpAt → ℕ
of_op o = o.line

abbrev pub of_entry : EntryAt → ℕ
of_entry e = e.line

abbrev pub of_file : FileAt → ℕ
of_file f = f.line

abbrev pub of_step : StepAt → ℕ
of_step s = s.line
