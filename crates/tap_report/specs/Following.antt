-- This project's own: what may follow a trace.
use Rattle.std.specs.Prelude.{ℕ, Bool, ◌||◌, ◌==◌, List, [], ◌∷◌, ◌++◌, length}
use Rattle.std.specs.Str.{bytes_eq}
use Rattle.tap_report.specs.Json.{report_json}
use Rattle.tap_report.specs.Report.{Report}
use Rattle.tap_report.specs.ReportText.{report_text}

-- the text of the report
abbrev pub is_text : Report → List ℕ → Bool
is_text r behind = bytes_eq behind (report_text r)

-- the report as one line of JSON
abbrev pub is_json : Report → List ℕ → Bool
is_json r behind = bytes_eq behind (report_json r ++ 10 ∷ [])

-- nothing, or one of these
abbrev pub may_follow : Report → List ℕ → Bool
may_follow r behind = length behind == 0 || is_text r behind || is_json r behind
