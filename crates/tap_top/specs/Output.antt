-- This project's own: what is written for a trace of a scenario.
use Rattle.std.specs.Prelude.{ℕ, Bool, true, false, List, [], ◌∷◌, ◌++◌}
use Rattle.scen_text.specs.declared.scenario.Scenario.{Scenario}
use Rattle.tap_report.specs.Json.{report_json}
use Rattle.tap_report.specs.Report.{Report, report_of}
use Rattle.tap_report.specs.ReportText.{report_text}
use Rattle.tap_trace.specs.declared.trace.Trace.{Trace}
use Rattle.trace_text.specs.TraceText.{trace_text}

-- the report as text, or as one line of JSON
abbrev pub report_as : Bool → Report → List ℕ
report_as true r = report_json r ++ 10 ∷ []
report_as false r = report_text r

-- the trace, and then its report
abbrev pub output_of : Bool → Scenario → Trace → List ℕ
output_of json s t = trace_text t ++ report_as json (report_of s t)
