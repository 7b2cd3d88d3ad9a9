-- This project's own: the text of a trace.
use Rattle.std.specs.Prelude.{ℕ, List, [], ◌∷◌, ◌++◌, codes}
use Rattle.std.specs.List.{flat_map}
use Rattle.tap_trace.specs.declared.trace.Trace.{Trace}
use Rattle.scen_words.specs.Field.{text}
use Rattle.trace_text.specs.Parts.{file_part, guest_part, phase_parts, ring_part}

-- its lines: the phases, the files, the guests and the rings between `taptrace 1` and `end`
abbrev pub trace_lines : Trace → List (List (List ℕ))
trace_lines t =
    (codes "taptrace" ∷ codes "1" ∷ [])
    ∷ (phase_parts 0 t.phases ++ flat_map file_part t.files ++ flat_map guest_part t.guests
    ++ flat_map ring_part t.rings ++ (codes "end" ∷ []) ∷ [])

abbrev pub trace_text : Trace → List ℕ
trace_text t = text (trace_lines t)
