-- This project's own: the parts of a trace's text, of which each is some lines.
use Rattle.std.specs.Prelude.{ℕ, suc, List, [], ◌∷◌, ◌++◌, map, codes}
use Rattle.std.specs.List.{flat_map}
use Rattle.std.specs.Fmt.{decimal}
use Rattle.tap_trace.specs.declared.trace.FilePart.{FilePart}
use Rattle.tap_trace.specs.declared.trace.GuestPart.{GuestPart}
use Rattle.tap_trace.specs.declared.trace.PhasePart.{PhasePart}
use Rattle.tap_trace.specs.declared.trace.PositionList.{PositionList}
use Rattle.tap_trace.specs.declared.trace.RingPart.{RingPart}
use Rattle.trace_words.specs.Answers.{answer_lines}
use Rattle.trace_words.specs.Operations.{op_line}
use Rattle.trace_words.specs.Places.{place_line, used_line}
use Rattle.trace_words.specs.Steps.{step_line}

-- the phase with this number, `phase P ACTORS`: its operations, and then its answers
abbrev pub phase_part : ℕ → PhasePart → List (List (List ℕ))
phase_part number p =
    (codes "phase" ∷ decimal number ∷ decimal p.actors ∷ []) ∷ (map op_line p.ops ++ flat_map answer_lines p.answers)

-- the phases, numbered from this number on
abbrev pub phase_parts : ℕ → List PhasePart → List (List (List ℕ))
phase_parts number [] = []
phase_parts number (p ∷ ps) = phase_part number p ++ phase_parts (suc number) ps

-- `file F CLAIMED FREED`, and its places
abbrev pub file_part : FilePart → List (List (List ℕ))
file_part f = (codes "file" ∷ decimal f.file ∷ decimal f.claimed ∷ decimal f.freed ∷ []) ∷ map place_line f.lines

-- `guest G`, and the steps on it
abbrev pub guest_part : GuestPart → List (List (List ℕ))
guest_part g = (codes "guest" ∷ decimal g.guest ∷ []) ∷ map step_line g.steps

-- `base N`, and the published chains
abbrev pub list_part : PositionList → List (List (List ℕ))
list_part l = (codes "base" ∷ decimal l.base ∷ []) ∷ map used_line l.used

-- `ring V R`, and its lists of positions
abbrev pub ring_part : RingPart → List (List (List ℕ))
ring_part r = (codes "ring" ∷ decimal r.vhost ∷ decimal r.ring ∷ []) ∷ flat_map list_part r.lists
