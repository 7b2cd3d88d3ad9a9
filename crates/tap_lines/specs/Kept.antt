-- This project's own: what the fields of a line with frames mean, and what they keep.
use Rattle.tap_lines.specs.declared.frame_line.FrameLine.TheInside.{Inside}
use Rattle.tap_lines.specs.Framed.{Framed}
use Rattle.tap_lines.specs.Indexed.{IsIndexed}

-- the line and its frames
abbrev pub framed_of : Inside → Framed
framed_of s = record { line = s.line.items; frames = s.frames.items }

-- the other fields find its entries
abbrev pub FindsAll : Inside → Type 0
FindsAll s = IsIndexed s.line.items s.waiting.items s.batched s.claims
