use Rattle.std.proofs.Common.{◌≡◌, ◌++◌, take, string_bytes}
use Rattle.std.specs.List.{flat_map}
use Rattle.scen_words.specs.Field.{text}
use Rattle.trace_text.specs.Parts.{ring_part}
use Rattle.trace_text.proofs.printing.put_rings.Given as goal

abbrev pub invariant-loop-ring : goal.invariant-loop-ring
invariant-loop-ring l = string_bytes l.out ≡ string_bytes l.fn.out ++ text (flat_map ring_part (take l.ring-index l.rings))
