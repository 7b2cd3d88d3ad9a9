use Rattle.std.proofs.Common.{◌≡◌, ◌++◌, take, map, string_bytes}
use Rattle.scen_words.specs.Field.{text}
use Rattle.trace_words.specs.Places.{used_line}
use Rattle.trace_text.proofs.printing.put_used.Given as goal

abbrev pub invariant-loop-position : goal.invariant-loop-position
invariant-loop-position l = string_bytes l.out ≡ string_bytes l.fn.out ++ text (map used_line (take l.position-index l.chains))
