use Rattle.std.proofs.Common.{◌≡◌, ◌++◌, take, string_bytes}
use Rattle.std.specs.List.{flat_map}
use Rattle.scen_words.specs.Field.{text}
use Rattle.trace_text.specs.Parts.{list_part}
use Rattle.trace_text.proofs.printing.put_lists.Given as goal

abbrev pub invariant-loop-list : goal.invariant-loop-list
invariant-loop-list l = string_bytes l.out ≡ string_bytes l.fn.out ++ text (flat_map list_part (take l.list-index l.lists))
