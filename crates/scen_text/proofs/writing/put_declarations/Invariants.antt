use Rattle.std.proofs.Common.{◌≡◌, ◌++◌, take, map, string_bytes}
use Rattle.scen_words.specs.Field.{text}
use Rattle.scen_words.specs.Rows.{declaration_row}
use Rattle.scen_text.proofs.writing.put_declarations.Given as goal

abbrev pub invariant-loop-declaration : goal.invariant-loop-declaration
invariant-loop-declaration l = string_bytes l.out ≡ string_bytes l.fn.out ++ text (map (declaration_row l.names) (take l.declaration-index l.declarations))
