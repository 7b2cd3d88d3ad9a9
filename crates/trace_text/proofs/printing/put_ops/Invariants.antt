use Rattle.std.proofs.Common.{◌≡◌, ◌++◌, take, map, string_bytes}
use Rattle.scen_words.specs.Field.{text}
use Rattle.trace_words.specs.Operations.{op_line}
use Rattle.trace_text.proofs.printing.put_ops.Given as goal

abbrev pub invariant-loop-op : goal.invariant-loop-op
invariant-loop-op l = string_bytes l.out ≡ string_bytes l.fn.out ++ text (map op_line (take l.op-index l.ops))
