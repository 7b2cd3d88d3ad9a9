-- This project's own: how the lines of operations are written.
use Rattle.std.specs.Prelude.{ℕ, List, ◌∷◌, codes}
use Rattle.std.specs.Fmt.{decimal}
use Rattle.tap_trace.specs.declared.trace.OpLine.{OpLine}
use Rattle.trace_causes.specs.Operations.{op_fields}

-- `op VERSION COMMAND TEXT`
abbrev pub op_line : OpLine → List (List ℕ)
op_line o = codes "op" ∷ decimal o.version ∷ decimal o.command ∷ op_fields o.text
