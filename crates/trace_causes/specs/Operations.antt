-- This project's own: how operations on the queue table are written.
use Rattle.std.specs.Prelude.{ℕ, List, [], ◌∷◌}
use Rattle.std.specs.Fmt.{decimal}
use Rattle.tap_trace.specs.declared.trace.OpText.{OpText}
use Rattle.tap_trace.specs.declared.trace.OpText.TheVariants as op
use Rattle.scen_words.specs.Field.{hex4}
use Rattle.scen_words.specs.Rows.{command_row}
use Rattle.trace_causes.specs.declared.words.OpWord.TheVariants as word
use Rattle.trace_causes.specs.Values.{hex8, number_or_dash}
use Rattle.trace_causes.specs.Words.{op_spelling, side_spelling}

-- an operation: its command's own words, a learning, or a backend; only an attachment has a name in it
abbrev pub op_fields : OpText → List (List ℕ)
op_fields (op.SetIff file name flags) = op_spelling word.SetIff ∷ decimal file ∷ name ∷ hex4 flags ∷ []
op_fields (op.Words command) = command_row [] command
op_fields (op.Learn file hash) = op_spelling word.Learn ∷ decimal file ∷ hex8 hash ∷ []
op_fields (op.Back file side vhost) =
    op_spelling word.Back ∷ decimal file ∷ side_spelling side ∷ number_or_dash vhost ∷ []
