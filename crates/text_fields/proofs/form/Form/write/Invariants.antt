use Rattle.std.proofs.Common.{◌≡◌, ◌++◌, take, length, string_bytes}
use Rattle.text_fields.specs.Forms.{fields_under, kinds_for}
use Rattle.text_fields.specs.Lines.{spaced}
use Rattle.text_fields.proofs.form.Form.write.Given as goal

abbrev pub invariant-loop-at : goal.invariant-loop-at
invariant-loop-at l = string_bytes l.out ≡ string_bytes l.fn.out ++ spaced (fields_under (kinds_for l.self (length l.values)) (take l.at l.values))
