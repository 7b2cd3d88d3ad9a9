use Rattle.std.proofs.Common.{◌≡◌, ◌+◌, ◌≤◌, drop, length}
use Rattle.text_fields.specs.Finished.{finished}
use Rattle.text_fields.specs.Forms.{kinds_for, values_under}
use Rattle.text_fields.proofs.reading.values_under.Given as goal

abbrev pub invariant-loop-field : goal.invariant-loop-field
invariant-loop-field l =
    (finished l.values l.bad_digits (values_under (drop l.at (kinds_for l.form l.count)) l.left) ≡ values_under (kinds_for l.form l.count) l.fn.fields) × (l.at + length l.left ≤ l.count)

abbrev pub decreases-loop-field : goal.decreases-loop-field
decreases-loop-field l = length l.left
