use Rattle.std.proofs.Common.{◌≡◌, ◌+◌, ◌<◌, ◌^◌, not, length}
use Rattle.std.specs.List.{list_all}
use Rattle.text_fields.specs.Forms.{is_empty}
use Rattle.text_fields.proofs.reading.count_of.Given as goal

abbrev pub invariant-loop-field : goal.invariant-loop-field
invariant-loop-field l =
    (list_all (λ field. not (is_empty field)) l.left ≡ list_all (λ field. not (is_empty field)) l.fields) × (l.count + length l.left ≡ length l.fields) × (length l.fields < 2 ^ 64)

abbrev pub decreases-loop-field : goal.decreases-loop-field
decreases-loop-field l = length l.left
