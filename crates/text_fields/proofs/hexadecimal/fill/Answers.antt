use Rattle.std.proofs.Common.{length, sym, ◌∙◌}
use Rattle.std.proofs.lemmas.Bool.{eqb-true}
use Rattle.text_fields.proofs.Filling.{filled_none, fills, no_digits, some_left, wrong_count, wrong_digits}
use Rattle.text_fields.proofs.hexadecimal.fill.Goals as goal
use Rattle.text_fields.proofs.hexadecimal.fill.Goals.{then-field-room-via-then-field-room, then-field-room-via-else-field-room+then-not-is_lower_digits, then-field-room-via-else-field-room+else-not-is_lower_digits+then-is_empty}

pub returns-then-field-room : goal.returns-then-field-room
returns-then-field-room c =
    filled_none _ _ (elim c.then-field-room.branch [
      | then-field-room-via-then-field-room w ↦ wrong_count _ _ w.if-field-room.true
      | then-field-room-via-else-field-room+then-not-is_lower_digits w ↦ wrong_digits _ _ (sym w.is_lower_digits.ensures ∙ w.if-not-is_lower_digits.true)
      | then-field-room-via-else-field-room+else-not-is_lower_digits+then-is_empty w ↦ no_digits _ _ (eqb-true _ _ (sym w.is_empty.ensures ∙ w.if-is_empty.true))
    ])

pub returns : goal.returns
returns c = fills (length c.args.room.now) c.args.field.now c.decode_to_slice.new.out c.decode_to_slice.result c.is_ok.result c.if-field-room.false (sym c.is_lower_digits.ensures ∙ c.if-not-is_lower_digits.false) (some_left _ _ c.is_empty.ensures c.if-is_empty.false) c.decode_to_slice.ensures.value c.is_ok.ensures.value
