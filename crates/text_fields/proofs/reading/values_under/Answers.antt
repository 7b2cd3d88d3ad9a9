use Rattle.std.proofs.Common.{◌≡◌, ℕ, None, List, ap, sym, ◌∙◌}
use Rattle.std.specs.List.{slice_get}
use Rattle.std.proofs.lemmas.Result.{err_from_is_err_and}
use Rattle.text_fields.specs.declared.fault.FieldFault.TheVariants.{Hex}
use Rattle.text_fields.specs.Fields.{or_fault}
use Rattle.text_fields.specs.Forms.{kinds_for}
use Rattle.text_fields.proofs.Steps.{answers_same, at_last, digits_step, kinds_end, number_tells, so_far, some_left_at, value_step}
use Rattle.text_fields.proofs.reading.values_under.Goals as goal
use Rattle.text_fields.proofs.reading.values_under.Goals.{in-Some-2+in_ok-push-in-Some-2, in-None}

pub returns-in_default-kind_at : goal.returns-in_default-kind_at
returns-in_default-kind_at c =
    let kinds = kinds_for c.args.form.now c.args.count in
    let left = some_left_at c.loop-field.at c.args.count c.loop-field.left c.next.new.self c.in-Some.field.now c.loop-field.invariant.1 c.in-Some.ensures in
    let at_i : slice_get kinds c.loop-field.at ≡ None = c.kind_at.ensures c.args.count left.0 ∙ c.in_default-kind_at.is in
    answers_same _ _ _ (sym (kinds_end c.loop-field.values c.loop-field.bad_digits kinds c.loop-field.at c.loop-field.left at_i) ∙ c.loop-field.invariant.0) c.finished.ensures

pub returns-in_err-value : goal.returns-in_err-value
returns-in_err-value c =
    let kinds = kinds_for c.args.form.now c.args.count in
    let left = some_left_at c.loop-field.at c.args.count c.loop-field.left c.next.new.self c.in-Some.field.now c.loop-field.invariant.1 c.in-Some.ensures in
    let at_i = c.kind_at.ensures c.args.count left.0 ∙ c.in-Some-kind_at.is in
    let p = err_from_is_err_and c.from_residual.result c.from_residual.ensures.1 in
    rw (p.1, p.2) (number_tells _ c.in_err-value.field-0.0 c.loop-field.values c.loop-field.bad_digits kinds c.loop-field.at c.in-Some-kind_at.kind c.in-Some.field.now c.next.new.self at_i c.in_err-value.ensures
    (ap (λ (fields : List (List ℕ)). so_far c.loop-field.values c.loop-field.bad_digits kinds c.loop-field.at fields) (sym c.in-Some.ensures) ∙ c.loop-field.invariant.0))

pub loop-field-preserved : goal.loop-field-preserved
loop-field-preserved c =
    let kinds = kinds_for c.args.form.now c.args.count in
    let left = some_left_at c.loop-field.at c.args.count c.loop-field.left c.next.new.self c.in-Some.field.now c.loop-field.invariant.1 c.in-Some.ensures in
    let at_i = c.kind_at.ensures c.args.count left.0 ∙ c.in-Some-kind_at.is in
    let before = ap (λ (fields : List (List ℕ)). so_far c.loop-field.values c.loop-field.bad_digits kinds c.loop-field.at fields) (sym c.in-Some.ensures) ∙ c.loop-field.invariant.0 in
    elim c.match-branch-2.branch [
      | in-Some-2+in_ok-push-in-Some-2 w ↦ (
        rw (w.values-is, w.in_ok-push-in-Some-2.ensures.ok, w.bad_digits-is)
            (sym (value_step c.loop-field.values c.loop-field.bad_digits kinds c.loop-field.at c.in-Some-kind_at.kind w.in-Some-2.value c.in-Some.field.now c.next.new.self at_i (c.in_ok-value.ensures ∙ ap (or_fault Hex) w.in-Some-2.is)) ∙ before),
        left.1,
      )
      | in-None w ↦ (
        rw (w.values-is, w.bad_digits-is)
            (sym (digits_step c.loop-field.values c.loop-field.bad_digits kinds c.loop-field.at c.in-Some-kind_at.kind c.in-Some.field.now c.next.new.self at_i (c.in_ok-value.ensures ∙ ap (or_fault Hex) w.in-None.is)) ∙ before),
        left.1,
      )
    ]

pub returns : goal.returns
returns c =
    let kinds = kinds_for c.args.form.now c.args.count in
    let none : so_far c.loop-field.values c.loop-field.bad_digits kinds c.loop-field.at c.loop-field.left ≡ _ =
    ap (λ (fields : List (List ℕ)). so_far c.loop-field.values c.loop-field.bad_digits kinds c.loop-field.at fields) c.in_default.ensures.0 ∙ at_last c.loop-field.values c.loop-field.bad_digits kinds c.loop-field.at in
    answers_same _ _ _ (sym none ∙ c.loop-field.invariant.0) c.finished-2.ensures
