use Rattle.std.proofs.Common.{refl, length, ◌∙◌, string_bytes}
use Rattle.text_fields.specs.Forms.{kinds_for}
use Rattle.text_fields.proofs.Writes.{none_written, nothing_written, one_written}
use Rattle.text_fields.proofs.form.Form.write.Goals as goal
use Rattle.text_fields.proofs.form.Form.write.Goals.{in-Some+in_ok-write, in_default}

pub loop-at-init : goal.loop-at-init
loop-at-init c = nothing_written (kinds_for c.args.self.now (length c.args.values.now)) (string_bytes c.args.out.now)

pub loop-at-preserved : goal.loop-at-preserved
loop-at-preserved c =
    elim c.match-kind_at.branch [
      | in-Some+in_ok-write w ↦
          one_written (string_bytes c.args.out.now) (string_bytes c.loop-at.out) (string_bytes c.match-kind_at.out) (kinds_for c.args.self.now (length c.args.values.now)) c.args.values.now
          c.loop-at.at w.in-Some.kind c.index-values-at.result c.loop-at-test.true c.index-values-at.is (c.kind_at.ensures (length c.args.values.now) c.loop-at-test.true ∙ w.in-Some.is)
          c.loop-at.invariant (rw (w.out-is, w.in_ok-write.ensures.bytes, w.written.ensures.kind, w.written.ensures.value) refl)
      | in_default w ↦
          rw w.out-is (none_written (string_bytes c.args.out.now) (string_bytes c.loop-at.out) (kinds_for c.args.self.now (length c.args.values.now)) c.args.values.now c.loop-at.at
          c.index-values-at.result c.loop-at-test.true c.index-values-at.is (c.kind_at.ensures (length c.args.values.now) c.loop-at-test.true ∙ w.in_default.is) c.loop-at.invariant)
    ]
