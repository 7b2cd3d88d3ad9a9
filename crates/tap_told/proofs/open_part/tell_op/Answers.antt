use Rattle.std.proofs.Common.{[], ◌∙◌, ap, sym}
use Rattle.std.specs.Prelude.{option_to_list}
use Rattle.std.proofs.lemmas.Result.{IfOk-equal}
use Rattle.tap_told.specs.Phases.{changed_from, with_ops}
use Rattle.tap_told.proofs.Filled.{changed_not, no_ops}
use Rattle.tap_told.proofs.open_part.tell_op.Goals as goal

pub returns-in-Some : goal.returns-in-Some
returns-in-Some c =
    IfOk-equal c.tell_line.result _ _ _ c.tell_line.ensures
    (ap (λ l. changed_from 0 c.args.phase (with_ops (option_to_list l)) c.args.parts.now) (sym c.in-Some.is))

pub returns-in-None : goal.returns-in-None
returns-in-None c =
    sym (changed_not 0 c.args.phase (with_ops []) c.args.parts.now no_ops)
    ∙ ap (λ l. changed_from 0 c.args.phase (with_ops (option_to_list l)) c.args.parts.now) (sym c.in-None.is)
