use Rattle.trace_causes.proofs.CauseLaws.{all_causes}
use Rattle.trace_causes.proofs.FieldLaws.{Laws}
use Rattle.trace_causes.proofs.OpLaws.{Rules, ops}
use Rattle.trace_causes.proofs.laws.cause_laws.Goals as goal

pub returns : goal.returns
returns c =
    let below : Laws = record { read = c.value_laws.ensures.read; written = c.value_laws.ensures.written; made = c.value_laws.ensures.field } in
    let rules : Rules = record { read = c.form_laws.ensures.read; written = c.form_laws.ensures.written; made = c.form_laws.ensures.fields; values = c.command_laws.ensures.values } in
    all_causes below (ops below rules)
