use Rattle.trace_causes.proofs.FieldLaws.{Laws, all_fields}
use Rattle.trace_causes.proofs.laws.field_laws.Goals as goal

pub returns : goal.returns
returns c =
    let below : Laws = record { read = c.value_laws.ensures.read; written = c.value_laws.ensures.written; made = c.value_laws.ensures.field } in
    all_fields below
