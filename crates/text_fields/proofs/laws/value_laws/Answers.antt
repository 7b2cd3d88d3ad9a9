use Rattle.text_fields.proofs.ValueLaws.{fields_written, values_fields, values_read}
use Rattle.text_fields.proofs.laws.value_laws.Goals as goal

pub returns : goal.returns
returns c = record { read = values_read; written = fields_written; field = values_fields }
