use Rattle.text_fields.proofs.FormLaws.{forms_fields, forms_read, forms_written}
use Rattle.text_fields.proofs.laws.form_laws.Goals as goal

pub returns : goal.returns
returns c = record { read = forms_read; written = forms_written; fields = forms_fields }
