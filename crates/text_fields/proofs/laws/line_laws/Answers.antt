use Rattle.text_fields.proofs.LineLaws.{fields_again, joined_again, line_of_fields, lines_again, word_spaced}
use Rattle.text_fields.proofs.laws.line_laws.Goals as goal

pub returns : goal.returns
returns c = record { lines = lines_again; fields = fields_again; joined = joined_again; spaced = word_spaced; line = line_of_fields }
