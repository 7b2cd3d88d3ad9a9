use Rattle.text_fields.proofs.Numerals.{numeral_is_text, numeral_parses}
use Rattle.text_fields.proofs.numbers.parsed.Goals as goal

pub returns-in_default : goal.returns-in_default
returns-in_default c = absurd (c.in_default.ensures.cases.0 (numeral_is_text c.args.digits.now c.requires))

pub returns : goal.returns
returns c = numeral_parses c.args.digits.now c.parse.result c.ok.result c.requires (rw c.in-Ok.ensures.cases.0 at c.parse.ensures.value.0) c.ok.ensures.value
