use Rattle.tap_lines.proofs.Numbered.{same_number}
use Rattle.tap_lines.proofs.files.same_numbers.Goals as goal

pub returns : goal.returns
returns c = same_number
