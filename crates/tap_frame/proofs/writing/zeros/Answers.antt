use Rattle.std.proofs.lemmas.List.{take-replicate}
use Rattle.tap_frame.proofs.writing.zeros.Goals as goal

pub returns : goal.returns
returns c = take-replicate c.args.count 118 0 c.requires
