use Rattle.std.proofs.Common.{refl}
use Rattle.tap_world.proofs.laws.frames_agree.Goals as goal

pub returns : goal.returns
returns c = λ shape bytes frame room. (refl, refl)
