use Rattle.tap_sound.proofs.Claims as claims
use Rattle.tap_sound.proofs.claims_are_kept.Goals as goal

pub returns : goal.returns
returns c = claims.claims_are_kept
