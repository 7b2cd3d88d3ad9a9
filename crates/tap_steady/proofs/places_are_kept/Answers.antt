use Rattle.tap_steady.proofs.PlacedKept.{places}
use Rattle.tap_steady.proofs.places_are_kept.Goals as goal

pub returns : goal.returns
returns c = places
