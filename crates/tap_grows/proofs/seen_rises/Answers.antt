use Rattle.tap_grows.proofs.Seen as seen
use Rattle.tap_grows.proofs.seen_rises.Goals as goal

pub returns : goal.returns
returns c = seen.seen_rises
