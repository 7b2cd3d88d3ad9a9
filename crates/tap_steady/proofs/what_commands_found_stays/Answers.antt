use Rattle.tap_steady.proofs.Seen as seen
use Rattle.tap_steady.proofs.what_commands_found_stays.Goals as goal

pub returns : goal.returns
returns c = seen.what_commands_found_stays
