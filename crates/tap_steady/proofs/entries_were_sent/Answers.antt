use Rattle.tap_steady.proofs.SentKept.{sent}
use Rattle.tap_steady.proofs.entries_were_sent.Goals as goal

pub returns : goal.returns
returns c = sent
