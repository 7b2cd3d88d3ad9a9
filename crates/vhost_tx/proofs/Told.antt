-- What a step tells.
use Rattle.std.proofs.Common.{◌≡◌, Some, refl}
use Rattle.tap_ledger.specs.declared.act.Act.{Act}
use Rattle.vring_turns.specs.declared.stage.TxStage.{TxStage}
use Rattle.vring_turns.specs.declared.stage.TxStage.TheVariants.{Begin, Fetch, NoticesOn, FetchAgain, NoticesOff, Copy, Give, Publish, Ended}
use Rattle.vring_turns.specs.Turn.{event_of}
use Rattle.vring_turns.specs.TxTurn.{TxTurn, tx_told}

-- its event, whether the turn goes on or is over
pub event_of-tx_told : (t : TxTurn) (stage : TxStage) (told : Act) → event_of (tx_told t stage told) ≡ Some told
event_of-tx_told t Begin told = refl
event_of-tx_told t Fetch told = refl
event_of-tx_told t NoticesOn told = refl
event_of-tx_told t FetchAgain told = refl
event_of-tx_told t (NoticesOff fault) told = refl
event_of-tx_told t Copy told = refl
event_of-tx_told t Give told = refl
event_of-tx_told t (Publish end) told = refl
event_of-tx_told t (Ended end) told = refl
