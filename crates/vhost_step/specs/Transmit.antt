-- This project's own: what a step of a transmit turn leaves, beside the event that it is.
use Rattle.std.specs.Prelude.{◌≡◌, ◌<◌, true, false, Option, Some, None}
use Rattle.tap_frame.specs.Frame.{FrameValue}
use Rattle.tap_ledger.specs.declared.act.Act.{Act}
use Rattle.vring_turns.specs.declared.end.TurnEnd.{TurnEnd}
use Rattle.vring_turns.specs.declared.stage.TxStage.{TxStage}
use Rattle.vring_turns.specs.declared.stage.TxStage.TheVariants as tx
use Rattle.vring_turns.specs.Ring.{done_in}
use Rattle.vring_turns.specs.Stage.{is_giving, tx_is_over}
use Rattle.vring_turns.specs.TxTurn.{TxTurn, TxState, tx_report, tx_step}

-- what the turn did, where it is over at a stage
abbrev pub tx_did : TxStage → TxTurn → Option TurnEnd
tx_did tx.Begin t = None
tx_did tx.Fetch t = None
tx_did tx.NoticesOn t = None
tx_did tx.FetchAgain t = None
tx_did (tx.NoticesOff fault) t = None
tx_did tx.Copy t = None
tx_did tx.Give t = None
tx_did (tx.Publish end) t = None
tx_did (tx.Ended end) t = Some (tx_report t end)

-- the frame that the host is given in the step at a stage: the one that is held where one is given
abbrev pub tx_given : TxStage → TxTurn → Option FrameValue
tx_given tx.Begin t = None
tx_given tx.Fetch t = None
tx_given tx.NoticesOn t = None
tx_given tx.FetchAgain t = None
tx_given (tx.NoticesOff fault) t = None
tx_given tx.Copy t = None
tx_given tx.Give t = t.held
tx_given (tx.Publish end) t = None
tx_given (tx.Ended end) t = None

-- ---- a law

-- a step that gives a frame changes the turn and the host alone; and the turn goes on
pub record Gives (before after : TxState) : Type 0 where
  pub queue : after.queue ≡ before.queue
  pub memory : after.memory ≡ before.memory
  pub goes_on : tx_is_over after.turn.stage ≡ false

-- every step that gives a frame is so, where something is done
abbrev pub GivesAlone : Type 0
GivesAlone =
    (before after : TxState) (told : Act)
    → is_giving before.turn.stage ≡ true → 0 < done_in before.queue → tx_step before ≡ Some (after, told)
    → Gives before after
