-- This project's own: what a step reports that ends a turn.
use Rattle.std.specs.Prelude.{◌≡◌}
use Rattle.vring_turns.specs.declared.end.TurnEnd.{TurnEnd}
use Rattle.vring_turns.specs.declared.stage.TxStage.TheVariants as tx
use Rattle.vring_turns.specs.declared.stage.RxStage.TheVariants as rx
use Rattle.vring_turns.specs.declared.step.Step.{Step}
use Rattle.vring_turns.specs.declared.step.Step.TheVariants.{More, Ended}
use Rattle.vring_turns.specs.TxTurn.{TxTurn, tx_report}
use Rattle.vring_turns.specs.RxTurn.{RxTurn, rx_report}

-- the turn is over for this end, and packets and bytes are the turn's
abbrev pub TxEnded : TxTurn → TurnEnd → Type 0
TxEnded t turn = (t.stage ≡ tx.Ended turn.end) × (turn ≡ tx_report t turn.end)

abbrev pub TxReports : TxTurn → Step → Type 0
TxReports t (More act) = Unit {0}
TxReports t (Ended act turn) = TxEnded t turn

-- the same of a receive turn
abbrev pub RxEnded : RxTurn → TurnEnd → Type 0
RxEnded t turn = (t.stage ≡ rx.Ended turn.end) × (turn ≡ rx_report t turn.end)

abbrev pub RxReports : RxTurn → Step → Type 0
RxReports t (More act) = Unit {0}
RxReports t (Ended act turn) = RxEnded t turn
