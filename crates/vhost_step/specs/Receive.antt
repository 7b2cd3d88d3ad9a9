-- This project's own: what a step of a receive turn leaves, beside the event that it is.
use Rattle.std.specs.Prelude.{Option, Some, None}
use Rattle.tap_frame.specs.Frame.{FrameValue}
use Rattle.tap_ledger.specs.declared.fate.Fate.TheVariants.{Guest}
use Rattle.vring_turns.specs.declared.end.TurnEnd.{TurnEnd}
use Rattle.vring_turns.specs.declared.stage.RxStage.{RxStage}
use Rattle.vring_turns.specs.declared.stage.RxStage.TheVariants as rx
use Rattle.vring_turns.specs.RxTurn.{RxTurn, overrun, rx_report}
use Rattle.vring_turns.specs.Stage.{need_at}
use Rattle.vhost_step.specs.declared.went.Went.{Went}
use Rattle.vhost_step.specs.declared.went.Went.TheVariants as went

-- the frame that is held comes back
abbrev pub comes_back : Option FrameValue → Went
comes_back None = went.Nowhere
comes_back (Some frame) = went.Back frame

-- where the frame in hand goes in the step at a stage: out to the guest, or out for want of room, or back
abbrev pub rx_went : RxStage → RxTurn → Went
rx_went rx.Begin t = went.Nowhere
rx_went rx.Hand t = went.Nowhere
rx_went rx.Fetch t = went.Nowhere
rx_went rx.NoticesOn t = went.Nowhere
rx_went rx.FetchAgain t = went.Nowhere
rx_went (rx.NoticesOff way) t = went.Nowhere
rx_went rx.Copy t = went.Nowhere
rx_went rx.Out t = went.Out Guest
rx_went (rx.Discard had) t = went.Out (overrun t.mergeable (need_at t.header t.held) had)
rx_went (rx.PutBack end) t = comes_back t.held
rx_went (rx.Publish end) t = went.Nowhere
rx_went (rx.Ended end) t = went.Nowhere

-- what the turn did, where it is over at a stage
abbrev pub rx_did : RxStage → RxTurn → Option TurnEnd
rx_did rx.Begin t = None
rx_did rx.Hand t = None
rx_did rx.Fetch t = None
rx_did rx.NoticesOn t = None
rx_did rx.FetchAgain t = None
rx_did (rx.NoticesOff way) t = None
rx_did rx.Copy t = None
rx_did rx.Out t = None
rx_did (rx.Discard had) t = None
rx_did (rx.PutBack end) t = None
rx_did (rx.Publish end) t = None
rx_did (rx.Ended end) t = Some (rx_report t end)
