-- This project's own: what the stage of a turn says. Each stage is written out, so that a new one has to be thought of.
use Rattle.std.specs.Prelude.{ℕ, Bool, true, false, Option, None, Some}
use Rattle.vring_split.specs.declared.fault.RingFault.{RingFault}
use Rattle.tap_frame.specs.Frame.{FrameValue}
use Rattle.vring_turns.specs.declared.end.End.{End}
use Rattle.vring_turns.specs.declared.end.End.TheVariants.{Off, Stopped}
use Rattle.vring_turns.specs.declared.stage.TxStage.{TxStage}
use Rattle.vring_turns.specs.declared.stage.TxStage.TheVariants as tx
use Rattle.vring_turns.specs.declared.stage.RxStage.{RxStage}
use Rattle.vring_turns.specs.declared.stage.RxStage.TheVariants as rx
use Rattle.vring_turns.specs.declared.stage.After.TheVariants as after
use Rattle.vring_turns.specs.ReceiveImage.{need_of}
use Rattle.vring_turns.specs.Turn.{fault_of}

-- ---- before the first step

-- a turn does nothing where its ring has no backend, or is stopped since that was set
abbrev pub first_answer : Bool → Option RingFault → Option End
first_answer false stopped = Some Off
first_answer true (Some fault) = Some (Stopped fault)
first_answer true None = None

-- ---- both kinds

-- the fault that stopped the ring, where a turn has this end, or has none yet
abbrev pub fault_in : Option End → Option RingFault
fault_in None = None
fault_in (Some end) = fault_of end

-- ---- transmit

-- a frame is accepted and is given to the host next; elsewhere none is held
abbrev pub is_giving : TxStage → Bool
is_giving tx.Begin = false
is_giving tx.Fetch = false
is_giving tx.NoticesOn = false
is_giving tx.FetchAgain = false
is_giving (tx.NoticesOff fault) = false
is_giving tx.Copy = false
is_giving tx.Give = true
is_giving (tx.Publish end) = false
is_giving (tx.Ended end) = false

-- how many chains were fetched and aren't done
abbrev pub chains_at : TxStage → ℕ
chains_at tx.Begin = 0
chains_at tx.Fetch = 0
chains_at tx.NoticesOn = 0
chains_at tx.FetchAgain = 0
chains_at (tx.NoticesOff None) = 1
chains_at (tx.NoticesOff (Some fault)) = 0
chains_at tx.Copy = 1
chains_at tx.Give = 0
chains_at (tx.Publish end) = 0
chains_at (tx.Ended end) = 0

-- the end that a turn has, or is about to have
abbrev pub tx_end_at : TxStage → Option End
tx_end_at tx.Begin = None
tx_end_at tx.Fetch = None
tx_end_at tx.NoticesOn = None
tx_end_at tx.FetchAgain = None
tx_end_at (tx.NoticesOff None) = None
tx_end_at (tx.NoticesOff (Some fault)) = Some (Stopped fault)
tx_end_at tx.Copy = None
tx_end_at tx.Give = None
tx_end_at (tx.Publish end) = end
tx_end_at (tx.Ended end) = Some end

-- the fault that stopped the ring in this turn
abbrev pub tx_stopped_at : TxStage → Option RingFault
tx_stopped_at stage = fault_in (tx_end_at stage)

-- the next fetch is the second of two
abbrev pub tx_is_second : TxStage → Bool
tx_is_second tx.Begin = false
tx_is_second tx.Fetch = false
tx_is_second tx.NoticesOn = false
tx_is_second tx.FetchAgain = true
tx_is_second (tx.NoticesOff fault) = false
tx_is_second tx.Copy = false
tx_is_second tx.Give = false
tx_is_second (tx.Publish end) = false
tx_is_second (tx.Ended end) = false

-- what is done is published next
abbrev pub tx_is_publishing : TxStage → Bool
tx_is_publishing tx.Begin = false
tx_is_publishing tx.Fetch = false
tx_is_publishing tx.NoticesOn = false
tx_is_publishing tx.FetchAgain = false
tx_is_publishing (tx.NoticesOff fault) = false
tx_is_publishing tx.Copy = false
tx_is_publishing tx.Give = false
tx_is_publishing (tx.Publish end) = true
tx_is_publishing (tx.Ended end) = false

-- the turn is over
abbrev pub tx_is_over : TxStage → Bool
tx_is_over tx.Begin = false
tx_is_over tx.Fetch = false
tx_is_over tx.NoticesOn = false
tx_is_over tx.FetchAgain = false
tx_is_over (tx.NoticesOff fault) = false
tx_is_over tx.Copy = false
tx_is_over tx.Give = false
tx_is_over (tx.Publish end) = false
tx_is_over (tx.Ended end) = true

-- ---- receive

-- a frame is in hand: from the step that takes it to the one that lets it out or puts it back
abbrev pub has_in_hand : RxStage → Bool
has_in_hand rx.Begin = false
has_in_hand rx.Hand = false
has_in_hand rx.Fetch = true
has_in_hand rx.NoticesOn = true
has_in_hand rx.FetchAgain = true
has_in_hand (rx.NoticesOff way) = true
has_in_hand rx.Copy = true
has_in_hand rx.Out = true
has_in_hand (rx.Discard had) = true
has_in_hand (rx.PutBack end) = true
has_in_hand (rx.Publish end) = false
has_in_hand (rx.Ended end) = false

-- how many bytes the frame in hand needs behind a header of this size, if there is one
abbrev pub need_at : ℕ → Option FrameValue → ℕ
need_at size None = 0
need_at size (Some frame) = need_of size frame

-- a frame is looked for next
abbrev pub is_asking : RxStage → Bool
is_asking rx.Begin = false
is_asking rx.Hand = true
is_asking rx.Fetch = false
is_asking rx.NoticesOn = false
is_asking rx.FetchAgain = false
is_asking (rx.NoticesOff way) = false
is_asking rx.Copy = false
is_asking rx.Out = false
is_asking (rx.Discard had) = false
is_asking (rx.PutBack end) = false
is_asking (rx.Publish end) = false
is_asking (rx.Ended end) = false

-- more chains are gathered for the frame in hand
abbrev pub gathers_at : RxStage → Bool
gathers_at rx.Begin = false
gathers_at rx.Hand = false
gathers_at rx.Fetch = true
gathers_at rx.NoticesOn = true
gathers_at rx.FetchAgain = true
gathers_at (rx.NoticesOff after.Fetch) = true
gathers_at (rx.NoticesOff after.Copy) = false
gathers_at (rx.NoticesOff (after.Discard had)) = false
gathers_at (rx.NoticesOff (after.PutBack end)) = false
gathers_at rx.Copy = false
gathers_at rx.Out = false
gathers_at (rx.Discard had) = false
gathers_at (rx.PutBack end) = false
gathers_at (rx.Publish end) = false
gathers_at (rx.Ended end) = false

-- the chains that are gathered hold it
abbrev pub copies_at : RxStage → Bool
copies_at rx.Begin = false
copies_at rx.Hand = false
copies_at rx.Fetch = false
copies_at rx.NoticesOn = false
copies_at rx.FetchAgain = false
copies_at (rx.NoticesOff after.Fetch) = false
copies_at (rx.NoticesOff after.Copy) = true
copies_at (rx.NoticesOff (after.Discard had)) = false
copies_at (rx.NoticesOff (after.PutBack end)) = false
copies_at rx.Copy = true
copies_at rx.Out = false
copies_at (rx.Discard had) = false
copies_at (rx.PutBack end) = false
copies_at (rx.Publish end) = false
copies_at (rx.Ended end) = false

-- the end that a turn has, or is about to have
abbrev pub rx_end_at : RxStage → Option End
rx_end_at rx.Begin = None
rx_end_at rx.Hand = None
rx_end_at rx.Fetch = None
rx_end_at rx.NoticesOn = None
rx_end_at rx.FetchAgain = None
rx_end_at (rx.NoticesOff after.Fetch) = None
rx_end_at (rx.NoticesOff after.Copy) = None
rx_end_at (rx.NoticesOff (after.Discard had)) = None
rx_end_at (rx.NoticesOff (after.PutBack end)) = Some end
rx_end_at rx.Copy = None
rx_end_at rx.Out = None
rx_end_at (rx.Discard had) = None
rx_end_at (rx.PutBack end) = Some end
rx_end_at (rx.Publish end) = end
rx_end_at (rx.Ended end) = Some end

-- the fault that stopped the ring in this turn
abbrev pub rx_stopped_at : RxStage → Option RingFault
rx_stopped_at stage = fault_in (rx_end_at stage)

-- the next fetch is the second of two
abbrev pub rx_is_second : RxStage → Bool
rx_is_second rx.Begin = false
rx_is_second rx.Hand = false
rx_is_second rx.Fetch = false
rx_is_second rx.NoticesOn = false
rx_is_second rx.FetchAgain = true
rx_is_second (rx.NoticesOff way) = false
rx_is_second rx.Copy = false
rx_is_second rx.Out = false
rx_is_second (rx.Discard had) = false
rx_is_second (rx.PutBack end) = false
rx_is_second (rx.Publish end) = false
rx_is_second (rx.Ended end) = false

-- what is done is published next
abbrev pub rx_is_publishing : RxStage → Bool
rx_is_publishing rx.Begin = false
rx_is_publishing rx.Hand = false
rx_is_publishing rx.Fetch = false
rx_is_publishing rx.NoticesOn = false
rx_is_publishing rx.FetchAgain = false
rx_is_publishing (rx.NoticesOff way) = false
rx_is_publishing rx.Copy = false
rx_is_publishing rx.Out = false
rx_is_publishing (rx.Discard had) = false
rx_is_publishing (rx.PutBack end) = false
rx_is_publishing (rx.Publish end) = true
rx_is_publishing (rx.Ended end) = false

-- the turn is over
abbrev pub rx_is_over : RxStage → Bool
rx_is_over rx.Begin = false
rx_is_over rx.Hand = false
rx_is_over rx.Fetch = false
rx_is_over rx.NoticesOn = false
rx_is_over rx.FetchAgain = false
rx_is_over (rx.NoticesOff way) = false
rx_is_over rx.Copy = false
rx_is_over rx.Out = false
rx_is_over (rx.Discard had) = false
rx_is_over (rx.PutBack end) = false
rx_is_over (rx.Publish end) = false
rx_is_over (rx.Ended end) = true
