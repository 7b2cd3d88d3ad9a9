-- This project's own: what a receive worker is to a contract, and how it and its queue fit together between two steps.
use Rattle.std.specs.Prelude.{◌≡◌, ℕ, ◌+◌, ◌<◌, ◌≤◌, Bool, true, false, length, Option, None, Some, is_some}
use Rattle.std.specs.Option.{option_map}
use Rattle.guest_mem.specs.Memory.{Contents}
use Rattle.vring_split.specs.declared.layout.Layout.{Layout}
use Rattle.vhost_queue.specs.Queue.{Queue, Reserved, turn_places}
use Rattle.tap_frame.specs.declared.name.Name.{Name}
use Rattle.tap_ledger.specs.declared.act.Act.{Act}
use Rattle.vring_turns.specs.declared.end.End.{End}
use Rattle.vring_turns.specs.declared.end.End.TheVariants.{Off, NoMemory}
use Rattle.vring_turns.specs.declared.stage.RxStage.{RxStage}
use Rattle.vring_turns.specs.declared.stage.RxStage.TheVariants as stage
use Rattle.vring_turns.specs.Ring.{Ring, done_in, room_in}
use Rattle.vring_turns.specs.Turn.{most_packets, most_bytes, most_chains, publishes_at}
use Rattle.vring_turns.specs.Stage.{need_at, has_in_hand, gathers_at, copies_at, rx_stopped_at, rx_is_publishing, rx_is_over}
use Rattle.vring_turns.specs.RxTurn.{RxTurn, RxState, quota, rx_at, rx_hands, rx_step, rx_without_event}
use Rattle.vring_turns.specs.declared.step.Step.{Step}
use Rattle.vring_turns.specs.Standing.{RxStands}
use Rattle.vring_turns.specs.Ready.{RxReady}
use Rattle.vring_turns.specs.Hands.{Hands, Moves}
use Rattle.tap_ledger.specs.declared.hand.Hand.{Hand}
use Rattle.tap_ledger.specs.declared.hand.Hand.TheVariants as hand
use Rattle.tap_ledger.specs.Queue.{QueueState}

-- a worker: its turn, and the layout and the position that its ring's queue has
pub record Worker : Type 0 where
  pub turn : RxTurn
  pub layout : Layout
  pub next : ℕ

-- the worker's turn, with what it works on
abbrev pub state_of : Worker → Queue → Contents → RxState
state_of w q m = record { turn = w.turn; queue = q; memory = m }

-- the queue with the chains that the worker gathered
abbrev pub ring_of : Worker → Queue → Ring
ring_of w q = record { queue = q; chains = w.turn.chains }

-- how many bytes the frame in hand needs
abbrev pub need_in : RxTurn → ℕ
need_in t = need_at t.header t.held

-- What a stage says.

-- the stage of a first fetch, or of one more
abbrev pub fetch_stage : Bool → RxStage
fetch_stage false = stage.Fetch
fetch_stage true = stage.FetchAgain

-- one more packet may be counted
abbrev pub counts_at : RxStage → Bool
counts_at stage.Begin = true
counts_at stage.Hand = true
counts_at stage.Fetch = true
counts_at stage.NoticesOn = true
counts_at stage.FetchAgain = true
counts_at (stage.NoticesOff way) = true
counts_at stage.Copy = true
counts_at stage.Out = true
counts_at (stage.Discard had) = true
counts_at (stage.PutBack end) = false
counts_at (stage.Publish None) = true
counts_at (stage.Publish (Some end)) = false
counts_at (stage.Ended end) = false

-- and chains may be done for it
abbrev pub copies_after : RxStage → Bool
copies_after stage.Begin = true
copies_after stage.Hand = true
copies_after stage.Fetch = true
copies_after stage.NoticesOn = true
copies_after stage.FetchAgain = true
copies_after (stage.NoticesOff way) = true
copies_after stage.Copy = true
copies_after stage.Out = false
copies_after (stage.Discard had) = true
copies_after (stage.PutBack end) = false
copies_after (stage.Publish None) = true
copies_after (stage.Publish (Some end)) = false
copies_after (stage.Ended end) = false

-- few chains are done
abbrev pub few_done_at : RxStage → Bool
few_done_at stage.Begin = true
few_done_at stage.Hand = true
few_done_at stage.Fetch = true
few_done_at stage.NoticesOn = true
few_done_at stage.FetchAgain = true
few_done_at (stage.NoticesOff way) = true
few_done_at stage.Copy = true
few_done_at stage.Out = false
few_done_at (stage.Discard had) = true
few_done_at (stage.PutBack end) = false
few_done_at (stage.Publish end) = false
few_done_at (stage.Ended end) = false

-- Fitting together.

-- the queue has the layout, the position, the number of gathered chains and the fault that the worker left it with
pub record IsSameQueue (w : Worker) (q : Queue) : Type 0 where
  pub layout : q.layout ≡ w.layout
  pub next : q.positions.next ≡ w.next
  pub gathered : q.positions.gathered ≡ length w.turn.chains
  pub stopped : q.stopped ≡ rx_stopped_at w.turn.stage
  pub done : rx_is_publishing w.turn.stage ≡ true → 0 < done_in q

-- the worker holds a frame where its stage says so; its chains are fewer than they may be and too short for it, or
-- hold it, or there are none
pub record HasChains (t : RxTurn) : Type 0 where
  pub held : is_some t.held ≡ has_in_hand t.stage
  pub fewer : gathers_at t.stage ≡ true → length t.chains < quota t.mergeable
  pub short : gathers_at t.stage ≡ true → room_in t.chains < need_in t
  pub enough : copies_at t.stage ≡ true → need_in t ≤ room_in t.chains
  pub most : length t.chains ≤ quota t.mergeable
  pub none : gathers_at t.stage ≡ false → copies_at t.stage ≡ false → length t.chains ≡ 0

-- a turn that stands rightly and is ready has them so
abbrev pub ReadyTurnsHaveChains : Type 0
ReadyTurnsHaveChains = (t : RxTurn) (q : Queue) → RxStands t q → RxReady t q → HasChains t

-- it has not done enough where it goes on, and there are places for what it may still publish
pub record HasPlaces (t : RxTurn) (r : Reserved) : Type 0 where
  pub packets : counts_at t.stage ≡ true → t.packets < most_packets
  pub bytes : counts_at t.stage ≡ true → t.bytes < most_bytes
  pub handled : copies_after t.stage ≡ true → t.handled < most_chains
  pub few : few_done_at t.stage ≡ true → done_in r.queue < publishes_at
  pub reserved : turn_places + done_in r.queue ≤ r.reserved + t.handled

pub record IsSteady (w : Worker) (r : Reserved) : Type 0 where
  pub queue : IsSameQueue w r.queue
  pub chains : HasChains w.turn
  pub places : HasPlaces w.turn r

-- and the turn isn't over: one more step may be made
pub record Fits (w : Worker) (r : Reserved) : Type 0 where
  pub steady : IsSteady w r
  pub going : rx_is_over w.turn.stage ≡ false

-- the name of the frame that the worker has in hand
abbrev pub name_in_hand : Worker → Option Name
name_in_hand w = option_map (λ f. f.name) w.turn.held

-- What a step does.

-- a change of a turn with what it works on
abbrev pub Changes :
    (RxState → Option (RxState × Act)) → Worker → Queue → Contents → Worker → Queue → Contents → Act → Type 0
Changes change w q m w' q' m' told = change (state_of w q m) ≡ Some (state_of w' q' m', told)

-- what a queue handed out ends the turn
abbrev pub EndsBy : Hand → End → Type 0
EndsBy hand.Off end = end ≡ Off
EndsBy hand.NoMemory end = end ≡ NoMemory
EndsBy (hand.Got frame) end = ⊥
EndsBy (hand.NotReady place) end = ⊥

-- the worker whose turn ended without an event
abbrev pub ended_by : End → Worker → Worker
ended_by end w = record w { turn = rx_at (stage.Ended end) w.turn }

-- a frame was taken in hand, or none was ready
pub record HandsOut (w w' : Worker) (q : Queue) (old new : QueueState) (told : Act) : Type 0 where
  pub hand : Hand
  pub hands : Hands hand old new
  pub step : (m : Contents) → rx_hands hand (state_of w q m) ≡ Some (state_of w' q m, told)

-- a step made the event that comes next, and moved the queue of frames so
pub record Stepped (before after : RxState) (old new : QueueState) (told : Act) : Type 0 where
  pub hand : Hand
  pub moves : Moves before.turn hand old new
  pub step : rx_step hand before ≡ Some (after, told)

-- a step made no event: the queue of frames was off, or found no memory
pub record Ended (w : Worker) (old new : QueueState) (end : End) : Type 0 where
  pub at : w.turn.stage ≡ stage.Hand
  pub hand : Hand
  pub hands : Hands hand old new
  pub why : EndsBy hand end

-- and its step tells the end alone
pub record EndsUntold (w w' : Worker) (result : Step) (old new : QueueState) : Type 0 where
  pub end : End
  pub ended : Ended w old new end
  pub worker : w' ≡ ended_by end w
  pub told : result ≡ rx_without_event w.turn end
