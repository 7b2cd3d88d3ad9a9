-- This project's own, after Linux's vhost_net: a receive turn, which takes frames from a queue into a guest's chains.
use Rattle.std.specs.Prelude.{ℕ, ◌+◌, Bool, true, false, ◌==◌, nat_le, List, [], length, Option, None, Some, if◌then◌else◌}
use Rattle.guest_mem.specs.Memory.{Contents}
use Rattle.vring_walk.specs.declared.walk.Fetched.{Fetched}
use Rattle.vring_walk.specs.declared.walk.Fetched.TheVariants as fetched
use Rattle.vhost_queue.specs.Queue.{Queue}
use Rattle.tap_frame.specs.Frame.{FrameValue}
use Rattle.tap_ledger.specs.declared.act.Act.{Act}
use Rattle.tap_ledger.specs.declared.act.Act.TheVariants as act
use Rattle.tap_ledger.specs.declared.fate.Fate.{Fate}
use Rattle.tap_ledger.specs.declared.fate.Fate.TheVariants.{Discarded}
use Rattle.tap_ledger.specs.declared.fate.Cause.TheVariants.{Overrun}
use Rattle.tap_ledger.specs.declared.hand.Hand.{Hand}
use Rattle.tap_ledger.specs.declared.hand.Hand.TheVariants as hand
use Rattle.vring_turns.specs.declared.end.End.{End}
use Rattle.vring_turns.specs.declared.end.End.TheVariants.{Idle, Short, Again, Stopped}
use Rattle.vring_turns.specs.declared.end.TurnEnd.{TurnEnd}
use Rattle.vring_turns.specs.declared.stage.RxStage.{RxStage}
use Rattle.vring_turns.specs.declared.stage.RxStage.TheVariants as stage
use Rattle.vring_turns.specs.declared.stage.After.{After}
use Rattle.vring_turns.specs.declared.stage.After.TheVariants as after
use Rattle.vring_turns.specs.declared.step.Step.{Step}
use Rattle.vring_turns.specs.declared.step.Step.TheVariants as step
use Rattle.vring_turns.specs.Ring.{Gathered, Ring, Made, room_in, done_in, noticed, found, fetches, all_rewound, publishes}
use Rattle.vring_turns.specs.ReceiveImage.{need_of, copies_in}
use Rattle.vring_turns.specs.Turn.{is_enough, publishes_at}

-- a receive turn: whether frames go into several chains and the size of the header; how many packets, bytes and chains
-- it handled; the frame in hand, if there is one, the chains that were fetched and aren't done, and where it stands
pub record RxTurn : Type 0 where
  pub mergeable : Bool
  pub header : ℕ
  pub packets : ℕ
  pub bytes : ℕ
  pub handled : ℕ
  pub held : Option FrameValue
  pub chains : List Gathered
  pub stage : RxStage

-- the turn with what it works on: the queue of the ring and the guest's memory
pub record RxState : Type 0 where
  pub turn : RxTurn
  pub queue : Queue
  pub memory : Contents

-- a turn as it begins
abbrev pub rx_begun : Bool → ℕ → RxTurn
rx_begun mergeable header = record {
  mergeable = mergeable;
  header = header;
  packets = 0;
  bytes = 0;
  handled = 0;
  held = None;
  chains = [];
  stage = stage.Begin;
}

-- how many chains a frame may go into
abbrev pub quota : Bool → ℕ
quota mergeable = if mergeable then 1024 else 1

-- Where it stands.

abbrev pub rx_at : RxStage → RxTurn → RxTurn
rx_at stage t = record t { stage = stage }

-- it ends: after a publication, where anything is done
abbrev pub rx_closing : End → Queue → RxStage
rx_closing end q = if done_in q == 0 then stage.Ended end else stage.Publish (Some end)

-- a packet is behind it: it did enough, or so many chains are done that they are published, or it goes on
abbrev pub rx_after_packet : RxTurn → Queue → RxStage
rx_after_packet t q =
    if is_enough t.packets t.bytes t.handled then rx_closing Again q
    else (if nat_le publishes_at (done_in q) then stage.Publish None else stage.Hand)

-- these chains are gathered: they hold the frame, or they are as many as there may be, or one more is fetched
abbrev pub gathers : Bool → ℕ → List Gathered → After
gathers mergeable need chains =
    if nat_le need (room_in chains) then after.Copy
    else (if nat_le (quota mergeable) (length chains) then after.Discard (room_in chains)
    else after.Fetch)

-- what was found, where these chains are gathered then; a fetch that finds nothing has no such way
abbrev pub goes_on : Bool → ℕ → List Gathered → Fetched → Option After
goes_on mergeable need chains (fetched.Chain head) = Some (gathers mergeable need chains)
goes_on mergeable need chains fetched.Crowded = Some (after.Discard (room_in chains))
goes_on mergeable need chains (fetched.Bad fault) = Some (after.PutBack (Stopped fault))
goes_on mergeable need chains fetched.Nothing = None

-- the stage of a way
abbrev pub stage_of : After → RxStage
stage_of after.Fetch = stage.Fetch
stage_of after.Copy = stage.Copy
stage_of (after.Discard had) = stage.Discard had
stage_of (after.PutBack end) = stage.PutBack end

-- whether a way gives up the chains that are gathered
abbrev pub gives_up : After → Bool
gives_up after.Fetch = false
gives_up after.Copy = false
gives_up (after.Discard had) = true
gives_up (after.PutBack end) = true

-- a first fetch is behind it: it goes its way, or notices are turned on
abbrev pub rx_after_fetch : Option After → RxStage
rx_after_fetch None = stage.NoticesOn
rx_after_fetch (Some way) = stage_of way

-- one more fetch is behind it: notices are turned off before it goes its way, or the chains are too short
abbrev pub rx_after_second : ℕ → List Gathered → Option After → RxStage
rx_after_second need chains None = stage.PutBack (Short need (room_in chains))
rx_after_second need chains (Some way) = stage.NoticesOff way

-- the chains are rewound where they are given up; after the second fetch also where it found nothing
abbrev pub rx_rewinds : Bool → Option After → Bool
rx_rewinds second None = second
rx_rewinds second (Some way) = gives_up way

-- Steps.

abbrev pub rx_ring : RxState → Ring
rx_ring s = record { queue = s.queue; chains = s.turn.chains }

-- a step that changes the ring and the memory, after which the turn stands at a stage
abbrev pub rx_made : Made → RxStage → RxState → RxState × Act
rx_made made stage s = (
  record {
    turn = record s.turn { chains = made.ring.chains; stage = stage };
    queue = made.ring.queue;
    memory = made.memory;
  },
  made.told,
)

-- a fetch, with its rewind
abbrev pub rewinding : Bool → Made → Made
rewinding rewinds made = record made { ring = if rewinds then all_rewound made.ring else made.ring }

-- what was found, and the way that it leads to
abbrev pub rx_way : ℕ → RxState → Option After
rx_way need s =
    goes_on s.turn.mergeable need (fetches (rx_ring s) s.memory).ring.chains (found (rx_ring s) s.memory).0

-- the first fetch of two, or the second, for a frame that needs so many bytes; a Short tells what the chains have, to
-- which a fetch that finds nothing adds none
abbrev pub rx_fetches : Bool → ℕ → RxState → RxState × Act
rx_fetches second need s =
    let way = rx_way need s in
    rx_made
    (rewinding (rx_rewinds second way) (fetches (rx_ring s) s.memory))
    (if second then rx_after_second need s.turn.chains way else rx_after_fetch way) s

abbrev pub rx_copies : FrameValue → RxState → Option (RxState × Act)
rx_copies frame s =
    elim (copies_in s.turn.header frame (rx_ring s) s.memory) [
      | None ↦ None
      | Some made ↦
          let next = rx_made made stage.Out s in
          Some (record next.0 { turn = record next.0.turn { handled = s.turn.handled + length s.turn.chains } }, next.1)
    ]

abbrev pub rx_publishes : Option End → RxState → Option (RxState × Act)
rx_publishes end s =
    elim (publishes (rx_ring s) s.memory) [
      | None ↦ None
      | Some made ↦ Some (rx_made made (elim end [ None ↦ stage.Hand | Some e ↦ stage.Ended e ]) s)
    ]

-- the fate of a frame that needs more bytes than its chains had
abbrev pub overrun : Bool → ℕ → ℕ → Fate
overrun mergeable need had = Discarded (Overrun need (quota mergeable) had)

-- a frame is out, and is a packet of so many bytes
abbrev pub rx_outs : ℕ → FrameValue → RxState → RxState × Act
rx_outs bytes frame s =
    let t = record s.turn { packets = s.turn.packets + 1; bytes = s.turn.bytes + bytes; held = None } in
    (record s { turn = rx_at (rx_after_packet t s.queue) t }, act.Out frame.name)

abbrev pub rx_puts_back : End → RxState → RxState × Act
rx_puts_back end s =
    (record s { turn = record s.turn { held = None; stage = rx_closing end s.queue } }, act.PutBack)

-- what the queue of frames handed out: a frame, or none was ready; off and want of memory make no step
abbrev pub rx_hands : Hand → RxState → Option (RxState × Act)
rx_hands (hand.Got frame) s =
    Some (record s { turn = record s.turn { held = Some frame; stage = stage.Fetch } }, act.Hand)
rx_hands (hand.NotReady place) s = Some (record s { turn = rx_at (rx_closing Idle s.queue) s.turn }, act.NotReady)
rx_hands hand.Off s = None
rx_hands hand.NoMemory s = None

-- a step with the frame in hand
abbrev pub rx_with : RxStage → FrameValue → RxState → Option (RxState × Act)
rx_with stage.Fetch frame s = Some (rx_fetches false (need_of s.turn.header frame) s)
rx_with stage.FetchAgain frame s = Some (rx_fetches true (need_of s.turn.header frame) s)
rx_with stage.Copy frame s = rx_copies frame s
rx_with stage.Out frame s = Some (rx_outs (need_of s.turn.header frame) frame s)
rx_with (stage.Discard had) frame s = Some (rx_outs 0 frame s)
rx_with (stage.PutBack end) frame s = Some (rx_puts_back end s)
rx_with other frame s = None

abbrev pub rx_in_hand : Option FrameValue → RxState → Option (RxState × Act)
rx_in_hand None s = None
rx_in_hand (Some frame) s = rx_with s.turn.stage frame s

-- the step that comes next, if one does, where the queue of frames would hand this out
abbrev pub rx_next : RxStage → Hand → RxState → Option (RxState × Act)
rx_next stage.Begin h s = Some (rx_made (noticed false (rx_ring s) s.memory) stage.Hand s)
rx_next stage.Hand h s = rx_hands h s
rx_next stage.NoticesOn h s = Some (rx_made (noticed true (rx_ring s) s.memory) stage.FetchAgain s)
rx_next (stage.NoticesOff way) h s = Some (rx_made (noticed false (rx_ring s) s.memory) (stage_of way) s)
rx_next (stage.Publish end) h s = rx_publishes end s
rx_next (stage.Ended end) h s = None
rx_next other h s = rx_in_hand s.turn.held s

abbrev pub rx_step : Hand → RxState → Option (RxState × Act)
rx_step h s = rx_next s.turn.stage h s

-- What is told.

-- what a turn that ends so reports
abbrev pub rx_report : RxTurn → End → TurnEnd
rx_report t end = record { packets = t.packets; bytes = t.bytes; end = end }

-- what a step answers that made an event: the turn goes on, or it is over
abbrev pub rx_told : RxTurn → RxStage → Act → Step
rx_told t (stage.Ended end) told = step.Ended (Some told) (rx_report t end)
rx_told t other told = step.More told

-- a step that found the queue off, or no memory, made no event
abbrev pub rx_without_event : RxTurn → End → Step
rx_without_event t end = step.Ended None (rx_report t end)
