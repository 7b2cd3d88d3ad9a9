-- This project's own, after Linux's vhost_net: a transmit turn, which takes frames from a guest's chains to the host.
use Rattle.std.specs.Prelude.{ℕ, ◌+◌, true, false, ◌==◌, nat_lt, nat_le, List, [], ◌∷◌, Option, None, Some, if◌then◌else◌}
use Rattle.guest_mem.specs.Memory.{Contents}
use Rattle.vring_split.specs.declared.fault.RingFault.{RingFault}
use Rattle.vring_walk.specs.declared.walk.Fetched.{Fetched}
use Rattle.vring_walk.specs.declared.walk.Fetched.TheVariants as fetched
use Rattle.vhost_queue.specs.Queue.{Queue}
use Rattle.vhost_queue.specs.Positions.{with_done}
use Rattle.tap_frame.specs.declared.name.Name.{Name}
use Rattle.tap_frame.specs.declared.reading.BadFrame.{BadFrame}
use Rattle.tap_frame.specs.Frame.{FrameValue}
use Rattle.tap_ledger.specs.declared.act.Act.{Act}
use Rattle.tap_ledger.specs.declared.act.Act.TheVariants as act
use Rattle.tap_ledger.specs.Host.{HostState, with_given}
use Rattle.vring_turns.specs.declared.end.End.{End}
use Rattle.vring_turns.specs.declared.end.End.TheVariants.{Idle, Again, Stopped, NoMemory}
use Rattle.vring_turns.specs.declared.end.TurnEnd.{TurnEnd}
use Rattle.vring_turns.specs.declared.stage.TxStage.{TxStage}
use Rattle.vring_turns.specs.declared.stage.TxStage.TheVariants.{Begin, Fetch, NoticesOn, FetchAgain, NoticesOff, Copy, Give, Publish, Ended}
use Rattle.vring_turns.specs.declared.step.Step.{Step}
use Rattle.vring_turns.specs.declared.step.Step.TheVariants as step
use Rattle.vring_turns.specs.Ring.{Gathered, Ring, Made, first_position, done_in, noticed, found, fetches, publishes}
use Rattle.vring_turns.specs.TransmitBytes.{bytes_of_chain, counted, refusal_of, frame_of}
use Rattle.vring_turns.specs.Turn.{is_enough, publishes_at}

-- a transmit turn: the size of the header, the name of its first frame, how many packets and bytes it handled and
-- how many frames it accepted; the chain that was fetched and isn't done, or the frame that was accepted and isn't
-- given, if there is one; and where it stands
pub record TxTurn : Type 0 where
  pub header : ℕ
  pub first : Name
  pub packets : ℕ
  pub bytes : ℕ
  pub accepted : ℕ
  pub chains : List Gathered
  pub held : Option FrameValue
  pub stage : TxStage

-- the turn with what it works on: the queue, the guest's memory and the host
pub record TxState : Type 0 where
  pub turn : TxTurn
  pub queue : Queue
  pub memory : Contents
  pub host : HostState

-- a turn as it begins
abbrev pub tx_begun : ℕ → Name → TxTurn
tx_begun header first = record {
  header = header;
  first = first;
  packets = 0;
  bytes = 0;
  accepted = 0;
  chains = [];
  held = None;
  stage = Begin;
}

-- the name of the next frame: its part counts the frames that were accepted before it
abbrev pub next_name : TxTurn → Name
next_name t = record t.first { part = t.accepted }

-- Where it stands.

abbrev pub at_stage : TxStage → TxTurn → TxTurn
at_stage stage t = record t { stage = stage }

-- it ends: after a publication, where anything is done
abbrev pub tx_closing : End → Queue → TxStage
tx_closing end q = if done_in q == 0 then Ended end else Publish (Some end)

-- a packet is behind it: it did enough, each packet being one chain, or so many chains are done that they are
-- published, or it goes on
abbrev pub tx_after_packet : TxTurn → Queue → TxStage
tx_after_packet t q =
    if is_enough t.packets t.bytes t.packets then tx_closing Again q
    else (if nat_le publishes_at (done_in q) then Publish None else Fetch)

-- a first fetch is behind it; a chain has no more segments than there are places
abbrev pub tx_after_fetch : Queue → Fetched → Option TxStage
tx_after_fetch q (fetched.Chain head) = Some Copy
tx_after_fetch q fetched.Nothing = Some NoticesOn
tx_after_fetch q (fetched.Bad fault) = Some (tx_closing (Stopped fault) q)
tx_after_fetch q fetched.Crowded = None

-- one more fetch is behind it, after notices were turned on
abbrev pub tx_after_second : Queue → Fetched → Option TxStage
tx_after_second q (fetched.Chain head) = Some (NoticesOff None)
tx_after_second q fetched.Nothing = Some (tx_closing Idle q)
tx_after_second q (fetched.Bad fault) = Some (NoticesOff (Some fault))
tx_after_second q fetched.Crowded = None

-- notices are off again: a chain was found, or a fault
abbrev pub tx_after_notices : Queue → Option RingFault → TxStage
tx_after_notices q None = Copy
tx_after_notices q (Some fault) = tx_closing (Stopped fault) q

-- Steps.

abbrev pub tx_ring : TxState → Ring
tx_ring s = record { queue = s.queue; chains = s.turn.chains }

-- a step that changes the ring and the memory, after which the turn stands at a stage
abbrev pub tx_made : Made → TxStage → TxState → TxState × Act
tx_made made stage s = (
  record {
    turn = record s.turn { chains = made.ring.chains; stage = stage };
    queue = made.ring.queue;
    memory = made.memory;
    host = s.host;
  },
  made.told,
)

abbrev pub tx_fetches : (Queue → Fetched → Option TxStage) → TxState → Option (TxState × Act)
tx_fetches after s =
    elim (after s.queue (found (tx_ring s) s.memory).0) [
      | None ↦ None
      | Some stage ↦ Some (tx_made (fetches (tx_ring s) s.memory) stage s)
    ]

abbrev pub tx_publishes : Option End → TxState → Option (TxState × Act)
tx_publishes end s =
    elim (publishes (tx_ring s) s.memory) [
      | None ↦ None
      | Some made ↦ Some (tx_made made (elim end [ None ↦ Fetch | Some e ↦ Ended e ]) s)
    ]

-- the chain is done with length 0, and counts as a packet of its bytes
abbrev pub tx_done : Gathered → TxState → TxState
tx_done c s = record s {
  turn = record s.turn {
    packets = s.turn.packets + 1;
    bytes = s.turn.bytes + counted s.turn.header c;
    chains = [];
  };
  queue = record s.queue { positions = with_done c.head 0 s.queue.positions };
}

-- its bytes are a frame, which is accepted, or are refused
abbrev pub tx_judged : ℕ → List ℕ → Option BadFrame → TxState → TxState × Act
tx_judged position bytes (Some bad) s =
    (record s { turn = at_stage (tx_after_packet s.turn s.queue) s.turn }, act.Refused position bad)
tx_judged position bytes None s = (
  record s {
    turn = record s.turn {
      accepted = s.turn.accepted + 1;
      held = Some (frame_of s.turn.header (next_name s.turn) bytes);
      stage = Give;
    };
  },
  act.Copy position (next_name s.turn),
)

abbrev pub tx_copies : List Gathered → TxState → Option (TxState × Act)
tx_copies [] s = None
tx_copies (c ∷ cs) s =
    let bytes = bytes_of_chain s.turn.header s.memory c in
    Some (tx_judged (first_position (tx_ring s)) bytes (refusal_of s.turn.header bytes) (tx_done c s))

-- the host takes the frame, where it has room
abbrev pub tx_gives : Option FrameValue → TxState → Option (TxState × Act)
tx_gives None s = None
tx_gives (Some frame) s =
    if nat_lt 0 s.host.room then Some (
      record s {
        turn = record s.turn { held = None; stage = tx_after_packet s.turn s.queue };
        host = with_given frame s.host;
      },
      act.Given frame.name,
    )
    else None

-- the step that comes next, if one does
abbrev pub tx_next : TxStage → TxState → Option (TxState × Act)
tx_next Begin s = Some (tx_made (noticed false (tx_ring s) s.memory) Fetch s)
tx_next Fetch s = tx_fetches tx_after_fetch s
tx_next NoticesOn s = Some (tx_made (noticed true (tx_ring s) s.memory) FetchAgain s)
tx_next FetchAgain s = tx_fetches tx_after_second s
tx_next (NoticesOff fault) s =
    Some (tx_made (noticed false (tx_ring s) s.memory) (tx_after_notices s.queue fault) s)
tx_next Copy s = tx_copies s.turn.chains s
tx_next Give s = tx_gives s.turn.held s
tx_next (Publish end) s = tx_publishes end s
tx_next (Ended end) s = None

abbrev pub tx_step : TxState → Option (TxState × Act)
tx_step s = tx_next s.turn.stage s

-- What is told.

-- what a turn that ends so reports
abbrev pub tx_report : TxTurn → End → TurnEnd
tx_report t end = record { packets = t.packets; bytes = t.bytes; end = end }

-- what a step answers that made an event: the turn goes on, or it is over
abbrev pub tx_told : TxTurn → TxStage → Act → Step
tx_told t (Ended end) told = step.Ended (Some told) (tx_report t end)
tx_told t stage told = step.More told

-- a step that found no memory made no event
abbrev pub tx_out_of_memory : TxTurn → Step
tx_out_of_memory t = step.Ended None (tx_report t NoMemory)
