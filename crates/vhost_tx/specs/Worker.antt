-- This project's own: what a transmit worker is to a contract, and how it and its queue fit together between two steps.
use Rattle.std.specs.Prelude.{◌≡◌, ℕ, ◌+◌, ◌<◌, ◌≤◌, Bool, true, false, length, Option, None, Some, is_some}
use Rattle.guest_mem.specs.Memory.{Contents}
use Rattle.vring_split.specs.declared.layout.Layout.{Layout}
use Rattle.vhost_queue.specs.Queue.{Queue, Reserved, room_of, most_done}
use Rattle.tap_ledger.specs.declared.act.Act.{Act}
use Rattle.tap_ledger.specs.Host.{HostState}
use Rattle.vring_turns.specs.declared.end.End.TheVariants.{NoMemory}
use Rattle.vring_turns.specs.declared.stage.TxStage.{TxStage}
use Rattle.vring_turns.specs.declared.stage.TxStage.TheVariants.{Begin, Fetch, NoticesOn, FetchAgain, NoticesOff, Copy, Give, Publish, Ended}
use Rattle.vring_turns.specs.Ring.{Ring, done_in}
use Rattle.vring_turns.specs.Turn.{is_enough}
use Rattle.vring_turns.specs.Stage.{is_giving, chains_at, tx_stopped_at, tx_is_publishing, tx_is_over}
use Rattle.vring_turns.specs.TxTurn.{TxTurn, TxState, at_stage}

-- a worker: its turn, and the layout and the position that its queue has
pub record Worker : Type 0 where
  pub turn : TxTurn
  pub layout : Layout
  pub next : ℕ

-- the worker's turn, with what it works on
abbrev pub state_of : Worker → Queue → Contents → HostState → TxState
state_of w q m host = record { turn = w.turn; queue = q; memory = m; host = host }

-- the queue with the chain that the worker fetched
abbrev pub ring_of : Worker → Queue → Ring
ring_of w q = record { queue = q; chains = w.turn.chains }

-- whether one more packet may come
abbrev pub goes_on_at : TxStage → Bool
goes_on_at Begin = true
goes_on_at Fetch = true
goes_on_at NoticesOn = true
goes_on_at FetchAgain = true
goes_on_at (NoticesOff fault) = true
goes_on_at Copy = true
goes_on_at Give = false
goes_on_at (Publish None) = true
goes_on_at (Publish (Some end)) = false
goes_on_at (Ended end) = false

-- Fitting together.

-- the queue has the layout, the position, the number of gathered chains and the fault that the worker left it with
pub record IsSameQueue (w : Worker) (q : Queue) : Type 0 where
  pub layout : q.layout ≡ w.layout
  pub next : q.positions.next ≡ w.next
  pub gathered : q.positions.gathered ≡ chains_at w.turn.stage
  pub stopped : q.stopped ≡ tx_stopped_at w.turn.stage
  pub done : tx_is_publishing w.turn.stage ≡ true → 0 < done_in q

-- the worker holds what its stage says, it has not done enough where it goes on, and there are places for what it may
-- still publish
pub record HasNumbers (w : Worker) (r : Reserved) : Type 0 where
  pub chains : length w.turn.chains ≡ chains_at w.turn.stage
  pub held : is_some w.turn.held ≡ is_giving w.turn.stage
  pub more : goes_on_at w.turn.stage ≡ true → is_enough w.turn.packets w.turn.bytes w.turn.packets ≡ false
  pub few : w.turn.accepted ≤ w.turn.packets
  pub room : most_done ≤ room_of r + w.turn.packets

pub record IsSteady (w : Worker) (r : Reserved) : Type 0 where
  pub queue : IsSameQueue w r.queue
  pub numbers : HasNumbers w r

-- and the turn isn't over: one more step may be made
pub record Fits (w : Worker) (r : Reserved) : Type 0 where
  pub steady : IsSteady w r
  pub going : tx_is_over w.turn.stage ≡ false

-- What a step does.

-- a change of a turn with what it works on, for every host
abbrev pub Changes :
    (TxState → Option (TxState × Act)) → Worker → Queue → Contents → Worker → Queue → Contents → Act → Type 0
Changes change w q m w' q' m' told =
    (host : HostState) → change (state_of w q m host) ≡ Some (state_of w' q' m' host, told)

-- the worker whose turn found no memory
abbrev pub out_of_memory : Worker → Worker
out_of_memory w = record w { turn = at_stage (Ended NoMemory) w.turn }
