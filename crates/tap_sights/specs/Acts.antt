-- This project's own: the acts on a guest as one fold, with what each was handed; no look ahead.
use Rattle.std.specs.Prelude.{ℕ, ◌==◌, ◌&&◌, not, if◌then◌else◌, true, false, List, [], ◌∷◌, length, filter, find, Option, Some, None, is_none}
use Rattle.guest_mem.specs.Memory.{Contents, first_bad}
use Rattle.guest_mem.specs.Regions.{zeroed}
use Rattle.guest_mem.specs.declared.region.Region.{Region}
use Rattle.tap_ledger.specs.declared.hand.Hand.{Hand}
use Rattle.vhost_dev.specs.Settings.{ring_at}
use Rattle.vhost_queue.specs.Queue.{Queue}
use Rattle.vring_turns.specs.RxTurn.{rx_step}
use Rattle.vring_turns.specs.TxTurn.{TxTurn, tx_step}
use Rattle.scen_words.specs.declared.command.Command.{Command}
use Rattle.scen_words.specs.declared.command.Command.TheVariants as command
use Rattle.tap_trace.specs.declared.answer.Answer.{Answer}
use Rattle.tap_trace.specs.declared.answer.Answer.TheVariants as answer
use Rattle.tap_trace.specs.declared.kind.Kind.{Kind}
use Rattle.tap_trace.specs.declared.kind.Kind.TheVariants as kind
use Rattle.tap_trace.specs.declared.turn.ChainText.{ChainText}
use Rattle.tap_ground.specs.Options.{◌>>=◌, only_if}
use Rattle.tap_world.specs.ByNumber.{at, with_at}
use Rattle.tap_world.specs.Guests.{Vhost, is_ring, turn_of, with_queue, with_turn}
use Rattle.tap_world.specs.StepControl.{Call, call_of, may_call, peeked, poke_leaves, poke_told}
use Rattle.tap_world.specs.StepTurns.{is_off, kind_of, rx_state, turn_on}
use Rattle.tap_world.specs.StepTransmits.{chains_after, tx_state}
use Rattle.tap_legal.specs.Numbered.{Told}
use Rattle.tap_legal.specs.Case.{Case}
use Rattle.tap_legal.specs.Lookups.{table_at}
use Rattle.tap_legal.specs.Replay.{Accepted, Packet, Turning, Under, back_made, back_wanted, vhost_named}
use Rattle.tap_legal.specs.Replay.Turning.{Receiving, Sending}
use Rattle.tap_legal.specs.Replays.{vhosts_on}
use Rattle.tap_legal.specs.ReplayTurns.{accepted_by, is_under_on, packet_at, rx_answer, turn_begun, turning_on, tx_answer}

-- a call on a vhost or a driver; a poke or a peek; a backend, judged by the table of a version; a turn that finds no
-- backend or a stopped ring; a step of a turn, with what its queue handed where it took a frame in hand
pub data What : Type 0 where
  Called : What
  OnBytes : What
  Backed : ℕ → What
  FoundOff : What
  Turned : Hand → What

pub record Act : Type 0 where
  pub told : Told
  pub command : Command
  pub what : What

pub record State : Type 0 where
  pub memory : Contents
  pub vhosts : List (Option Vhost)
  pub under : List Under

-- what an act leaves, the step that it prints, what its command answers with it, the packet that is over, the frame that
-- it accepted, and the file that it takes off a ring
pub record Done : Type 0 where
  pub state : State
  pub step : Option Kind
  pub answer : Option Answer
  pub packets : List Packet
  pub accepted : List Accepted
  pub gave : Option ℕ

abbrev pub done_as : State → Option Kind → Option Answer → Done
done_as st step x = record { state = st; step = step; answer = x; packets = []; accepted = []; gave = None }

-- ---- single calls

abbrev pub called_by : ℕ → State → Call → Done
called_by vhost st x =
    done_as (record st { memory = x.memory; vhosts = with_at vhost x.vhost st.vhosts }) x.step (Some x.answer)

abbrev pub calls : Act → State → Option Done
calls a st = do
  vhost ← vhost_named a.command
  v ← at st.vhosts vhost
  x ← call_of a.command v st.memory
  only_if (may_call a.told.command a.command v) (called_by vhost st x)

abbrev pub on_bytes : ℕ → Command → State → Option Done
on_bytes guest (command.Poke g addr bytes) st =
    let bad : Option ℕ = first_bad st.memory.regions addr (length bytes) in
    only_if (g == guest)
    (done_as (record st { memory = poke_leaves st.memory addr bytes bad }) (Some kind.Poke) (Some (poke_told bad)))
on_bytes guest (command.Peek g addr len) st =
    only_if (g == guest)
    (done_as st (Some kind.Peek) (Some (peeked addr len st.memory (first_bad st.memory.regions addr len))))
on_bytes guest other st = None

abbrev pub backed : ℕ → ℕ → Option ℕ → Vhost → State → Option Answer → Done
backed vhost ring file v st (Some x) = done_as st (Some (kind.Backend vhost ring false)) (Some x)
backed vhost ring file v st None =
    record (done_as (record st { vhosts = with_at vhost (back_made ring file st.memory v) st.vhosts })
    (Some (kind.Backend vhost ring true))
    (Some (answer.Version 0)))
    { gave = if is_none file then (ring_at ring v.settings).file else None }

abbrev pub backs : Case → ℕ → Command → State → Option Done
backs c version (command.Backend vhost ring file) st = do
  v ← at st.vhosts vhost
  wanted ← back_wanted vhost ring file v st.memory (table_at c version)
  only_if (is_ring ring && is_none (turn_of ring v)) (backed vhost ring file v st wanted)
backs c version other st = None

-- ---- turns

abbrev pub found_off : Command → State → Option Done
found_off k st = do
  t ← turn_on k
  v ← at st.vhosts t.0
  told ← is_off t.0 t.1 v
  only_if (is_none (turn_of t.1 v)) (done_as st (Some told.1) (Some (answer.Turn 0 0 told.0 [])))

-- the turn goes on with this, or is over
abbrev pub went_on : Under → Queue → Contents → Option Answer → Vhost → State → State
went_on u q m over v st =
    let others : List Under = filter (λ x. not (is_under_on u.vhost (turning_on u.turning) x)) st.under in
    let holder : Option ℕ = if is_none over then Some u.command else None in
    record {
      memory = m;
      vhosts = with_at u.vhost
          (with_turn (turning_on u.turning) holder (with_queue (turning_on u.turning) q v)) st.vhosts;
      under = if is_none over then u ∷ others else others;
    }

abbrev pub step_in : Hand → Under → Turning → Vhost → State → Option Done
step_in h u (Receiving t) v st = do
  made ← rx_step h (rx_state t v st.memory)
  Some (record {
    state = went_on (record u { turning = Receiving made.0.turn }) made.0.queue made.0.memory (rx_answer made.0.turn) v st;
    step = kind_of u.vhost 0 made.1;
    answer = rx_answer made.0.turn;
    packets = packet_at u t t.stage;
    accepted = [];
    gave = None;
  })
step_in h u (Sending t chains) v st = do
  made ← tx_step (tx_state t v st.memory)
  Some (sent made.0.turn (chains_after made.1 made.0.turn.held chains) made.0.queue made.0.memory
      (kind_of u.vhost 1 made.1) (accepted_by u.command made.1 made.0.turn.held))
  where
    sent : TxTurn → List ChainText → Queue → Contents → Option Kind → List Accepted → Done
    sent after more q m step new = record {
      state = went_on (record u { turning = Sending after more }) q m (tx_answer after more) v st;
      step = step;
      answer = tx_answer after more;
      packets = [];
      accepted = new;
      gave = None;
    }

-- the command's turn on the ring, or its beginning where the ring is free and has a backend
abbrev pub under_by : Act → ℕ × ℕ → Vhost → Option Under → Option Under
under_by a t v (Some u) = only_if (u.command == a.told.command) u
under_by a t v None = only_if (is_none (is_off t.0 t.1 v) && is_none (turn_of t.1 v)) (record {
  vhost = t.0;
  command = a.told.command;
  turning = turn_begun t.1 a.told.command a.told.actor v;
})

abbrev pub turns : Hand → Act → State → Option Done
turns h a st = do
  t ← turn_on a.command
  v ← at st.vhosts t.0
  u ← under_by a t v (find (is_under_on t.0 t.1) st.under)
  step_in h u u.turning v st

-- ---- the fold

abbrev pub does : Case → ℕ → Act → What → State → Option Done
does c guest a Called st = calls a st
does c guest a OnBytes st = on_bytes guest a.command st
does c guest a (Backed version) st = backs c version a.command st
does c guest a FoundOff st = found_off a.command st
does c guest a (Turned h) st = turns h a st

abbrev pub all_done : Case → ℕ → List Act → State → Option (List (Act × Done))
all_done c guest [] st = Some []
all_done c guest (a ∷ as_) st = do
  d ← does c guest a a.what st
  ds ← all_done c guest as_ d.state
  Some ((a, d) ∷ ds)

abbrev pub first_state : Case → ℕ → List Region → State
first_state c guest regions =
    record { memory = zeroed regions; vhosts = vhosts_on guest c.setup.vhosts; under = [] }

abbrev pub last_state : State → List (Act × Done) → State
last_state st [] = st
last_state st (d ∷ ds) = last_state d.1.state ds
