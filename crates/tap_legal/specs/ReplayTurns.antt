-- This project's own, of clause g of a legal trace: the steps of turns in the fold. Between two steps on the guest a
-- turn has steps on the file or the host alone, which aren't printed.
use Rattle.std.specs.Prelude.{ℕ, ◌==◌, ◌&&◌, not, if◌then◌else◌, Bool, true, false, List, [], ◌∷◌, ◌++◌, length, filter, find, Option, Some, None, option_map, option_and_then}
use Rattle.std.specs.List.{list_any}
use Rattle.std.specs.Option.{option_map_or, option_or}
use Rattle.guest_mem.specs.Memory.{Contents}
use Rattle.tap_flow_key.specs.FlowKey.{hash}
use Rattle.tap_frame.specs.Frame.{FrameValue}
use Rattle.tap_ledger.specs.declared.act.Act.{Act}
use Rattle.tap_ledger.specs.declared.act.Act.TheVariants as act
use Rattle.tap_ledger.specs.declared.hand.Hand.TheVariants as hand
use Rattle.vhost_queue.specs.Queue.{Queue}
use Rattle.vhost_dev.specs.Settings.{hdr_of, ring_at}
use Rattle.vring_turns.specs.declared.stage.RxStage.{RxStage}
use Rattle.vring_turns.specs.declared.stage.RxStage.TheVariants as rx
use Rattle.vring_turns.specs.declared.stage.TxStage.{TxStage}
use Rattle.vring_turns.specs.declared.stage.TxStage.TheVariants as tx
use Rattle.vring_turns.specs.RxTurn.{RxState, RxTurn, quota, rx_begun, rx_step}
use Rattle.vring_turns.specs.TxTurn.{TxState, TxTurn, tx_begun, tx_step}
use Rattle.scen_words.specs.declared.command.Command.{Command}
use Rattle.tap_trace.specs.declared.answer.Answer.{Answer}
use Rattle.tap_trace.specs.declared.answer.Answer.TheVariants as answer
use Rattle.tap_trace.specs.declared.kind.Kind.{Kind}
use Rattle.tap_trace.specs.declared.turn.ChainText.{ChainText}
use Rattle.tap_trace.specs.declared.turn.TurnText.{TurnText}
use Rattle.tap_ground.specs.Options.{◌>>=◌}
use Rattle.tap_world.specs.ByNumber.{at, with_at}
use Rattle.tap_world.specs.Guests.{Vhost, with_queue, with_turn}
use Rattle.tap_world.specs.World.{name_of}
use Rattle.tap_world.specs.StepTurns.{end_told, is_off, kind_of, rx_over, rx_state, turn_on}
use Rattle.tap_world.specs.StepTransmits.{chains_after, tx_over, tx_state}
use Rattle.tap_legal.specs.Numbered.{Asked, StepAt}
use Rattle.tap_legal.specs.Case.{Case}
use Rattle.tap_legal.specs.Lookups.{asked_at}
use Rattle.tap_legal.specs.Replay.{Accepted, Began, Packet, Replay, Turning, Under, ahead, broken_at, done_with, hand_for, if_step, replay_back, replay_bytes, replay_call}
use Rattle.tap_legal.specs.Replay.Turning.{Receiving, Sending}

-- ---- turns under way

abbrev pub turning_on : Turning → ℕ
turning_on (Receiving t) = 0
turning_on (Sending t chains) = 1

abbrev pub is_under_on : ℕ → ℕ → Under → Bool
is_under_on vhost ring u = u.vhost == vhost && turning_on u.turning == ring

abbrev pub under_on : ℕ → ℕ → Replay → Option Under
under_on vhost ring r = find (is_under_on vhost ring) r.under

abbrev pub without : Under → Replay → Replay
without u r = record r { under = filter (λ x. not (is_under_on u.vhost (turning_on u.turning) x)) r.under }

-- the turn is over; it answers, unless it has steps to come, of which the next is wrong
abbrev pub over : Case → ℕ → Bool → Answer → Replay → Replay
over c command true x r = done_with c command x r
over c command false x r = record r { finished = command ∷ r.finished }

-- the turn goes on, or is over; the ring has this queue, and its turn is held by the command till then
abbrev pub with_under : Case → List StepAt → Under → Queue → Contents → Option Answer → Vhost → Replay → Replay
with_under c ss u q m None v r =
    record (without u r) {
      under = u ∷ (without u r).under;
      memory = m;
      vhosts = with_at u.vhost
          (with_turn (turning_on u.turning) (Some u.command) (with_queue (turning_on u.turning) q v)) r.vhosts;
    }
with_under c ss u q m (Some x) v r =
    over c u.command (length (ahead u.command ss) == 0) x (record (without u r) {
      memory = m;
      vhosts = with_at u.vhost
          (with_turn (turning_on u.turning) None (with_queue (turning_on u.turning) q v)) r.vhosts;
    })

-- what the turn answers that is over; an end without words, which no turn has, is no answer, and no step follows it
abbrev pub rx_answer : RxTurn → Option Answer
rx_answer t = do
  e ← rx_over t.stage
  told ← end_told e
  Some (answer.Turn t.packets t.bytes told [])

abbrev pub tx_answer : TxTurn → List ChainText → Option Answer
tx_answer t chains = do
  e ← tx_over t.stage
  told ← end_told e
  Some (answer.Turn t.packets t.bytes told chains)

abbrev pub rx_left : Case → List StepAt → Under → Vhost → Replay → RxState × Act → Replay
rx_left c ss u v r made =
    with_under c ss (record u { turning = Receiving made.0.turn }) made.0.queue made.0.memory
    (rx_answer made.0.turn) v r

-- the frame that a step accepted
abbrev pub accepted_by : ℕ → Act → Option FrameValue → List Accepted
accepted_by command (act.Copy position name) (Some f) = record { command = command; flow = hash f.made } ∷ []
accepted_by command other held = []

abbrev pub tx_left : Case → List StepAt → Under → List ChainText → Vhost → Replay → TxState × Act → Replay
tx_left c ss u chains v r made =
    let after : List ChainText = chains_after made.1 made.0.turn.held chains in
    with_under c ss (record u { turning = Sending made.0.turn after }) made.0.queue made.0.memory
    (tx_answer made.0.turn after) v
    (record r { accepted = r.accepted ++ accepted_by u.command made.1 made.0.turn.held })

-- ---- quiet steps: those on the file or the host alone, which aren't printed

-- the packet that is over as its frame leaves the worker's hand
abbrev pub packet_at : Under → RxTurn → RxStage → List Packet
packet_at u t rx.Out = record {
  command = u.command;
  name = option_map (λ (f : FrameValue). f.name) t.held;
  header = t.header;
  quota = quota t.mergeable;
  had = 0;
} ∷ []
packet_at u t (rx.Discard had) =
    record { command = u.command; name = None; header = t.header; quota = quota t.mergeable; had = had } ∷ []
packet_at u t other = []

abbrev pub with_packet : Under → RxTurn → Replay → Replay
with_packet u t r = record r { packets = r.packets ++ packet_at u t t.stage }

abbrev pub is_quiet_rx : RxStage → Bool
is_quiet_rx rx.Hand = true
is_quiet_rx rx.Out = true
is_quiet_rx (rx.Discard had) = true
is_quiet_rx (rx.PutBack e) = true
is_quiet_rx other = false

abbrev pub is_quiet_tx : TxStage → Bool
is_quiet_tx tx.Give = true
is_quiet_tx other = false

abbrev pub quiet_of : Case → List StepAt → Under → Turning → Vhost → Replay → Replay
quiet_of c ss u (Receiving t) v r =
    if is_quiet_rx t.stage
    then option_map_or (λ made. rx_left c ss u v (with_packet u t r) made)
    (rx_step (hand_for c u t ss) (rx_state t v r.memory))
    r
    else r
quiet_of c ss u (Sending t chains) v r =
    if is_quiet_tx t.stage
    then option_map_or (λ made. tx_left c ss u chains v r made) (tx_step (tx_state t v r.memory))
    r
    else r

-- a quiet step, where the turn on a ring is before one; there are at most two in a row
abbrev pub quiet : Case → List StepAt → ℕ → ℕ → Replay → Replay
quiet c ss vhost ring r =
    option_map_or (λ u. option_map_or (λ v. quiet_of c ss u u.turning v r) (at r.vhosts vhost) r)
    (under_on vhost ring r) r

abbrev pub quietly : Case → List StepAt → ℕ → ℕ → Replay → Replay
quietly c ss vhost ring r = if r.broken then r else quiet c ss vhost ring (quiet c ss vhost ring r)

-- ---- steps that are printed

abbrev pub step_of : Case → StepAt → List StepAt → Under → Turning → Vhost → Replay → Option Replay
step_of c s ss u (Receiving t) v r = do
  made ← rx_step hand.Off (rx_state t v r.memory)
  Some (if_step s (kind_of u.vhost 0 made.1) r (quietly c ss u.vhost 0 (rx_left c ss u v r made)))
step_of c s ss u (Sending t chains) v r = do
  made ← tx_step (tx_state t v r.memory)
  Some (if_step s (kind_of u.vhost 1 made.1) r (quietly c ss u.vhost 1 (tx_left c ss u chains v r made)))

-- a turn begins: without a backend, or on a stopped ring, it is over at once
abbrev pub turn_begun : ℕ → ℕ → ℕ → Vhost → Turning
turn_begun ring command actor v =
    if ring == 0 then Receiving (rx_begun v.settings.mrg (hdr_of v.settings))
    else Sending (tx_begun (hdr_of v.settings) (name_of actor command)) []

abbrev pub begun :
    Case → StepAt → List StepAt → ℕ → ℕ → Vhost → Option (TurnText × Kind) → Replay → Option Replay
begun c s ss vhost ring v (Some told) r =
    Some (if_step s (Some told.1) r (done_with c s.at.command (answer.Turn 0 0 told.0 []) r))
begun c s ss vhost ring v None r =
    let u : Under = record {
      vhost = vhost;
      command = s.at.command;
      turning = turn_begun ring s.at.command s.at.actor v;
    } in
    let t : Began = record {
      command = s.at.command;
      header = hdr_of v.settings;
      file = (ring_at ring v.settings).file;
    } in
    step_of c s ss u u.turning v (record r { turns = r.turns ++ t ∷ [] })

-- the next step of the command's turn, or its first one, where no other turn is under way on the ring
abbrev pub turn_step : Case → StepAt → List StepAt → ℕ → ℕ → Vhost → Option Under → Replay → Option Replay
turn_step c s ss vhost ring v (Some u) r =
    if u.command == s.at.command then step_of c s ss u u.turning v r else None
turn_step c s ss vhost ring v None r =
    if list_any (λ n. n == s.at.command) r.finished then None else begun c s ss vhost ring v (is_off vhost ring v) r

abbrev pub replay_turn : Case → StepAt → List StepAt → Command → Replay → Option Replay
replay_turn c s ss k r = do
  t ← turn_on k
  v ← at r.vhosts t.0
  turn_step c s ss t.0 t.1 v (under_on t.0 t.1 r) r

-- ---- the fold

-- a step is one of its command's: of its turn, or the only one of its call
abbrev pub replay_as : Case → StepAt → List StepAt → Command → Replay → Option Replay
replay_as c s ss k r =
    if list_any (λ n. n == s.at.command) r.finished then None
    else option_or (replay_turn c s ss k r)
    (option_or (replay_back c s k r) (option_or (replay_call c s k r) (replay_bytes c s k r)))

abbrev pub replay_step : Case → StepAt → List StepAt → Replay → Replay
replay_step c s ss r =
    option_map_or (λ x. x)
    (option_and_then (λ (a : Asked). if a.told.actor == s.at.actor then replay_as c s ss a.command r else None)
    (asked_at c s.at.command))
    (broken_at s.line r)

abbrev pub replay : Case → List StepAt → Replay → Replay
replay c [] r = r
replay c (s ∷ ss) r = replay c ss (if r.broken then r else replay_step c s ss r)
