-- This project's own: the events of a transmit worker's turns, and the rows that the turns of both workers have.
use Rattle.std.specs.Prelude.{ℕ, ◌+◌, ◌==◌, ◌&&◌, if◌then◌else◌, List, [], ◌∷◌, ◌++◌, Option, Some, None, is_none, is_some}
use Rattle.guest_mem.specs.Memory.{Contents}
use Rattle.tap_flow_key.specs.Fnv.{fnv_of}
use Rattle.tap_flow_key.specs.FlowKey.{hash}
use Rattle.tap_frame.specs.Frame.{FrameValue}
use Rattle.tap_ledger.specs.declared.act.Act.{Act}
use Rattle.tap_ledger.specs.declared.act.Act.TheVariants as act
use Rattle.tap_steer.specs.declared.operation.Op.TheVariants as op
use Rattle.tap_steer.specs.Select.{learns}
use Rattle.vhost_dev.specs.Settings.{hdr_of}
use Rattle.vring_turns.specs.declared.end.End.{End}
use Rattle.vring_turns.specs.declared.stage.TxStage.{TxStage}
use Rattle.vring_turns.specs.declared.stage.TxStage.TheVariants as tx
use Rattle.vring_turns.specs.TxTurn.{TxState, TxTurn, tx_begun, tx_step}
use Rattle.scen_words.specs.declared.command.Command.{Command}
use Rattle.tap_trace.specs.declared.answer.Answer.TheVariants as answer
use Rattle.tap_trace.specs.declared.kind.Kind.{Kind}
use Rattle.tap_trace.specs.declared.turn.ChainText.{ChainText}
use Rattle.tap_trace.specs.declared.turn.ChainText.TheVariants as chain
use Rattle.tap_trace.specs.declared.turn.TurnText.{TurnText}
use Rattle.tap_world.specs.declared.event.Found.{Found}
use Rattle.tap_world.specs.declared.event.Found.TheVariants as found
use Rattle.tap_ground.specs.Options.{◌>>=◌, only_if}
use Rattle.tap_world.specs.ByNumber.{at}
use Rattle.tap_world.specs.Guests.{Vhost, is_free}
use Rattle.tap_world.specs.Setup.{Setup}
use Rattle.tap_world.specs.World.{Doing, HostFrame, World, name_of, newest, table}
use Rattle.tap_world.specs.World.Doing.{Begun, Given, Receives, Teaches, Transmits}
use Rattle.tap_world.specs.Effect.{Effect, Onward, only}
use Rattle.tap_world.specs.Effect.OnGuests.{OnGuest}
use Rattle.tap_world.specs.Effect.OnVhosts.{OnVhost}
use Rattle.tap_world.specs.Effect.Onward.{Ends, Goes}
use Rattle.tap_world.specs.StepTurns.{finds_no_frame, kind_of, left, over_told, rx_begins, rx_steps_on, takes, turn_on}

-- ---- the transmit turn

abbrev pub tx_over : TxStage → Option End
tx_over (tx.Ended e) = Some e
tx_over other = None

abbrev pub tx_onward : ℕ → ℕ → TxTurn → List ChainText → Found → Option TurnText → Onward
tx_onward seen file t chains f None = Goes seen (Transmits file t chains) f
tx_onward seen file t chains f (Some x) = Ends seen (answer.Turn t.packets t.bytes x chains)

-- what a chain became: a frame that is accepted, or refused bytes
abbrev pub got : FrameValue → ChainText
got f = chain.Got f.name f.mark (fnv_of f.made)

abbrev pub chains_after : Act → Option FrameValue → List ChainText → List ChainText
chains_after (act.Refused position bad) held chains = chains ++ chain.Refused position bad ∷ []
chains_after (act.Copy position name) (Some f) chains = chains ++ got f ∷ []
chains_after other held chains = chains

abbrev pub tx_state : TxTurn → Vhost → Contents → TxState
tx_state t v m = record { turn = t; queue = v.settings.tx.queue; memory = m; host = record { given = []; room = 1 } }

-- the event of a step of the turn, with its step on the guest, and how the turn's end is told
abbrev pub tx_effect : World → ℕ → ℕ → ℕ → ℕ → List ChainText → Vhost → Kind → Option TurnText → TxState × Act → Effect
tx_effect w actor seen vhost file chains v step over made =
    let after : List ChainText = chains_after made.1 made.0.turn.held chains in
    record (only (tx_onward seen file made.0.turn after (found.Step step) over) w) {
      guests = OnGuest v.guest made.0.memory (Some step);
      vhosts = OnVhost vhost (left 1 actor (is_some over) made.0.queue v);
    }

-- none where it has no step on the guest, or the end can't be told
abbrev pub tx_event : World → ℕ → ℕ → ℕ → ℕ → List ChainText → Vhost → TxState × Act → Option Effect
tx_event w actor seen vhost file chains v made = do
  step ← kind_of vhost 1 made.1
  over ← over_told (tx_over made.0.turn.stage)
  Some (tx_effect w actor seen vhost file chains v step over made)

abbrev pub tx_steps_on : World → ℕ → ℕ → ℕ → ℕ → TxTurn → List ChainText → Vhost → Contents → Option Effect
tx_steps_on w actor seen vhost file t chains v m = do
  made ← tx_step (tx_state t v m)
  tx_event w actor seen vhost file chains v made

abbrev pub tx_begins : World → ℕ → ℕ → ℕ → ℕ → Vhost → Contents → Option Effect
tx_begins w actor n seen vhost v m = do
  file ← v.settings.tx.file
  if is_free 1 v && is_none v.settings.tx.queue.stopped
      then tx_steps_on w actor seen vhost file (tx_begun (hdr_of v.settings) (name_of actor n)) [] v m
      else None

-- what is kept of a frame that the host has
abbrev pub with_host : FrameValue → HostFrame
with_host f = record { name = f.name; flow = hash f.made }

-- HostIn: the accepted frame is with the host, and the actor looks next
abbrev pub gives : World → ℕ → ℕ → TxTurn → List ChainText → Vhost → Contents → Option Effect
gives w seen file t chains v m = do
  f ← t.held
  made ← tx_step (tx_state t v m)
  Some (record
      (only (Goes seen (Given file made.0.turn chains (with_host f)) (found.Moved f.name)) w) { hosts = f.name ∷ [] })

-- Look: its flow is to be learnt where the file learns
abbrev pub looks_at_flow : Setup → World → Doing → Option Effect
looks_at_flow s w (Given file t chains f) =
    Some (only (Goes (newest w) (if learns (table s w) file then Teaches file t chains f else Transmits file t chains)
    (found.Version (newest w))) w)
looks_at_flow s w doing = None

-- Publish, of the learning: the writer is free
abbrev pub teaches : World → Doing → Option Effect
teaches w (Teaches file t chains f) =
    only_if (is_none w.writer)
    (record (only (Goes (newest w + 1) (Transmits file t chains) (found.Version (newest w + 1))) w)
    { ops = op.Learn file f.flow ∷ [] })
teaches w doing = None

-- ---- the rows Fetch, Copy, PublishUsed, Notices, Hand, PutBack, Out, NotReady and HostIn of turns

-- the first event of a turn
abbrev pub turn_begins : World → ℕ → ℕ → ℕ → Command → Option Effect
turn_begins w actor n seen c = do
  t ← turn_on c
  v ← at w.vhosts t.0
  g ← at w.guests v.guest
  if t.1 == 0 then rx_begins w actor seen t.0 v g.memory else tx_begins w actor n seen t.0 v g.memory

-- a later one
abbrev pub goes_on : World → ℕ → ℕ → Doing → ℕ → Vhost → Contents → Option Effect
goes_on w actor seen (Receives file t) vhost v m = rx_steps_on w actor seen vhost file t v m
goes_on w actor seen (Transmits file t chains) vhost v m = tx_steps_on w actor seen vhost file t chains v m
goes_on w actor seen doing vhost v m = None

-- an event of a turn under way, on its vhost and its guest's memory
abbrev pub on_turn : World → Command → (ℕ → Vhost → Contents → Option Effect) → Option Effect
on_turn w c e = do
  t ← turn_on c
  v ← at w.vhosts t.0
  g ← at w.guests v.guest
  e t.0 v g.memory

abbrev pub turns : World → ℕ → ℕ → ℕ → Doing → Command → Option Effect
turns w actor n seen Begun c = turn_begins w actor n seen c
turns w actor n seen doing c = on_turn w c (goes_on w actor seen doing)

abbrev pub hands : Setup → World → ℕ → ℕ → Doing → Command → Option Effect
hands s w actor seen (Receives file t) c = on_turn w c (λ vhost v m. takes s w actor seen vhost file t v m)
hands s w actor seen doing c = None

abbrev pub turn_finds_none : World → ℕ → ℕ → Doing → Command → Option Effect
turn_finds_none w actor seen (Receives file t) c =
    on_turn w c (λ vhost v m. finds_no_frame w actor seen vhost file t v m)
turn_finds_none w actor seen doing c = None

abbrev pub hosts_of_turn : World → ℕ → Doing → Command → Option Effect
hosts_of_turn w seen (Transmits file t chains) c = on_turn w c (λ vhost v m. gives w seen file t chains v m)
hosts_of_turn w seen doing c = None
