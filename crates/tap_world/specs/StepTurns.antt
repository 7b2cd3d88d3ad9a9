-- This project's own: what the events of both workers' turns have in common, and the events of a receive worker's
-- turns. Each is the next step of the turn, on the ring, the guest's memory and the file; the turn's first event takes
-- the ring's turn, and its last one gives it back. A turn whose ring has no backend or is stopped ends at once.
use Rattle.std.specs.Prelude.{ℕ, ◌&&◌, Bool, if◌then◌else◌, [], Option, Some, None, is_none, is_some, slice_get, option_map}
use Rattle.guest_mem.specs.Memory.{Contents}
use Rattle.tap_frame.specs.declared.name.Name.{Name}
use Rattle.tap_frame.specs.Frame.{FrameValue}
use Rattle.tap_ledger.specs.declared.act.Act.{Act}
use Rattle.tap_ledger.specs.declared.act.Act.TheVariants as act
use Rattle.tap_ledger.specs.declared.fate.Fate.TheVariants as fate
use Rattle.tap_ledger.specs.declared.hand.Hand.TheVariants as hand
use Rattle.vring_split.specs.Split.{number_of_fault}
use Rattle.vhost_queue.specs.Queue.{Queue}
use Rattle.vhost_dev.specs.Settings.{hdr_of, ring_at}
use Rattle.vring_turns.specs.declared.end.End.{End}
use Rattle.vring_turns.specs.declared.end.End.TheVariants as end
use Rattle.vring_turns.specs.declared.stage.RxStage.{RxStage}
use Rattle.vring_turns.specs.declared.stage.RxStage.TheVariants as rx
use Rattle.vring_turns.specs.Stage.{first_answer, need_at}
use Rattle.vring_turns.specs.RxTurn.{RxState, RxTurn, overrun, rx_begun, rx_step}
use Rattle.scen_words.specs.declared.command.Command.{Command}
use Rattle.scen_words.specs.declared.command.Command.TheVariants as command
use Rattle.tap_trace.specs.declared.answer.Answer.TheVariants as answer
use Rattle.tap_trace.specs.declared.kind.Kind.{Kind}
use Rattle.tap_trace.specs.declared.kind.Kind.TheVariants as kind
use Rattle.tap_trace.specs.declared.turn.TurnText.{TurnText}
use Rattle.tap_trace.specs.declared.turn.TurnText.TheVariants as text
use Rattle.tap_world.specs.declared.event.Found.{Found}
use Rattle.tap_world.specs.declared.event.Found.TheVariants as found
use Rattle.tap_ground.specs.Options.{◌>>=◌, only_if}
use Rattle.tap_world.specs.ByNumber.{at}
use Rattle.tap_world.specs.Guests.{Vhost, is_free, with_queue, with_turn}
use Rattle.tap_world.specs.Setup.{Setup, kept_frame}
use Rattle.tap_world.specs.Line.{Entry, File, first_that, front_place, in_batch}
use Rattle.tap_world.specs.LineSteps.{changed, ready_front}
use Rattle.tap_world.specs.LineSteps.Change.{Leaves, PutsBack, Takes}
use Rattle.tap_world.specs.World.{Doing, World}
use Rattle.tap_world.specs.World.Doing.{Begun, Receives}
use Rattle.tap_world.specs.Effect.{Effect, OnFiles, Onward, only}
use Rattle.tap_world.specs.Effect.OnFiles.{NoFile, OnFile}
use Rattle.tap_world.specs.Effect.OnGuests.{OnGuest}
use Rattle.tap_world.specs.Effect.OnVhosts.{OnVhost}
use Rattle.tap_world.specs.Effect.Onward.{Ends, Goes}

-- ---- what is told

-- the step that an event of a turn has on its guest; those on the file have none
abbrev pub kind_of : ℕ → ℕ → Act → Option Kind
kind_of vhost ring (act.Fetch position head) = Some (kind.Fetch vhost ring position head)
kind_of vhost ring act.Nothing = Some (kind.None vhost ring)
kind_of vhost ring act.Crowded = Some (kind.Crowded vhost ring)
kind_of vhost ring (act.Halt fault) = Some (kind.Halt vhost ring fault)
kind_of vhost ring (act.Copy position name) = Some (kind.Copy vhost ring position (Some name))
kind_of vhost ring (act.Refused position bad) = Some (kind.Copy vhost ring position None)
kind_of vhost ring (act.Publish count call) = Some (kind.Publish vhost ring count call)
kind_of vhost ring (act.Notices on wrote) = Some (kind.Notices vhost ring on)
kind_of vhost ring other = None

-- the words in which a trace tells why a turn ended; want of memory has none
abbrev pub end_told : End → Option TurnText
end_told end.Idle = Some text.Idle
end_told (end.Short need had) = Some (text.Short need had)
end_told end.Again = Some text.Again
end_told (end.Stopped fault) = Some (text.Stopped (number_of_fault fault))
end_told end.Off = Some text.Off
end_told end.NoMemory = None

-- whether a turn is over, and how that is told; none where it has no words
abbrev pub over_told : Option End → Option (Option TurnText)
over_told None = Some None
over_told (Some e) = option_map (λ x. Some x) (end_told e)

-- the step of a turn that ends before its first event, and how that is told
abbrev pub step_at_once : ℕ → ℕ → End → Option (TurnText × Kind)
step_at_once vhost ring end.Off = Some (text.Off, kind.Off vhost ring)
step_at_once vhost ring (end.Stopped fault) =
    Some (text.Stopped (number_of_fault fault), kind.Stopped vhost ring)
step_at_once vhost ring end.Idle = None
step_at_once vhost ring (end.Short need had) = None
step_at_once vhost ring end.Again = None
step_at_once vhost ring end.NoMemory = None

-- a turn of a vhost finds that its ring has no backend, or is stopped
abbrev pub is_off : ℕ → ℕ → Vhost → Option (TurnText × Kind)
is_off vhost ring v = do
  e ← first_answer (is_some (ring_at ring v.settings).file) (ring_at ring v.settings).queue.stopped
  step_at_once vhost ring e

-- the vhost and the ring of a turn
abbrev pub turn_on : Command → Option (ℕ × ℕ)
turn_on (command.RxTurn vhost) = Some (vhost, 0)
turn_on (command.TxTurn vhost) = Some (vhost, 1)
turn_on other = None

-- Owner, found: the turn ends at once
abbrev pub off_told : World → ℕ → Vhost → Contents → TurnText × Kind → Effect
off_told w seen v m told =
    record (only (Ends seen (answer.Turn 0 0 told.0 [])) w) { guests = OnGuest v.guest m (Some told.1) }

abbrev pub finds_off : World → ℕ → Doing → Command → Option Effect
finds_off w seen Begun c = do
  t ← turn_on c
  v ← at w.vhosts t.0
  g ← at w.guests v.guest
  told ← is_off t.0 t.1 v
  only_if (is_free t.1 v) (off_told w seen v g.memory told)
finds_off w seen doing c = None

-- ---- an event of a turn: what it leaves, and how the turn goes on

-- the vhost with the ring's queue, its turn held by this actor, or free where the turn is over
abbrev pub left : ℕ → ℕ → Bool → Queue → Vhost → Vhost
left ring actor over q v = with_turn ring (if over then None else Some actor) (with_queue ring q v)

-- what an event found: its step, or the frame that it moved; none where it has neither
abbrev pub found_by : Option Kind → Option Name → Option Found
found_by (Some k) name = Some (found.Step k)
found_by None name = option_map (λ n. found.Moved n) name

-- ---- the receive turn

abbrev pub rx_over : RxStage → Option End
rx_over (rx.Ended e) = Some e
rx_over other = None

abbrev pub rx_onward : ℕ → ℕ → RxTurn → Found → Option TurnText → Onward
rx_onward seen file t f None = Goes seen (Receives file t) f
rx_onward seen file t f (Some x) = Ends seen (answer.Turn t.packets t.bytes x [])

-- the event of a step of the turn, with what it changes of the file and what it found, and how the turn's end is told
abbrev pub rx_effect :
    World → ℕ → ℕ → ℕ → ℕ → Vhost → OnFiles → Found → Option TurnText → RxState × Act → Effect
rx_effect w actor seen vhost file v files f over made =
    record (only (rx_onward seen file made.0.turn f over) w) {
      files = files;
      guests = OnGuest v.guest made.0.memory (kind_of vhost 0 made.1);
      vhosts = OnVhost vhost (left 0 actor (is_some over) made.0.queue v);
    }

-- none where what it found or the end can't be told
abbrev pub rx_event : World → ℕ → ℕ → ℕ → ℕ → Vhost → OnFiles → Option Found → RxState × Act → Option Effect
rx_event w actor seen vhost file v files o made = do
  f ← o
  over ← over_told (rx_over made.0.turn.stage)
  Some (rx_effect w actor seen vhost file v files f over made)

abbrev pub rx_state : RxTurn → Vhost → Contents → RxState
rx_state t v m = record { turn = t; queue = v.settings.rx.queue; memory = m }

-- the frame of an entry, as the worker gets it
abbrev pub frame_at : Setup → Entry → Option FrameValue
frame_at s e = kept_frame s e.name e.len

-- the frame at the front of the batch
abbrev pub front_frame : Setup → File → Option FrameValue
front_frame s f = do
  i ← first_that in_batch f.line
  e ← slice_get f.line i
  frame_at s e

-- Hand: the front, with what moved to the batch before it
abbrev pub takes : Setup → World → ℕ → ℕ → ℕ → ℕ → RxTurn → Vhost → Contents → Option Effect
takes s w actor seen vhost file t v m = do
  f ← at w.files file
  g ← changed (Takes vhost) f
  frame ← front_frame s g
  made ← rx_step (hand.Got frame) (rx_state t v m)
  rx_event w actor seen vhost file v (OnFile file (Takes vhost)) (Some (found.Moved frame.name)) made

-- NotReady: nothing is in the batch, and the front place isn't ready
abbrev pub finds_no_frame : World → ℕ → ℕ → ℕ → ℕ → RxTurn → Vhost → Contents → Option Effect
finds_no_frame w actor seen vhost file t v m = do
  f ← at w.files file
  made ← rx_step (hand.NotReady (front_place f)) (rx_state t v m)
  if is_none (first_that in_batch f.line) && is_none (ready_front f.line)
      then rx_event w actor seen vhost file v NoFile (Some (found.NotReady (front_place f))) made else None

-- what a step changes of the file: the frame in hand leaves with its fate, or is put back
abbrev pub rx_change : ℕ → ℕ → RxTurn → RxStage → OnFiles
rx_change vhost file t rx.Out = OnFile file (Leaves (Some vhost) fate.Guest)
rx_change vhost file t (rx.Discard had) =
    OnFile file (Leaves (Some vhost) (overrun t.mergeable (need_at t.header t.held) had))
rx_change vhost file t (rx.PutBack e) = OnFile file (PutsBack vhost)
rx_change vhost file t other = NoFile

-- the name of the frame in hand, where there is one
abbrev pub held_name : Option FrameValue → Option Name
held_name held = option_map (λ (f : FrameValue). f.name) held

-- every other event of a receive turn
abbrev pub rx_steps_on : World → ℕ → ℕ → ℕ → ℕ → RxTurn → Vhost → Contents → Option Effect
rx_steps_on w actor seen vhost file t v m = do
  made ← rx_step hand.Off (rx_state t v m)
  rx_event w actor seen vhost file v (rx_change vhost file t t.stage)
      (found_by (kind_of vhost 0 made.1) (held_name t.held)) made

-- the first event turns notices off
abbrev pub rx_begins : World → ℕ → ℕ → ℕ → Vhost → Contents → Option Effect
rx_begins w actor seen vhost v m = do
  file ← v.settings.rx.file
  if is_free 0 v && is_none v.settings.rx.queue.stopped
      then rx_steps_on w actor seen vhost file (rx_begun v.settings.mrg (hdr_of v.settings)) v m
      else None
