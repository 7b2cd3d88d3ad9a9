-- No row of the table of events lowers what its actor has seen.
use Rattle.std.proofs.Common.{ℕ, ◌≤◌, List, [], true, false, Option, Some, None}
use Rattle.std.specs.Prelude.{◌==◌, ◌&&◌, is_none, slice_get}
use Rattle.guest_mem.specs.Memory.{Contents}
use Rattle.tap_ledger.specs.declared.fate.Cause.{Cause}
use Rattle.tap_ledger.specs.declared.hand.Hand.TheVariants as hand
use Rattle.vring_turns.specs.RxTurn.{RxTurn, rx_step}
use Rattle.vring_turns.specs.TxTurn.{TxTurn, tx_step}
use Rattle.scen_words.specs.declared.command.Command.{Command}
use Rattle.scen_words.specs.declared.command.Command.TheVariants as command
use Rattle.tap_ledger.specs.declared.error.TapErr.{TapErr as TapText}
use Rattle.tap_trace.specs.declared.answer.Answer.{Answer}
use Rattle.tap_trace.specs.declared.turn.ChainText.{ChainText}
use Rattle.tap_world.specs.declared.event.EventKind.{EventKind}
use Rattle.tap_world.specs.declared.event.EventKind.TheVariants as event
use Rattle.tap_world.specs.declared.event.Found.{Found}
use Rattle.tap_world.specs.ByNumber.{at}
use Rattle.vhost_dev.specs.Settings.{ring_at}
use Rattle.tap_world.specs.Setup.{Setup, frame_of}
use Rattle.tap_world.specs.Line.{File, first_that, front_place, in_batch, in_ring, last_that}
use Rattle.tap_world.specs.LineSteps.{ready_front}
use Rattle.tap_world.specs.Guests.{Vhost, is_free}
use Rattle.tap_world.specs.World.{Actor, Doing, World, name_of, newest}
use Rattle.tap_world.specs.World.Doing.{Backs, Begun, Hosts, Opens, Owns, Placed, Purges, Reads, Receives, Resizes, Routed, Shrinks, Transmits, Unbacked, Withdrawn}
use Rattle.tap_world.specs.Effect.{only}
use Rattle.tap_trace.specs.declared.answer.Answer.TheVariants as answer
use Rattle.tap_world.specs.declared.event.Found.TheVariants as found
use Rattle.tap_world.specs.Effect.Onward.{Ends}
use Rattle.tap_world.specs.Step as rows
use Rattle.tap_world.specs.StepBackend as back
use Rattle.tap_world.specs.StepControl as control
use Rattle.tap_world.specs.StepRing as ring
use Rattle.tap_world.specs.StepTurns as rx_turns
use Rattle.tap_world.specs.StepTransmits as tx_turns
use Rattle.tap_sound.proofs.Kit.{either, where_if, where_only, where_then}
use Rattle.tap_sound.proofs.Steps.{held, or_else, owning, turning, tx_made, rx_missed, rx_stepped, rx_taken, setting, unsetting}
use Rattle.tap_world.specs.LineSteps.{changed}
use Rattle.tap_world.specs.LineSteps.Change.{Takes}
use Rattle.vring_turns.specs.RxTurn.{rx_begun}
use Rattle.vring_turns.specs.TxTurn.{tx_begun}
use Rattle.vhost_dev.specs.Settings.{hdr_of}
use Rattle.tap_trace.specs.declared.turn.TurnText.{TurnText}
use Rattle.tap_grows.proofs.SeenLooks.{AllSee, IsOn, Sees, look_row, publish_row}

module _ (low : ℕ) (w : World) where
  -- ---- frames

  claims : (actor n seen : ℕ) (d : Doing) → low ≤ seen → AllSee low (ring.claims w actor n seen d)
  claims actor n seen (Routed file epoch len) le = where_then (Sees low) (at w.files file) _ (λ f e1. le)
  claims actor n seen d le = tt

  puts : (actor seen : ℕ) (d : Doing) → low ≤ seen → AllSee low (ring.puts w actor seen d)
  puts actor seen (Placed file place epoch len) le = le
  puts actor seen d le = tt

  drops : (why : ℕ → File → Option Cause) (actor n seen : ℕ) (d : Doing) → low ≤ seen
      → AllSee low (ring.drops_for why w actor n seen d)
  drops why actor n seen (Routed file epoch len) le =
      where_then (Sees low) (at w.files file) _ (λ f e1. where_then (Sees low) (why epoch f) _ (λ x e2. le))
  drops why actor n seen d le = tt

  shuts : (seen : ℕ) (d : Doing) → low ≤ seen → AllSee low (ring.shuts w seen d)
  shuts seen (Withdrawn file version) le = where_then (Sees low) (at w.files file) _ (λ f e1. le)
  shuts seen d le = tt

  reopens : (seen : ℕ) (d : Doing) → low ≤ seen → AllSee low (ring.reopens w seen d)
  reopens seen (Opens file) le = where_then (Sees low) (at w.files file) _ (λ f e1. le)
  reopens seen d le = tt

  resizes : (seen : ℕ) (d : Doing) → low ≤ seen → AllSee low (ring.resizes w seen d)
  resizes seen (Resizes file capacity) le = where_then (Sees low) (at w.files file) _ (λ f e1. le)
  resizes seen d le = tt

  cuts : (seen : ℕ) (d : Doing) → low ≤ seen → AllSee low (ring.cuts w seen d)
  cuts seen (Shrinks file places n) le = where_then (Sees low) (at w.files file) _
      (λ f e1. where_then (Sees low) (ring.name_at f.line (last_that in_ring f.line)) _ (λ x e2. le))
  cuts seen d le = tt

  moves_in : (file : ℕ) → AllSee low (ring.moves_in w file)
  moves_in file = where_then (Sees low) (at w.files file) _
      (λ f e1. where_then (Sees low) (ring.name_at f.line (ready_front f.line)) _ (λ x e2. tt))

  moves : (d : Doing) → AllSee low (ring.moves w d)
  moves (Reads file room front) = moves_in file
  moves (Purges file version) = moves_in file
  moves d = tt

  leaves : (s : Setup) (seen : ℕ) (d : Doing) → low ≤ seen → AllSee low (ring.leaves s w seen d)
  leaves s seen (Reads file room front) le = where_then (Sees low) (at w.files file) _ (λ f e1. where_then (Sees low) (first_that in_batch f.line) _
      (λ i e2. where_then (Sees low) (slice_get f.line i) _ (λ x e3. where_then (Sees low) (frame_of s x.name x.len) _ (λ y e4. le))))
  leaves s seen (Purges file version) le = where_then (Sees low) (at w.files file) _
      (λ f e1. where_then (Sees low) (ring.name_at f.line (first_that in_batch f.line)) _ (λ x e2. tt))
  leaves s seen d le = tt

  finds_none : (seen : ℕ) (d : Doing) → low ≤ seen → AllSee low (ring.finds_none w seen d)
  finds_none seen (Reads file room front) le = where_then (Sees low) (at w.files file) _
      (λ f e1. where_only (Sees low) _ (only (Ends seen (answer.Again (front_place f))) w) (λ x. le))
  finds_none seen d le = tt

  meets_worker : (seen : ℕ) (d : Doing) → low ≤ seen → AllSee low (ring.meets_worker w seen d)
  meets_worker seen (Reads file room front) le = where_then (Sees low) (at w.files file) _
      (λ f e1. where_only (Sees low) _ (only (Ends seen answer.Busy) w) (λ x. le))
  meets_worker seen d le = tt

  hosts : (actor n seen : ℕ) (d : Doing) → low ≤ seen → AllSee low (ring.hosts w actor n seen d)
  hosts actor n seen (Hosts file ether true) le = le
  hosts actor n seen (Hosts file ether false) le = le
  hosts actor n seen d le = tt

  -- ---- guests

  pokes : (seen : ℕ) (c : Command) → low ≤ seen → AllSee low (control.pokes w seen c)
  pokes seen (command.Poke guest addr bytes) le = where_then (Sees low) (at w.guests guest) _ (λ g e1. le)
  pokes seen (command.Peek guest addr len) le = where_then (Sees low) (at w.guests guest) _ (λ g e1. le)
  pokes seen c le = tt

  calls : (actor seen : ℕ) (c : Command) → low ≤ seen → AllSee low (control.calls w actor seen c)
  calls actor seen c le =
      where_then (Sees low) (control.driven_vhost c) _ (λ vhost e1. where_then (Sees low) (at w.vhosts vhost) _ (λ v e2. where_then (Sees low) (at w.guests v.guest) _
      (λ g e3. where_then (Sees low) (control.call_of c v g.memory) _ (λ x e4. where_only (Sees low) _ (control.call_effect w seen vhost v.guest x) (λ y. le)))))

  sets_back : (actor seen vhost r file : ℕ) (x : Option TapText) (v : Vhost) (m : Contents) (a : Option Answer)
      → low ≤ seen
      → Sees low (back.sets_back w actor seen vhost r file x v m a)
  sets_back actor seen vhost r file x v m (Some a) le = le
  sets_back actor seen vhost r file x v m None le = le

  unsets_back : (actor seen vhost r : ℕ) (v : Vhost) (m : Contents) (a : Option Answer) (file : Option ℕ) → low ≤ seen
      → Sees low (back.unsets_back w actor seen vhost r v m a file)
  unsets_back actor seen vhost r v m (Some a) file le = le
  unsets_back actor seen vhost r v m None None le = le
  unsets_back actor seen vhost r v m None (Some file) le = le

  backs : (s : Setup) (actor seen : ℕ) (d : Doing) (c : Command) → low ≤ seen
      → AllSee low (back.backs s w actor seen d c)
  backs s actor seen (Backs x) (command.Backend vhost r None) le = where_then (Sees low) (at w.vhosts vhost) _ (λ v e1. where_then (Sees low) (at w.guests v.guest) _
      (λ g e2. unsetting (Sees low) s w actor seen x vhost r v g.memory (λ told e3. unsets_back actor seen vhost r v g.memory told (ring_at r v.settings).file le)))
  backs s actor seen (Backs x) (command.Backend vhost r (Some file)) le = where_then (Sees low) (at w.vhosts vhost) _ (λ v e1. where_then (Sees low) (at w.guests v.guest) _
      (λ g e2. setting (Sees low) s w actor seen x vhost r file v g.memory (λ told e3. sets_back actor seen vhost r file x v g.memory told le)))
  backs s actor seen d c le = tt

  drive_row : (s : Setup) (actor seen : ℕ) (d : Doing) (c : Command) → low ≤ seen
      → AllSee low (rows.drive_row s w actor seen d c)
  drive_row s actor seen Begun c le = calls actor seen c le
  drive_row s actor seen d c le = backs s actor seen d c le

  owns : (seen : ℕ) (d : Doing) (c : Command) → low ≤ seen → AllSee low (back.owns w seen d c)
  owns seen (Owns file version) (command.Backend vhost r asked) le = le
  owns seen (Unbacked file) (command.Backend vhost r asked) le = le
  owns seen d c le = tt

  finds_off : (seen : ℕ) (d : Doing) (c : Command) → low ≤ seen → AllSee low (rx_turns.finds_off w seen d c)
  finds_off seen Begun c le =
      where_then (Sees low) (rx_turns.turn_on c) _ (λ t e1. where_then (Sees low) (at w.vhosts t.0) _ (λ v e2. where_then (Sees low) (at w.guests v.guest) _
      (λ g e3. where_then (Sees low) (rx_turns.is_off t.0 t.1 v) _ (λ told e4. where_only (Sees low) _ (rx_turns.off_told w seen v g.memory told) (λ x. le)))))
  finds_off seen d c le = tt

  -- ---- turns

  rx_seen : (low seen file : ℕ) (t : RxTurn) (f : Found) (o : Option TurnText) → low ≤ seen
      → IsOn low (rx_turns.rx_onward seen file t f o)
  rx_seen low seen file t f None le = le
  rx_seen low seen file t f (Some e) le = le

  tx_seen : (low seen file : ℕ) (t : TxTurn) (told : List ChainText) (f : Found) (o : Option TurnText) → low ≤ seen
      → IsOn low (tx_turns.tx_onward seen file t told f o)
  tx_seen low seen file t told f None le = le
  tx_seen low seen file t told f (Some e) le = le

  rx_steps_on : (actor seen vhost file : ℕ) (t : RxTurn) (v : Vhost) (m : Contents) → low ≤ seen
      → AllSee low (rx_turns.rx_steps_on w actor seen vhost file t v m)
  rx_steps_on actor seen vhost file t v m le = where_then (Sees low) (rx_step hand.Off (rx_turns.rx_state t v m)) _
      (λ made e. rx_stepped (Sees low) w actor seen vhost file t v made
      (λ f over e2 told. rx_seen low seen file made.0.turn f over le))

  tx_steps_on : (actor seen vhost file : ℕ) (t : TxTurn) (told : List ChainText) (v : Vhost) (m : Contents)
      → low ≤ seen
      → AllSee low (tx_turns.tx_steps_on w actor seen vhost file t told v m)
  tx_steps_on actor seen vhost file t told v m le = where_then (Sees low) (tx_step (tx_turns.tx_state t v m)) _
      (λ made x. tx_made (Sees low) w actor seen vhost file told v made
      (λ step over e2 end_. tx_seen low seen file made.0.turn _ _ over le))

  begins : (actor n seen : ℕ) (c : Command) → low ≤ seen → AllSee low (tx_turns.turn_begins w actor n seen c)
  begins actor n seen c le = where_then (Sees low) (rx_turns.turn_on c) _ (λ t e1. where_then (Sees low) (at w.vhosts t.0) _ (λ v e2. where_then (Sees low) (at w.guests v.guest) _
      (λ g e3. either (AllSee low) (t.1 == 0) (rx_turns.rx_begins w actor seen t.0 v g.memory) (tx_turns.tx_begins w actor n seen t.0 v g.memory)
      (where_then (Sees low) v.settings.rx.file _ (λ file e4. where_if (Sees low) (is_free 0 v && is_none v.settings.rx.queue.stopped)
      (rx_turns.rx_steps_on w actor seen t.0 file (rx_begun v.settings.mrg (hdr_of v.settings)) v g.memory) (λ x. rx_steps_on actor seen t.0 file (rx_begun v.settings.mrg (hdr_of v.settings)) v g.memory le)))
      (where_then (Sees low) v.settings.tx.file _ (λ file e4. where_if (Sees low) (is_free 1 v && is_none v.settings.tx.queue.stopped)
      (tx_turns.tx_steps_on w actor seen t.0 file (tx_begun (hdr_of v.settings) (name_of actor n)) [] v g.memory) (λ x. tx_steps_on actor seen t.0 file (tx_begun (hdr_of v.settings) (name_of actor n)) [] v g.memory le))))))

  goes_on : (actor seen : ℕ) (d : Doing) (vhost : ℕ) (v : Vhost) (m : Contents) → low ≤ seen
      → AllSee low (tx_turns.goes_on w actor seen d vhost v m)
  goes_on actor seen (Receives file t) vhost v m le = rx_steps_on actor seen vhost file t v m le
  goes_on actor seen (Transmits file t told) vhost v m le = tx_steps_on actor seen vhost file t told v m le
  goes_on actor seen d vhost v m le = tt

  turns : (actor n seen : ℕ) (d : Doing) (c : Command) → low ≤ seen → AllSee low (tx_turns.turns w actor n seen d c)
  turns actor n seen Begun c le = begins actor n seen c le
  turns actor n seen d c le = turning (Sees low) w c (tx_turns.goes_on w actor seen d) (λ vhost v m. goes_on actor seen d vhost v m le)

  hands : (s : Setup) (actor seen : ℕ) (d : Doing) (c : Command) → low ≤ seen
      → AllSee low (tx_turns.hands s w actor seen d c)
  hands s actor seen (Receives file t) c le = turning (Sees low) w c _ (λ vhost v m. where_then (Sees low) (at w.files file) _
      (λ f e1. where_then (Sees low) (changed (Takes vhost) f) _ (λ g e2. where_then (Sees low) (rx_turns.front_frame s g) _
      (λ frame e3. where_then (Sees low) (rx_step (hand.Got frame) (rx_turns.rx_state t v m)) _
      (λ made e. rx_taken (Sees low) w actor seen vhost file v frame made
      (λ over told. rx_seen low seen file made.0.turn (found.Moved frame.name) over le))))))
  hands s actor seen d c le = tt

  finds_nothing : (actor seen : ℕ) (d : Doing) (c : Command) → low ≤ seen
      → AllSee low (tx_turns.turn_finds_none w actor seen d c)
  finds_nothing actor seen (Receives file t) c le = turning (Sees low) w c _ (λ vhost v m. where_then (Sees low) (at w.files file) _
      (λ f e1. where_then (Sees low) (rx_step (hand.NotReady (front_place f)) (rx_turns.rx_state t v m)) _
      (λ made e. rx_missed (Sees low) w actor seen vhost file v f made
      (λ over told. rx_seen low seen file made.0.turn (found.NotReady (front_place f)) over le))))
  finds_nothing actor seen d c le = tt

  gives : (seen : ℕ) (d : Doing) (c : Command) → low ≤ seen → AllSee low (tx_turns.hosts_of_turn w seen d c)
  gives seen (Transmits file t told) c le = turning (Sees low) w c _ (λ vhost v m. where_then (Sees low) t.held _
      (λ f e1. where_then (Sees low) (tx_step (tx_turns.tx_state t v m)) _ (λ made e2. le)))
  gives seen d c le = tt

  -- ---- all rows

  -- no row lowers what its actor has seen, where that is no more than there is
  pub row_sees : (s : Setup) (k : EventKind) (actor : ℕ) (a : Actor) (n : ℕ) (c : Command) → low ≤ a.seen
      → low ≤ newest w → AllSee low (rows.row s w k actor a n c)
  row_sees s event.Look actor a n c le now = look_row low w now s actor a n c
  row_sees s event.Publish actor a n c le now = publish_row low w now s actor a.doing c
  row_sees s event.Claim actor a n c le now = claims actor n a.seen a.doing le
  row_sees s event.Ready actor a n c le now = puts actor a.seen a.doing le
  row_sees s event.Full actor a n c le now = drops ring.full_now actor n a.seen a.doing le
  row_sees s event.Gone actor a n c le now = drops ring.gone_now actor n a.seen a.doing le
  row_sees s event.Spent actor a n c le now = drops ring.spent_now actor n a.seen a.doing le
  row_sees s event.Shut actor a n c le now = held (Sees low) w actor (ring.shuts w a.seen a.doing) (shuts a.seen a.doing le)
  row_sees s event.Reopen actor a n c le now = held (Sees low) w actor (ring.reopens w a.seen a.doing) (reopens a.seen a.doing le)
  row_sees s event.Resize actor a n c le now = held (Sees low) w actor (ring.resizes w a.seen a.doing) (resizes a.seen a.doing le)
  row_sees s event.Cut actor a n c le now = held (Sees low) w actor (ring.cuts w a.seen a.doing) (cuts a.seen a.doing le)
  row_sees s event.Move actor a n c le now = moves a.doing
  row_sees s event.Hand actor a n c le now = hands s actor a.seen a.doing c le
  row_sees s event.PutBack actor a n c le now = turns actor n a.seen a.doing c le
  row_sees s event.Out actor a n c le now = or_else (Sees low) (ring.leaves s w a.seen a.doing) (tx_turns.turns w actor n a.seen a.doing c)
      (leaves s a.seen a.doing le) (turns actor n a.seen a.doing c le)
  row_sees s event.NotReady actor a n c le now = or_else (Sees low) (ring.finds_none w a.seen a.doing) (tx_turns.turn_finds_none w actor a.seen a.doing c)
      (finds_none a.seen a.doing le) (finds_nothing actor a.seen a.doing c le)
  row_sees s event.Owner actor a n c le now = owning (Sees low) w actor a.seen a.doing c (owns a.seen a.doing c le)
      (meets_worker a.seen a.doing le) (finds_off a.seen a.doing c le)
  row_sees s event.HostIn actor a n c le now = or_else (Sees low) (ring.hosts w actor n a.seen a.doing) (tx_turns.hosts_of_turn w a.seen a.doing c)
      (hosts actor n a.seen a.doing le) (gives a.seen a.doing c le)
  row_sees s event.Poke actor a n c le now = pokes a.seen c le
  row_sees s event.Peek actor a n c le now = pokes a.seen c le
  row_sees s event.Drive actor a n c le now = drive_row s actor a.seen a.doing c le
  row_sees s event.Fetch actor a n c le now = turns actor n a.seen a.doing c le
  row_sees s event.Copy actor a n c le now = turns actor n a.seen a.doing c le
  row_sees s event.PublishUsed actor a n c le now = turns actor n a.seen a.doing c le
  row_sees s event.Notices actor a n c le now = turns actor n a.seen a.doing c le
