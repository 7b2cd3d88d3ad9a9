-- What every row of the table of events keeps to: all rows.
use Rattle.std.proofs.Common.{ℕ, ◌+◌, ◌≤◌, List, [], Bool, true, false, Option, Some, None, refl}
use Rattle.std.specs.Prelude.{◌==◌, ◌&&◌, is_none, slice_get}
use Rattle.guest_mem.specs.Memory.{Contents}
use Rattle.tap_ledger.specs.declared.act.Act.{Act}
use Rattle.tap_ledger.specs.declared.fate.Cause.{Cause}
use Rattle.tap_ledger.specs.declared.hand.Hand.TheVariants as hand
use Rattle.vring_turns.specs.declared.stage.RxStage.{RxStage}
use Rattle.vring_turns.specs.declared.stage.RxStage.TheVariants as rx
use Rattle.vring_turns.specs.RxTurn.{RxState, RxTurn, rx_step}
use Rattle.vring_turns.specs.TxTurn.{TxTurn, tx_step}
use Rattle.scen_words.specs.declared.command.Command.{Command}
use Rattle.scen_words.specs.declared.command.Command.TheVariants as command
use Rattle.tap_ledger.specs.declared.error.TapErr.{TapErr as TapText}
use Rattle.tap_trace.specs.declared.answer.Answer.{Answer}
use Rattle.tap_trace.specs.declared.turn.ChainText.{ChainText}
use Rattle.tap_world.specs.declared.event.EventKind.{EventKind}
use Rattle.tap_world.specs.declared.event.EventKind.TheVariants as event
use Rattle.tap_world.specs.declared.event.Found.{Found}
use Rattle.tap_world.specs.ByNumber.{at}
use Rattle.vhost_dev.specs.Settings.{ring_at}
use Rattle.std.proofs.Common.{true≢false}
use Rattle.tap_world.specs.Setup.{Setup, frame_of}
use Rattle.tap_world.specs.Line.{File, first_that, front_place, in_batch, in_ring, last_that}
use Rattle.tap_world.specs.LineSteps.{ready_front}
use Rattle.tap_world.specs.Guests.{Vhost, is_free}
use Rattle.tap_world.specs.World.{Actor, Doing, World, name_of, newest}
use Rattle.tap_world.specs.World.Doing.{Backs, Begun, Hosts, Opens, Owns, Placed, Purges, Reads, Receives, Resizes, Routed, Shrinks, Transmits, Unbacked, Withdrawn}
use Rattle.tap_world.specs.Effect.{only}
use Rattle.tap_trace.specs.declared.answer.Answer.TheVariants as answer
use Rattle.tap_world.specs.declared.event.Found.TheVariants as found
use Rattle.tap_world.specs.Effect.Onward.{Ends}
use Rattle.tap_world.specs.Step as rows
use Rattle.tap_world.specs.StepBackend as back
use Rattle.tap_world.specs.StepControl as control
use Rattle.tap_world.specs.StepRing as ring
use Rattle.tap_world.specs.StepTurns as rx_turns
use Rattle.tap_world.specs.StepTransmits as tx_turns
use Rattle.tap_sound.proofs.Kit.{either, where_if, where_only, where_then}
use Rattle.tap_sound.proofs.Steps.{held, or_else, owning, turning, tx_made, rx_missed, rx_stepped, rx_taken, setting, unsetting}
use Rattle.tap_world.specs.LineSteps.{changed}
use Rattle.tap_world.specs.LineSteps.Change.{Takes}
use Rattle.tap_world.specs.Effect.{OnFiles}
use Rattle.tap_world.specs.Effect.OnFiles.{NoFile, OnFile}
use Rattle.tap_sound.proofs.Tame.{AllTame, HasGoodFate, HasSeenTo, IsBelow, IsTame, KeepsSize, look_row, publish_row}
use Rattle.vring_turns.specs.RxTurn.{rx_begun}
use Rattle.vring_turns.specs.TxTurn.{tx_begun}
use Rattle.vhost_dev.specs.Settings.{hdr_of}
use Rattle.tap_trace.specs.declared.turn.TurnText.{TurnText}

-- ---- frames

claims : (w : World) (b z : Bool) (actor n seen : ℕ) (d : Doing) → IsBelow w seen → AllTame w b z (ring.claims w actor n seen d)
claims w b z actor n seen (Routed file epoch len) le = where_then (IsTame w b z) (at w.files file) _ (λ f e1. (λ e. refl, tt, λ e. tt, le))
claims w b z actor n seen d le = tt

puts : (w : World) (b z : Bool) (actor seen : ℕ) (d : Doing) → IsBelow w seen → AllTame w b z (ring.puts w actor seen d)
puts w b z actor seen (Placed file place epoch len) le = (λ e. refl, tt, λ e. tt, le)
puts w b z actor seen d le = tt

drops : (why : ℕ → File → Option Cause) (w : World) (b z : Bool) (actor n seen : ℕ) (d : Doing) → IsBelow w seen → AllTame w b z (ring.drops_for why w actor n seen d)
drops why w b z actor n seen (Routed file epoch len) le =
    where_then (IsTame w b z) (at w.files file) _ (λ f e1. where_then (IsTame w b z) (why epoch f) _ (λ x e2. (λ e. refl, tt, λ e. tt, le)))
drops why w b z actor n seen d le = tt

shuts : (w : World) (b z : Bool) (seen : ℕ) (d : Doing) → IsBelow w seen → AllTame w b z (ring.shuts w seen d)
shuts w b z seen (Withdrawn file version) le = where_then (IsTame w b z) (at w.files file) _ (λ f e1. (λ e. refl, tt, λ e. tt, le))
shuts w b z seen d le = tt

reopens : (w : World) (b z : Bool) (seen : ℕ) (d : Doing) → IsBelow w seen → AllTame w b z (ring.reopens w seen d)
reopens w b z seen (Opens file) le = where_then (IsTame w b z) (at w.files file) _ (λ f e1. (λ e. refl, tt, λ e. tt, le))
reopens w b z seen d le = tt

resizes : (w : World) (b : Bool) (seen : ℕ) (d : Doing) → IsBelow w seen → AllTame w b true (ring.resizes w seen d)
resizes w b seen (Resizes file capacity) le = where_then (IsTame w b true) (at w.files file) _ (λ f e1. (λ e. refl, tt, λ e. absurd (true≢false e), le))
resizes w b seen d le = tt

cuts : (w : World) (b z : Bool) (seen : ℕ) (d : Doing) → IsBelow w seen → AllTame w b z (ring.cuts w seen d)
cuts w b z seen (Shrinks file places n) le = where_then (IsTame w b z) (at w.files file) _
    (λ f e1. where_then (IsTame w b z) (ring.name_at f.line (last_that in_ring f.line)) _ (λ x e2. (λ e. refl, tt, λ e. tt, le)))
cuts w b z seen d le = tt

moves_in : (w : World) (b z : Bool) (file : ℕ) → AllTame w b z (ring.moves_in w file)
moves_in w b z file = where_then (IsTame w b z) (at w.files file) _
    (λ f e1. where_then (IsTame w b z) (ring.name_at f.line (ready_front f.line)) _ (λ x e2. (λ e. refl, tt, λ e. tt, tt)))

moves : (w : World) (b z : Bool) (d : Doing) → AllTame w b z (ring.moves w d)
moves w b z (Reads file room front) = moves_in w b z file
moves w b z (Purges file version) = moves_in w b z file
moves w b z d = tt

leaves : (s : Setup) (w : World) (b z : Bool) (seen : ℕ) (d : Doing) → IsBelow w seen → AllTame w b z (ring.leaves s w seen d)
leaves s w b z seen (Reads file room front) le = where_then (IsTame w b z) (at w.files file) _ (λ f e1. where_then (IsTame w b z) (first_that in_batch f.line) _
    (λ i e2. where_then (IsTame w b z) (slice_get f.line i) _ (λ x e3. where_then (IsTame w b z) (frame_of s x.name x.len) _ (λ y e4. (λ e. refl, refl, λ e. tt, le)))))
leaves s w b z seen (Purges file version) le = where_then (IsTame w b z) (at w.files file) _
    (λ f e1. where_then (IsTame w b z) (ring.name_at f.line (first_that in_batch f.line)) _ (λ x e2. (λ e. refl, refl, λ e. tt, tt)))
leaves s w b z seen d le = tt

finds_none : (w : World) (b z : Bool) (seen : ℕ) (d : Doing) → IsBelow w seen → AllTame w b z (ring.finds_none w seen d)
finds_none w b z seen (Reads file room front) le = where_then (IsTame w b z) (at w.files file) _
    (λ f e1. where_only (IsTame w b z) _ (only (Ends seen (answer.Again (front_place f))) w) (λ x. (λ e. refl, tt, λ e. tt, le)))
finds_none w b z seen d le = tt

meets_worker : (w : World) (b z : Bool) (seen : ℕ) (d : Doing) → IsBelow w seen → AllTame w b z (ring.meets_worker w seen d)
meets_worker w b z seen (Reads file room front) le = where_then (IsTame w b z) (at w.files file) _
    (λ f e1. where_only (IsTame w b z) _ (only (Ends seen answer.Busy) w) (λ x. (λ e. refl, tt, λ e. tt, le)))
meets_worker w b z seen d le = tt

hosts : (w : World) (b z : Bool) (actor n seen : ℕ) (d : Doing) → IsBelow w seen → AllTame w b z (ring.hosts w actor n seen d)
hosts w b z actor n seen (Hosts file ether true) le = (λ e. refl, tt, λ e. tt, le)
hosts w b z actor n seen (Hosts file ether false) le = (λ e. refl, tt, λ e. tt, le)
hosts w b z actor n seen d le = tt

-- ---- guests

pokes : (w : World) (b z : Bool) (seen : ℕ) (c : Command) → IsBelow w seen → AllTame w b z (control.pokes w seen c)
pokes w b z seen (command.Poke guest addr bytes) le = where_then (IsTame w b z) (at w.guests guest) _ (λ g e1. (λ e. refl, tt, λ e. tt, le))
pokes w b z seen (command.Peek guest addr len) le = where_then (IsTame w b z) (at w.guests guest) _ (λ g e1. (λ e. refl, tt, λ e. tt, le))
pokes w b z seen c le = tt

calls : (w : World) (b z : Bool) (actor seen : ℕ) (c : Command) → IsBelow w seen → AllTame w b z (control.calls w actor seen c)
calls w b z actor seen c le =
    where_then (IsTame w b z) (control.driven_vhost c) _ (λ vhost e1. where_then (IsTame w b z) (at w.vhosts vhost) _ (λ v e2. where_then (IsTame w b z) (at w.guests v.guest) _
    (λ g e3. where_then (IsTame w b z) (control.call_of c v g.memory) _ (λ x e4. where_only (IsTame w b z) _ (control.call_effect w seen vhost v.guest x) (λ y. (λ e. refl, tt, λ e. tt, le))))))

sets_back : (w : World) (b z : Bool) (actor seen vhost r file : ℕ) (x : Option TapText) (v : Vhost) (m : Contents) (a : Option Answer) → IsBelow w seen
    → IsTame w b z (back.sets_back w actor seen vhost r file x v m a)
sets_back w b z actor seen vhost r file x v m (Some a) le = (λ e. refl, tt, λ e. tt, le)
sets_back w b z actor seen vhost r file x v m None le = (λ e. refl, tt, λ e. tt, le)

unsets_back : (w : World) (b z : Bool) (actor seen vhost r : ℕ) (v : Vhost) (m : Contents) (a : Option Answer) (file : Option ℕ) → IsBelow w seen
    → IsTame w b z (back.unsets_back w actor seen vhost r v m a file)
unsets_back w b z actor seen vhost r v m (Some a) file le = (λ e. refl, tt, λ e. tt, le)
unsets_back w b z actor seen vhost r v m None None le = (λ e. refl, tt, λ e. tt, le)
unsets_back w b z actor seen vhost r v m None (Some file) le = (λ e. refl, tt, λ e. tt, le)

backs : (s : Setup) (w : World) (b z : Bool) (actor seen : ℕ) (d : Doing) (c : Command) → IsBelow w seen → AllTame w b z (back.backs s w actor seen d c)
backs s w b z actor seen (Backs x) (command.Backend vhost r None) le = where_then (IsTame w b z) (at w.vhosts vhost) _ (λ v e1. where_then (IsTame w b z) (at w.guests v.guest) _
    (λ g e2. unsetting (IsTame w b z) s w actor seen x vhost r v g.memory (λ told e3. unsets_back w b z actor seen vhost r v g.memory told (ring_at r v.settings).file le)))
backs s w b z actor seen (Backs x) (command.Backend vhost r (Some file)) le = where_then (IsTame w b z) (at w.vhosts vhost) _ (λ v e1. where_then (IsTame w b z) (at w.guests v.guest) _
    (λ g e2. setting (IsTame w b z) s w actor seen x vhost r file v g.memory (λ told e3. sets_back w b z actor seen vhost r file x v g.memory told le)))
backs s w b z actor seen d c le = tt

drive_row : (s : Setup) (w : World) (b z : Bool) (actor seen : ℕ) (d : Doing) (c : Command) → IsBelow w seen → AllTame w b z (rows.drive_row s w actor seen d c)
drive_row s w b z actor seen Begun c le = calls w b z actor seen c le
drive_row s w b z actor seen d c le = backs s w b z actor seen d c le

owns : (w : World) (b z : Bool) (seen : ℕ) (d : Doing) (c : Command) → IsBelow w seen → AllTame w b z (back.owns w seen d c)
owns w b z seen (Owns file version) (command.Backend vhost r asked) le = (λ e. refl, tt, λ e. tt, le)
owns w b z seen (Unbacked file) (command.Backend vhost r asked) le = (λ e. refl, tt, λ e. tt, le)
owns w b z seen d c le = tt

finds_off : (w : World) (b z : Bool) (seen : ℕ) (d : Doing) (c : Command) → IsBelow w seen → AllTame w b z (rx_turns.finds_off w seen d c)
finds_off w b z seen Begun c le =
    where_then (IsTame w b z) (rx_turns.turn_on c) _ (λ t e1. where_then (IsTame w b z) (at w.vhosts t.0) _ (λ v e2. where_then (IsTame w b z) (at w.guests v.guest) _
    (λ g e3. where_then (IsTame w b z) (rx_turns.is_off t.0 t.1 v) _ (λ told e4. where_only (IsTame w b z) _ (rx_turns.off_told w seen v g.memory told) (λ x. (λ e. refl, tt, λ e. tt, le))))))
finds_off w b z seen d c le = tt

-- ---- turns

rx_seen : (n seen file : ℕ) (t : RxTurn) (f : Found) (o : Option TurnText) → seen ≤ n → HasSeenTo n (rx_turns.rx_onward seen file t f o)
rx_seen n seen file t f None le = le
rx_seen n seen file t f (Some e) le = le

tx_seen : (n seen file : ℕ) (t : TxTurn) (told : List ChainText) (f : Found) (o : Option TurnText) → seen ≤ n → HasSeenTo n (tx_turns.tx_onward seen file t told f o)
tx_seen n seen file t told f None le = le
tx_seen n seen file t told f (Some e) le = le

rx_event : (w : World) (b z : Bool) (actor seen vhost file : ℕ) (v : Vhost) (files : OnFiles) (f : Found) (over : Option TurnText) (made : RxState × Act) → HasGoodFate files → KeepsSize files → IsBelow w seen
    → IsTame w b z (rx_turns.rx_effect w actor seen vhost file v files f over made)
rx_event w b z actor seen vhost file v files f over made good keeps le =
    (λ e. refl, good, λ e. keeps, rx_seen (newest w + 0) seen file made.0.turn f over le)

rx_change : (vhost file : ℕ) (t : RxTurn) (st : RxStage) → HasGoodFate (rx_turns.rx_change vhost file t st) × KeepsSize (rx_turns.rx_change vhost file t st)
rx_change vhost file t rx.Out = (refl, tt)
rx_change vhost file t (rx.Discard had) = (refl, tt)
rx_change vhost file t (rx.PutBack e) = (tt, tt)
rx_change vhost file t st = (tt, tt)

rx_steps_on : (w : World) (b z : Bool) (actor seen vhost file : ℕ) (t : RxTurn) (v : Vhost) (m : Contents) → IsBelow w seen → AllTame w b z (rx_turns.rx_steps_on w actor seen vhost file t v m)
rx_steps_on w b z actor seen vhost file t v m le = where_then (IsTame w b z) (rx_step hand.Off (rx_turns.rx_state t v m)) _
    (λ made e. rx_stepped (IsTame w b z) w actor seen vhost file t v made
    (λ f over e2 told. rx_event w b z actor seen vhost file v (rx_turns.rx_change vhost file t t.stage) f over made (rx_change vhost file t t.stage).0 (rx_change vhost file t t.stage).1 le))

tx_steps_on : (w : World) (b z : Bool) (actor seen vhost file : ℕ) (t : TxTurn) (told : List ChainText) (v : Vhost) (m : Contents) → IsBelow w seen
    → AllTame w b z (tx_turns.tx_steps_on w actor seen vhost file t told v m)
tx_steps_on w b z actor seen vhost file t told v m le = where_then (IsTame w b z) (tx_step (tx_turns.tx_state t v m)) _
    (λ made x. tx_made (IsTame w b z) w actor seen vhost file told v made
    (λ step over e2 end_. (λ e. refl, tt, λ e. tt, tx_seen (newest w + 0) seen file made.0.turn _ _ over le)))

begins : (w : World) (b z : Bool) (actor n seen : ℕ) (c : Command) → IsBelow w seen → AllTame w b z (tx_turns.turn_begins w actor n seen c)
begins w b z actor n seen c le = where_then (IsTame w b z) (rx_turns.turn_on c) _ (λ t e1. where_then (IsTame w b z) (at w.vhosts t.0) _ (λ v e2. where_then (IsTame w b z) (at w.guests v.guest) _
    (λ g e3. either (AllTame w b z) (t.1 == 0) (rx_turns.rx_begins w actor seen t.0 v g.memory) (tx_turns.tx_begins w actor n seen t.0 v g.memory)
    (where_then (IsTame w b z) v.settings.rx.file _ (λ file e4. where_if (IsTame w b z) (is_free 0 v && is_none v.settings.rx.queue.stopped)
    (rx_turns.rx_steps_on w actor seen t.0 file (rx_begun v.settings.mrg (hdr_of v.settings)) v g.memory) (λ x. rx_steps_on w b z actor seen t.0 file (rx_begun v.settings.mrg (hdr_of v.settings)) v g.memory le)))
    (where_then (IsTame w b z) v.settings.tx.file _ (λ file e4. where_if (IsTame w b z) (is_free 1 v && is_none v.settings.tx.queue.stopped)
    (tx_turns.tx_steps_on w actor seen t.0 file (tx_begun (hdr_of v.settings) (name_of actor n)) [] v g.memory) (λ x. tx_steps_on w b z actor seen t.0 file (tx_begun (hdr_of v.settings) (name_of actor n)) [] v g.memory le))))))

goes_on : (w : World) (b z : Bool) (actor seen : ℕ) (d : Doing) (vhost : ℕ) (v : Vhost) (m : Contents) → IsBelow w seen → AllTame w b z (tx_turns.goes_on w actor seen d vhost v m)
goes_on w b z actor seen (Receives file t) vhost v m le = rx_steps_on w b z actor seen vhost file t v m le
goes_on w b z actor seen (Transmits file t told) vhost v m le = tx_steps_on w b z actor seen vhost file t told v m le
goes_on w b z actor seen d vhost v m le = tt

turns : (w : World) (b z : Bool) (actor n seen : ℕ) (d : Doing) (c : Command) → IsBelow w seen → AllTame w b z (tx_turns.turns w actor n seen d c)
turns w b z actor n seen Begun c le = begins w b z actor n seen c le
turns w b z actor n seen d c le = turning (IsTame w b z) w c (tx_turns.goes_on w actor seen d) (λ vhost v m. goes_on w b z actor seen d vhost v m le)

hands : (s : Setup) (w : World) (b z : Bool) (actor seen : ℕ) (d : Doing) (c : Command) → IsBelow w seen → AllTame w b z (tx_turns.hands s w actor seen d c)
hands s w b z actor seen (Receives file t) c le = turning (IsTame w b z) w c _ (λ vhost v m. where_then (IsTame w b z) (at w.files file) _
    (λ f e1. where_then (IsTame w b z) (changed (Takes vhost) f) _ (λ g e2. where_then (IsTame w b z) (rx_turns.front_frame s g) _
    (λ frame e3. where_then (IsTame w b z) (rx_step (hand.Got frame) (rx_turns.rx_state t v m)) _
    (λ made e. rx_taken (IsTame w b z) w actor seen vhost file v frame made
    (λ over told. rx_event w b z actor seen vhost file v (OnFile file (Takes vhost)) (found.Moved frame.name) over made tt tt le))))))
hands s w b z actor seen d c le = tt

finds_nothing : (w : World) (b z : Bool) (actor seen : ℕ) (d : Doing) (c : Command) → IsBelow w seen → AllTame w b z (tx_turns.turn_finds_none w actor seen d c)
finds_nothing w b z actor seen (Receives file t) c le = turning (IsTame w b z) w c _ (λ vhost v m. where_then (IsTame w b z) (at w.files file) _
    (λ f e1. where_then (IsTame w b z) (rx_step (hand.NotReady (front_place f)) (rx_turns.rx_state t v m)) _
    (λ made e. rx_missed (IsTame w b z) w actor seen vhost file v f made
    (λ over told. rx_event w b z actor seen vhost file v NoFile (found.NotReady (front_place f)) over made tt tt le))))
finds_nothing w b z actor seen d c le = tt

gives : (w : World) (b z : Bool) (seen : ℕ) (d : Doing) (c : Command) → IsBelow w seen → AllTame w b z (tx_turns.hosts_of_turn w seen d c)
gives w b z seen (Transmits file t told) c le = turning (IsTame w b z) w c _ (λ vhost v m. where_then (IsTame w b z) t.held _
    (λ f e1. where_then (IsTame w b z) (tx_step (tx_turns.tx_state t v m)) _ (λ made e2. (λ e. refl, tt, λ e. tt, le))))
gives w b z seen d c le = tt

-- ---- all rows

abbrev pub is_publish : EventKind → Bool
is_publish event.Publish = true
is_publish k = false

abbrev pub is_resize : EventKind → Bool
is_resize event.Resize = true
is_resize k = false

pub row_is_tame : (s : Setup) (w : World) (k : EventKind) (actor : ℕ) (a : Actor) (n : ℕ) (c : Command) → IsBelow w a.seen
    → AllTame w (is_publish k) (is_resize k) (rows.row s w k actor a n c)
row_is_tame s w event.Look actor a n c le = look_row s w false false actor a n c
row_is_tame s w event.Publish actor a n c le = publish_row s w false actor a.doing c
row_is_tame s w event.Claim actor a n c le = claims w false false actor n a.seen a.doing le
row_is_tame s w event.Ready actor a n c le = puts w false false actor a.seen a.doing le
row_is_tame s w event.Full actor a n c le = drops ring.full_now w false false actor n a.seen a.doing le
row_is_tame s w event.Gone actor a n c le = drops ring.gone_now w false false actor n a.seen a.doing le
row_is_tame s w event.Spent actor a n c le = drops ring.spent_now w false false actor n a.seen a.doing le
row_is_tame s w event.Shut actor a n c le = held (IsTame w false false) w actor (ring.shuts w a.seen a.doing) (shuts w false false a.seen a.doing le)
row_is_tame s w event.Reopen actor a n c le = held (IsTame w false false) w actor (ring.reopens w a.seen a.doing) (reopens w false false a.seen a.doing le)
row_is_tame s w event.Resize actor a n c le = held (IsTame w false true) w actor (ring.resizes w a.seen a.doing) (resizes w false a.seen a.doing le)
row_is_tame s w event.Cut actor a n c le = held (IsTame w false false) w actor (ring.cuts w a.seen a.doing) (cuts w false false a.seen a.doing le)
row_is_tame s w event.Move actor a n c le = moves w false false a.doing
row_is_tame s w event.Hand actor a n c le = hands s w false false actor a.seen a.doing c le
row_is_tame s w event.PutBack actor a n c le = turns w false false actor n a.seen a.doing c le
row_is_tame s w event.Out actor a n c le = or_else (IsTame w false false) (ring.leaves s w a.seen a.doing) (tx_turns.turns w actor n a.seen a.doing c)
    (leaves s w false false a.seen a.doing le) (turns w false false actor n a.seen a.doing c le)
row_is_tame s w event.NotReady actor a n c le = or_else (IsTame w false false) (ring.finds_none w a.seen a.doing) (tx_turns.turn_finds_none w actor a.seen a.doing c)
    (finds_none w false false a.seen a.doing le) (finds_nothing w false false actor a.seen a.doing c le)
row_is_tame s w event.Owner actor a n c le = owning (IsTame w false false) w actor a.seen a.doing c (owns w false false a.seen a.doing c le)
    (meets_worker w false false a.seen a.doing le) (finds_off w false false a.seen a.doing c le)
row_is_tame s w event.HostIn actor a n c le = or_else (IsTame w false false) (ring.hosts w actor n a.seen a.doing) (tx_turns.hosts_of_turn w a.seen a.doing c)
    (hosts w false false actor n a.seen a.doing le) (gives w false false a.seen a.doing c le)
row_is_tame s w event.Poke actor a n c le = pokes w false false a.seen c le
row_is_tame s w event.Peek actor a n c le = pokes w false false a.seen c le
row_is_tame s w event.Drive actor a n c le = drive_row s w false false actor a.seen a.doing c le
row_is_tame s w event.Fetch actor a n c le = turns w false false actor n a.seen a.doing c le
row_is_tame s w event.Copy actor a n c le = turns w false false actor n a.seen a.doing c le
row_is_tame s w event.PublishUsed actor a n c le = turns w false false actor n a.seen a.doing c le
row_is_tame s w event.Notices actor a n c le = turns w false false actor n a.seen a.doing c le
