-- Which change of a file each kind of event makes.
use Rattle.std.proofs.Common.{◌≡◌, ℕ, ◌+◌, List, [], ◌∷◌, Bool, true, false, Option, Some, None, refl}
use Rattle.std.specs.Prelude.{if◌then◌else◌, ◌==◌, ◌&&◌, ◌||◌, is_none, nat_lt, slice_get}
use Rattle.std.specs.Option.{option_map_or}
use Rattle.guest_mem.specs.Memory.{Contents}
use Rattle.tap_frame.specs.declared.name.Name.{Name}
use Rattle.tap_ledger.specs.declared.fate.Cause.{Cause}
use Rattle.tap_ledger.specs.declared.hand.Hand.TheVariants as hand
use Rattle.tap_steer.specs.declared.operation.Op.{Op}
use Rattle.vring_turns.specs.declared.stage.RxStage.{RxStage}
use Rattle.vring_turns.specs.declared.stage.RxStage.TheVariants as rx
use Rattle.vring_turns.specs.RxTurn.{RxTurn, rx_step}
use Rattle.vring_turns.specs.TxTurn.{TxTurn, tx_step}
use Rattle.scen_words.specs.declared.command.Command.{Command}
use Rattle.scen_words.specs.declared.command.Command.TheVariants as command
use Rattle.tap_ledger.specs.declared.error.TapErr.{TapErr as TapText}
use Rattle.tap_trace.specs.declared.answer.Answer.{Answer}
use Rattle.tap_trace.specs.declared.turn.ChainText.{ChainText}
use Rattle.tap_world.specs.declared.event.EventKind.{EventKind}
use Rattle.tap_world.specs.declared.event.EventKind.TheVariants as event
use Rattle.tap_world.specs.ByNumber.{at}
use Rattle.tap_world.specs.Frames.{Front}
use Rattle.vhost_dev.specs.Settings.{ring_at}
use Rattle.tap_world.specs.Setup.{Setup, op_of, frame_of}
use Rattle.tap_world.specs.Line.{File, first_that, front_place, in_batch, in_ring, last_that}
use Rattle.tap_world.specs.LineSteps.{ready_front}
use Rattle.tap_world.specs.Guests.{Vhost, is_free, is_ring, turn_of}
use Rattle.std.specs.Prelude.{not}
use Rattle.tap_steer.specs.Rules.{refuse}
use Rattle.tap_world.specs.World.{Actor, Doing, World, name_of, newest, table}
use Rattle.tap_world.specs.World.Doing.{Backed, Backs, Begun, Changes, Disowned, Given, Hosts, Learns, Opened, Opens, Owns, Placed, Purges, Reads, Receives, Released, Resizes, Routed, Shrinks, Teaches, Transmits, Unbacked, Withdrawn, Withdraws}
use Rattle.tap_world.specs.Effect.{Effect, only}
use Rattle.tap_steer.specs.declared.operation.Op.TheVariants as op
use Rattle.tap_trace.specs.declared.answer.Answer.TheVariants as answer
use Rattle.tap_world.specs.declared.event.Found.TheVariants as found
use Rattle.tap_world.specs.Effect.Onward.{Ends, Goes}
use Rattle.tap_world.specs.Step as rows
use Rattle.tap_world.specs.StepBackend as back
use Rattle.tap_world.specs.StepControl as control
use Rattle.tap_world.specs.StepRing as ring
use Rattle.tap_world.specs.StepTable as tables
use Rattle.tap_world.specs.StepTurns as rx_turns
use Rattle.tap_world.specs.StepTransmits as tx_turns
use Rattle.tap_sound.proofs.Kit.{WhereSome, either, where_if, where_only, where_then}
use Rattle.tap_sound.proofs.Steps.{held, or_else, own, owning, publication, turning, tx_made, rx_missed, rx_stepped, rx_taken, setting, unsetting}
use Rattle.tap_frame.specs.declared.reading.BadFrame.{BadFrame}
use Rattle.tap_ledger.specs.declared.error.TapErr.{TapErr}
use Rattle.tap_steer.specs.declared.selection.Select.{Select}
use Rattle.tap_steer.specs.declared.selection.Select.TheVariants as select
use Rattle.tap_steer.specs.Select as steer
use Rattle.tap_steer.specs.Table.{Table}
use Rattle.tap_world.specs.Frames.{bad_in, ether_in, least_in, sent_bytes, sent_front}
use Rattle.tap_world.specs.LineSteps.{changed}
use Rattle.tap_world.specs.LineSteps.Change.{Claims, Cuts, Moves, Owned, Puts, Reopens, Shuts, Sizes, Takes}
use Rattle.tap_world.specs.Effect.{OnFiles}
use Rattle.tap_world.specs.Effect.OnFiles.{OnFile}
use Rattle.vring_turns.specs.RxTurn.{rx_begun}
use Rattle.vring_turns.specs.TxTurn.{tx_begun}
use Rattle.vhost_dev.specs.Settings.{hdr_of}

-- ---- which change of a file an event makes

abbrev pub IsOf : EventKind → OnFiles → Type 0
IsOf k (OnFile file (Claims actor name epoch len)) = k ≡ event.Claim
IsOf k (OnFile file (Puts actor place)) = k ≡ event.Ready
IsOf k (OnFile file Moves) = k ≡ event.Move
IsOf k (OnFile file (Takes vhost)) = k ≡ event.Hand
IsOf k (OnFile file Shuts) = k ≡ event.Shut
IsOf k (OnFile file Reopens) = k ≡ event.Reopen
IsOf k (OnFile file (Sizes capacity)) = k ≡ event.Resize
IsOf k (OnFile file Cuts) = k ≡ event.Cut
IsOf k (OnFile file (Owned owner)) = k ≡ event.Owner
IsOf k files = Unit {0}

abbrev pub Makes : EventKind → Effect → Type 0
Makes k r = IsOf k r.files

abbrev pub AllMake : EventKind → Option Effect → Type 0
AllMake k o = WhereSome (Makes k) o

-- ---- looks

approved : (w : World) (k : EventKind) (actor : ℕ) (d : Doing) (x : Option TapErr) → Makes k (tables.decided w actor d x)
approved w k actor d None = tt
approved w k actor d (Some x) = tt

routed : (w : World) (k : EventKind) (name : Name) (x : Select) → Makes k (tables.routed w name x)
routed w k name select.NoQueue = tt
routed w k name select.Filtered = tt
routed w k name (select.Row row keep resizes capacity) = tt

unless_bad : (w : World) (k : EventKind) (x : Option BadFrame) (r : Effect) → Makes k r → Makes k (tables.unless_bad x w r)
unless_bad w k None r h = h
unless_bad w k (Some x) r h = tt

with_front : (w : World) (k : EventKind) (x : Option Front) (r : Front → Effect) → ((f : Front) → Makes k (r f)) → Makes k (tables.with_front x w r)
with_front w k None r h = tt
with_front w k (Some f) r h = h f

reading : (w : World) (k : EventKind) (file room : ℕ) (front : Front) → Makes k (tables.reads w file room front)
reading w k file room front = go (nat_lt room (least_in front))
  where
    go : (c : Bool) → Makes k (if c then only (Ends (newest w) (answer.Room (least_in front))) w else only (Goes (newest w) (Reads file room front) (found.Version (newest w))) w)
    go true = tt
    go false = tt

back_seen : (w : World) (k : EventKind) (actor vhost r : ℕ) (v : Vhost) (x : Option TapText) → Makes k (back.back_seen w actor vhost r v x)
back_seen w k actor vhost r v None = tt
back_seen w k actor vhost r v (Some x) = tt

looks_at : (w : World) (k : EventKind) (t : Table) (name : Name) (c : Command) → AllMake k (tables.looks_at t w name c)
looks_at w k t name (command.Send device hdr bytes) =
    unless_bad w k (bad_in (sent_front hdr) (sent_bytes hdr bytes)) (tables.routed w name (steer.select t device (ether_in (sent_front hdr) (sent_bytes hdr bytes))))
    (routed w k name (steer.select t device (ether_in (sent_front hdr) (sent_bytes hdr bytes))))
looks_at w k t name (command.Read file room) = with_front w k (steer.shape_of t file) (tables.reads w file room) (reading w k file room)
looks_at w k t name (command.Write file bytes) = with_front w k (steer.shape_of t file) (tables.writes t w file bytes)
    (λ front. unless_bad w k (bad_in front bytes)
    (only (Goes (newest w) (Hosts file (ether_in front bytes) (steer.learns t file)) (found.Version (newest w))) w) tt)
looks_at w k t name c = tt

looks : (s : Setup) (w : World) (k : EventKind) (actor : ℕ) (a : Actor) (n : ℕ) (c : Command) → AllMake k (tables.looks s w actor a n c)
looks s w k actor a n c = go (op_of s c)
  where
    go : (o : Option Op) → AllMake k (option_map_or (tables.looks_to_change (table s w) w actor) o (tables.looks_at (table s w) w (name_of actor n) c))
    go None = looks_at w k (table s w) (name_of actor n) c
    go (Some x) = where_only (Makes k) (is_none w.writer) (tables.decided w actor (tables.course (table s w) x) (refuse (table s w) x)) (λ e. approved w k actor _ _)

looks_at_flow : (s : Setup) (w : World) (k : EventKind) (d : Doing) → AllMake k (tx_turns.looks_at_flow s w d)
looks_at_flow s w k (Given file t told f) = tt
looks_at_flow s w k d = tt

look_row : (s : Setup) (w : World) (k : EventKind) (actor : ℕ) (a : Actor) (n : ℕ) (c : Command) → AllMake k (rows.look_row s w actor a n c)
look_row s w k actor a n (command.Backend vhost r file) =
    where_then (Makes k) (at w.vhosts vhost) _ (λ v e. where_only (Makes k) (is_none w.writer && (not (is_ring r) || is_none (turn_of r v)))
    (back.back_seen w actor vhost r v (back.back_refusal (table s w) vhost r file)) (λ e. back_seen w k actor vhost r v _))
look_row s w k actor a n (command.TxTurn vhost) = looks_at_flow s w k a.doing
look_row s w k actor a n c = looks s w k actor a n c

-- ---- publications

own_published : (w : World) (k : EventKind) (x : Op) (d : Doing) → AllMake k (tables.publishes_own w x d)
own_published w k x Changes = tt
own_published w k x (Opened file) = tt
own_published w k x (Withdraws file) = tt
own_published w k x (Shrinks file places cuts) = where_then (Makes k) (at w.files file) _ (λ f e1. tt)
own_published w k x d = tt

publishes : (s : Setup) (w : World) (k : EventKind) (actor : ℕ) (d : Doing) (c : Command) → AllMake k (tables.publishes s w actor d c)
publishes s w k actor (Learns file ether) c =
    where_only (Makes k) (is_none w.writer) (tables.learns_flow w file ether) (λ b. tt)
publishes s w k actor d c = own (Makes k) s w actor d c (λ x. own_published w k x d)

teaches : (w : World) (k : EventKind) (d : Doing) → AllMake k (tx_turns.teaches w d)
teaches w k (Teaches file t told f) = where_only (Makes k) (is_none w.writer)
    (record (only (Goes (newest w + 1) (Transmits file t told) (found.Version (newest w + 1))) w) { ops = op.Learn file f.flow ∷ [] })
    (λ b. tt)
teaches w k d = tt

publishes_back : (w : World) (k : EventKind) (d : Doing) (c : Command) → AllMake k (back.publishes_back w d c)
publishes_back w k (Backed file) (command.Backend vhost r asked) = either (Makes k) (r == 0) _ _ first second
  where
    first : Makes k (record (only (Goes (newest w + 1) (Owns file (newest w + 1)) (found.Version (newest w + 1))) w) { ops = op.Back file (back.side_of r) (Some vhost) ∷ [] })
    first = tt

    second : Makes k (record (back.back_over w (newest w + 1) vhost r (newest w + 1)) { ops = op.Back file (back.side_of r) (Some vhost) ∷ [] })
    second = tt
publishes_back w k (Disowned file) (command.Backend vhost r asked) = tt
publishes_back w k (Released file) (command.Backend vhost r asked) = tt
publishes_back w k d c = tt

publish_row : (s : Setup) (w : World) (k : EventKind) (actor : ℕ) (d : Doing) (c : Command) → AllMake k (rows.publish_row s w actor d c)
publish_row s w k actor d c = publication (Makes k) s w actor d c (publishes_back w k d c) (teaches w k d) (publishes s w k actor d c)

-- ---- frames

claims : (w : World) (actor n seen : ℕ) (d : Doing) → AllMake event.Claim (ring.claims w actor n seen d)
claims w actor n seen (Routed file epoch len) = where_then (Makes event.Claim) (at w.files file) _ (λ f e1. refl)
claims w actor n seen d = tt

puts : (w : World) (actor seen : ℕ) (d : Doing) → AllMake event.Ready (ring.puts w actor seen d)
puts w actor seen (Placed file place epoch len) = refl
puts w actor seen d = tt

drops : (why : ℕ → File → Option Cause) (w : World) (k : EventKind) (actor n seen : ℕ) (d : Doing) → AllMake k (ring.drops_for why w actor n seen d)
drops why w k actor n seen (Routed file epoch len) =
    where_then (Makes k) (at w.files file) _ (λ f e1. where_then (Makes k) (why epoch f) _ (λ x e2. tt))
drops why w k actor n seen d = tt

shuts : (w : World) (seen : ℕ) (d : Doing) → AllMake event.Shut (ring.shuts w seen d)
shuts w seen (Withdrawn file version) =
    where_then (Makes event.Shut) (at w.files file) _ (λ f e1. refl)
shuts w seen d = tt

reopens : (w : World) (seen : ℕ) (d : Doing) → AllMake event.Reopen (ring.reopens w seen d)
reopens w seen (Opens file) = where_then (Makes event.Reopen) (at w.files file) _ (λ f e1. refl)
reopens w seen d = tt

resizes : (w : World) (seen : ℕ) (d : Doing) → AllMake event.Resize (ring.resizes w seen d)
resizes w seen (Resizes file capacity) = where_then (Makes event.Resize) (at w.files file) _ (λ f e1. refl)
resizes w seen d = tt

cuts : (w : World) (seen : ℕ) (d : Doing) → AllMake event.Cut (ring.cuts w seen d)
cuts w seen (Shrinks file places n) = where_then (Makes event.Cut) (at w.files file) _
    (λ f e1. where_then (Makes event.Cut) (ring.name_at f.line (last_that in_ring f.line)) _ (λ x e2. refl))
cuts w seen d = tt

moves_in : (w : World) (file : ℕ) → AllMake event.Move (ring.moves_in w file)
moves_in w file = where_then (Makes event.Move) (at w.files file) _
    (λ f e1. where_then (Makes event.Move) (ring.name_at f.line (ready_front f.line)) _ (λ x e2. refl))

moves : (w : World) (d : Doing) → AllMake event.Move (ring.moves w d)
moves w (Reads file room front) = moves_in w file
moves w (Purges file version) = moves_in w file
moves w d = tt

leaves : (s : Setup) (w : World) (k : EventKind) (seen : ℕ) (d : Doing) → AllMake k (ring.leaves s w seen d)
leaves s w k seen (Reads file room front) = where_then (Makes k) (at w.files file) _ (λ f e1. where_then (Makes k) (first_that in_batch f.line) _
    (λ i e2. where_then (Makes k) (slice_get f.line i) _ (λ x e3. where_then (Makes k) (frame_of s x.name x.len) _ (λ y e4. tt))))
leaves s w k seen (Purges file version) = where_then (Makes k) (at w.files file) _
    (λ f e1. where_then (Makes k) (ring.name_at f.line (first_that in_batch f.line)) _ (λ x e2. tt))
leaves s w k seen d = tt

finds_none : (w : World) (k : EventKind) (seen : ℕ) (d : Doing) → AllMake k (ring.finds_none w seen d)
finds_none w k seen (Reads file room front) = where_then (Makes k) (at w.files file) _
    (λ f e1. where_only (Makes k) _ (only (Ends seen (answer.Again (front_place f))) w) (λ x. tt))
finds_none w k seen d = tt

meets_worker : (w : World) (k : EventKind) (seen : ℕ) (d : Doing) → AllMake k (ring.meets_worker w seen d)
meets_worker w k seen (Reads file room front) = where_then (Makes k) (at w.files file) _
    (λ f e1. where_only (Makes k) _ (only (Ends seen answer.Busy) w) (λ x. tt))
meets_worker w k seen d = tt

hosts : (w : World) (k : EventKind) (actor n seen : ℕ) (d : Doing) → AllMake k (ring.hosts w actor n seen d)
hosts w k actor n seen (Hosts file ether true) = tt
hosts w k actor n seen (Hosts file ether false) = tt
hosts w k actor n seen d = tt

-- ---- guests

pokes : (w : World) (k : EventKind) (seen : ℕ) (c : Command) → AllMake k (control.pokes w seen c)
pokes w k seen (command.Poke guest addr bytes) = where_then (Makes k) (at w.guests guest) _ (λ g e1. tt)
pokes w k seen (command.Peek guest addr len) = where_then (Makes k) (at w.guests guest) _ (λ g e1. tt)
pokes w k seen c = tt

calls : (w : World) (k : EventKind) (actor seen : ℕ) (c : Command) → AllMake k (control.calls w actor seen c)
calls w k actor seen c =
    where_then (Makes k) (control.driven_vhost c) _ (λ vhost e1. where_then (Makes k) (at w.vhosts vhost) _ (λ v e2. where_then (Makes k) (at w.guests v.guest) _
    (λ g e3. where_then (Makes k) (control.call_of c v g.memory) _ (λ x e4. where_only (Makes k) _ (control.call_effect w seen vhost v.guest x) (λ y. tt)))))

sets_back : (w : World) (k : EventKind) (actor seen vhost r file : ℕ) (x : Option TapText) (v : Vhost) (m : Contents) (a : Option Answer)
    → Makes k (back.sets_back w actor seen vhost r file x v m a)
sets_back w k actor seen vhost r file x v m (Some a) = tt
sets_back w k actor seen vhost r file x v m None = tt

unsets_back : (w : World) (k : EventKind) (actor seen vhost r : ℕ) (v : Vhost) (m : Contents) (a : Option Answer) (file : Option ℕ)
    → Makes k (back.unsets_back w actor seen vhost r v m a file)
unsets_back w k actor seen vhost r v m (Some a) file = tt
unsets_back w k actor seen vhost r v m None None = tt
unsets_back w k actor seen vhost r v m None (Some file) = tt

backs : (s : Setup) (w : World) (k : EventKind) (actor seen : ℕ) (d : Doing) (c : Command) → AllMake k (back.backs s w actor seen d c)
backs s w k actor seen (Backs x) (command.Backend vhost r None) = where_then (Makes k) (at w.vhosts vhost) _ (λ v e1. where_then (Makes k) (at w.guests v.guest) _
    (λ g e2. unsetting (Makes k) s w actor seen x vhost r v g.memory (λ told e3. unsets_back w k actor seen vhost r v g.memory told (ring_at r v.settings).file)))
backs s w k actor seen (Backs x) (command.Backend vhost r (Some file)) = where_then (Makes k) (at w.vhosts vhost) _ (λ v e1. where_then (Makes k) (at w.guests v.guest) _
    (λ g e2. setting (Makes k) s w actor seen x vhost r file v g.memory (λ told e3. sets_back w k actor seen vhost r file x v g.memory told)))
backs s w k actor seen d c = tt

drive_row : (s : Setup) (w : World) (k : EventKind) (actor seen : ℕ) (d : Doing) (c : Command) → AllMake k (rows.drive_row s w actor seen d c)
drive_row s w k actor seen Begun c = calls w k actor seen c
drive_row s w k actor seen d c = backs s w k actor seen d c

owns : (w : World) (seen : ℕ) (d : Doing) (c : Command) → AllMake event.Owner (back.owns w seen d c)
owns w seen (Owns file version) (command.Backend vhost r asked) = refl
owns w seen (Unbacked file) (command.Backend vhost r asked) = refl
owns w seen d c = tt

finds_off : (w : World) (k : EventKind) (seen : ℕ) (d : Doing) (c : Command) → AllMake k (rx_turns.finds_off w seen d c)
finds_off w k seen Begun c =
    where_then (Makes k) (rx_turns.turn_on c) _ (λ t e1. where_then (Makes k) (at w.vhosts t.0) _ (λ v e2. where_then (Makes k) (at w.guests v.guest) _
    (λ g e3. where_then (Makes k) (rx_turns.is_off t.0 t.1 v) _ (λ told e4. where_only (Makes k) _ (rx_turns.off_told w seen v g.memory told) (λ x. tt)))))
finds_off w k seen d c = tt

-- ---- turns

rx_change : (w : World) (k : EventKind) (vhost file : ℕ) (t : RxTurn) (st : RxStage) → IsOf k (rx_turns.rx_change vhost file t st)
rx_change w k vhost file t rx.Out = tt
rx_change w k vhost file t (rx.Discard had) = tt
rx_change w k vhost file t (rx.PutBack e) = tt
rx_change w k vhost file t st = tt

rx_steps_on : (w : World) (k : EventKind) (actor seen vhost file : ℕ) (t : RxTurn) (v : Vhost) (m : Contents) → AllMake k (rx_turns.rx_steps_on w actor seen vhost file t v m)
rx_steps_on w k actor seen vhost file t v m = where_then (Makes k) (rx_step hand.Off (rx_turns.rx_state t v m)) _
    (λ made e. rx_stepped (Makes k) w actor seen vhost file t v made (λ f over e2 told. rx_change w k vhost file t t.stage))

tx_steps_on : (w : World) (k : EventKind) (actor seen vhost file : ℕ) (t : TxTurn) (told : List ChainText) (v : Vhost) (m : Contents)
    → AllMake k (tx_turns.tx_steps_on w actor seen vhost file t told v m)
tx_steps_on w k actor seen vhost file t told v m = where_then (Makes k) (tx_step (tx_turns.tx_state t v m)) _
    (λ made x. tx_made (Makes k) w actor seen vhost file told v made (λ step over e2 end_. tt))

begins : (w : World) (k : EventKind) (actor n seen : ℕ) (c : Command) → AllMake k (tx_turns.turn_begins w actor n seen c)
begins w k actor n seen c = where_then (Makes k) (rx_turns.turn_on c) _ (λ t e1. where_then (Makes k) (at w.vhosts t.0) _ (λ v e2. where_then (Makes k) (at w.guests v.guest) _
    (λ g e3. either (AllMake k) (t.1 == 0) (rx_turns.rx_begins w actor seen t.0 v g.memory) (tx_turns.tx_begins w actor n seen t.0 v g.memory)
    (where_then (Makes k) v.settings.rx.file _ (λ file e4. where_if (Makes k) (is_free 0 v && is_none v.settings.rx.queue.stopped)
    (rx_turns.rx_steps_on w actor seen t.0 file (rx_begun v.settings.mrg (hdr_of v.settings)) v g.memory) (λ x. rx_steps_on w k actor seen t.0 file (rx_begun v.settings.mrg (hdr_of v.settings)) v g.memory)))
    (where_then (Makes k) v.settings.tx.file _ (λ file e4. where_if (Makes k) (is_free 1 v && is_none v.settings.tx.queue.stopped)
    (tx_turns.tx_steps_on w actor seen t.0 file (tx_begun (hdr_of v.settings) (name_of actor n)) [] v g.memory) (λ x. tx_steps_on w k actor seen t.0 file (tx_begun (hdr_of v.settings) (name_of actor n)) [] v g.memory))))))

goes_on : (w : World) (k : EventKind) (actor seen : ℕ) (d : Doing) (vhost : ℕ) (v : Vhost) (m : Contents) → AllMake k (tx_turns.goes_on w actor seen d vhost v m)
goes_on w k actor seen (Receives file t) vhost v m = rx_steps_on w k actor seen vhost file t v m
goes_on w k actor seen (Transmits file t told) vhost v m = tx_steps_on w k actor seen vhost file t told v m
goes_on w k actor seen d vhost v m = tt

turns : (w : World) (k : EventKind) (actor n seen : ℕ) (d : Doing) (c : Command) → AllMake k (tx_turns.turns w actor n seen d c)
turns w k actor n seen Begun c = begins w k actor n seen c
turns w k actor n seen d c = turning (Makes k) w c (tx_turns.goes_on w actor seen d) (λ vhost v m. goes_on w k actor seen d vhost v m)

hands : (s : Setup) (w : World) (actor seen : ℕ) (d : Doing) (c : Command) → AllMake event.Hand (tx_turns.hands s w actor seen d c)
hands s w actor seen (Receives file t) c = turning (Makes event.Hand) w c _ (λ vhost v m. where_then (Makes event.Hand) (at w.files file) _
    (λ f e1. where_then (Makes event.Hand) (changed (Takes vhost) f) _ (λ g e2. where_then (Makes event.Hand) (rx_turns.front_frame s g) _
    (λ frame e3. where_then (Makes event.Hand) (rx_step (hand.Got frame) (rx_turns.rx_state t v m)) _
    (λ made e. rx_taken (Makes event.Hand) w actor seen vhost file v frame made (λ over told. refl))))))
hands s w actor seen d c = tt

finds_nothing : (w : World) (k : EventKind) (actor seen : ℕ) (d : Doing) (c : Command) → AllMake k (tx_turns.turn_finds_none w actor seen d c)
finds_nothing w k actor seen (Receives file t) c = turning (Makes k) w c _ (λ vhost v m. where_then (Makes k) (at w.files file) _
    (λ f e1. where_then (Makes k) (rx_step (hand.NotReady (front_place f)) (rx_turns.rx_state t v m)) _
    (λ made e. rx_missed (Makes k) w actor seen vhost file v f made (λ over told. tt))))
finds_nothing w k actor seen d c = tt

gives : (w : World) (k : EventKind) (seen : ℕ) (d : Doing) (c : Command) → AllMake k (tx_turns.hosts_of_turn w seen d c)
gives w k seen (Transmits file t told) c = turning (Makes k) w c _ (λ vhost v m. where_then (Makes k) t.held _
    (λ f e1. where_then (Makes k) (tx_step (tx_turns.tx_state t v m)) _ (λ made e2. tt)))
gives w k seen d c = tt

-- ---- all rows

pub row_makes : (s : Setup) (w : World) (k : EventKind) (actor : ℕ) (a : Actor) (n : ℕ) (c : Command)
    → AllMake k (rows.row s w k actor a n c)
row_makes s w event.Look actor a n c = look_row s w event.Look actor a n c
row_makes s w event.Publish actor a n c = publish_row s w event.Publish actor a.doing c
row_makes s w event.Claim actor a n c = claims w actor n a.seen a.doing
row_makes s w event.Ready actor a n c = puts w actor a.seen a.doing
row_makes s w event.Full actor a n c = drops ring.full_now w event.Full actor n a.seen a.doing
row_makes s w event.Gone actor a n c = drops ring.gone_now w event.Gone actor n a.seen a.doing
row_makes s w event.Spent actor a n c = drops ring.spent_now w event.Spent actor n a.seen a.doing
row_makes s w event.Shut actor a n c = held (Makes event.Shut) w actor (ring.shuts w a.seen a.doing) (shuts w a.seen a.doing)
row_makes s w event.Reopen actor a n c = held (Makes event.Reopen) w actor (ring.reopens w a.seen a.doing) (reopens w a.seen a.doing)
row_makes s w event.Resize actor a n c = held (Makes event.Resize) w actor (ring.resizes w a.seen a.doing) (resizes w a.seen a.doing)
row_makes s w event.Cut actor a n c = held (Makes event.Cut) w actor (ring.cuts w a.seen a.doing) (cuts w a.seen a.doing)
row_makes s w event.Move actor a n c = moves w a.doing
row_makes s w event.Hand actor a n c = hands s w actor a.seen a.doing c
row_makes s w event.PutBack actor a n c = turns w event.PutBack actor n a.seen a.doing c
row_makes s w event.Out actor a n c = or_else (Makes event.Out) (ring.leaves s w a.seen a.doing) (tx_turns.turns w actor n a.seen a.doing c)
    (leaves s w event.Out a.seen a.doing) (turns w event.Out actor n a.seen a.doing c)
row_makes s w event.NotReady actor a n c = or_else (Makes event.NotReady) (ring.finds_none w a.seen a.doing) (tx_turns.turn_finds_none w actor a.seen a.doing c)
    (finds_none w event.NotReady a.seen a.doing) (finds_nothing w event.NotReady actor a.seen a.doing c)
row_makes s w event.Owner actor a n c = owning (Makes event.Owner) w actor a.seen a.doing c (owns w a.seen a.doing c)
    (meets_worker w event.Owner a.seen a.doing) (finds_off w event.Owner a.seen a.doing c)
row_makes s w event.HostIn actor a n c = or_else (Makes event.HostIn) (ring.hosts w actor n a.seen a.doing) (tx_turns.hosts_of_turn w a.seen a.doing c)
    (hosts w event.HostIn actor n a.seen a.doing) (gives w event.HostIn a.seen a.doing c)
row_makes s w event.Poke actor a n c = pokes w event.Poke a.seen c
row_makes s w event.Peek actor a n c = pokes w event.Peek a.seen c
row_makes s w event.Drive actor a n c = drive_row s w event.Drive actor a.seen a.doing c
row_makes s w event.Fetch actor a n c = turns w event.Fetch actor n a.seen a.doing c
row_makes s w event.Copy actor a n c = turns w event.Copy actor n a.seen a.doing c
row_makes s w event.PublishUsed actor a n c = turns w event.PublishUsed actor n a.seen a.doing c
row_makes s w event.Notices actor a n c = turns w event.Notices actor n a.seen a.doing c
