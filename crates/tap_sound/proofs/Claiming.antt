-- Who claims a place: a send that has a row, and it goes on with that place.
use Rattle.std.proofs.Common.{◌≡◌, ℕ, ◌+◌, List, [], ◌∷◌, Bool, true, false, Option, Some, None, refl}
use Rattle.std.specs.Prelude.{if◌then◌else◌, ◌==◌, ◌&&◌, ◌||◌, is_none, nat_lt, slice_get}
use Rattle.std.specs.Option.{option_map_or}
use Rattle.guest_mem.specs.Memory.{Contents}
use Rattle.tap_frame.specs.declared.name.Name.{Name}
use Rattle.tap_ledger.specs.declared.fate.Cause.{Cause}
use Rattle.tap_ledger.specs.declared.hand.Hand.TheVariants as hand
use Rattle.tap_steer.specs.declared.operation.Op.{Op}
use Rattle.vring_turns.specs.declared.stage.RxStage.{RxStage}
use Rattle.vring_turns.specs.declared.stage.RxStage.TheVariants as rx
use Rattle.vring_turns.specs.RxTurn.{RxTurn, rx_step}
use Rattle.vring_turns.specs.TxTurn.{TxTurn, tx_step}
use Rattle.scen_words.specs.declared.command.Command.{Command}
use Rattle.scen_words.specs.declared.command.Command.TheVariants as command
use Rattle.tap_ledger.specs.declared.error.TapErr.{TapErr as TapText}
use Rattle.tap_trace.specs.declared.answer.Answer.{Answer}
use Rattle.tap_trace.specs.declared.turn.ChainText.{ChainText}
use Rattle.tap_world.specs.declared.event.EventKind.{EventKind}
use Rattle.tap_world.specs.declared.event.EventKind.TheVariants as event
use Rattle.tap_world.specs.declared.event.Found.{Found}
use Rattle.tap_world.specs.ByNumber.{at}
use Rattle.tap_world.specs.Frames.{Front}
use Rattle.vhost_dev.specs.Settings.{ring_at}
use Rattle.tap_world.specs.Setup.{Setup, op_of, frame_of}
use Rattle.tap_world.specs.Line.{File, claimed, first_that, front_place, in_batch, in_ring, last_that}
use Rattle.tap_world.specs.LineSteps.{ready_front}
use Rattle.tap_world.specs.Guests.{Vhost, is_free, is_ring, turn_of}
use Rattle.std.specs.Prelude.{not}
use Rattle.tap_steer.specs.Rules.{refuse}
use Rattle.tap_world.specs.World.{Actor, Doing, World, name_of, newest, table}
use Rattle.tap_world.specs.World.Doing.{Backed, Backs, Begun, Changes, Disowned, Given, Hosts, Learns, Opened, Opens, Owns, Placed, Purges, Reads, Receives, Released, Resizes, Routed, Shrinks, Teaches, Transmits, Unbacked, Withdrawn, Withdraws}
use Rattle.tap_world.specs.Effect.{Effect, Onward, only}
use Rattle.tap_steer.specs.declared.operation.Op.TheVariants as op
use Rattle.tap_trace.specs.declared.answer.Answer.TheVariants as answer
use Rattle.tap_world.specs.declared.event.Found.TheVariants as found
use Rattle.tap_world.specs.Effect.Onward.{Ends, Goes}
use Rattle.tap_world.specs.Step as rows
use Rattle.tap_world.specs.StepBackend as back
use Rattle.tap_world.specs.StepControl as control
use Rattle.tap_world.specs.StepRing as ring
use Rattle.tap_world.specs.StepTable as tables
use Rattle.tap_world.specs.StepTurns as rx_turns
use Rattle.tap_world.specs.StepTransmits as tx_turns
use Rattle.tap_sound.proofs.Kit.{WhereSome, either, where_if, where_only, where_then}
use Rattle.tap_sound.proofs.Steps.{held, or_else, own, owning, publication, turning, tx_made, rx_missed, rx_stepped, rx_taken, setting, unsetting}
use Rattle.tap_frame.specs.declared.reading.BadFrame.{BadFrame}
use Rattle.tap_ledger.specs.declared.error.TapErr.{TapErr}
use Rattle.tap_steer.specs.declared.selection.Select.{Select}
use Rattle.tap_steer.specs.declared.selection.Select.TheVariants as select
use Rattle.tap_steer.specs.Select as steer
use Rattle.tap_steer.specs.Table.{Table}
use Rattle.tap_world.specs.Frames.{bad_in, ether_in, least_in, sent_bytes, sent_front}
use Rattle.tap_world.specs.LineSteps.{changed}
use Rattle.tap_world.specs.LineSteps.Change.{Claims, Shuts, Takes}
use Rattle.tap_world.specs.Effect.{OnFiles}
use Rattle.tap_world.specs.Effect.OnFiles.{OnFile}
use Rattle.vring_turns.specs.RxTurn.{rx_begun}
use Rattle.vring_turns.specs.TxTurn.{tx_begun}
use Rattle.vhost_dev.specs.Settings.{hdr_of}

-- ---- what a row claims

abbrev pub ClaimsBy : World → ℕ → OnFiles → Onward → Type 0
ClaimsBy w me (OnFile file (Claims actor name epoch len)) o =
    (actor ≡ me) × (f : File) × (seen : ℕ) × (x : Found) × (at w.files file ≡ Some f) × (o ≡ Goes seen (Placed file (claimed f) epoch len) x)
ClaimsBy w me (OnFile file Shuts) o = (seen version : ℕ) × (x : Found) × (o ≡ Goes seen (Purges file version) x)
ClaimsBy w me files o = Unit {0}

abbrev pub Claiming : World → ℕ → Effect → Type 0
Claiming w me r = ClaimsBy w me r.files r.onward

abbrev pub AllClaim : World → ℕ → Option Effect → Type 0
AllClaim w me o = WhereSome (Claiming w me) o

-- ---- looks

approved : (w : World) (me : ℕ) (actor : ℕ) (d : Doing) (x : Option TapErr) → Claiming w me (tables.decided w actor d x)
approved w me actor d None = tt
approved w me actor d (Some x) = tt

routed : (w : World) (me : ℕ) (name : Name) (x : Select) → Claiming w me (tables.routed w name x)
routed w me name select.NoQueue = tt
routed w me name select.Filtered = tt
routed w me name (select.Row row keep resizes capacity) = tt

unless_bad : (w : World) (me : ℕ) (x : Option BadFrame) (r : Effect) → Claiming w me r → Claiming w me (tables.unless_bad x w r)
unless_bad w me None r h = h
unless_bad w me (Some x) r h = tt

with_front : (w : World) (me : ℕ) (x : Option Front) (r : Front → Effect) → ((f : Front) → Claiming w me (r f)) → Claiming w me (tables.with_front x w r)
with_front w me None r h = tt
with_front w me (Some f) r h = h f

reading : (w : World) (me : ℕ) (file room : ℕ) (front : Front) → Claiming w me (tables.reads w file room front)
reading w me file room front = go (nat_lt room (least_in front))
  where
    go : (c : Bool) → Claiming w me (if c then only (Ends (newest w) (answer.Room (least_in front))) w else only (Goes (newest w) (Reads file room front) (found.Version (newest w))) w)
    go true = tt
    go false = tt

back_seen : (w : World) (me : ℕ) (actor vhost r : ℕ) (v : Vhost) (x : Option TapText) → Claiming w me (back.back_seen w actor vhost r v x)
back_seen w me actor vhost r v None = tt
back_seen w me actor vhost r v (Some x) = tt

looks_at : (w : World) (me : ℕ) (t : Table) (name : Name) (c : Command) → AllClaim w me (tables.looks_at t w name c)
looks_at w me t name (command.Send device hdr bytes) =
    unless_bad w me (bad_in (sent_front hdr) (sent_bytes hdr bytes)) (tables.routed w name (steer.select t device (ether_in (sent_front hdr) (sent_bytes hdr bytes))))
    (routed w me name (steer.select t device (ether_in (sent_front hdr) (sent_bytes hdr bytes))))
looks_at w me t name (command.Read file room) = with_front w me (steer.shape_of t file) (tables.reads w file room) (reading w me file room)
looks_at w me t name (command.Write file bytes) = with_front w me (steer.shape_of t file) (tables.writes t w file bytes)
    (λ front. unless_bad w me (bad_in front bytes)
    (only (Goes (newest w) (Hosts file (ether_in front bytes) (steer.learns t file)) (found.Version (newest w))) w) tt)
looks_at w me t name c = tt

looks : (s : Setup) (w : World) (me : ℕ) (actor : ℕ) (a : Actor) (n : ℕ) (c : Command) → AllClaim w me (tables.looks s w actor a n c)
looks s w me actor a n c = go (op_of s c)
  where
    go : (o : Option Op) → AllClaim w me (option_map_or (tables.looks_to_change (table s w) w actor) o (tables.looks_at (table s w) w (name_of actor n) c))
    go None = looks_at w me (table s w) (name_of actor n) c
    go (Some x) = where_only (Claiming w me) (is_none w.writer) (tables.decided w actor (tables.course (table s w) x) (refuse (table s w) x)) (λ e. approved w me actor _ _)

looks_at_flow : (s : Setup) (w : World) (me : ℕ) (d : Doing) → AllClaim w me (tx_turns.looks_at_flow s w d)
looks_at_flow s w me (Given file t told f) = tt
looks_at_flow s w me d = tt

look_row : (s : Setup) (w : World) (me : ℕ) (actor : ℕ) (a : Actor) (n : ℕ) (c : Command) → AllClaim w me (rows.look_row s w actor a n c)
look_row s w me actor a n (command.Backend vhost r file) =
    where_then (Claiming w me) (at w.vhosts vhost) _ (λ v e. where_only (Claiming w me) (is_none w.writer && (not (is_ring r) || is_none (turn_of r v)))
    (back.back_seen w actor vhost r v (back.back_refusal (table s w) vhost r file)) (λ e. back_seen w me actor vhost r v _))
look_row s w me actor a n (command.TxTurn vhost) = looks_at_flow s w me a.doing
look_row s w me actor a n c = looks s w me actor a n c

-- ---- publications

own_published : (w : World) (me : ℕ) (x : Op) (d : Doing) → AllClaim w me (tables.publishes_own w x d)
own_published w me x Changes = tt
own_published w me x (Opened file) = tt
own_published w me x (Withdraws file) = tt
own_published w me x (Shrinks file places cuts) = where_then (Claiming w me) (at w.files file) _ (λ f e1. tt)
own_published w me x d = tt

publishes : (s : Setup) (w : World) (me : ℕ) (actor : ℕ) (d : Doing) (c : Command) → AllClaim w me (tables.publishes s w actor d c)
publishes s w me actor (Learns file ether) c =
    where_only (Claiming w me) (is_none w.writer) (tables.learns_flow w file ether) (λ b. tt)
publishes s w me actor d c = own (Claiming w me) s w actor d c (λ x. own_published w me x d)

teaches : (w : World) (me : ℕ) (d : Doing) → AllClaim w me (tx_turns.teaches w d)
teaches w me (Teaches file t told f) = where_only (Claiming w me) (is_none w.writer)
    (record (only (Goes (newest w + 1) (Transmits file t told) (found.Version (newest w + 1))) w) { ops = op.Learn file f.flow ∷ [] })
    (λ b. tt)
teaches w me d = tt

publishes_back : (w : World) (me : ℕ) (d : Doing) (c : Command) → AllClaim w me (back.publishes_back w d c)
publishes_back w me (Backed file) (command.Backend vhost r asked) = either (Claiming w me) (r == 0) _ _ first second
  where
    first : Claiming w me (record (only (Goes (newest w + 1) (Owns file (newest w + 1)) (found.Version (newest w + 1))) w) { ops = op.Back file (back.side_of r) (Some vhost) ∷ [] })
    first = tt

    second : Claiming w me (record (back.back_over w (newest w + 1) vhost r (newest w + 1)) { ops = op.Back file (back.side_of r) (Some vhost) ∷ [] })
    second = tt
publishes_back w me (Disowned file) (command.Backend vhost r asked) = tt
publishes_back w me (Released file) (command.Backend vhost r asked) = tt
publishes_back w me d c = tt

publish_row : (s : Setup) (w : World) (me : ℕ) (actor : ℕ) (d : Doing) (c : Command) → AllClaim w me (rows.publish_row s w actor d c)
publish_row s w me actor d c = publication (Claiming w me) s w actor d c (publishes_back w me d c) (teaches w me d) (publishes s w me actor d c)

-- ---- frames

claims : (w : World) (actor n seen : ℕ) (d : Doing) → AllClaim w actor (ring.claims w actor n seen d)
claims w actor n seen (Routed file epoch len) = where_then (Claiming w actor) (at w.files file) _ (λ f e1. (refl, f, seen, found.Place file (claimed f) epoch, e1, refl))
claims w actor n seen d = tt

puts : (w : World) (me : ℕ) (actor seen : ℕ) (d : Doing) → AllClaim w me (ring.puts w actor seen d)
puts w me actor seen (Placed file place epoch len) = tt
puts w me actor seen d = tt

drops : (why : ℕ → File → Option Cause) (w : World) (me : ℕ) (actor n seen : ℕ) (d : Doing) → AllClaim w me (ring.drops_for why w actor n seen d)
drops why w me actor n seen (Routed file epoch len) =
    where_then (Claiming w me) (at w.files file) _ (λ f e1. where_then (Claiming w me) (why epoch f) _ (λ x e2. tt))
drops why w me actor n seen d = tt

shuts : (w : World) (me : ℕ) (seen : ℕ) (d : Doing) → AllClaim w me (ring.shuts w seen d)
shuts w me seen (Withdrawn file version) =
    where_then (Claiming w me) (at w.files file) _ (λ f e1. (seen, version, found.Claimed (claimed f), refl))
shuts w me seen d = tt

reopens : (w : World) (me : ℕ) (seen : ℕ) (d : Doing) → AllClaim w me (ring.reopens w seen d)
reopens w me seen (Opens file) = where_then (Claiming w me) (at w.files file) _ (λ f e1. tt)
reopens w me seen d = tt

resizes : (w : World) (me : ℕ) (seen : ℕ) (d : Doing) → AllClaim w me (ring.resizes w seen d)
resizes w me seen (Resizes file capacity) = where_then (Claiming w me) (at w.files file) _ (λ f e1. tt)
resizes w me seen d = tt

cuts : (w : World) (me : ℕ) (seen : ℕ) (d : Doing) → AllClaim w me (ring.cuts w seen d)
cuts w me seen (Shrinks file places n) = where_then (Claiming w me) (at w.files file) _
    (λ f e1. where_then (Claiming w me) (ring.name_at f.line (last_that in_ring f.line)) _ (λ x e2. tt))
cuts w me seen d = tt

moves_in : (w : World) (me : ℕ) (file : ℕ) → AllClaim w me (ring.moves_in w file)
moves_in w me file = where_then (Claiming w me) (at w.files file) _
    (λ f e1. where_then (Claiming w me) (ring.name_at f.line (ready_front f.line)) _ (λ x e2. tt))

moves : (w : World) (me : ℕ) (d : Doing) → AllClaim w me (ring.moves w d)
moves w me (Reads file room front) = moves_in w me file
moves w me (Purges file version) = moves_in w me file
moves w me d = tt

leaves : (s : Setup) (w : World) (me : ℕ) (seen : ℕ) (d : Doing) → AllClaim w me (ring.leaves s w seen d)
leaves s w me seen (Reads file room front) = where_then (Claiming w me) (at w.files file) _ (λ f e1. where_then (Claiming w me) (first_that in_batch f.line) _
    (λ i e2. where_then (Claiming w me) (slice_get f.line i) _ (λ x e3. where_then (Claiming w me) (frame_of s x.name x.len) _ (λ y e4. tt))))
leaves s w me seen (Purges file version) = where_then (Claiming w me) (at w.files file) _
    (λ f e1. where_then (Claiming w me) (ring.name_at f.line (first_that in_batch f.line)) _ (λ x e2. tt))
leaves s w me seen d = tt

finds_none : (w : World) (me : ℕ) (seen : ℕ) (d : Doing) → AllClaim w me (ring.finds_none w seen d)
finds_none w me seen (Reads file room front) = where_then (Claiming w me) (at w.files file) _
    (λ f e1. where_only (Claiming w me) _ (only (Ends seen (answer.Again (front_place f))) w) (λ x. tt))
finds_none w me seen d = tt

meets_worker : (w : World) (me : ℕ) (seen : ℕ) (d : Doing) → AllClaim w me (ring.meets_worker w seen d)
meets_worker w me seen (Reads file room front) = where_then (Claiming w me) (at w.files file) _
    (λ f e1. where_only (Claiming w me) _ (only (Ends seen answer.Busy) w) (λ x. tt))
meets_worker w me seen d = tt

hosts : (w : World) (me : ℕ) (actor n seen : ℕ) (d : Doing) → AllClaim w me (ring.hosts w actor n seen d)
hosts w me actor n seen (Hosts file ether true) = tt
hosts w me actor n seen (Hosts file ether false) = tt
hosts w me actor n seen d = tt

-- ---- guests

pokes : (w : World) (me : ℕ) (seen : ℕ) (c : Command) → AllClaim w me (control.pokes w seen c)
pokes w me seen (command.Poke guest addr bytes) = where_then (Claiming w me) (at w.guests guest) _ (λ g e1. tt)
pokes w me seen (command.Peek guest addr len) = where_then (Claiming w me) (at w.guests guest) _ (λ g e1. tt)
pokes w me seen c = tt

calls : (w : World) (me : ℕ) (actor seen : ℕ) (c : Command) → AllClaim w me (control.calls w actor seen c)
calls w me actor seen c =
    where_then (Claiming w me) (control.driven_vhost c) _ (λ vhost e1. where_then (Claiming w me) (at w.vhosts vhost) _ (λ v e2. where_then (Claiming w me) (at w.guests v.guest) _
    (λ g e3. where_then (Claiming w me) (control.call_of c v g.memory) _ (λ x e4. where_only (Claiming w me) _ (control.call_effect w seen vhost v.guest x) (λ y. tt)))))

sets_back : (w : World) (me : ℕ) (actor seen vhost r file : ℕ) (x : Option TapText) (v : Vhost) (m : Contents) (a : Option Answer)
    → Claiming w me (back.sets_back w actor seen vhost r file x v m a)
sets_back w me actor seen vhost r file x v m (Some a) = tt
sets_back w me actor seen vhost r file x v m None = tt

unsets_back : (w : World) (me : ℕ) (actor seen vhost r : ℕ) (v : Vhost) (m : Contents) (a : Option Answer) (file : Option ℕ)
    → Claiming w me (back.unsets_back w actor seen vhost r v m a file)
unsets_back w me actor seen vhost r v m (Some a) file = tt
unsets_back w me actor seen vhost r v m None None = tt
unsets_back w me actor seen vhost r v m None (Some file) = tt

backs : (s : Setup) (w : World) (me : ℕ) (actor seen : ℕ) (d : Doing) (c : Command) → AllClaim w me (back.backs s w actor seen d c)
backs s w me actor seen (Backs x) (command.Backend vhost r None) = where_then (Claiming w me) (at w.vhosts vhost) _ (λ v e1. where_then (Claiming w me) (at w.guests v.guest) _
    (λ g e2. unsetting (Claiming w me) s w actor seen x vhost r v g.memory (λ told e3. unsets_back w me actor seen vhost r v g.memory told (ring_at r v.settings).file)))
backs s w me actor seen (Backs x) (command.Backend vhost r (Some file)) = where_then (Claiming w me) (at w.vhosts vhost) _ (λ v e1. where_then (Claiming w me) (at w.guests v.guest) _
    (λ g e2. setting (Claiming w me) s w actor seen x vhost r file v g.memory (λ told e3. sets_back w me actor seen vhost r file x v g.memory told)))
backs s w me actor seen d c = tt

drive_row : (s : Setup) (w : World) (me : ℕ) (actor seen : ℕ) (d : Doing) (c : Command) → AllClaim w me (rows.drive_row s w actor seen d c)
drive_row s w me actor seen Begun c = calls w me actor seen c
drive_row s w me actor seen d c = backs s w me actor seen d c

owns : (w : World) (me : ℕ) (seen : ℕ) (d : Doing) (c : Command) → AllClaim w me (back.owns w seen d c)
owns w me seen (Owns file version) (command.Backend vhost r asked) = tt
owns w me seen (Unbacked file) (command.Backend vhost r asked) = tt
owns w me seen d c = tt

finds_off : (w : World) (me : ℕ) (seen : ℕ) (d : Doing) (c : Command) → AllClaim w me (rx_turns.finds_off w seen d c)
finds_off w me seen Begun c =
    where_then (Claiming w me) (rx_turns.turn_on c) _ (λ t e1. where_then (Claiming w me) (at w.vhosts t.0) _ (λ v e2. where_then (Claiming w me) (at w.guests v.guest) _
    (λ g e3. where_then (Claiming w me) (rx_turns.is_off t.0 t.1 v) _ (λ told e4. where_only (Claiming w me) _ (rx_turns.off_told w seen v g.memory told) (λ x. tt)))))
finds_off w me seen d c = tt

-- ---- turns

rx_change : (w : World) (me vhost file : ℕ) (t : RxTurn) (st : RxStage) (o : Onward) → ClaimsBy w me (rx_turns.rx_change vhost file t st) o
rx_change w me vhost file t rx.Out o = tt
rx_change w me vhost file t (rx.Discard had) o = tt
rx_change w me vhost file t (rx.PutBack e) o = tt
rx_change w me vhost file t st o = tt

rx_steps_on : (w : World) (me actor seen vhost file : ℕ) (t : RxTurn) (v : Vhost) (m : Contents) → AllClaim w me (rx_turns.rx_steps_on w actor seen vhost file t v m)
rx_steps_on w me actor seen vhost file t v m = where_then (Claiming w me) (rx_step hand.Off (rx_turns.rx_state t v m)) _
    (λ made e. rx_stepped (Claiming w me) w actor seen vhost file t v made (λ f over e2 told. rx_change w me vhost file t t.stage _))

tx_steps_on : (w : World) (me actor seen vhost file : ℕ) (t : TxTurn) (told : List ChainText) (v : Vhost) (m : Contents)
    → AllClaim w me (tx_turns.tx_steps_on w actor seen vhost file t told v m)
tx_steps_on w me actor seen vhost file t told v m = where_then (Claiming w me) (tx_step (tx_turns.tx_state t v m)) _
    (λ made x. tx_made (Claiming w me) w actor seen vhost file told v made (λ step over e2 end_. tt))

begins : (w : World) (me actor n seen : ℕ) (c : Command) → AllClaim w me (tx_turns.turn_begins w actor n seen c)
begins w me actor n seen c = where_then (Claiming w me) (rx_turns.turn_on c) _ (λ t e1. where_then (Claiming w me) (at w.vhosts t.0) _ (λ v e2. where_then (Claiming w me) (at w.guests v.guest) _
    (λ g e3. either (AllClaim w me) (t.1 == 0) (rx_turns.rx_begins w actor seen t.0 v g.memory) (tx_turns.tx_begins w actor n seen t.0 v g.memory)
    (where_then (Claiming w me) v.settings.rx.file _ (λ file e4. where_if (Claiming w me) (is_free 0 v && is_none v.settings.rx.queue.stopped)
    (rx_turns.rx_steps_on w actor seen t.0 file (rx_begun v.settings.mrg (hdr_of v.settings)) v g.memory) (λ x. rx_steps_on w me actor seen t.0 file (rx_begun v.settings.mrg (hdr_of v.settings)) v g.memory)))
    (where_then (Claiming w me) v.settings.tx.file _ (λ file e4. where_if (Claiming w me) (is_free 1 v && is_none v.settings.tx.queue.stopped)
    (tx_turns.tx_steps_on w actor seen t.0 file (tx_begun (hdr_of v.settings) (name_of actor n)) [] v g.memory) (λ x. tx_steps_on w me actor seen t.0 file (tx_begun (hdr_of v.settings) (name_of actor n)) [] v g.memory))))))

goes_on : (w : World) (me actor seen : ℕ) (d : Doing) (vhost : ℕ) (v : Vhost) (m : Contents) → AllClaim w me (tx_turns.goes_on w actor seen d vhost v m)
goes_on w me actor seen (Receives file t) vhost v m = rx_steps_on w me actor seen vhost file t v m
goes_on w me actor seen (Transmits file t told) vhost v m = tx_steps_on w me actor seen vhost file t told v m
goes_on w me actor seen d vhost v m = tt

turns : (w : World) (me actor n seen : ℕ) (d : Doing) (c : Command) → AllClaim w me (tx_turns.turns w actor n seen d c)
turns w me actor n seen Begun c = begins w me actor n seen c
turns w me actor n seen d c = turning (Claiming w me) w c (tx_turns.goes_on w actor seen d) (λ vhost v m. goes_on w me actor seen d vhost v m)

hands : (s : Setup) (w : World) (me actor seen : ℕ) (d : Doing) (c : Command) → AllClaim w me (tx_turns.hands s w actor seen d c)
hands s w me actor seen (Receives file t) c = turning (Claiming w me) w c _ (λ vhost v m. where_then (Claiming w me) (at w.files file) _
    (λ f e1. where_then (Claiming w me) (changed (Takes vhost) f) _ (λ g e2. where_then (Claiming w me) (rx_turns.front_frame s g) _
    (λ frame e3. where_then (Claiming w me) (rx_step (hand.Got frame) (rx_turns.rx_state t v m)) _
    (λ made e. rx_taken (Claiming w me) w actor seen vhost file v frame made (λ over told. tt))))))
hands s w me actor seen d c = tt

finds_nothing : (w : World) (me actor seen : ℕ) (d : Doing) (c : Command) → AllClaim w me (tx_turns.turn_finds_none w actor seen d c)
finds_nothing w me actor seen (Receives file t) c = turning (Claiming w me) w c _ (λ vhost v m. where_then (Claiming w me) (at w.files file) _
    (λ f e1. where_then (Claiming w me) (rx_step (hand.NotReady (front_place f)) (rx_turns.rx_state t v m)) _
    (λ made e. rx_missed (Claiming w me) w actor seen vhost file v f made (λ over told. tt))))
finds_nothing w me actor seen d c = tt

gives : (w : World) (me seen : ℕ) (d : Doing) (c : Command) → AllClaim w me (tx_turns.hosts_of_turn w seen d c)
gives w me seen (Transmits file t told) c = turning (Claiming w me) w c _ (λ vhost v m. where_then (Claiming w me) t.held _
    (λ f e1. where_then (Claiming w me) (tx_step (tx_turns.tx_state t v m)) _ (λ made e2. tt)))
gives w me seen d c = tt

-- ---- all rows

pub row_claims : (s : Setup) (w : World) (k : EventKind) (actor : ℕ) (a : Actor) (n : ℕ) (c : Command)
    → AllClaim w actor (rows.row s w k actor a n c)
row_claims s w event.Look actor a n c = look_row s w actor actor a n c
row_claims s w event.Publish actor a n c = publish_row s w actor actor a.doing c
row_claims s w event.Claim actor a n c = claims w actor n a.seen a.doing
row_claims s w event.Ready actor a n c = puts w actor actor a.seen a.doing
row_claims s w event.Full actor a n c = drops ring.full_now w actor actor n a.seen a.doing
row_claims s w event.Gone actor a n c = drops ring.gone_now w actor actor n a.seen a.doing
row_claims s w event.Spent actor a n c = drops ring.spent_now w actor actor n a.seen a.doing
row_claims s w event.Shut actor a n c = held (Claiming w actor) w actor (ring.shuts w a.seen a.doing) (shuts w actor a.seen a.doing)
row_claims s w event.Reopen actor a n c = held (Claiming w actor) w actor (ring.reopens w a.seen a.doing) (reopens w actor a.seen a.doing)
row_claims s w event.Resize actor a n c = held (Claiming w actor) w actor (ring.resizes w a.seen a.doing) (resizes w actor a.seen a.doing)
row_claims s w event.Cut actor a n c = held (Claiming w actor) w actor (ring.cuts w a.seen a.doing) (cuts w actor a.seen a.doing)
row_claims s w event.Move actor a n c = moves w actor a.doing
row_claims s w event.Hand actor a n c = hands s w actor actor a.seen a.doing c
row_claims s w event.PutBack actor a n c = turns w actor actor n a.seen a.doing c
row_claims s w event.Out actor a n c = or_else (Claiming w actor) (ring.leaves s w a.seen a.doing) (tx_turns.turns w actor n a.seen a.doing c)
    (leaves s w actor a.seen a.doing) (turns w actor actor n a.seen a.doing c)
row_claims s w event.NotReady actor a n c = or_else (Claiming w actor) (ring.finds_none w a.seen a.doing) (tx_turns.turn_finds_none w actor a.seen a.doing c)
    (finds_none w actor a.seen a.doing) (finds_nothing w actor actor a.seen a.doing c)
row_claims s w event.Owner actor a n c = owning (Claiming w actor) w actor a.seen a.doing c (owns w actor a.seen a.doing c)
    (meets_worker w actor a.seen a.doing) (finds_off w actor a.seen a.doing c)
row_claims s w event.HostIn actor a n c = or_else (Claiming w actor) (ring.hosts w actor n a.seen a.doing) (tx_turns.hosts_of_turn w a.seen a.doing c)
    (hosts w actor actor n a.seen a.doing) (gives w actor a.seen a.doing c)
row_claims s w event.Poke actor a n c = pokes w actor a.seen c
row_claims s w event.Peek actor a n c = pokes w actor a.seen c
row_claims s w event.Drive actor a n c = drive_row s w actor actor a.seen a.doing c
row_claims s w event.Fetch actor a n c = turns w actor actor n a.seen a.doing c
row_claims s w event.Copy actor a n c = turns w actor actor n a.seen a.doing c
row_claims s w event.PublishUsed actor a n c = turns w actor actor n a.seen a.doing c
row_claims s w event.Notices actor a n c = turns w actor actor n a.seen a.doing c
