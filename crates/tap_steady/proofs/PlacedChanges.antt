-- Which change of a file each command makes, as far as it has come.
use Rattle.std.proofs.Common.{◌≡◌, ◌⊎◌, ℕ, ◌+◌, List, [], ◌∷◌, Bool, true, false, true≢false, Option, Some, None, inl, inr, refl, sym}
use Rattle.std.specs.Prelude.{if◌then◌else◌, ◌==◌, ◌&&◌, ◌||◌, is_none, nat_lt, slice_get}
use Rattle.std.specs.Option.{option_map_or}
use Rattle.guest_mem.specs.Memory.{Contents}
use Rattle.tap_frame.specs.declared.name.Name.{Name}
use Rattle.tap_ledger.specs.declared.fate.Cause.{Cause}
use Rattle.tap_ledger.specs.declared.hand.Hand.TheVariants as hand
use Rattle.tap_steer.specs.declared.operation.Op.{Op}
use Rattle.vring_turns.specs.declared.stage.RxStage.{RxStage}
use Rattle.vring_turns.specs.declared.stage.RxStage.TheVariants as rx
use Rattle.vring_turns.specs.RxTurn.{RxTurn, rx_step}
use Rattle.vring_turns.specs.TxTurn.{TxTurn, tx_step}
use Rattle.scen_words.specs.declared.command.Command.{Command}
use Rattle.scen_words.specs.declared.command.Command.TheVariants as command
use Rattle.tap_ledger.specs.declared.error.TapErr.{TapErr as TapText}
use Rattle.tap_trace.specs.declared.answer.Answer.{Answer}
use Rattle.tap_trace.specs.declared.turn.ChainText.{ChainText}
use Rattle.tap_world.specs.declared.event.EventKind.{EventKind}
use Rattle.tap_world.specs.declared.event.EventKind.TheVariants as event
use Rattle.tap_world.specs.ByNumber.{at}
use Rattle.tap_world.specs.Frames.{Front}
use Rattle.vhost_dev.specs.Settings.{ring_at}
use Rattle.tap_world.specs.Setup.{Setup, op_of, frame_of}
use Rattle.tap_world.specs.Line.{File, first_that, front_place, in_batch, in_ring, last_that}
use Rattle.tap_world.specs.LineSteps.{ready_front}
use Rattle.tap_world.specs.Guests.{Vhost, is_free, is_ring, turn_of}
use Rattle.std.specs.Prelude.{not}
use Rattle.tap_steer.specs.Rules.{refuse}
use Rattle.tap_world.specs.World.{Actor, Doing, World, name_of, newest, table}
use Rattle.tap_world.specs.World.Doing.{Backed, Backs, Begun, Changes, Disowned, Given, Hosts, Learns, Opened, Opens, Owns, Placed, Purges, Reads, Receives, Released, Resizes, Routed, Shrinks, Teaches, Transmits, Unbacked, Withdrawn, Withdraws}
use Rattle.tap_world.specs.Effect.{Effect, only}
use Rattle.tap_steer.specs.declared.operation.Op.TheVariants as op
use Rattle.tap_trace.specs.declared.answer.Answer.TheVariants as answer
use Rattle.tap_world.specs.declared.event.Found.TheVariants as found
use Rattle.tap_world.specs.Effect.Onward.{Ends, Goes}
use Rattle.tap_world.specs.Step as rows
use Rattle.tap_world.specs.StepBackend as back
use Rattle.tap_world.specs.StepControl as control
use Rattle.tap_world.specs.StepRing as ring
use Rattle.tap_world.specs.StepTable as tables
use Rattle.tap_world.specs.StepTurns as rx_turns
use Rattle.tap_world.specs.StepTransmits as tx_turns
use Rattle.tap_sound.proofs.Kit.{WhereSome, either, where_if, where_only, where_then}
use Rattle.tap_sound.proofs.Steps.{held, or_else, own, owning, publication, turning, tx_made, rx_missed, rx_stepped, rx_taken, setting, unsetting}
use Rattle.tap_frame.specs.declared.reading.BadFrame.{BadFrame}
use Rattle.tap_ledger.specs.declared.error.TapErr.{TapErr}
use Rattle.tap_steer.specs.declared.selection.Select.{Select}
use Rattle.tap_steer.specs.declared.selection.Select.TheVariants as select
use Rattle.tap_steer.specs.Select as steer
use Rattle.tap_steer.specs.Table.{Table}
use Rattle.tap_world.specs.Frames.{bad_in, ether_in, least_in, sent_bytes, sent_front}
use Rattle.tap_world.specs.LineSteps.{changed}
use Rattle.tap_world.specs.Sound.{holds}
use Rattle.tap_world.specs.SoundActors.{can_be}
use Rattle.tap_world.specs.Steady.{is_taking}
use Rattle.tap_world.specs.LineSteps.Change.{Claims, Cuts, Leaves, Moves, Puts, PutsBack, Takes}
use Rattle.tap_world.specs.Effect.{OnFiles}
use Rattle.tap_world.specs.Effect.OnFiles.{OnFile}
use Rattle.vring_turns.specs.RxTurn.{rx_begun}
use Rattle.vring_turns.specs.TxTurn.{tx_begun}
use Rattle.vhost_dev.specs.Settings.{hdr_of}

-- ---- which change of a file an event makes

-- the actor of an event, its command with its number, and how far that has come
pub record Who : Type 0 where
  pub me : ℕ
  pub n : ℕ
  pub doing : Doing
  pub command : Command

abbrev pub who : ℕ → ℕ → Doing → Command → Who
who me n d c = record { me = me; n = n; doing = d; command = c }

-- it is at a receive turn of this vhost on this file
abbrev pub IsRx : Who → ℕ → ℕ → Type 0
IsRx k vhost file = (t : RxTurn) × (k.doing ≡ Receives file t) × (k.command ≡ command.RxTurn vhost)

-- its command takes frames, or holds the writer
abbrev pub Frees : Who → Type 0
Frees k = (is_taking k.command ≡ true) ⊎ (holds k.doing ≡ true)

abbrev pub IsOf : Who → OnFiles → Type 0
IsOf k (OnFile file (Claims actor name epoch len)) =
    (k.doing ≡ Routed file epoch len) × (actor ≡ k.me) × (name ≡ name_of k.me k.n)
IsOf k (OnFile file (Puts actor place)) = actor ≡ k.me
IsOf k (OnFile file (Takes vhost)) = IsRx k vhost file
IsOf k (OnFile file (PutsBack vhost)) = IsRx k vhost file
IsOf k (OnFile file (Leaves (Some vhost) fate)) = IsRx k vhost file
IsOf k (OnFile file Moves) = Frees k
IsOf k (OnFile file Cuts) = Frees k
IsOf k files = Unit {0}

-- what an effect changes of files is of its command
abbrev pub Makes : Who → Effect → Type 0
Makes k r = IsOf k r.files

abbrev pub AllMake : Who → Option Effect → Type 0
AllMake k o = WhereSome (Makes k) o

-- ---- looks

approved : (w : World) (k : Who) (actor : ℕ) (d : Doing) (x : Option TapErr) → Makes k (tables.decided w actor d x)
approved w k actor d None = tt
approved w k actor d (Some x) = tt

routed : (w : World) (k : Who) (name : Name) (x : Select) → Makes k (tables.routed w name x)
routed w k name select.NoQueue = tt
routed w k name select.Filtered = tt
routed w k name (select.Row row keep resizes capacity) = tt

unless_bad : (w : World) (k : Who) (x : Option BadFrame) (r : Effect) → Makes k r → Makes k (tables.unless_bad x w r)
unless_bad w k None r h = h
unless_bad w k (Some x) r h = tt

with_front : (w : World) (k : Who) (x : Option Front) (r : Front → Effect) → ((f : Front) → Makes k (r f)) → Makes k (tables.with_front x w r)
with_front w k None r h = tt
with_front w k (Some f) r h = h f

reading : (w : World) (k : Who) (file room : ℕ) (front : Front) → Makes k (tables.reads w file room front)
reading w k file room front = go (nat_lt room (least_in front))
  where
    go : (c : Bool) → Makes k (if c then only (Ends (newest w) (answer.Room (least_in front))) w else only (Goes (newest w) (Reads file room front) (found.Version (newest w))) w)
    go true = tt
    go false = tt

back_seen : (w : World) (k : Who) (actor vhost r : ℕ) (v : Vhost) (x : Option TapText) → Makes k (back.back_seen w actor vhost r v x)
back_seen w k actor vhost r v None = tt
back_seen w k actor vhost r v (Some x) = tt

looks_at : (w : World) (k : Who) (t : Table) (name : Name) (c : Command) → AllMake k (tables.looks_at t w name c)
looks_at w k t name (command.Send device hdr bytes) =
    unless_bad w k (bad_in (sent_front hdr) (sent_bytes hdr bytes)) (tables.routed w name (steer.select t device (ether_in (sent_front hdr) (sent_bytes hdr bytes))))
    (routed w k name (steer.select t device (ether_in (sent_front hdr) (sent_bytes hdr bytes))))
looks_at w k t name (command.Read file room) = with_front w k (steer.shape_of t file) (tables.reads w file room) (reading w k file room)
looks_at w k t name (command.Write file bytes) = with_front w k (steer.shape_of t file) (tables.writes t w file bytes)
    (λ front. unless_bad w k (bad_in front bytes)
    (only (Goes (newest w) (Hosts file (ether_in front bytes) (steer.learns t file)) (found.Version (newest w))) w) tt)
looks_at w k t name c = tt

looks : (s : Setup) (w : World) (k : Who) (actor : ℕ) (a : Actor) (n : ℕ) (c : Command) → AllMake k (tables.looks s w actor a n c)
looks s w k actor a n c = go (op_of s c)
  where
    go : (o : Option Op) → AllMake k (option_map_or (tables.looks_to_change (table s w) w actor) o (tables.looks_at (table s w) w (name_of actor n) c))
    go None = looks_at w k (table s w) (name_of actor n) c
    go (Some x) = where_only (Makes k) (is_none w.writer) (tables.decided w actor (tables.course (table s w) x) (refuse (table s w) x)) (λ e. approved w k actor _ _)

looks_at_flow : (s : Setup) (w : World) (k : Who) (d : Doing) → AllMake k (tx_turns.looks_at_flow s w d)
looks_at_flow s w k (Given file t told f) = tt
looks_at_flow s w k d = tt

look_row : (s : Setup) (w : World) (k : Who) (actor : ℕ) (a : Actor) (n : ℕ) (c : Command) → AllMake k (rows.look_row s w actor a n c)
look_row s w k actor a n (command.Backend vhost r file) =
    where_then (Makes k) (at w.vhosts vhost) _ (λ v e. where_only (Makes k) (is_none w.writer && (not (is_ring r) || is_none (turn_of r v)))
    (back.back_seen w actor vhost r v (back.back_refusal (table s w) vhost r file)) (λ e. back_seen w k actor vhost r v _))
look_row s w k actor a n (command.TxTurn vhost) = looks_at_flow s w k a.doing
look_row s w k actor a n c = looks s w k actor a n c

-- ---- publications

own_published : (w : World) (k : Who) (x : Op) (d : Doing) → AllMake k (tables.publishes_own w x d)
own_published w k x Changes = tt
own_published w k x (Opened file) = tt
own_published w k x (Withdraws file) = tt
own_published w k x (Shrinks file places cuts) = where_then (Makes k) (at w.files file) _ (λ f e1. tt)
own_published w k x d = tt

publishes : (s : Setup) (w : World) (k : Who) (actor : ℕ) (d : Doing) (c : Command) → AllMake k (tables.publishes s w actor d c)
publishes s w k actor (Learns file ether) c =
    where_only (Makes k) (is_none w.writer) (tables.learns_flow w file ether) (λ b. tt)
publishes s w k actor d c = own (Makes k) s w actor d c (λ x. own_published w k x d)

teaches : (w : World) (k : Who) (d : Doing) → AllMake k (tx_turns.teaches w d)
teaches w k (Teaches file t told f) = where_only (Makes k) (is_none w.writer)
    (record (only (Goes (newest w + 1) (Transmits file t told) (found.Version (newest w + 1))) w) { ops = op.Learn file f.flow ∷ [] })
    (λ b. tt)
teaches w k d = tt

publishes_back : (w : World) (k : Who) (d : Doing) (c : Command) → AllMake k (back.publishes_back w d c)
publishes_back w k (Backed file) (command.Backend vhost r asked) = either (Makes k) (r == 0) _ _ first second
  where
    first : Makes k (record (only (Goes (newest w + 1) (Owns file (newest w + 1)) (found.Version (newest w + 1))) w) { ops = op.Back file (back.side_of r) (Some vhost) ∷ [] })
    first = tt

    second : Makes k (record (back.back_over w (newest w + 1) vhost r (newest w + 1)) { ops = op.Back file (back.side_of r) (Some vhost) ∷ [] })
    second = tt
publishes_back w k (Disowned file) (command.Backend vhost r asked) = tt
publishes_back w k (Released file) (command.Backend vhost r asked) = tt
publishes_back w k d c = tt

publish_row : (s : Setup) (w : World) (k : Who) (actor : ℕ) (d : Doing) (c : Command) → AllMake k (rows.publish_row s w actor d c)
publish_row s w k actor d c = publication (Makes k) s w actor d c (publishes_back w k d c) (teaches w k d) (publishes s w k actor d c)

-- ---- frames

claims : (w : World) (actor n seen : ℕ) (d : Doing) (c : Command) → AllMake (who actor n d c) (ring.claims w actor n seen d)
claims w actor n seen (Routed file epoch len) c =
    where_then (Makes (who actor n (Routed file epoch len) c)) (at w.files file) _ (λ f e1. (refl, refl, refl))
claims w actor n seen d c = tt

puts : (w : World) (actor n seen : ℕ) (d : Doing) (c : Command) → AllMake (who actor n d c) (ring.puts w actor seen d)
puts w actor n seen (Placed file place epoch len) c = refl
puts w actor n seen d c = tt

drops : (why : ℕ → File → Option Cause) (w : World) (k : Who) (actor n seen : ℕ) (d : Doing) → AllMake k (ring.drops_for why w actor n seen d)
drops why w k actor n seen (Routed file epoch len) =
    where_then (Makes k) (at w.files file) _ (λ f e1. where_then (Makes k) (why epoch f) _ (λ x e2. tt))
drops why w k actor n seen d = tt

shuts : (w : World) (k : Who) (seen : ℕ) (d : Doing) → AllMake k (ring.shuts w seen d)
shuts w k seen (Withdrawn file version) =
    where_then (Makes k) (at w.files file) _ (λ f e1. tt)
shuts w k seen d = tt

reopens : (w : World) (k : Who) (seen : ℕ) (d : Doing) → AllMake k (ring.reopens w seen d)
reopens w k seen (Opens file) = where_then (Makes k) (at w.files file) _ (λ f e1. tt)
reopens w k seen d = tt

resizes : (w : World) (k : Who) (seen : ℕ) (d : Doing) → AllMake k (ring.resizes w seen d)
resizes w k seen (Resizes file capacity) = where_then (Makes k) (at w.files file) _ (λ f e1. tt)
resizes w k seen d = tt

cuts : (w : World) (actor n seen : ℕ) (d : Doing) (c : Command) → AllMake (who actor n d c) (ring.cuts w seen d)
cuts w actor n seen (Shrinks file places m) c = where_then (Makes (who actor n (Shrinks file places m) c)) (at w.files file) _
    (λ f e1. where_then (Makes (who actor n (Shrinks file places m) c)) (ring.name_at f.line (last_that in_ring f.line)) _ (λ x e2. inr refl))
cuts w actor n seen d c = tt

moves_in : (w : World) (k : Who) (file : ℕ) → Frees k → AllMake k (ring.moves_in w file)
moves_in w k file frees = where_then (Makes k) (at w.files file) _
    (λ f e1. where_then (Makes k) (ring.name_at f.line (ready_front f.line)) _ (λ x e2. frees))

read_takes : (file room : ℕ) (front : Front) (c : Command) → can_be (Reads file room front) c ≡ true → is_taking c ≡ true
read_takes file room front (command.Read other asked) can = refl
read_takes file room front c can = absurd (true≢false (sym can))

moves : (w : World) (actor n : ℕ) (d : Doing) (c : Command) → can_be d c ≡ true → AllMake (who actor n d c) (ring.moves w d)
moves w actor n (Reads file room front) c can = moves_in w (who actor n (Reads file room front) c) file (inl (read_takes file room front c can))
moves w actor n (Purges file version) c can = moves_in w (who actor n (Purges file version) c) file (inr refl)
moves w actor n d c can = tt

leaves : (s : Setup) (w : World) (k : Who) (seen : ℕ) (d : Doing) → AllMake k (ring.leaves s w seen d)
leaves s w k seen (Reads file room front) = where_then (Makes k) (at w.files file) _ (λ f e1. where_then (Makes k) (first_that in_batch f.line) _
    (λ i e2. where_then (Makes k) (slice_get f.line i) _ (λ x e3. where_then (Makes k) (frame_of s x.name x.len) _ (λ y e4. tt))))
leaves s w k seen (Purges file version) = where_then (Makes k) (at w.files file) _
    (λ f e1. where_then (Makes k) (ring.name_at f.line (first_that in_batch f.line)) _ (λ x e2. tt))
leaves s w k seen d = tt

finds_none : (w : World) (k : Who) (seen : ℕ) (d : Doing) → AllMake k (ring.finds_none w seen d)
finds_none w k seen (Reads file room front) = where_then (Makes k) (at w.files file) _
    (λ f e1. where_only (Makes k) _ (only (Ends seen (answer.Again (front_place f))) w) (λ x. tt))
finds_none w k seen d = tt

meets_worker : (w : World) (k : Who) (seen : ℕ) (d : Doing) → AllMake k (ring.meets_worker w seen d)
meets_worker w k seen (Reads file room front) = where_then (Makes k) (at w.files file) _
    (λ f e1. where_only (Makes k) _ (only (Ends seen answer.Busy) w) (λ x. tt))
meets_worker w k seen d = tt

hosts : (w : World) (k : Who) (actor n seen : ℕ) (d : Doing) → AllMake k (ring.hosts w actor n seen d)
hosts w k actor n seen (Hosts file ether true) = tt
hosts w k actor n seen (Hosts file ether false) = tt
hosts w k actor n seen d = tt

-- ---- guests

pokes : (w : World) (k : Who) (seen : ℕ) (c : Command) → AllMake k (control.pokes w seen c)
pokes w k seen (command.Poke guest addr bytes) = where_then (Makes k) (at w.guests guest) _ (λ g e1. tt)
pokes w k seen (command.Peek guest addr len) = where_then (Makes k) (at w.guests guest) _ (λ g e1. tt)
pokes w k seen c = tt

calls : (w : World) (k : Who) (actor seen : ℕ) (c : Command) → AllMake k (control.calls w actor seen c)
calls w k actor seen c =
    where_then (Makes k) (control.driven_vhost c) _ (λ vhost e1. where_then (Makes k) (at w.vhosts vhost) _ (λ v e2. where_then (Makes k) (at w.guests v.guest) _
    (λ g e3. where_then (Makes k) (control.call_of c v g.memory) _ (λ x e4. where_only (Makes k) _ (control.call_effect w seen vhost v.guest x) (λ y. tt)))))

sets_back : (w : World) (k : Who) (actor seen vhost r file : ℕ) (x : Option TapText) (v : Vhost) (m : Contents) (a : Option Answer)
    → Makes k (back.sets_back w actor seen vhost r file x v m a)
sets_back w k actor seen vhost r file x v m (Some a) = tt
sets_back w k actor seen vhost r file x v m None = tt

unsets_back : (w : World) (k : Who) (actor seen vhost r : ℕ) (v : Vhost) (m : Contents) (a : Option Answer) (file : Option ℕ)
    → Makes k (back.unsets_back w actor seen vhost r v m a file)
unsets_back w k actor seen vhost r v m (Some a) file = tt
unsets_back w k actor seen vhost r v m None None = tt
unsets_back w k actor seen vhost r v m None (Some file) = tt

backs : (s : Setup) (w : World) (k : Who) (actor seen : ℕ) (d : Doing) (c : Command) → AllMake k (back.backs s w actor seen d c)
backs s w k actor seen (Backs x) (command.Backend vhost r None) = where_then (Makes k) (at w.vhosts vhost) _ (λ v e1. where_then (Makes k) (at w.guests v.guest) _
    (λ g e2. unsetting (Makes k) s w actor seen x vhost r v g.memory (λ told e3. unsets_back w k actor seen vhost r v g.memory told (ring_at r v.settings).file)))
backs s w k actor seen (Backs x) (command.Backend vhost r (Some file)) = where_then (Makes k) (at w.vhosts vhost) _ (λ v e1. where_then (Makes k) (at w.guests v.guest) _
    (λ g e2. setting (Makes k) s w actor seen x vhost r file v g.memory (λ told e3. sets_back w k actor seen vhost r file x v g.memory told)))
backs s w k actor seen d c = tt

drive_row : (s : Setup) (w : World) (k : Who) (actor seen : ℕ) (d : Doing) (c : Command) → AllMake k (rows.drive_row s w actor seen d c)
drive_row s w k actor seen Begun c = calls w k actor seen c
drive_row s w k actor seen d c = backs s w k actor seen d c

owns : (w : World) (k : Who) (seen : ℕ) (d : Doing) (c : Command) → AllMake k (back.owns w seen d c)
owns w k seen (Owns file version) (command.Backend vhost r asked) = tt
owns w k seen (Unbacked file) (command.Backend vhost r asked) = tt
owns w k seen d c = tt

finds_off : (w : World) (k : Who) (seen : ℕ) (d : Doing) (c : Command) → AllMake k (rx_turns.finds_off w seen d c)
finds_off w k seen Begun c =
    where_then (Makes k) (rx_turns.turn_on c) _ (λ t e1. where_then (Makes k) (at w.vhosts t.0) _ (λ v e2. where_then (Makes k) (at w.guests v.guest) _
    (λ g e3. where_then (Makes k) (rx_turns.is_off t.0 t.1 v) _ (λ told e4. where_only (Makes k) _ (rx_turns.off_told w seen v g.memory told) (λ x. tt)))))
finds_off w k seen d c = tt

-- ---- turns

-- a receive turn on this file is at this stage, and is one of this command, or begins
abbrev RxHere : Who → ℕ → ℕ → RxTurn → RxStage → Type 0
RxHere k vhost file t st = ((k.doing ≡ Receives file t) × (k.command ≡ command.RxTurn vhost)) ⊎ (st ≡ rx.Begin)

rx_change : (k : Who) (vhost file : ℕ) (t : RxTurn) (st : RxStage) → RxHere k vhost file t st → IsOf k (rx_turns.rx_change vhost file t st)
rx_change k vhost file t rx.Out (inl h) = (t, h.0, h.1)
rx_change k vhost file t (rx.Discard had) (inl h) = (t, h.0, h.1)
rx_change k vhost file t (rx.PutBack e) (inl h) = (t, h.0, h.1)
rx_change k vhost file t rx.Out (inr h) = absurd (cc (h))
rx_change k vhost file t (rx.Discard had) (inr h) = absurd (cc (h))
rx_change k vhost file t (rx.PutBack e) (inr h) = absurd (cc (h))
rx_change k vhost file t st h = tt

rx_steps_on : (w : World) (k : Who) (actor seen vhost file : ℕ) (t : RxTurn) (v : Vhost) (m : Contents) → RxHere k vhost file t t.stage
    → AllMake k (rx_turns.rx_steps_on w actor seen vhost file t v m)
rx_steps_on w k actor seen vhost file t v m here = where_then (Makes k) (rx_step hand.Off (rx_turns.rx_state t v m)) _
    (λ made e. rx_stepped (Makes k) w actor seen vhost file t v made (λ f over e2 told. rx_change k vhost file t t.stage here))

tx_steps_on : (w : World) (k : Who) (actor seen vhost file : ℕ) (t : TxTurn) (told : List ChainText) (v : Vhost) (m : Contents)
    → AllMake k (tx_turns.tx_steps_on w actor seen vhost file t told v m)
tx_steps_on w k actor seen vhost file t told v m = where_then (Makes k) (tx_step (tx_turns.tx_state t v m)) _
    (λ made x. tx_made (Makes k) w actor seen vhost file told v made (λ step over e2 end_. tt))

begins : (w : World) (k : Who) (actor n seen : ℕ) (c : Command) → AllMake k (tx_turns.turn_begins w actor n seen c)
begins w k actor n seen c = where_then (Makes k) (rx_turns.turn_on c) _ (λ t e1. where_then (Makes k) (at w.vhosts t.0) _ (λ v e2. where_then (Makes k) (at w.guests v.guest) _
    (λ g e3. either (AllMake k) (t.1 == 0) (rx_turns.rx_begins w actor seen t.0 v g.memory) (tx_turns.tx_begins w actor n seen t.0 v g.memory)
    (where_then (Makes k) v.settings.rx.file _ (λ file e4. where_if (Makes k) (is_free 0 v && is_none v.settings.rx.queue.stopped)
    (rx_turns.rx_steps_on w actor seen t.0 file (rx_begun v.settings.mrg (hdr_of v.settings)) v g.memory) (λ x. rx_steps_on w k actor seen t.0 file (rx_begun v.settings.mrg (hdr_of v.settings)) v g.memory (inr refl))))
    (where_then (Makes k) v.settings.tx.file _ (λ file e4. where_if (Makes k) (is_free 1 v && is_none v.settings.tx.queue.stopped)
    (tx_turns.tx_steps_on w actor seen t.0 file (tx_begun (hdr_of v.settings) (name_of actor n)) [] v g.memory) (λ x. tx_steps_on w k actor seen t.0 file (tx_begun (hdr_of v.settings) (name_of actor n)) [] v g.memory))))))

going : (w : World) (actor n seen : ℕ) (d : Doing) (c : Command) → can_be d c ≡ true
    → AllMake (who actor n d c) (tx_turns.on_turn w c (tx_turns.goes_on w actor seen d))
going w actor n seen (Receives file t) (command.RxTurn vhost) can =
    let k = who actor n (Receives file t) (command.RxTurn vhost) in
    where_then (Makes k) (at w.vhosts vhost) _ (λ v e2. where_then (Makes k) (at w.guests v.guest) _
    (λ g e3. rx_steps_on w k actor seen vhost file t v g.memory (inl (refl, refl))))
going w actor n seen (Receives file t) c can = absurd (true≢false (sym can))
going w actor n seen (Transmits file t told) c can = let k = who actor n (Transmits file t told) c in
    turning (Makes k) w c (tx_turns.goes_on w actor seen (Transmits file t told)) (λ vhost v m. tx_steps_on w k actor seen vhost file t told v m)
going w actor n seen d c can = turning (Makes (who actor n d c)) w c (tx_turns.goes_on w actor seen d) (λ vhost v m. tt)

turns : (w : World) (actor n seen : ℕ) (d : Doing) (c : Command) → can_be d c ≡ true
    → AllMake (who actor n d c) (tx_turns.turns w actor n seen d c)
turns w actor n seen Begun c can = begins w (who actor n Begun c) actor n seen c
turns w actor n seen d c can = going w actor n seen d c can

hands : (s : Setup) (w : World) (actor n seen : ℕ) (d : Doing) (c : Command) → can_be d c ≡ true
    → AllMake (who actor n d c) (tx_turns.hands s w actor seen d c)
hands s w actor n seen (Receives file t) (command.RxTurn vhost) can =
    let P = Makes (who actor n (Receives file t) (command.RxTurn vhost)) in
    where_then P (at w.vhosts vhost) _ (λ v a. where_then P (at w.guests v.guest) _ (λ g b. where_then P (at w.files file) _
    (λ f e1. where_then P (changed (Takes vhost) f) _ (λ h e2. where_then P (rx_turns.front_frame s h) _
    (λ frame e3. where_then P (rx_step (hand.Got frame) (rx_turns.rx_state t v g.memory)) _
    (λ made e. rx_taken P w actor seen vhost file v frame made (λ over told. (t, refl, refl))))))))
hands s w actor n seen (Receives file t) c can = absurd (true≢false (sym can))
hands s w actor n seen d c can = tt

finds_nothing : (w : World) (k : Who) (actor seen : ℕ) (d : Doing) (c : Command) → AllMake k (tx_turns.turn_finds_none w actor seen d c)
finds_nothing w k actor seen (Receives file t) c = turning (Makes k) w c _ (λ vhost v m. where_then (Makes k) (at w.files file) _
    (λ f e1. where_then (Makes k) (rx_step (hand.NotReady (front_place f)) (rx_turns.rx_state t v m)) _
    (λ made e. rx_missed (Makes k) w actor seen vhost file v f made (λ over told. tt))))
finds_nothing w k actor seen d c = tt

gives : (w : World) (k : Who) (seen : ℕ) (d : Doing) (c : Command) → AllMake k (tx_turns.hosts_of_turn w seen d c)
gives w k seen (Transmits file t told) c = turning (Makes k) w c _ (λ vhost v m. where_then (Makes k) t.held _
    (λ f e1. where_then (Makes k) (tx_step (tx_turns.tx_state t v m)) _ (λ made e2. tt)))
gives w k seen d c = tt

-- ---- all rows

pub row_makes : (s : Setup) (w : World) (k : EventKind) (actor : ℕ) (a : Actor) (n : ℕ) (c : Command) → can_be a.doing c ≡ true
    → AllMake (who actor n a.doing c) (rows.row s w k actor a n c)
row_makes s w event.Look actor a n c can = look_row s w (who actor n a.doing c) actor a n c
row_makes s w event.Publish actor a n c can = publish_row s w (who actor n a.doing c) actor a.doing c
row_makes s w event.Claim actor a n c can = claims w actor n a.seen a.doing c
row_makes s w event.Ready actor a n c can = puts w actor n a.seen a.doing c
row_makes s w event.Full actor a n c can = drops ring.full_now w (who actor n a.doing c) actor n a.seen a.doing
row_makes s w event.Gone actor a n c can = drops ring.gone_now w (who actor n a.doing c) actor n a.seen a.doing
row_makes s w event.Spent actor a n c can = drops ring.spent_now w (who actor n a.doing c) actor n a.seen a.doing
row_makes s w event.Shut actor a n c can = held (Makes (who actor n a.doing c)) w actor (ring.shuts w a.seen a.doing) (shuts w (who actor n a.doing c) a.seen a.doing)
row_makes s w event.Reopen actor a n c can = held (Makes (who actor n a.doing c)) w actor (ring.reopens w a.seen a.doing) (reopens w (who actor n a.doing c) a.seen a.doing)
row_makes s w event.Resize actor a n c can = held (Makes (who actor n a.doing c)) w actor (ring.resizes w a.seen a.doing) (resizes w (who actor n a.doing c) a.seen a.doing)
row_makes s w event.Cut actor a n c can = held (Makes (who actor n a.doing c)) w actor (ring.cuts w a.seen a.doing) (cuts w actor n a.seen a.doing c)
row_makes s w event.Move actor a n c can = moves w actor n a.doing c can
row_makes s w event.Hand actor a n c can = hands s w actor n a.seen a.doing c can
row_makes s w event.PutBack actor a n c can = turns w actor n a.seen a.doing c can
row_makes s w event.Out actor a n c can = or_else (Makes (who actor n a.doing c)) (ring.leaves s w a.seen a.doing) (tx_turns.turns w actor n a.seen a.doing c)
    (leaves s w (who actor n a.doing c) a.seen a.doing) (turns w actor n a.seen a.doing c can)
row_makes s w event.NotReady actor a n c can = or_else (Makes (who actor n a.doing c)) (ring.finds_none w a.seen a.doing) (tx_turns.turn_finds_none w actor a.seen a.doing c)
    (finds_none w (who actor n a.doing c) a.seen a.doing) (finds_nothing w (who actor n a.doing c) actor a.seen a.doing c)
row_makes s w event.Owner actor a n c can = owning (Makes (who actor n a.doing c)) w actor a.seen a.doing c (owns w (who actor n a.doing c) a.seen a.doing c)
    (meets_worker w (who actor n a.doing c) a.seen a.doing) (finds_off w (who actor n a.doing c) a.seen a.doing c)
row_makes s w event.HostIn actor a n c can = or_else (Makes (who actor n a.doing c)) (ring.hosts w actor n a.seen a.doing) (tx_turns.hosts_of_turn w a.seen a.doing c)
    (hosts w (who actor n a.doing c) actor n a.seen a.doing) (gives w (who actor n a.doing c) a.seen a.doing c)
row_makes s w event.Poke actor a n c can = pokes w (who actor n a.doing c) a.seen c
row_makes s w event.Peek actor a n c can = pokes w (who actor n a.doing c) a.seen c
row_makes s w event.Drive actor a n c can = drive_row s w (who actor n a.doing c) actor a.seen a.doing c
row_makes s w event.Fetch actor a n c can = turns w actor n a.seen a.doing c can
row_makes s w event.Copy actor a n c can = turns w actor n a.seen a.doing c can
row_makes s w event.PublishUsed actor a n c can = turns w actor n a.seen a.doing c can
row_makes s w event.Notices actor a n c can = turns w actor n a.seen a.doing c can
