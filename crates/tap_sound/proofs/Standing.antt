-- Every row of the table of events leads a command to where it can come.
use Rattle.std.proofs.Common.{◌≡◌, ◌<◌, ℕ, suc, ◌+◌, List, [], ◌∷◌, Bool, true, false, Option, Some, None, ⊎_elim, refl, sym, ap, ◌∙◌, arith}
use Rattle.std.specs.Prelude.{if◌then◌else◌, ◌==◌, ◌&&◌, ◌||◌, is_none, nat_le, nat_lt, slice_get}
use Rattle.guest_mem.specs.Memory.{Contents}
use Rattle.tap_frame.specs.declared.name.Name.{Name}
use Rattle.tap_ledger.specs.declared.fate.Cause.{Cause}
use Rattle.tap_ledger.specs.declared.hand.Hand.TheVariants as hand
use Rattle.tap_steer.specs.declared.operation.Op.{Op}
use Rattle.tap_steer.specs.Select.{learns}
use Rattle.vhost_dev.specs.declared.error.VhostErr.{VhostErr}
use Rattle.vring_turns.specs.RxTurn.{RxTurn, rx_step}
use Rattle.vring_turns.specs.TxTurn.{TxTurn, tx_step}
use Rattle.scen_words.specs.declared.command.Command.{Command}
use Rattle.scen_words.specs.declared.command.Command.TheVariants as command
use Rattle.tap_ledger.specs.declared.error.TapErr.{TapErr as TapText}
use Rattle.tap_trace.specs.declared.answer.Answer.{Answer}
use Rattle.tap_trace.specs.declared.turn.ChainText.{ChainText}
use Rattle.tap_world.specs.declared.event.EventKind.{EventKind}
use Rattle.tap_world.specs.declared.event.EventKind.TheVariants as event
use Rattle.tap_world.specs.declared.event.Found.{Found}
use Rattle.tap_world.specs.ByNumber.{at}
use Rattle.tap_world.specs.Frames.{Front}
use Rattle.vhost_dev.specs.Settings.{ring_at}
use Rattle.std.proofs.Common.{true≢false}
use Rattle.tap_frame.specs.declared.header.Hdr.{Hdr}
use Rattle.tap_world.specs.Setup.{Setup, place_of, frame_of}
use Rattle.tap_world.specs.Line.{File, first_that, front_place, in_batch, in_ring, last_that}
use Rattle.tap_world.specs.LineSteps.{ready_front}
use Rattle.tap_world.specs.Guests.{Vhost, is_free, is_ring, turn_of}
use Rattle.std.specs.Prelude.{not}
use Rattle.tap_steer.specs.Rules.{refuse}
use Rattle.tap_world.specs.World.{Actor, Doing, World, name_of, newest, table}
use Rattle.tap_world.specs.World.Doing.{Backed, Backs, Begun, Changes, Disowned, Given, Hosts, Learns, Opened, Opens, Owns, Placed, Purges, Reads, Receives, Released, Resizes, Routed, Shrinks, Teaches, Transmits, Unbacked, Withdrawn, Withdraws}
use Rattle.tap_world.specs.Effect.{Effect, Onward, only}
use Rattle.tap_steer.specs.declared.operation.Op.TheVariants as op
use Rattle.tap_trace.specs.declared.answer.Answer.TheVariants as answer
use Rattle.tap_world.specs.declared.event.Found.TheVariants as found
use Rattle.tap_world.specs.Effect.Onward.{Ends, Goes, Stays}
use Rattle.tap_world.specs.Step as rows
use Rattle.tap_world.specs.StepBackend as back
use Rattle.tap_world.specs.StepControl as control
use Rattle.tap_world.specs.StepRing as ring
use Rattle.tap_world.specs.StepTable as tables
use Rattle.tap_world.specs.StepTurns as rx_turns
use Rattle.tap_world.specs.StepTransmits as tx_turns
use Rattle.tap_sound.proofs.Kit.{WhereSome, where_if, where_only, where_then}
use Rattle.tap_sound.proofs.Steps.{held, or_else, own, owning, publication, turning, not_refused, tx_made, rx_missed, rx_stepped, rx_taken, setting, unsetting}
use Rattle.tap_frame.specs.declared.reading.BadFrame.{BadFrame}
use Rattle.tap_ledger.specs.declared.error.TapErr.{TapErr}
use Rattle.tap_steer.specs.declared.selection.Select.{Select}
use Rattle.tap_steer.specs.declared.selection.Select.TheVariants as select
use Rattle.tap_steer.specs.Select as steer
use Rattle.tap_steer.specs.Table.{Table}
use Rattle.tap_world.specs.Frames.{bad_in, ether_in, least_in, sent_bytes, sent_front}
use Rattle.tap_world.specs.LineSteps.{changed}
use Rattle.tap_world.specs.LineSteps.Change.{Takes}
use Rattle.vring_turns.specs.RxTurn.{rx_begun}
use Rattle.vring_turns.specs.TxTurn.{tx_begun}
use Rattle.vhost_dev.specs.Settings.{hdr_of}
use Rattle.std.proofs.lemmas.Bool.Decides.{eqb_tells, leb_tells}
use Rattle.tap_steer.specs.declared.operation.TheConstants.{IFF_ATTACH_QUEUE}
use Rattle.tap_steer.specs.Table.{file_at, is_set}
use Rattle.tap_world.specs.SoundActors.{can_be, is_rx_turn, is_tx_turn, resizes, resizes_to, sets}
use Rattle.tap_sound.proofs.Taken.{both}
use Rattle.tap_trace.specs.declared.turn.TurnText.{TurnText}

-- ---- what a row leads to

abbrev pub Leads : Command → Onward → Type 0
Leads c (Goes seen d f) = can_be d c ≡ true
Leads c (Ends seen x) = Unit {0}
Leads c (Stays f) = Unit {0}

abbrev pub To : Command → Effect → Type 0
To c r = Leads c r.onward

abbrev pub AllLead : Command → Option Effect → Type 0
AllLead c o = WhereSome (To c) o

itself : (n : ℕ) → (n == n) ≡ true
itself n = ⊎_elim (λ t. t.0) (λ t. absurd (t.1 refl)) (eqb_tells n n)

and_both : (a b : Bool) → a ≡ true → b ≡ true → (a && b) ≡ true
and_both true b e h = h
and_both false b e h = absurd (true≢false (sym e))

-- ---- looks

approved : (w : World) (actor : ℕ) (d : Doing) (c : Command) (x : Option TapErr) → can_be d c ≡ true → To c (tables.decided w actor d x)
approved w actor d c None h = h
approved w actor d c (Some x) h = tt

to_change : (t : Table) (w : World) (actor : ℕ) (x : Op) (c : Command) → can_be (tables.course t x) c ≡ true → AllLead c (tables.looks_to_change t w actor x)
to_change t w actor x c h = where_only (To c) (is_none w.writer) (tables.decided w actor (tables.course t x) (refuse t x)) (λ e. approved w actor (tables.course t x) c (refuse t x) h)

routed : (w : World) (name : Name) (device : ℕ) (hdr : Option Hdr) (bytes : List ℕ) (x : Select) → To (command.Send device hdr bytes) (tables.routed w name x)
routed w name device hdr bytes select.NoQueue = tt
routed w name device hdr bytes select.Filtered = tt
routed w name device hdr bytes (select.Row row keep resizes_ capacity) = refl

unless_bad : (w : World) (c : Command) (x : Option BadFrame) (r : Effect) → To c r → To c (tables.unless_bad x w r)
unless_bad w c None r h = h
unless_bad w c (Some x) r h = tt

with_front : (w : World) (c : Command) (x : Option Front) (r : Front → Effect) → ((f : Front) → To c (r f)) → To c (tables.with_front x w r)
with_front w c None r h = tt
with_front w c (Some f) r h = h f

reading : (w : World) (file room : ℕ) (front : Front) → To (command.Read file room) (tables.reads w file room front)
reading w file room front = go (nat_lt room (least_in front))
  where
    go : (b : Bool) → To (command.Read file room) (if b then only (Ends (newest w) (answer.Room (least_in front))) w else only (Goes (newest w) (Reads file room front) (found.Version (newest w))) w)
    go true = tt
    go false = itself file

back_seen : (w : World) (actor vhost r : ℕ) (v : Vhost) (file : ℕ) (x : Option TapText) → To (command.Backend vhost r (Some file)) (back.back_seen w actor vhost r v x)
back_seen w actor vhost r v file None = refl
back_seen w actor vhost r v file (Some x) = refl

set_queue : (t : Table) (file flags : ℕ) → can_be (tables.course t (op.SetQueue file flags)) (command.SetQueue file flags) ≡ true
set_queue t file flags = go (is_set flags IFF_ATTACH_QUEUE) refl
  where
    go : (b : Bool) → is_set flags IFF_ATTACH_QUEUE ≡ b → can_be (if b then Opens file else Withdraws file) (command.SetQueue file flags) ≡ true
    go true is = and_both (file == file) (is_set flags IFF_ATTACH_QUEUE) (itself file) is
    go false is = and_both (file == file) (not (is_set flags IFF_ATTACH_QUEUE)) (itself file) (ap not is)

closing : (t : Table) (file : ℕ) → can_be (tables.course t (op.Shut file)) (command.Close file) ≡ true
closing t file = go (tables.is_enabled (file_at t file).attachment)
  where
    go : (b : Bool) → can_be (if b then Withdraws file else Changes) (command.Close file) ≡ true
    go true = itself file
    go false = refl

flow : (s : Setup) (w : World) (vhost : ℕ) (d : Doing) → AllLead (command.TxTurn vhost) (tx_turns.looks_at_flow s w d)
flow s w vhost (Given file t told f) = go (learns (table s w) file)
  where
    go : (b : Bool) → can_be (if b then Teaches file t told f else Transmits file t told) (command.TxTurn vhost) ≡ true
    go true = refl
    go false = refl
flow s w vhost d = tt

look_row : (s : Setup) (w : World) (actor : ℕ) (a : Actor) (n : ℕ) (c : Command) → AllLead c (rows.look_row s w actor a n c)
look_row s w actor a n (command.SetIff file name flags) = to_change (table s w) w actor (op.SetIff file name flags) (command.SetIff file name flags) (itself file)
look_row s w actor a n (command.SetQueue file flags) = to_change (table s w) w actor (op.SetQueue file flags) (command.SetQueue file flags) (set_queue (table s w) file flags)
look_row s w actor a n (command.Close file) = to_change (table s w) w actor (op.Shut file) (command.Close file) (closing (table s w) file)
look_row s w actor a n (command.Resize file capacity) =
    to_change (table s w) w actor (op.Resize file capacity) (command.Resize file capacity) (and_both (file == file) (capacity == capacity) (itself file) (itself capacity))
look_row s w actor a n (command.Persist file on) = to_change (table s w) w actor (op.Persist file on) (command.Persist file on) refl
look_row s w actor a n (command.HdrSize file size) = to_change (table s w) w actor (op.HdrSize file size) (command.HdrSize file size) refl
look_row s w actor a n (command.Steer file program) = to_change (table s w) w actor (op.Steering file (place_of s program)) (command.Steer file program) refl
look_row s w actor a n (command.Filter file program) = to_change (table s w) w actor (op.Filter file (place_of s program)) (command.Filter file program) refl
look_row s w actor a n (command.Tick time) = to_change (table s w) w actor (op.Tick time) (command.Tick time) refl
look_row s w actor a n (command.Send device hdr bytes) =
    unless_bad w (command.Send device hdr bytes) (bad_in (sent_front hdr) (sent_bytes hdr bytes))
    (tables.routed w (name_of actor n) (steer.select (table s w) device (ether_in (sent_front hdr) (sent_bytes hdr bytes))))
    (routed w (name_of actor n) device hdr bytes (steer.select (table s w) device (ether_in (sent_front hdr) (sent_bytes hdr bytes))))
look_row s w actor a n (command.Read file room) = with_front w (command.Read file room) (steer.shape_of (table s w) file) (tables.reads w file room) (reading w file room)
look_row s w actor a n (command.Write file bytes) = with_front w (command.Write file bytes) (steer.shape_of (table s w) file) (tables.writes (table s w) w file bytes)
    (λ front. unless_bad w (command.Write file bytes) (bad_in front bytes)
    (only (Goes (newest w) (Hosts file (ether_in front bytes) (steer.learns (table s w) file)) (found.Version (newest w))) w) (itself file))
look_row s w actor a n (command.Backend vhost r None) =
    where_then (To (command.Backend vhost r None)) (at w.vhosts vhost) _ (λ v e. where_only (To (command.Backend vhost r None)) (is_none w.writer && (not (is_ring r) || is_none (turn_of r v)))
    (back.back_seen w actor vhost r v (back.back_refusal (table s w) vhost r None)) (λ e. refl))
look_row s w actor a n (command.Backend vhost r (Some file)) =
    where_then (To (command.Backend vhost r (Some file))) (at w.vhosts vhost) _ (λ v e. where_only (To (command.Backend vhost r (Some file))) (is_none w.writer && (not (is_ring r) || is_none (turn_of r v)))
    (back.back_seen w actor vhost r v (back.back_refusal (table s w) vhost r (Some file))) (λ e. back_seen w actor vhost r v file _))
look_row s w actor a n (command.TxTurn vhost) = flow s w vhost a.doing
look_row s w actor a n c = tt

-- ---- publications

own_published : (w : World) (x : Op) (d : Doing) (c : Command) → can_be d c ≡ true → AllLead c (tables.publishes_own w x d)
own_published w x Changes c h = tt
own_published w x (Opened file) c h = tt
own_published w x (Withdraws file) c h = h
own_published w x (Shrinks file places cuts) c h = where_then (To c) (at w.files file) _ (λ f e1. tt)
own_published w x d c h = tt

publishes : (s : Setup) (w : World) (actor : ℕ) (d : Doing) (c : Command) → can_be d c ≡ true → AllLead c (tables.publishes s w actor d c)
publishes s w actor (Learns file ether) c h = where_only (To c) (is_none w.writer) (tables.learns_flow w file ether) (λ b. tt)
publishes s w actor d c h = own (To c) s w actor d c (λ x. own_published w x d c h)

teaches : (w : World) (d : Doing) (c : Command) → can_be d c ≡ true → AllLead c (tx_turns.teaches w d)
teaches w (Teaches file t told f) c h = where_only (To c) (is_none w.writer)
    (record (only (Goes (newest w + 1) (Transmits file t told) (found.Version (newest w + 1))) w) { ops = op.Learn file f.flow ∷ [] }) (λ b. h)
teaches w d c h = tt

publishes_back : (w : World) (d : Doing) (c : Command) → can_be d c ≡ true → AllLead c (back.publishes_back w d c)
publishes_back w (Backed file) (command.Backend vhost r asked) h = go (r == 0) refl _ _ (λ is. and_both (sets file (command.Backend vhost r asked)) (r == 0) h is) tt
  where
    go : (b : Bool) → (r == 0) ≡ b → (x y : Effect) → ((r == 0) ≡ true → To (command.Backend vhost r asked) x) → To (command.Backend vhost r asked) y
        → To (command.Backend vhost r asked) (if b then x else y)
    go true is x y f g = f is
    go false is x y f g = g
publishes_back w (Disowned file) (command.Backend vhost r asked) h = tt
publishes_back w (Released file) (command.Backend vhost r asked) h = tt
publishes_back w d c h = tt

-- ---- frames

hosts : (w : World) (actor n seen : ℕ) (d : Doing) (c : Command) → can_be d c ≡ true → AllLead c (ring.hosts w actor n seen d)
hosts w actor n seen (Hosts file ether true) c h = h
hosts w actor n seen (Hosts file ether false) c h = tt
hosts w actor n seen d c h = tt

claims : (w : World) (actor n seen : ℕ) (d : Doing) (c : Command) → can_be d c ≡ true → AllLead c (ring.claims w actor n seen d)
claims w actor n seen (Routed file epoch len) c h = where_then (To c) (at w.files file) _ (λ f e1. h)
claims w actor n seen d c h = tt

puts : (w : World) (actor seen : ℕ) (d : Doing) (c : Command) → AllLead c (ring.puts w actor seen d)
puts w actor seen (Placed file place epoch len) c = tt
puts w actor seen d c = tt

drops : (why : ℕ → File → Option Cause) (w : World) (actor n seen : ℕ) (d : Doing) (c : Command) → AllLead c (ring.drops_for why w actor n seen d)
drops why w actor n seen (Routed file epoch len) c = where_then (To c) (at w.files file) _ (λ f e1. where_then (To c) (why epoch f) _ (λ x e2. tt))
drops why w actor n seen d c = tt

shuts : (w : World) (seen : ℕ) (d : Doing) (c : Command) → can_be d c ≡ true → AllLead c (ring.shuts w seen d)
shuts w seen (Withdrawn file version) c h = where_then (To c) (at w.files file) _ (λ f e1. h)
shuts w seen d c h = tt

reopens : (w : World) (seen : ℕ) (d : Doing) (c : Command) → can_be d c ≡ true → AllLead c (ring.reopens w seen d)
reopens w seen (Opens file) c h = where_then (To c) (at w.files file) _ (λ f e1. h)
reopens w seen d c h = tt

resized_so : (file asked : ℕ) (c : Command) → resizes_to file asked c ≡ true → resizes file c ≡ true
resized_so file asked (command.Resize other capacity) h = (both (other == file) (capacity == asked) h).0
resized_so file asked c h = absurd (true≢false (sym h))

resizing : (w : World) (seen : ℕ) (d : Doing) (c : Command) → can_be d c ≡ true → AllLead c (ring.resizes w seen d)
resizing w seen (Resizes file capacity) c h = where_then (To c) (at w.files file) _ (λ f e1. resized_so file capacity c h)
resizing w seen d c h = tt

cuts : (w : World) (seen : ℕ) (d : Doing) (c : Command) → can_be d c ≡ true → AllLead c (ring.cuts w seen d)
cuts w seen (Shrinks file places n) c h = where_then (To c) (at w.files file) _ (λ f e1. where_then (To c) (ring.name_at f.line (last_that in_ring f.line)) _ (λ x e2. h))
cuts w seen d c h = tt

moves_in : (w : World) (file : ℕ) (c : Command) → AllLead c (ring.moves_in w file)
moves_in w file c = where_then (To c) (at w.files file) _ (λ f e1. where_then (To c) (ring.name_at f.line (ready_front f.line)) _ (λ x e2. tt))

moves : (w : World) (d : Doing) (c : Command) → AllLead c (ring.moves w d)
moves w (Reads file room front) c = moves_in w file c
moves w (Purges file version) c = moves_in w file c
moves w d c = tt

leaves : (s : Setup) (w : World) (seen : ℕ) (d : Doing) (c : Command) → AllLead c (ring.leaves s w seen d)
leaves s w seen (Reads file room front) c = where_then (To c) (at w.files file) _ (λ f e1. where_then (To c) (first_that in_batch f.line) _
    (λ i e2. where_then (To c) (slice_get f.line i) _ (λ x e3. where_then (To c) (frame_of s x.name x.len) _ (λ y e4. tt))))
leaves s w seen (Purges file version) c = where_then (To c) (at w.files file) _ (λ f e1. where_then (To c) (ring.name_at f.line (first_that in_batch f.line)) _ (λ x e2. tt))
leaves s w seen d c = tt

finds_none : (w : World) (seen : ℕ) (d : Doing) (c : Command) → AllLead c (ring.finds_none w seen d)
finds_none w seen (Reads file room front) c = where_then (To c) (at w.files file) _ (λ f e1. where_only (To c) _ (only (Ends seen (answer.Again (front_place f))) w) (λ x. tt))
finds_none w seen d c = tt

meets_worker : (w : World) (seen : ℕ) (d : Doing) (c : Command) → AllLead c (ring.meets_worker w seen d)
meets_worker w seen (Reads file room front) c = where_then (To c) (at w.files file) _ (λ f e1. where_only (To c) _ (only (Ends seen answer.Busy) w) (λ x. tt))
meets_worker w seen d c = tt

-- ---- guests

pokes : (w : World) (seen : ℕ) (c : Command) → AllLead c (control.pokes w seen c)
pokes w seen (command.Poke guest addr bytes) = where_then (To (command.Poke guest addr bytes)) (at w.guests guest) _ (λ g e1. tt)
pokes w seen (command.Peek guest addr len) = where_then (To (command.Peek guest addr len)) (at w.guests guest) _ (λ g e1. tt)
pokes w seen c = tt

calls : (w : World) (actor seen : ℕ) (c : Command) → AllLead c (control.calls w actor seen c)
calls w actor seen c =
    where_then (To c) (control.driven_vhost c) _ (λ vhost e1. where_then (To c) (at w.vhosts vhost) _ (λ v e2. where_then (To c) (at w.guests v.guest) _
    (λ g e3. where_then (To c) (control.call_of c v g.memory) _ (λ x e4. where_only (To c) _ (control.call_effect w seen vhost v.guest x) (λ y. tt)))))

pub ring_there : (ring : ℕ) → nat_le 2 ring ≡ false → is_ring ring ≡ true
ring_there ring e = ⊎_elim (λ t. absurd (true≢false (sym t.0 ∙ e))) (λ t. ⊎_elim (λ h. h.0) (λ h. absurd (over t.1 h.1)) (leb_tells (suc ring) 2)) (leb_tells 2 ring)
  where
    over : ring < 2 → 2 < suc ring → ⊥
    over a b = omega (arith, a, b)

pub first_passed : (b : Bool) (e : VhostErr) (rest : Option VhostErr) → (if b then Some e else rest) ≡ None → b ≡ false
first_passed true e rest h = absurd (cc (h))
first_passed false e rest h = refl

sets_back : (w : World) (actor seen vhost r file : ℕ) (x : Option TapText) (v : Vhost) (m : Contents) (a : Option Answer) → (a ≡ None → is_ring r ≡ true)
    → To (command.Backend vhost r (Some file)) (back.sets_back w actor seen vhost r file x v m a)
sets_back w actor seen vhost r file x v m (Some a) h = tt
sets_back w actor seen vhost r file x v m None h = and_both (file == file) (is_ring r) (itself file) (h refl)

unsets_back : (w : World) (actor seen vhost r : ℕ) (v : Vhost) (m : Contents) (a : Option Answer) (file : Option ℕ) → (a ≡ None → is_ring r ≡ true)
    → To (command.Backend vhost r None) (back.unsets_back w actor seen vhost r v m a file)
unsets_back w actor seen vhost r v m (Some a) file h = tt
unsets_back w actor seen vhost r v m None None h = tt
unsets_back w actor seen vhost r v m None (Some file) h = go (r == 0) refl
  where
    go : (b : Bool) → (r == 0) ≡ b → can_be (if b then Unbacked file else Released file) (command.Backend vhost r None) ≡ true
    go true is = and_both (is_ring r) (r == 0) (h refl) is
    go false is = and_both (is_ring r) (not (r == 0)) (h refl) (ap not is)

pub answered : (o : Option VhostErr) (x : Option TapText) (u : Option VhostErr) → back.back_answer o x u ≡ Some None → (o ≡ None) × (x ≡ None)
answered None None u e = (refl, refl)
answered None (Some x) u e = absurd (cc (e))
answered (Some e) x u h = absurd (some_refused e (not_refused (Some e) h))
  where
    some_refused : (e : VhostErr) → Some e ≡ None → ⊥
    some_refused e q = cc (q)

backs : (s : Setup) (w : World) (actor seen : ℕ) (d : Doing) (c : Command) → AllLead c (back.backs s w actor seen d c)
backs s w actor seen (Backs x) (command.Backend vhost r None) = where_then (To (command.Backend vhost r None)) (at w.vhosts vhost) _ (λ v e1. where_then (To (command.Backend vhost r None)) (at w.guests v.guest) _
    (λ g e2. unsetting (To (command.Backend vhost r None)) s w actor seen x vhost r v g.memory
    (λ told e3. unsets_back w actor seen vhost r v g.memory told (ring_at r v.settings).file (λ h. ring_there r (first_passed _ _ _ (not_refused _ (e3 ∙ ap (λ (o : Option Answer). Some o) h)))))))
backs s w actor seen (Backs x) (command.Backend vhost r (Some file)) = where_then (To (command.Backend vhost r (Some file))) (at w.vhosts vhost) _
    (λ v e1. where_then (To (command.Backend vhost r (Some file))) (at w.guests v.guest) _
    (λ g e2. setting (To (command.Backend vhost r (Some file))) s w actor seen x vhost r file v g.memory
    (λ told e3. sets_back w actor seen vhost r file x v g.memory told (λ h. ring_there r (first_passed _ _ _ (answered _ _ _ (e3 ∙ ap (λ (o : Option Answer). Some o) h)).0)))))
backs s w actor seen d c = tt

drive_row : (s : Setup) (w : World) (actor seen : ℕ) (d : Doing) (c : Command) → AllLead c (rows.drive_row s w actor seen d c)
drive_row s w actor seen Begun c = calls w actor seen c
drive_row s w actor seen d c = backs s w actor seen d c

owns : (w : World) (seen : ℕ) (d : Doing) (c : Command) → can_be d c ≡ true → AllLead c (back.owns w seen d c)
owns w seen (Owns file version) (command.Backend vhost r asked) h = tt
owns w seen (Unbacked file) (command.Backend vhost r asked) h = h
owns w seen d c h = tt

finds_off : (w : World) (seen : ℕ) (d : Doing) (c : Command) → AllLead c (rx_turns.finds_off w seen d c)
finds_off w seen Begun c =
    where_then (To c) (rx_turns.turn_on c) _ (λ t e1. where_then (To c) (at w.vhosts t.0) _ (λ v e2. where_then (To c) (at w.guests v.guest) _
    (λ g e3. where_then (To c) (rx_turns.is_off t.0 t.1 v) _ (λ told e4. where_only (To c) _ (rx_turns.off_told w seen v g.memory told) (λ x. tt)))))
finds_off w seen d c = tt

-- ---- turns

rx_leads : (seen file : ℕ) (t : RxTurn) (f : Found) (o : Option TurnText) (c : Command) → is_rx_turn c ≡ true → Leads c (rx_turns.rx_onward seen file t f o)
rx_leads seen file t f None c h = h
rx_leads seen file t f (Some e) c h = tt

tx_leads : (seen file : ℕ) (t : TxTurn) (told : List ChainText) (f : Found) (o : Option TurnText) (c : Command) → is_tx_turn c ≡ true → Leads c (tx_turns.tx_onward seen file t told f o)
tx_leads seen file t told f None c h = h
tx_leads seen file t told f (Some e) c h = tt

rx_steps_on : (w : World) (actor seen vhost file : ℕ) (t : RxTurn) (v : Vhost) (m : Contents) (c : Command) → is_rx_turn c ≡ true → AllLead c (rx_turns.rx_steps_on w actor seen vhost file t v m)
rx_steps_on w actor seen vhost file t v m c h = where_then (To c) (rx_step hand.Off (rx_turns.rx_state t v m)) _
    (λ made e. rx_stepped (To c) w actor seen vhost file t v made (λ f over e2 told. rx_leads seen file made.0.turn f over c h))

tx_steps_on : (w : World) (actor seen vhost file : ℕ) (t : TxTurn) (told : List ChainText) (v : Vhost) (m : Contents) (c : Command) → is_tx_turn c ≡ true
    → AllLead c (tx_turns.tx_steps_on w actor seen vhost file t told v m)
tx_steps_on w actor seen vhost file t told v m c h = where_then (To c) (tx_step (tx_turns.tx_state t v m)) _
    (λ made x. tx_made (To c) w actor seen vhost file told v made (λ step over e2 end_. tx_leads seen file made.0.turn _ _ over c h))

begins : (w : World) (actor n seen : ℕ) (c : Command) → AllLead c (tx_turns.turn_begins w actor n seen c)
begins w actor n seen (command.RxTurn vhost) = where_then (To (command.RxTurn vhost)) (at w.vhosts vhost) _ (λ v e2. where_then (To (command.RxTurn vhost)) (at w.guests v.guest) _
    (λ g e3. where_then (To (command.RxTurn vhost)) v.settings.rx.file _ (λ file e4. where_if (To (command.RxTurn vhost)) (is_free 0 v && is_none v.settings.rx.queue.stopped)
    (rx_turns.rx_steps_on w actor seen vhost file (rx_begun v.settings.mrg (hdr_of v.settings)) v g.memory)
    (λ x. rx_steps_on w actor seen vhost file (rx_begun v.settings.mrg (hdr_of v.settings)) v g.memory (command.RxTurn vhost) refl))))
begins w actor n seen (command.TxTurn vhost) = where_then (To (command.TxTurn vhost)) (at w.vhosts vhost) _ (λ v e2. where_then (To (command.TxTurn vhost)) (at w.guests v.guest) _
    (λ g e3. where_then (To (command.TxTurn vhost)) v.settings.tx.file _ (λ file e4. where_if (To (command.TxTurn vhost)) (is_free 1 v && is_none v.settings.tx.queue.stopped)
    (tx_turns.tx_steps_on w actor seen vhost file (tx_begun (hdr_of v.settings) (name_of actor n)) [] v g.memory)
    (λ x. tx_steps_on w actor seen vhost file (tx_begun (hdr_of v.settings) (name_of actor n)) [] v g.memory (command.TxTurn vhost) refl))))
begins w actor n seen c = tt

goes_on : (w : World) (actor seen : ℕ) (d : Doing) (vhost : ℕ) (v : Vhost) (m : Contents) (c : Command) → can_be d c ≡ true → AllLead c (tx_turns.goes_on w actor seen d vhost v m)
goes_on w actor seen (Receives file t) vhost v m c h = rx_steps_on w actor seen vhost file t v m c h
goes_on w actor seen (Transmits file t told) vhost v m c h = tx_steps_on w actor seen vhost file t told v m c h
goes_on w actor seen d vhost v m c h = tt

turns : (w : World) (actor n seen : ℕ) (d : Doing) (c : Command) → can_be d c ≡ true → AllLead c (tx_turns.turns w actor n seen d c)
turns w actor n seen Begun c h = begins w actor n seen c
turns w actor n seen d c h = turning (To c) w c (tx_turns.goes_on w actor seen d) (λ vhost v m. goes_on w actor seen d vhost v m c h)

hands : (s : Setup) (w : World) (actor seen : ℕ) (d : Doing) (c : Command) → can_be d c ≡ true → AllLead c (tx_turns.hands s w actor seen d c)
hands s w actor seen (Receives file t) c h = turning (To c) w c _ (λ vhost v m. where_then (To c) (at w.files file) _
    (λ f e1. where_then (To c) (changed (Takes vhost) f) _ (λ g e2. where_then (To c) (rx_turns.front_frame s g) _
    (λ frame e3. where_then (To c) (rx_step (hand.Got frame) (rx_turns.rx_state t v m)) _
    (λ made e. rx_taken (To c) w actor seen vhost file v frame made (λ over told. rx_leads seen file made.0.turn _ over c h))))))
hands s w actor seen d c h = tt

finds_nothing : (w : World) (actor seen : ℕ) (d : Doing) (c : Command) → can_be d c ≡ true → AllLead c (tx_turns.turn_finds_none w actor seen d c)
finds_nothing w actor seen (Receives file t) c h = turning (To c) w c _ (λ vhost v m. where_then (To c) (at w.files file) _
    (λ f e1. where_then (To c) (rx_step (hand.NotReady (front_place f)) (rx_turns.rx_state t v m)) _
    (λ made e. rx_missed (To c) w actor seen vhost file v f made
    (λ over told. rx_leads seen file made.0.turn _ over c h))))
finds_nothing w actor seen d c h = tt

gives : (w : World) (seen : ℕ) (d : Doing) (c : Command) → can_be d c ≡ true → AllLead c (tx_turns.hosts_of_turn w seen d c)
gives w seen (Transmits file t told) c h = turning (To c) w c _ (λ vhost v m. where_then (To c) t.held _
    (λ f e1. where_then (To c) (tx_step (tx_turns.tx_state t v m)) _ (λ made e2. h)))
gives w seen d c h = tt

-- ---- all rows

pub row_leads : (s : Setup) (w : World) (k : EventKind) (actor : ℕ) (a : Actor) (n : ℕ) (c : Command) → can_be a.doing c ≡ true → AllLead c (rows.row s w k actor a n c)
row_leads s w event.Look actor a n c h = look_row s w actor a n c
row_leads s w event.Publish actor a n c h = publication (To c) s w actor a.doing c (publishes_back w a.doing c h) (teaches w a.doing c h) (publishes s w actor a.doing c h)
row_leads s w event.Claim actor a n c h = claims w actor n a.seen a.doing c h
row_leads s w event.Ready actor a n c h = puts w actor a.seen a.doing c
row_leads s w event.Full actor a n c h = drops ring.full_now w actor n a.seen a.doing c
row_leads s w event.Gone actor a n c h = drops ring.gone_now w actor n a.seen a.doing c
row_leads s w event.Spent actor a n c h = drops ring.spent_now w actor n a.seen a.doing c
row_leads s w event.Shut actor a n c h = held (To c) w actor (ring.shuts w a.seen a.doing) (shuts w a.seen a.doing c h)
row_leads s w event.Reopen actor a n c h = held (To c) w actor (ring.reopens w a.seen a.doing) (reopens w a.seen a.doing c h)
row_leads s w event.Resize actor a n c h = held (To c) w actor (ring.resizes w a.seen a.doing) (resizing w a.seen a.doing c h)
row_leads s w event.Cut actor a n c h = held (To c) w actor (ring.cuts w a.seen a.doing) (cuts w a.seen a.doing c h)
row_leads s w event.Move actor a n c h = moves w a.doing c
row_leads s w event.Hand actor a n c h = hands s w actor a.seen a.doing c h
row_leads s w event.PutBack actor a n c h = turns w actor n a.seen a.doing c h
row_leads s w event.Out actor a n c h = or_else (To c) (ring.leaves s w a.seen a.doing) (tx_turns.turns w actor n a.seen a.doing c)
    (leaves s w a.seen a.doing c) (turns w actor n a.seen a.doing c h)
row_leads s w event.NotReady actor a n c h = or_else (To c) (ring.finds_none w a.seen a.doing) (tx_turns.turn_finds_none w actor a.seen a.doing c)
    (finds_none w a.seen a.doing c) (finds_nothing w actor a.seen a.doing c h)
row_leads s w event.Owner actor a n c h = owning (To c) w actor a.seen a.doing c (owns w a.seen a.doing c h) (meets_worker w a.seen a.doing c) (finds_off w a.seen a.doing c)
row_leads s w event.HostIn actor a n c h = or_else (To c) (ring.hosts w actor n a.seen a.doing) (tx_turns.hosts_of_turn w a.seen a.doing c)
    (hosts w actor n a.seen a.doing c h) (gives w a.seen a.doing c h)
row_leads s w event.Poke actor a n c h = pokes w a.seen c
row_leads s w event.Peek actor a n c h = pokes w a.seen c
row_leads s w event.Drive actor a n c h = drive_row s w actor a.seen a.doing c
row_leads s w event.Fetch actor a n c h = turns w actor n a.seen a.doing c h
row_leads s w event.Copy actor a n c h = turns w actor n a.seen a.doing c h
row_leads s w event.PublishUsed actor a n c h = turns w actor n a.seen a.doing c h
row_leads s w event.Notices actor a n c h = turns w actor n a.seen a.doing c h
