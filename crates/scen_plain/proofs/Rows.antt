-- Which events answer with a frame: none but those by which a batch's front leaves for a read.
use Rattle.std.proofs.Common.{ℕ, ◌+◌, List, [], ◌∷◌, Bool, true, false, Option, Some, None}
use Rattle.std.specs.Prelude.{if◌then◌else◌, ◌==◌, ◌&&◌, ◌||◌, is_none, not, nat_lt, length, option_map}
use Rattle.std.specs.Option.{option_map_or}
use Rattle.guest_mem.specs.Memory.{Contents, first_bad}
use Rattle.tap_frame.specs.declared.name.Name.{Name}
use Rattle.tap_frame.specs.declared.reading.BadFrame.{BadFrame}
use Rattle.tap_ledger.specs.declared.fate.Cause.{Cause}
use Rattle.tap_ledger.specs.declared.hand.Hand.TheVariants as hand
use Rattle.tap_ledger.specs.declared.error.TapErr.{TapErr}
use Rattle.tap_steer.specs.declared.operation.Op.{Op}
use Rattle.tap_steer.specs.declared.operation.Op.TheVariants as op
use Rattle.tap_steer.specs.declared.selection.Select.{Select}
use Rattle.tap_steer.specs.declared.selection.Select.TheVariants as select
use Rattle.tap_steer.specs.Rules.{refuse}
use Rattle.tap_steer.specs.Select as steer
use Rattle.tap_steer.specs.Select.{learns}
use Rattle.tap_steer.specs.Table.{Table}
use Rattle.vhost_dev.specs.declared.error.VhostErr.{VhostErr}
use Rattle.vhost_dev.specs.Refusals.{addr_refusal, base_refusal, features_refusal, num_refusal, number_refusal}
use Rattle.vhost_dev.specs.Settings.{hdr_of, ring_at, Settings}
use Rattle.vring_drive.specs.declared.error.DriveErr.{DriveErr}
use Rattle.vring_drive.specs.declared.error.PostErr.{PostErr}
use Rattle.vring_drive.specs.Area.{drive_refusal}
use Rattle.vring_drive.specs.Books.{Books, first_books}
use Rattle.vring_drive.specs.Harvests.{harvested}
use Rattle.vring_drive.specs.Posts.{post_in_refusal, post_out_refusal}
use Rattle.vring_turns.specs.RxTurn.{RxTurn, rx_begun, rx_step}
use Rattle.vring_turns.specs.TxTurn.{TxTurn, tx_begun, tx_step}
use Rattle.scen_words.specs.declared.command.Command.{Command}
use Rattle.scen_words.specs.declared.command.Command.TheVariants as command
use Rattle.tap_trace.specs.declared.answer.Answer.{Answer}
use Rattle.tap_trace.specs.declared.answer.Answer.TheVariants as answer
use Rattle.tap_trace.specs.declared.causes.DriveText.TheVariants as drive_text
use Rattle.tap_ledger.specs.declared.error.TapErr.{TapErr as TapText}
use Rattle.tap_trace.specs.declared.kind.Kind.{Kind}
use Rattle.tap_trace.specs.declared.kind.Kind.TheVariants as kind
use Rattle.tap_trace.specs.declared.turn.ChainText.{ChainText}
use Rattle.tap_world.specs.declared.event.EventKind.{EventKind}
use Rattle.tap_world.specs.declared.event.EventKind.TheVariants as event
use Rattle.tap_world.specs.declared.event.Found.{Found}
use Rattle.tap_world.specs.declared.event.Found.TheVariants as found
use Rattle.tap_world.specs.ByNumber.{at}
use Rattle.tap_world.specs.Frames.{Front, bad_in, ether_in, least_in, sent_bytes, sent_front}
use Rattle.tap_world.specs.Setup.{Setup, op_of}
use Rattle.tap_world.specs.Line.{File, front_place, in_ring, last_that}
use Rattle.tap_world.specs.LineSteps.{changed, ready_front}
use Rattle.tap_world.specs.LineSteps.Change.{Takes}
use Rattle.tap_world.specs.Guests.{Vhost, driver_of, is_free, is_ring, turn_of, vhost_answer, vhost_text}
use Rattle.tap_world.specs.World.{Actor, Doing, World, name_of, newest, table}
use Rattle.tap_world.specs.World.Doing.{Backed, Backs, Begun, Changes, Disowned, Given, Hosts, Learns, Opened, Opens, Owns, Placed, Purges, Reads, Receives, Released, Resizes, Routed, Shrinks, Teaches, Transmits, Unbacked, Withdrawn, Withdraws}
use Rattle.tap_world.specs.Effect.{Effect, Onward, only}
use Rattle.tap_world.specs.Effect.Onward.{Ends, Goes}
use Rattle.tap_world.specs.Step as rows
use Rattle.tap_world.specs.StepBackend as back
use Rattle.tap_world.specs.StepControl as control
use Rattle.tap_world.specs.StepRing as ring
use Rattle.tap_world.specs.StepTable as tables
use Rattle.tap_world.specs.StepTurns as rx_turns
use Rattle.tap_world.specs.StepTransmits as tx_turns
use Rattle.tap_sound.proofs.Kit.{WhereSome, either, where_if, where_only, where_some, where_then}
use Rattle.tap_sound.proofs.Steps.{held, or_else, own, owning, publication, turning, tx_made, rx_missed, rx_stepped, rx_taken, setting, unsetting}
use Rattle.tap_trace.specs.declared.turn.TurnText.{TurnText}
use Rattle.tap_trace.specs.declared.causes.VhostText.{VhostText}
use Rattle.tap_trace.specs.declared.causes.DriveText.{DriveText}

-- An effect that answers with a frame does so with one that is so.
abbrev pub GivesOn : (Name → ℕ → List ℕ → Type 0) → Onward → Type 0
GivesOn Q (Ends seen (answer.Read name place bytes)) = Q name place bytes
GivesOn Q other = Unit {0}

abbrev pub Gives : (Name → ℕ → List ℕ → Type 0) → Effect → Type 0
Gives Q r = GivesOn Q r.onward

abbrev pub AllGive : (Name → ℕ → List ℕ → Type 0) → Option Effect → Type 0
AllGive Q o = WhereSome (Gives Q) o

-- the answer isn't a frame, or one that is so
abbrev Tacit : (Name → ℕ → List ℕ → Type 0) → Answer → Type 0
Tacit Q x = GivesOn Q (Ends 0 x)

module _ (Q : Name → ℕ → List ℕ → Type 0) (s : Setup) (w : World) (me n : ℕ) where
  -- ---- looks

  approved : (d : Doing) (x : Option TapErr) → Gives Q (tables.decided w me d x)
  approved d None = tt
  approved d (Some x) = tt

  routed : (x : Select) → Gives Q (tables.routed w (name_of me n) x)
  routed select.NoQueue = tt
  routed select.Filtered = tt
  routed (select.Row row keep resizes capacity) = tt

  unless_bad : (x : Option BadFrame) (r : Effect) → Gives Q r → Gives Q (tables.unless_bad x w r)
  unless_bad None r h = h
  unless_bad (Some x) r h = tt

  with_front : (x : Option Front) (r : Front → Effect) → ((f : Front) → Gives Q (r f)) → Gives Q (tables.with_front x w r)
  with_front None r h = tt
  with_front (Some f) r h = h f

  reading : (file room : ℕ) (front : Front) → Gives Q (tables.reads w file room front)
  reading file room front = go (nat_lt room (least_in front))
    where
      go : (c : Bool) → Gives Q (if c then only (Ends (newest w) (answer.Room (least_in front))) w else only (Goes (newest w) (Reads file room front) (found.Version (newest w))) w)
      go true = tt
      go false = tt

  back_seen : (vhost r : ℕ) (v : Vhost) (x : Option TapText) → Gives Q (back.back_seen w me vhost r v x)
  back_seen vhost r v None = tt
  back_seen vhost r v (Some x) = tt

  looks_at : (t : Table) (c : Command) → AllGive Q (tables.looks_at t w (name_of me n) c)
  looks_at t (command.Send device hdr bytes) =
      unless_bad (bad_in (sent_front hdr) (sent_bytes hdr bytes)) (tables.routed w (name_of me n) (steer.select t device (ether_in (sent_front hdr) (sent_bytes hdr bytes))))
      (routed (steer.select t device (ether_in (sent_front hdr) (sent_bytes hdr bytes))))
  looks_at t (command.Read file room) = with_front (steer.shape_of t file) (tables.reads w file room) (reading file room)
  looks_at t (command.Write file bytes) = with_front (steer.shape_of t file) (tables.writes t w file bytes)
      (λ front. unless_bad (bad_in front bytes)
      (only (Goes (newest w) (Hosts file (ether_in front bytes) (steer.learns t file)) (found.Version (newest w))) w) tt)
  looks_at t c = tt

  looks : (a : Actor) (c : Command) → AllGive Q (tables.looks s w me a n c)
  looks a c = go (op_of s c)
    where
      go : (o : Option Op) → AllGive Q (option_map_or (tables.looks_to_change (table s w) w me) o (tables.looks_at (table s w) w (name_of me n) c))
      go None = looks_at (table s w) c
      go (Some x) = where_only (Gives Q) (is_none w.writer) (tables.decided w me (tables.course (table s w) x) (refuse (table s w) x))
          (λ e. approved (tables.course (table s w) x) (refuse (table s w) x))

  looks_at_flow : (d : Doing) → AllGive Q (tx_turns.looks_at_flow s w d)
  looks_at_flow (Given file t told f) = tt
  looks_at_flow d = tt

  look_row : (a : Actor) (c : Command) → AllGive Q (rows.look_row s w me a n c)
  look_row a (command.Backend vhost r file) =
      where_then (Gives Q) (at w.vhosts vhost) _ (λ v e. where_only (Gives Q) (is_none w.writer && (not (is_ring r) || is_none (turn_of r v)))
      (back.back_seen w me vhost r v (back.back_refusal (table s w) vhost r file)) (λ e. back_seen vhost r v (back.back_refusal (table s w) vhost r file)))
  look_row a (command.TxTurn vhost) = looks_at_flow a.doing
  look_row a c = looks a c

module _ (Q : Name → ℕ → List ℕ → Type 0) (me n : ℕ) where
  -- ---- publications

  own_published : (w : World) (x : Op) (d : Doing) → AllGive Q (tables.publishes_own w x d)
  own_published w x Changes = tt
  own_published w x (Opened file) = tt
  own_published w x (Withdraws file) = tt
  own_published w x (Shrinks file places cuts) = where_then (Gives Q) (at w.files file) _ (λ f e. tt)
  own_published w x d = tt

  publishes : (s : Setup) (w : World) (d : Doing) (c : Command) → AllGive Q (tables.publishes s w me d c)
  publishes s w (Learns file ether) c =
      where_only (Gives Q) (is_none w.writer) (tables.learns_flow w file ether) (λ b. tt)
  publishes s w d c = own (Gives Q) s w me d c (λ x. own_published w x d)

  teaches : (w : World) (d : Doing) → AllGive Q (tx_turns.teaches w d)
  teaches w (Teaches file t told f) = where_only (Gives Q) (is_none w.writer)
      (record (only (Goes (newest w + 1) (Transmits file t told) (found.Version (newest w + 1))) w) { ops = op.Learn file f.flow ∷ [] })
      (λ b. tt)
  teaches w d = tt

  publishes_back : (w : World) (d : Doing) (c : Command) → AllGive Q (back.publishes_back w d c)
  publishes_back w (Backed file) (command.Backend vhost r asked) = either (Gives Q) (r == 0) _ _ first second
    where
      first : Gives Q (record (only (Goes (newest w + 1) (Owns file (newest w + 1)) (found.Version (newest w + 1))) w) { ops = op.Back file (back.side_of r) (Some vhost) ∷ [] })
      first = tt

      second : Gives Q (record (back.back_over w (newest w + 1) vhost r (newest w + 1)) { ops = op.Back file (back.side_of r) (Some vhost) ∷ [] })
      second = tt
  publishes_back w (Disowned file) (command.Backend vhost r asked) = tt
  publishes_back w (Released file) (command.Backend vhost r asked) = tt
  publishes_back w d c = tt

  -- ---- frames

  claims : (w : World) (seen : ℕ) (d : Doing) → AllGive Q (ring.claims w me n seen d)
  claims w seen (Routed file epoch len) = where_then (Gives Q) (at w.files file) _ (λ f e. tt)
  claims w seen d = tt

  puts : (w : World) (actor seen : ℕ) (d : Doing) → AllGive Q (ring.puts w actor seen d)
  puts w actor seen (Placed file place epoch len) = tt
  puts w actor seen d = tt

  drops : (why : ℕ → File → Option Cause) (w : World) (seen : ℕ) (d : Doing) → AllGive Q (ring.drops_for why w me n seen d)
  drops why w seen (Routed file epoch len) =
      where_then (Gives Q) (at w.files file) _ (λ f e1. where_then (Gives Q) (why epoch f) _ (λ x e2. tt))
  drops why w seen d = tt

  shuts : (w : World) (seen : ℕ) (d : Doing) → AllGive Q (ring.shuts w seen d)
  shuts w seen (Withdrawn file version) = where_then (Gives Q) (at w.files file) _ (λ f e. tt)
  shuts w seen d = tt

  reopens : (w : World) (seen : ℕ) (d : Doing) → AllGive Q (ring.reopens w seen d)
  reopens w seen (Opens file) = where_then (Gives Q) (at w.files file) _ (λ f e. tt)
  reopens w seen d = tt

  resizes : (w : World) (seen : ℕ) (d : Doing) → AllGive Q (ring.resizes w seen d)
  resizes w seen (Resizes file capacity) = where_then (Gives Q) (at w.files file) _ (λ f e. tt)
  resizes w seen d = tt

  cuts : (w : World) (seen : ℕ) (d : Doing) → AllGive Q (ring.cuts w seen d)
  cuts w seen (Shrinks file places m) = where_then (Gives Q) (at w.files file) _
      (λ f e1. where_then (Gives Q) (ring.name_at f.line (last_that in_ring f.line)) _ (λ x e2. tt))
  cuts w seen d = tt

  moves_in : (w : World) (d : Doing) (file : ℕ) → AllGive Q (ring.moves_in w file)
  moves_in w d file = where_then (Gives Q) (at w.files file) _
      (λ f e1. where_then (Gives Q) (ring.name_at f.line (ready_front f.line)) _ (λ x e2. tt))

  moves : (w : World) (d : Doing) → AllGive Q (ring.moves w d)
  moves w (Reads file room front) = moves_in w (Reads file room front) file
  moves w (Purges file version) = moves_in w (Purges file version) file
  moves w d = tt

  finds_none : (w : World) (seen : ℕ) (d : Doing) → AllGive Q (ring.finds_none w seen d)
  finds_none w seen (Reads file room front) = where_then (Gives Q) (at w.files file) _
      (λ f e1. where_only (Gives Q) _ (only (Ends seen (answer.Again (front_place f))) w) (λ x. tt))
  finds_none w seen d = tt

  meets_worker : (w : World) (seen : ℕ) (d : Doing) → AllGive Q (ring.meets_worker w seen d)
  meets_worker w seen (Reads file room front) = where_then (Gives Q) (at w.files file) _
      (λ f e1. where_only (Gives Q) _ (only (Ends seen answer.Busy) w) (λ x. tt))
  meets_worker w seen d = tt

  hosts : (w : World) (seen : ℕ) (d : Doing) → AllGive Q (ring.hosts w me n seen d)
  hosts w seen (Hosts file ether true) = tt
  hosts w seen (Hosts file ether false) = tt
  hosts w seen d = tt

  -- ---- guests

  poked : (bad : Option ℕ) → Tacit Q (control.poke_told bad)
  poked None = tt
  poked (Some bad) = tt

  peeked : (addr len : ℕ) (m : Contents) (bad : Option ℕ) → Tacit Q (control.peeked addr len m bad)
  peeked addr len m None = tt
  peeked addr len m (Some bad) = tt

  pokes : (w : World) (d : Doing) (seen : ℕ) (c : Command) → AllGive Q (control.pokes w seen c)
  pokes w d seen (command.Poke guest addr bytes) = where_then (Gives Q) (at w.guests guest) _ (λ g e. poked (first_bad g.memory.regions addr (length bytes)))
  pokes w d seen (command.Peek guest addr len) = where_then (Gives Q) (at w.guests guest) _ (λ g e. peeked addr len g.memory (first_bad g.memory.regions addr len))
  pokes w d seen c = tt

  abbrev IsSilent : control.Call → Type 0
  IsSilent x = Tacit Q x.answer

  vhost_tacit : (e : VhostErr) → WhereSome (Tacit Q) (vhost_answer e)
  vhost_tacit e = go (vhost_text e)
    where
      go : (o : Option VhostText) → WhereSome (Tacit Q) (option_map (λ x. answer.Vhost x) o)
      go None = tt
      go (Some x) = tt

  told_by : (e : Option VhostErr) (x : Answer) → Tacit Q x → WhereSome (Tacit Q) (control.told_by e x)
  told_by None x h = h
  told_by (Some e) x h = vhost_tacit e

  called : (e : Option VhostErr) (changed : Settings) (x : Answer) (k : Option Kind) (v : Vhost) (m : Contents) → Tacit Q x
      → WhereSome IsSilent (control.called e changed x k v m)
  called e changed x k v m h = where_then IsSilent (control.told_by e x) _ (λ told q. where_some (Tacit Q) (control.told_by e x) told (told_by e x h) q)

  with_books : (k : Kind) (v : Vhost) (m : Contents) (o : Option Books) (call : Books → Option control.Call) → ((b : Books) → WhereSome IsSilent (call b))
      → WhereSome IsSilent (control.with_books k v m o call)
  with_books k v m None call h = tt
  with_books k v m (Some b) call h = h b

  refused : (k : Kind) (v : Vhost) (m : Contents) (o : Option DriveText) → WhereSome IsSilent (control.refused k v m o)
  refused k v m None = tt
  refused k v m (Some x) = tt

  posts : (vhost r : ℕ) (o : Option PostErr) (need : ℕ) (after : Contents) (b : Books) (v : Vhost) (m : Contents) → WhereSome IsSilent (control.posts vhost r o need after b v m)
  posts vhost r (Some e) need after b v m = refused (kind.Post vhost r) v m (control.post_told e)
  posts vhost r None need after b v m = tt

  stray : (o : Option ℕ) (x : Answer) → Tacit Q x → Tacit Q (option_map_or (λ id. answer.Drive (drive_text.Stray id)) o x)
  stray None x h = h
  stray (Some id) x h = tt

  driven : (o : Option DriveErr) (vhost r : ℕ) (v : Vhost) (m : Contents) (x : control.Call) → IsSilent x
      → WhereSome IsSilent (option_map_or (λ e. control.refused (kind.Drive vhost r) v m (control.drive_told e)) o (Some x))
  driven None vhost r v m x h = h
  driven (Some e) vhost r v m x h = refused (kind.Drive vhost r) v m (control.drive_told e)

  driver_call : (c : Command) (v : Vhost) (m : Contents) → WhereSome IsSilent (control.driver_call c v m)
  driver_call (command.DriveAt vhost r addr) v m =
      let q = (ring_at r v.settings).queue.layout in
      driven (drive_refusal m addr q.num) vhost r v m (control.driven r (kind.Drive vhost r) v (first_books addr q.num q.event) m answer.Done) tt
  driver_call (command.PostIn vhost r lens) v m = with_books (kind.Post vhost r) v m (driver_of r v) _ (λ b. posts vhost r (post_in_refusal lens b) _ _ b v m)
  driver_call (command.PostOut vhost r bytes) v m = with_books (kind.Post vhost r) v m (driver_of r v) _ (λ b. posts vhost r (post_out_refusal (length bytes) b) _ _ b v m)
  driver_call (command.Harvest vhost r) v m = with_books (kind.Harvest vhost r) v m (driver_of r v) _
      (λ b. stray (harvested m b).stray (answer.Harvested (harvested m b).found) tt)
  driver_call c v m = tt

  call_of : (c : Command) (v : Vhost) (m : Contents) → WhereSome IsSilent (control.call_of c v m)
  call_of (command.Features vhost bits) v m = called (features_refusal bits v.settings) _ answer.Done _ v m tt
  call_of (command.VNum vhost r x) v m = called (num_refusal r x v.settings) _ answer.Done _ v m tt
  call_of (command.VBase vhost r x) v m = called (base_refusal r x v.settings) _ answer.Done _ v m tt
  call_of (command.VAddr vhost r desc avail used) v m = called (addr_refusal r desc avail used m v.settings) _ answer.Done _ v m tt
  call_of (command.GetBase vhost r) v m = called (number_refusal r) _ (answer.Base (ring_at r v.settings).queue.positions.next) _ v m tt
  call_of c v m = driver_call c v m

  calls : (w : World) (d : Doing) (actor seen : ℕ) (c : Command) → AllGive Q (control.calls w actor seen c)
  calls w d actor seen c =
      where_then (Gives Q) (control.driven_vhost c) _ (λ vhost e1. where_then (Gives Q) (at w.vhosts vhost) _ (λ v e2. where_then (Gives Q) (at w.guests v.guest) _
      (λ g e3. where_then (Gives Q) (control.call_of c v g.memory) _ (λ x e4. where_only (Gives Q) _ (control.call_effect w seen vhost v.guest x)
      (λ y. where_some IsSilent (control.call_of c v g.memory) x (call_of c v g.memory) e4)))))

  -- ---- backends

  abbrev AreTacit : Option Answer → Type 0
  AreTacit o = WhereSome (Tacit Q) o

  refused_by : (e : Option VhostErr) → WhereSome AreTacit (back.refused_by e)
  refused_by None = tt
  refused_by (Some e) = go (vhost_answer e) (vhost_tacit e)
    where
      go : (k : Option Answer) → WhereSome (Tacit Q) k → WhereSome AreTacit (option_map (λ x. Some x) k)
      go None h = tt
      go (Some y) h = h

  back_answer : (e : Option VhostErr) (x : Option TapText) (f : Option VhostErr) → WhereSome AreTacit (back.back_answer e x f)
  back_answer (Some e) x f = refused_by (Some e)
  back_answer None (Some r) f = tt
  back_answer None None f = refused_by f

  sets_back : (w : World) (d : Doing) (actor seen vhost r file : ℕ) (x : Option TapText) (v : Vhost) (m : Contents) (y : Option Answer)
      → AreTacit y → Gives Q (back.sets_back w actor seen vhost r file x v m y)
  sets_back w d actor seen vhost r file x v m (Some y) q = q
  sets_back w d actor seen vhost r file x v m None q = tt

  unsets_back : (w : World) (d : Doing) (actor seen vhost r : ℕ) (v : Vhost) (m : Contents) (y : Option Answer) (file : Option ℕ) → AreTacit y
      → Gives Q (back.unsets_back w actor seen vhost r v m y file)
  unsets_back w d actor seen vhost r v m (Some y) file q = q
  unsets_back w d actor seen vhost r v m None None q = tt
  unsets_back w d actor seen vhost r v m None (Some file) q = tt

  backs : (s : Setup) (w : World) (actor seen : ℕ) (d : Doing) (c : Command) → AllGive Q (back.backs s w actor seen d c)
  backs s w actor seen (Backs x) (command.Backend vhost r None) =
      where_then (Gives Q) (at w.vhosts vhost) _ (λ v e1. where_then (Gives Q) (at w.guests v.guest) _
      (λ g e2. unsetting (Gives Q) s w actor seen x vhost r v g.memory
      (λ told e3. unsets_back w Begun actor seen vhost r v g.memory told (ring_at r v.settings).file (where_some AreTacit _ told (refused_by (number_refusal r)) e3))))
  backs s w actor seen (Backs x) (command.Backend vhost r (Some file)) =
      where_then (Gives Q) (at w.vhosts vhost) _ (λ v e1. where_then (Gives Q) (at w.guests v.guest) _
      (λ g e2. setting (Gives Q) s w actor seen x vhost r file v g.memory
      (λ told e3. sets_back w Begun actor seen vhost r file x v g.memory told (where_some AreTacit _ told (back_answer _ x _) e3))))
  backs s w actor seen d c = tt

  drive_row : (s : Setup) (w : World) (actor seen : ℕ) (d : Doing) (c : Command) → AllGive Q (rows.drive_row s w actor seen d c)
  drive_row s w actor seen Begun c = calls w Begun actor seen c
  drive_row s w actor seen d c = backs s w actor seen d c

  owns : (w : World) (seen : ℕ) (d : Doing) (c : Command) → AllGive Q (back.owns w seen d c)
  owns w seen (Owns file version) (command.Backend vhost r asked) = tt
  owns w seen (Unbacked file) (command.Backend vhost r asked) = tt
  owns w seen d c = tt

  finds_off : (w : World) (seen : ℕ) (d : Doing) (c : Command) → AllGive Q (rx_turns.finds_off w seen d c)
  finds_off w seen Begun c =
      where_then (Gives Q) (rx_turns.turn_on c) _ (λ t e1. where_then (Gives Q) (at w.vhosts t.0) _ (λ v e2. where_then (Gives Q) (at w.guests v.guest) _
      (λ g e3. where_then (Gives Q) (rx_turns.is_off t.0 t.1 v) _ (λ told e4. where_only (Gives Q) _ (rx_turns.off_told w seen v g.memory told) (λ x. tt)))))
  finds_off w seen d c = tt

  -- ---- turns

  rx_after : (seen file : ℕ) (t : RxTurn) (f : Found) (o : Option TurnText) → GivesOn Q (rx_turns.rx_onward seen file t f o)
  rx_after seen file t f None = tt
  rx_after seen file t f (Some e) = tt

  tx_after : (seen file : ℕ) (t : TxTurn) (told : List ChainText) (f : Found) (o : Option TurnText) → GivesOn Q (tx_turns.tx_onward seen file t told f o)
  tx_after seen file t told f None = tt
  tx_after seen file t told f (Some e) = tt

  rx_steps_on : (w : World) (actor seen vhost file : ℕ) (t : RxTurn) (v : Vhost) (m : Contents) → AllGive Q (rx_turns.rx_steps_on w actor seen vhost file t v m)
  rx_steps_on w actor seen vhost file t v m = where_then (Gives Q) (rx_step hand.Off (rx_turns.rx_state t v m)) _
      (λ made e. rx_stepped (Gives Q) w actor seen vhost file t v made (λ f over e2 told. rx_after seen file made.0.turn f over))

  tx_steps_on : (w : World) (actor seen vhost file : ℕ) (t : TxTurn) (chains : List ChainText) (v : Vhost) (m : Contents)
      → AllGive Q (tx_turns.tx_steps_on w actor seen vhost file t chains v m)
  tx_steps_on w actor seen vhost file t chains v m = where_then (Gives Q) (tx_step (tx_turns.tx_state t v m)) _
      (λ made e. tx_made (Gives Q) w actor seen vhost file chains v made (λ step over e2 end_. tx_after seen file made.0.turn _ _ over))

  begins : (w : World) (seen : ℕ) (c : Command) → AllGive Q (tx_turns.turn_begins w me n seen c)
  begins w seen c = where_then (Gives Q) (rx_turns.turn_on c) _ (λ t e1. where_then (Gives Q) (at w.vhosts t.0) _ (λ v e2. where_then (Gives Q) (at w.guests v.guest) _
      (λ g e3. either (AllGive Q) (t.1 == 0) (rx_turns.rx_begins w me seen t.0 v g.memory) (tx_turns.tx_begins w me n seen t.0 v g.memory)
      (where_then (Gives Q) v.settings.rx.file _ (λ file e4. where_if (Gives Q) (is_free 0 v && is_none v.settings.rx.queue.stopped)
      (rx_turns.rx_steps_on w me seen t.0 file (rx_begun v.settings.mrg (hdr_of v.settings)) v g.memory) (λ x. rx_steps_on w me seen t.0 file (rx_begun v.settings.mrg (hdr_of v.settings)) v g.memory)))
      (where_then (Gives Q) v.settings.tx.file _ (λ file e4. where_if (Gives Q) (is_free 1 v && is_none v.settings.tx.queue.stopped)
      (tx_turns.tx_steps_on w me seen t.0 file (tx_begun (hdr_of v.settings) (name_of me n)) [] v g.memory)
      (λ x. tx_steps_on w me seen t.0 file (tx_begun (hdr_of v.settings) (name_of me n)) [] v g.memory))))))

  goes_on : (w : World) (seen : ℕ) (d : Doing) (vhost : ℕ) (v : Vhost) (m : Contents) → AllGive Q (tx_turns.goes_on w me seen d vhost v m)
  goes_on w seen (Receives file t) vhost v m = rx_steps_on w me seen vhost file t v m
  goes_on w seen (Transmits file t told) vhost v m = tx_steps_on w me seen vhost file t told v m
  goes_on w seen d vhost v m = tt

  turns : (w : World) (seen : ℕ) (d : Doing) (c : Command) → AllGive Q (tx_turns.turns w me n seen d c)
  turns w seen Begun c = begins w seen c
  turns w seen d c = turning (Gives Q) w c (tx_turns.goes_on w me seen d) (λ vhost v m. goes_on w seen d vhost v m)

  hands : (s : Setup) (w : World) (seen : ℕ) (d : Doing) (c : Command) → AllGive Q (tx_turns.hands s w me seen d c)
  hands s w seen (Receives file t) c =
      turning (Gives Q) w c _ (λ vhost v m. where_then (Gives Q) (at w.files file) _
      (λ f e1. where_then (Gives Q) (changed (Takes vhost) f) _ (λ g e2. where_then (Gives Q) (rx_turns.front_frame s g) _
      (λ frame e3. where_then (Gives Q) (rx_step (hand.Got frame) (rx_turns.rx_state t v m)) _
      (λ made e. rx_taken (Gives Q) w me seen vhost file v frame made (λ over told. rx_after seen file made.0.turn _ over))))))
  hands s w seen d c = tt

  finds_nothing : (w : World) (seen : ℕ) (d : Doing) (c : Command) → AllGive Q (tx_turns.turn_finds_none w me seen d c)
  finds_nothing w seen (Receives file t) c =
      turning (Gives Q) w c _ (λ vhost v m. where_then (Gives Q) (at w.files file) _
      (λ f e1. where_then (Gives Q) (rx_step (hand.NotReady (front_place f)) (rx_turns.rx_state t v m)) _
      (λ made e. rx_missed (Gives Q) w me seen vhost file v f made (λ over told. rx_after seen file made.0.turn _ over))))
  finds_nothing w seen d c = tt

  hosts_of_turn : (w : World) (seen : ℕ) (d : Doing) (c : Command) → AllGive Q (tx_turns.hosts_of_turn w seen d c)
  hosts_of_turn w seen (Transmits file t told) c =
      turning (Gives Q) w c _ (λ vhost v m. where_then (Gives Q) t.held _
      (λ f held. where_then (Gives Q) (tx_step (tx_turns.tx_state t v m)) _ (λ made e2. tt)))
  hosts_of_turn w seen d c = tt

-- ---- all rows, by that of a batch's front that leaves

pub row_gives : (Q : Name → ℕ → List ℕ → Type 0) (s : Setup) (w : World) (me n : ℕ) (k : EventKind) (a : Actor) (c : Command)
    → AllGive Q (ring.leaves s w a.seen a.doing) → AllGive Q (rows.row s w k me a n c)
row_gives Q s w me n event.Look a c h = look_row Q s w me n a c
row_gives Q s w me n event.Publish a c h = publication (Gives Q) s w me a.doing c (publishes_back Q me n w a.doing c) (teaches Q me n w a.doing) (publishes Q me n s w a.doing c)
row_gives Q s w me n event.Claim a c h = claims Q me n w a.seen a.doing
row_gives Q s w me n event.Ready a c h = puts Q me n w me a.seen a.doing
row_gives Q s w me n event.Full a c h = drops Q me n ring.full_now w a.seen a.doing
row_gives Q s w me n event.Gone a c h = drops Q me n ring.gone_now w a.seen a.doing
row_gives Q s w me n event.Spent a c h = drops Q me n ring.spent_now w a.seen a.doing
row_gives Q s w me n event.Shut a c h = held (Gives Q) w me (ring.shuts w a.seen a.doing) (shuts Q me n w a.seen a.doing)
row_gives Q s w me n event.Reopen a c h = held (Gives Q) w me (ring.reopens w a.seen a.doing) (reopens Q me n w a.seen a.doing)
row_gives Q s w me n event.Resize a c h = held (Gives Q) w me (ring.resizes w a.seen a.doing) (resizes Q me n w a.seen a.doing)
row_gives Q s w me n event.Cut a c h = held (Gives Q) w me (ring.cuts w a.seen a.doing) (cuts Q me n w a.seen a.doing)
row_gives Q s w me n event.Move a c h = moves Q me n w a.doing
row_gives Q s w me n event.Hand a c h = hands Q me n s w a.seen a.doing c
row_gives Q s w me n event.PutBack a c h = turns Q me n w a.seen a.doing c
row_gives Q s w me n event.Out a c h = or_else (Gives Q) (ring.leaves s w a.seen a.doing) (tx_turns.turns w me n a.seen a.doing c) h (turns Q me n w a.seen a.doing c)
row_gives Q s w me n event.NotReady a c h = or_else (Gives Q) (ring.finds_none w a.seen a.doing) (tx_turns.turn_finds_none w me a.seen a.doing c)
    (finds_none Q me n w a.seen a.doing) (finds_nothing Q me n w a.seen a.doing c)
row_gives Q s w me n event.Owner a c h = owning (Gives Q) w me a.seen a.doing c (owns Q me n w a.seen a.doing c) (meets_worker Q me n w a.seen a.doing)
    (finds_off Q me n w a.seen a.doing c)
row_gives Q s w me n event.HostIn a c h = or_else (Gives Q) (ring.hosts w me n a.seen a.doing) (tx_turns.hosts_of_turn w a.seen a.doing c)
    (hosts Q me n w a.seen a.doing) (hosts_of_turn Q me n w a.seen a.doing c)
row_gives Q s w me n event.Poke a c h = pokes Q me n w a.doing a.seen c
row_gives Q s w me n event.Peek a c h = pokes Q me n w a.doing a.seen c
row_gives Q s w me n event.Drive a c h = drive_row Q me n s w me a.seen a.doing c
row_gives Q s w me n event.Fetch a c h = turns Q me n w a.seen a.doing c
row_gives Q s w me n event.Copy a c h = turns Q me n w a.seen a.doing c
row_gives Q s w me n event.PublishUsed a c h = turns Q me n w a.seen a.doing c
row_gives Q s w me n event.Notices a c h = turns Q me n w a.seen a.doing c
