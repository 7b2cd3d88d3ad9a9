-- What every row of the table of events does with the accepted names of its command.
use Rattle.std.proofs.Common.{◌≡◌, ◌⊎◌, ℕ, ◌+◌, List, [], ◌∷◌, ◌++◌, Bool, true, false, Option, Some, None, inl, inr, ⊎_elim, refl, sym, ap, ◌∙◌, subst, true≢false}
use Rattle.std.specs.Prelude.{if◌then◌else◌, ◌==◌, ◌&&◌, ◌||◌, is_none, not, nat_lt, slice_get, length, option_map}
use Rattle.std.specs.List.{AllByRecursion}
use Rattle.std.specs.Option.{option_map_or}
use Rattle.guest_mem.specs.Memory.{Contents, first_bad}
use Rattle.tap_frame.specs.declared.name.Name.{Name}
use Rattle.tap_frame.specs.declared.reading.BadFrame.{BadFrame}
use Rattle.tap_frame.specs.Frame.{FrameValue}
use Rattle.tap_ledger.specs.declared.act.Act.{Act}
use Rattle.tap_ledger.specs.declared.fate.Cause.{Cause}
use Rattle.tap_ledger.specs.declared.hand.Hand.TheVariants as hand
use Rattle.tap_ledger.specs.declared.error.TapErr.{TapErr}
use Rattle.tap_steer.specs.declared.operation.Op.{Op}
use Rattle.tap_steer.specs.declared.operation.Op.TheVariants as op
use Rattle.tap_steer.specs.declared.operation.TheConstants.{IFF_ATTACH_QUEUE}
use Rattle.tap_steer.specs.declared.selection.Select.{Select}
use Rattle.tap_steer.specs.declared.selection.Select.TheVariants as select
use Rattle.tap_steer.specs.Rules.{refuse}
use Rattle.tap_steer.specs.Select as steer
use Rattle.tap_steer.specs.Select.{learns}
use Rattle.tap_steer.specs.Table.{Table, file_at, is_set}
use Rattle.vhost_dev.specs.declared.error.VhostErr.{VhostErr}
use Rattle.vhost_dev.specs.Refusals.{addr_refusal, base_refusal, features_refusal, num_refusal, number_refusal}
use Rattle.vhost_dev.specs.Settings.{hdr_of, ring_at, Settings}
use Rattle.vring_drive.specs.declared.error.DriveErr.{DriveErr}
use Rattle.vring_drive.specs.declared.error.PostErr.{PostErr}
use Rattle.vring_drive.specs.Area.{drive_refusal}
use Rattle.vring_drive.specs.Books.{Books, first_books}
use Rattle.vring_drive.specs.Harvests.{harvested}
use Rattle.vring_drive.specs.Posts.{post_in_refusal, post_out_refusal}
use Rattle.vring_turns.specs.declared.stage.TxStage.{TxStage}
use Rattle.vring_turns.specs.declared.stage.TxStage.TheVariants as tx
use Rattle.vring_turns.specs.RxTurn.{RxTurn, rx_begun, rx_step}
use Rattle.vring_turns.specs.TxTurn.{TxState, TxTurn, tx_begun, tx_step}
use Rattle.scen_words.specs.declared.command.Command.{Command}
use Rattle.scen_words.specs.declared.command.Command.TheVariants as command
use Rattle.tap_trace.specs.declared.answer.Answer.{Answer}
use Rattle.tap_trace.specs.declared.answer.Answer.TheVariants as answer
use Rattle.tap_trace.specs.declared.causes.DriveText.TheVariants as drive_text
use Rattle.tap_ledger.specs.declared.error.TapErr.{TapErr as TapText}
use Rattle.tap_trace.specs.declared.kind.Kind.{Kind}
use Rattle.tap_trace.specs.declared.kind.Kind.TheVariants as kind
use Rattle.tap_trace.specs.declared.turn.ChainText.{ChainText}
use Rattle.tap_world.specs.declared.event.EventKind.{EventKind}
use Rattle.tap_world.specs.declared.event.EventKind.TheVariants as event
use Rattle.tap_world.specs.declared.event.Found.{Found}
use Rattle.tap_world.specs.declared.event.Found.TheVariants as found
use Rattle.tap_world.specs.ByNumber.{at}
use Rattle.tap_world.specs.Frames.{Front, bad_in, ether_in, least_in, sent_bytes, sent_front}
use Rattle.tap_world.specs.Setup.{Setup, op_of, frame_of}
use Rattle.tap_world.specs.Line.{File, first_that, front_place, in_batch, in_ring, last_that}
use Rattle.tap_world.specs.LineSteps.{changed, ready_front}
use Rattle.tap_world.specs.LineSteps.Change.{Takes}
use Rattle.tap_world.specs.Guests.{Vhost, driver_of, is_free, is_ring, turn_of, vhost_answer, vhost_text}
use Rattle.tap_world.specs.World.{Actor, Doing, World, name_of, newest, table}
use Rattle.tap_world.specs.World.Doing.{Backed, Backs, Begun, Changes, Disowned, Given, Hosts, Learns, Opened, Opens, Owns, Placed, Purges, Reads, Receives, Released, Resizes, Routed, Shrinks, Teaches, Transmits, Unbacked, Withdrawn, Withdraws}
use Rattle.tap_world.specs.Effect.{Effect, Onward, only}
use Rattle.tap_world.specs.Effect.Onward.{Ends, Goes, Stays}
use Rattle.tap_world.specs.Stands.{names_of}
use Rattle.vring_turns.specs.Stage.{is_giving}
use Rattle.tap_world.specs.SoundNames.{accepted_by, accepted_in, awaited, got_in}
use Rattle.tap_world.specs.Scripts.{is_kind, next_kind, tx_next_kind}
use Rattle.tap_world.specs.Step as rows
use Rattle.tap_world.specs.StepBackend as back
use Rattle.tap_world.specs.StepControl as control
use Rattle.tap_world.specs.StepRing as ring
use Rattle.tap_world.specs.StepTable as tables
use Rattle.tap_world.specs.StepTurns as rx_turns
use Rattle.tap_world.specs.StepTransmits as tx_turns
use Rattle.tap_sound.proofs.Kit.{WhereSome, either, some_same, where_if, where_only, where_some, where_then}
use Rattle.tap_sound.proofs.Steps.{held, or_else, own, owning, publication, turning, tx_made, rx_missed, rx_stepped, rx_taken, setting, unsetting}
use Rattle.tap_sound.proofs.NamesTurns.{Adds, step_adds}
use Rattle.tap_sound.proofs.NamesTurns.Adds.{OneMore, Same}
use Rattle.tap_trace.specs.declared.turn.TurnText.{TurnText}
use Rattle.tap_trace.specs.declared.causes.VhostText.{VhostText}
use Rattle.tap_trace.specs.declared.causes.DriveText.{DriveText}

-- ---- all names

abbrev pub All : (Name → Type 0) → List Name → Type 0
All Q ns = AllByRecursion Q ns

pub all_weaker : (Q R : Name → Type 0) (ns : List Name) → ((m : Name) → Q m → R m) → All Q ns → All R ns
all_weaker Q R [] f a = tt
all_weaker Q R (m ∷ ns) f a = (f m a.0, all_weaker Q R ns f a.1)

all_more : (Q : Name → Type 0) (ns : List Name) (m : Name) → All Q ns → Q m → All Q (ns ++ m ∷ [])
all_more Q [] m a q = (q, tt)
all_more Q (x ∷ ns) m a q = (a.0, all_more Q ns m a.1 q)

none_awaited : (m : Name) → None ≡ Some m → ⊥
none_awaited m e = cc (e)

-- ---- no frame is given to the host by the events of a turn but HostIn

abbrev pub IsNotGiving : Doing → Type 0
IsNotGiving (Transmits file t chains) = is_giving t.stage ≡ false
IsNotGiving d = Unit {0}

not_giving_at : (k : EventKind) → is_kind k (Some event.HostIn) ≡ false → (st : TxStage) → is_kind k (tx_next_kind st) ≡ true → is_giving st ≡ false
not_giving_at k other tx.Give e = absurd (true≢false (sym e ∙ other))
not_giving_at k other st e = refl

pub not_giving : (k : EventKind) → is_kind k (Some event.HostIn) ≡ false → (w : World) (d : Doing) (c : Command) → is_kind k (next_kind w d c) ≡ true → IsNotGiving d
not_giving k other w (Transmits file t chains) c e = not_giving_at k other t.stage e
not_giving k other w d c e = tt

-- P: the name stands after the event; the actor and the number of its command
module _ (P : Name → Type 0) (me n : ℕ) where
  -- the names that a command has accepted stand, but for the awaited one
  abbrev pub Stood : Doing → Type 0
  Stood d = All (λ m. (awaited me n d ≡ Some m) ⊎ P m) (accepted_by me n d)

  abbrev pub StoodAfter : Onward → Type 0
  StoodAfter (Goes seen d f) = Stood d
  StoodAfter (Ends seen y) = All P (accepted_in me n y)
  StoodAfter (Stays f) = Unit {0}

  -- where they stand before, and those of the effect stand, they stand after
  abbrev pub Tells : Doing → Effect → Type 0
  Tells d r = Stood d → All P (names_of r) → StoodAfter r.onward

  abbrev AllTell : Doing → Option Effect → Type 0
  AllTell d o = WhereSome (Tells d) o

  none_waits : (ns : List Name) → All (λ m. (None ≡ Some m) ⊎ P m) ns → All P ns
  none_waits ns a = all_weaker (λ m. (None ≡ Some m) ⊎ P m) P ns (λ m h. ⊎_elim (λ e. absurd (none_awaited m e)) (λ p. p) h) a

  -- ---- looks

  course_if : (d0 : Doing) (b : Bool) (d e : Doing) → Stood d → Stood e → Stood (if b then d else e)
  course_if d0 true d e x y = x
  course_if d0 false d e x y = y

  course_stood : (t : Table) (x : Op) → Stood (tables.course t x)
  course_stood t (op.SetIff file device flags) = tt
  course_stood t (op.SetQueue file flags) = course_if Begun (is_set flags IFF_ATTACH_QUEUE) (Opens file) (Withdraws file) tt tt
  course_stood t (op.Shut file) = course_if Begun (tables.is_enabled (file_at t file).attachment) (Withdraws file) Changes tt tt
  course_stood t (op.Resize file capacity) = tt
  course_stood t x = tt

  approved : (w : World) (d e : Doing) (actor : ℕ) (x : Option TapErr) → Stood e → Tells d (tables.decided w actor e x)
  approved w d e actor None q = λ h k. q
  approved w d e actor (Some x) q = λ h k. tt

  routed : (w : World) (d : Doing) (x : Select) → Tells d (tables.routed w (name_of me n) x)
  routed w d select.NoQueue = λ h k. k
  routed w d select.Filtered = λ h k. k
  routed w d (select.Row row keep resizes capacity) = λ h k. (inl refl, tt)

  unless_bad : (w : World) (d : Doing) (x : Option BadFrame) (r : Effect) → Tells d r → Tells d (tables.unless_bad x w r)
  unless_bad w d None r h = h
  unless_bad w d (Some x) r h = λ h k. tt

  with_front : (w : World) (d : Doing) (x : Option Front) (r : Front → Effect) → ((f : Front) → Tells d (r f)) → Tells d (tables.with_front x w r)
  with_front w d None r h = λ h k. tt
  with_front w d (Some f) r h = h f

  reading : (w : World) (d : Doing) (file room : ℕ) (front : Front) → Tells d (tables.reads w file room front)
  reading w d file room front = go (nat_lt room (least_in front))
    where
      go : (c : Bool) → Tells d (if c then only (Ends (newest w) (answer.Room (least_in front))) w else only (Goes (newest w) (Reads file room front) (found.Version (newest w))) w)
      go true = λ h k. tt
      go false = λ h k. tt

  back_seen : (w : World) (d : Doing) (actor vhost r : ℕ) (v : Vhost) (x : Option TapText) → Tells d (back.back_seen w actor vhost r v x)
  back_seen w d actor vhost r v None = λ h k. tt
  back_seen w d actor vhost r v (Some x) = λ h k. tt

  looks_at : (w : World) (d : Doing) (t : Table) (c : Command) → AllTell d (tables.looks_at t w (name_of me n) c)
  looks_at w d t (command.Send device hdr bytes) =
      unless_bad w d (bad_in (sent_front hdr) (sent_bytes hdr bytes)) (tables.routed w (name_of me n) (steer.select t device (ether_in (sent_front hdr) (sent_bytes hdr bytes))))
      (routed w d (steer.select t device (ether_in (sent_front hdr) (sent_bytes hdr bytes))))
  looks_at w d t (command.Read file room) = with_front w d (steer.shape_of t file) (tables.reads w file room) (reading w d file room)
  looks_at w d t (command.Write file bytes) = with_front w d (steer.shape_of t file) (tables.writes t w file bytes)
      (λ front. unless_bad w d (bad_in front bytes)
      (only (Goes (newest w) (Hosts file (ether_in front bytes) (steer.learns t file)) (found.Version (newest w))) w) (λ h k. (inl refl, tt)))
  looks_at w d t c = tt

  looks : (s : Setup) (w : World) (d : Doing) (a : Actor) (c : Command) → AllTell d (tables.looks s w me a n c)
  looks s w d a c = go (op_of s c)
    where
      go : (o : Option Op) → AllTell d (option_map_or (tables.looks_to_change (table s w) w me) o (tables.looks_at (table s w) w (name_of me n) c))
      go None = looks_at w d (table s w) c
      go (Some x) = where_only (Tells d) (is_none w.writer) (tables.decided w me (tables.course (table s w) x) (refuse (table s w) x))
          (λ e. approved w d (tables.course (table s w) x) me (refuse (table s w) x) (course_stood (table s w) x))

  -- what was told of chains, where none is awaited, is told where one is
  told_on : (d : Doing) (ns : List Name) → All (λ m. (None ≡ Some m) ⊎ P m) ns → All (λ m. (awaited me n d ≡ Some m) ⊎ P m) ns
  told_on d ns a = all_weaker P (λ m. (awaited me n d ≡ Some m) ⊎ P m) ns (λ m p. inr p) (none_waits ns a)

  looks_at_flow : (s : Setup) (w : World) (d : Doing) → AllTell d (tx_turns.looks_at_flow s w d)
  looks_at_flow s w (Given file t told f) = λ h k. go (learns (table s w) file) h
    where
      go : (b : Bool) → All (λ m. (None ≡ Some m) ⊎ P m) (got_in told) → Stood (if b then Teaches file t told f else Transmits file t told)
      go true h = h
      go false h = told_on (Transmits file t told) (got_in told) h
  looks_at_flow s w d = tt

  look_row : (s : Setup) (w : World) (a : Actor) (c : Command) → AllTell a.doing (rows.look_row s w me a n c)
  look_row s w a (command.Backend vhost r file) =
      where_then (Tells a.doing) (at w.vhosts vhost) _ (λ v e. where_only (Tells a.doing) (is_none w.writer && (not (is_ring r) || is_none (turn_of r v)))
      (back.back_seen w me vhost r v (back.back_refusal (table s w) vhost r file)) (λ e. back_seen w a.doing me vhost r v (back.back_refusal (table s w) vhost r file)))
  look_row s w a (command.TxTurn vhost) = looks_at_flow s w a.doing
  look_row s w a c = looks s w a.doing a c

  -- ---- publications

  own_published : (w : World) (x : Op) (d : Doing) → AllTell d (tables.publishes_own w x d)
  own_published w x Changes = λ h k. tt
  own_published w x (Opened file) = λ h k. tt
  own_published w x (Withdraws file) = λ h k. tt
  own_published w x (Shrinks file places cuts) = where_then (Tells (Shrinks file places cuts)) (at w.files file) _ (λ f e. λ h k. tt)
  own_published w x d = tt

  publishes : (s : Setup) (w : World) (d : Doing) (c : Command) → AllTell d (tables.publishes s w me d c)
  publishes s w (Learns file ether) c =
      where_only (Tells (Learns file ether)) (is_none w.writer) (tables.learns_flow w file ether) (λ b. λ h k. none_waits (name_of me n ∷ []) h)
  publishes s w d c = own (Tells d) s w me d c (λ x. own_published w x d)

  teaches : (w : World) (d : Doing) → AllTell d (tx_turns.teaches w d)
  teaches w (Teaches file t told f) = where_only (Tells (Teaches file t told f)) (is_none w.writer)
      (record (only (Goes (newest w + 1) (Transmits file t told) (found.Version (newest w + 1))) w) { ops = op.Learn file f.flow ∷ [] })
      (λ b. λ h k. told_on (Transmits file t told) (got_in told) h)
  teaches w d = tt

  publishes_back : (w : World) (d : Doing) (c : Command) → AllTell d (back.publishes_back w d c)
  publishes_back w (Backed file) (command.Backend vhost r asked) = either (Tells (Backed file)) (r == 0) _ _ first second
    where
      first : Tells (Backed file) (record (only (Goes (newest w + 1) (Owns file (newest w + 1)) (found.Version (newest w + 1))) w) { ops = op.Back file (back.side_of r) (Some vhost) ∷ [] })
      first = λ h k. tt

      second : Tells (Backed file) (record (back.back_over w (newest w + 1) vhost r (newest w + 1)) { ops = op.Back file (back.side_of r) (Some vhost) ∷ [] })
      second = λ h k. tt
  publishes_back w (Disowned file) (command.Backend vhost r asked) = λ h k. tt
  publishes_back w (Released file) (command.Backend vhost r asked) = λ h k. tt
  publishes_back w d c = tt

  -- ---- frames

  claims : (w : World) (seen : ℕ) (d : Doing) → AllTell d (ring.claims w me n seen d)
  claims w seen (Routed file epoch len) = where_then (Tells (Routed file epoch len)) (at w.files file) _ (λ f e. λ h k. (inr k.0, tt))
  claims w seen d = tt

  puts : (w : World) (actor seen : ℕ) (d : Doing) → AllTell d (ring.puts w actor seen d)
  puts w actor seen (Placed file place epoch len) = λ h k. none_waits (name_of me n ∷ []) h
  puts w actor seen d = tt

  drops : (why : ℕ → File → Option Cause) (w : World) (seen : ℕ) (d : Doing) → AllTell d (ring.drops_for why w me n seen d)
  drops why w seen (Routed file epoch len) =
      where_then (Tells (Routed file epoch len)) (at w.files file) _ (λ f e1. where_then (Tells (Routed file epoch len)) (why epoch f) _ (λ x e2. λ h k. k))
  drops why w seen d = tt

  shuts : (w : World) (seen : ℕ) (d : Doing) → AllTell d (ring.shuts w seen d)
  shuts w seen (Withdrawn file version) = where_then (Tells (Withdrawn file version)) (at w.files file) _ (λ f e. λ h k. tt)
  shuts w seen d = tt

  reopens : (w : World) (seen : ℕ) (d : Doing) → AllTell d (ring.reopens w seen d)
  reopens w seen (Opens file) = where_then (Tells (Opens file)) (at w.files file) _ (λ f e. λ h k. tt)
  reopens w seen d = tt

  resizes : (w : World) (seen : ℕ) (d : Doing) → AllTell d (ring.resizes w seen d)
  resizes w seen (Resizes file capacity) = where_then (Tells (Resizes file capacity)) (at w.files file) _ (λ f e. λ h k. tt)
  resizes w seen d = tt

  cuts : (w : World) (seen : ℕ) (d : Doing) → AllTell d (ring.cuts w seen d)
  cuts w seen (Shrinks file places m) = where_then (Tells (Shrinks file places m)) (at w.files file) _
      (λ f e1. where_then (Tells (Shrinks file places m)) (ring.name_at f.line (last_that in_ring f.line)) _ (λ x e2. λ h k. tt))
  cuts w seen d = tt

  moves_in : (w : World) (d : Doing) (file : ℕ) → AllTell d (ring.moves_in w file)
  moves_in w d file = where_then (Tells d) (at w.files file) _
      (λ f e1. where_then (Tells d) (ring.name_at f.line (ready_front f.line)) _ (λ x e2. λ h k. tt))

  moves : (w : World) (d : Doing) → AllTell d (ring.moves w d)
  moves w (Reads file room front) = moves_in w (Reads file room front) file
  moves w (Purges file version) = moves_in w (Purges file version) file
  moves w d = tt

  leaves : (s : Setup) (w : World) (seen : ℕ) (d : Doing) → AllTell d (ring.leaves s w seen d)
  leaves s w seen (Reads file room front) = let d : Doing = Reads file room front in
      where_then (Tells d) (at w.files file) _ (λ f e1. where_then (Tells d) (first_that in_batch f.line) _
      (λ i e2. where_then (Tells d) (slice_get f.line i) _ (λ x e3. where_then (Tells d) (frame_of s x.name x.len) _ (λ y e4. λ h k. tt))))
  leaves s w seen (Purges file version) = let d : Doing = Purges file version in
      where_then (Tells d) (at w.files file) _
      (λ f e1. where_then (Tells d) (ring.name_at f.line (first_that in_batch f.line)) _ (λ x e2. λ h k. tt))
  leaves s w seen d = tt

  finds_none : (w : World) (seen : ℕ) (d : Doing) → AllTell d (ring.finds_none w seen d)
  finds_none w seen (Reads file room front) = where_then (Tells (Reads file room front)) (at w.files file) _
      (λ f e1. where_only (Tells (Reads file room front)) _ (only (Ends seen (answer.Again (front_place f))) w) (λ x. λ h k. tt))
  finds_none w seen d = tt

  meets_worker : (w : World) (seen : ℕ) (d : Doing) → AllTell d (ring.meets_worker w seen d)
  meets_worker w seen (Reads file room front) = where_then (Tells (Reads file room front)) (at w.files file) _
      (λ f e1. where_only (Tells (Reads file room front)) _ (only (Ends seen answer.Busy) w) (λ x. λ h k. tt))
  meets_worker w seen d = tt

  hosts : (w : World) (seen : ℕ) (d : Doing) → AllTell d (ring.hosts w me n seen d)
  hosts w seen (Hosts file ether true) = λ h k. (inr k.0, tt)
  hosts w seen (Hosts file ether false) = λ h k. k
  hosts w seen d = tt

  -- ---- guests: no answer tells a name

  poked : (bad : Option ℕ) → All P (accepted_in me n (control.poke_told bad))
  poked None = tt
  poked (Some bad) = tt

  peeked : (addr len : ℕ) (m : Contents) (bad : Option ℕ) → All P (accepted_in me n (control.peeked addr len m bad))
  peeked addr len m None = tt
  peeked addr len m (Some bad) = tt

  pokes : (w : World) (d : Doing) (seen : ℕ) (c : Command) → AllTell d (control.pokes w seen c)
  pokes w d seen (command.Poke guest addr bytes) = where_then (Tells d) (at w.guests guest) _ (λ g e. λ h k. poked (first_bad g.memory.regions addr (length bytes)))
  pokes w d seen (command.Peek guest addr len) = where_then (Tells d) (at w.guests guest) _ (λ g e. λ h k. peeked addr len g.memory (first_bad g.memory.regions addr len))
  pokes w d seen c = tt

  abbrev IsSilent : control.Call → Type 0
  IsSilent x = All P (accepted_in me n x.answer)

  abbrev Tacit : Answer → Type 0
  Tacit x = All P (accepted_in me n x)

  vhost_tacit : (e : VhostErr) → WhereSome Tacit (vhost_answer e)
  vhost_tacit e = go (vhost_text e)
    where
      go : (o : Option VhostText) → WhereSome Tacit (option_map (λ x. answer.Vhost x) o)
      go None = tt
      go (Some x) = tt

  told_by : (e : Option VhostErr) (x : Answer) → Tacit x → WhereSome Tacit (control.told_by e x)
  told_by None x h = h
  told_by (Some e) x h = vhost_tacit e

  called : (e : Option VhostErr) (changed : Settings) (x : Answer) (k : Option Kind) (v : Vhost) (m : Contents) → Tacit x
      → WhereSome IsSilent (control.called e changed x k v m)
  called e changed x k v m h = where_then IsSilent (control.told_by e x) _ (λ told q. where_some Tacit (control.told_by e x) told (told_by e x h) q)

  with_books : (k : Kind) (v : Vhost) (m : Contents) (o : Option Books) (call : Books → Option control.Call) → ((b : Books) → WhereSome IsSilent (call b))
      → WhereSome IsSilent (control.with_books k v m o call)
  with_books k v m None call h = tt
  with_books k v m (Some b) call h = h b

  refused : (k : Kind) (v : Vhost) (m : Contents) (o : Option DriveText) → WhereSome IsSilent (control.refused k v m o)
  refused k v m None = tt
  refused k v m (Some x) = tt

  posts : (vhost r : ℕ) (o : Option PostErr) (need : ℕ) (after : Contents) (b : Books) (v : Vhost) (m : Contents) → WhereSome IsSilent (control.posts vhost r o need after b v m)
  posts vhost r (Some e) need after b v m = refused (kind.Post vhost r) v m (control.post_told e)
  posts vhost r None need after b v m = tt

  stray : (o : Option ℕ) (x : Answer) → All P (accepted_in me n x) → All P (accepted_in me n (option_map_or (λ id. answer.Drive (drive_text.Stray id)) o x))
  stray None x h = h
  stray (Some id) x h = tt

  driven : (o : Option DriveErr) (vhost r : ℕ) (v : Vhost) (m : Contents) (x : control.Call) → IsSilent x
      → WhereSome IsSilent (option_map_or (λ e. control.refused (kind.Drive vhost r) v m (control.drive_told e)) o (Some x))
  driven None vhost r v m x h = h
  driven (Some e) vhost r v m x h = refused (kind.Drive vhost r) v m (control.drive_told e)

  driver_call : (c : Command) (v : Vhost) (m : Contents) → WhereSome IsSilent (control.driver_call c v m)
  driver_call (command.DriveAt vhost r addr) v m =
      let q = (ring_at r v.settings).queue.layout in
      driven (drive_refusal m addr q.num) vhost r v m (control.driven r (kind.Drive vhost r) v (first_books addr q.num q.event) m answer.Done) tt
  driver_call (command.PostIn vhost r lens) v m = with_books (kind.Post vhost r) v m (driver_of r v) _ (λ b. posts vhost r (post_in_refusal lens b) _ _ b v m)
  driver_call (command.PostOut vhost r bytes) v m = with_books (kind.Post vhost r) v m (driver_of r v) _ (λ b. posts vhost r (post_out_refusal (length bytes) b) _ _ b v m)
  driver_call (command.Harvest vhost r) v m = with_books (kind.Harvest vhost r) v m (driver_of r v) _
      (λ b. stray (harvested m b).stray (answer.Harvested (harvested m b).found) tt)
  driver_call c v m = tt

  call_of : (c : Command) (v : Vhost) (m : Contents) → WhereSome IsSilent (control.call_of c v m)
  call_of (command.Features vhost bits) v m = called (features_refusal bits v.settings) _ answer.Done _ v m tt
  call_of (command.VNum vhost r x) v m = called (num_refusal r x v.settings) _ answer.Done _ v m tt
  call_of (command.VBase vhost r x) v m = called (base_refusal r x v.settings) _ answer.Done _ v m tt
  call_of (command.VAddr vhost r desc avail used) v m = called (addr_refusal r desc avail used m v.settings) _ answer.Done _ v m tt
  call_of (command.GetBase vhost r) v m = called (number_refusal r) _ (answer.Base (ring_at r v.settings).queue.positions.next) _ v m tt
  call_of c v m = driver_call c v m

  calls : (w : World) (d : Doing) (actor seen : ℕ) (c : Command) → AllTell d (control.calls w actor seen c)
  calls w d actor seen c =
      where_then (Tells d) (control.driven_vhost c) _ (λ vhost e1. where_then (Tells d) (at w.vhosts vhost) _ (λ v e2. where_then (Tells d) (at w.guests v.guest) _
      (λ g e3. where_then (Tells d) (control.call_of c v g.memory) _ (λ x e4. where_only (Tells d) _ (control.call_effect w seen vhost v.guest x)
      (λ y. λ h k. where_some IsSilent (control.call_of c v g.memory) x (call_of c v g.memory) e4)))))

  -- ---- backends

  abbrev AreTacit : Option Answer → Type 0
  AreTacit o = WhereSome Tacit o

  refused_by : (e : Option VhostErr) → WhereSome AreTacit (back.refused_by e)
  refused_by None = tt
  refused_by (Some e) = go (vhost_answer e) (vhost_tacit e)
    where
      go : (k : Option Answer) → WhereSome Tacit k → WhereSome AreTacit (option_map (λ x. Some x) k)
      go None h = tt
      go (Some y) h = h

  back_answer : (e : Option VhostErr) (x : Option TapText) (f : Option VhostErr) → WhereSome AreTacit (back.back_answer e x f)
  back_answer (Some e) x f = refused_by (Some e)
  back_answer None (Some r) f = tt
  back_answer None None f = refused_by f

  sets_back : (w : World) (d : Doing) (actor seen vhost r file : ℕ) (x : Option TapText) (v : Vhost) (m : Contents) (y : Option Answer)
      → AreTacit y → Tells d (back.sets_back w actor seen vhost r file x v m y)
  sets_back w d actor seen vhost r file x v m (Some y) q = λ h k. q
  sets_back w d actor seen vhost r file x v m None q = λ h k. tt

  unsets_back : (w : World) (d : Doing) (actor seen vhost r : ℕ) (v : Vhost) (m : Contents) (y : Option Answer) (file : Option ℕ) → AreTacit y
      → Tells d (back.unsets_back w actor seen vhost r v m y file)
  unsets_back w d actor seen vhost r v m (Some y) file q = λ h k. q
  unsets_back w d actor seen vhost r v m None None q = λ h k. tt
  unsets_back w d actor seen vhost r v m None (Some file) q = λ h k. course_if Begun (r == 0) (Unbacked file) (Released file) tt tt

  backs : (s : Setup) (w : World) (actor seen : ℕ) (d : Doing) (c : Command) → AllTell d (back.backs s w actor seen d c)
  backs s w actor seen (Backs x) (command.Backend vhost r None) = let d : Doing = Backs x in
      where_then (Tells d) (at w.vhosts vhost) _ (λ v e1. where_then (Tells d) (at w.guests v.guest) _
      (λ g e2. unsetting (Tells d) s w actor seen x vhost r v g.memory
      (λ told e3. unsets_back w d actor seen vhost r v g.memory told (ring_at r v.settings).file (where_some AreTacit _ told (refused_by (number_refusal r)) e3))))
  backs s w actor seen (Backs x) (command.Backend vhost r (Some file)) = let d : Doing = Backs x in
      where_then (Tells d) (at w.vhosts vhost) _ (λ v e1. where_then (Tells d) (at w.guests v.guest) _
      (λ g e2. setting (Tells d) s w actor seen x vhost r file v g.memory
      (λ told e3. sets_back w d actor seen vhost r file x v g.memory told (where_some AreTacit _ told (back_answer _ x _) e3))))
  backs s w actor seen d c = tt

  drive_row : (s : Setup) (w : World) (actor seen : ℕ) (d : Doing) (c : Command) → AllTell d (rows.drive_row s w actor seen d c)
  drive_row s w actor seen Begun c = calls w Begun actor seen c
  drive_row s w actor seen d c = backs s w actor seen d c

  owns : (w : World) (seen : ℕ) (d : Doing) (c : Command) → AllTell d (back.owns w seen d c)
  owns w seen (Owns file version) (command.Backend vhost r asked) = λ h k. tt
  owns w seen (Unbacked file) (command.Backend vhost r asked) = λ h k. tt
  owns w seen d c = tt

  finds_off : (w : World) (seen : ℕ) (d : Doing) (c : Command) → AllTell d (rx_turns.finds_off w seen d c)
  finds_off w seen Begun c =
      where_then (Tells Begun) (rx_turns.turn_on c) _ (λ t e1. where_then (Tells Begun) (at w.vhosts t.0) _ (λ v e2. where_then (Tells Begun) (at w.guests v.guest) _
      (λ g e3. where_then (Tells Begun) (rx_turns.is_off t.0 t.1 v) _ (λ told e4. where_only (Tells Begun) _ (rx_turns.off_told w seen v g.memory told) (λ x. λ h k. tt)))))
  finds_off w seen d c = tt

  -- ---- turns

  rx_after : (seen file : ℕ) (t : RxTurn) (f : Found) (o : Option TurnText) → StoodAfter (rx_turns.rx_onward seen file t f o)
  rx_after seen file t f None = tt
  rx_after seen file t f (Some e) = tt

  rx_steps_on : (w : World) (d : Doing) (actor seen vhost file : ℕ) (t : RxTurn) (v : Vhost) (m : Contents) → AllTell d (rx_turns.rx_steps_on w actor seen vhost file t v m)
  rx_steps_on w d actor seen vhost file t v m = where_then (Tells d) (rx_step hand.Off (rx_turns.rx_state t v m)) _
      (λ made e. rx_stepped (Tells d) w actor seen vhost file t v made (λ f over e2 told. λ h k. rx_after seen file made.0.turn f over))

  tx_after : (seen file : ℕ) (t : TxTurn) (chains : List ChainText) (f : Found) (made : TxState × Act) → Adds chains made
      → All (λ m. (None ≡ Some m) ⊎ P m) (got_in chains) → (st : TxStage) → made.0.turn.stage ≡ st
      → (over : Option TurnText) → rx_turns.over_told (tx_turns.tx_over st) ≡ Some over
      → StoodAfter (tx_turns.tx_onward seen file made.0.turn (tx_turns.chains_after made.1 made.0.turn.held chains) f over)
  tx_after seen file t chains f made (Same e) h st is (Some x) told = subst (All P) (sym e) (none_waits (got_in chains) h)
  tx_after seen file t chains f made (OneMore g give held e) h (tx.Ended y) is (Some x) told = absurd (cc (give, is))
  tx_after seen file t chains f made (OneMore g give held e) h st is (Some x) told = absurd (cc (told))
  tx_after seen file t chains f made (Same e) h st is None told =
      let d : Doing = Transmits file made.0.turn (tx_turns.chains_after made.1 made.0.turn.held chains) in
      subst (All (λ m. (awaited me n d ≡ Some m) ⊎ P m)) (sym e) (told_on d (got_in chains) h)
  tx_after seen file t chains f made (OneMore g give held e) h st is None told =
      let d : Doing = Transmits file made.0.turn (tx_turns.chains_after made.1 made.0.turn.held chains) in
      let waits : awaited me n d ≡ Some g.name =
      ap (λ (x : TxStage). if is_giving x then option_map (λ (y : FrameValue). y.name) made.0.turn.held else None) give
      ∙ ap (λ (o : Option FrameValue). option_map (λ (y : FrameValue). y.name) o) held in
      subst (All (λ m. (awaited me n d ≡ Some m) ⊎ P m)) (sym e)
      (all_more (λ m. (awaited me n d ≡ Some m) ⊎ P m) (got_in chains) g.name (told_on d (got_in chains) h) (inl waits))

  tx_steps_on : (w : World) (d : Doing) (actor seen vhost file : ℕ) (t : TxTurn) (chains : List ChainText) (v : Vhost) (m : Contents) → is_giving t.stage ≡ false
      → (Stood d → All (λ x. (None ≡ Some x) ⊎ P x) (got_in chains)) → AllTell d (tx_turns.tx_steps_on w actor seen vhost file t chains v m)
  tx_steps_on w d actor seen vhost file t chains v m quiet before = where_then (Tells d) (tx_step (tx_turns.tx_state t v m)) _
      (λ made e. tx_made (Tells d) w actor seen vhost file chains v made (λ step over e2 end_. λ h k. tx_after seen file t chains _ made
      (where_some (Adds chains) (tx_step (tx_turns.tx_state t v m)) made (step_adds chains t.stage (tx_turns.tx_state t v m) quiet) e) (before h) made.0.turn.stage refl over end_))

  begins : (w : World) (seen : ℕ) (c : Command) → AllTell Begun (tx_turns.turn_begins w me n seen c)
  begins w seen c = where_then (Tells Begun) (rx_turns.turn_on c) _ (λ t e1. where_then (Tells Begun) (at w.vhosts t.0) _ (λ v e2. where_then (Tells Begun) (at w.guests v.guest) _
      (λ g e3. either (AllTell Begun) (t.1 == 0) (rx_turns.rx_begins w me seen t.0 v g.memory) (tx_turns.tx_begins w me n seen t.0 v g.memory)
      (where_then (Tells Begun) v.settings.rx.file _ (λ file e4. where_if (Tells Begun) (is_free 0 v && is_none v.settings.rx.queue.stopped)
      (rx_turns.rx_steps_on w me seen t.0 file (rx_begun v.settings.mrg (hdr_of v.settings)) v g.memory) (λ x. rx_steps_on w Begun me seen t.0 file (rx_begun v.settings.mrg (hdr_of v.settings)) v g.memory)))
      (where_then (Tells Begun) v.settings.tx.file _ (λ file e4. where_if (Tells Begun) (is_free 1 v && is_none v.settings.tx.queue.stopped)
      (tx_turns.tx_steps_on w me seen t.0 file (tx_begun (hdr_of v.settings) (name_of me n)) [] v g.memory)
      (λ x. tx_steps_on w Begun me seen t.0 file (tx_begun (hdr_of v.settings) (name_of me n)) [] v g.memory refl (λ h. tt)))))))

  not_awaited : (file : ℕ) (t : TxTurn) (chains : List ChainText) → is_giving t.stage ≡ false → Stood (Transmits file t chains) → All (λ m. (None ≡ Some m) ⊎ P m) (got_in chains)
  not_awaited file t chains quiet h =
      subst (λ (b : Bool). All (λ m. ((if b then option_map (λ (y : FrameValue). y.name) t.held else None) ≡ Some m) ⊎ P m) (got_in chains)) quiet h

  goes_on : (w : World) (actor seen : ℕ) (d : Doing) (vhost : ℕ) (v : Vhost) (m : Contents) → IsNotGiving d → AllTell d (tx_turns.goes_on w actor seen d vhost v m)
  goes_on w actor seen (Receives file t) vhost v m quiet = rx_steps_on w (Receives file t) actor seen vhost file t v m
  goes_on w actor seen (Transmits file t told) vhost v m quiet =
      tx_steps_on w (Transmits file t told) actor seen vhost file t told v m quiet (not_awaited file t told quiet)
  goes_on w actor seen d vhost v m quiet = tt

  turns : (w : World) (seen : ℕ) (d : Doing) (c : Command) → IsNotGiving d → AllTell d (tx_turns.turns w me n seen d c)
  turns w seen Begun c quiet = begins w seen c
  turns w seen d c quiet = turning (Tells d) w c (tx_turns.goes_on w me seen d) (λ vhost v m. goes_on w me seen d vhost v m quiet)

  hands : (s : Setup) (w : World) (actor seen : ℕ) (d : Doing) (c : Command) → AllTell d (tx_turns.hands s w actor seen d c)
  hands s w actor seen (Receives file t) c = let d : Doing = Receives file t in
      turning (Tells d) w c _ (λ vhost v m. where_then (Tells d) (at w.files file) _
      (λ f e1. where_then (Tells d) (changed (Takes vhost) f) _ (λ g e2. where_then (Tells d) (rx_turns.front_frame s g) _
      (λ frame e3. where_then (Tells d) (rx_step (hand.Got frame) (rx_turns.rx_state t v m)) _
      (λ made e. rx_taken (Tells d) w actor seen vhost file v frame made (λ over told. λ h k. rx_after seen file made.0.turn _ over))))))
  hands s w actor seen d c = tt

  finds_nothing : (w : World) (actor seen : ℕ) (d : Doing) (c : Command) → AllTell d (tx_turns.turn_finds_none w actor seen d c)
  finds_nothing w actor seen (Receives file t) c = let d : Doing = Receives file t in
      turning (Tells d) w c _ (λ vhost v m. where_then (Tells d) (at w.files file) _
      (λ f e1. where_then (Tells d) (rx_step (hand.NotReady (front_place f)) (rx_turns.rx_state t v m)) _
      (λ made e. rx_missed (Tells d) w actor seen vhost file v f made
      (λ over told. λ h k. rx_after seen file made.0.turn _ over))))
  finds_nothing w actor seen d c = tt

  -- the frame that is given is the awaited one
  gives : (w : World) (seen : ℕ) (d : Doing) (c : Command) → AllTell d (tx_turns.hosts_of_turn w seen d c)
  gives w seen (Transmits file t told) c = let d : Doing = Transmits file t told in
      turning (Tells d) w c _ (λ vhost v m. where_then (Tells d) t.held _
      (λ f held. where_then (Tells d) (tx_step (tx_turns.tx_state t v m)) _
      (λ made e2. λ h k. all_weaker (λ x. (awaited me n d ≡ Some x) ⊎ P x) (λ x. (None ≡ Some x) ⊎ P x) (got_in told)
      (λ x y. inr (⊎_elim (λ waits. given f x (is_giving t.stage) k.0
      (ap (λ (o : Option FrameValue). if is_giving t.stage then option_map (λ (z : FrameValue). z.name) o else None) (sym held) ∙ waits)) (λ p. p) y)) h)))
    where
      given : (f : FrameValue) (x : Name) (b : Bool) → P f.name → (if b then option_map (λ (z : FrameValue). z.name) (Some f) else None) ≡ Some x → P x
      given f x true p e = subst P (some_same f.name x e) p
      given f x false p e = absurd (none_awaited x e)
  gives w seen d c = tt

  -- ---- all rows

  pub row_tells : (s : Setup) (w : World) (k : EventKind) (a : Actor) (c : Command) → is_kind k (next_kind w a.doing c) ≡ true → AllTell a.doing (rows.row s w k me a n c)
  row_tells s w event.Look a c e = look_row s w a c
  row_tells s w event.Publish a c e = publication (Tells a.doing) s w me a.doing c (publishes_back w a.doing c) (teaches w a.doing) (publishes s w a.doing c)
  row_tells s w event.Claim a c e = claims w a.seen a.doing
  row_tells s w event.Ready a c e = puts w me a.seen a.doing
  row_tells s w event.Full a c e = drops ring.full_now w a.seen a.doing
  row_tells s w event.Gone a c e = drops ring.gone_now w a.seen a.doing
  row_tells s w event.Spent a c e = drops ring.spent_now w a.seen a.doing
  row_tells s w event.Shut a c e = held (Tells a.doing) w me (ring.shuts w a.seen a.doing) (shuts w a.seen a.doing)
  row_tells s w event.Reopen a c e = held (Tells a.doing) w me (ring.reopens w a.seen a.doing) (reopens w a.seen a.doing)
  row_tells s w event.Resize a c e = held (Tells a.doing) w me (ring.resizes w a.seen a.doing) (resizes w a.seen a.doing)
  row_tells s w event.Cut a c e = held (Tells a.doing) w me (ring.cuts w a.seen a.doing) (cuts w a.seen a.doing)
  row_tells s w event.Move a c e = moves w a.doing
  row_tells s w event.Hand a c e = hands s w me a.seen a.doing c
  row_tells s w event.PutBack a c e = turns w a.seen a.doing c (not_giving event.PutBack refl w a.doing c e)
  row_tells s w event.Out a c e = or_else (Tells a.doing) (ring.leaves s w a.seen a.doing) (tx_turns.turns w me n a.seen a.doing c)
      (leaves s w a.seen a.doing) (turns w a.seen a.doing c (not_giving event.Out refl w a.doing c e))
  row_tells s w event.NotReady a c e = or_else (Tells a.doing) (ring.finds_none w a.seen a.doing) (tx_turns.turn_finds_none w me a.seen a.doing c)
      (finds_none w a.seen a.doing) (finds_nothing w me a.seen a.doing c)
  row_tells s w event.Owner a c e = owning (Tells a.doing) w me a.seen a.doing c (owns w a.seen a.doing c) (meets_worker w a.seen a.doing) (finds_off w a.seen a.doing c)
  row_tells s w event.HostIn a c e = or_else (Tells a.doing) (ring.hosts w me n a.seen a.doing) (tx_turns.hosts_of_turn w a.seen a.doing c)
      (hosts w a.seen a.doing) (gives w a.seen a.doing c)
  row_tells s w event.Poke a c e = pokes w a.doing a.seen c
  row_tells s w event.Peek a c e = pokes w a.doing a.seen c
  row_tells s w event.Drive a c e = drive_row s w me a.seen a.doing c
  row_tells s w event.Fetch a c e = turns w a.seen a.doing c (not_giving event.Fetch refl w a.doing c e)
  row_tells s w event.Copy a c e = turns w a.seen a.doing c (not_giving event.Copy refl w a.doing c e)
  row_tells s w event.PublishUsed a c e = turns w a.seen a.doing c (not_giving event.PublishUsed refl w a.doing c e)
  row_tells s w event.Notices a c e = turns w a.seen a.doing c (not_giving event.Notices refl w a.doing c e)
