-- The names of every row of the table of events: none, or the next one of its command.
use Rattle.std.proofs.Common.{◌≡◌, ◌⊎◌, ℕ, ◌+◌, List, [], ◌∷◌, Bool, true, false, Option, Some, None, inl, inr, ⊎_elim, refl, sym, ap, ◌∙◌, subst, true≢false}
use Rattle.std.proofs.Common.{◌≤◌, ◌<◌, arith}
use Rattle.std.proofs.lemmas.Bool.Decides.{eqb_tells}
use Rattle.std.specs.Prelude.{if◌then◌else◌, ◌==◌, ◌&&◌, ◌||◌, is_none, not, nat_lt, slice_get}
use Rattle.std.specs.Option.{option_map_or}
use Rattle.guest_mem.specs.Memory.{Contents}
use Rattle.tap_frame.specs.declared.name.Name.{Name}
use Rattle.tap_frame.specs.declared.reading.BadFrame.{BadFrame}
use Rattle.tap_frame.specs.Frame.{FrameValue}
use Rattle.tap_ledger.specs.declared.act.Act.{Act}
use Rattle.tap_ledger.specs.declared.fate.Cause.{Cause}
use Rattle.tap_ledger.specs.declared.hand.Hand.TheVariants as hand
use Rattle.tap_ledger.specs.declared.error.TapErr.{TapErr}
use Rattle.tap_steer.specs.declared.operation.Op.{Op}
use Rattle.tap_steer.specs.declared.operation.Op.TheVariants as op
use Rattle.tap_steer.specs.declared.operation.TheConstants.{IFF_ATTACH_QUEUE}
use Rattle.tap_steer.specs.declared.selection.Select.{Select}
use Rattle.tap_steer.specs.declared.selection.Select.TheVariants as select
use Rattle.tap_steer.specs.Rules.{refuse}
use Rattle.tap_steer.specs.Select as steer
use Rattle.tap_steer.specs.Select.{learns}
use Rattle.tap_steer.specs.Table.{Table, file_at, is_set}
use Rattle.vhost_dev.specs.Settings.{hdr_of, ring_at}
use Rattle.vring_turns.specs.declared.stage.TxStage.{TxStage}
use Rattle.vring_turns.specs.declared.stage.TxStage.TheVariants as tx
use Rattle.vring_turns.specs.RxTurn.{RxTurn, rx_begun, rx_step}
use Rattle.vring_turns.specs.TxTurn.{TxState, TxTurn, tx_begun, tx_step}
use Rattle.scen_words.specs.declared.command.Command.{Command}
use Rattle.scen_words.specs.declared.command.Command.TheVariants as command
use Rattle.tap_trace.specs.declared.answer.Answer.{Answer}
use Rattle.tap_trace.specs.declared.answer.Answer.TheVariants as answer
use Rattle.tap_ledger.specs.declared.error.TapErr.{TapErr as TapText}
use Rattle.tap_trace.specs.declared.turn.ChainText.{ChainText}
use Rattle.tap_world.specs.declared.event.EventKind.{EventKind}
use Rattle.tap_world.specs.declared.event.EventKind.TheVariants as event
use Rattle.tap_world.specs.declared.event.Found.{Found}
use Rattle.tap_world.specs.declared.event.Found.TheVariants as found
use Rattle.tap_world.specs.ByNumber.{at}
use Rattle.tap_world.specs.Frames.{Front, bad_in, ether_in, least_in, sent_bytes, sent_front}
use Rattle.tap_world.specs.Setup.{Setup, op_of, frame_of}
use Rattle.tap_world.specs.Line.{File, first_that, front_place, in_batch, in_ring, last_that}
use Rattle.tap_world.specs.LineSteps.{changed, ready_front}
use Rattle.tap_world.specs.LineSteps.Change.{Takes}
use Rattle.tap_world.specs.Guests.{Vhost, is_free, is_ring, turn_of}
use Rattle.tap_world.specs.World.{Actor, Doing, World, name_of, newest, table}
use Rattle.tap_world.specs.World.Doing.{Backed, Backs, Begun, Changes, Disowned, Given, Hosts, Learns, Opened, Opens, Owns, Placed, Purges, Reads, Receives, Released, Resizes, Routed, Shrinks, Teaches, Transmits, Unbacked, Withdrawn, Withdraws}
use Rattle.tap_world.specs.Effect.{Effect, Onward, only}
use Rattle.tap_world.specs.Effect.Onward.{Ends, Goes, Stays}
use Rattle.tap_world.specs.Stands.{names_of, placed_by, times_in}
use Rattle.vring_turns.specs.Stage.{is_giving}
use Rattle.tap_world.specs.Scripts.{is_kind, next_kind, tx_next_kind}
use Rattle.tap_world.specs.SoundActors.{can_be}
use Rattle.vring_turns.specs.TxTurn.{tx_next}
use Rattle.vring_turns.specs.declared.stage.RxStage.{RxStage}
use Rattle.vring_turns.specs.declared.stage.RxStage.TheVariants as rx
use Rattle.tap_world.specs.Step as rows
use Rattle.tap_world.specs.StepBackend as back
use Rattle.tap_world.specs.StepControl as control
use Rattle.tap_world.specs.StepRing as ring
use Rattle.tap_world.specs.StepTable as tables
use Rattle.tap_world.specs.StepTurns as rx_turns
use Rattle.tap_world.specs.StepTransmits as tx_turns
use Rattle.tap_sound.proofs.Kit.{WhereSome, either, some_same, where_if, where_only, where_some, where_then}
use Rattle.tap_sound.proofs.Steps.{held, or_else, own, owning, publication, turning, tx_made, rx_missed, rx_stepped, rx_taken, setting, unsetting}
use Rattle.tap_sound.proofs.NamesRows.{IsNotGiving, not_giving}
use Rattle.tap_sound.proofs.ShapeRows.{look_first}
use Rattle.tap_sound.proofs.FreshTurns.{Accepts, Gives, give_accepts, step_accepts}
use Rattle.tap_sound.proofs.FreshTurns.Accepts.{AsBefore, OneMore}
use Rattle.tap_trace.specs.declared.turn.TurnText.{TurnText}

give_stage : (st : TxStage) → is_kind event.HostIn (tx_next_kind st) ≡ true → st ≡ tx.Give
give_stage tx.Give e = refl
give_stage st e = absurd (true≢false (sym e))

-- the name of a command's frame by the number of those before it
abbrev pub part : ℕ → ℕ → ℕ → Name
part me n k = record { actor = me; turn = n; part = k }

apart : (me n j k : ℕ) → k < j → times_in (part me n j) (part me n k ∷ []) ≡ 0
apart me n j k lt = ⊎_elim
    (λ t. let same = t.1 in absurd (omega (arith, lt, same)))
    (λ t. ap (λ (b : Bool). (if b then 1 else 0) + 0) (ap (λ (b : Bool). me == me && n == n && b) t.0 ∙ none (me == me && n == n)))
    (eqb_tells j k)
  where
    none : (b : Bool) → (b && false) ≡ false
    none true = refl
    none false = refl

-- a transmit turn's next names are free
abbrev pub FreshTurn : ℕ → ℕ → (Name → Type 0) → TxTurn → Type 0
FreshTurn me n Q t = (t.first ≡ part me n 0) × ((k : ℕ) → t.accepted ≤ k → Q (part me n k))

-- and so is that of the frame that it gives to the host next
abbrev pub FreshFrame : ℕ → ℕ → (Name → Type 0) → TxTurn → Type 0
FreshFrame me n Q t = is_giving t.stage ≡ true → (f : FrameValue) → t.held ≡ Some f → (k : ℕ) × (f.name ≡ part me n k) × (k < t.accepted) × Q (part me n k)

-- a command's names that don't stand yet are free
abbrev pub Fresh : ℕ → ℕ → (Name → Type 0) → Doing → Type 0
Fresh me n Q Begun = (k : ℕ) → Q (part me n k)
Fresh me n Q (Routed file epoch len) = Q (part me n 0)
Fresh me n Q (Hosts file ether learns) = Q (part me n 0)
Fresh me n Q (Transmits file t chains) = FreshTurn me n Q t × FreshFrame me n Q t
Fresh me n Q (Given file t chains f) = FreshTurn me n Q t × (is_giving t.stage ≡ false)
Fresh me n Q (Teaches file t chains f) = FreshTurn me n Q t × (is_giving t.stage ≡ false)
Fresh me n Q d = Unit {0}

-- F: the name stands nowhere before the event, G: nor after it; the actor and the number of its command
module _ (F G : Name → Type 0) (me n : ℕ) where
  abbrev pub FreshAfter : Doing → Onward → Type 0
  FreshAfter d (Goes seen e f) = Fresh me n G e
  FreshAfter d (Ends seen y) = Unit {0}
  FreshAfter d (Stays f) = Fresh me n G d

  abbrev pub OneName : List Name → Type 0
  OneName ns = (ns ≡ []) ⊎ ((k : ℕ) × (ns ≡ part me n k ∷ []) × F (part me n k))

  -- the row has no name, or a free one; and the names that are left are free after it
  abbrev pub Tells : Doing → Effect → Type 0
  Tells d r = Fresh me n F d → OneName (names_of r) × (((m : Name) → F m → times_in m (names_of r) ≡ 0 → G m) → FreshAfter d r.onward)

  abbrev AllTell : Doing → Option Effect → Type 0
  AllTell d o = WhereSome (Tells d) o

  turn_on : (t : TxTurn) → ((m : Name) → F m → G m) → FreshTurn me n F t → FreshTurn me n G t
  turn_on t g h = (h.0, λ k le. g (part me n k) (h.1 k le))

  -- ---- looks

  course_if : (d0 : Doing) (b : Bool) (d e : Doing) → Fresh me n G d → Fresh me n G e → Fresh me n G (if b then d else e)
  course_if d0 true d e x y = x
  course_if d0 false d e x y = y

  course_fresh : (t : Table) (x : Op) → Fresh me n G (tables.course t x)
  course_fresh t (op.SetIff file device flags) = tt
  course_fresh t (op.SetQueue file flags) = course_if Begun (is_set flags IFF_ATTACH_QUEUE) (Opens file) (Withdraws file) tt tt
  course_fresh t (op.Shut file) = course_if Begun (tables.is_enabled (file_at t file).attachment) (Withdraws file) Changes tt tt
  course_fresh t (op.Resize file capacity) = tt
  course_fresh t x = tt

  approved : (w : World) (d e : Doing) (actor : ℕ) (x : Option TapErr) → Fresh me n G e → Tells d (tables.decided w actor e x)
  approved w d e actor None q = λ h. (inl refl, λ g. q)
  approved w d e actor (Some x) q = λ h. (inl refl, λ g. tt)

  routed : (w : World) (d : Doing) → (Fresh me n F d → F (part me n 0)) → (x : Select) → Tells d (tables.routed w (name_of me n) x)
  routed w d free select.NoQueue = λ h. (inr (0, refl, free h), λ g. tt)
  routed w d free select.Filtered = λ h. (inr (0, refl, free h), λ g. tt)
  routed w d free (select.Row row keep resizes capacity) = λ h. (inl refl, λ g. g (part me n 0) (free h) refl)

  unless_bad : (w : World) (d : Doing) (x : Option BadFrame) (r : Effect) → Tells d r → Tells d (tables.unless_bad x w r)
  unless_bad w d None r h = h
  unless_bad w d (Some x) r h = λ h. (inl refl, λ g. tt)

  with_front : (w : World) (d : Doing) (x : Option Front) (r : Front → Effect) → ((f : Front) → Tells d (r f)) → Tells d (tables.with_front x w r)
  with_front w d None r h = λ h. (inl refl, λ g. tt)
  with_front w d (Some f) r h = h f

  reading : (w : World) (d : Doing) (file room : ℕ) (front : Front) → Tells d (tables.reads w file room front)
  reading w d file room front = go (nat_lt room (least_in front))
    where
      go : (c : Bool) → Tells d (if c then only (Ends (newest w) (answer.Room (least_in front))) w else only (Goes (newest w) (Reads file room front) (found.Version (newest w))) w)
      go true = λ h. (inl refl, λ g. tt)
      go false = λ h. (inl refl, λ g. tt)

  back_seen : (w : World) (d : Doing) (actor vhost r : ℕ) (v : Vhost) (x : Option TapText) → Tells d (back.back_seen w actor vhost r v x)
  back_seen w d actor vhost r v None = λ h. (inl refl, λ g. tt)
  back_seen w d actor vhost r v (Some x) = λ h. (inl refl, λ g. tt)

  looks_at : (w : World) (d : Doing) → (Fresh me n F d → F (part me n 0)) → (t : Table) (c : Command) → AllTell d (tables.looks_at t w (name_of me n) c)
  looks_at w d free t (command.Send device hdr bytes) =
      unless_bad w d (bad_in (sent_front hdr) (sent_bytes hdr bytes)) (tables.routed w (name_of me n) (steer.select t device (ether_in (sent_front hdr) (sent_bytes hdr bytes))))
      (routed w d free (steer.select t device (ether_in (sent_front hdr) (sent_bytes hdr bytes))))
  looks_at w d free t (command.Read file room) = with_front w d (steer.shape_of t file) (tables.reads w file room) (reading w d file room)
  looks_at w d free t (command.Write file bytes) = with_front w d (steer.shape_of t file) (tables.writes t w file bytes)
      (λ front. unless_bad w d (bad_in front bytes)
      (only (Goes (newest w) (Hosts file (ether_in front bytes) (steer.learns t file)) (found.Version (newest w))) w) (λ h. (inl refl, λ g. g (part me n 0) (free h) refl)))
  looks_at w d free t c = tt

  looks : (s : Setup) (w : World) (d : Doing) → (Fresh me n F d → F (part me n 0)) → (a : Actor) (c : Command) → AllTell d (tables.looks s w me a n c)
  looks s w d free a c = go (op_of s c)
    where
      go : (o : Option Op) → AllTell d (option_map_or (tables.looks_to_change (table s w) w me) o (tables.looks_at (table s w) w (name_of me n) c))
      go None = looks_at w d free (table s w) c
      go (Some x) = where_only (Tells d) (is_none w.writer) (tables.decided w me (tables.course (table s w) x) (refuse (table s w) x))
          (λ e. approved w d (tables.course (table s w) x) me (refuse (table s w) x) (course_fresh (table s w) x))

  looks_at_flow : (s : Setup) (w : World) (d : Doing) → AllTell d (tx_turns.looks_at_flow s w d)
  looks_at_flow s w (Given file t told f) = λ h. (inl refl, λ g. go (learns (table s w) file) (turn_on t (λ m x. g m x refl) h.0) h.1)
    where
      go : (b : Bool) → FreshTurn me n G t → is_giving t.stage ≡ false → Fresh me n G (if b then Teaches file t told f else Transmits file t told)
      go true h quiet = (h, quiet)
      go false h quiet = (h, λ give. absurd (true≢false (sym give ∙ quiet)))
  looks_at_flow s w d = tt

  look_row : (s : Setup) (w : World) (a : Actor) (c : Command) → is_kind event.Look (next_kind w a.doing c) ≡ true → can_be a.doing c ≡ true → AllTell a.doing (rows.look_row s w me a n c)
  look_row s w a (command.Backend vhost r file) k can =
      where_then (Tells a.doing) (at w.vhosts vhost) _ (λ v e. where_only (Tells a.doing) (is_none w.writer && (not (is_ring r) || is_none (turn_of r v)))
      (back.back_seen w me vhost r v (back.back_refusal (table s w) vhost r file)) (λ e. back_seen w a.doing me vhost r v (back.back_refusal (table s w) vhost r file)))
  look_row s w a (command.TxTurn vhost) k can = looks_at_flow s w a.doing
  look_row s w a c k can = looks s w a.doing (λ h. subst (λ (d : Doing). Fresh me n F d) (look_first w a.doing c k can refl) h 0) a c

  -- ---- publications

  own_published : (w : World) (x : Op) (d : Doing) → AllTell d (tables.publishes_own w x d)
  own_published w x Changes = λ h. (inl refl, λ g. tt)
  own_published w x (Opened file) = λ h. (inl refl, λ g. tt)
  own_published w x (Withdraws file) = λ h. (inl refl, λ g. tt)
  own_published w x (Shrinks file places cuts) = where_then (Tells (Shrinks file places cuts)) (at w.files file) _ (λ f e. λ h. (inl refl, λ g. tt))
  own_published w x d = tt

  publishes : (s : Setup) (w : World) (d : Doing) (c : Command) → AllTell d (tables.publishes s w me d c)
  publishes s w (Learns file ether) c =
      where_only (Tells (Learns file ether)) (is_none w.writer) (tables.learns_flow w file ether) (λ b. λ h. (inl refl, λ g. tt))
  publishes s w d c = own (Tells d) s w me d c (λ x. own_published w x d)

  teaches : (w : World) (d : Doing) → AllTell d (tx_turns.teaches w d)
  teaches w (Teaches file t told f) = where_only (Tells (Teaches file t told f)) (is_none w.writer)
      (record (only (Goes (newest w + 1) (Transmits file t told) (found.Version (newest w + 1))) w) { ops = op.Learn file f.flow ∷ [] })
      (λ b. λ h. (inl refl, λ g. (turn_on t (λ m x. g m x refl) h.0, λ give. absurd (true≢false (sym give ∙ h.1)))))
  teaches w d = tt

  publishes_back : (w : World) (d : Doing) (c : Command) → AllTell d (back.publishes_back w d c)
  publishes_back w (Backed file) (command.Backend vhost r asked) = either (Tells (Backed file)) (r == 0) _ _ first second
    where
      first : Tells (Backed file) (record (only (Goes (newest w + 1) (Owns file (newest w + 1)) (found.Version (newest w + 1))) w) { ops = op.Back file (back.side_of r) (Some vhost) ∷ [] })
      first = λ h. (inl refl, λ g. tt)

      second : Tells (Backed file) (record (back.back_over w (newest w + 1) vhost r (newest w + 1)) { ops = op.Back file (back.side_of r) (Some vhost) ∷ [] })
      second = λ h. (inl refl, λ g. tt)
  publishes_back w (Disowned file) (command.Backend vhost r asked) = λ h. (inl refl, λ g. tt)
  publishes_back w (Released file) (command.Backend vhost r asked) = λ h. (inl refl, λ g. tt)
  publishes_back w d c = tt

  -- ---- frames

  claims : (w : World) (seen : ℕ) (d : Doing) → AllTell d (ring.claims w me n seen d)
  claims w seen (Routed file epoch len) = where_then (Tells (Routed file epoch len)) (at w.files file) _ (λ f e. λ h. (inr (0, refl, h), λ g. tt))
  claims w seen d = tt

  puts : (w : World) (actor seen : ℕ) (d : Doing) → AllTell d (ring.puts w actor seen d)
  puts w actor seen (Placed file place epoch len) = λ h. (inl refl, λ g. tt)
  puts w actor seen d = tt

  drops : (why : ℕ → File → Option Cause) (w : World) (seen : ℕ) (d : Doing) → AllTell d (ring.drops_for why w me n seen d)
  drops why w seen (Routed file epoch len) =
      where_then (Tells (Routed file epoch len)) (at w.files file) _ (λ f e1. where_then (Tells (Routed file epoch len)) (why epoch f) _ (λ x e2. λ h. (inr (0, refl, h), λ g. tt)))
  drops why w seen d = tt

  shuts : (w : World) (seen : ℕ) (d : Doing) → AllTell d (ring.shuts w seen d)
  shuts w seen (Withdrawn file version) = where_then (Tells (Withdrawn file version)) (at w.files file) _ (λ f e. λ h. (inl refl, λ g. tt))
  shuts w seen d = tt

  reopens : (w : World) (seen : ℕ) (d : Doing) → AllTell d (ring.reopens w seen d)
  reopens w seen (Opens file) = where_then (Tells (Opens file)) (at w.files file) _ (λ f e. λ h. (inl refl, λ g. tt))
  reopens w seen d = tt

  resizes : (w : World) (seen : ℕ) (d : Doing) → AllTell d (ring.resizes w seen d)
  resizes w seen (Resizes file capacity) = where_then (Tells (Resizes file capacity)) (at w.files file) _ (λ f e. λ h. (inl refl, λ g. tt))
  resizes w seen d = tt

  cuts : (w : World) (seen : ℕ) (d : Doing) → AllTell d (ring.cuts w seen d)
  cuts w seen (Shrinks file places m) = where_then (Tells (Shrinks file places m)) (at w.files file) _
      (λ f e1. where_then (Tells (Shrinks file places m)) (ring.name_at f.line (last_that in_ring f.line)) _ (λ x e2. λ h. (inl refl, λ g. tt)))
  cuts w seen d = tt

  moves_in : (w : World) (d : Doing) (file : ℕ) → Fresh me n G d → AllTell d (ring.moves_in w file)
  moves_in w d file q = where_then (Tells d) (at w.files file) _
      (λ f e1. where_then (Tells d) (ring.name_at f.line (ready_front f.line)) _ (λ x e2. λ h. (inl refl, λ g. q)))

  moves : (w : World) (d : Doing) → AllTell d (ring.moves w d)
  moves w (Reads file room front) = moves_in w (Reads file room front) file tt
  moves w (Purges file version) = moves_in w (Purges file version) file tt
  moves w d = tt

  leaves : (s : Setup) (w : World) (seen : ℕ) (d : Doing) → AllTell d (ring.leaves s w seen d)
  leaves s w seen (Reads file room front) = let d : Doing = Reads file room front in
      where_then (Tells d) (at w.files file) _ (λ f e1. where_then (Tells d) (first_that in_batch f.line) _
      (λ i e2. where_then (Tells d) (slice_get f.line i) _ (λ x e3. where_then (Tells d) (frame_of s x.name x.len) _ (λ y e4. λ h. (inl refl, λ g. tt)))))
  leaves s w seen (Purges file version) = let d : Doing = Purges file version in
      where_then (Tells d) (at w.files file) _
      (λ f e1. where_then (Tells d) (ring.name_at f.line (first_that in_batch f.line)) _ (λ x e2. λ h. (inl refl, λ g. tt)))
  leaves s w seen d = tt

  finds_none : (w : World) (seen : ℕ) (d : Doing) → AllTell d (ring.finds_none w seen d)
  finds_none w seen (Reads file room front) = where_then (Tells (Reads file room front)) (at w.files file) _
      (λ f e1. where_only (Tells (Reads file room front)) _ (only (Ends seen (answer.Again (front_place f))) w) (λ x. λ h. (inl refl, λ g. tt)))
  finds_none w seen d = tt

  meets_worker : (w : World) (seen : ℕ) (d : Doing) → AllTell d (ring.meets_worker w seen d)
  meets_worker w seen (Reads file room front) = where_then (Tells (Reads file room front)) (at w.files file) _
      (λ f e1. where_only (Tells (Reads file room front)) _ (only (Ends seen answer.Busy) w) (λ x. λ h. (inl refl, λ g. tt)))
  meets_worker w seen d = tt

  hosts : (w : World) (seen : ℕ) (d : Doing) → AllTell d (ring.hosts w me n seen d)
  hosts w seen (Hosts file ether true) = λ h. (inr (0, refl, h), λ g. tt)
  hosts w seen (Hosts file ether false) = λ h. (inr (0, refl, h), λ g. tt)
  hosts w seen d = tt

  -- ---- guests

  pokes : (w : World) (d : Doing) (seen : ℕ) (c : Command) → AllTell d (control.pokes w seen c)
  pokes w d seen (command.Poke guest addr bytes) = where_then (Tells d) (at w.guests guest) _ (λ g e. λ h. (inl refl, λ g. tt))
  pokes w d seen (command.Peek guest addr len) = where_then (Tells d) (at w.guests guest) _ (λ g e. λ h. (inl refl, λ g. tt))
  pokes w d seen c = tt

  calls : (w : World) (d : Doing) (actor seen : ℕ) (c : Command) → AllTell d (control.calls w actor seen c)
  calls w d actor seen c =
      where_then (Tells d) (control.driven_vhost c) _ (λ vhost e1. where_then (Tells d) (at w.vhosts vhost) _ (λ v e2. where_then (Tells d) (at w.guests v.guest) _
      (λ g e3. where_then (Tells d) (control.call_of c v g.memory) _ (λ x e4. where_only (Tells d) _ (control.call_effect w seen vhost v.guest x)
      (λ y. λ h. (inl refl, λ g. tt))))))

  -- ---- backends

  sets_back : (w : World) (d : Doing) (actor seen vhost r file : ℕ) (x : Option TapText) (v : Vhost) (m : Contents) (y : Option Answer)
      → Tells d (back.sets_back w actor seen vhost r file x v m y)
  sets_back w d actor seen vhost r file x v m (Some y) = λ h. (inl refl, λ g. tt)
  sets_back w d actor seen vhost r file x v m None = λ h. (inl refl, λ g. tt)

  unsets_back : (w : World) (d : Doing) (actor seen vhost r : ℕ) (v : Vhost) (m : Contents) (y : Option Answer) (file : Option ℕ)
      → Tells d (back.unsets_back w actor seen vhost r v m y file)
  unsets_back w d actor seen vhost r v m (Some y) file = λ h. (inl refl, λ g. tt)
  unsets_back w d actor seen vhost r v m None None = λ h. (inl refl, λ g. tt)
  unsets_back w d actor seen vhost r v m None (Some file) = λ h. (inl refl, λ g. course_if Begun (r == 0) (Unbacked file) (Released file) tt tt)

  backs : (s : Setup) (w : World) (actor seen : ℕ) (d : Doing) (c : Command) → AllTell d (back.backs s w actor seen d c)
  backs s w actor seen (Backs x) (command.Backend vhost r None) = let d : Doing = Backs x in
      where_then (Tells d) (at w.vhosts vhost) _ (λ v e1. where_then (Tells d) (at w.guests v.guest) _
      (λ g e2. unsetting (Tells d) s w actor seen x vhost r v g.memory
      (λ told e3. unsets_back w d actor seen vhost r v g.memory told (ring_at r v.settings).file)))
  backs s w actor seen (Backs x) (command.Backend vhost r (Some file)) = let d : Doing = Backs x in
      where_then (Tells d) (at w.vhosts vhost) _ (λ v e1. where_then (Tells d) (at w.guests v.guest) _
      (λ g e2. setting (Tells d) s w actor seen x vhost r file v g.memory
      (λ told e3. sets_back w d actor seen vhost r file x v g.memory told)))
  backs s w actor seen d c = tt

  drive_row : (s : Setup) (w : World) (actor seen : ℕ) (d : Doing) (c : Command) → AllTell d (rows.drive_row s w actor seen d c)
  drive_row s w actor seen Begun c = calls w Begun actor seen c
  drive_row s w actor seen d c = backs s w actor seen d c

  owns : (w : World) (seen : ℕ) (d : Doing) (c : Command) → AllTell d (back.owns w seen d c)
  owns w seen (Owns file version) (command.Backend vhost r asked) = λ h. (inl refl, λ g. tt)
  owns w seen (Unbacked file) (command.Backend vhost r asked) = λ h. (inl refl, λ g. tt)
  owns w seen d c = tt

  finds_off : (w : World) (seen : ℕ) (d : Doing) (c : Command) → AllTell d (rx_turns.finds_off w seen d c)
  finds_off w seen Begun c =
      where_then (Tells Begun) (rx_turns.turn_on c) _ (λ t e1. where_then (Tells Begun) (at w.vhosts t.0) _ (λ v e2. where_then (Tells Begun) (at w.guests v.guest) _
      (λ g e3. where_then (Tells Begun) (rx_turns.is_off t.0 t.1 v) _ (λ told e4. where_only (Tells Begun) _ (rx_turns.off_told w seen v g.memory told) (λ x. λ h. (inl refl, λ g. tt))))))
  finds_off w seen d c = tt

  -- ---- turns

  rx_after : (d : Doing) (seen file : ℕ) (t : RxTurn) (f : Found) (o : Option TurnText) → FreshAfter d (rx_turns.rx_onward seen file t f o)
  rx_after d seen file t f None = tt
  rx_after d seen file t f (Some e) = tt

  rx_none : (vhost file : ℕ) (t : RxTurn) (st : RxStage) → placed_by (rx_turns.rx_change vhost file t st) ≡ []
  rx_none vhost file t rx.Out = refl
  rx_none vhost file t (rx.Discard had) = refl
  rx_none vhost file t (rx.PutBack e) = refl
  rx_none vhost file t st = refl

  rx_steps_on : (w : World) (d : Doing) (actor seen vhost file : ℕ) (t : RxTurn) (v : Vhost) (m : Contents) → AllTell d (rx_turns.rx_steps_on w actor seen vhost file t v m)
  rx_steps_on w d actor seen vhost file t v m = where_then (Tells d) (rx_step hand.Off (rx_turns.rx_state t v m)) _
      (λ made e. rx_stepped (Tells d) w actor seen vhost file t v made
      (λ f over e2 told. λ h. (inl (rx_none vhost file t t.stage), λ g. rx_after d seen file made.0.turn f over)))

  fresh_step : (t : TxTurn) (made : TxState × Act) → Accepts t made → ((m : Name) → F m → G m) → FreshTurn me n F t → FreshTurn me n G made.0.turn × FreshFrame me n G made.0.turn
  fresh_step t made (AsBefore first accepted quiet) g h = (
    (first ∙ h.0, λ k le. g (part me n k) (h.1 k (omega (arith, accepted, le)))),
    λ give. absurd (true≢false (sym give ∙ quiet)),
  )
  fresh_step t made (OneMore f first accepted held name) g h = (
    (first ∙ h.0, λ k le. g (part me n k) (h.1 k (omega (arith, accepted, le)))),
    λ give f2 held2. (
      t.accepted,
      ap (λ (y : FrameValue). y.name) (some_same f2 f (sym held2 ∙ held)) ∙ name ∙ ap (λ (m : Name). record m { part = t.accepted }) h.0,
      omega (arith, accepted),
      g (part me n t.accepted) (h.1 t.accepted (omega arith)),
    ),
  )

  tx_after : (d : Doing) (seen file : ℕ) (chains : List ChainText) (f : Found) (t : TxTurn) (over : Option TurnText) → FreshTurn me n G t × FreshFrame me n G t
      → FreshAfter d (tx_turns.tx_onward seen file t chains f over)
  tx_after d seen file chains f t (Some x) h = tt
  tx_after d seen file chains f t None h = h

  tx_steps_on : (w : World) (d : Doing) (actor seen vhost file : ℕ) (t : TxTurn) (chains : List ChainText) (v : Vhost) (m : Contents) → is_giving t.stage ≡ false
      → (Fresh me n F d → FreshTurn me n F t) → AllTell d (tx_turns.tx_steps_on w actor seen vhost file t chains v m)
  tx_steps_on w d actor seen vhost file t chains v m quiet before = where_then (Tells d) (tx_step (tx_turns.tx_state t v m)) _
      (λ made e. tx_made (Tells d) w actor seen vhost file chains v made (λ step over e2 end_. λ h. (
        inl refl,
        λ g. tx_after d seen file _ _ made.0.turn over
            (fresh_step t made (where_some (Accepts t) (tx_step (tx_turns.tx_state t v m)) made (step_accepts t.stage (tx_turns.tx_state t v m) quiet) e)
            (λ x y. g x y refl) (before h)),
      )))

  begins : (w : World) (seen : ℕ) (c : Command) → AllTell Begun (tx_turns.turn_begins w me n seen c)
  begins w seen c = where_then (Tells Begun) (rx_turns.turn_on c) _ (λ t e1. where_then (Tells Begun) (at w.vhosts t.0) _ (λ v e2. where_then (Tells Begun) (at w.guests v.guest) _
      (λ g e3. either (AllTell Begun) (t.1 == 0) (rx_turns.rx_begins w me seen t.0 v g.memory) (tx_turns.tx_begins w me n seen t.0 v g.memory)
      (where_then (Tells Begun) v.settings.rx.file _ (λ file e4. where_if (Tells Begun) (is_free 0 v && is_none v.settings.rx.queue.stopped)
      (rx_turns.rx_steps_on w me seen t.0 file (rx_begun v.settings.mrg (hdr_of v.settings)) v g.memory) (λ x. rx_steps_on w Begun me seen t.0 file (rx_begun v.settings.mrg (hdr_of v.settings)) v g.memory)))
      (where_then (Tells Begun) v.settings.tx.file _ (λ file e4. where_if (Tells Begun) (is_free 1 v && is_none v.settings.tx.queue.stopped)
      (tx_turns.tx_steps_on w me seen t.0 file (tx_begun (hdr_of v.settings) (name_of me n)) [] v g.memory)
      (λ x. tx_steps_on w Begun me seen t.0 file (tx_begun (hdr_of v.settings) (name_of me n)) [] v g.memory refl (λ h. (refl, λ k le. h k))))))))

  goes_on : (w : World) (actor seen : ℕ) (d : Doing) (vhost : ℕ) (v : Vhost) (m : Contents) → IsNotGiving d → AllTell d (tx_turns.goes_on w actor seen d vhost v m)
  goes_on w actor seen (Receives file t) vhost v m quiet = rx_steps_on w (Receives file t) actor seen vhost file t v m
  goes_on w actor seen (Transmits file t told) vhost v m quiet = tx_steps_on w (Transmits file t told) actor seen vhost file t told v m quiet (λ h. h.0)
  goes_on w actor seen d vhost v m quiet = tt

  turns : (w : World) (seen : ℕ) (d : Doing) (c : Command) → IsNotGiving d → AllTell d (tx_turns.turns w me n seen d c)
  turns w seen Begun c quiet = begins w seen c
  turns w seen d c quiet = turning (Tells d) w c (tx_turns.goes_on w me seen d) (λ vhost v m. goes_on w me seen d vhost v m quiet)

  hands : (s : Setup) (w : World) (actor seen : ℕ) (d : Doing) (c : Command) → AllTell d (tx_turns.hands s w actor seen d c)
  hands s w actor seen (Receives file t) c = let d : Doing = Receives file t in
      turning (Tells d) w c _ (λ vhost v m. where_then (Tells d) (at w.files file) _
      (λ f e1. where_then (Tells d) (changed (Takes vhost) f) _ (λ g e2. where_then (Tells d) (rx_turns.front_frame s g) _
      (λ frame e3. where_then (Tells d) (rx_step (hand.Got frame) (rx_turns.rx_state t v m)) _
      (λ made e. rx_taken (Tells d) w actor seen vhost file v frame made (λ over told. λ h. (inl refl, λ g. rx_after d seen file made.0.turn _ over)))))))
  hands s w actor seen d c = tt

  finds_nothing : (w : World) (actor seen : ℕ) (d : Doing) (c : Command) → AllTell d (tx_turns.turn_finds_none w actor seen d c)
  finds_nothing w actor seen (Receives file t) c = let d : Doing = Receives file t in
      turning (Tells d) w c _ (λ vhost v m. where_then (Tells d) (at w.files file) _
      (λ f e1. where_then (Tells d) (rx_step (hand.NotReady (front_place f)) (rx_turns.rx_state t v m)) _
      (λ made e. rx_missed (Tells d) w actor seen vhost file v f made
      (λ over told. λ h. (inl refl, λ g. rx_after d seen file made.0.turn _ over)))))
  finds_nothing w actor seen d c = tt

  -- the frame that is given is the one that was accepted last
  given : (t : TxTurn) (f : FrameValue) (made : TxState × Act) → Gives t made → t.held ≡ Some f → is_giving t.stage ≡ true → FreshTurn me n F t × FreshFrame me n F t
      → OneName (f.name ∷ []) × (((m : Name) → F m → times_in m (f.name ∷ []) ≡ 0 → G m) → FreshTurn me n G made.0.turn × (is_giving made.0.turn.stage ≡ false))
  given t f made gives held give h =
      let q = h.1 give f held in (
        inr (q.0, ap (λ (m : Name). m ∷ []) q.1, q.3),
        λ g. (
          (
            gives.0 ∙ h.0.0,
            λ k le.
                let accepted = gives.1 in let lt = q.2 in
                let more : q.0 < k = omega (arith, accepted, le, lt) in
                g (part me n k) (h.0.1 k (omega (arith, accepted, le)))
                (ap (λ (m : Name). times_in (part me n k) (m ∷ [])) q.1 ∙ apart me n k q.0 more),
          ),
          gives.2,
        ),
      )

  gives : (w : World) (seen : ℕ) (d : Doing) (c : Command) → is_kind event.HostIn (next_kind w d c) ≡ true → AllTell d (tx_turns.hosts_of_turn w seen d c)
  gives w seen (Transmits file t told) c e = let d : Doing = Transmits file t told in
      let stage : t.stage ≡ tx.Give = give_stage t.stage e in
      turning (Tells d) w c _ (λ vhost v m. where_then (Tells d) t.held _
      (λ f held. where_then (Tells d) (tx_step (tx_turns.tx_state t v m)) _
      (λ made e2. λ h. given t f made
      (where_some (Gives t) (tx_step (tx_turns.tx_state t v m)) made
      (subst (λ (st : TxStage). WhereSome (Gives t) (tx_next st (tx_turns.tx_state t v m))) (sym stage) (give_accepts (tx_turns.tx_state t v m))) e2)
      held (ap is_giving stage) h)))
  gives w seen d c e = tt

  -- ---- all rows

  pub row_is_fresh : (s : Setup) (w : World) (k : EventKind) (a : Actor) (c : Command) → is_kind k (next_kind w a.doing c) ≡ true → can_be a.doing c ≡ true → AllTell a.doing (rows.row s w k me a n c)
  row_is_fresh s w event.Look a c e can = look_row s w a c e can
  row_is_fresh s w event.Publish a c e can = publication (Tells a.doing) s w me a.doing c (publishes_back w a.doing c) (teaches w a.doing) (publishes s w a.doing c)
  row_is_fresh s w event.Claim a c e can = claims w a.seen a.doing
  row_is_fresh s w event.Ready a c e can = puts w me a.seen a.doing
  row_is_fresh s w event.Full a c e can = drops ring.full_now w a.seen a.doing
  row_is_fresh s w event.Gone a c e can = drops ring.gone_now w a.seen a.doing
  row_is_fresh s w event.Spent a c e can = drops ring.spent_now w a.seen a.doing
  row_is_fresh s w event.Shut a c e can = held (Tells a.doing) w me (ring.shuts w a.seen a.doing) (shuts w a.seen a.doing)
  row_is_fresh s w event.Reopen a c e can = held (Tells a.doing) w me (ring.reopens w a.seen a.doing) (reopens w a.seen a.doing)
  row_is_fresh s w event.Resize a c e can = held (Tells a.doing) w me (ring.resizes w a.seen a.doing) (resizes w a.seen a.doing)
  row_is_fresh s w event.Cut a c e can = held (Tells a.doing) w me (ring.cuts w a.seen a.doing) (cuts w a.seen a.doing)
  row_is_fresh s w event.Move a c e can = moves w a.doing
  row_is_fresh s w event.Hand a c e can = hands s w me a.seen a.doing c
  row_is_fresh s w event.PutBack a c e can = turns w a.seen a.doing c (not_giving event.PutBack refl w a.doing c e)
  row_is_fresh s w event.Out a c e can = or_else (Tells a.doing) (ring.leaves s w a.seen a.doing) (tx_turns.turns w me n a.seen a.doing c)
      (leaves s w a.seen a.doing) (turns w a.seen a.doing c (not_giving event.Out refl w a.doing c e))
  row_is_fresh s w event.NotReady a c e can = or_else (Tells a.doing) (ring.finds_none w a.seen a.doing) (tx_turns.turn_finds_none w me a.seen a.doing c)
      (finds_none w a.seen a.doing) (finds_nothing w me a.seen a.doing c)
  row_is_fresh s w event.Owner a c e can = owning (Tells a.doing) w me a.seen a.doing c (owns w a.seen a.doing c) (meets_worker w a.seen a.doing) (finds_off w a.seen a.doing c)
  row_is_fresh s w event.HostIn a c e can = or_else (Tells a.doing) (ring.hosts w me n a.seen a.doing) (tx_turns.hosts_of_turn w a.seen a.doing c)
      (hosts w a.seen a.doing) (gives w a.seen a.doing c e)
  row_is_fresh s w event.Poke a c e can = pokes w a.doing a.seen c
  row_is_fresh s w event.Peek a c e can = pokes w a.doing a.seen c
  row_is_fresh s w event.Drive a c e can = drive_row s w me a.seen a.doing c
  row_is_fresh s w event.Fetch a c e can = turns w a.seen a.doing c (not_giving event.Fetch refl w a.doing c e)
  row_is_fresh s w event.Copy a c e can = turns w a.seen a.doing c (not_giving event.Copy refl w a.doing c e)
  row_is_fresh s w event.PublishUsed a c e can = turns w a.seen a.doing c (not_giving event.PublishUsed refl w a.doing c e)
  row_is_fresh s w event.Notices a c e can = turns w a.seen a.doing c (not_giving event.Notices refl w a.doing c e)
