-- What an event changes has one of few shapes: all rows.
use Rattle.std.proofs.Common.{◌≡◌, ℕ, ◌+◌, List, [], ◌∷◌, Bool, true, false, Option, Some, None, refl, ◌⊎◌, inl, inr, sym, ap, ◌∙◌, true≢false}
use Rattle.std.specs.Prelude.{if◌then◌else◌, ◌==◌, ◌&&◌, ◌||◌, is_none, is_some, nat_lt, slice_get, not}
use Rattle.std.specs.Option.{option_map_or}
use Rattle.guest_mem.specs.Memory.{Contents}
use Rattle.tap_frame.specs.declared.name.Name.{Name}
use Rattle.tap_ledger.specs.declared.fate.Cause.{Cause}
use Rattle.tap_steer.specs.declared.operation.Op.{Op}
use Rattle.tap_steer.specs.Select.{learns}
use Rattle.vring_turns.specs.declared.stage.RxStage.{RxStage}
use Rattle.vring_turns.specs.RxTurn.{RxTurn, rx_step, rx_begun}
use Rattle.vring_turns.specs.TxTurn.{TxTurn, tx_step, tx_begun}
use Rattle.scen_words.specs.declared.command.Command.{Command}
use Rattle.tap_ledger.specs.declared.error.TapErr.{TapErr as TapText}
use Rattle.tap_trace.specs.declared.turn.ChainText.{ChainText}
use Rattle.tap_world.specs.declared.event.EventKind.{EventKind}
use Rattle.tap_world.specs.ByNumber.{at}
use Rattle.tap_world.specs.Frames.{Front, bad_in, ether_in, least_in, sent_bytes, sent_front}
use Rattle.vhost_dev.specs.Settings.{hdr_of}
use Rattle.tap_world.specs.Setup.{Setup, op_of, frame_of}
use Rattle.tap_world.specs.Line.{File, has_batch, is_full, is_gone, is_over, is_spent, first_that, front_place, in_batch, in_ring, last_that}
use Rattle.tap_world.specs.LineSteps.{ready_front, changed}
use Rattle.tap_world.specs.Guests.{Vhost, is_free, is_ring, turn_of, Guest, is_free_for}
use Rattle.tap_steer.specs.Rules.{refuse}
use Rattle.tap_world.specs.World.{Actor, Doing, World, name_of, newest, table}
use Rattle.tap_world.specs.World.Doing.{Backs, Begun, Changes, Given, Hosts, Learns, Opened, Opens, Placed, Purges, Reads, Receives, Resizes, Routed, Shrinks, Teaches, Transmits, Withdrawn, Withdraws}
use Rattle.tap_world.specs.Effect.{Effect, only}
use Rattle.tap_flow_key.specs.FlowKey.{hash}
use Rattle.tap_world.specs.Effect.Onward.{Ends, Goes}
use Rattle.tap_sound.proofs.Kit.{WhereSome, either, where_if, where_only, where_then}
use Rattle.tap_sound.proofs.Steps.{held, or_else, tx_made, rx_missed, rx_stepped, rx_taken}
use Rattle.tap_frame.specs.declared.reading.BadFrame.{BadFrame}
use Rattle.tap_ledger.specs.declared.error.TapErr.{TapErr}
use Rattle.tap_steer.specs.declared.selection.Select.{Select}
use Rattle.tap_world.specs.Scripts.{is_kind, next_kind, hand_next, kind_number, purge_next, read_next, rx_next_kind, send_next, shrink_next, tx_next_kind}
use Rattle.vring_turns.specs.declared.stage.TxStage.{TxStage}
use Rattle.tap_world.specs.Sound.{holds}
use Rattle.tap_world.specs.SoundRings.{StandsWith, holds_turn, serves}
use Rattle.tap_world.specs.SoundActors.{can_be, is_tx_turn}
use Rattle.tap_sound.proofs.Taken.{both}
use Rattle.tap_sound.proofs.Follows.{at_file_kind}
use Rattle.tap_sound.proofs.Shapes.{Leaves, RxWay, Shape, TxWay}
use Rattle.tap_sound.proofs.Shapes.Shape.{Giving, BackDrives, BackPublishes, BackApproves, Calling, Learning, Owning, Publishing, Quiet, Reopening, RxTurning, Shutting, Sizing, Approves, Touching, Trims, TxTurning, Withdrawing}
use Rattle.tap_ledger.specs.declared.hand.Hand.TheVariants as hand
use Rattle.vring_turns.specs.declared.stage.RxStage.TheVariants as rx
use Rattle.scen_words.specs.declared.command.Command.TheVariants as command
use Rattle.tap_world.specs.declared.event.EventKind.TheVariants as event
use Rattle.tap_steer.specs.declared.operation.Op.TheVariants as op
use Rattle.tap_trace.specs.declared.answer.Answer.TheVariants as answer
use Rattle.tap_world.specs.Step as rows
use Rattle.tap_world.specs.StepBackend as back
use Rattle.tap_world.specs.StepControl as control
use Rattle.tap_world.specs.StepRing as ring
use Rattle.tap_world.specs.StepTable as tables
use Rattle.tap_world.specs.StepTurns as rx_turns
use Rattle.tap_world.specs.StepTransmits as tx_turns
use Rattle.tap_steer.specs.declared.selection.Select.TheVariants as select
use Rattle.tap_steer.specs.Select as steer
use Rattle.vring_turns.specs.declared.stage.TxStage.TheVariants as tx
use Rattle.tap_world.specs.LineSteps.Change.{Takes}
use Rattle.tap_world.specs.declared.event.Found.TheVariants as found

abbrev pub AllShaped : Setup → World → ℕ → ℕ → Doing → Command → Option Effect → Type 0
AllShaped s w me seen d c o = WhereSome (Shape s w me seen d c) o

-- ---- small things

none_of : {A : Type 0} (o : Option A) → is_none o ≡ true → o ≡ None
none_of None h = refl
none_of (Some x) h = absurd (true≢false (sym h))

-- a command that has no event yet ends, or goes on to hold nothing
ends : (d : Doing) → d ≡ Begun → (holds d ≡ false) × (holds_turn d ≡ false)
ends d is = (ap holds is, ap holds_turn is)

goes : (d e : Doing) → d ≡ Begun → holds e ≡ false → holds_turn e ≡ false → serves e ≡ false → ((v : Vhost) → StandsWith e v)
    → (holds d ≡ false) × (holds e ≡ false) × (holds_turn e ≡ holds_turn d) × (serves e ≡ serves d) × ((v : Vhost) → StandsWith d v → StandsWith e v)
goes d e is a b x y = (ap holds is, a, b ∙ ap holds_turn (sym is), x ∙ ap serves (sym is), λ v h. y v)

-- what a row gives, by its equation
by_row : (P : Effect → Type 0) (o : Option Effect) → ((r : Effect) → o ≡ Some r → P r) → WhereSome P o
by_row P None h = tt
by_row P (Some r) h = h r refl

-- ---- which commands can be at a row

poke_begun : (d : Doing) (guest addr : ℕ) (bytes : List ℕ) → can_be d (command.Poke guest addr bytes) ≡ true → d ≡ Begun
poke_begun Begun guest addr bytes e = refl
poke_begun d guest addr bytes e = absurd (true≢false (sym e))

peek_begun : (d : Doing) (guest addr len : ℕ) → can_be d (command.Peek guest addr len) ≡ true → d ≡ Begun
peek_begun Begun guest addr len e = refl
peek_begun d guest addr len e = absurd (true≢false (sym e))

abbrev NoLook : EventKind → Type 0
NoLook k = (kind_number k == 0) ≡ false

no_of_two : (k l : EventKind) → NoLook k → NoLook l → (a : Bool) → NoLook (if a then k else l)
no_of_two k l x y true = x
no_of_two k l x y false = y

no_of_four : (k l m n : EventKind) → NoLook k → NoLook l → NoLook m → NoLook n → (a b c : Bool) → NoLook (if a then k else if b then l else if c then m else n)
no_of_four k l m n x y z u true b c = x
no_of_four k l m n x y z u false true c = y
no_of_four k l m n x y z u false false true = z
no_of_four k l m n x y z u false false false = u

no_send : (epoch : ℕ) (f : File) → NoLook (send_next epoch f)
no_send epoch f = no_of_four event.Gone event.Spent event.Full event.Claim refl refl refl refl (is_gone epoch f) (is_spent f) (is_full f)

no_read : (f : File) → NoLook (read_next f)
no_read f = no_of_four event.Owner event.Out event.Move event.NotReady refl refl refl refl (is_some f.owner) (has_batch f) (is_some (ready_front f.line))

rx_no_look : (w : World) (file : ℕ) (st : RxStage) → is_kind event.Look (rx_next_kind w file st) ≡ true → ⊥
rx_no_look w file rx.Hand e = true≢false (at_file_kind NoLook (at w.files file) hand_next event.Look e (λ f. no_of_two event.Hand event.NotReady refl refl (has_batch f || is_some (ready_front f.line))))
rx_no_look w file st e = true≢false (sym e)

tx_no_look : (st : TxStage) → is_kind event.Look (tx_next_kind st) ≡ true → ⊥
tx_no_look tx.Begin e = true≢false (sym e)
tx_no_look tx.Fetch e = true≢false (sym e)
tx_no_look tx.NoticesOn e = true≢false (sym e)
tx_no_look tx.FetchAgain e = true≢false (sym e)
tx_no_look (tx.NoticesOff fault) e = true≢false (sym e)
tx_no_look tx.Copy e = true≢false (sym e)
tx_no_look tx.Give e = true≢false (sym e)
tx_no_look (tx.Publish end) e = true≢false (sym e)
tx_no_look (tx.Ended end) e = true≢false (sym e)

abbrev IsGiven : Doing → Type 0
IsGiven (Given file t told f) = Unit {0}
IsGiven d = ⊥

look_from : (w : World) (d : Doing) (c : Command) → is_kind event.Look (next_kind w d c) ≡ true → (d ≡ Begun) ⊎ IsGiven d
look_from w Begun c e = inl refl
look_from w (Given file t told f) c e = inr tt
look_from w (Purges file version) c e =
    absurd (true≢false (at_file_kind NoLook (at w.files file) purge_next event.Look e (λ f. no_of_two event.Out event.Move refl refl (has_batch f))))
look_from w (Shrinks file places cuts) c e =
    absurd (true≢false (at_file_kind NoLook (at w.files file) shrink_next event.Look e (λ f. no_of_two event.Cut event.Publish refl refl (is_over f))))
look_from w (Routed file epoch len) c e =
    absurd (true≢false (at_file_kind NoLook (at w.files file) (send_next epoch) event.Look e (no_send epoch)))
look_from w (Reads file room front) c e =
    absurd (true≢false (at_file_kind NoLook (at w.files file) read_next event.Look e no_read))
look_from w (Receives file t) c e = absurd (rx_no_look w file t.stage e)
look_from w (Transmits file t told) c e = absurd (tx_no_look t.stage e)
look_from w d c e = absurd (true≢false (sym e))

given_turns : (d : Doing) (c : Command) → IsGiven d → can_be d c ≡ true → is_tx_turn c ≡ true
given_turns (Given file t told f) c is can = can
given_turns d c is can = absurd is

-- a look of a command other than a transmit turn is its first event
pub look_first : (w : World) (d : Doing) (c : Command) → is_kind event.Look (next_kind w d c) ≡ true → can_be d c ≡ true → is_tx_turn c ≡ false → d ≡ Begun
look_first w d c next can other = go (look_from w d c next)
  where
    go : (d ≡ Begun) ⊎ IsGiven d → d ≡ Begun
    go (inl is) = is
    go (inr is) = absurd (true≢false (sym (given_turns d c is can) ∙ other))

-- ---- looks

module _ (s : Setup) (w : World) (me seen : ℕ) (d : Doing) (c : Command) where
  approved : (x : Op) (o : Option TapErr) → d ≡ Begun → op_of s c ≡ Some x → w.writer ≡ None → refuse (table s w) x ≡ o
      → Shape s w me seen d c (tables.decided w me (tables.course (table s w) x) o)
  approved x None is of free no_ = Approves x is of free no_ refl
  approved x (Some r) is of free no_ = Quiet refl tt refl refl refl (ends d is)

  routed : (name : Name) (x : Select) → d ≡ Begun → Shape s w me seen d c (tables.routed w name x)
  routed name select.NoQueue is = Quiet refl tt refl refl refl (ends d is)
  routed name select.Filtered is = Quiet refl tt refl refl refl (ends d is)
  routed name (select.Row row keep resizes capacity) is = Quiet refl tt refl refl refl (goes d (Routed row.file row.epoch keep) is refl refl refl (λ v. tt))

  unless_bad : (x : Option BadFrame) (r : Effect) → d ≡ Begun → Shape s w me seen d c r → Shape s w me seen d c (tables.unless_bad x w r)
  unless_bad None r is h = h
  unless_bad (Some x) r is h = Quiet refl tt refl refl refl (ends d is)

  with_front : (x : Option Front) (r : Front → Effect) → d ≡ Begun → ((f : Front) → Shape s w me seen d c (r f)) → Shape s w me seen d c (tables.with_front x w r)
  with_front None r is h = Quiet refl tt refl refl refl (ends d is)
  with_front (Some f) r is h = h f

  reading : (file room : ℕ) (front : Front) → d ≡ Begun → Shape s w me seen d c (tables.reads w file room front)
  reading file room front is = either (Shape s w me seen d c) (nat_lt room (least_in front)) _ _
      (Quiet refl tt refl refl refl (ends d is)) (Quiet refl tt refl refl refl (goes d (Reads file room front) is refl refl refl (λ v. tt)))

  looks : (a : Actor) (n : ℕ) → d ≡ Begun → ((name : Name) → AllShaped s w me seen d c (tables.looks_at (table s w) w name c))
      → AllShaped s w me seen d c (tables.looks s w me a n c)
  looks a n is h = go (op_of s c) refl
    where
      go : (o : Option Op) → op_of s c ≡ o
          → AllShaped s w me seen d c (option_map_or (tables.looks_to_change (table s w) w me) o (tables.looks_at (table s w) w (name_of me n) c))
      go None of = h (name_of me n)
      go (Some x) of = where_only (Shape s w me seen d c) (is_none w.writer) (tables.decided w me (tables.course (table s w) x) (refuse (table s w) x))
          (λ e. approved x (refuse (table s w) x) is of (none_of w.writer e) refl)

looks_at : (s : Setup) (w : World) (me seen : ℕ) (d : Doing) (name : Name) (c : Command) → d ≡ Begun → AllShaped s w me seen d c (tables.looks_at (table s w) w name c)
looks_at s w me seen d name (command.Send device hdr bytes) is =
    unless_bad s w me seen d (command.Send device hdr bytes) (bad_in (sent_front hdr) (sent_bytes hdr bytes))
    (tables.routed w name (steer.select (table s w) device (ether_in (sent_front hdr) (sent_bytes hdr bytes)))) is
    (routed s w me seen d (command.Send device hdr bytes) name (steer.select (table s w) device (ether_in (sent_front hdr) (sent_bytes hdr bytes))) is)
looks_at s w me seen d name (command.Read file room) is =
    with_front s w me seen d (command.Read file room) (steer.shape_of (table s w) file) (tables.reads w file room) is
    (λ front. reading s w me seen d (command.Read file room) file room front is)
looks_at s w me seen d name (command.Write file bytes) is =
    with_front s w me seen d (command.Write file bytes) (steer.shape_of (table s w) file) (tables.writes (table s w) w file bytes) is
    (λ front. unless_bad s w me seen d (command.Write file bytes) (bad_in front bytes)
    (only (Goes (newest w) (Hosts file (ether_in front bytes) (steer.learns (table s w) file)) (found.Version (newest w))) w) is
    (Quiet refl tt refl refl refl (goes d (Hosts file (ether_in front bytes) (steer.learns (table s w) file)) is refl refl refl (λ v. tt))))
looks_at s w me seen d name c is = tt

back_seen : (s : Setup) (w : World) (me seen : ℕ) (d : Doing) (vhost r : ℕ) (file : Option ℕ) (v : Vhost) (o : Option TapText) → d ≡ Begun
    → at w.vhosts vhost ≡ Some v → w.writer ≡ None → (not (is_ring r) || is_none (turn_of r v)) ≡ true → back.back_refusal (table s w) vhost r file ≡ o
    → Shape s w me seen d (command.Backend vhost r file) (back.back_seen w me vhost r v o)
back_seen s w me seen d vhost r file v None is at_ free turn no_ = BackApproves vhost r file v is refl at_ free turn no_ refl
back_seen s w me seen d vhost r file v (Some x) is at_ free turn no_ = Quiet refl tt refl refl refl (goes d (Backs (Some x)) is refl refl refl (λ v. tt))

looks_at_flow : (s : Setup) (w : World) (me seen : ℕ) (d : Doing) (c : Command) → AllShaped s w me seen d c (tx_turns.looks_at_flow s w d)
looks_at_flow s w me seen (Given file t told f) c = go (learns (table s w) file)
  where
    go : (b : Bool) → Shape s w me seen (Given file t told f) c
        (only (Goes (newest w) (if b then Teaches file t told f else Transmits file t told) (found.Version (newest w))) w)
    go true = Quiet refl tt refl refl refl (refl, refl, refl, refl, λ v h. h)
    go false = Quiet refl tt refl refl refl (refl, refl, refl, refl, λ v h. h)
looks_at_flow s w me seen d c = tt

look_row : (s : Setup) (w : World) (me : ℕ) (a : Actor) (n : ℕ) (c : Command) → is_kind event.Look (next_kind w a.doing c) ≡ true → can_be a.doing c ≡ true
    → AllShaped s w me a.seen a.doing c (rows.look_row s w me a n c)
look_row s w me a n (command.Backend vhost r file) next can =
    let P = Shape s w me a.seen a.doing (command.Backend vhost r file) in
    let is = look_first w a.doing (command.Backend vhost r file) next can refl in
    where_then P (at w.vhosts vhost) _ (λ v e. where_only P (is_none w.writer && (not (is_ring r) || is_none (turn_of r v)))
    (back.back_seen w me vhost r v (back.back_refusal (table s w) vhost r file))
    (λ b. let t = both _ _ b in back_seen s w me a.seen a.doing vhost r file v _ is e (none_of w.writer t.0) t.1 refl))
look_row s w me a n (command.TxTurn vhost) next can = looks_at_flow s w me a.seen a.doing (command.TxTurn vhost)
look_row s w me a n c next can =
    let is = look_first w a.doing c next can refl in
    looks s w me a.seen a.doing c a n is (λ name. looks_at s w me a.seen a.doing name c is)

-- ---- publications

own_published : (s : Setup) (w : World) (me seen : ℕ) (x : Op) (d : Doing) (c : Command) → op_of s c ≡ Some x → refuse (table s w) x ≡ None
    → AllShaped s w me seen d c (tables.publishes_own w x d)
own_published s w me seen x Changes c of no_ = Publishing x 0 _ tt of no_ refl
own_published s w me seen x (Opened file) c of no_ = Publishing x 0 _ tt of no_ refl
own_published s w me seen x (Withdraws file) c of no_ = Withdrawing x file refl of no_ refl
own_published s w me seen x (Shrinks file places cuts) c of no_ =
    where_then (Shape s w me seen (Shrinks file places cuts) c) (at w.files file) _ (λ f e1. Publishing x 0 _ tt of no_ refl)
own_published s w me seen x d c of no_ = tt

own_op : (s : Setup) (w : World) (me seen : ℕ) (d : Doing) (c : Command) → AllShaped s w me seen d c (tables.publishes_op s w me d c)
own_op s w me seen d c = where_then (Shape s w me seen d c) (op_of s c) _
    (λ x e. where_if (Shape s w me seen d c) _ _ (λ b. own_published s w me seen x d c e (none_of _ (both _ _ b).1)))

publishes : (s : Setup) (w : World) (me seen : ℕ) (d : Doing) (c : Command) → AllShaped s w me seen d c (tables.publishes s w me d c)
publishes s w me seen (Learns file ether) c =
    where_only (Shape s w me seen (Learns file ether) c) (is_none w.writer) (tables.learns_flow w file ether)
    (λ b. Learning file (hash ether) refl refl refl refl refl (none_of w.writer b) (refl, refl))
publishes s w me seen d c = own_op s w me seen d c

teaches : (s : Setup) (w : World) (me seen : ℕ) (d : Doing) (c : Command) → AllShaped s w me seen d c (tx_turns.teaches w d)
teaches s w me seen (Teaches file t told f) c = where_only (Shape s w me seen (Teaches file t told f) c) (is_none w.writer)
    (record (only (Goes (newest w + 1) (Transmits file t told) (found.Version (newest w + 1))) w) { ops = op.Learn file f.flow ∷ [] })
    (λ b. Learning file f.flow refl refl refl refl refl (none_of w.writer b) (refl, refl, refl, refl, λ v h. h))
teaches s w me seen d c = tt

publish_row : (s : Setup) (w : World) (me seen : ℕ) (d : Doing) (c : Command) → AllShaped s w me seen d c (rows.publish_row s w me d c)
publish_row s w me seen d (command.Backend vhost r file) = held (Shape s w me seen d (command.Backend vhost r file)) w me _
    (by_row (Shape s w me seen d (command.Backend vhost r file)) (back.publishes_back w d (command.Backend vhost r file)) (λ x e. BackPublishes vhost r file refl e))
publish_row s w me seen d (command.TxTurn vhost) = teaches s w me seen d (command.TxTurn vhost)
publish_row s w me seen d c = publishes s w me seen d c

-- ---- frames

module _ (s : Setup) (w : World) (me seen : ℕ) (c : Command) where
  claims : (n : ℕ) (d : Doing) → AllShaped s w me seen d c (ring.claims w me n seen d)
  claims n (Routed file epoch len) = where_then (Shape s w me seen (Routed file epoch len) c) (at w.files file) _ (λ f e1. Quiet refl tt refl refl refl (refl, refl, refl, refl, λ v h. tt))
  claims n d = tt

  puts : (d : Doing) → AllShaped s w me seen d c (ring.puts w me seen d)
  puts (Placed file place epoch len) = Quiet refl tt refl refl refl (refl, refl)
  puts d = tt

  drops : (why : ℕ → File → Option Cause) (n : ℕ) (d : Doing) → AllShaped s w me seen d c (ring.drops_for why w me n seen d)
  drops why n (Routed file epoch len) = where_then (Shape s w me seen (Routed file epoch len) c) (at w.files file) _
      (λ f e1. where_then (Shape s w me seen (Routed file epoch len) c) (why epoch f) _ (λ x e2. Quiet refl tt refl refl refl (refl, refl)))
  drops why n d = tt

  shuts : (d : Doing) → AllShaped s w me seen d c (ring.shuts w seen d)
  shuts (Withdrawn file version) = where_then (Shape s w me seen (Withdrawn file version) c) (at w.files file) _ (λ f e1. Shutting file version f refl e1 refl)
  shuts d = tt

  reopens : (d : Doing) → AllShaped s w me seen d c (ring.reopens w seen d)
  reopens (Opens file) = where_then (Shape s w me seen (Opens file) c) (at w.files file) _ (λ f e1. Reopening file f refl e1 refl)
  reopens d = tt

  resizes : (d : Doing) → AllShaped s w me seen d c (ring.resizes w seen d)
  resizes (Resizes file capacity) = where_then (Shape s w me seen (Resizes file capacity) c) (at w.files file) _ (λ f e1. Sizing file capacity f refl e1 refl)
  resizes d = tt

  cuts : (d : Doing) → AllShaped s w me seen d c (ring.cuts w seen d)
  cuts (Shrinks file places n) = where_then (Shape s w me seen (Shrinks file places n) c) (at w.files file) _
      (λ f e1. where_then (Shape s w me seen (Shrinks file places n) c) (ring.name_at f.line (last_that in_ring f.line)) _ (λ x e2. Trims file places n (n + 1) _ refl refl))
  cuts d = tt

  moves_in : (d : Doing) (file : ℕ) → AllShaped s w me seen d c (ring.moves_in w file)
  moves_in d file = where_then (Shape s w me seen d c) (at w.files file) _
      (λ f e1. where_then (Shape s w me seen d c) (ring.name_at f.line (ready_front f.line)) _ (λ x e2. Quiet refl tt refl refl refl tt))

  moves : (d : Doing) → AllShaped s w me seen d c (ring.moves w d)
  moves (Reads file room front) = moves_in (Reads file room front) file
  moves (Purges file version) = moves_in (Purges file version) file
  moves d = tt

  leaves : (d : Doing) → AllShaped s w me seen d c (ring.leaves s w seen d)
  leaves (Reads file room front) = where_then (Shape s w me seen (Reads file room front) c) (at w.files file) _
      (λ f e1. where_then (Shape s w me seen (Reads file room front) c) (first_that in_batch f.line) _
      (λ i e2. where_then (Shape s w me seen (Reads file room front) c) (slice_get f.line i) _
      (λ x e3. where_then (Shape s w me seen (Reads file room front) c) (frame_of s x.name x.len) _ (λ y e4. Quiet refl tt refl refl refl (refl, refl)))))
  leaves (Purges file version) = where_then (Shape s w me seen (Purges file version) c) (at w.files file) _
      (λ f e1. where_then (Shape s w me seen (Purges file version) c) (ring.name_at f.line (first_that in_batch f.line)) _ (λ x e2. Quiet refl tt refl refl refl tt))
  leaves d = tt

  finds_none : (d : Doing) → AllShaped s w me seen d c (ring.finds_none w seen d)
  finds_none (Reads file room front) = where_then (Shape s w me seen (Reads file room front) c) (at w.files file) _
      (λ f e1. where_only (Shape s w me seen (Reads file room front) c) _ (only (Ends seen (answer.Again (front_place f))) w) (λ x. Quiet refl tt refl refl refl (refl, refl)))
  finds_none d = tt

  meets_worker : (d : Doing) → AllShaped s w me seen d c (ring.meets_worker w seen d)
  meets_worker (Reads file room front) = where_then (Shape s w me seen (Reads file room front) c) (at w.files file) _
      (λ f e1. where_only (Shape s w me seen (Reads file room front) c) _ (only (Ends seen answer.Busy) w) (λ x. Quiet refl tt refl refl refl (refl, refl)))
  meets_worker d = tt

  hosts : (n : ℕ) (d : Doing) → AllShaped s w me seen d c (ring.hosts w me n seen d)
  hosts n (Hosts file ether true) = Quiet refl tt refl refl refl (refl, refl, refl, refl, λ v h. tt)
  hosts n (Hosts file ether false) = Quiet refl tt refl refl refl (refl, refl)
  hosts n d = tt

-- ---- guests

poke_regions : (m : Contents) (addr : ℕ) (bytes : List ℕ) (o : Option ℕ) → (control.poke_leaves m addr bytes o).regions ≡ m.regions
poke_regions m addr bytes None = refl
poke_regions m addr bytes (Some bad) = refl

pokes : (s : Setup) (w : World) (me seen : ℕ) (d : Doing) (c : Command) → can_be d c ≡ true → AllShaped s w me seen d c (control.pokes w seen c)
pokes s w me seen d (command.Poke guest addr bytes) can = where_then (Shape s w me seen d (command.Poke guest addr bytes)) (at w.guests guest) _
    (λ g e1. Touching guest g _ _ seen _ e1 (poke_regions g.memory addr bytes _) (poke_begun d guest addr bytes can) refl refl refl refl refl refl)
pokes s w me seen d (command.Peek guest addr len) can = where_then (Shape s w me seen d (command.Peek guest addr len)) (at w.guests guest) _
    (λ g e1. Touching guest g g.memory _ seen _ e1 refl (peek_begun d guest addr len can) refl refl refl refl refl refl)
pokes s w me seen d c can = tt

calls : (s : Setup) (w : World) (me seen : ℕ) (d : Doing) (c : Command) → d ≡ Begun → AllShaped s w me seen d c (control.calls w me seen c)
calls s w me seen d c is = let P = Shape s w me seen d c in
    where_then P (control.driven_vhost c) _ (λ vhost e1. where_then P (at w.vhosts vhost) _ (λ v e2. where_then P (at w.guests v.guest) _
    (λ g e3. where_then P (control.call_of c v g.memory) _ (λ x e4. where_only P _ (control.call_effect w seen vhost v.guest x)
    (λ y. Calling vhost v g x is e1 e2 e3 e4 y refl)))))

backs : (s : Setup) (w : World) (me seen : ℕ) (d : Doing) (c : Command) → AllShaped s w me seen d c (back.backs s w me seen d c)
backs s w me seen (Backs x) (command.Backend vhost r file) = let P = Shape s w me seen (Backs x) (command.Backend vhost r file) in
    where_then P (at w.vhosts vhost) _ (λ v e1. where_then P (at w.guests v.guest) _
    (λ g e2. where_if P (is_free_for me r v) (back.back_call s w me seen x vhost r file v g.memory) (λ y. by_row P (back.back_call s w me seen x vhost r file v g.memory) (λ z e3. BackDrives x vhost r file v g refl refl e1 e2 y e3))))
backs s w me seen d c = tt

drive_row : (s : Setup) (w : World) (me seen : ℕ) (d : Doing) (c : Command) → AllShaped s w me seen d c (rows.drive_row s w me seen d c)
drive_row s w me seen Begun c = calls s w me seen Begun c refl
drive_row s w me seen d c = backs s w me seen d c

finds_off : (s : Setup) (w : World) (me seen : ℕ) (d : Doing) (c : Command) → AllShaped s w me seen d c (rx_turns.finds_off w seen d c)
finds_off s w me seen Begun c = let P = Shape s w me seen Begun c in
    where_then P (rx_turns.turn_on c) _ (λ t e1. where_then P (at w.vhosts t.0) _ (λ v e2. where_then P (at w.guests v.guest) _
    (λ g e3. where_then P (rx_turns.is_off t.0 t.1 v) _ (λ told e4. where_only P _ (rx_turns.off_told w seen v g.memory told)
    (λ x. Touching v.guest g g.memory _ seen _ e3 refl refl refl refl refl refl refl refl)))))
finds_off s w me seen d c = tt

owner_row : (s : Setup) (w : World) (me seen : ℕ) (d : Doing) (c : Command) → AllShaped s w me seen d c (rows.owner_row w me seen d c)
owner_row s w me seen d (command.Backend vhost r file) = held (Shape s w me seen d (command.Backend vhost r file)) w me _
    (by_row (Shape s w me seen d (command.Backend vhost r file)) (back.owns w seen d (command.Backend vhost r file)) (λ x e. Owning vhost r file refl e))
owner_row s w me seen d c = or_else (Shape s w me seen d c) (ring.meets_worker w seen d) (rx_turns.finds_off w seen d c)
    (meets_worker s w me seen c d) (finds_off s w me seen d c)

-- ---- turns

rx_change : (vhost file : ℕ) (t : RxTurn) (st : RxStage) → Leaves (rx_turns.rx_change vhost file t st)
rx_change vhost file t rx.Out = tt
rx_change vhost file t (rx.Discard had) = tt
rx_change vhost file t (rx.PutBack e) = tt
rx_change vhost file t st = tt

rx_steps_on : (s : Setup) (w : World) (me seen : ℕ) (d : Doing) (vhost file : ℕ) (t : RxTurn) (v : Vhost) (g : Guest) → at w.vhosts vhost ≡ Some v → at w.guests v.guest ≡ Some g
    → RxWay me d file t v → AllShaped s w me seen d (command.RxTurn vhost) (rx_turns.rx_steps_on w me seen vhost file t v g.memory)
rx_steps_on s w me seen d vhost file t v g a b way = where_then (Shape s w me seen d (command.RxTurn vhost)) (rx_step hand.Off (rx_turns.rx_state t v g.memory)) _
    (λ made e. rx_stepped (Shape s w me seen d (command.RxTurn vhost)) w me seen vhost file t v made
    (λ f over e2 told. RxTurning vhost file t v g hand.Off made _ f over refl a b way e (rx_change vhost file t t.stage) told refl))

tx_steps_on : (s : Setup) (w : World) (me seen : ℕ) (d : Doing) (vhost file : ℕ) (t : TxTurn) (told : List ChainText) (v : Vhost) (g : Guest) → at w.vhosts vhost ≡ Some v
    → at w.guests v.guest ≡ Some g → TxWay d file t told v → AllShaped s w me seen d (command.TxTurn vhost) (tx_turns.tx_steps_on w me seen vhost file t told v g.memory)
tx_steps_on s w me seen d vhost file t told v g a b way = where_then (Shape s w me seen d (command.TxTurn vhost)) (tx_step (tx_turns.tx_state t v g.memory)) _
    (λ made e. tx_made (Shape s w me seen d (command.TxTurn vhost)) w me seen vhost file told v made
    (λ step over e2 end_. TxTurning vhost file t told v g made step over refl a b way e end_ refl))

begins : (s : Setup) (w : World) (me n seen : ℕ) (c : Command) → AllShaped s w me seen Begun c (tx_turns.turn_begins w me n seen c)
begins s w me n seen (command.RxTurn vhost) = let P = Shape s w me seen Begun (command.RxTurn vhost) in
    where_then P (at w.vhosts vhost) _ (λ v e2. where_then P (at w.guests v.guest) _
    (λ g e3. where_then P v.settings.rx.file _ (λ file e4. where_if P (is_free 0 v && is_none v.settings.rx.queue.stopped)
    (rx_turns.rx_steps_on w me seen vhost file (rx_begun v.settings.mrg (hdr_of v.settings)) v g.memory)
    (λ x. rx_steps_on s w me seen Begun vhost file (rx_begun v.settings.mrg (hdr_of v.settings)) v g e2 e3 (inr (refl, e4, (both _ _ x).0, refl))))))
begins s w me n seen (command.TxTurn vhost) = let P = Shape s w me seen Begun (command.TxTurn vhost) in
    where_then P (at w.vhosts vhost) _ (λ v e2. where_then P (at w.guests v.guest) _
    (λ g e3. where_then P v.settings.tx.file _ (λ file e4. where_if P (is_free 1 v && is_none v.settings.tx.queue.stopped)
    (tx_turns.tx_steps_on w me seen vhost file (tx_begun (hdr_of v.settings) (name_of me n)) [] v g.memory)
    (λ x. tx_steps_on s w me seen Begun vhost file (tx_begun (hdr_of v.settings) (name_of me n)) [] v g e2 e3 (inr (refl, e4, (both _ _ x).0, name_of me n, refl))))))
begins s w me n seen c = tt

going : (s : Setup) (w : World) (me seen : ℕ) (d : Doing) (c : Command) → can_be d c ≡ true → AllShaped s w me seen d c (tx_turns.on_turn w c (tx_turns.goes_on w me seen d))
going s w me seen (Receives file t) (command.RxTurn vhost) can = let P = Shape s w me seen (Receives file t) (command.RxTurn vhost) in
    where_then P (at w.vhosts vhost) _ (λ v e2. where_then P (at w.guests v.guest) _ (λ g e3. rx_steps_on s w me seen (Receives file t) vhost file t v g e2 e3 (inl refl)))
going s w me seen (Transmits file t told) (command.TxTurn vhost) can = let P = Shape s w me seen (Transmits file t told) (command.TxTurn vhost) in
    where_then P (at w.vhosts vhost) _ (λ v e2. where_then P (at w.guests v.guest) _ (λ g e3. tx_steps_on s w me seen (Transmits file t told) vhost file t told v g e2 e3 (inl refl)))
going s w me seen (Receives file t) c can = absurd (true≢false (sym can))
going s w me seen (Transmits file t told) c can = absurd (true≢false (sym can))
going s w me seen d c can = where_then (Shape s w me seen d c) (rx_turns.turn_on c) _
    (λ t a. where_then (Shape s w me seen d c) (at w.vhosts t.0) _ (λ v b. where_then (Shape s w me seen d c) (at w.guests v.guest) _ (λ g e. tt)))

turns : (s : Setup) (w : World) (me n seen : ℕ) (d : Doing) (c : Command) → can_be d c ≡ true → AllShaped s w me seen d c (tx_turns.turns w me n seen d c)
turns s w me n seen Begun c can = begins s w me n seen c
turns s w me n seen d c can = going s w me seen d c can

hands : (s : Setup) (w : World) (me seen : ℕ) (d : Doing) (c : Command) → can_be d c ≡ true → AllShaped s w me seen d c (tx_turns.hands s w me seen d c)
hands s w me seen (Receives file t) (command.RxTurn vhost) can = let P = Shape s w me seen (Receives file t) (command.RxTurn vhost) in
    where_then P (at w.vhosts vhost) _ (λ v a. where_then P (at w.guests v.guest) _ (λ g b. where_then P (at w.files file) _
    (λ f e1. where_then P (changed (Takes vhost) f) _ (λ h e2. where_then P (rx_turns.front_frame s h) _
    (λ frame e3. where_then P (rx_step (hand.Got frame) (rx_turns.rx_state t v g.memory)) _
    (λ made e. rx_taken P w me seen vhost file v frame made
    (λ over told. RxTurning vhost file t v g (hand.Got frame) made _ _ over refl a b (inl refl) e tt told refl)))))))
hands s w me seen (Receives file t) c can = absurd (true≢false (sym can))
hands s w me seen d c can = tt

finds_nothing : (s : Setup) (w : World) (me seen : ℕ) (d : Doing) (c : Command) → can_be d c ≡ true → AllShaped s w me seen d c (tx_turns.turn_finds_none w me seen d c)
finds_nothing s w me seen (Receives file t) (command.RxTurn vhost) can = let P = Shape s w me seen (Receives file t) (command.RxTurn vhost) in
    where_then P (at w.vhosts vhost) _ (λ v a. where_then P (at w.guests v.guest) _ (λ g b. where_then P (at w.files file) _
    (λ f e1. where_then P (rx_step (hand.NotReady (front_place f)) (rx_turns.rx_state t v g.memory)) _
    (λ made e. rx_missed P w me seen vhost file v f made
    (λ over told. RxTurning vhost file t v g (hand.NotReady (front_place f)) made _ _ over refl a b (inl refl) e tt told refl)))))
finds_nothing s w me seen (Receives file t) c can = absurd (true≢false (sym can))
finds_nothing s w me seen d c can = tt

give_stage : (st : TxStage) → is_kind event.HostIn (tx_next_kind st) ≡ true → st ≡ tx.Give
give_stage tx.Give e = refl
give_stage tx.Begin e = absurd (true≢false (sym e))
give_stage tx.Fetch e = absurd (true≢false (sym e))
give_stage tx.NoticesOn e = absurd (true≢false (sym e))
give_stage tx.FetchAgain e = absurd (true≢false (sym e))
give_stage (tx.NoticesOff fault) e = absurd (true≢false (sym e))
give_stage tx.Copy e = absurd (true≢false (sym e))
give_stage (tx.Publish end) e = absurd (true≢false (sym e))
give_stage (tx.Ended end) e = absurd (true≢false (sym e))

gives : (s : Setup) (w : World) (me seen : ℕ) (d : Doing) (c : Command) → is_kind event.HostIn (next_kind w d c) ≡ true → can_be d c ≡ true
    → AllShaped s w me seen d c (tx_turns.hosts_of_turn w seen d c)
gives s w me seen (Transmits file t told) (command.TxTurn vhost) next can = let P = Shape s w me seen (Transmits file t told) (command.TxTurn vhost) in
    where_then P (at w.vhosts vhost) _ (λ v a. where_then P (at w.guests v.guest) _ (λ g b. where_then P t.held _ (λ f e1. where_then P (tx_step (tx_turns.tx_state t v g.memory)) _
    (λ made e2. Giving vhost file t told refl refl refl refl refl (record {
      v = v;
      g = g;
      made = made;
      frame = tx_turns.with_host f;
      seen = seen;
      f = found.Moved f.name;
      doing = refl;
      stage = give_stage t.stage next;
      command = refl;
      at_vhost = a;
      step = e2;
      goes = refl;
    })))))
gives s w me seen (Transmits file t told) c next can = absurd (true≢false (sym can))
gives s w me seen d c next can = tt

-- ---- all rows

pub row_shape : (s : Setup) (w : World) (k : EventKind) (me : ℕ) (a : Actor) (n : ℕ) (c : Command) → is_kind k (next_kind w a.doing c) ≡ true → can_be a.doing c ≡ true
    → AllShaped s w me a.seen a.doing c (rows.row s w k me a n c)
row_shape s w event.Look me a n c next can = look_row s w me a n c next can
row_shape s w event.Publish me a n c next can = publish_row s w me a.seen a.doing c
row_shape s w event.Claim me a n c next can = claims s w me a.seen c n a.doing
row_shape s w event.Ready me a n c next can = puts s w me a.seen c a.doing
row_shape s w event.Full me a n c next can = drops s w me a.seen c ring.full_now n a.doing
row_shape s w event.Gone me a n c next can = drops s w me a.seen c ring.gone_now n a.doing
row_shape s w event.Spent me a n c next can = drops s w me a.seen c ring.spent_now n a.doing
row_shape s w event.Shut me a n c next can = held (Shape s w me a.seen a.doing c) w me (ring.shuts w a.seen a.doing) (shuts s w me a.seen c a.doing)
row_shape s w event.Reopen me a n c next can = held (Shape s w me a.seen a.doing c) w me (ring.reopens w a.seen a.doing) (reopens s w me a.seen c a.doing)
row_shape s w event.Resize me a n c next can = held (Shape s w me a.seen a.doing c) w me (ring.resizes w a.seen a.doing) (resizes s w me a.seen c a.doing)
row_shape s w event.Cut me a n c next can = held (Shape s w me a.seen a.doing c) w me (ring.cuts w a.seen a.doing) (cuts s w me a.seen c a.doing)
row_shape s w event.Move me a n c next can = moves s w me a.seen c a.doing
row_shape s w event.Hand me a n c next can = hands s w me a.seen a.doing c can
row_shape s w event.PutBack me a n c next can = turns s w me n a.seen a.doing c can
row_shape s w event.Out me a n c next can = or_else (Shape s w me a.seen a.doing c) (ring.leaves s w a.seen a.doing) (tx_turns.turns w me n a.seen a.doing c)
    (leaves s w me a.seen c a.doing) (turns s w me n a.seen a.doing c can)
row_shape s w event.NotReady me a n c next can = or_else (Shape s w me a.seen a.doing c) (ring.finds_none w a.seen a.doing) (tx_turns.turn_finds_none w me a.seen a.doing c)
    (finds_none s w me a.seen c a.doing) (finds_nothing s w me a.seen a.doing c can)
row_shape s w event.Owner me a n c next can = owner_row s w me a.seen a.doing c
row_shape s w event.HostIn me a n c next can = or_else (Shape s w me a.seen a.doing c) (ring.hosts w me n a.seen a.doing) (tx_turns.hosts_of_turn w a.seen a.doing c)
    (hosts s w me a.seen c n a.doing) (gives s w me a.seen a.doing c next can)
row_shape s w event.Poke me a n c next can = pokes s w me a.seen a.doing c can
row_shape s w event.Peek me a n c next can = pokes s w me a.seen a.doing c can
row_shape s w event.Drive me a n c next can = drive_row s w me a.seen a.doing c
row_shape s w event.Fetch me a n c next can = turns s w me n a.seen a.doing c can
row_shape s w event.Copy me a n c next can = turns s w me n a.seen a.doing c can
row_shape s w event.PublishUsed me a n c next can = turns s w me n a.seen a.doing c can
row_shape s w event.Notices me a n c next can = turns s w me n a.seen a.doing c can
