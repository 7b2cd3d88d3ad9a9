-- This project's own: what the rows of looks and of publications say of the operation that they publish, and of how
-- their command goes on.
use Rattle.std.proofs.Common.{◌≡◌, ℕ, ◌+◌, List, [], ◌∷◌, Bool, true, false, Option, Some, None, inl, inr, refl, sym, ap, ◌∙◌, true≢false}
use Rattle.std.specs.Prelude.{◌==◌, ◌&&◌, ◌||◌, not, nat_lt, if◌then◌else◌, is_none}
use Rattle.std.specs.Option.{option_map_or}
use Rattle.tap_flow_key.specs.FlowKey.{hash as flow_hash}
use Rattle.tap_frame.specs.declared.name.Name.{Name}
use Rattle.tap_frame.specs.declared.reading.BadFrame.{BadFrame}
use Rattle.tap_ledger.specs.declared.error.TapErr.{TapErr}
use Rattle.tap_steer.specs.declared.operation.Op.{Op}
use Rattle.tap_steer.specs.declared.operation.Op.TheVariants as op
use Rattle.tap_steer.specs.declared.selection.Select.{Select}
use Rattle.tap_steer.specs.declared.selection.Select.TheVariants as select
use Rattle.tap_steer.specs.Rules.{refuse}
use Rattle.tap_steer.specs.Select as steer
use Rattle.scen_words.specs.declared.command.Command.{Command}
use Rattle.scen_words.specs.declared.command.Command.TheVariants as command
use Rattle.tap_trace.specs.declared.answer.Answer.TheVariants as answer
use Rattle.tap_world.specs.declared.event.EventKind.TheVariants as event
use Rattle.tap_world.specs.declared.event.Found.TheVariants as found
use Rattle.tap_world.specs.ByNumber.{at}
use Rattle.tap_world.specs.Frames.{Front, bad_in, ether_in, least_in, sent_bytes, sent_front}
use Rattle.tap_world.specs.Setup.{Setup, op_of}
use Rattle.tap_world.specs.Guests.{Vhost, is_ring, turn_of}
use Rattle.tap_world.specs.World.{Actor, Doing, World, name_of, newest, table}
use Rattle.tap_world.specs.World.Doing.{Backed, Backs, Changes, Disowned, Given, Hosts, Learns, Opened, Owns, Reads, Released, Routed, Shrinks, Teaches, Transmits, Withdrawn, Withdraws}
use Rattle.tap_world.specs.Effect.{Effect, only}
use Rattle.tap_world.specs.Effect.Onward.{Ends, Goes}
use Rattle.tap_world.specs.Step as rows
use Rattle.tap_world.specs.StepBackend as back
use Rattle.tap_world.specs.StepTable as tables
use Rattle.tap_ground.specs.Options.{only_if}
use Rattle.tap_world.specs.StepTransmits as tx_turns
use Rattle.tap_world.specs.SoundActors.{can_be, sets, unsets}
use Rattle.tap_world.specs.Steady.{version_in}
use Rattle.tap_sound.proofs.Kit.{either, where_if, where_only, where_then}
use Rattle.tap_sound.proofs.Steps.{held}
use Rattle.tap_sound.proofs.Publishing.{equal}
use Rattle.tap_sound.proofs.Taken.{both}
use Rattle.tap_sound.proofs.Writers.{course_is}
use Rattle.tap_sound.proofs.ShapeRows.{look_first}
use Rattle.tap_world.specs.Scripts.{is_kind, next_kind}
use Rattle.tap_steady.proofs.OpsTold.{AllTold, FoundOn, IsOne, Told, at_most, ends, goes, goes_with, learn_is_lawful, learnt_by, own_op, turn_op, unset_is_lawful, unset_op, written_op}

-- ---- looks

module _ (s : Setup) (w : World) (me seen : ℕ) (d : Doing) (none_said : version_in d ≡ None) where
  approved : (c : Command) (x : Op) (o : Option TapErr)
      → Told s w seen d c (tables.decided w me (tables.course (table s w) x) o)
  approved c x None = goes s w seen d c _ (newest w) (tables.course (table s w) x) _ refl refl (inr refl)
      (course_is (λ (e : Doing). FoundOn s w seen d c (newest w) e) (table s w) x (λ file. tt) (λ file. tt)
      (λ file k. tt) tt) (inl none_said)
  approved c x (Some r) = ends s w seen d c _ refl tt

  sending : (device : ℕ) (hdr : _) (bytes : List ℕ) (name : Name) (o : Option BadFrame) (x : Select)
      → bad_in (sent_front hdr) (sent_bytes hdr bytes) ≡ o
      → steer.select (table s w) device (ether_in (sent_front hdr) (sent_bytes hdr bytes)) ≡ x
      → Told s w seen d (command.Send device hdr bytes) (tables.unless_bad o w (tables.routed w name x))
  sending device hdr bytes name (Some b) x bad is = ends s w seen d _ _ refl tt
  sending device hdr bytes name None select.NoQueue bad is = ends s w seen d _ _ refl tt
  sending device hdr bytes name None select.Filtered bad is = ends s w seen d _ _ refl tt
  sending device hdr bytes name None (select.Row row keep resizes capacity) bad is =
      goes s w seen d (command.Send device hdr bytes) _ (newest w) (Routed row.file row.epoch keep) _ refl refl
      (inr refl) (
        refl,
        record {
          row = row;
          resizes = resizes;
          capacity = capacity;
          accepted = bad;
          selected = is;
          is_file = refl;
          is_epoch = refl;
        },
      ) (inl none_said)

  reading : (file room : ℕ) (front : Front) (b : Bool) → nat_lt room (least_in front) ≡ b
      → steer.shape_of (table s w) file ≡ Some front
      → Told s w seen d (command.Read file room) (if b then only (Ends (newest w) (answer.Room (least_in front))) w
      else only (Goes (newest w) (Reads file room front) (found.Version (newest w))) w)
  reading file room front true e shape = ends s w seen d _ _ refl tt
  reading file room front false e shape = goes s w seen d (command.Read file room) _ (newest w)
      (Reads file room front) _ refl refl (inr refl)
      (refl, (refl, shape, at_most room (least_in front) e)) (inl none_said)

  writing : (file : ℕ) (bytes : List ℕ) (front : Front) (o : Option BadFrame) → bad_in front bytes ≡ o
      → steer.shape_of (table s w) file ≡ Some front
      → Told s w seen d (command.Write file bytes) (tables.unless_bad o w
      (only (Goes (newest w) (Hosts file (ether_in front bytes) (steer.learns (table s w) file))
      (found.Version (newest w))) w))
  writing file bytes front (Some b) bad shape = ends s w seen d _ _ refl tt
  writing file bytes front None bad shape =
      goes s w seen d (command.Write file bytes) _ (newest w)
      (Hosts file (ether_in front bytes) (steer.learns (table s w) file)) _ refl refl (inr refl)
      (refl, (record { front = front; shape = shape; accepted = bad; behind = refl }, refl)) (inl none_said)

  fronted : (c : Command) (o : Option Front) (r : Front → Effect)
      → ((front : Front) → o ≡ Some front → Told s w seen d c (r front))
      → Told s w seen d c (tables.with_front o w r)
  fronted c None r h = ends s w seen d c _ refl tt
  fronted c (Some front) r h = h front refl

  looks_at : (name : Name) (c : Command) → AllTold s w seen d c (tables.looks_at (table s w) w name c)
  looks_at name (command.Send device hdr bytes) = sending device hdr bytes name _ _ refl refl
  looks_at name (command.Read file room) = fronted (command.Read file room) (steer.shape_of (table s w) file)
      (tables.reads w file room)
      (λ front shape. reading file room front _ refl shape)
  looks_at name (command.Write file bytes) = fronted (command.Write file bytes) (steer.shape_of (table s w) file)
      (tables.writes (table s w) w file bytes)
      (λ front shape. writing file bytes front _ refl shape)
  looks_at name c = tt

  looks : (a : Actor) (n : ℕ) (c : Command) → AllTold s w seen d c (tables.looks s w me a n c)
  looks a n c = go (op_of s c)
    where
      go : (o : Option Op) → AllTold s w seen d c (option_map_or (tables.looks_to_change (table s w) w me) o
          (tables.looks_at (table s w) w (name_of me n) c))
      go None = looks_at (name_of me n) c
      go (Some x) = where_only (Told s w seen d c) (is_none w.writer) (tables.decided w me (tables.course (table s w) x)
          (refuse (table s w) x))
          (λ e. approved c x (refuse (table s w) x))

  back_seen : (vhost r : ℕ) (file : Option ℕ) (v : Vhost) (o : Option TapErr)
      → back.back_refusal (table s w) vhost r file ≡ o
      → Told s w seen d (command.Backend vhost r file) (back.back_seen w me vhost r v o)
  back_seen vhost r file v None is = goes s w seen d (command.Backend vhost r file) _ (newest w)
      (Backs None) _ refl refl (inr refl) (refl, is) (inl none_said)
  back_seen vhost r file v (Some x) is = goes s w seen d (command.Backend vhost r file) _ (newest w)
      (Backs (Some x)) _ refl refl (inr refl) (refl, is) (inl none_said)

looks_at_flow : (s : Setup) (w : World) (seen : ℕ) (d : Doing) (c : Command)
    → AllTold s w seen d c (tx_turns.looks_at_flow s w d)
looks_at_flow s w seen (Given file t told f) c = go (steer.learns (table s w) file) refl
  where
    go : (b : Bool) → steer.learns (table s w) file ≡ b → Told s w seen (Given file t told f) c
        (only (Goes (newest w) (if b then Teaches file t told f else Transmits file t told)
        (found.Version (newest w))) w)
    go true is = goes s w seen (Given file t told f) c _ (newest w) (Teaches file t told f) _ refl refl (inr refl)
        (refl, is, refl) (inl refl)
    go false is = goes s w seen (Given file t told f) c _ (newest w) (Transmits file t told) _ refl refl (inr refl)
        (inr refl) (inl refl)
looks_at_flow s w seen d c = tt

pub look_row : (s : Setup) (w : World) (me : ℕ) (a : Actor) (n : ℕ) (c : Command)
    → is_kind event.Look (next_kind w a.doing c) ≡ true → can_be a.doing c ≡ true
    → AllTold s w a.seen a.doing c (rows.look_row s w me a n c)
look_row s w me a n (command.Backend vhost r file) next can =
    let P = Told s w a.seen a.doing (command.Backend vhost r file) in
    let none_said = ap version_in (look_first w a.doing (command.Backend vhost r file) next can refl) in
    where_then P (at w.vhosts vhost) _
    (λ v e. where_only P (is_none w.writer && (not (is_ring r) || is_none (turn_of r v)))
    (back.back_seen w me vhost r v (back.back_refusal (table s w) vhost r file))
    (λ b. back_seen s w me a.seen a.doing none_said vhost r file v _ refl))
look_row s w me a n (command.TxTurn vhost) next can = looks_at_flow s w a.seen a.doing (command.TxTurn vhost)
look_row s w me a n c next can = looks s w me a.seen a.doing
    (ap version_in (look_first w a.doing c next can refl)) a n c

-- ---- publications

none_of : {A : Type 0} (o : Option A) → is_none o ≡ true → o ≡ None
none_of None h = refl
none_of (Some x) h = absurd (true≢false (sym h))

-- an operation of the command itself
own_one : (s : Setup) (w : World) (d : Doing) (c : Command) (x : Op) (r : Effect) → r.ops ≡ x ∷ [] → op_of s c ≡ Some x
    → refuse (table s w) x ≡ None → IsOne s w d c r
own_one s w d c x r is of lawful = record { x = x; is = is; op = own_op s c x of; lawful = inl lawful }

own_published : (s : Setup) (w : World) (seen : ℕ) (x : Op) (d : Doing) (c : Command) → op_of s c ≡ Some x
    → refuse (table s w) x ≡ None
    → AllTold s w seen d c (tables.publishes_own w x d)
own_published s w seen x Changes c of lawful =
    record { ops = inr (own_one s w Changes c x _ refl of lawful); onward = tt }
own_published s w seen x (Opened file) c of lawful =
    record { ops = inr (own_one s w (Opened file) c x _ refl of lawful); onward = tt }
own_published s w seen x (Withdraws file) c of lawful =
    goes_with s w seen (Withdraws file) c _ (newest w + 1) (Withdrawn file (newest w + 1)) _
    (own_one s w (Withdraws file) c x _ refl of lawful) refl refl (inl refl) (refl, refl) (inl refl)
own_published s w seen x (Shrinks file places cuts) c of lawful =
    where_then (Told s w seen (Shrinks file places cuts) c) (at w.files file) _
    (λ f e1. record { ops = inr (own_one s w (Shrinks file places cuts) c x _ refl of lawful); onward = tt })
own_published s w seen x d c of lawful = tt

own_row : (s : Setup) (w : World) (me seen : ℕ) (d : Doing) (c : Command)
    → AllTold s w seen d c (tables.publishes_op s w me d c)
own_row s w me seen d c = where_then (Told s w seen d c) (op_of s c) _
    (λ x e. where_if (Told s w seen d c) _ _ (λ b. own_published s w seen x d c e (none_of _ (both _ _ b).1)))

publishes : (s : Setup) (w : World) (me seen : ℕ) (d : Doing) (c : Command) → can_be d c ≡ true
    → AllTold s w seen d c (tables.publishes s w me d c)
publishes s w me seen (Learns file ether) c can =
    where_only (Told s w seen (Learns file ether) c) (is_none w.writer) (tables.learns_flow w file ether) (λ b. record {
      ops = inr (record {
        x = op.Learn file (flow_hash ether);
        is = refl;
        op = written_op s c file
            (flow_hash ether) can;
        lawful = inl (learn_is_lawful s w file (flow_hash ether));
      });
      onward = tt;
    })
publishes s w me seen d c can = own_row s w me seen d c

teaches : (s : Setup) (w : World) (seen : ℕ) (d : Doing) (c : Command) → can_be d c ≡ true
    → AllTold s w seen d c (tx_turns.teaches w d)
teaches s w seen (Teaches file t told f) c can = where_only (Told s w seen (Teaches file t told f) c) (is_none w.writer)
    (record (only (Goes (newest w + 1) (Transmits file t told)
    (found.Version (newest w + 1))) w) { ops = op.Learn file f.flow ∷ [] })
    (λ b. goes_with s w seen (Teaches file t told f) c _ (newest w + 1) (Transmits file t told) _
    (record {
      x = op.Learn file f.flow;
      is = refl;
      op = turn_op s c file f.flow can;
      lawful = inl
          (learn_is_lawful s w file f.flow);
    }) refl refl (inr (learnt_by c file f.flow can)) (inr refl) (inl refl))
teaches s w seen d c can = tt

-- a backend is set: the command asked for this file, of a ring that there is
set_one : (s : Setup) (w : World) (file vhost r : ℕ) (asked : Option ℕ) (e : Effect)
    → sets file (command.Backend vhost r asked) ≡ true
    → e.ops ≡ op.Back file (back.side_of r) (Some vhost) ∷ []
    → IsOne s w (Backed file) (command.Backend vhost r asked) e
set_one s w file vhost r None e can is = absurd (true≢false (sym can))
set_one s w file vhost r (Some other) e can is =
    let t = both _ _ can in
    let same : other ≡ file = equal other file t.0 in
    record {
      x = op.Back file (back.side_of r) (Some vhost);
      is = is;
      op = (t.1, ap (λ (n : ℕ). op.Back n (back.side_of r) (Some vhost)) (sym same));
      lawful = inr (its (is_ring r) t.1 ∙ ap (λ (n : ℕ). Some (op.Back n (back.side_of r) (Some vhost))) same, refl);
    }
  where
    its : (b : Bool) → b ≡ true → only_if b (op.Back other (back.side_of r) (Some vhost)) ≡ Some
        (op.Back other (back.side_of r) (Some vhost))
    its true h = refl
    its false h = absurd (true≢false (sym h))

unset_one : (s : Setup) (w : World) (d : Doing) (file vhost r : ℕ) (asked : Option ℕ) (e : Effect)
    → unsets (command.Backend vhost r asked) ≡ true
    → e.ops ≡ op.Back file (back.side_of r) None ∷ [] → IsOne s w d (command.Backend vhost r asked) e
unset_one s w d file vhost r asked e can is =
    record {
      x = op.Back file (back.side_of r) None;
      is = is;
      op = unset_op s vhost r file asked can;
      lawful = inl
          (unset_is_lawful s w file r);
    }

back_published : (s : Setup) (w : World) (seen : ℕ) (d : Doing) (vhost r : ℕ) (asked : Option ℕ)
    → can_be d (command.Backend vhost r asked) ≡ true
    → AllTold s w seen d (command.Backend vhost r asked) (back.publishes_back w d (command.Backend vhost r asked))
back_published s w seen (Backed file) vhost r asked can =
    let c = command.Backend vhost r asked in
    either (Told s w seen (Backed file) c) (r == 0) _ _
    (goes_with s w seen (Backed file) c _ (newest w + 1) (Owns file (newest w + 1)) _
    (set_one s w file vhost r asked _ can refl) refl refl (inl refl) (refl, refl) (inl refl))
    (record { ops = inr (set_one s w file vhost r asked _ can refl); onward = tt })
back_published s w seen (Disowned file) vhost r asked can =
    record { ops = inr (unset_one s w (Disowned file) file vhost r asked _ (both _ _ can).0 refl); onward = tt }
back_published s w seen (Released file) vhost r asked can =
    record { ops = inr (unset_one s w (Released file) file vhost r asked _ (both _ _ can).0 refl); onward = tt }
back_published s w seen d vhost r asked can = tt

pub publish_row : (s : Setup) (w : World) (me seen : ℕ) (d : Doing) (c : Command) → can_be d c ≡ true
    → AllTold s w seen d c (rows.publish_row s w me d c)
publish_row s w me seen d (command.Backend vhost r file) can =
    held (Told s w seen d (command.Backend vhost r file)) w me _ (back_published s w seen d vhost r file can)
publish_row s w me seen d (command.TxTurn vhost) can = teaches s w seen d (command.TxTurn vhost) can
publish_row s w me seen d c can = publishes s w me seen d c can
