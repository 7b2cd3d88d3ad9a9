-- What each event of a read says where it ends it.
use Rattle.std.proofs.Common.{◌≡◌, ℕ, List, Bool, true, false, Option, Some, None, refl, sym, ap, ◌∙◌, subst, true≢false}
use Rattle.std.specs.Prelude.{if◌then◌else◌, ◌&&◌, is_none, is_some, nat_lt, slice_get}
use Rattle.std.proofs.lemmas.Bool.{eqb-true}
use Rattle.tap_ledger.specs.declared.fate.Fate.TheVariants as fate
use Rattle.tap_steer.specs.Select as steer
use Rattle.tap_steer.specs.Table.{Table}
use Rattle.scen_words.specs.declared.command.Command.{Command}
use Rattle.scen_words.specs.declared.command.Command.TheVariants as command
use Rattle.tap_trace.specs.declared.answer.Answer.TheVariants as answer
use Rattle.tap_world.specs.declared.event.EventKind.{EventKind}
use Rattle.tap_world.specs.declared.event.EventKind.TheVariants as event
use Rattle.tap_world.specs.declared.event.Found.TheVariants as found
use Rattle.tap_world.specs.declared.line.Entry.{Entry}
use Rattle.tap_world.specs.declared.line.Standing.TheVariants.{Out}
use Rattle.tap_world.specs.ByNumber.{at}
use Rattle.tap_ledger.specs.declared.error.TapErr.TheVariants.{EBADFD}
use Rattle.tap_world.specs.Effect.{Effect, only}
use Rattle.tap_world.specs.Effect.Onward.{Ends, Goes}
use Rattle.tap_world.specs.Frames.{Front, least_in}
use Rattle.tap_world.specs.Line.{File, first_that, front_place, has_batch, in_batch}
use Rattle.tap_world.specs.LineSteps.{left_by, may_leave, moves_to, ready_front, restand}
use Rattle.tap_world.specs.LineSteps.Change.{Leaves}
use Rattle.tap_world.specs.Scripts.{is_kind, next_kind, read_next}
use Rattle.tap_world.specs.Setup.{Numbered, Setup, frame_of}
use Rattle.tap_world.specs.Steady.{WasSent}
use Rattle.tap_world.specs.Step.{row}
use Rattle.tap_world.specs.StepRing as ring
use Rattle.tap_world.specs.StepTable as tables
use Rattle.tap_world.specs.World.{Doing, World, newest, table}
use Rattle.tap_world.specs.World.Doing.{Begun, Reads}
use Rattle.tap_sound.proofs.Kit.{some_same, where_only, where_then}
use Rattle.tap_sound.proofs.Steps.{or_else}
use Rattle.tap_sound.proofs.Taken.{both, if_some}
use Rattle.tap_answers.specs.Laws.{is_read}
use Rattle.tap_answers.specs.SaysReads.{HasNoDevice, Looks}
use Rattle.tap_answers.specs.SaysShared.{HasEntry, Occasion}
use Rattle.tap_answers.proofs.NextKinds.{at_file_kind, at_kind}
use Rattle.tap_answers.proofs.Kit.{all_at, less, none_is, restand_here, some_is, table_now}
use Rattle.tap_answers.proofs.Rows.{AllSay, Known, OneFile, RowSays, Says, actor_at, at_doing, one_file, sees_known, sees_newest}

-- the first of the four kinds of events whose condition holds
chosen : (P : EventKind → Type 0) (o b r : Bool) → P event.Owner → P event.Out → P event.Move → P event.NotReady
    → P (if o then event.Owner else if b then event.Out else if r then event.Move else event.NotReady)
chosen P true b r owner out move none = owner
chosen P false true r owner out move none = out
chosen P false false true owner out move none = move
chosen P false false false owner out move none = none

-- the batch's front is out
left_is : (o : Occasion) (file i : ℕ) (f : File) (e : Entry) → at o.before.files file ≡ Some f
    → first_that in_batch f.line ≡ Some i → slice_get f.line i ≡ Some e
    → OneFile file (Leaves None fate.Read) o.before.files o.after.files
    → HasEntry o file f i (record e { stands = Out fate.Read })
left_is o file i f e is front entry one =
    let same : one.f ≡ f = some_same one.f f (sym one.is_before ∙ is) in
    let was : left_by None fate.Read f ≡ Some one.g = ap (left_by None fate.Read) (sym same) ∙ one.is_changed in
    let moved = (if_some (may_leave None f) (moves_to (Out fate.Read) (record f { hand = None }) (first_that in_batch f.line))
    one.g was).1 in
    let made : record f { hand = None; line = restand i (Out fate.Read) f.line } ≡ one.g =
    some_same _ one.g (ap (moves_to (Out fate.Read) (record f { hand = None })) (sym front) ∙ moved) in
    record {
      g = one.g;
      is_there = one.is_after;
      first = ap (λ (x : File). x.first) (sym made);
      entry = ap (λ (x : File). slice_get x.line i) (sym made) ∙ restand_here i (Out fate.Read) f.line e entry;
    }

-- a file without a device
pub no_device : (s : Setup) (o : Occasion) (file : ℕ) → steer.shape_of (table s o.before) file ≡ None
    → HasNoDevice s o file (newest o.before) EBADFD
no_device s o file is = record {
  looked = refl;
  none = ap (λ (t : Table). steer.shape_of t file) (table_now s o.before) ∙ is;
  told = refl;
}

module _ (s : Setup) (w u : World) (me low n : ℕ) (script : List Numbered) (file room : ℕ) where
  abbrev c : Command
  c = command.Read file room

  abbrev on : Doing → Occasion
  on d = at_doing w u me low n d

  abbrev At : Doing → EventKind → Type 0
  At d j = AllSay s (on d) c (row s w j me (actor_at low script d) n c)

  -- ---- the look

  fronted : Known s (on Begun) c → (front : Front) → steer.shape_of (table s w) file ≡ Some front
      → (b : Bool) → nat_lt room (least_in front) ≡ b → RowSays s (on Begun) c (if b
      then only (Ends (newest w) (answer.Room (least_in front))) w
      else only (Goes (newest w) (Reads file room front) (found.Version (newest w))) w)
  fronted k front shape true small = λ left. (
    record {
      looked = refl;
      front = front;
      shape = ap (λ (t : Table). steer.shape_of t file) (table_now s w) ∙ shape;
      small = less room (least_in front) small;
      told = refl;
    },
    sees_newest s (on Begun) c k _ left.ops,
  )
  fronted k front shape false small = λ left. tt

  looked : Known s (on Begun) c → (o : Option Front) → steer.shape_of (table s w) file ≡ o
      → RowSays s (on Begun) c (tables.with_front o w (tables.reads w file room))
  looked k None is = λ left. (no_device s (on Begun) file is, sees_newest s (on Begun) c k _ left.ops)
  looked k (Some front) is = fronted k front is (nat_lt room (least_in front)) refl

  -- ---- the file

  module _ (front : Front) (k : Known s (on (Reads file room front)) c) where
    abbrev d : Doing
    d = Reads file room front

    abbrev P : Effect → Type 0
    P r = RowSays s (on d) c r

    abbrev looks : (f : File) → at w.files file ≡ Some f → Looks s (on d) file room low
    looks f is = record { known = refl; front = front; shape = k.found.1; enough = k.found.2; f = f; is_file = is }

    owner : At d event.Owner
    owner = or_else P (ring.meets_worker w low d) None
        (where_then P (at w.files file) _ (λ f e1. where_only P (is_some f.owner) (only (Ends low answer.Busy) w)
        (λ b left. let v = some_is f.owner b in (
          record { looks = looks f e1; vhost = v.0; owner = v.1 },
          sees_known s (on d) c k _ left.ops,
        )))) tt

    out : At d event.Out
    out = or_else P (ring.leaves s w low d) None
        (where_then P (at w.files file) _ (λ f e1. where_then P (first_that in_batch f.line) _
        (λ i e2. where_then P (slice_get f.line i) _ (λ e e3. where_then P (frame_of s e.name e.len) _ (λ x e4 left. (
          record {
            looks = looks f e1;
            index = i;
            is_front = e2;
            entry = e;
            is_entry = e3;
            named = refl;
            placed = refl;
            sent = all_at (WasSent s) f.line i e (k.sent file f e1) e3;
            frame = x;
            is_frame = e4;
            text = refl;
            out = left_is (on d) file i f e e1 e2 e3 (one_file file (Leaves None fate.Read) w.files u.files left.files);
          },
          sees_known s (on d) c k _ left.ops,
        )))))) tt

    move : At d event.Move
    move = where_then P (at w.files file) _ (λ f e1. where_then P (ring.name_at f.line (ready_front f.line)) _
        (λ x e2 left. tt))

    none : At d event.NotReady
    none = or_else P (ring.finds_none w low d) None
        (where_then P (at w.files file) _ (λ f e1.
        where_only P (is_none (first_that in_batch f.line) && is_none (ready_front f.line))
        (only (Ends low (answer.Again (front_place f))) w)
        (λ b left.
        let t = both (is_none (first_that in_batch f.line)) (is_none (ready_front f.line)) b in (
          record {
            looks = looks f e1;
            batch = none_is (first_that in_batch f.line) t.0;
            ready = none_is (ready_front f.line) t.1;
            front = refl;
          },
          sees_known s (on d) c k _ left.ops,
        )))) tt

    reading : (j : EventKind) → is_kind j (next_kind w d c) ≡ true → At d j
    reading j next = at_file_kind (At d) (at w.files file) read_next j next
        (λ f is. chosen (At d) (is_some f.owner) (has_batch f) (is_some (ready_front f.line)) owner out move none)

-- a read of this file and room, also where it has come to one of the same
as_same : (s : Setup) (w u : World) (me low n : ℕ) (script : List Numbered) (file room : ℕ) (front : Front) (c : Command)
    → c ≡ command.Read file room → Says s w u me low n script (Reads file room front) c
as_same s w u me low n script file room front c is =
    subst (λ (q : Command). Says s w u me low n script (Reads file room front) q) (sym is)
    (λ k j next. reading s w u me low n script file room front k j next)

read_says : (s : Setup) (w u : World) (me low n : ℕ) (script : List Numbered) (other asked : ℕ) (d : Doing)
    → Says s w u me low n script d (command.Read other asked)
read_says s w u me low n script other asked Begun k j next =
    at_kind (At s w u me low n script other asked Begun) j event.Look next
    (looked s w u me low n script other asked k _ refl)
read_says s w u me low n script other asked (Reads file room front) k j next =
    as_same s w u me low n script file room front (command.Read other asked)
    (λ i. command.Read (eqb-true other file k.can i) (sym k.found.0 i)) k j next
read_says s w u me low n script other asked d k j next = absurd (true≢false (sym k.can))

-- each event of a read
pub reads_by : (s : Setup) (w u : World) (me low n : ℕ) (script : List Numbered) (d : Doing) (c : Command)
    → is_read c ≡ true → Says s w u me low n script d c
reads_by s w u me low n script d (command.Read file room) is = read_says s w u me low n script file room d
reads_by s w u me low n script d c is = absurd (true≢false (sym is))
