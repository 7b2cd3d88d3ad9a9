-- What each event of a send says where it ends it.
use Rattle.std.proofs.Common.{◌≡◌, ℕ, ◌-◌, List, [], ◌∷◌, ◌++◌, Bool, true, false, Option, Some, None, refl, sym, ap, ◌∙◌, subst, true≢false, arith}
use Rattle.std.specs.Prelude.{if◌then◌else◌, slice_get}
use Rattle.tap_frame.specs.declared.header.Hdr.{Hdr}
use Rattle.tap_frame.specs.declared.reading.BadFrame.{BadFrame}
use Rattle.tap_ledger.specs.declared.fate.Cause.{Cause}
use Rattle.tap_ledger.specs.declared.fate.Cause.TheVariants as cause
use Rattle.tap_steer.specs.declared.selection.Select.{Select}
use Rattle.tap_steer.specs.declared.selection.Select.TheVariants as select
use Rattle.tap_steer.specs.Select as steer
use Rattle.tap_steer.specs.Table.{Table}
use Rattle.scen_words.specs.declared.command.Command.{Command}
use Rattle.scen_words.specs.declared.command.Command.TheVariants as command
use Rattle.tap_trace.specs.declared.answer.Answer.TheVariants as answer
use Rattle.tap_world.specs.declared.event.EventKind.{EventKind}
use Rattle.tap_world.specs.declared.event.EventKind.TheVariants as event
use Rattle.tap_world.specs.declared.line.Entry.{Entry}
use Rattle.tap_world.specs.declared.line.Standing.TheVariants.{Ready}
use Rattle.tap_world.specs.ByNumber.{at}
use Rattle.tap_world.specs.Frames.{bad_in, ether_in, sent_bytes, sent_front}
use Rattle.tap_world.specs.Line.{File, claimed, freed, is_full, is_gone, is_spent}
use Rattle.tap_world.specs.LineSteps.{is_claim_of, restand}
use Rattle.tap_world.specs.LineSteps.Change.{Puts}
use Rattle.tap_world.specs.Scripts.{is_kind, next_kind, send_next}
use Rattle.tap_world.specs.Step.{row}
use Rattle.tap_world.specs.Setup.{Numbered, Setup}
use Rattle.tap_world.specs.SoundActors.{is_send}
use Rattle.tap_world.specs.Steady.{IsClaimed}
use Rattle.tap_world.specs.StepRing as ring
use Rattle.tap_world.specs.StepTable as tables
use Rattle.tap_world.specs.World.{Doing, World, name_of, table}
use Rattle.tap_world.specs.World.Doing.{Begun, Placed, Routed}
use Rattle.tap_sound.proofs.Kit.{only_some, some_same, then_some, where_then}
use Rattle.tap_answers.specs.SaysSends.{FindsFull, FindsGone, FindsSpent, IsTurnedAway, SendSays}
use Rattle.tap_answers.specs.SaysShared.{HasEntry, Occasion}
use Rattle.tap_answers.proofs.NextKinds.{at_file_kind, at_kind}
use Rattle.tap_answers.proofs.Kit.{restand_here, table_now}
use Rattle.tap_answers.proofs.Rows.{AllSay, Known, OneFile, RowSays, Says, actor_at, at_doing, one_file, sees_known, sees_newest}

-- the first of the four kinds of events whose condition holds
chosen : (P : EventKind → Type 0) (g p l : Bool) → (g ≡ true → P event.Gone) → (g ≡ false → p ≡ true → P event.Spent)
    → (g ≡ false → p ≡ false → l ≡ true → P event.Full) → P event.Claim
    → P (if g then event.Gone else if p then event.Spent else if l then event.Full else event.Claim)
chosen P true p l gone spent full claim = gone refl
chosen P false true l gone spent full claim = spent refl refl
chosen P false false true gone spent full claim = full refl refl refl
chosen P false false false gone spent full claim = claim

-- a place that was claimed is put
put_is : (w : World) (me file place epoch len : ℕ) (n : ℕ) (o : Occasion) (is : o.before ≡ w)
    (cl : IsClaimed w me file place epoch len (name_of me n))
    → OneFile file (Puts me place) w.files o.after.files
    → HasEntry o file cl.f cl.index (record { name = name_of me n; epoch = epoch; len = len; stands = Ready })
put_is w me file place epoch len n o is cl one =
    let e = then_some (slice_get one.f.line (place - one.f.first)) _ one.g one.is_changed in
    let same : one.f ≡ cl.f = some_same one.f cl.f (sym one.is_before ∙ cl.is_there) in
    let made = (only_some (is_claim_of me e.0.stands) (record one.f { line = restand (place - one.f.first) Ready one.f.line }) one.g e.2).1 in
    let first = ap (λ (f : File). f.first) same in
    let is_place = cl.is_place in
    let i : place - one.f.first ≡ cl.index = omega (arith, first, is_place) in
    let line : one.g.line ≡ restand cl.index Ready cl.f.line =
    ap (λ (f : File). f.line) (sym made) ∙ ap (λ k. restand k Ready one.f.line) i
    ∙ ap (λ (f : File). restand cl.index Ready f.line) same in
    record {
      g = one.g;
      is_there = one.is_after;
      first = ap (λ (f : File). f.first) (sym made) ∙ first;
      entry = ap (λ (l : List Entry). slice_get l cl.index) line ∙ restand_here cl.index Ready cl.f.line _ cl.entry;
    }

module _ (s : Setup) (w u : World) (me low n : ℕ) (script : List Numbered) (device : ℕ) (hdr : Option Hdr) (bytes : List ℕ) where
  abbrev c : Command
  c = command.Send device hdr bytes

  abbrev on : Doing → Occasion
  on d = at_doing w u me low n d

  -- ---- the look

  looked : Known s (on Begun) c → (b : Option BadFrame) → bad_in (sent_front hdr) (sent_bytes hdr bytes) ≡ b → (x : Select)
      → steer.select (table s w) device (ether_in (sent_front hdr) (sent_bytes hdr bytes)) ≡ x
      → RowSays s (on Begun) c (tables.unless_bad b w (tables.routed w (name_of me n) x))
  looked k (Some bad) is x chose = λ left.
      (record { looked = refl; refused = is }, sees_newest s (on Begun) c k _ left.ops)
  looked k None is select.NoQueue chose = λ left. (
    record {
      looked = refl;
      accepted = is;
      selected = ap (λ (t : Table). steer.select t device (ether_in (sent_front hdr) (sent_bytes hdr bytes))) (table_now s w)
          ∙ chose;
      dropped = left.dropped;
    },
    sees_newest s (on Begun) c k _ left.ops,
  )
  looked k None is select.Filtered chose = λ left. (
    record {
      looked = refl;
      accepted = is;
      selected = ap (λ (t : Table). steer.select t device (ether_in (sent_front hdr) (sent_bytes hdr bytes))) (table_now s w)
          ∙ chose;
      dropped = left.dropped;
    },
    sees_newest s (on Begun) c k _ left.ops,
  )
  looked k None is (select.Row row keep resizes capacity) chose = λ left. tt

  -- ---- the ring

  -- what an event of a kind says of a send that has come so far
  abbrev At : Doing → EventKind → Type 0
  At d j = AllSay s (on d) c (row s w j me (actor_at low script d) n c)

  -- a frame that is dropped, for a cause that says so
  module _ (file epoch len : ℕ) (k : Known s (on (Routed file epoch len)) c) where
    abbrev d : Doing
    d = Routed file epoch len

    turned_away : (Why : ℕ → File → Type 0) (f : File) → at w.files file ≡ Some f → Why epoch f
        → u.dropped ≡ w.dropped ++ name_of me n ∷ []
        → IsTurnedAway s (on d) device hdr bytes low file Why
    turned_away Why f is why gone_ = record {
      known = refl;
      epoch = epoch;
      keep = len;
      row = k.found;
      f = f;
      is_file = is;
      why = why;
      dropped = gone_;
    }

    dropped : (why : ℕ → File → Option Cause)
        → ((f : File) (x : Cause) → at w.files file ≡ Some f → why epoch f ≡ Some x
        → u.dropped ≡ w.dropped ++ name_of me n ∷ []
        → SendSays s (on d) device hdr bytes low (answer.Dropped (Some file) x))
        → AllSay s (on d) c (ring.drops_for why w me n low d)
    dropped why says =
        let P = RowSays s (on d) c in
        where_then P (at w.files file) _ (λ f e1. where_then P (why epoch f) _
        (λ x e2 left. (says f x e1 e2 left.dropped, sees_known s (on d) c k _ left.ops)))

    -- the test that holds of the file holds of the one that the row found
    moved : (test : File → Bool) (b : Bool) (f g : File) → at w.files file ≡ Some f → at w.files file ≡ Some g
        → test f ≡ b → test g ≡ b
    moved test b f g x y h = ap test (sym (some_same f g (sym x ∙ y))) ∙ h

    gone : At d event.Gone
    gone = dropped ring.gone_now (λ f x e1 e2 gone_.
        let t = only_some (is_gone epoch f) (cause.Gone epoch f.epoch f.shut) x e2 in
        subst (λ (q : Cause). SendSays s (on d) device hdr bytes low (answer.Dropped (Some file) q)) t.1
        (turned_away (FindsGone epoch f.epoch f.shut) f e1 (t.0, refl, refl, refl) gone_))

    spent : (f : File) → at w.files file ≡ Some f → is_gone epoch f ≡ false → At d event.Spent
    spent f is fresh = dropped ring.spent_now (λ g x e1 e2 gone_.
        let t = only_some (is_spent g) (cause.Spent (claimed g)) x e2 in
        subst (λ (q : Cause). SendSays s (on d) device hdr bytes low (answer.Dropped (Some file) q)) t.1
        (turned_away (FindsSpent (claimed g)) g e1
        (moved (is_gone epoch) false f g is e1 fresh, t.0, refl) gone_))

    full : (f : File) → at w.files file ≡ Some f → is_gone epoch f ≡ false → is_spent f ≡ false → At d event.Full
    full f is fresh left_ = dropped ring.full_now (λ g x e1 e2 gone_.
        let t = only_some (is_full g) (cause.Full (claimed g) (freed g)) x e2 in
        subst (λ (q : Cause). SendSays s (on d) device hdr bytes low (answer.Dropped (Some file) q)) t.1
        (turned_away (FindsFull (claimed g) (freed g)) g e1 (
          moved (is_gone epoch) false f g is e1 fresh,
          moved is_spent false f g is e1 left_,
          t.0,
          refl,
          refl,
        ) gone_))

    claim : At d event.Claim
    claim = where_then (RowSays s (on d) c) (at w.files file) _ (λ f e1 left. tt)

    routed : (j : EventKind) → is_kind j (next_kind w d c) ≡ true → At d j
    routed j next = at_file_kind (At d) (at w.files file) (send_next epoch) j next
        (λ f is. chosen (At d) (is_gone epoch f) (is_spent f) (is_full f) (λ h. gone) (λ h p. spent f is h)
        (λ h p l. full f is h p) claim)

  -- the frame is put
  put : (file place epoch len : ℕ) → Known s (on (Placed file place epoch len)) c
      → At (Placed file place epoch len) event.Ready
  put file place epoch len k left =
      let d = Placed file place epoch len in
      let cl = k.claim file place epoch len refl in (
        record {
          known = refl;
          row = k.found;
          claim = cl;
          put = put_is w me file place epoch len n (on d) refl cl (one_file file (Puts me place) w.files u.files left.files);
        },
        sees_known s (on d) c k _ left.ops,
      )

  -- ---- as far as it has come

  send_says : (d : Doing) → Says s w u me low n script d c
  send_says Begun k j next = at_kind (At Begun) j event.Look next (looked k _ refl _ refl)
  send_says (Routed file epoch len) k j next = routed file epoch len k j next
  send_says (Placed file place epoch len) k j next =
      at_kind (At (Placed file place epoch len)) j event.Ready next (put file place epoch len k)
  send_says d k j next = absurd (true≢false (sym k.can))

-- each event of a send
pub sends_by : (s : Setup) (w u : World) (me low n : ℕ) (script : List Numbered) (d : Doing) (c : Command)
    → is_send c ≡ true → Says s w u me low n script d c
sends_by s w u me low n script d (command.Send device hdr bytes) is = send_says s w u me low n script device hdr bytes d
sends_by s w u me low n script d c is = absurd (true≢false (sym is))
