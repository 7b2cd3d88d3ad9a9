-- What each event of a write says where it ends it.
use Rattle.std.proofs.Common.{◌≡◌, ℕ, List, Bool, true, false, Option, Some, None, inl, inr, refl, sym, ap, ◌∙◌, subst, true≢false}
use Rattle.std.specs.Prelude.{is_none}
use Rattle.std.proofs.lemmas.Bool.{eqb-true}
use Rattle.std.proofs.lemmas.List.{append-nil}
use Rattle.tap_frame.specs.declared.reading.BadFrame.{BadFrame}
use Rattle.tap_steer.specs.Select as steer
use Rattle.tap_steer.specs.Table.{Table}
use Rattle.scen_words.specs.declared.command.Command.{Command}
use Rattle.scen_words.specs.declared.command.Command.TheVariants as command
use Rattle.tap_world.specs.declared.event.EventKind.{EventKind}
use Rattle.tap_world.specs.declared.event.EventKind.TheVariants as event
use Rattle.tap_world.specs.declared.event.Found.TheVariants as found
use Rattle.tap_world.specs.Effect.{only}
use Rattle.tap_world.specs.Effect.Onward.{Goes}
use Rattle.tap_world.specs.Frames.{Front, bad_in, ether_in}
use Rattle.tap_world.specs.Setup.{Numbered, Setup}
use Rattle.tap_world.specs.Step.{row}
use Rattle.tap_world.specs.StepTable as tables
use Rattle.tap_world.specs.World.{Doing, World, newest, table}
use Rattle.tap_world.specs.World.Doing.{Begun, Hosts, Learns}
use Rattle.tap_sound.proofs.Kit.{where_only}
use Rattle.tap_answers.specs.Laws.{is_write}
use Rattle.tap_answers.specs.SaysShared.{Occasion}
use Rattle.tap_answers.proofs.NextKinds.{at_kind}
use Rattle.tap_answers.proofs.Kit.{table_now}
use Rattle.tap_answers.proofs.ReadRows.{no_device}
use Rattle.tap_answers.proofs.Rows.{AllSay, Known, RowSays, Says, actor_at, at_doing, sees_known, sees_newest, sees_next}

module _ (s : Setup) (w u : World) (me low n : ℕ) (script : List Numbered) (file : ℕ) (bytes : List ℕ) where
  abbrev c : Command
  c = command.Write file bytes

  abbrev on : Doing → Occasion
  on d = at_doing w u me low n d

  abbrev At : Doing → EventKind → Type 0
  At d j = AllSay s (on d) c (row s w j me (actor_at low script d) n c)

  -- ---- the look

  fronted : Known s (on Begun) c → (front : Front) → steer.shape_of (table s w) file ≡ Some front
      → (b : Option BadFrame) → bad_in front bytes ≡ b → RowSays s (on Begun) c (tables.unless_bad b w
      (only (Goes (newest w) (Hosts file (ether_in front bytes) (steer.learns (table s w) file))
      (found.Version (newest w))) w))
  fronted k front shape (Some bad) is = λ left. (
    record {
      looked = refl;
      front = front;
      shape = ap (λ (t : Table). steer.shape_of t file) (table_now s w) ∙ shape;
      refused = is;
    },
    sees_newest s (on Begun) c k _ left.ops,
  )
  fronted k front shape None is = λ left. tt

  looked : Known s (on Begun) c → (o : Option Front) → steer.shape_of (table s w) file ≡ o
      → RowSays s (on Begun) c (tables.with_front o w (tables.writes (table s w) w file bytes))
  looked k None is = λ left. (no_device s (on Begun) file is, sees_newest s (on Begun) c k _ left.ops)
  looked k (Some front) is = fronted k front is (bad_in front bytes) refl

  -- ---- the host, and the learning

  hosted : (ether : List ℕ) (learns : Bool) → Known s (on (Hosts file ether learns)) c
      → At (Hosts file ether learns) event.HostIn
  hosted ether true k = λ left. tt
  hosted ether false k = λ left. (
    inl (record {
      known = refl;
      ether = ether;
      accepted = record { written = k.found.0; length = refl; hash = refl };
      learns = k.found.1;
      hosted = left.hosted;
      none = left.ops ∙ append-nil w.ops;
    }),
    sees_known s (on (Hosts file ether false)) c k _ left.ops,
  )

  learnt : (ether : List ℕ) → Known s (on (Learns file ether)) c → At (Learns file ether) event.Publish
  learnt ether k = where_only (RowSays s (on (Learns file ether)) c) (is_none w.writer) (tables.learns_flow w file ether)
      (λ b left. (
        inr (record {
          next = refl;
          ether = ether;
          accepted = record { written = k.found.0; length = refl; hash = refl };
          learns = k.found.1;
          learning = left.ops;
        }),
        sees_next s (on (Learns file ether)) c k _ left.ops,
      ))

-- a write to this file, also where it has come to one of the same
as_same : (s : Setup) (w u : World) (me low n : ℕ) (script : List Numbered) (d : Doing) (file : ℕ) (bytes : List ℕ)
    (c : Command) → c ≡ command.Write file bytes → Says s w u me low n script d (command.Write file bytes)
    → Says s w u me low n script d c
as_same s w u me low n script d file bytes c is h = subst (λ (q : Command). Says s w u me low n script d q) (sym is) h

write_says : (s : Setup) (w u : World) (me low n : ℕ) (script : List Numbered) (other : ℕ) (bytes : List ℕ) (d : Doing)
    → Says s w u me low n script d (command.Write other bytes)
write_says s w u me low n script other bytes Begun k j next =
    at_kind (At s w u me low n script other bytes Begun) j event.Look next
    (looked s w u me low n script other bytes k _ refl)
write_says s w u me low n script other bytes (Hosts file ether learns) k j next =
    as_same s w u me low n script (Hosts file ether learns) file bytes (command.Write other bytes)
    (ap (λ (q : ℕ). command.Write q bytes) (eqb-true other file k.can))
    (λ h i more. at_kind (At s w u me low n script file bytes (Hosts file ether learns)) i event.HostIn more
    (hosted s w u me low n script file bytes ether learns h)) k j next
write_says s w u me low n script other bytes (Learns file ether) k j next =
    as_same s w u me low n script (Learns file ether) file bytes (command.Write other bytes)
    (ap (λ (q : ℕ). command.Write q bytes) (eqb-true other file k.can))
    (λ h i more. at_kind (At s w u me low n script file bytes (Learns file ether)) i event.Publish more
    (learnt s w u me low n script file bytes ether h)) k j next
write_says s w u me low n script other bytes d k j next = absurd (true≢false (sym k.can))

-- each event of a write
pub writes_by : (s : Setup) (w u : World) (me low n : ℕ) (script : List Numbered) (d : Doing) (c : Command)
    → is_write c ≡ true → Says s w u me low n script d c
writes_by s w u me low n script d (command.Write file bytes) is = write_says s w u me low n script file bytes d
writes_by s w u me low n script d c is = absurd (true≢false (sym is))
