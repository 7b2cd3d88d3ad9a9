-- What is known of an actor whose command is under way, in a sound and steady world.
use Rattle.std.proofs.Common.{◌≡◌, ℕ, List, map, Bool, true, false, Option, Some, None, refl, sym, ap, ◌∙◌, subst, option_map}
use Rattle.std.specs.Prelude.{if◌then◌else◌, ◌&&◌, is_none, is_some, slice_get, IfSome, IsSome}
use Rattle.std.specs.Option.{option_map_or}
use Rattle.scen_words.specs.declared.command.Command.{Command}
use Rattle.tap_frame.specs.declared.name.Name.{Name}
use Rattle.tap_steer.specs.declared.operation.Op.{Op}
use Rattle.tap_steer.specs.Rules.{refuse}
use Rattle.tap_ground.specs.Options.{◌>>=◌}
use Rattle.tap_world.specs.declared.event.EventKind.{EventKind}
use Rattle.tap_world.specs.ByNumber.{at, with_at}
use Rattle.tap_world.specs.Setup.{Declared, NamesDeclared, Numbered, Setup, op_of}
use Rattle.tap_world.specs.declared.line.Entry.{Entry}
use Rattle.tap_world.specs.Line.{File}
use Rattle.tap_world.specs.LineSteps.{Change, changed}
use Rattle.tap_world.specs.Guests.{Guest, Vhost}
use Rattle.tap_world.specs.World.{Actor, Doing, World, current, table}
use Rattle.tap_world.specs.World.Doing.{Begun}
use Rattle.tap_world.specs.Effect.{Effect, Onward, files_after, on_file}
use Rattle.tap_world.specs.Effect.OnFiles.{OnFile}
use Rattle.tap_world.specs.Scripts.{next_kind}
use Rattle.tap_world.specs.Step.{row}
use Rattle.tap_world.specs.StepRing.{if_held, name_at}
use Rattle.tap_world.specs.StepTable.{publishes_op, publishes_own}
use Rattle.tap_world.specs.World.{holds_writer}
use Rattle.tap_world.specs.Sound.{IsSound, holds}
use Rattle.tap_world.specs.SoundActors.{can_be, is_begun}
use Rattle.tap_world.specs.SoundTable.{commanded, expected, has_of, of_table, writer_of, writing}
use Rattle.tap_world.specs.Steady.{IsSteady, file_in, to_publish}
use Rattle.tap_world.specs.Waiting.{may_go_from}
use Rattle.tap_sound.proofs.Turned.{at_is}
use Rattle.tap_waits.proofs.Kit.{at_map, does, first_of, if_true, some_mapped, some_of, there_in}

-- ---- an actor, and what is to be shown of it

abbrev pub me : ℕ → List Numbered → Doing → Actor
me seen script d = record { seen = seen; script = script; doing = d }

-- it is an actor of the world, which is sound and steady, and its command is this one
pub record Here (s : Setup) (w : World) (i seen : ℕ) (script : List Numbered) (n : ℕ) (c : Command) (d : Doing)
    : Type 0 where
  pub found : slice_get w.actors i ≡ Some (me seen script d)
  pub now : current script ≡ Some (record { number = n; command = c })
  pub sound : IsSound s w
  pub steady : IsSteady s w

-- its command has a next event, whose row can be done exactly where the actor may go on
pub record Goes (s : Setup) (w : World) (i seen : ℕ) (script : List Numbered) (n : ℕ) (c : Command) (d : Doing)
    : Type 0 where
  pub kind : EventKind
  pub is_next : next_kind w d c ≡ Some kind
  pub done : does w i n (row s w kind i (me seen script d) n c) ≡ may_go_from w i c d

-- ---- what is there

module _ {s : Setup} {w : World} {i seen : ℕ} {script : List Numbered} {n : ℕ} {c : Command} {d : Doing} where
  pub can : Here s w i seen script n c d → can_be d c ≡ true
  can h =
      sym (ap (λ (o : Option Numbered). option_map_or (λ (x : Numbered). can_be d x.command) o (is_begun d)) h.now)
      ∙ h.sound.actors.stand i (me seen script d) h.found

  pub names : Here s w i seen script n c d → NamesDeclared s c
  names h = first_of (λ (x : Numbered). NamesDeclared s x.command) script (record { number = n; command = c })
      (h.steady.named.commands i (me seen script d) h.found) h.now

  pub file_there : Here s w i seen script n c d → (file : ℕ) → IsSome (at s.files file)
      → (f : File) × (at w.files file ≡ Some f)
  file_there h file e =
      there_in (λ (x : File). x.first) w.files (map (λ (o : Option Declared). option_map (λ (x : Declared). x.first) o)
      s.files) file h.steady.there.files
      (ap (λ o. is_some o) (at_map (λ (x : Declared). x.first) s.files file)
      ∙ some_mapped (λ (x : Declared). x.first) (at s.files file) ∙ e)

  pub file_named : Here s w i seen script n c d → (file : ℕ) → file_in d ≡ Some file
      → (f : File) × (at w.files file ≡ Some f)
  file_named h file e = file_there h file
      (subst (λ (o : Option ℕ). IfSome o (λ k. IsSome (at s.files k))) e
      (h.steady.named.doing i (me seen script d) h.found))

  pub vhost_there : Here s w i seen script n c d → (vhost : ℕ) → IsSome (at s.vhosts vhost)
      → (v : Vhost) × (at w.vhosts vhost ≡ Some v)
  vhost_there h vhost e = there_in (λ (x : Vhost). x.guest) w.vhosts s.vhosts vhost h.steady.there.vhosts e

  pub guest_there : Here s w i seen script n c d → (guest : ℕ) → IsSome (at s.guests guest)
      → (g : Guest) × (at w.guests guest ≡ Some g)
  guest_there h guest e = there_in (λ (x : Guest). x.memory.regions) w.guests s.guests guest h.steady.there.guests e

  pub guest_of_vhost : Here s w i seen script n c d → (vhost : ℕ) (v : Vhost) → at w.vhosts vhost ≡ Some v
      → (g : Guest) × (at w.guests v.guest ≡ Some g)
  guest_of_vhost h vhost v e = let r = h.sound.rings.rings vhost v e in (r.0, r.1)

  -- ---- the writer

  pub held : Here s w i seen script n c d → holds d ≡ true → holds_writer w i ≡ true
  held h e = sym (h.sound.actors.writer i (me seen script d) h.found) ∙ e

  pub writer_me : Here s w i seen script n c d → holds d ≡ true → w.writer ≡ Some i
  writer_me h e = at_is i w.writer (held h e)

  writer_is : Here s w i seen script n c d → holds d ≡ true → writer_of w ≡ Some (me seen script d)
  writer_is h e = ap (λ (o : Option ℕ). o >>= (λ k. slice_get w.actors k)) (writer_me h e) ∙ h.found

  pub writing_is : Here s w i seen script n c d → holds d ≡ true → writing w ≡ d
  writing_is h e = ap (λ (o : Option Actor). option_map_or (λ (a : Actor). a.doing) o Begun) (writer_is h e)

  pub commanded_is : Here s w i seen script n c d → holds d ≡ true → commanded w ≡ Some c
  commanded_is h e =
      ap (λ (o : Option Actor). o >>= (λ (a : Actor). current a.script >>= (λ (x : Numbered). Some x.command)))
      (writer_is h e)
      ∙ ap (λ (o : Option Numbered). o >>= (λ (x : Numbered). Some x.command)) h.now

  -- what it is to publish is lawful
  pub lawful : Here s w i seen script n c d → holds d ≡ true → (x : Op) → to_publish s d c ≡ Some x
      → refuse (table s w) x ≡ None
  lawful h e x is = h.steady.lawful c x (commanded_is h e) (ap (λ (q : Doing). to_publish s q c) (writing_is h e) ∙ is)

  -- a file has what the table says, but for this command
  pub agreed : Here s w i seen script n c d → holds d ≡ true → (file : ℕ) (f : File) → at w.files file ≡ Some f
      → has_of f ≡ expected d (Some c) file (of_table (table s w) file)
  agreed h e file f is =
      h.sound.tabled.agrees file f is
      ∙ ap (λ (q : Doing). expected q (commanded w) file (of_table (table s w) file)) (writing_is h e)
      ∙ ap (λ (q : Option Command). expected d q file (of_table (table s w) file)) (commanded_is h e)

  -- ---- rows

  pub held_row : Here s w i seen script n c d → holds d ≡ true → (o : Option Effect) → if_held w i o ≡ o
  held_row h e o = ap (λ (b : Bool). if b then o else None) (held h e)

  pub own_row : Here s w i seen script n c d → holds d ≡ true → (x : Op) → to_publish s d c ≡ Some x
      → op_of s c ≡ Some x
      → publishes_op s w i d c ≡ publishes_own w x d
  own_row h e x is op =
      ap (λ (o : Option Op). o >>= (λ y. if holds_writer w i && is_none (refuse (table s w) y) then publishes_own w y d
      else None)) op
      ∙ if_true (holds_writer w i) (is_none (refuse (table s w) x)) (publishes_own w x d) (held h e)
      (ap (λ o. is_none o) (lawful h e x is))

pub and_true : (b : Bool) → (b && true) ≡ b
and_true true = refl
and_true false = refl

pub file_changes : (w : World) (file : ℕ) (f : File) (change : Change) → at w.files file ≡ Some f
    → is_some (files_after (OnFile file change) w.files) ≡ is_some (changed change f)
file_changes w file f change e =
    ap (λ (o : Option File). is_some (o >>= (λ g. changed change g >>= (λ k. Some (with_at file k w.files))))) e
    ∙ some_of (changed change f) (λ k. with_at file k w.files)

-- a row that changes one file alone is done where that can change so
pub does_on_file : (w : World) (i n file : ℕ) (f : File) (change : Change) (o : Onward) → at w.files file ≡ Some f
    → does w i n (Some (on_file file change o w)) ≡ is_some (changed change f)
does_on_file w i n file f change o e = and_true _ ∙ file_changes w file f change e

pub does_there : (w : World) (i n file : ℕ) (f : File) (change : Change) (o : File → Onward) → at w.files file ≡ Some f
    → does w i n (at w.files file >>= (λ g. Some (on_file file change (o g) w))) ≡ is_some (changed change f)
does_there w i n file f change o e =
    ap (λ (q : Option File). does w i n (q >>= (λ g. Some (on_file file change (o g) w)))) e
    ∙ does_on_file w i n file f change (o f) e

-- the name at a place where an entry is
pub name_there : (line : List Entry) (o : Option ℕ) (k : ℕ) (e : Entry) → o ≡ Some k → slice_get line k ≡ Some e
    → name_at line o ≡ Some e.name
name_there line o k e is at_ =
    ap (λ (q : Option ℕ). name_at line q) is ∙ ap (λ (q : Option Entry). q >>= (λ (x : Entry). Some x.name)) at_

-- one that tells the name of an entry
pub named_row : (w : World) (file : ℕ) (f : File) (change : Change) (o : Name → Onward) (place : List Entry → Option ℕ)
    (k : ℕ) (e : Entry)
    → at w.files file ≡ Some f → place f.line ≡ Some k → slice_get f.line k ≡ Some e
    → (at w.files file >>= (λ g. name_at g.line (place g.line) >>= (λ name. Some (on_file file change (o name) w))))
    ≡ Some (on_file file change (o e.name) w)
named_row w file f change o place k e at_ is there =
    ap (λ (q : Option File). q
    >>= (λ g. name_at g.line (place g.line) >>= (λ name. Some (on_file file change (o name) w)))) at_
    ∙ ap (λ (q : Option Name). q >>= (λ name. Some (on_file file change (o name) w)))
    (name_there f.line (place f.line) k e is there)
