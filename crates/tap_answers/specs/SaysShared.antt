-- This project's own: the occasion on which a command is answered, and what answers of several kinds of commands say of
-- versions, operations, names and entries.
use Rattle.std.specs.Prelude.{◌≡◌, ℕ, suc, ◌+◌, [], ◌∷◌, ◌++◌, slice_get, Some}
use Rattle.tap_steer.specs.declared.operation.Op.{Op}
use Rattle.tap_world.specs.declared.line.Entry.{Entry}
use Rattle.tap_world.specs.ByNumber.{at}
use Rattle.tap_world.specs.Line.{File}
use Rattle.tap_world.specs.declared.told.Published.{Published}
use Rattle.tap_world.specs.World.{Doing, World, name_of, newest}

-- A command is answered: the world before the event by which it ends, and the one after it; the command's actor, the
-- version that this had seen before the event, and how far the command had come then; and the command's number.
pub record Occasion : Type 0 where
  pub before : World
  pub after : World
  pub actor : ℕ
  pub known : ℕ
  pub doing : Doing
  pub number : ℕ

-- ---- SEEN

-- the actor saw nothing at the event, and tells what it had seen; or it saw the newest version; or it published one
abbrev pub IsKnown : Occasion → ℕ → Type 0
IsKnown o seen = seen ≡ o.known

abbrev pub IsNewest : Occasion → ℕ → Type 0
IsNewest o seen = seen ≡ newest o.before

abbrev pub IsNext : Occasion → ℕ → Type 0
IsNext o seen = seen ≡ newest o.before + 1

-- ---- operations

-- an operation of the command
abbrev pub as_its : Occasion → Op → Published
as_its o x = record { phase = o.before.phase; actor = o.actor; command = o.number; op = x }

-- the event publishes none, or this one
abbrev pub PublishesNone : Occasion → Type 0
PublishesNone o = o.after.ops ≡ o.before.ops

abbrev pub Publishes : Occasion → Op → Type 0
Publishes o x = o.after.ops ≡ o.before.ops ++ as_its o x ∷ []

-- the version is that of this operation of the command, which is published after the event
pub record IsVersion (o : Occasion) (x : Op) (version : ℕ) : Type 0 where
  pub index : ℕ
  pub is : version ≡ suc index
  pub published : slice_get o.after.ops index ≡ Some (as_its o x)

-- ---- names

-- the command's frame is dropped, or given to the host, at the event
abbrev pub IsDropped : Occasion → Type 0
IsDropped o = o.after.dropped ≡ o.before.dropped ++ name_of o.actor o.number ∷ []

abbrev pub IsHosted : Occasion → Type 0
IsHosted o = o.after.hosted ≡ o.before.hosted ++ name_of o.actor o.number ∷ []

-- ---- entries

-- after the event a file has this entry at a place of its line, which has the first place that it had
pub record HasEntry (o : Occasion) (file : ℕ) (f : File) (index : ℕ) (e : Entry) : Type 0 where
  pub g : File
  pub is_there : at o.after.files file ≡ Some g
  pub first : g.first ≡ f.first
  pub entry : slice_get g.line index ≡ Some e
