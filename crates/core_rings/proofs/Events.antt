-- The next event of a command that changes one file.
use Rattle.std.proofs.Common.{◌≡◌, ℕ, List, [], ◌∷◌, Option, Some, sym, ap, ◌∙◌, subst}
use Rattle.std.specs.Prelude.{is_some, IsSome}
use Rattle.tap_ground.specs.Options.{◌>>=◌}
use Rattle.tap_lines.specs.Files.{files_of}
use Rattle.tap_lines.specs.Placed.{MayChange, Placed}
use Rattle.tap_sound.proofs.Kit.{some_same, then_some}
use Rattle.tap_trace.specs.declared.answer.Answer.TheVariants as answer
use Rattle.tap_frame.specs.declared.name.Name.{Name}
use Rattle.tap_ledger.specs.declared.fate.Cause.{Cause}
use Rattle.tap_world.specs.World.{name_of}
use Rattle.tap_world.specs.ByNumber.{at, with_at}
use Rattle.tap_world.specs.declared.event.EventKind.{EventKind}
use Rattle.tap_world.specs.Effect as world
use Rattle.tap_world.specs.Effect.{Effect, files_after}
use Rattle.tap_world.specs.Effect.OnFiles.{NoFile, OnFile}
use Rattle.tap_world.specs.Effect.OnGuests.{NoGuest}
use Rattle.tap_world.specs.Effect.OnVhosts.{NoVhost}
use Rattle.tap_world.specs.Line.{File}
use Rattle.tap_world.specs.LineSteps.{Change, changed}
use Rattle.tap_world.specs.World as come
use Rattle.tap_world.specs.World.{Actor}
use Rattle.core_shared.specs.Asking.{Asking}
use Rattle.core_shared.specs.Did.{HasEffect}
use Rattle.core_shared.specs.declared.shared.Shared.{Shared}
use Rattle.core_shared.proofs.Kit.{file_at, placed_at}

-- ---- its effect

-- one file changes, and the command goes on so
abbrev pub changes_file : ℕ → Change → world.Onward → Shared → Effect
changes_file file change o x = record {
  ops = [];
  files = OnFile file change;
  guests = NoGuest;
  vhosts = NoVhost;
  hosts = [];
  drops = [];
  writer = x.writer;
  onward = o;
}

-- An event that changes this file: the row finds this in it, and the command goes on so by it.
pub record ChangesSo {T : Type 0} (a : Asking) (so_far : come.Doing) (k : EventKind) (x : Shared) (file : ℕ) (change : Change)
    (find : File → Option T) (goes : File → T → world.Onward) (p : Placed) : Type 0 where
  pub may : MayChange change p.file
  pub found : T
  pub is_found : find p.file ≡ Some found
  pub has : HasEffect a so_far k x (changes_file file change (goes p.file found) x)

-- and the file is there
abbrev pub FileEvent : {T : Type 0} → Asking → come.Doing → EventKind → Shared → ℕ → Change → (File → Option T)
    → (File → T → world.Onward) → Type 0
FileEvent {T} a so_far k x file change find goes =
    (p : Placed) × (at x.files file ≡ Some p) × ChangesSo a so_far k x file change find goes p

pub file_event : {T : Type 0} (a : Asking) (so_far : come.Doing) (k : EventKind) (x : Shared) (file : ℕ) (change : Change)
    (find : File → Option T) (goes : File → T → world.Onward) (r : Effect) (files : List (Option File))
    → HasEffect a so_far k x r
    → (at (files_of x.files) file >>= λ (f : File). find f >>= λ (t : T). Some (changes_file file change (goes f t) x)) ≡ Some r
    → files_after r.files (files_of x.files) ≡ Some files
    → FileEvent a so_far k x file change find goes
file_event {T} a so_far k x file change find goes r files has row after =
    let f = then_some (at (files_of x.files) file) (λ (f : File). find f >>= λ (t : T). Some (changes_file file change (goes f t) x)) r row in
    let t = then_some (find f.0) (λ (t : T). Some (changes_file file change (goes f.0 t) x)) r f.2 in
    let is : changes_file file change (goes f.0 t.0) x ≡ r = some_same _ _ t.2 in
    let p = placed_at file x.files f.0 f.1 in
    let after_it : files_after (OnFile file change) (files_of x.files) ≡ Some files =
    subst (λ (e : Effect). files_after e.files (files_of x.files) ≡ Some files) (sym is) after in
    let here = then_some (at (files_of x.files) file) (λ (g : File). changed change g >>= λ (h : File). Some (with_at file h (files_of x.files))) files after_it in
    let new = then_some (changed change here.0) (λ (h : File). Some (with_at file h (files_of x.files))) files here.2 in
    let same : here.0 ≡ p.0.file = some_same here.0 p.0.file (sym here.1 ∙ f.1 ∙ ap Some (sym p.2)) in
    let has_it : HasEffect a so_far k x (changes_file file change (goes f.0 t.0) x) =
    subst (λ (e : Effect). HasEffect a so_far k x e) (sym is) has in
    let may_it : MayChange change here.0 = ap (λ (o : Option File). is_some o) {y = Some new.0} new.1 in (
      p.0,
      p.1,
      record {
        may = subst (λ (g : File). MayChange change g) same may_it;
        found = t.0;
        is_found = subst (λ (g : File). find g ≡ Some t.0) (sym p.2) t.1;
        has = subst (λ (g : File). HasEffect a so_far k x (changes_file file change (goes g t.0) x)) (sym p.2) has_it;
      },
    )

-- the file that is there
pub there : {T : Type 0} (a : Asking) (so_far : come.Doing) (k : EventKind) (x : Shared) (file : ℕ) (change : Change)
    (find : File → Option T) (goes : File → T → world.Onward) → FileEvent a so_far k x file change find goes → IsSome (at x.files file)
there a so_far k x file change find goes e = ap (λ (o : Option Placed). is_some o) e.1

pub here : {T : Type 0} (a : Asking) (so_far : come.Doing) (k : EventKind) (x : Shared) (file : ℕ) (change : Change)
    (find : File → Option T) (goes : File → T → world.Onward) (p : Placed) → FileEvent a so_far k x file change find goes
    → at x.files file ≡ Some p → ChangesSo a so_far k x file change find goes p
here a so_far k x file change find goes p e is =
    subst (λ (q : Placed). ChangesSo a so_far k x file change find goes q) (some_same e.0 p (sym e.1 ∙ is)) e.2

-- ---- a frame that is dropped

-- its name is dropped, and the command goes on so
abbrev pub drops_one : Name → world.Onward → Shared → Effect
drops_one n o x = record {
  ops = [];
  files = NoFile;
  guests = NoGuest;
  vhosts = NoVhost;
  hosts = [];
  drops = n ∷ [];
  writer = x.writer;
  onward = o;
}

-- the effect of a drop under this cause
abbrev pub drops_under : Asking → ℕ → Shared → Cause → Effect
drops_under a file x c = drops_one (name_of a.actor a.number) (world.Onward.Ends a.seen (answer.Dropped (Some file) c)) x

pub drop_event : (a : Asking) (so_far : come.Doing) (k : EventKind) (x : Shared) (file : ℕ) (why : File → Option Cause) (r : Effect) (p : Placed)
    → HasEffect a so_far k x r
    → (at (files_of x.files) file >>= λ (f : File). why f >>= λ (c : Cause). Some (drops_under a file x c)) ≡ Some r
    → at x.files file ≡ Some p
    → (c : Cause) × (why p.file ≡ Some c) × HasEffect a so_far k x (drops_under a file x c)
drop_event a so_far k x file why r p has row is =
    let f = then_some (at (files_of x.files) file) (λ (f : File). why f >>= λ (c : Cause). Some (drops_under a file x c)) r row in
    let c = then_some (why f.0) (λ (c : Cause). Some (drops_under a file x c)) r f.2 in
    let same : f.0 ≡ p.file = some_same f.0 p.file (sym f.1 ∙ file_at file x.files p is) in
    let eff : drops_under a file x c.0 ≡ r = some_same _ _ c.2 in
    (c.0, ap why (sym same) ∙ c.1, subst (λ (e : Effect). HasEffect a so_far k x e) (sym eff) has)
