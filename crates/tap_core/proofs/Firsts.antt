-- This project's own: an actor's first command, and the detach that ends.
use Rattle.std.proofs.Common.{◌≡◌, ℕ, zero, suc, ◌<◌, List, [], ◌∷◌, length, Bool, true, false, Option, Some, None, refl, sym, ap, ◌∙◌, true≢false, arith}
use Rattle.std.specs.Prelude.{is_some, option_map, slice_get}
use Rattle.std.specs.List.{AllByRecursion}
use Rattle.std.proofs.lemmas.Option.{slice_get-map}
use Rattle.scen_text.specs.declared.scenario.Line.{Line}
use Rattle.scen_text.specs.declared.scenario.Scenario.{Scenario}
use Rattle.tap_ground.specs.Options.{◌>>=◌, only_if}
use Rattle.tap_guests.specs.Side.{Side}
use Rattle.tap_lines.specs.Files.{files_of}
use Rattle.tap_lines.specs.Placed.{Placed}
use Rattle.tap_world.specs.ByNumber.{at}
use Rattle.tap_world.specs.Effect.{Ending, ending, purge_of}
use Rattle.tap_world.specs.Line.{File, is_empty}
use Rattle.tap_world.specs.Setup.{Numbered}
use Rattle.tap_world.specs.World as come
use Rattle.tap_world.specs.World.{Actor, World}
use Rattle.tap_world.specs.declared.told.Said.{Said}
use Rattle.tap_sound.proofs.Kit.{some_same, then_some}
use Rattle.core_actors.specs.Acting.{Acting, HasPlaces, actor_of, actors_of, numbered, script_of, with_command}
use Rattle.core_shared.specs.Coming.{come_of}
use Rattle.core_shared.specs.declared.doing.Doing.{Doing}
use Rattle.core_shared.specs.declared.doing.Doing.TheVariants as doing
use Rattle.core_shared.specs.declared.shared.Shared.{Shared}
use Rattle.core_shared.proofs.Kit.{file_at, files_at}
use Rattle.core_shared.proofs.Taking.{all_at}
use Rattle.tap_core.specs.Applying.{HavePlaces, IsEnding, NoneEnds}
use Rattle.tap_core.specs.Running.{current_line, lines_in, world_of}

-- ---- an actor's first command

-- An actor's first command is this line.
pub record IsFirst (lines : List Line) (script : List ℕ) (line : Line) : Type 0 where
  pub place : ℕ
  pub rest : List ℕ
  pub script_is : script ≡ place ∷ rest
  pub is_line : slice_get lines place ≡ Some line

split : (xs : List ℕ) (x : ℕ) → slice_get xs 0 ≡ Some x → (rest : List ℕ) × (xs ≡ x ∷ rest)
split [] x e = absurd (cc (e))
split (y ∷ ys) x e = (ys, ap (λ (z : ℕ). z ∷ ys) (some_same y x e))

pub first_of : (s : Scenario) (phase actor : ℕ) (actors : List Acting) (a : Acting) (line : Line) → slice_get actors actor ≡ Some a
    → current_line s phase actors actor ≡ Some line → IsFirst (lines_in s phase) a.script line
first_of s phase actor actors a line there is =
    let b = then_some (slice_get actors actor) (λ (x : Acting). slice_get x.script 0 >>= λ (p : ℕ). slice_get (lines_in s phase) p) line is in
    let p = then_some (slice_get b.0.script 0) (λ (p : ℕ). slice_get (lines_in s phase) p) line b.2 in
    let same : b.0 ≡ a = some_same b.0 a (sym b.1 ∙ there) in
    let c = split a.script p.0 (ap (λ (x : Acting). slice_get x.script 0) (sym same) ∙ p.1) in
    record { place = p.0; rest = c.0; script_is = c.1; is_line = p.2 }

-- so the actor's commands are that one and the others
pub first_commands : (lines : List Line) (script : List ℕ) (line : Line) → (f : IsFirst lines script line)
    → script_of lines script ≡ numbered line ∷ script_of lines f.rest
first_commands lines script line f =
    ap (script_of lines) f.script_is ∙ ap (λ (o : Option Line). with_command o (script_of lines f.rest)) f.is_line

pub line_at : (lines : List Line) (i : ℕ) → i < length lines → (l : Line) × (slice_get lines i ≡ Some l)
line_at [] i h = absurd (omega (arith, h))
line_at (x ∷ xs) zero h = (x, refl)
line_at (x ∷ xs) (suc i) h = line_at xs i (omega (arith, h))

-- the first command of an actor whose places are lines is one of them
pub first_there : (lines : List Line) (script : List ℕ) → AllByRecursion (λ (i : ℕ). i < length lines) script → (now : Numbered)
    → slice_get (script_of lines script) 0 ≡ Some now → (line : Line) × IsFirst lines script line × (numbered line ≡ now)
first_there lines [] h now e = absurd (cc (e))
first_there lines (i ∷ is) h now e =
    let l = line_at lines i h.0 in
    let first : IsFirst lines (i ∷ is) l.0 = record { place = i; rest = is; script_is = refl; is_line = l.1 } in
    (l.0, first, some_same (numbered l.0) now (ap (λ (o : Option Line). slice_get (with_command o (script_of lines is)) 0) (sym l.1) ∙ e))

none_first : (lines : List Line) (script : List ℕ) → AllByRecursion (λ (i : ℕ). i < length lines) script
    → (slice_get script 0 >>= λ (p : ℕ). slice_get lines p) ≡ None → slice_get (script_of lines script) 0 ≡ None
none_first lines [] h e = refl
none_first lines (i ∷ is) h e = let l = line_at lines i h.0 in let e' = l.1 in absurd (cc (e, e'))

-- and of the world's actor
pub actor_there : (lines : List Line) (vhosts : List (Option Side)) (actors : List Acting) (actor : ℕ) (a : Acting) → slice_get actors actor ≡ Some a
    → slice_get (actors_of lines vhosts actors) actor ≡ Some (actor_of lines vhosts a)
actor_there lines vhosts actors actor a e =
    slice_get-map (actor_of lines vhosts) actors actor ∙ ap (λ (o : Option Acting). option_map (actor_of lines vhosts) o) e

-- ---- the detach that ends

abbrev ending_at : ℕ → Actor → ℕ → File → Numbered → Option Ending
ending_at actor a version f c = only_if (is_empty f) (record { actor = actor; state = a; command = c.number; version = version })

abbrev ending_on : ℕ → Actor → ℕ → Option File → Option Numbered → Option Ending
ending_on actor a version f c = f >>= λ (g : File). c >>= λ (k : Numbered). ending_at actor a version g k

abbrev ending_of : World → ℕ → Actor → come.Doing → Option Ending
ending_of w actor a d = purge_of d >>= λ (p : ℕ × ℕ). ending_on actor a p.1 (at w.files p.0) (slice_get a.script 0)

ending_by : (w : World) (actor : ℕ) (a : Actor) (file version : ℕ) (f : Option File) (c : Option Numbered)
    → w.writer ≡ Some actor → slice_get w.actors actor ≡ Some a → a.doing ≡ come.Doing.Purges file version
    → at w.files file ≡ f → slice_get a.script 0 ≡ c → ending w ≡ ending_on actor a version f c
ending_by w actor a file version f c writer here doing there first =
    ap (λ (o : Option ℕ). o >>= λ (n : ℕ). slice_get w.actors n >>= λ (b : Actor). ending_of w n b b.doing) writer
    ∙ ap (λ (o : Option Actor). o >>= λ (b : Actor). ending_of w actor b b.doing) here
    ∙ ap (λ (d : come.Doing). ending_of w actor a d) doing
    ∙ ap (λ (o : Option File). ending_on actor a version o (slice_get a.script 0)) there
    ∙ ap (λ (o : Option Numbered). ending_on actor a version f o) first

no_command : (actor : ℕ) (a : Actor) (version : ℕ) (f : Option File) → ending_on actor a version f None ≡ None
no_command actor a version None = refl
no_command actor a version (Some f) = refl

if_empty : (b : Bool) (e : Ending) → b ≡ true → only_if b e ≡ Some e
if_empty true e h = refl
if_empty false e h = absurd (true≢false (sym h))

unless_empty : (b : Bool) (e : Ending) → b ≡ false → only_if b e ≡ None
unless_empty true e h = absurd (true≢false h)
unless_empty false e h = refl

-- the file that isn't there
no_file : (file : ℕ) (files : List (Option Placed)) → is_some (at files file) ≡ false → at (files_of files) file ≡ None
no_file file files h = files_at file files ∙ go (at files file) h
  where
    go : (o : Option Placed) → is_some o ≡ false → option_map (λ (p : Placed). p.file) o ≡ None
    go None h = refl
    go (Some p) h = absurd (true≢false h)

module _ (s : Scenario) (x : Shared) (actors : List Acting) (actor file version : ℕ) (a : Acting) (writer : x.writer ≡ Some actor)
    (here : slice_get actors actor ≡ Some a) (is : a.doing ≡ doing.Purges file version) where
  known : (said : List Said) (f : Option File) (c : Option Numbered) → at (files_of x.files) file ≡ f
      → slice_get (script_of (lines_in s x.phase) a.script) 0 ≡ c
      → ending (world_of s x actors said) ≡ ending_on actor (actor_of (lines_in s x.phase) x.vhosts a) version f c
  known said f c there first =
      ending_by (world_of s x actors said) actor (actor_of (lines_in s x.phase) x.vhosts a) file version f c writer
      (actor_there (lines_in s x.phase) x.vhosts actors actor a here) (ap (λ (d : Doing). come_of x.vhosts d) is) there first

  pub ends : (line : Line) (p : Placed) (seen : ℕ) → current_line s x.phase actors actor ≡ Some line → at x.files file ≡ Some p
      → is_empty p.file ≡ true → seen ≡ a.seen
      → IsEnding s x actors (record { actor = actor; command = line.number; seen = seen; version = version })
  ends line p seen first there empty has = record {
    acting = a;
    is_acting = here;
    seen = has;
    is = λ said.
        known said (Some p.file) (Some (numbered line)) (file_at file x.files p there)
        (ap (λ (cs : List Numbered). slice_get cs 0)
        (first_commands (lines_in s x.phase) a.script line (first_of s x.phase actor actors a line here first)))
        ∙ if_empty (is_empty p.file) _ empty;
  }

  pub not_empty : (line : Line) (p : Placed) → current_line s x.phase actors actor ≡ Some line → at x.files file ≡ Some p
      → is_empty p.file ≡ false → NoneEnds s x actors
  not_empty line p first there empty = λ said.
      known said (Some p.file) (Some (numbered line)) (file_at file x.files p there)
      (ap (λ (cs : List Numbered). slice_get cs 0)
      (first_commands (lines_in s x.phase) a.script line (first_of s x.phase actor actors a line here first)))
      ∙ unless_empty (is_empty p.file) _ empty

  pub not_there : is_some (at x.files file) ≡ false → NoneEnds s x actors
  not_there gone = λ said.
      known said None (slice_get (script_of (lines_in s x.phase) a.script) 0) (no_file file x.files gone) refl

  pub no_line : HavePlaces s x actors → current_line s x.phase actors actor ≡ None → NoneEnds s x actors
  no_line places first = λ said.
      let none : (slice_get a.script 0 >>= λ (p : ℕ). slice_get (lines_in s x.phase) p) ≡ None =
      ap (λ (o : Option Acting). o >>= λ (y : Acting). slice_get y.script 0 >>= λ (p : ℕ). slice_get (lines_in s x.phase) p) (sym here) ∙ first in
      known said (at (files_of x.files) file) None refl
      (none_first (lines_in s x.phase) a.script (all_at (HasPlaces (lines_in s x.phase)) actors actor a places here) none)
      ∙ no_command actor (actor_of (lines_in s x.phase) x.vhosts a) version (at (files_of x.files) file)
