-- What holds as a phase begins.
use Rattle.std.proofs.Common.{◌≡◌, ℕ, zero, suc, ◌+◌, ◌<◌, ◌≤◌, ◌^◌, true, get_or, List, [], ◌∷◌, ◌++◌, length, Option, Some, None, sym, ap, ◌∙◌, subst, arith}
use Rattle.std.specs.Prelude.{slice_get, IfSome, IsSome}
use Rattle.std.specs.List.{AllByRecursion}
use Rattle.std.specs.Option.{option_map_or}
use Rattle.scen_laid.specs.Laid.{IsLaid}
use Rattle.scen_laid.specs.Phases.{IsLine, IsPhase, lines_of}
use Rattle.scen_text.specs.declared.scenario.Line.{Line}
use Rattle.scen_text.specs.declared.scenario.Phase.{Phase}
use Rattle.scen_text.specs.declared.scenario.Scenario.{Scenario}
use Rattle.scen_words.specs.declared.limits.TheConstants.{MAX_COMMANDS}
use Rattle.tap_sound.specs.Worlds.{OpeningIsFirst, PhasesBegin, PhasesEnd}
use Rattle.tap_world.specs.Runs.{begins, has_ended}
use Rattle.tap_world.specs.Setup.{Numbered, Setup, setup_of}
use Rattle.tap_world.specs.World.{World, current}
use Rattle.tap_world.specs.declared.told.Said.{Said}
use Rattle.core_actors.specs.Acting.{Acting, AreBeginning, HasBegun, HasPlaces, actors_of, script_of}
use Rattle.core_shared.specs.Suiting.{Suits}
use Rattle.core_shared.specs.declared.doing.Doing.{Doing}
use Rattle.core_shared.specs.declared.shared.Shared.{Shared}
use Rattle.tap_core.specs.Running.{IsRunning, Reaches, Running, SuitsFirst, SuitsItsCommand, asking_for, lines_in, world_of}
use Rattle.tap_core.proofs.Kit.{at_place}
use Rattle.tap_core.proofs.Reaching.{next_begins}

abbrev pub running : Scenario → ℕ → World → Running
running s begun w = record { scenario = s; begun = begun; world = w }

-- ---- the lines of a phase

all_actors : (s : Setup) (n : ℕ) (ls : List Line) → AllByRecursion (IsLine s n) ls → AllByRecursion (λ (l : Line). l.actor < n) ls
all_actors s n [] all = tt
all_actors s n (l ∷ ls) all = (all.0.actor, all_actors s n ls all.1)

-- they are its actors'
pub have_actors : (s : Scenario) (i : ℕ) (p : Phase) → IsLaid s → slice_get s.phases i ≡ Some p
    → AllByRecursion (λ (l : Line). l.actor < p.actors) p.lines
have_actors s i p laid e =
    all_actors (setup_of s) p.actors p.lines (at_place (IsPhase (setup_of s)) s.phases i p laid.phases e).lines

length_both : (xs ys : List Line) → length (xs ++ ys) ≡ length xs + length ys
length_both [] ys = omega arith
length_both (x ∷ xs) ys = let e = length_both xs ys in omega arith

some_of_all : (ps : List Phase) (i : ℕ) (p : Phase) → slice_get ps i ≡ Some p → length p.lines ≤ length (lines_of ps)
some_of_all [] zero p e = absurd (cc (e))
some_of_all [] (suc i) p e = absurd (cc (e))
some_of_all (q ∷ ps) zero p e =
    let l : length q.lines ≡ length p.lines = cc (e) in
    let b = length_both q.lines (lines_of ps) in
    omega arith
some_of_all (q ∷ ps) (suc i) p e =
    let l = some_of_all ps i p e in
    let b = length_both q.lines (lines_of ps) in
    omega arith

-- and there aren't too many
pub are_few : (s : Scenario) (i : ℕ) (p : Phase) → IsLaid s → slice_get s.phases i ≡ Some p → length p.lines ≤ MAX_COMMANDS
are_few s i p laid e =
    let l = some_of_all s.phases i p e in
    let m = laid.limits.commands in
    omega arith

-- ---- a phase

lines_are : (s : Scenario) (i : ℕ) (p : Phase) → slice_get s.phases i ≡ Some p → p.lines ≡ lines_in s i
lines_are s i p e = ap (λ (o : Option Phase). option_map_or (λ (q : Phase). q.lines) o []) (sym e)

-- its world
pub world_begins : (s : Scenario) (x : Shared) (olds actors : List Acting) (said : List Said) (begun : ℕ) (p : Phase) → slice_get s.phases begun ≡ Some p
    → AreBeginning p (length x.ops.ops) actors
    → world_of s (record x { phase = begun }) actors said ≡ begins begun p (world_of s x olds said)
world_begins s x olds actors said begun p e b =
    let are = ap (λ (ls : List Line). actors_of ls x.vhosts actors) (sym (lines_are s begun p e)) ∙ b.world x.vhosts in
    λ k. record (world_of s x olds said) { phase = begun; actors = are k }

all_begun : (s : Scenario) (x : Shared) (actors : List Acting) → AllByRecursion HasBegun actors → (actor : ℕ) (a : Acting)
    → slice_get actors actor ≡ Some a → SuitsItsCommand s x actor a
all_begun s x actors none actor a e = suits (current (script_of (lines_in s x.phase) a.script))
  where
    suits : (o : Option Numbered) → SuitsFirst s x.vhosts actor a o
    suits None = at_place HasBegun actors actor a none e
    suits (Some c) =
        subst (λ (d : Doing). Suits x.vhosts (asking_for s actor a c) d) (sym (at_place HasBegun actors actor a none e)) tt

pub phase_begins : (s : Scenario) (x : Shared) (olds actors : List Acting) (said : List Said) (begun : ℕ) (p : Phase) → IsRunning s begun x olds said
    → slice_get s.phases begun ≡ Some p → AreBeginning p (length x.ops.ops) actors
    → Reaches s (begun + 1) (begins begun p (world_of s x olds said))
    → IsRunning s (begun + 1) (record x { phase = begun }) actors said
phase_begins s x olds actors said begun p h e b r = record {
  laid = h.laid;
  reached = subst (λ (w : World). Reaches s (begun + 1) w) (sym (world_begins s x olds actors said begun p e b)) r;
  held = record { table = h.held.table; frames = h.held.frames; vhosts = h.held.vhosts };
  places = subst (λ (ls : List Line). AllByRecursion (HasPlaces ls) actors) (lines_are s begun p e) b.places;
  suits = all_begun s (record x { phase = begun }) actors b.none;
}

-- its number is in range, and it is the one that is found
phase_at : (xs : List Phase) (i : ℕ) (p : Phase) → IsSome (slice_get xs i) → p ≡ get_or xs i p → slice_get xs i ≡ Some p
phase_at [] zero p h e = absurd (cc (h))
phase_at [] (suc i) p h e = absurd (cc (h))
phase_at (x ∷ xs) zero p h e = ap Some (sym e)
phase_at (x ∷ xs) (suc i) p h e = phase_at xs i p h e

pub phase_is : (r : Running) (s : Scenario) (begun : ℕ) (w : World) (xs : List Phase) (p : Phase) → record { scenario = s; begun = begun; world = w } ≡ r
    → xs ≡ s.phases → IsSome (slice_get r.scenario.phases r.begun) → p ≡ get_or xs begun p → slice_get s.phases begun ≡ Some p
phase_is r s begun w xs p same are h e =
    phase_at s.phases begun p
    (subst (λ (q : Running). IsSome (slice_get q.scenario.phases q.begun)) (sym same) h)
    (subst (λ (ys : List Phase). p ≡ get_or ys begun p) are e)

below : (xs : List Phase) (i : ℕ) (p : Phase) → slice_get xs i ≡ Some p → i < length xs
below [] zero p e = absurd (cc (e))
below [] (suc i) p e = absurd (cc (e))
below (x ∷ xs) zero p e = omega arith
below (x ∷ xs) (suc i) p e = let l = below xs i p e in omega arith

pub can_count : (s : Scenario) (begun : ℕ) (p : Phase) → IsLaid s → slice_get s.phases begun ≡ Some p → begun + 1 < 2 ^ 32
can_count s begun p laid e =
    let l = below s.phases begun p e in
    let m = laid.limits.phases in
    omega arith

-- the run goes on with it
pub goes_on : (s : Scenario) (x : Shared) (olds actors : List Acting) (said : List Said) (begun seen : ℕ) (p : Phase) → OpeningIsFirst → PhasesEnd → PhasesBegin
    → IsRunning s begun x olds said → has_ended (world_of s x olds said) ≡ true → slice_get s.phases begun ≡ Some p
    → seen ≡ length x.ops.ops → AreBeginning p seen actors → IsRunning s (begun + 1) (record x { phase = begun }) actors said
goes_on s x olds actors said begun seen p first end begin h ended e newest b =
    phase_begins s x olds actors said begun p h e (subst (λ (n : ℕ). AreBeginning p n actors) newest b)
    (next_begins s begun p (world_of s x olds said) first end begin h.reached ended e)

pub goes_to : (s : Scenario) (x : Shared) (olds actors : List Acting) (said : List Said) (begun seen : ℕ) (p : Phase) → slice_get s.phases begun ≡ Some p
    → seen ≡ length x.ops.ops → AreBeginning p seen actors
    → IfSome (slice_get s.phases begun) (λ (q : Phase). running s (begun + 1) (world_of s (record x { phase = begun }) actors said)
    ≡ running s (begun + 1) (begins begun q (world_of s x olds said)))
goes_to s x olds actors said begun seen p e newest b =
    subst (λ (o : Option Phase). IfSome o (λ (q : Phase). running s (begun + 1) (world_of s (record x { phase = begun }) actors said)
    ≡ running s (begun + 1) (begins begun q (world_of s x olds said)))) (sym e)
    (ap (λ (w : World). running s (begun + 1) w)
    (world_begins s x olds actors said begun p e (subst (λ (n : ℕ). AreBeginning p n actors) newest b)))
