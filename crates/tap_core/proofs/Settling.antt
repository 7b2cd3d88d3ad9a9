-- This project's own: actors of which one has changed, and the world that is settled.
use Rattle.std.proofs.Common.{◌≡◌, ◌≢◌, ℕ, zero, suc, ◌<◌, List, [], ◌∷◌, ◌++◌, length, Option, Some, None, refl, sym, ap, ◌∙◌, subst, arith}
use Rattle.std.specs.Prelude.{drop, map, option_map, slice_get}
use Rattle.std.specs.List.{AllByRecursion}
use Rattle.scen_text.specs.declared.scenario.Line.{Line}
use Rattle.scen_text.specs.declared.scenario.Scenario.{Scenario}
use Rattle.tap_guests.specs.Side.{Side}
use Rattle.tap_trace.specs.declared.answer.Answer.TheVariants.{Version}
use Rattle.tap_world.specs.ByNumber.{with_nth}
use Rattle.tap_world.specs.Effect.{Ending, ending, settled}
use Rattle.tap_world.specs.Setup.{Numbered}
use Rattle.tap_world.specs.World.{current}
use Rattle.tap_world.specs.World.Doing.{Begun as Came}
use Rattle.tap_world.specs.declared.told.Said.{Said}
use Rattle.tap_sound.proofs.Kit.{some_same}
use Rattle.tap_sound.proofs.Taken.{each_with_nth}
use Rattle.core_actors.specs.Acting as acting
use Rattle.core_actors.specs.Acting.{Acting, HasPlaces, actor_of, actors_of, numbered, script_of, with_command}
use Rattle.core_shared.specs.declared.doing.Doing.TheVariants.{Begun}
use Rattle.core_shared.specs.declared.shared.Shared.{Shared}
use Rattle.core_shared.proofs.Taking.{all_at}
use Rattle.tap_core.specs.Applying.{HavePlaces, IsEnding, IsKept, IsSettled, NoneEnds}
use Rattle.tap_core.specs.Running.{SuitsFirst, SuitsItsCommand, lines_in, world_of}
use Rattle.tap_core.specs.declared.settle.Detached.{Detached}
use Rattle.tap_core.proofs.Firsts.{line_at}

-- ---- one of a list has changed

same_map : {A B : Type 0} (f g : A → B) (xs : List A) → ((k : ℕ) (a : A) → slice_get xs k ≡ Some a → f a ≡ g a) → map f xs ≡ map g xs
same_map f g [] same = refl
same_map f g (x ∷ xs) same = ap (λ (y : _). y ∷ map f xs) (same 0 x refl) ∙ ap (λ (l : List _). g x ∷ l) (same_map f g xs (λ k a e. same (suc k) a e))

-- what is made of each, where the others are made as before
pub made_with_nth : {A B : Type 0} (f g : A → B) (n : ℕ) (new : A) (after : B) (xs : List A) → f new ≡ after
    → ((k : ℕ) (a : A) → n ≢ k → slice_get xs k ≡ Some a → f a ≡ g a) → map f (with_nth n new xs) ≡ with_nth n after (map g xs)
made_with_nth f g n new after [] is same = refl
made_with_nth f g zero new after (x ∷ xs) is same =
    ap (λ (y : _). y ∷ map f xs) is ∙ ap (λ (l : List _). after ∷ l) (same_map f g xs (λ k a e. same (suc k) a (λ h. omega (arith, h)) e))
made_with_nth f g (suc n) new after (x ∷ xs) is same =
    ap (λ (y : _). y ∷ map f (with_nth n new xs)) (same 0 x (λ h. omega (arith, h)) refl)
    ∙ ap (λ (l : List _). g x ∷ l) (made_with_nth f g n new after xs is (λ k a ne e. same (suc k) a (λ h. ne (omega (arith, h))) e))

pub all_with_nth : {A : Type 0} (P : A → Type 0) (n : ℕ) (new : A) (xs : List A) → AllByRecursion P xs → P new → AllByRecursion P (with_nth n new xs)
all_with_nth P n new [] each is = tt
all_with_nth P zero new (x ∷ xs) each is = (is, each.1)
all_with_nth P (suc n) new (x ∷ xs) each is = (each.0, all_with_nth P n new xs each.1 is)

-- ---- an actor whose command has ended

pub places_behind : (lines : List Line) (script : List ℕ) → AllByRecursion (λ (i : ℕ). i < length lines) script
    → AllByRecursion (λ (i : ℕ). i < length lines) (drop 1 script)
places_behind lines [] h = tt
places_behind lines (i ∷ is) h = h.1

pub commands_behind : (lines : List Line) (script : List ℕ) → AllByRecursion (λ (i : ℕ). i < length lines) script
    → script_of lines (drop 1 script) ≡ drop 1 (script_of lines script)
commands_behind lines [] h = refl
commands_behind lines (i ∷ is) h =
    ap (λ (o : Option Line). drop 1 (with_command o (script_of lines is))) (sym (line_at lines i h.0).1)

pub suits_begun : (s : Scenario) (vhosts : List (Option Side)) (actor seen : ℕ) (script : List ℕ) (o : Option Numbered)
    → SuitsFirst s vhosts actor (record { seen = seen; script = script; doing = Begun }) o
suits_begun s vhosts actor seen script None = refl
suits_begun s vhosts actor seen script (Some c) = tt

-- ---- the end of a detach

pub settled_none : (s : Scenario) (x : Shared) (actors : List Acting) (said : List Said) → NoneEnds s x actors
    → IsSettled s x x actors actors said said None
settled_none s x actors said none = record {
  world = ap (settled (world_of s x actors said)) (sym (none said));
  told = ap (λ (o : Option Ending). option_map (λ (e : Ending). e.actor) o) (sym (none said));
  kept = λ h. h;
}

abbrev given_back : Shared → Shared
given_back x = record {
  ops = x.ops;
  files = x.files;
  guests = x.guests;
  vhosts = x.vhosts;
  hosted = x.hosted;
  dropped = x.dropped;
  writer = None;
  phase = x.phase;
}

abbrev answer_of : ℕ → Detached → Said
answer_of phase e = record { phase = phase; line = record { actor = e.actor; command = e.command; seen = e.seen; answer = Version e.version } }

module _ (s : Scenario) (x : Shared) (actors : List Acting) (said : List Said) (e : Detached) (places : HavePlaces s x actors)
    (h : IsEnding s x actors e) where
  its_places : HasPlaces (lines_in s x.phase) h.acting
  its_places = all_at (HasPlaces (lines_in s x.phase)) actors e.actor h.acting places h.is_acting

  -- the actor behind it
  behind : actor_of (lines_in s x.phase) x.vhosts (acting.ending e.seen h.acting)
      ≡ record { seen = h.acting.seen; script = drop 1 (script_of (lines_in s x.phase) h.acting.script); doing = Came }
  behind = λ i. record { seen = h.seen i; script = commands_behind (lines_in s x.phase) h.acting.script its_places i; doing = Came }

  after : actors_of (lines_in s x.phase) x.vhosts (with_nth e.actor (acting.ending e.seen h.acting) actors)
      ≡ with_nth e.actor (record { seen = h.acting.seen; script = drop 1 (script_of (lines_in s x.phase) h.acting.script); doing = Came })
      (actors_of (lines_in s x.phase) x.vhosts actors)
  after =
      made_with_nth (actor_of (lines_in s x.phase) x.vhosts) (actor_of (lines_in s x.phase) x.vhosts) e.actor
      (acting.ending e.seen h.acting) _ actors behind (λ k a ne is. refl)

  is_world : world_of s (given_back x) (with_nth e.actor (acting.ending e.seen h.acting) actors) (said ++ answer_of x.phase e ∷ [])
      ≡ settled (world_of s x actors said) (ending (world_of s x actors said))
  is_world =
      (λ i. record {
        ops = x.ops.ops;
        files = (world_of s x actors said).files;
        guests = x.guests;
        vhosts = (world_of s x actors said).vhosts;
        hosted = x.hosted.items;
        dropped = x.dropped.items;
        writer = None;
        phase = x.phase;
        actors = after i;
        said = said ++ record {
          phase = x.phase;
          line = record { actor = e.actor; command = e.command; seen = h.seen i; answer = Version e.version };
        } ∷ [];
      })
      ∙ ap (settled (world_of s x actors said)) (sym (h.is said))

  is_kept : IsKept s x actors → IsKept s (given_back x) (with_nth e.actor (acting.ending e.seen h.acting) actors)
  is_kept k = record {
    held = record { table = k.held.table; frames = k.held.frames; vhosts = k.held.vhosts };
    places =
        all_with_nth (HasPlaces (lines_in s x.phase)) e.actor (acting.ending e.seen h.acting) actors k.places
        (places_behind (lines_in s x.phase) h.acting.script its_places);
    suits =
        each_with_nth (λ actor a. SuitsItsCommand s (given_back x) actor a) e.actor (acting.ending e.seen h.acting) actors
        (λ actor a is. k.suits actor a is)
        (suits_begun s x.vhosts e.actor e.seen (drop 1 h.acting.script)
        (current (script_of (lines_in s x.phase) (drop 1 h.acting.script))));
  }

  pub settled_some : (a last : Acting) (answered : List Said) → slice_get actors e.actor ≡ Some a → last ≡ acting.ending e.seen a
      → answered ≡ said ++ answer_of x.phase e ∷ []
      → IsSettled s x (given_back x) actors (with_nth e.actor last actors) said answered (Some e.actor)
  settled_some a last answered here is told =
      let same : a ≡ h.acting = some_same a h.acting (sym here ∙ h.is_acting) in
      let all : IsSettled s x (given_back x) actors (with_nth e.actor (acting.ending e.seen h.acting) actors) said (said ++ answer_of x.phase e ∷ []) (Some e.actor) =
      record {
        world = is_world;
        told = ap (λ (o : Option Ending). option_map (λ (d : Ending). d.actor) o) (sym (h.is said));
        kept = is_kept;
      } in
      subst (λ (l : Acting). IsSettled s x (given_back x) actors (with_nth e.actor l actors) said answered (Some e.actor))
      (ap (λ (b : Acting). acting.ending e.seen b) (sym same) ∙ sym is)
      (subst (λ (l : List Said). IsSettled s x (given_back x) actors (with_nth e.actor (acting.ending e.seen h.acting) actors) said l (Some e.actor)) (sym told) all)
