-- This project's own: an event that was made step by step.
use Rattle.std.proofs.Common.{◌≡◌, ℕ, zero, suc, List, [], ◌∷◌, ◌++◌, Option, Some, refl, sym, ap, ◌∙◌, subst}
use Rattle.std.specs.Prelude.{IfSome, slice_get}
use Rattle.std.specs.List.{AllByRecursion}
use Rattle.scen_text.specs.declared.scenario.Line.{Line}
use Rattle.scen_text.specs.declared.scenario.Scenario.{Scenario}
use Rattle.tap_world.specs.declared.event.Event.{Event}
use Rattle.tap_world.specs.declared.event.Found.{Found}
use Rattle.tap_world.specs.declared.told.Said.{Said}
use Rattle.tap_world.specs.ByNumber.{with_nth}
use Rattle.core_actors.specs.Acting.{Acting, HasPlaces}
use Rattle.core_shared.specs.declared.doing.Doing.TheVariants.{Begun}
use Rattle.core_shared.specs.declared.onward.Onward.{Onward}
use Rattle.core_shared.specs.declared.onward.Onward.TheVariants as on
use Rattle.core_shared.specs.declared.shared.Shared.{Shared}
use Rattle.core_shared.proofs.Kit.{if_there}
use Rattle.core_shared.proofs.Taking.{all_at}
use Rattle.tap_core.specs.Applying.{HavePlaces, IsSettled, WasDone, WasMade, acting_after, found_by, found_on, said_on}
use Rattle.tap_core.specs.Running.{lines_in}
use Rattle.tap_core.proofs.Settling.{all_with_nth, places_behind}

pub with_nth_here : {A : Type 0} (n : ℕ) (new old : A) (xs : List A) → slice_get xs n ≡ Some old → slice_get (with_nth n new xs) n ≡ Some new
with_nth_here n new old [] e = absurd (cc (e))
with_nth_here zero new old (y ∷ ys) e = refl
with_nth_here (suc n) new old (y ∷ ys) e = with_nth_here n new old ys e

with_nth_twice : {A : Type 0} (n : ℕ) (x y : A) (xs : List A) → with_nth n y (with_nth n x xs) ≡ with_nth n y xs
with_nth_twice n x y [] = refl
with_nth_twice zero x y (z ∷ zs) = refl
with_nth_twice (suc n) x y (z ∷ zs) = ap (λ (l : List _). z ∷ l) (with_nth_twice n x y zs)

-- what was taken out of the actor doesn't matter
put_back : (o : Onward) (a : Acting) → acting_after o (record a { doing = Begun }) ≡ acting_after o a
put_back (on.Goes seen d found) a = refl
put_back (on.Ends seen answer) a = refl

went_on : (actor : ℕ) (o : Onward) (old middle new : List Acting) (a : Acting) → slice_get old actor ≡ Some a
    → middle ≡ with_nth actor (record a { doing = Begun }) old
    → IfSome (slice_get middle actor) (λ b. new ≡ with_nth actor (acting_after o b) middle)
    → new ≡ with_nth actor (acting_after o a) old
went_on actor o old middle new a here taken told =
    let rest : Acting = record a { doing = Begun } in
    let there : slice_get middle actor ≡ Some rest =
    ap (λ (l : List Acting). slice_get l actor) taken ∙ with_nth_here actor rest a old here in
    let is : new ≡ with_nth actor (acting_after o rest) middle =
    if_there (slice_get middle actor) (λ (b : Acting). new ≡ with_nth actor (acting_after o b) middle) rest there told in
    is ∙ ap (λ (l : List Acting). with_nth actor (acting_after o rest) l) taken
    ∙ with_nth_twice actor rest (acting_after o rest) old ∙ ap (λ (b : Acting). with_nth actor b old) (put_back o a)

-- its commands are those of before, or those behind the first
pub after_places : (lines : List Line) (o : Onward) (a : Acting) → HasPlaces lines a → HasPlaces lines (acting_after o a)
after_places lines (on.Goes seen d found) a h = h
after_places lines (on.Ends seen answer) a h = places_behind lines a.script h

pub between_places : (s : Scenario) (actor : ℕ) (x y : Shared) (old : List Acting) (o : Onward) (a : Acting) → slice_get old actor ≡ Some a
    → y.phase ≡ x.phase → HavePlaces s x old → HavePlaces s y (with_nth actor (acting_after o a) old)
between_places s actor x y old o a here phase places =
    subst (λ (p : ℕ). AllByRecursion (HasPlaces (lines_in s p)) (with_nth actor (acting_after o a) old)) (sym phase)
    (all_with_nth (HasPlaces (lines_in s x.phase)) actor (acting_after o a) old places
    (after_places (lines_in s x.phase) o a (all_at (HasPlaces (lines_in s x.phase)) old actor a places here)))

pub made_places : (s : Scenario) (actor : ℕ) (x y : Shared) (old middle new : List Acting) (o : Onward) → WasMade s actor x y old middle o
    → IfSome (slice_get middle actor) (λ b. new ≡ with_nth actor (acting_after o b) middle)
    → HavePlaces s x old → HavePlaces s y new
made_places s actor x y old middle new o m told places =
    subst (λ (l : List Acting). HavePlaces s y l) (sym (went_on actor o old middle new m.acting m.is_acting m.taken told))
    (between_places s actor x y old o m.acting m.is_acting m.went.1.left.phase places)

pub was_done : (s : Scenario) (e : Event) (x y z : Shared) (old middle new last : List Acting) (said told answered : List Said) (o : Onward)
    (ended : Option ℕ) (between found : Option Found) → WasMade s e.actor x y old middle o
    → IfSome (slice_get middle e.actor) (λ b. new ≡ with_nth e.actor (acting_after o b) middle)
    → told ≡ said ++ said_on o y.phase e.actor e.command → between ≡ found_on o
    → IsSettled s y z new last told answered ended → found ≡ found_by ended e.actor between
    → WasDone s e x z old last said answered found
was_done s e x y z old middle new last said told answered o ended between found m goes is_told is_found settled is = record {
  acting = m.acting;
  is_acting = m.is_acting;
  line = m.line;
  is_line = m.is_line;
  between = y;
  onward = o;
  went = m.went;
  ended = ended;
  settled =
      subst (λ (l : List Acting). IsSettled s y z l last (said ++ said_on o y.phase e.actor e.command) answered ended)
      (went_on e.actor o old middle new m.acting m.is_acting m.taken goes)
      (subst (λ (l : List Said). IsSettled s y z new last l answered ended) is_told settled);
  found_is = is ∙ ap (λ (f : Option Found). found_by ended e.actor f) is_found;
}
