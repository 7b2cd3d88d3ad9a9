-- Which answers an event tells, and what becomes of each actor by it.
use Rattle.std.proofs.Common.{◌≡◌, ◌⊎◌, ℕ, zero, suc, List, [], ◌∷◌, ◌++◌, length, Option, Some, None, inl, inr, ⊎_elim, refl, sym, ap, ◌∙◌, subst}
use Rattle.std.specs.Prelude.{drop, slice_get}
use Rattle.tap_trace.specs.declared.answer.Answer.{Answer}
use Rattle.tap_trace.specs.declared.answer.Answer.TheVariants as answer
use Rattle.tap_world.specs.declared.event.Event.{Event}
use Rattle.tap_world.specs.declared.told.Said.{Said}
use Rattle.tap_world.specs.ByNumber.{with_nth}
use Rattle.tap_world.specs.Setup.{Numbered, Setup}
use Rattle.tap_world.specs.World.{Actor, World, current}
use Rattle.tap_world.specs.World.Doing.{Begun, Purges}
use Rattle.tap_world.specs.Effect.{Ending, Onward, actor_after, ending, said_after, settled}
use Rattle.tap_world.specs.Effect.Onward.{Ends, Goes, Stays}
use Rattle.tap_sound.proofs.Kit.{some_same}
use Rattle.tap_sound.proofs.Scripts.{effect_actors}
use Rattle.tap_sound.proofs.Taken.{IsEnding, IsStep, ending_is, when_settled}
use Rattle.tap_sound.proofs.Turned.{with_nth_inv}
use Rattle.tap_sound.proofs.Views.{acted}
use Rattle.tap_grows.specs.Moments.{EventTells}
use Rattle.tap_grows.specs.Moments.EventTells.{OfAPurge, OfItsOwn}
use Rattle.tap_grows.proofs.Effects.{effect_is, effect_rest}
use Rattle.tap_grows.proofs.Lines.{at_front}

-- an answer that an event tells is that of its actor's command under way, and tells what the actor has seen then
pub record IsNew (s : Setup) (w : World) (e : Event) (u : World) (x : Said) : Type 0 where
  pub phase : x.phase ≡ w.phase
  pub actor : Actor
  pub now : Numbered
  pub found : slice_get w.actors x.line.actor ≡ Some actor
  pub is_now : current actor.script ≡ Some now
  pub number : now.number ≡ x.line.command
  pub tells : EventTells s w e x
  pub left : (b : Actor) → slice_get u.actors x.line.actor ≡ Some b → b.seen ≡ x.line.seen

-- an actor after an event has the same commands left, or this answer has ended one
pub data Comes (s : Setup) (w : World) (e : Event) (u : World) (i : ℕ) (b : Actor) : Type 0 where
  Still : (a : Actor) → slice_get w.actors i ≡ Some a → b.script ≡ a.script → Comes s w e u i b
  Over : (k : ℕ) (x : Said) → slice_get u.said k ≡ Some x → IsNew s w e u x → x.line.actor ≡ i → b.doing ≡ Begun
      → Comes s w e u i b

-- ---- answers

either_part : {A : Type 0} (xs ys : List A) (k : ℕ) (x : A) → slice_get (xs ++ ys) k ≡ Some x
    → (slice_get xs k ≡ Some x) ⊎ ((m : ℕ) × (slice_get ys m ≡ Some x))
either_part [] ys k x e = inr (k, e)
either_part (y ∷ xs) ys zero x e = inl e
either_part (y ∷ xs) ys (suc k) x e = either_part xs ys k x e

abbrev said_by : ℕ → ℕ → ℕ → ℕ → Answer → Said
said_by phase actor command seen x =
    record { phase = phase; line = record { actor = actor; command = command; seen = seen; answer = x } }

only_one : {A : Type 0} (y : A) (m : ℕ) (x : A) → slice_get (y ∷ []) m ≡ Some x → y ≡ x
only_one y zero x e = some_same y x e
only_one y (suc m) x e = absurd (cc (e))

at_end : {A : Type 0} (xs : List A) (y : A) → slice_get (xs ++ y ∷ []) (length xs) ≡ Some y
at_end [] y = refl
at_end (x ∷ xs) y = at_end xs y

module _ (s : Setup) (w : World) (e : Event) (u : World) (t : IsStep s w e u) where
  abbrev o : Onward
  o = t.effect.onward

  -- the end of a purge leaves what actors have seen
  abbrev HasKept : World → Type 0
  HasKept v = (i : ℕ) (b : Actor) → slice_get v.actors i ≡ Some b
      → (c : Actor) × (slice_get t.between.actors i ≡ Some c) × (b.seen ≡ c.seen)

  seen_after : HasKept u
  seen_after = subst HasKept t.is (when_settled HasKept t.between (λ i b at_. (b, at_, refl)) (λ p end i b at_. ⊎_elim
      (λ same. (
        p.state,
        subst (λ n. slice_get t.between.actors n ≡ Some p.state) same.0 end.found,
        ap (λ (q : Actor). q.seen) (sym same.1),
      ))
      (λ other. (b, other.1, refl))
      (with_nth_inv p.actor (record p.state { script = drop 1 p.state.script; doing = Begun }) t.between.actors i b at_)))

  -- the answer of the event's own command
  own_new : (seen : ℕ) (x : Answer) → o ≡ Ends seen x → IsNew s w e u (said_by w.phase e.actor e.command seen x)
  own_new seen x is = record {
    phase = refl;
    actor = t.actor;
    now = t.now;
    found = t.found;
    is_now = t.current_is;
    number = t.number;
    tells = OfItsOwn t.effect (effect_is s w e u t) (ap (λ (q : Onward). said_after q w.phase e.actor e.command) is);
    left = λ b at_.
        let c = seen_after e.actor b at_ in
        c.2 ∙ ap (λ (q : Actor). q.seen)
        (some_same c.0 (actor_after o t.actor) (sym c.1 ∙ acted s w e u t))
        ∙ ap (λ (q : Onward). (actor_after q t.actor).seen) is;
  }

  own_said : (k : ℕ) (y : Said) → slice_get (said_after o w.phase e.actor e.command) k ≡ Some y → IsNew s w e u y
  own_said k y h = go o refl h
    where
      go : (q : Onward) → o ≡ q → slice_get (said_after q w.phase e.actor e.command) k ≡ Some y → IsNew s w e u y
      go (Goes seen d f) is h = absurd (cc (h))
      go (Stays f) is h = absurd (cc (h))
      go (Ends seen x) is h = subst (IsNew s w e u) (only_one _ k y h) (own_new seen x is)

  phase_is : t.between.phase ≡ w.phase
  phase_is = (effect_rest t.effect e.actor t.actor e.command w t.between t.made).phase

  actors_are : t.between.actors ≡ with_nth e.actor (actor_after o t.actor) w.actors
  actors_are = effect_actors t.effect e.actor t.actor e.command w t.between t.made

  between_said : (k : ℕ) (y : Said) → slice_get t.between.said k ≡ Some y
      → (slice_get w.said k ≡ Some y) ⊎ IsNew s w e u y
  between_said k y h =
      let is = (effect_rest t.effect e.actor t.actor e.command w t.between t.made).said in
      ⊎_elim (λ old. inl old) (λ new. inr (own_said new.0 y new.1))
      (either_part w.said (said_after o w.phase e.actor e.command) k y
      (ap (λ (l : List Said). slice_get l k) (sym is) ∙ h))

  -- the answer of a detach that ends by it
  abbrev purged : Ending → Said
  purged p = said_by t.between.phase p.actor p.command p.state.seen (answer.Version p.version)

  purging_script : (q : Onward) (file version : ℕ) → (actor_after q t.actor).doing ≡ Purges file version
      → (actor_after q t.actor).script ≡ t.actor.script
  purging_script (Goes seen d f) file version is = refl
  purging_script (Stays f) file version is = refl
  purging_script (Ends seen x) file version is = absurd (cc (is))

  purger_before : (p : Ending) → IsEnding t.between p
      → (a : Actor) × (slice_get w.actors p.actor ≡ Some a) × (p.state.script ≡ a.script)
  purger_before p end =
      ⊎_elim
      (λ same. (
        t.actor,
        subst (λ n. slice_get w.actors n ≡ Some t.actor) same.0 t.found,
        ap (λ (q : Actor). q.script) (sym same.1)
            ∙ purging_script o end.file p.version (ap (λ (q : Actor). q.doing) same.1 ∙ end.doing),
      ))
      (λ other. (p.state, other.1, refl))
      (with_nth_inv e.actor (actor_after o t.actor) w.actors p.actor p.state
      (ap (λ (l : List Actor). slice_get l p.actor) (sym actors_are) ∙ end.found))

  purge_new : (p : Ending) → ending t.between ≡ Some p → IsNew s w e u (purged p)
  purge_new p is =
      let end = ending_is t.between p is in
      let a = purger_before p end in
      record {
        phase = phase_is;
        actor = a.0;
        now = end.now;
        found = a.1;
        is_now = ap (λ (l : List Numbered). slice_get l 0) (sym a.2) ∙ end.current_is;
        number = end.number;
        tells = OfAPurge t.effect t.actor t.between p (effect_is s w e u t) t.found t.made is
            (ap (λ n. said_after (Ends p.state.seen (answer.Version p.version)) n p.actor p.command) (sym phase_is));
        left = λ b at_.
            let c = seen_after p.actor b at_ in
            c.2 ∙ ap (λ (q : Actor). q.seen) (some_same c.0 p.state (sym c.1 ∙ end.found));
      }

  abbrev HasAnswers : World → Type 0
  HasAnswers v = (k : ℕ) (y : Said) → slice_get v.said k ≡ Some y → (slice_get w.said k ≡ Some y) ⊎ IsNew s w e u y

  -- each answer after the event was told before it, or is told by it
  pub answers_after : HasAnswers u
  answers_after = subst HasAnswers t.is (go (ending t.between) refl)
    where
      go : (p : Option Ending) → ending t.between ≡ p → HasAnswers (settled t.between p)
      go None is = between_said
      go (Some p) is = λ k y h.
          ⊎_elim (λ old. between_said k y old)
          (λ new. inr (subst (IsNew s w e u) (only_one (purged p) new.0 y new.1) (purge_new p is)))
          (either_part t.between.said (purged p ∷ []) k y h)

  -- where they stand among the answers
  own_at : (seen : ℕ) (x : Answer) → o ≡ Ends seen x
      → slice_get u.said (length w.said) ≡ Some (said_by w.phase e.actor e.command seen x)
  own_at seen x is = subst (λ (q : World). slice_get q.said (length w.said) ≡ Some y) t.is
      (when_settled (λ (q : World). slice_get q.said (length w.said) ≡ Some y) t.between here
      (λ p end. at_front t.between.said (purged p ∷ []) (length w.said) y here))
    where
      y : Said
      y = said_by w.phase e.actor e.command seen x

      here : slice_get t.between.said (length w.said) ≡ Some y
      here =
          ap (λ (l : List Said). slice_get l (length w.said))
          ((effect_rest t.effect e.actor t.actor e.command w t.between t.made).said
          ∙ ap (λ (q : Onward). w.said ++ said_after q w.phase e.actor e.command) is)
          ∙ at_end w.said y

  purge_at : (p : Ending) → ending t.between ≡ Some p → slice_get u.said (length t.between.said) ≡ Some (purged p)
  purge_at p is =
      subst (λ (q : World). slice_get q.said (length t.between.said) ≡ Some (purged p))
      (ap (λ (q : Option Ending). settled t.between q) (sym is) ∙ t.is) (at_end t.between.said (purged p))

  -- ---- actors

  own_comes : (q : Onward) → o ≡ q → Comes s w e u e.actor (actor_after q t.actor)
  own_comes (Goes seen d f) is = Still t.actor t.found refl
  own_comes (Stays f) is = Still t.actor t.found refl
  own_comes (Ends seen x) is =
      Over (length w.said) (said_by w.phase e.actor e.command seen x) (own_at seen x is) (own_new seen x is) refl refl

  abbrev AllCome : World → Type 0
  AllCome v = (i : ℕ) (b : Actor) → slice_get v.actors i ≡ Some b → Comes s w e u i b

  between_come : AllCome t.between
  between_come i b h =
      ⊎_elim
      (λ same. subst (λ (x : Actor). Comes s w e u i x) same.1
      (subst (λ n. Comes s w e u n (actor_after o t.actor)) same.0 (own_comes o refl)))
      (λ other. Still b other.1 refl)
      (with_nth_inv e.actor (actor_after o t.actor) w.actors i b
      (ap (λ (l : List Actor). slice_get l i) (sym actors_are) ∙ h))

  pub actors_after : AllCome u
  actors_after = subst AllCome t.is (go (ending t.between) refl)
    where
      go : (p : Option Ending) → ending t.between ≡ p → AllCome (settled t.between p)
      go None is = between_come
      go (Some p) is = λ i b h.
          ⊎_elim
          (λ same. Over (length t.between.said) (purged p) (purge_at p is) (purge_new p is) same.0
          (ap (λ (x : Actor). x.doing) (sym same.1)))
          (λ other. between_come i b other.1)
          (with_nth_inv p.actor (record p.state { script = drop 1 p.state.script; doing = Begun }) t.between.actors i b h)
