-- What is published and to be published only grows.
use Rattle.std.proofs.Common.{◌≡◌, ◌⊎◌, ℕ, List, [], ◌++◌, map, true, false, Bool, Option, Some, None, inl, inr, ⊎_elim, refl, sym, ap, ◌∙◌, subst, true≢false}
use Rattle.std.specs.Prelude.{slice_get}
use Rattle.std.specs.Option.{option_map_or}
use Rattle.std.proofs.lemmas.List.{append-nil, append_assoc, map-append}
use Rattle.tap_steer.specs.declared.operation.Op.{Op}
use Rattle.scen_words.specs.declared.command.Command.{Command}
use Rattle.tap_world.specs.declared.event.Event.{Event}
use Rattle.tap_world.specs.declared.event.Heard.{Heard}
use Rattle.tap_world.specs.declared.told.Published.{Published}
use Rattle.tap_world.specs.ByNumber.{with_nth}
use Rattle.tap_world.specs.Setup.{Numbered, Setup}
use Rattle.tap_world.specs.World.{Actor, Doing, World, current}
use Rattle.tap_world.specs.World.Doing.{Begun, Purges}
use Rattle.tap_world.specs.Effect.{Effect, Ending, Onward, actor_after, ended}
use Rattle.tap_world.specs.Effect.Onward.{Ends, Goes, Stays}
use Rattle.tap_world.specs.Step.{step}
use Rattle.tap_world.specs.Each.{EachActor}
use Rattle.tap_world.specs.Sound.{WriterIsHeld, holds}
use Rattle.tap_world.specs.SoundActors.{CanBe, can_be}
use Rattle.tap_sound.proofs.Kept.{effect_ops}
use Rattle.tap_sound.proofs.Scripts.{effect_actors}
use Rattle.tap_sound.proofs.Shapes.{Shape}
use Rattle.tap_sound.proofs.Taken.{IsEnding, IsStep, step_is, when_settled}
use Rattle.tap_sound.proofs.Held.{can_here, shape_here}
use Rattle.tap_sound.proofs.Turned.{Turned, at_is, is_at, itself}
use Rattle.tap_sound.proofs.Turned.Turned.{Gives, Keeps, Rests, Takes}
use Rattle.tap_sound.proofs.Views.{acted, other_still}
use Rattle.tap_sound.proofs.Writers.{doing_after, effect_writer, holding, is_doing_after}
use Rattle.tap_grows.specs.Coming.{as_published, coming, pending_in, pending_of, under_way}
use Rattle.tap_grows.specs.Grows.{Continues}
use Rattle.tap_grows.proofs.ComingRows.{Adds, adds, none_under}
use Rattle.tap_grows.proofs.Effects.{effect_rest}

-- what is to be published where this actor holds the writer
held_pending : (s : Setup) (phase me : ℕ) (actors : List Actor) (writer : Option ℕ) (a : Actor) → writer ≡ Some me
    → slice_get actors me ≡ Some a → pending_in s phase actors writer ≡ pending_of s phase me a.doing (current a.script)
held_pending s phase me actors writer a is at_ =
    ap (pending_in s phase actors) is
    ∙ ap (λ (o : Option Actor). option_map_or (λ (b : Actor). pending_of s phase me b.doing (current b.script)) o []) at_

none_pending : (s : Setup) (phase : ℕ) (actors : List Actor) (writer : Option ℕ) → writer ≡ None
    → pending_in s phase actors writer ≡ []
none_pending s phase actors writer is = ap (pending_in s phase actors) is

-- where another one does
other_pending : (s : Setup) (phase me : ℕ) (new : Actor) (actors : List Actor) (o : Option ℕ) → is_at me o ≡ false
    → pending_in s phase (with_nth me new actors) o ≡ pending_in s phase actors o
other_pending s phase me new actors None h = refl
other_pending s phase me new actors (Some n) h =
    ap (λ (q : Option Actor). option_map_or (λ (b : Actor). pending_of s phase n b.doing (current b.script)) q [])
    (other_still me n new actors
    (λ e. true≢false (sym (subst (λ (k : ℕ). is_at me (Some k) ≡ true) e (itself me)) ∙ h)))

-- a command that has begun nothing is to publish nothing
pub begun_pending : (s : Setup) (phase actor : ℕ) (q : Doing) (o : Option Numbered) → q ≡ Begun
    → pending_of s phase actor q o ≡ []
begun_pending s phase actor q o is = ap (λ (y : Doing). pending_of s phase actor y o) is ∙ none o
  where
    none : (o : Option Numbered) → pending_of s phase actor Begun o ≡ []
    none None = refl
    none (Some n) = refl

abbrev pub Grown : Setup → World → World → Type 0
Grown s w u = Continues (coming s w) (coming s u)

module _ (s : Setup) (w : World) (x : Event) (u : World) (t : IsStep s w x u) where
  abbrev d : Doing
  d = t.actor.doing

  abbrev c : Command
  c = t.now.command

  abbrev r : Effect
  r = t.effect

  abbrev e : Doing
  e = doing_after r.onward d

  abbrev told : Op → Published
  told = as_published w.phase x.actor x.command

  ops_are : t.between.ops ≡ w.ops ++ map told r.ops
  ops_are = effect_ops r x.actor t.actor x.command w t.between t.made

  phase_between : t.between.phase ≡ w.phase
  phase_between = (effect_rest r x.actor t.actor x.command w t.between t.made).phase

  actors_are : t.between.actors ≡ with_nth x.actor (actor_after r.onward t.actor) w.actors
  actors_are = effect_actors r x.actor t.actor x.command w t.between t.made

  writer_is : t.between.writer ≡ r.writer
  writer_is = effect_writer r x.actor t.actor x.command w t.between t.made

  -- of this command
  of_now : (q : Doing) → pending_of s w.phase x.actor q (current t.actor.script) ≡ map told (under_way s q c)
  of_now q =
      ap (pending_of s w.phase x.actor q) t.current_is
      ∙ ap (λ (n : ℕ). map (as_published w.phase x.actor n) (under_way s q c)) t.number

  now_after : (o : Onward) → (doing_after o d ≡ Begun) ⊎ (current (actor_after o t.actor).script ≡ current t.actor.script)
  now_after (Goes seen q f) = inr refl
  now_after (Ends seen y) = inl refl
  now_after (Stays f) = inr refl

  of_after : pending_of s w.phase x.actor (actor_after r.onward t.actor).doing (current (actor_after r.onward t.actor).script)
      ≡ map told (under_way s e c)
  of_after =
      ap (λ (q : Doing). pending_of s w.phase x.actor q (current (actor_after r.onward t.actor).script))
      (is_doing_after r.onward t.actor)
      ∙ ⊎_elim
      (λ begun. begun_pending s w.phase x.actor e (current (actor_after r.onward t.actor).script) begun
      ∙ sym (ap (λ (q : Doing). map told (under_way s q c)) begun))
      (λ same. ap (pending_of s w.phase x.actor e) same ∙ of_now e)
      (now_after r.onward)

  abbrev before : List Published
  before = pending_in s w.phase w.actors w.writer

  abbrev after : List Published
  after = pending_in s t.between.phase t.between.actors t.between.writer

  coming_between : (l : List Published) → after ≡ l → coming s t.between ≡ (w.ops ++ map told r.ops) ++ l
  coming_between l is =
      ap (λ (o : List Published). o ++ after) ops_are ∙ ap (λ (o : List Published). (w.ops ++ map told r.ops) ++ o) is

  -- this actor holds the writer before it, or nobody does, and so after it
  mine_grows : (a : Adds s w d c r) → before ≡ map told (under_way s d c) → after ≡ map told (under_way s e c)
      → Grown s w t.between
  mine_grows a was is = (
    map told a.more,
    coming_between (map told (under_way s e c)) is
        ∙ append_assoc w.ops (map told r.ops) (map told (under_way s e c))
        ∙ ap (λ (l : List Published). w.ops ++ l)
        (sym (map-append told r.ops (under_way s e c)) ∙ ap (map told) a.is ∙ map-append told (under_way s d c) a.more)
        ∙ sym (append_assoc w.ops (map told (under_way s d c)) (map told a.more))
        ∙ ap (λ (l : List Published). (w.ops ++ l) ++ map told a.more) (sym was),
  )

  -- another one holds it, or nobody
  other_grows : (r.ops ≡ []) ⊎ (w.writer ≡ None) → after ≡ before → Grown s w t.between
  other_grows (inl none) is = (
    [],
    coming_between before is
        ∙ ap (λ (l : List Op). (w.ops ++ map told l) ++ before) none
        ∙ ap (λ (l : List Published). l ++ before) (append-nil w.ops)
        ∙ sym (append-nil (coming s w)),
  )
  other_grows (inr free) is =
      let none : before ≡ [] = none_pending s w.phase w.actors w.writer free in (
        map told r.ops,
        coming_between [] (is ∙ none) ∙ append-nil (w.ops ++ map told r.ops)
            ∙ sym (ap (λ (l : List Published). l ++ map told r.ops)
            (ap (λ (l : List Published). w.ops ++ l) none ∙ append-nil w.ops)),
      )

  held_after : r.writer ≡ Some x.actor → after ≡ map told (under_way s e c)
  held_after is =
      held_pending s t.between.phase x.actor t.between.actors t.between.writer (actor_after r.onward t.actor)
      (writer_is ∙ is) (acted s w x u t)
      ∙ ap (λ (n : ℕ). pending_of s n x.actor (actor_after r.onward t.actor).doing
      (current (actor_after r.onward t.actor).script)) phase_between
      ∙ of_after

  free_after : r.writer ≡ None → holds e ≡ false → after ≡ map told (under_way s e c)
  free_after is no_ =
      none_pending s t.between.phase t.between.actors t.between.writer (writer_is ∙ is)
      ∙ sym (ap (map told) (none_under s e c no_))

  held_before : holds d ≡ true → holds d ≡ is_at x.actor w.writer → before ≡ map told (under_way s d c)
  held_before yes_ mine =
      held_pending s w.phase x.actor w.actors w.writer t.actor (at_is x.actor w.writer (sym mine ∙ yes_)) t.found
      ∙ of_now d

  free_before : w.writer ≡ None → holds d ≡ is_at x.actor w.writer → before ≡ map told (under_way s d c)
  free_before free mine =
      none_pending s w.phase w.actors w.writer free
      ∙ sym (ap (map told) (none_under s d c (mine ∙ ap (is_at x.actor) free)))

  still : holds d ≡ false → holds d ≡ is_at x.actor w.writer → r.writer ≡ w.writer → after ≡ before
  still no_ mine same =
      ap (λ (n : ℕ). pending_in s n t.between.actors t.between.writer) phase_between
      ∙ ap (λ (o : Option ℕ). pending_in s w.phase t.between.actors o) (writer_is ∙ same)
      ∙ ap (λ (l : List Actor). pending_in s w.phase l w.writer) actors_are
      ∙ other_pending s w.phase x.actor (actor_after r.onward t.actor) w.actors w.writer (sym mine ∙ no_)

  pub between_grows : can_be d c ≡ true → Shape s w x.actor t.actor.seen d c r → EachActor w (WriterIsHeld w)
      → Grown s w t.between
  between_grows can shape held = go (holding s w x.actor t.actor.seen d c r can shape)
    where
      mine : holds d ≡ is_at x.actor w.writer
      mine = held x.actor t.actor t.found

      a : Adds s w d c r
      a = adds s w x.actor t.actor.seen d c r mine shape

      rests : (b : Bool) → holds d ≡ b → r.writer ≡ w.writer → Grown s w t.between
      rests true is same =
          mine_grows a (held_before is mine) (held_after (same ∙ at_is x.actor w.writer (sym mine ∙ is)))
      rests false is same = other_grows (a.free is) (still is mine same)

      go : Turned x.actor w.writer r.writer (holds d) (holds e) → Grown s w t.between
      go (Rests same is) = rests (holds d) refl same
      go (Takes free it is) = mine_grows a (free_before free mine) (held_after it)
      go (Keeps was it is) = mine_grows a (held_before was mine) (held_after it)
      go (Gives was none is) = mine_grows a (held_before was mine) (free_after none is)

-- the end of a purge publishes nothing, and had nothing to publish
ended_comes : (s : Setup) (v : World) (f : Ending) → IsEnding v f → coming s (ended f v) ≡ coming s v
ended_comes s v f end =
    ap (λ (l : List Published). v.ops ++ l)
    (sym (held_pending s v.phase f.actor v.actors v.writer f.state end.writer end.found
    ∙ ap (λ (q : Doing). pending_of s v.phase f.actor q (current f.state.script)) end.doing
    ∙ none (current f.state.script)))
  where
    none : (o : Option Numbered) → pending_of s v.phase f.actor (Purges end.file f.version) o ≡ []
    none None = refl
    none (Some n) = refl

pub coming_grows : (s : Setup) (w : World) (x : Event) (u : World × Heard) → step s w x ≡ Some u
    → EachActor w (λ actor a. CanBe a) → EachActor w (WriterIsHeld w) → Continues (coming s w) (coming s u.0)
coming_grows s w x u e stand held =
    let t = step_is s w x u e in
    let grown = between_grows s w x u.0 t (can_here s w x u.0 t stand) (shape_here s w x u.0 t stand) held in
    subst (Grown s w) t.is
    (when_settled (Grown s w) t.between grown (λ f end. (grown.0, ended_comes s t.between f end ∙ grown.1)))
