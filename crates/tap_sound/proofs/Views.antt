-- The command that holds the writer, before an event and after it.
use Rattle.std.proofs.Common.{◌≡◌, ◌≢◌, ℕ, zero, suc, List, [], ◌∷◌, Bool, true, false, Option, Some, None, refl, sym, ap, ◌∙◌, subst, true≢false}
use Rattle.std.specs.Prelude.{slice_get}
use Rattle.std.specs.Option.{option_map_or}
use Rattle.scen_words.specs.declared.command.Command.{Command}
use Rattle.tap_world.specs.declared.event.Event.{Event}
use Rattle.tap_ground.specs.Options.{◌>>=◌}
use Rattle.tap_world.specs.ByNumber.{with_nth}
use Rattle.tap_world.specs.Setup.{Numbered, Setup}
use Rattle.tap_world.specs.World.{Actor, Doing, World, current}
use Rattle.tap_world.specs.World.Doing.{Begun, Purges}
use Rattle.tap_world.specs.Effect.{Ending, Onward, actor_after, ended}
use Rattle.tap_world.specs.Effect.Onward.{Ends, Goes, Stays}
use Rattle.tap_world.specs.Each.{EachActor}
use Rattle.tap_world.specs.Sound.{WriterIsHeld, holds}
use Rattle.tap_world.specs.SoundActors.{can_be}
use Rattle.tap_world.specs.SoundTable.{commanded, writing, writer_of}
use Rattle.tap_sound.proofs.Scripts.{effect_actors}
use Rattle.tap_sound.proofs.Shapes.{Shape}
use Rattle.tap_sound.proofs.Taken.{IsEnding, IsStep}
use Rattle.tap_sound.proofs.Turned.{Turned, at_is, is_at, itself}
use Rattle.tap_sound.proofs.Turned.Turned.{Gives, Keeps, Rests, Takes}
use Rattle.tap_sound.proofs.Writers.{doing_after, effect_writer, holding, is_doing_after}

-- the command under way of an actor, how far it has come, and the command
abbrev doing_of : Option Actor → Doing
doing_of o = option_map_or (λ (a : Actor). a.doing) o Begun

abbrev command_of : Option Actor → Option Command
command_of o = o >>= (λ (a : Actor). current a.script >>= (λ (c : Numbered). Some c.command))

abbrev pub Is : World → Doing → Option Command → Type 0
Is w d c = (writing w ≡ d) × (commanded w ≡ c)

-- an event of another command leaves the one that holds the writer; else it begins, goes on, or ends
pub data View (w v : World) (d e : Doing) (c : Command) : Type 0 where
  Aside : holds d ≡ false → holds e ≡ false → writing v ≡ writing w → commanded v ≡ commanded w → View w v d e c
  Begins : Is w Begun None → Is v e (Some c) → holds d ≡ false → holds e ≡ true → View w v d e c
  Within : Is w d (Some c) → Is v e (Some c) → holds d ≡ true → holds e ≡ true → View w v d e c
  Closes : Is w d (Some c) → Is v Begun None → holds d ≡ true → holds e ≡ false → View w v d e c

of_writer : (w : World) (o : Option ℕ) → w.writer ≡ o → writer_of w ≡ (o >>= (λ (n : ℕ). slice_get w.actors n))
of_writer w o is = ap (λ (q : Option ℕ). q >>= (λ (n : ℕ). slice_get w.actors n)) is

pub is_none_held : (w : World) → w.writer ≡ None → Is w Begun None
is_none_held w is = (ap doing_of (of_writer w None is), ap command_of (of_writer w None is))

is_held_by : (w : World) (me : ℕ) (a : Actor) (d : Doing) (c : Option Command) → w.writer ≡ Some me → slice_get w.actors me ≡ Some a → a.doing ≡ d
    → (current a.script >>= (λ (n : Numbered). Some n.command)) ≡ c → Is w d c
is_held_by w me a d c is at_ doing command =
    let it : writer_of w ≡ Some a = of_writer w (Some me) is ∙ at_ in
    (ap doing_of it ∙ doing, ap command_of it ∙ command)

now_of : (a : Actor) (n : Numbered) → slice_get a.script 0 ≡ Some n → (current a.script >>= (λ (m : Numbered). Some m.command)) ≡ Some n.command
now_of a n at_ = ap (λ (o : Option Numbered). o >>= (λ (m : Numbered). Some m.command)) at_

now_after : (o : Onward) (a : Actor) (n : Numbered) → slice_get a.script 0 ≡ Some n → holds (doing_after o a.doing) ≡ true
    → (current (actor_after o a).script >>= (λ (m : Numbered). Some m.command)) ≡ Some n.command
now_after (Goes seen e f) a n at_ h = now_of a n at_
now_after (Ends seen x) a n at_ h = absurd (true≢false (sym h))
now_after (Stays f) a n at_ h = now_of a n at_

-- the actor that acted, after it
pub acted : (s : Setup) (w : World) (x : Event) (u : World) (t : IsStep s w x u) → slice_get t.between.actors x.actor ≡ Some (actor_after t.effect.onward t.actor)
acted s w x u t =
    ap (λ (q : List Actor). slice_get q x.actor) (effect_actors t.effect x.actor t.actor x.command w t.between t.made)
    ∙ ap (λ (o : Option Actor). o) (here x.actor w.actors t.actor t.found)
  where
    here : (n : ℕ) (xs : List Actor) (a : Actor) → slice_get xs n ≡ Some a → slice_get (with_nth n (actor_after t.effect.onward t.actor) xs) n ≡ Some (actor_after t.effect.onward t.actor)
    here n [] a e = absurd (cc (e))
    here zero (y ∷ ys) a e = refl
    here (suc n) (y ∷ ys) a e = here n ys a e

-- the others are as they were
pub other_still : (n i : ℕ) (new : Actor) (xs : List Actor) → n ≢ i → slice_get (with_nth n new xs) i ≡ slice_get xs i
other_still n i new [] no_ = refl
other_still zero zero new (y ∷ ys) no_ = absurd (no_ refl)
other_still zero (suc i) new (y ∷ ys) no_ = refl
other_still (suc n) zero new (y ∷ ys) no_ = refl
other_still (suc n) (suc i) new (y ∷ ys) no_ = other_still n i new ys (λ h. no_ (ap suc h))

aside : (s : Setup) (w : World) (x : Event) (u : World) (t : IsStep s w x u) → t.between.writer ≡ w.writer → is_at x.actor w.writer ≡ false
    → writer_of t.between ≡ writer_of w
aside s w x u t same no_ = of_writer t.between w.writer same ∙ go w.writer no_
  where
    go : (o : Option ℕ) → is_at x.actor o ≡ false
        → (o >>= (λ (n : ℕ). slice_get t.between.actors n)) ≡ (o >>= (λ (n : ℕ). slice_get w.actors n))
    go None h = refl
    go (Some n) h =
        ap (λ (q : List Actor). slice_get q n) (effect_actors t.effect x.actor t.actor x.command w t.between t.made)
        ∙ other_still x.actor n (actor_after t.effect.onward t.actor) w.actors (λ e. true≢false (sym (itself_at x.actor n e) ∙ h))
      where
        itself_at : (a b : ℕ) → a ≡ b → is_at a (Some b) ≡ true
        itself_at a b e = subst (λ (k : ℕ). is_at k (Some b) ≡ true) (sym e) (itself b)

pub view : (s : Setup) (w : World) (x : Event) (u : World) (t : IsStep s w x u) → can_be t.actor.doing t.now.command ≡ true
    → Shape s w x.actor t.actor.seen t.actor.doing t.now.command t.effect → EachActor w (WriterIsHeld w)
    → View w t.between t.actor.doing (doing_after t.effect.onward t.actor.doing) t.now.command
view s w x u t can shape h = go (holding s w x.actor t.actor.seen t.actor.doing t.now.command t.effect can shape)
  where
    d : Doing
    d = t.actor.doing

    e : Doing
    e = doing_after t.effect.onward t.actor.doing

    mine : holds d ≡ is_at x.actor w.writer
    mine = h x.actor t.actor t.found

    writer : t.between.writer ≡ t.effect.writer
    writer = effect_writer t.effect x.actor t.actor x.command w t.between t.made

    before : holds d ≡ true → Is w d (Some t.now.command)
    before yes_ = is_held_by w x.actor t.actor d (Some t.now.command) (at_is x.actor w.writer (sym mine ∙ yes_)) t.found refl (now_of t.actor t.now t.current_is)

    after : t.effect.writer ≡ Some x.actor → holds e ≡ true → Is t.between e (Some t.now.command)
    after is yes_ = is_held_by t.between x.actor (actor_after t.effect.onward t.actor) e (Some t.now.command) (writer ∙ is) (acted s w x u t)
        (is_doing_after t.effect.onward t.actor) (now_after t.effect.onward t.actor t.now t.current_is yes_)

    rests : (b : Bool) → holds d ≡ b → t.effect.writer ≡ w.writer → holds e ≡ holds d → View w t.between d e t.now.command
    rests true is same alike = Within (before is) (after (same ∙ at_is x.actor w.writer (sym mine ∙ is)) (alike ∙ is)) is (alike ∙ is)
    rests false is same alike =
        let it = aside s w x u t (writer ∙ same) (sym mine ∙ is) in
        Aside is (alike ∙ is) (ap doing_of it) (ap command_of it)

    go : Turned x.actor w.writer t.effect.writer (holds d) (holds e) → View w t.between d e t.now.command
    go (Rests same alike) = rests (holds d) refl same alike
    go (Takes none it is) = Begins (is_none_held w none) (after it is) (mine ∙ ap (is_at x.actor) none) is
    go (Keeps was it is) = Within (before was) (after it is) was is
    go (Gives was none is) = Closes (before was) (is_none_held t.between (writer ∙ none)) was is

-- the end of a purge: it held the writer, and nobody does
pub ending_view : (v : World) (f : Ending) (end : IsEnding v f) → (Is v (Purges end.file f.version) (Some end.now.command)) × Is (ended f v) Begun None
ending_view v f end =
    (is_held_by v f.actor f.state (Purges end.file f.version) (Some end.now.command) end.writer end.found end.doing (now_of f.state end.now end.current_is), is_none_held (ended f v) refl)
