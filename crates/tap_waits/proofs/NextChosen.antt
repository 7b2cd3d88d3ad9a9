-- What actors do next is told by the table of who waits, and so is which events a run can choose from.
use Rattle.std.proofs.Common.{◌≡◌, ℕ, zero, suc, ◌+◌, List, [], ◌∷◌, Bool, true, false, Option, Some, None, refl, sym, ap, ◌∙◌, subst, arith}
use Rattle.std.specs.Prelude.{if◌then◌else◌, slice_get}
use Rattle.std.specs.Option.{option_map_or}
use Rattle.tap_world.specs.declared.event.Event.{Event}
use Rattle.tap_world.specs.declared.event.EventKind.{EventKind}
use Rattle.tap_world.specs.Setup.{Numbered, Setup}
use Rattle.tap_world.specs.World.{Actor, World, current}
use Rattle.tap_world.specs.Scripts.{next_kind}
use Rattle.tap_world.specs.Runs as runs
use Rattle.tap_world.specs.Runs.{Next, choices, choices_from, if_allowed, next_of, with_event}
use Rattle.tap_world.specs.Runs.Next.{Does, Ended, Waits}
use Rattle.tap_world.specs.Waiting.{may_go}
use Rattle.tap_sound.proofs.Kit.{some_same}
use Rattle.tap_waits.specs.Next.{EachHasNext, HasNext, NextIsAllowed}
use Rattle.tap_waits.specs.NextChoices.{ChoicesAreNext, HasChoices, IsNextOf, does_by, next_by}

-- what is done, where something is
does_same : (d e : Event) → Does d ≡ Does e → d ≡ e
does_same d e h = cc (h)

module _ (s : Setup) (w : World) (nexts : EachHasNext s w) where
  -- the next event is done where it is allowed, which the table tells
  does_is : (i : ℕ) (a : Actor) (c : Numbered) → slice_get w.actors i ≡ Some a → current a.script ≡ Some c
      → (h : HasNext s w i a c)
      → next_of s w i a (Some c)
      ≡ (if may_go w i a c.command then Does (record { actor = i; command = c.number; kind = h.kind }) else Waits)
  does_is i a c found now h =
      ap (λ (o : Option EventKind). option_map_or
      (λ kind. if_allowed s w (record { actor = i; command = c.number; kind = kind })) o Waits) h.is_next
      ∙ ap (λ (b : Bool). if b then Does (record { actor = i; command = c.number; kind = h.kind }) else Waits) h.allowed

  next_is : (i : ℕ) → runs.next s w i ≡ next_by w i
  next_is i = go (slice_get w.actors i) refl
    where
      at_command : (a : Actor) → slice_get w.actors i ≡ Some a → (o : Option Numbered) → current a.script ≡ o
          → next_of s w i a o ≡ does_by w i a o
      at_command a found None now = refl
      at_command a found (Some c) now =
          let h = nexts i a c found now in
          does_is i a c found now h
          ∙ sym (ap (λ (o : Option EventKind). option_map_or
          (λ kind. if may_go w i a c.command then Does (record { actor = i; command = c.number; kind = kind }) else
          Waits) o Waits) h.is_next)

      go : (o : Option Actor) → slice_get w.actors i ≡ o
          → option_map_or (λ (a : Actor). next_of s w i a (current a.script)) o Ended
          ≡ option_map_or (λ (a : Actor). does_by w i a (current a.script)) o Ended
      go None found = refl
      go (Some a) found = at_command a found (current a.script) refl

  -- ---- each choice

  made_next : (i : ℕ) (a : Actor) (e : Event) → slice_get w.actors i ≡ Some a → (o : Option Numbered)
      → current a.script ≡ o → next_of s w i a o ≡ Does e → IsNextOf w e
  made_next i a e found None now is = absurd (cc (is))
  made_next i a e found (Some c) now is = go (may_go w i a c.command) refl
    where
      go : (b : Bool) → may_go w i a c.command ≡ b → IsNextOf w e
      go b may =
          let h = nexts i a c found now in
          let d : Event = record { actor = i; command = c.number; kind = h.kind } in
          told b may h.kind h.is_next
          (sym (does_is i a c found now h ∙ ap (λ (q : Bool). if q then Does d else Waits) may) ∙ is)
        where
          told : (b : Bool) → may_go w i a c.command ≡ b → (kind : EventKind) → next_kind w a.doing c.command
              ≡ Some kind
              → (if b then Does (record { actor = i; command = c.number; kind = kind }) else Waits) ≡ Does e
              → IsNextOf w e
          told true may kind next is =
              subst (IsNextOf w) (does_same (record { actor = i; command = c.number; kind = kind }) e is)
              (record {
                actor = a;
                command = c;
                is_actor = found;
                is_command = now;
                number = refl;
                kind = next;
                may =
                    may;
              })
          told false may kind next is = absurd (cc (is))

  -- actors from a number on
  abbrev pub AreFrom : ℕ → List Actor → Type 0
  AreFrom k as_ = (j i : ℕ) (a : Actor) → i ≡ k + j → slice_get as_ j ≡ Some a → slice_get w.actors i ≡ Some a

  each_from : (as_ : List Actor) (k : ℕ) → AreFrom k as_ → (m : ℕ) (e : Event) → slice_get (choices_from s w k as_) m
      ≡ Some e → IsNextOf w e
  each_from [] k from m e at_ = absurd (cc (at_))
  each_from (a ∷ as_) k from m e at_ =
      go (next_of s w k a (current a.script)) refl m at_
      (made_next k a e (from 0 k a (omega (arith)) refl) (current a.script) refl)
      (λ l. each_from as_ (k + 1) (λ j i b is there. from (suc j) i b (omega (arith, is)) there) l e)
    where
      go : (x : Next) → next_of s w k a (current a.script) ≡ x → (m : ℕ)
          → slice_get (with_event x (choices_from s w (k + 1) as_)) m ≡ Some e
          → (next_of s w k a (current a.script) ≡ Does e → IsNextOf w e)
          → ((l : ℕ) → slice_get (choices_from s w (k + 1) as_) l ≡ Some e → IsNextOf w e) → IsNextOf w e
      go (Does d) is zero at_ here rest = here (is ∙ ap (λ (q : Event). Does q) (some_same d e at_))
      go (Does d) is (suc l) at_ here rest = rest l at_
      go Waits is m at_ here rest = rest m at_
      go Ended is m at_ here rest = rest m at_

  -- ---- and every one

  every_from : (as_ : List Actor) (k j i : ℕ) (a : Actor) (e : Event) → i ≡ k + j → slice_get as_ j ≡ Some a
      → next_of s w i a (current a.script) ≡ Does e
      → (m : ℕ) × (slice_get (choices_from s w k as_) m ≡ Some e)
  every_from [] k j i a e is at_ does = absurd (cc (at_))
  every_from (b ∷ as_) k zero i a e is at_ does =
      let here : i ≡ k = omega (arith, is) in
      let it : next_of s w k b (current b.script) ≡ Does e =
      ap (λ (x : Actor). next_of s w k x (current x.script)) (some_same b a at_)
      ∙ ap (λ (x : ℕ). next_of s w x a (current a.script)) (sym here) ∙ does in
      (0, ap (λ (x : Next). slice_get (with_event x (choices_from s w (k + 1) as_)) 0) it)
  every_from (b ∷ as_) k (suc j) i a e is at_ does =
      go (next_of s w k b (current b.script)) (every_from as_ (k + 1) j i a e (omega (arith, is)) at_ does)
    where
      go : (x : Next) → (m : ℕ) × (slice_get (choices_from s w (k + 1) as_) m ≡ Some e)
          → (m : ℕ) × (slice_get (with_event x (choices_from s w (k + 1) as_)) m ≡ Some e)
      go (Does d) r = (suc r.0, r.1)
      go Waits r = r
      go Ended r = r

  is_chosen : (e : Event) → IsNextOf w e → (k : ℕ) × (slice_get (choices s w) k ≡ Some e)
  is_chosen e r =
      let h = nexts e.actor r.actor r.command r.is_actor r.is_command in
      let kind : h.kind ≡ e.kind = some_same h.kind e.kind (sym h.is_next ∙ r.kind) in
      let made : next_of s w e.actor r.actor (current r.actor.script) ≡ Does e =
      ap (λ (o : Option Numbered). next_of s w e.actor r.actor o) r.is_command
      ∙ does_is e.actor r.actor r.command r.is_actor r.is_command h
      ∙ ap (λ (b : Bool). if b then Does (record { actor = e.actor; command = r.command.number; kind = h.kind }) else
      Waits) r.may
      ∙ ap (λ (x : EventKind). Does (record { actor = e.actor; command = r.command.number; kind = x })) kind
      ∙ ap (λ (x : ℕ). Does (record { actor = e.actor; command = x; kind = e.kind })) r.number in
      every_from w.actors 0 e.actor e.actor r.actor e (omega (arith)) r.is_actor made

  none_chosen : choices s w ≡ [] → (i : ℕ) (a : Actor) (c : Numbered) → slice_get w.actors i ≡ Some a
      → current a.script ≡ Some c → may_go w i a c.command ≡ false
  none_chosen none i a c found now = go (may_go w i a c.command) refl
    where
      go : (b : Bool) → may_go w i a c.command ≡ b → may_go w i a c.command ≡ false
      go false may = may
      go true may =
          let h = nexts i a c found now in
          let e : Event = record { actor = i; command = c.number; kind = h.kind } in
          let k = is_chosen e (record {
            actor = a;
            command = c;
            is_actor = found;
            is_command = now;
            number = refl;
            kind = h.is_next;
            may = may;
          }) in
          let nothing : slice_get [] k.0 ≡ Some e = ap (λ (es : List Event). slice_get es k.0) (sym none) ∙ k.1 in
          absurd (cc (nothing))

  pub has_choices : HasChoices s w
  has_choices = record {
    next = next_is;
    each = each_from w.actors 0 (λ j i a is at_. subst (λ (k : ℕ). slice_get w.actors k ≡ Some a)
        (let p : j ≡ i = omega (arith, is) in p) at_);
    every = is_chosen;
    none = none_chosen;
  }

pub choices_are_next : NextIsAllowed → ChoicesAreNext
choices_are_next law s w new sound steady = has_choices s w (law s w new sound steady)
