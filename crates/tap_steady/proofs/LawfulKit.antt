-- This project's own: the table between two events, and that nobody holds the writer between phases.
use Rattle.std.proofs.Common.{◌≡◌, ℕ, List, [], ◌∷◌, ◌++◌, map, true, false, Option, Some, None, refl, sym, ap, ◌∙◌, subst, true≢false}
use Rattle.std.specs.Prelude.{◌==◌, is_some, slice_get}
use Rattle.std.specs.Option.{option_map_or}
use Rattle.tap_steer.specs.declared.operation.Op.{Op}
use Rattle.tap_steer.specs.Table.{Table}
use Rattle.tap_steer.specs.After.{after, after_all}
use Rattle.tap_world.specs.declared.event.Event.{Event}
use Rattle.tap_world.specs.declared.told.Published.{Published}
use Rattle.tap_world.specs.Setup.{Numbered, Setup, opening_table}
use Rattle.tap_world.specs.World.{Actor, Doing, World, current, table}
use Rattle.tap_world.specs.World.Doing.{Begun}
use Rattle.tap_world.specs.Runs.{has_ended}
use Rattle.tap_world.specs.Sound.{HaveActors, holds}
use Rattle.tap_world.specs.SoundActors.{CanBe, can_be, is_begun}
use Rattle.tap_world.specs.SoundRings.{IsActor}
use Rattle.tap_sound.proofs.Kept.{effect_ops}
use Rattle.tap_sound.proofs.Scripts.{ended_each}
use Rattle.tap_sound.proofs.Taken.{IsStep}
use Rattle.tap_sound.proofs.Turned.{itself}

-- ---- lists

pub maps : {A B : Type 0} (f : A → B) (xs ys : List A) → map f (xs ++ ys) ≡ map f xs ++ map f ys
maps f [] ys = refl
maps f (x ∷ xs) ys = ap (λ (l : List _). f x ∷ l) (maps f xs ys)

pub with_none : {A : Type 0} (xs : List A) → xs ++ [] ≡ xs
with_none [] = refl
with_none (x ∷ xs) = ap (λ (ys : List _). x ∷ ys) (with_none xs)

-- ---- the table

pub all_then : (t : Table) (xs ys : List Op) → after_all t (xs ++ ys) ≡ after_all (after_all t xs) ys
all_then t [] ys = refl
all_then t (x ∷ xs) ys = all_then (after t x) xs ys

-- the operations that an effect publishes, in the order published
abbrev pub published : World → ℕ → ℕ → List Op → List Published
published w actor n ops = map (λ (y : Op). record { phase = w.phase; actor = actor; command = n; op = y }) ops

pub their_ops : (w : World) (actor n : ℕ) (ops : List Op)
    → map (λ (p : Published). p.op) (published w actor n ops) ≡ ops
their_ops w actor n [] = refl
their_ops w actor n (x ∷ xs) = ap (λ (l : List Op). x ∷ l) (their_ops w actor n xs)

pub table_between : (s : Setup) (w : World) (x : Event) (u : World) (t : IsStep s w x u)
    → table s t.between ≡ after_all (table s w) t.effect.ops
table_between s w x u t =
    ap (λ (ops : List Published). after_all (opening_table s) (map (λ (p : Published). p.op) ops))
    (effect_ops t.effect x.actor t.actor x.command w t.between t.made)
    ∙ ap (after_all (opening_table s))
    (maps (λ (p : Published). p.op) w.ops (published w x.actor x.command t.effect.ops)
    ∙ ap (λ (l : List Op). map (λ (p : Published). p.op) w.ops ++ l) (their_ops w x.actor x.command t.effect.ops))
    ∙ all_then (opening_table s) (map (λ (p : Published). p.op) w.ops) t.effect.ops

-- ---- between phases

-- an actor without a command has begun none
pub has_begun : (a : Actor) → CanBe a → a.script ≡ [] → a.doing ≡ Begun
has_begun a can none =
    begun a.doing (subst (λ (q : List Numbered). option_map_or (λ (c : Numbered). can_be a.doing c.command) (current q)
    (is_begun a.doing) ≡ true) none can)
  where
    begun : (d : Doing) → is_begun d ≡ true → d ≡ Begun
    begun Begun e = refl
    begun d e = absurd (true≢false (sym e))

-- where all have ended, nobody holds the writer
pub none_writes : (w : World) → HaveActors w → has_ended w ≡ true → w.writer ≡ None
none_writes w h all_ended = go w.writer refl h.holders.0
  where
    go : (o : Option ℕ) → w.writer ≡ o → IsActor w o → w.writer ≡ None
    go None is there = is
    go (Some n) is there = found (slice_get w.actors n) refl there
      where
        found : (o : Option Actor) → slice_get w.actors n ≡ o → is_some o ≡ true → w.writer ≡ None
        found None at_ some = absurd (true≢false (sym some))
        found (Some a) at_ some =
            let begun = has_begun a (h.stand n a at_) (ended_each w.actors n a all_ended at_) in
            absurd (true≢false (sym (itself n)
            ∙ sym (ap (λ (o : Option ℕ). option_map_or (λ other. other == n) o false) is)
            ∙ sym (h.writer n a at_) ∙ ap holds begun))
