-- What several of the proofs here need of options, tests and lists; and a step put together: an event is allowed exactl
-- What several of the proofs here need of options, tests and lists; and a step put together: an event is allowed exactly
-- where its row is there and can be done.
use Rattle.std.proofs.Common.{◌≡◌, ◌⊎◌, ℕ, zero, suc, List, [], ◌∷◌, map, Bool, true, false, Option, Some, None, inl, inr, refl, sym, ap, ◌∙◌, subst, true≢false, option_map}
use Rattle.std.specs.Prelude.{if◌then◌else◌, ◌==◌, ◌&&◌, is_none, is_some, slice_get}
use Rattle.std.specs.List.{AllByRecursion}
use Rattle.std.specs.Option.{option_map_or}
use Rattle.tap_ground.specs.Options.{◌>>=◌, only_if}
use Rattle.tap_world.specs.ByNumber.{at}
use Rattle.tap_world.specs.declared.event.Event.{Event}
use Rattle.tap_world.specs.declared.event.EventKind.{EventKind}
use Rattle.tap_world.specs.declared.event.Heard.{Heard}
use Rattle.tap_world.specs.Setup.{Numbered, Setup}
use Rattle.tap_world.specs.World.{Actor, World, current}
use Rattle.tap_world.specs.Effect.{Effect, ending, files_after, guests_after, heard_by, settled, with_effect}
use Rattle.tap_world.specs.Scripts.{is_kind, kind_number, next_kind}
use Rattle.tap_world.specs.Step.{is_allowed, row, row_of, step, stepped}
use Rattle.tap_world.specs.Stands.{are_new, names_of}
use Rattle.tap_sound.proofs.Kit.{some_same}
use Rattle.tap_sound.proofs.Turned.{itself}
use Rattle.tap_waits.specs.Next.{HasNewNames}

-- ---- options and tests: what there is, and both of two tests

pub is_there : {A : Type 0} (o : Option A) → is_some o ≡ true → (x : A) × (o ≡ Some x)
is_there None e = absurd (true≢false (sym e))
is_there (Some x) e = (x, refl)

pub true_or_false : (b : Bool) → (b ≡ true) ⊎ (b ≡ false)
true_or_false true = inl refl
true_or_false false = inr refl

pub some_of : {A B : Type 0} (o : Option A) (f : A → B) → is_some (o >>= (λ x. Some (f x))) ≡ is_some o
some_of None f = refl
some_of (Some x) f = refl

pub and_both : (a b : Bool) → a ≡ true → b ≡ true → (a && b) ≡ true
and_both true true e f = refl
and_both true false e f = absurd (true≢false (sym f))
and_both false b e f = absurd (true≢false (sym e))

-- ---- lists by number: what has a number in one of two lists that agree has it in the other

pub some_mapped : {A B : Type 0} (g : A → B) (o : Option A) → is_some (option_map g o) ≡ is_some o
some_mapped g None = refl
some_mapped g (Some x) = refl

pub none_mapped : {A B : Type 0} (g : A → B) (o : Option A) → is_none (option_map g o) ≡ is_none o
none_mapped g None = refl
none_mapped g (Some x) = refl

pub at_map : {A B : Type 0} (g : A → B) (xs : List (Option A)) (n : ℕ)
    → at (map (λ (o : Option A). option_map g o) xs) n ≡ option_map g (at xs n)
at_map g [] n = refl
at_map g (x ∷ xs) zero = refl
at_map g (x ∷ xs) (suc n) = at_map g xs n

pub there_in : {A B : Type 0} (g : A → B) (xs : List (Option A)) (ys : List (Option B)) (n : ℕ)
    → map (λ (o : Option A). option_map g o) xs ≡ ys → is_some (at ys n) ≡ true → (x : A) × (at xs n ≡ Some x)
there_in g xs ys n e h =
    is_there (at xs n) (sym (some_mapped g (at xs n)) ∙ ap (λ o. is_some o) (sym (at_map g xs n))
    ∙ ap (λ zs. is_some (at zs n)) e ∙ h)

pub is_in_map : {A B : Type 0} (g : A → B) (xs : List (Option A)) (n : ℕ) → is_some (at xs n) ≡ true
    → is_some (at (map (λ (o : Option A). option_map g o) xs) n) ≡ true
is_in_map g xs n h = ap (λ o. is_some o) (at_map g xs n) ∙ some_mapped g (at xs n) ∙ h

-- what is so of all commands of a script is so of the current one
pub first_of : (P : Numbered → Type 0) (cs : List Numbered) (c : Numbered) → AllByRecursion P cs
    → current cs ≡ Some c → P c
first_of P [] c h e = absurd (cc (e))
first_of P (x ∷ xs) c h e = subst P (some_same x c e) h.0

-- ---- a row that is done

-- the effect can be done: its file can change so, and its guest is there
abbrev pub can_do : World → ℕ → ℕ → Effect → Bool
can_do w i n r = is_some (files_after r.files w.files) && is_some (guests_after i n r.guests w.guests)

abbrev pub does : World → ℕ → ℕ → Option Effect → Bool
does w i n o = option_map_or (can_do w i n) o false

both_some : {A B C : Type 0} (o : Option A) (p : Option B) (f : A → B → C)
    → is_some (o >>= (λ x. p >>= (λ y. Some (f x y)))) ≡ (is_some o && is_some p)
both_some None p f = refl
both_some (Some x) None f = refl
both_some (Some x) (Some y) f = refl

pub if_true : {A : Type 0} (a b : Bool) (o : Option A) → a ≡ true → b ≡ true → (if a && b then o else None) ≡ o
if_true true true o e f = refl
if_true true false o e f = absurd (true≢false (sym f))
if_true false b o e f = absurd (true≢false (sym e))

abbrev row_at : Setup → World → Event → Actor → Numbered → Option Effect
row_at s w e a c =
    if c.number == e.command && is_kind e.kind (next_kind w a.doing c.command) then row s w e.kind e.actor a c.number
    c.command else None

row_is_at : (s : Setup) (w : World) (i : ℕ) (a : Actor) (c : Numbered) (kind : EventKind)
    → slice_get w.actors i ≡ Some a → current a.script ≡ Some c
    → next_kind w a.doing c.command ≡ Some kind → row_of s w (record { actor = i; command = c.number; kind = kind })
    ≡ row s w kind i a c.number c.command
row_is_at s w i a c kind found now next =
    let e : Event = record { actor = i; command = c.number; kind = kind } in
    ap (λ (o : Option Actor). o >>= (λ b. current b.script >>= (λ d. row_at s w e b d))) found
    ∙ ap (λ (o : Option Numbered). o >>= (λ d. row_at s w e a d)) now
    ∙ if_true (c.number == c.number) (is_kind kind (next_kind w a.doing c.command))
    (row s w kind i a c.number c.command) (itself c.number)
    (ap (λ (o : Option EventKind). is_kind kind o) next ∙ itself (kind_number kind))

done_is : (w : World) (i : ℕ) (a : Actor) (n : ℕ) (r : Effect) (e : Event)
    → is_some {T = World × Heard}
    (with_effect r i a n w >>= (λ v. Some (settled v (ending v), heard_by e.actor r.onward (ending v))))
    ≡ can_do w i n r
done_is w i a n r e = some_of (with_effect r i a n w) _ ∙ both_some (files_after r.files w.files)
    (guests_after i n r.guests w.guests) _

-- where no event is refused for its names, the next one is allowed exactly where its row can be done
pub allowed_is : (s : Setup) (w : World) (i : ℕ) (a : Actor) (c : Numbered) (kind : EventKind) → HasNewNames s w
    → slice_get w.actors i ≡ Some a
    → current a.script ≡ Some c → next_kind w a.doing c.command ≡ Some kind
    → is_allowed s w (record { actor = i; command = c.number; kind = kind }) ≡ does w i c.number
    (row s w kind i a c.number c.command)
allowed_is s w i a c kind new found now next = go (row s w kind i a c.number c.command)
    (row_is_at s w i a c kind found now next)
  where
    go : (o : Option Effect) → row_of s w (record { actor = i; command = c.number; kind = kind }) ≡ o
        → is_some (step s w (record { actor = i; command = c.number; kind = kind })) ≡ does w i c.number o
    go None is =
        let e : Event = record { actor = i; command = c.number; kind = kind } in
        ap (λ (q : Option Effect). is_some ((q >>= (λ r. only_if (are_new w (names_of r)) r))
        >>= (λ r. slice_get w.actors i >>= (λ b. stepped r e b w)))) is
    go (Some r) is =
        let e : Event = record { actor = i; command = c.number; kind = kind } in
        ap (λ (q : Option Effect). is_some (q >>= (λ x. slice_get w.actors i >>= (λ b. stepped x e b w)))) (new e r is)
        ∙ ap (λ (q : Option Actor). is_some (q >>= (λ b. stepped r e b w))) found
        ∙ done_is w i a c.number r e
