-- Who holds the writer, or a ring's turn, after an event: as before, or the event takes it, keeps it or gives it back.
use Rattle.std.proofs.Common.{◌≡◌, ◌≢◌, ◌⊎◌, ℕ, zero, suc, List, [], ◌∷◌, Bool, true, false, Option, Some, None, inl, inr, ⊎_elim, refl, sym, ap, ◌∙◌, subst, true≢false, arith}
use Rattle.std.specs.Prelude.{◌==◌, is_some, slice_get}
use Rattle.std.specs.Option.{option_map_or}
use Rattle.std.proofs.lemmas.Bool.Decides.{eqb_tells}
use Rattle.tap_world.specs.ByNumber.{with_nth}
use Rattle.tap_world.specs.World.{Actor}
use Rattle.tap_sound.proofs.Kit.{some_same}

-- this actor holds it
abbrev pub is_at : ℕ → Option ℕ → Bool
is_at actor o = option_map_or (λ other. other == actor) o false

pub data Turned (me : ℕ) (before after : Option ℕ) (was is : Bool) : Type 0 where
  Rests : after ≡ before → is ≡ was → Turned me before after was is
  Takes : before ≡ None → after ≡ Some me → is ≡ true → Turned me before after was is
  Keeps : was ≡ true → after ≡ Some me → is ≡ true → Turned me before after was is
  Gives : was ≡ true → after ≡ None → is ≡ false → Turned me before after was is

pub itself : (n : ℕ) → (n == n) ≡ true
itself n = ⊎_elim (λ t. t.0) (λ t. absurd (t.1 refl)) (eqb_tells n n)

pub others : (a b : ℕ) → a ≢ b → (a == b) ≡ false
others a b no_ = ⊎_elim (λ t. absurd (no_ t.1)) (λ t. t.0) (eqb_tells a b)

pub at_is : (me : ℕ) (o : Option ℕ) → is_at me o ≡ true → o ≡ Some me
at_is me None e = absurd (true≢false (sym e))
at_is me (Some other) e = ⊎_elim (λ t. ap (λ (n : ℕ). Some n) t.1) (λ t. absurd (true≢false (sym e ∙ t.0))) (eqb_tells other me)

-- of the actor itself
pub held_on : (me : ℕ) (before after : Option ℕ) (was is : Bool) → Turned me before after was is → was ≡ is_at me before → is ≡ is_at me after
held_on me before after was is (Rests a i) h = i ∙ h ∙ ap (is_at me) (sym a)
held_on me before after was is (Takes b a i) h = i ∙ sym (itself me) ∙ ap (is_at me) (sym a)
held_on me before after was is (Keeps w a i) h = i ∙ sym (itself me) ∙ ap (is_at me) (sym a)
held_on me before after was is (Gives w a i) h = i ∙ ap (is_at me) (sym a)

-- of another
pub others_on : (me : ℕ) (before after : Option ℕ) (was is : Bool) → Turned me before after was is → was ≡ is_at me before → (i : ℕ) → me ≢ i → is_at i before ≡ is_at i after
others_on me before after was is (Rests a x) h i no_ = ap (is_at i) (sym a)
others_on me before after was is (Takes b a x) h i no_ = ap (is_at i) b ∙ sym (others me i no_) ∙ ap (is_at i) (sym a)
others_on me before after was is (Keeps w a x) h i no_ = ap (is_at i) (at_is me before (sym h ∙ w)) ∙ ap (is_at i) (sym a)
others_on me before after was is (Gives w a x) h i no_ = ap (is_at i) (at_is me before (sym h ∙ w)) ∙ others me i no_ ∙ ap (is_at i) (sym a)

-- ---- actors

pub with_nth_inv : {A : Type 0} (n : ℕ) (new : A) (xs : List A) (k : ℕ) (x : A) → slice_get (with_nth n new xs) k ≡ Some x
    → ((n ≡ k) × (new ≡ x)) ⊎ ((n ≢ k) × (slice_get xs k ≡ Some x))
with_nth_inv n new [] k x e = absurd (cc (e))
with_nth_inv zero new (y ∷ ys) zero x e = inl (refl, some_same new x e)
with_nth_inv zero new (y ∷ ys) (suc k) x e = inr (λ h. omega (arith, h), e)
with_nth_inv (suc n) new (y ∷ ys) zero x e = inr (λ h. omega (arith, h), e)
with_nth_inv (suc n) new (y ∷ ys) (suc k) x e = ⊎_elim (λ t. inl (ap suc t.0, t.1)) (λ t. inr (λ h. t.0 (omega (arith, h)), t.1)) (with_nth_inv n new ys k x e)

pub with_nth_there : {A : Type 0} (n : ℕ) (new : A) (xs : List A) (k : ℕ) → is_some (slice_get xs k) ≡ true → is_some (slice_get (with_nth n new xs) k) ≡ true
with_nth_there n new [] k e = e
with_nth_there zero new (y ∷ ys) zero e = refl
with_nth_there zero new (y ∷ ys) (suc k) e = e
with_nth_there (suc n) new (y ∷ ys) zero e = refl
with_nth_there (suc n) new (y ∷ ys) (suc k) e = with_nth_there n new ys k e

-- an actor in the place of another has what it needs, where each that has none is there
abbrev pub IsThere : List Actor → Option ℕ → Type 0
IsThere actors None = Unit {0}
IsThere actors (Some actor) = is_some (slice_get actors actor) ≡ true

pub there_on : (me : ℕ) (new a : Actor) (actors : List Actor) (before after : Option ℕ) (was is : Bool) → Turned me before after was is
    → slice_get actors me ≡ Some a → IsThere actors before → IsThere (with_nth me new actors) after
there_on me new a actors before after was is (Rests e x) at_ h = subst (IsThere (with_nth me new actors)) (sym e) (go before h)
  where
    go : (o : Option ℕ) → IsThere actors o → IsThere (with_nth me new actors) o
    go None k = tt
    go (Some n) k = with_nth_there me new actors n k
there_on me new a actors before after was is (Takes b e x) at_ h =
    subst (IsThere (with_nth me new actors)) (sym e) (with_nth_there me new actors me (ap (λ (o : Option Actor). is_some o) at_))
there_on me new a actors before after was is (Keeps w e x) at_ h =
    subst (IsThere (with_nth me new actors)) (sym e) (with_nth_there me new actors me (ap (λ (o : Option Actor). is_some o) at_))
there_on me new a actors before after was is (Gives w e x) at_ h = subst (IsThere (with_nth me new actors)) (sym e) tt
