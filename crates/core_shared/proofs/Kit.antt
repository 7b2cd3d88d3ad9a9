-- This project's own: things by number, without what else is kept of them, and with another in a place.
use Rattle.std.proofs.Common.{◌≡◌, ◌≢◌, ◌⊎◌, ℕ, zero, suc, List, [], ◌∷◌, map, Option, Some, None, inl, inr, refl, sym, ap, ◌∙◌, subst, true≢false, arith}
use Rattle.std.specs.Prelude.{IfSome, IsSome, is_some, option_map}
use Rattle.tap_guests.specs.Side.{Side}
use Rattle.tap_lines.specs.Files.{files_of}
use Rattle.tap_lines.specs.Placed.{Placed}
use Rattle.tap_world.specs.ByNumber.{at, with_at}
use Rattle.tap_world.specs.Guests.{Vhost}
use Rattle.tap_world.specs.Line.{File}
use Rattle.tap_sound.proofs.Kit.{some_same}
use Rattle.core_shared.specs.Worlds.{vhosts_of}

-- ---- what is there

pub is_there : {A : Type 0} (o : Option A) (x : A) → o ≡ Some x → IsSome o
is_there o x e = ap (λ (p : Option _). is_some p) e

pub there : {A : Type 0} (o : Option A) → IsSome o → (x : A) × (o ≡ Some x)
there None h = absurd (true≢false (sym h))
there (Some x) h = (x, refl)

pub if_there : {A : Type 0} (o : Option A) (P : A → Type 0) (x : A) → o ≡ Some x → IfSome o P → P x
if_there None P x e h = absurd (cc (e))
if_there (Some y) P x e h = subst P (some_same y x e) h

pub if_any : {A : Type 0} (o : Option A) (P : A → Type 0) → ((x : A) → o ≡ Some x → P x) → IfSome o P
if_any None P f = tt
if_any (Some x) P f = f x refl

-- ---- what is made of each

pub made_at : {A B : Type 0} (h : A → B) (n : ℕ) (xs : List (Option A))
    → at (map (λ (x : Option A). option_map h x) xs) n ≡ option_map h (at xs n)
made_at h n [] = refl
made_at h zero (x ∷ xs) = refl
made_at h (suc n) (x ∷ xs) = made_at h n xs

pub made_with : {A B : Type 0} (h : A → B) (n : ℕ) (new : A) (xs : List (Option A))
    → map (λ (x : Option A). option_map h x) (with_at n new xs) ≡ with_at n (h new) (map (λ (x : Option A). option_map h x) xs)
made_with h n new [] = refl
made_with h zero new (x ∷ xs) = refl
made_with h (suc n) new (x ∷ xs) = ap (λ (l : List (Option _)). option_map h x ∷ l) (made_with h n new xs)

-- there where it was made
pub made_there : {A B : Type 0} (h : A → B) (o : Option A) → is_some (option_map h o) ≡ is_some o
made_there h None = refl
made_there h (Some x) = refl

pub made_from : {A B : Type 0} (h : A → B) (o : Option A) (y : B) → option_map h o ≡ Some y → (x : A) × (o ≡ Some x) × (h x ≡ y)
made_from h None y e = absurd (cc (e))
made_from h (Some x) y e = (x, refl, some_same (h x) y e)

-- ---- files and vhosts of the world

pub files_at : (n : ℕ) (files : List (Option Placed)) → at (files_of files) n ≡ option_map (λ (p : Placed). p.file) (at files n)
files_at n files = made_at (λ (p : Placed). p.file) n files

pub vhosts_at : (n : ℕ) (vhosts : List (Option Side)) → at (vhosts_of vhosts) n ≡ option_map (λ (v : Side). v.vhost) (at vhosts n)
vhosts_at n vhosts = made_at (λ (v : Side). v.vhost) n vhosts

pub file_at : (n : ℕ) (files : List (Option Placed)) (p : Placed) → at files n ≡ Some p → at (files_of files) n ≡ Some p.file
file_at n files p e = files_at n files ∙ ap (λ (o : Option Placed). option_map (λ (q : Placed). q.file) o) e

pub vhost_at : (n : ℕ) (vhosts : List (Option Side)) (v : Side) → at vhosts n ≡ Some v → at (vhosts_of vhosts) n ≡ Some v.vhost
vhost_at n vhosts v e = vhosts_at n vhosts ∙ ap (λ (o : Option Side). option_map (λ (q : Side). q.vhost) o) e

pub placed_at : (n : ℕ) (files : List (Option Placed)) (f : File) → at (files_of files) n ≡ Some f
    → (p : Placed) × (at files n ≡ Some p) × (p.file ≡ f)
placed_at n files f e = made_from (λ (p : Placed). p.file) (at files n) f (sym (files_at n files) ∙ e)

pub side_at : (n : ℕ) (vhosts : List (Option Side)) (v : Vhost) → at (vhosts_of vhosts) n ≡ Some v
    → (s : Side) × (at vhosts n ≡ Some s) × (s.vhost ≡ v)
side_at n vhosts v e = made_from (λ (s : Side). s.vhost) (at vhosts n) v (sym (vhosts_at n vhosts) ∙ e)

pub files_with : (n : ℕ) (new : Placed) (files : List (Option Placed)) → files_of (with_at n new files) ≡ with_at n new.file (files_of files)
files_with n new files = made_with (λ (p : Placed). p.file) n new files

pub vhosts_with : (n : ℕ) (new : Side) (vhosts : List (Option Side)) → vhosts_of (with_at n new vhosts) ≡ with_at n new.vhost (vhosts_of vhosts)
vhosts_with n new vhosts = made_with (λ (v : Side). v.vhost) n new vhosts

-- ---- another in a place: there it is the new one, elsewhere what it was

pub with_at_here : {A : Type 0} (n : ℕ) (new old : A) (xs : List (Option A)) → at xs n ≡ Some old → at (with_at n new xs) n ≡ Some new
with_at_here n new old [] e = absurd (cc (e))
with_at_here zero new old (y ∷ ys) e = refl
with_at_here (suc n) new old (y ∷ ys) e = with_at_here n new old ys e

pub with_at_else : {A : Type 0} (n : ℕ) (new : A) (xs : List (Option A)) (k : ℕ) → n ≢ k → at (with_at n new xs) k ≡ at xs k
with_at_else n new [] k ne = refl
with_at_else zero new (y ∷ ys) zero ne = absurd (ne refl)
with_at_else zero new (y ∷ ys) (suc k) ne = refl
with_at_else (suc n) new (y ∷ ys) zero ne = refl
with_at_else (suc n) new (y ∷ ys) (suc k) ne = with_at_else n new ys k (λ h. ne (ap suc h))

-- what stands at a place is the new one, or what it was
pub with_at_is : {A : Type 0} (n : ℕ) (new : A) (xs : List (Option A)) (k : ℕ) (x : A) → at (with_at n new xs) k ≡ Some x
    → ((n ≡ k) × (new ≡ x)) ⊎ ((n ≢ k) × (at xs k ≡ Some x))
with_at_is n new [] k x e = absurd (cc (e))
with_at_is zero new (y ∷ ys) zero x e = inl (refl, some_same new x e)
with_at_is zero new (y ∷ ys) (suc k) x e = inr (λ h. omega (arith, h), e)
with_at_is (suc n) new (y ∷ ys) zero x e = inr (λ h. omega (arith, h), e)
with_at_is (suc n) new (y ∷ ys) (suc k) x e =
    elim (with_at_is n new ys k x e) [ inl t ↦ inl (ap suc t.0, t.1) | inr t ↦ inr (λ h. t.0 (omega (arith, h)), t.1) ]

-- with the same one in its place nothing changes
pub with_at_same : {A : Type 0} (n : ℕ) (x : A) (xs : List (Option A)) → at xs n ≡ Some x → with_at n x xs ≡ xs
with_at_same n x [] e = refl
with_at_same zero x (y ∷ ys) e = ap (λ (o : Option _). o ∷ ys) (sym e)
with_at_same (suc n) x (y ∷ ys) e = ap (λ (l : List (Option _)). y ∷ l) (with_at_same n x ys e)

-- of two written one after another the last stands
pub with_at_twice : {A : Type 0} (n : ℕ) (x y : A) (xs : List (Option A)) → with_at n y (with_at n x xs) ≡ with_at n y xs
with_at_twice n x y [] = refl
with_at_twice zero x y (z ∷ zs) = refl
with_at_twice (suc n) x y (z ∷ zs) = ap (λ (l : List (Option _)). z ∷ l) (with_at_twice n x y zs)

-- two lists of which the same is made have things at the same numbers
pub same_there : {A B C : Type 0} (h : A → C) (k : B → C) (xs : List (Option A)) (ys : List (Option B))
    → map (λ (x : Option A). option_map h x) xs ≡ map (λ (y : Option B). option_map k y) ys → (n : ℕ)
    → is_some (at xs n) ≡ is_some (at ys n)
same_there h k xs ys e n =
    sym (made_there h (at xs n)) ∙ ap (λ (o : Option _). is_some o) (sym (made_at h n xs))
    ∙ ap (λ (l : List (Option _)). is_some (at l n)) e
    ∙ ap (λ (o : Option _). is_some o) (made_at k n ys) ∙ made_there k (at ys n)
