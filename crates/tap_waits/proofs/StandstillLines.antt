-- What is found in lists and lines: the actor that a test finds, and the claimed place that a purge or a resize meets.
use Rattle.std.proofs.Common.{◌≡◌, ℕ, suc, ◌<◌, List, [], ◌∷◌, Bool, true, false, Option, Some, None, ⊎_elim, refl, sym, ap, ◌∙◌, subst, true≢false, option_map, arith}
use Rattle.std.specs.Prelude.{if◌then◌else◌, ◌+◌, ◌&&◌, ◌||◌, is_none, is_some, nat_lt, slice_get}
use Rattle.std.specs.List.{list_all, list_any}
use Rattle.std.proofs.lemmas.Bool.Decides.{leb_tells}
use Rattle.tap_ground.specs.Options.{◌>>=◌, only_if}
use Rattle.tap_world.specs.Line.{entry_ready, first_that, in_batch, in_ring, is_claimed, is_kept, is_ready}
use Rattle.tap_world.specs.LineSteps.{ready_front}
use Rattle.tap_world.specs.declared.line.Entry.{Entry}
use Rattle.tap_world.specs.declared.line.Standing.{Standing}
use Rattle.tap_world.specs.declared.line.Standing.TheVariants.{Batched, Claimed, Cut, Out, Ready}
use Rattle.tap_sound.proofs.Kit.{WhereSome, where_some}
use Rattle.tap_waits.proofs.Kit.{is_there, none_mapped, some_mapped}

-- ---- options and tests

pub isnt_none : {A : Type 0} (o : Option A) → is_none o ≡ false → (x : A) × (o ≡ Some x)
isnt_none None e = absurd (true≢false e)
isnt_none (Some x) e = (x, refl)

pub less_than : (a b : ℕ) → nat_lt a b ≡ true → a < b
less_than a b e = ⊎_elim (λ t. t.1) (λ t. absurd (true≢false (sym e ∙ t.0))) (leb_tells (suc a) b)

-- ---- lists

-- the one that a test holds of, and the one that it doesn't hold of
pub record IsFound {A : Type 0} (test : A → Bool) (b : Bool) (xs : List A) : Type 0 where
  pub index : ℕ
  pub item : A
  pub is_there : slice_get xs index ≡ Some item
  pub is : test item ≡ b

behind : {A : Type 0} (test : A → Bool) (b : Bool) (x : A) (xs : List A) → IsFound test b xs → IsFound test b (x ∷ xs)
behind test b x xs h = record { index = suc h.index; item = h.item; is_there = h.is_there; is = h.is }

pub any_found : {A : Type 0} (test : A → Bool) (xs : List A) → list_any test xs ≡ true → IsFound test true xs
any_found test [] e = absurd (true≢false (sym e))
any_found test (x ∷ xs) e = go (test x) refl e (any_found test xs)
  where
    go : (b : Bool) → test x ≡ b → (b || list_any test xs) ≡ true → (list_any test xs ≡ true → IsFound test true xs) → IsFound test true (x ∷ xs)
    go true is h rest = record { index = 0; item = x; is_there = refl; is = is }
    go false is h rest = behind test true x xs (rest h)

pub not_all_found : {A : Type 0} (test : A → Bool) (xs : List A) → list_all test xs ≡ false → IsFound test false xs
not_all_found test [] e = absurd (true≢false e)
not_all_found test (x ∷ xs) e = go (test x) refl e (not_all_found test xs)
  where
    go : (b : Bool) → test x ≡ b → (b && list_all test xs) ≡ false → (list_all test xs ≡ false → IsFound test false xs) → IsFound test false (x ∷ xs)
    go true is h rest = behind test false x xs (rest h)
    go false is h rest = record { index = 0; item = x; is_there = refl; is = is }

-- ---- lines

abbrev pub Has : (Standing → Bool) → List Entry → ℕ → Type 0
Has test line i = (e : Entry) × (slice_get line i ≡ Some e) × (test e.stands ≡ true)

has_here : (test : Standing → Bool) (x : Entry) (xs : List Entry) (b : Bool) → test x.stands ≡ b → (o : Option ℕ) → WhereSome (Has test xs) o
    → WhereSome (Has test (x ∷ xs)) (if b then Some 0 else option_map (λ i. i + 1) o)
has_here test x xs true is o h = (x, refl, is)
has_here test x xs false is None h = tt
has_here test x xs false is (Some i) h = let next : suc i ≡ i + 1 = omega arith in subst (Has test (x ∷ xs)) next h

-- the first that stands so does
pub first_has : (test : Standing → Bool) (line : List Entry) → WhereSome (Has test line) (first_that test line)
first_has test [] = tt
first_has test (x ∷ xs) = has_here test x xs (test x.stands) refl (first_that test xs) (first_has test xs)

ring_here : (stands : Standing) (k b r : Option ℕ) → (is_none k ≡ false → is_some b ≡ false → is_some r ≡ true)
    → is_none (if is_kept stands then Some 0 else option_map (λ i. i + 1) k) ≡ false
    → is_some (if in_batch stands then Some 0 else option_map (λ i. i + 1) b) ≡ false
    → is_some (if in_ring stands then Some 0 else option_map (λ i. i + 1) r) ≡ true
ring_here (Claimed actor) k b r h kept batch = refl
ring_here Ready k b r h kept batch = refl
ring_here Batched k b r h kept batch = absurd (true≢false batch)
ring_here (Out fate) k b r h kept batch = some_mapped _ r ∙ h (sym (none_mapped _ k) ∙ kept) (sym (some_mapped _ b) ∙ batch)
ring_here Cut k b r h kept batch = some_mapped _ r ∙ h (sym (none_mapped _ k) ∙ kept) (sym (some_mapped _ b) ∙ batch)

-- where something waits, and not in the batch, it waits in the ring
waits_in_ring : (line : List Entry) → is_none (first_that is_kept line) ≡ false → is_some (first_that in_batch line) ≡ false → is_some (first_that in_ring line) ≡ true
waits_in_ring [] kept batch = absurd (true≢false kept)
waits_in_ring (x ∷ xs) kept batch =
    ring_here x.stands (first_that is_kept xs) (first_that in_batch xs) (first_that in_ring xs) (waits_in_ring xs) kept batch

-- a place that is claimed, and not put
pub record HasClaimed (line : List Entry) : Type 0 where
  pub index : ℕ
  pub actor : ℕ
  pub entry : Entry
  pub is_there : slice_get line index ≡ Some entry
  pub claimed : entry.stands ≡ Claimed actor

claimed_by : (stands : Standing) → is_claimed stands ≡ true → (actor : ℕ) × (stands ≡ Claimed actor)
claimed_by (Claimed actor) e = (actor, refl)
claimed_by stands e = absurd (true≢false (sym e))

not_ready_by : (stands : Standing) → in_ring stands ≡ true → is_ready stands ≡ false → (actor : ℕ) × (stands ≡ Claimed actor)
not_ready_by (Claimed actor) ring ready = (actor, refl)
not_ready_by Ready ring ready = absurd (true≢false ready)
not_ready_by stands ring ready = absurd (true≢false (sym ring))

pub claim_in : (line : List Entry) → is_some (first_that is_claimed line) ≡ true → HasClaimed line
claim_in line e =
    let first = is_there (first_that is_claimed line) e in
    let has = where_some (Has is_claimed line) (first_that is_claimed line) first.0 (first_has is_claimed line) first.1 in
    let by = claimed_by has.0.stands has.2 in
    record { index = first.0; actor = by.0; entry = has.0; is_there = has.1; claimed = by.1 }

unmet : {A : Type 0} (b : Bool) (x : A) → is_some (only_if b x) ≡ false → b ≡ false
unmet true x e = absurd (true≢false e)
unmet false x e = refl

-- where something waits, and nothing of it in the batch nor ready in front of the ring, a place is claimed there
pub claim_in_front : (line : List Entry) → is_none (first_that is_kept line) ≡ false → is_some (first_that in_batch line) ≡ false → is_some (ready_front line) ≡ false → HasClaimed line
claim_in_front line kept batch ready =
    let first = is_there (first_that in_ring line) (waits_in_ring line kept batch) in
    let has = where_some (Has in_ring line) (first_that in_ring line) first.0 (first_has in_ring line) first.1 in
    let none : is_some (entry_ready (Some has.0) first.0) ≡ false =
    sym (ap (λ (o : Option ℕ). is_some (o >>= (λ i. entry_ready (slice_get line i) i))) first.1
    ∙ ap (λ (o : Option Entry). is_some (entry_ready o first.0)) has.1) ∙ ready in
    let by = not_ready_by has.0.stands has.2 (unmet (is_ready has.0.stands) first.0 none) in
    record { index = first.0; actor = by.0; entry = has.0; is_there = has.1; claimed = by.1 }
