-- Lines and lists by number, later.
use Rattle.std.proofs.Common.{◌≡◌, ℕ, zero, suc, ◌+◌, ◌≤◌, ◌<◌, List, [], ◌∷◌, ◌++◌, length, Bool, true, false, true≢false, Option, Some, None, refl, sym, ap, ◌∙◌, subst, arith}
use Rattle.std.specs.Prelude.{if◌then◌else◌, option_map, slice_get}
use Rattle.std.specs.Option.{option_map_or}
use Rattle.tap_world.specs.declared.line.Entry.{Entry}
use Rattle.tap_world.specs.declared.line.Standing.{Standing}
use Rattle.tap_world.specs.declared.line.Standing.TheVariants.{Batched, Claimed, Cut, Out, Ready}
use Rattle.tap_world.specs.ByNumber.{at, with_at}
use Rattle.tap_world.specs.Line.{count, first_that, in_ring, is_kept, is_ready, last_that, or_here}
use Rattle.tap_world.specs.LineSteps.{filled, ready_front, restand}
use Rattle.tap_sound.proofs.Kit.{only_some, some_same, then_some}
use Rattle.tap_grows.specs.Grows.{Advances, IsLater, Stay}
use Rattle.tap_grows.proofs.Orders.{later_itself, later_on}

-- ---- what has a number, with another in its place

pub stay_with_at : {A : Type 0} (R : A → A → Type 0) → ((x : A) → R x x) → (n : ℕ) (x new : A) (xs : List (Option A))
    → at xs n ≡ Some x → R x new → Stay R xs (with_at n new xs)
stay_with_at R same n x new [] is r k y h = absurd (cc (h))
stay_with_at R same zero x new (z ∷ zs) is r zero y h =
    (new, refl, subst (λ (q : _). R q new) (some_same x y (sym is ∙ h)) r)
stay_with_at R same zero x new (z ∷ zs) is r (suc k) y h = (y, h, same y)
stay_with_at R same (suc n) x new (z ∷ zs) is r zero y h = (y, h, same y)
stay_with_at R same (suc n) x new (z ∷ zs) is r (suc k) y h = stay_with_at R same n x new zs is r k y h

-- ---- places in a list with more behind it

pub at_front : {A : Type 0} (xs ys : List A) (i : ℕ) (x : A) → slice_get xs i ≡ Some x → slice_get (xs ++ ys) i ≡ Some x
at_front [] ys i x e = absurd (cc (e))
at_front (y ∷ xs) ys zero x e = e
at_front (y ∷ xs) ys (suc i) x e = at_front xs ys i x e

-- ---- lines, entry by entry

-- each entry of a line is there later
abbrev pub AreLater : List Entry → List Entry → Type 0
AreLater xs ys = (i : ℕ) (d : Entry) → slice_get xs i ≡ Some d → (e : Entry) × (slice_get ys i ≡ Some e) × IsLater d e

pub are_later_on : (xs ys zs : List Entry) → AreLater xs ys → AreLater ys zs → AreLater xs zs
are_later_on xs ys zs h k i d is =
    let x = h i d is in
    let y = k i x.0 x.1 in
    (y.0, y.1, later_on d x.0 y.0 x.2 y.2)

-- where there is a first entry, there is one later
heads : (d : Entry) (ds ys : List Entry) → AreLater (d ∷ ds) ys
    → (e : Entry) × (es : List Entry) × (ys ≡ e ∷ es) × IsLater d e × AreLater ds es
heads d ds [] h = let x = h 0 d refl in absurd (cc (x.1))
heads d ds (e ∷ es) h =
    let x = h 0 d refl in
    (e, es, refl, subst (IsLater d) (sym (some_same e x.0 x.1)) x.2, λ i. h (suc i))

pub longer : (xs ys : List Entry) → AreLater xs ys → length xs ≤ length ys
longer [] ys h = omega arith
longer (d ∷ ds) ys h =
    let t = heads d ds ys h in
    let more = longer ds t.1 t.4 in
    let is = ap (λ (l : List Entry). length l) t.2 in omega (arith, more, is)

-- what passes a test still does: no fewer do
pub more_pass : (test : Standing → Bool) → ((a b : Standing) → Advances a b → test a ≡ true → test b ≡ true)
    → (xs ys : List Entry) → AreLater xs ys → count test xs ≤ count test ys
more_pass test up [] ys h = omega arith
more_pass test up (d ∷ ds) ys h =
    let t = heads d ds ys h in
    let more = more_pass test up ds t.1 t.4 in
    let is = ap (count test) t.2 in
    let one = ones (test d.stands) (test t.0.stands) (up d.stands t.0.stands t.3.stands) in
    omega (arith, more, is, one)
  where
    ones : (a b : Bool) → (a ≡ true → b ≡ true) → (if a then 1 else 0) ≤ (if b then 1 else 0)
    ones true true k = omega arith
    ones true false k = absurd (true≢false (sym (k refl)))
    ones false true k = omega arith
    ones false false k = omega arith

-- ---- where nothing waits below

-- the place in the list of the first that waits, and the list's length where none does
abbrev pub kept_from : List Entry → ℕ
kept_from line = option_map_or (λ i. i) (first_that is_kept line) (length line)

kept_next : (e : Entry) (es : List Entry) → kept_from (e ∷ es) ≡ (if is_kept e.stands then 0 else suc (kept_from es))
kept_next e es = go (is_kept e.stands) (first_that is_kept es)
  where
    go : (b : Bool) (o : Option ℕ)
        → option_map_or (λ i. i) (if b then Some 0 else option_map (λ i. i + 1) o) (suc (length es))
        ≡ (if b then 0 else suc (option_map_or (λ i. i) o (length es)))
    go true o = refl
    go false None = refl
    go false (Some i) = omega arith

-- what stands before that place is gone, and it is no place behind the line
pub gone_below : (line : List Entry) (i : ℕ) (e : Entry) → slice_get line i ≡ Some e → i < kept_from line
    → is_kept e.stands ≡ false
gone_below [] i e get less = absurd (cc (get))
gone_below (x ∷ xs) zero e get less =
    ap (λ (y : Entry). is_kept y.stands) (sym (some_same x e get))
    ∙ go (is_kept x.stands) (subst (λ (n : ℕ). 0 < n) (kept_next x xs) less)
  where
    go : (b : Bool) → 0 < (if b then 0 else suc (kept_from xs)) → b ≡ false
    go true h = absurd (omega (arith, h))
    go false h = refl
gone_below (x ∷ xs) (suc i) e get less =
    gone_below xs i e get (go (is_kept x.stands) (subst (λ (n : ℕ). suc i < n) (kept_next x xs) less))
  where
    go : (b : Bool) → suc i < (if b then 0 else suc (kept_from xs)) → i < kept_from xs
    go true h = absurd (omega (arith, h))
    go false h = omega (arith, h)

pub kept_to : (line : List Entry) → kept_from line ≤ length line
kept_to [] = omega arith
kept_to (x ∷ xs) =
    let is = kept_next x xs in
    let rest = kept_to xs in
    let le = go (is_kept x.stands) (kept_from xs) (length xs) rest in
    omega (arith, is, le)
  where
    go : (b : Bool) (m n : ℕ) → m ≤ n → (if b then 0 else suc m) ≤ suc n
    go true m n le = omega arith
    go false m n le = omega (arith, le)

-- what is gone stays gone
gone_stays : (a b : Standing) → Advances a b → is_kept a ≡ false → is_kept b ≡ false
gone_stays (Claimed actor) b h k = absurd (true≢false k)
gone_stays Ready b h k = absurd (true≢false k)
gone_stays Batched b h k = absurd (true≢false k)
gone_stays (Out fate) b h k = ap is_kept h
gone_stays Cut b h k = ap is_kept h

pub kept_rises : (xs ys : List Entry) → AreLater xs ys → kept_from xs ≤ kept_from ys
kept_rises [] ys h = omega arith
kept_rises (d ∷ ds) ys h =
    let t = heads d ds ys h in
    let more = kept_rises ds t.1 t.4 in
    let is : kept_from ys ≡ (if is_kept t.0.stands then 0 else suc (kept_from t.1)) =
    ap kept_from t.2 ∙ kept_next t.0 t.1 in
    let was = kept_next d ds in
    let step = steps (is_kept d.stands) (is_kept t.0.stands) (kept_from ds) (kept_from t.1)
    (gone_stays d.stands t.0.stands t.3.stands) more in
    omega (arith, is, was, step)
  where
    steps : (a b : Bool) (m n : ℕ) → (a ≡ false → b ≡ false) → m ≤ n → (if a then 0 else suc m) ≤ (if b then 0 else suc n)
    steps true true m n k le = omega arith
    steps true false m n k le = omega arith
    steps false true m n k le = absurd (true≢false (k refl))
    steps false false m n k le = omega (arith, le)

-- ---- an entry that stands elsewhere, and one more

pub restand_later : (i : ℕ) (s : Standing) (line : List Entry)
    → ((e : Entry) → slice_get line i ≡ Some e → Advances e.stands s) → AreLater line (restand i s line)
restand_later i s [] may k d is = absurd (cc (is))
restand_later zero s (e ∷ es) may zero d is = (
  record e { stands = s },
  refl,
  subst (λ (x : Entry). IsLater x (record e { stands = s })) (some_same e d is)
      (record { name = refl; epoch = refl; len = refl; stands = may e refl }),
)
restand_later zero s (e ∷ es) may (suc k) d is = (d, is, later_itself d)
restand_later (suc i) s (e ∷ es) may zero d is = (d, is, later_itself d)
restand_later (suc i) s (e ∷ es) may (suc k) d is = restand_later i s es may k d is

pub more_later : (line more : List Entry) → AreLater line (line ++ more)
more_later line more i d is = (d, at_front line more i d is, later_itself d)

-- ---- where the first and the last are that pass a test

no_zero : (o : Option ℕ) → option_map (λ i. i + 1) o ≡ Some 0 → ⊥
no_zero None e = cc (e)
no_zero (Some k) e = let same = some_same (k + 1) 0 e in omega (arith, same)

one_down : (o : Option ℕ) (i : ℕ) → option_map (λ k. k + 1) o ≡ Some (suc i) → o ≡ Some i
one_down None i e = absurd (cc (e))
one_down (Some k) i e = let same = some_same (k + 1) (suc i) e in ap (λ n. Some n) (let z : k ≡ i = omega (arith, same) in z)

pub first_passes : (test : Standing → Bool) (line : List Entry) (i : ℕ) → first_that test line ≡ Some i
    → (e : Entry) → slice_get line i ≡ Some e → test e.stands ≡ true
first_passes test [] i h e get = absurd (cc (get))
first_passes test (x ∷ xs) zero h e get = go (test x.stands) refl h
  where
    go : (b : Bool) → test x.stands ≡ b → (if b then Some 0 else option_map (λ k. k + 1) (first_that test xs)) ≡ Some 0
        → test e.stands ≡ true
    go true is q = ap (λ (y : Entry). test y.stands) (sym (some_same x e get)) ∙ is
    go false is q = absurd (no_zero (first_that test xs) q)
first_passes test (x ∷ xs) (suc i) h e get = go (test x.stands) h (λ k. first_passes test xs i k e get)
  where
    go : (b : Bool) → (if b then Some 0 else option_map (λ k. k + 1) (first_that test xs)) ≡ Some (suc i)
        → (first_that test xs ≡ Some i → test e.stands ≡ true) → test e.stands ≡ true
    go true q rest = let same = some_same 0 (suc i) q in absurd (omega (arith, same))
    go false q rest = rest (one_down (first_that test xs) i q)

pub last_passes : (test : Standing → Bool) (line : List Entry) (i : ℕ) → last_that test line ≡ Some i
    → (e : Entry) → slice_get line i ≡ Some e → test e.stands ≡ true
last_passes test [] i h e get = absurd (cc (get))
last_passes test (x ∷ xs) zero h e get = go (last_that test xs) h
  where
    go : (o : Option ℕ) → or_here (test x.stands) o ≡ Some 0 → test e.stands ≡ true
    go (Some k) q = let same = some_same (k + 1) 0 q in absurd (omega (arith, same))
    go None q = ap (λ (y : Entry). test y.stands) (sym (some_same x e get)) ∙ (only_some (test x.stands) 0 0 q).0
last_passes test (x ∷ xs) (suc i) h e get = go (last_that test xs) h (λ k. last_passes test xs i k e get)
  where
    go : (o : Option ℕ) → or_here (test x.stands) o ≡ Some (suc i) → (o ≡ Some i → test e.stands ≡ true)
        → test e.stands ≡ true
    go (Some k) q rest =
        let same = some_same (k + 1) (suc i) q in
        rest (ap (λ n. Some n) (let z : k ≡ i = omega (arith, same) in z))
    go None q rest =
        let same = (only_some (test x.stands) 0 (suc i) q).1 in absurd (omega (arith, same))

-- the ring's front is ready, where there is a ready front
pub ready_passes : (line : List Entry) (i : ℕ) → ready_front line ≡ Some i → (e : Entry) → slice_get line i ≡ Some e
    → is_ready e.stands ≡ true
ready_passes line i h e get =
    let t = then_some (first_that in_ring line) _ i h in
    let o = only_some _ t.0 i t.2 in
    ap (λ (x : Option Entry). option_map_or (λ (y : Entry). is_ready y.stands) x false)
    (sym (ap (slice_get line) o.1 ∙ get)) ∙ o.0

-- fronts that go to the batch
ready_advances : (s : Standing) → is_ready s ≡ true → Advances s Batched
ready_advances (Claimed actor) h = tt
ready_advances Ready h = tt
ready_advances Batched h = tt
ready_advances (Out fate) h = absurd (true≢false (sym h))
ready_advances Cut h = absurd (true≢false (sym h))

pub front_later : (line : List Entry) (i : ℕ) → ready_front line ≡ Some i → AreLater line (restand i Batched line)
front_later line i is =
    restand_later i Batched line (λ e get. ready_advances e.stands (ready_passes line i is e get))

pub filled_later : (n : ℕ) (line : List Entry) → AreLater line (filled n line)
filled_later zero line = λ i d is. (d, is, later_itself d)
filled_later (suc n) line = go (ready_front line) refl (filled_later n)
  where
    go : (o : Option ℕ) → ready_front line ≡ o → ((l : List Entry) → AreLater l (filled n l))
        → AreLater line (option_map_or (λ i. filled n (restand i Batched line)) o line)
    go None is rest = λ i d get. (d, get, later_itself d)
    go (Some i) is rest =
        are_later_on line (restand i Batched line) _ (front_later line i is) (rest (restand i Batched line))
