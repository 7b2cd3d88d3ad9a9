-- A line with one entry that stands elsewhere, or with one more.
use Rattle.std.proofs.Common.{◌≡◌, ◌⊎◌, ℕ, zero, suc, ◌+◌, ◌≤◌, ◌<◌, List, [], ◌∷◌, ◌++◌, length, Bool, true, false, Option, Some, None, inl, inr, ⊎_elim, refl, sym, ap, ◌∙◌, subst, true≢false, arith}
use Rattle.std.specs.Prelude.{if◌then◌else◌, slice_get, option_map}
use Rattle.std.specs.List.{AllByRecursion}
use Rattle.std.specs.Option.{option_map_or}
use Rattle.tap_ledger.specs.declared.fate.Fate.{Fate}
use Rattle.tap_world.specs.declared.line.Entry.{Entry}
use Rattle.tap_world.specs.declared.line.Standing.{Standing}
use Rattle.tap_world.specs.Line.{count, first_that, in_batch, in_ring, is_kept, last_that, or_here}
use Rattle.tap_world.specs.declared.line.Standing.TheVariants.{Batched, Claimed, Cut, Out, Ready}
use Rattle.tap_world.specs.LineSteps.{filled, ready_front, restand}
use Rattle.tap_world.specs.Sound.{ComesLast, InThreeParts, NeverFall, is_cut, rank}
use Rattle.tap_sound.proofs.Kit.{only_some, some_same, then_some}

-- ---- all entries

pub all_restand : (Q : Entry → Type 0) (i : ℕ) (s : Standing) (line : List Entry)
    → ((e : Entry) → slice_get line i ≡ Some e → Q e → Q (record e { stands = s })) → AllByRecursion Q line → AllByRecursion Q (restand i s line)
all_restand Q i s [] h a = tt
all_restand Q zero s (e ∷ es) h a = (h e refl a.0, a.1)
all_restand Q (suc i) s (e ∷ es) h a = (a.0, all_restand Q i s es h a.1)

pub all_more : (Q : Entry → Type 0) (line : List Entry) (e : Entry) → AllByRecursion Q line → Q e → AllByRecursion Q (line ++ e ∷ [])
all_more Q [] e a q = (q, tt)
all_more Q (x ∷ xs) e a q = (a.0, all_more Q xs e a.1 q)

pub all_weaker : (Q R : Entry → Type 0) (line : List Entry) → ((e : Entry) → Q e → R e) → AllByRecursion Q line → AllByRecursion R line
all_weaker Q R [] f a = tt
all_weaker Q R (x ∷ xs) f a = (f x a.0, all_weaker Q R xs f a.1)

pub all_at : (Q : Entry → Type 0) (line : List Entry) (i : ℕ) (e : Entry) → AllByRecursion Q line → slice_get line i ≡ Some e → Q e
all_at Q [] i e a h = absurd (cc (h))
all_at Q (x ∷ xs) zero e a h = subst Q (some_same x e h) a.0
all_at Q (x ∷ xs) (suc i) e a h = all_at Q xs i e a.1 h

-- ---- the first that passes a test

pub record IsFirst (test : Standing → Bool) (line : List Entry) (i : ℕ) : Type 0 where
  pub e : Entry
  pub here : slice_get line i ≡ Some e
  pub passes : test e.stands ≡ true
  pub before : (j : ℕ) (d : Entry) → j < i → slice_get line j ≡ Some d → test d.stands ≡ false

map_some : (o : Option ℕ) (i : ℕ) → option_map (λ k. k + 1) o ≡ Some i → (k : ℕ) × (o ≡ Some k) × (suc k ≡ i)
map_some None i e = absurd (cc (e))
map_some (Some k) i e = let same = some_same (k + 1) i e in (k, refl, omega (arith, same))

map_none : (o : Option ℕ) → option_map (λ k. k + 1) o ≡ None → o ≡ None
map_none None e = refl
map_none (Some k) e = absurd (cc (e))

pub first_is : (test : Standing → Bool) (line : List Entry) (i : ℕ) → first_that test line ≡ Some i → IsFirst test line i
first_is test [] i e = absurd (cc (e))
first_is test (x ∷ xs) i e = go (test x.stands) refl e (first_is test xs)
  where
    go : (b : Bool) → test x.stands ≡ b → (if b then Some 0 else option_map (λ k. k + 1) (first_that test xs)) ≡ Some i
        → ((k : ℕ) → first_that test xs ≡ Some k → IsFirst test xs k) → IsFirst test (x ∷ xs) i
    go true t h rest = subst (IsFirst test (x ∷ xs)) (some_same 0 i h) (record { e = x; here = refl; passes = t; before = λ j d lt g. absurd (omega (arith, lt)) })
    go false t h rest =
        let m = map_some (first_that test xs) i h in
        let r = rest m.0 m.1 in
        subst (IsFirst test (x ∷ xs)) m.2 (record { e = r.e; here = r.here; passes = r.passes; before = earlier r.before })
      where
        earlier : {k : ℕ} → ((j : ℕ) (d : Entry) → j < k → slice_get xs j ≡ Some d → test d.stands ≡ false)
            → (j : ℕ) (d : Entry) → j < suc k → slice_get (x ∷ xs) j ≡ Some d → test d.stands ≡ false
        earlier f zero d lt g = ap (λ (y : Entry). test y.stands) (sym (some_same x d g)) ∙ t
        earlier f (suc j) d lt g = f j d (omega (arith, lt)) g

pub none_is : (test : Standing → Bool) (line : List Entry) → first_that test line ≡ None → AllByRecursion (λ (e : Entry). test e.stands ≡ false) line
none_is test [] e = tt
none_is test (x ∷ xs) e = go (test x.stands) refl e (none_is test xs)
  where
    go : (b : Bool) → test x.stands ≡ b → (if b then Some 0 else option_map (λ k. k + 1) (first_that test xs)) ≡ None
        → (first_that test xs ≡ None → AllByRecursion (λ (e : Entry). test e.stands ≡ false) xs) → (test x.stands ≡ false) × AllByRecursion (λ (e : Entry). test e.stands ≡ false) xs
    go true t h rest = absurd (cc (h))
    go false t h rest = (t, rest (map_none _ h))

-- the ring's front, and that it is ready
pub front_is : (line : List Entry) (i : ℕ) → ready_front line ≡ Some i → IsFirst in_ring line i
front_is line i h =
    let t = then_some (first_that in_ring line) _ i h in
    let o = only_some _ t.0 i t.2 in
    subst (IsFirst in_ring line) o.1 (first_is in_ring line t.0 t.1)

-- the last that passes a test is there
pub last_is : (test : Standing → Bool) (line : List Entry) (i : ℕ) → last_that test line ≡ Some i → (e : Entry) × (slice_get line i ≡ Some e) × (test e.stands ≡ true)
last_is test [] i h = absurd (cc (h))
last_is test (x ∷ xs) i h = go (last_that test xs) (test x.stands) refl h (last_is test xs)
  where
    go : (o : Option ℕ) (b : Bool) → test x.stands ≡ b → or_here b o ≡ Some i → ((k : ℕ) → o ≡ Some k → (e : Entry) × (slice_get xs k ≡ Some e) × (test e.stands ≡ true))
        → (e : Entry) × (slice_get (x ∷ xs) i ≡ Some e) × (test e.stands ≡ true)
    go (Some k) b t g rest =
        let same = some_same (k + 1) i g in let r = rest k refl in let up : suc k ≡ i = omega (arith, same) in
        (r.0, subst (λ (n : ℕ). slice_get (x ∷ xs) n ≡ Some r.0) up r.1, r.2)
    go None true t g rest = let same = some_same 0 i g in (x, subst (λ (n : ℕ). slice_get (x ∷ xs) n ≡ Some x) same refl, t)
    go None false t g rest = absurd (cc (g))

-- ---- counts

abbrev pub one_if : Bool → ℕ
one_if b = if b then 1 else 0

pub count_more : (test : Standing → Bool) (line : List Entry) (e : Entry) → count test (line ++ e ∷ []) ≡ count test line + one_if (test e.stands)
count_more test [] e = omega arith
count_more test (x ∷ xs) e = omega (arith, count_more test xs e)

pub length_restand : (i : ℕ) (s : Standing) (line : List Entry) → length (restand i s line) ≡ length line
length_restand i s [] = refl
length_restand zero s (x ∷ xs) = refl
length_restand (suc i) s (x ∷ xs) = ap suc (length_restand i s xs)

pub count_restand : (test : Standing → Bool) (i : ℕ) (s : Standing) (line : List Entry) (e : Entry) → slice_get line i ≡ Some e
    → count test (restand i s line) + one_if (test e.stands) ≡ count test line + one_if (test s)
count_restand test i s [] e h = absurd (cc (h))
count_restand test zero s (x ∷ xs) e h = rw (ap (λ (o : Entry). one_if (test o.stands)) (some_same x e h)) (omega arith)
count_restand test (suc i) s (x ∷ xs) e h = omega (arith, count_restand test i s xs e h)

pub count_none : (test : Standing → Bool) (line : List Entry) → AllByRecursion (λ (e : Entry). test e.stands ≡ false) line → count test line ≡ 0
count_none test [] a = refl
count_none test (x ∷ xs) a = let r = count_none test xs a.1 in let h : one_if (test x.stands) ≡ 0 = ap one_if a.0 in omega (arith, r, h)

-- ---- the three parts

abbrev pub MayStand : ℕ → Standing → Type 0
MayStand r s = (is_cut s ≡ true) ⊎ (r ≤ rank s)

-- what stands before a place lets another stand there
abbrev pub Lets : ℕ → Standing → List Entry → Type 0
Lets i s line = (j : ℕ) (d : Entry) → j < i → slice_get line j ≡ Some d → (is_cut d.stands ≡ true) ⊎ MayStand (rank d.stands) s

comes_weaker : (r q : ℕ) (line : List Entry) → r ≤ q → ComesLast q line → ComesLast r line
comes_weaker r q [] le h = tt
comes_weaker r q (e ∷ es) le h = (⊎_elim (λ c. inl c) (λ l. inr (omega (arith, le, l))) h.0, comes_weaker r q es le h.1)

comes_restand : (r i : ℕ) (s : Standing) (line : List Entry) → MayStand r s → ComesLast r line → ComesLast r (restand i s line)
comes_restand r i s [] m h = tt
comes_restand r zero s (e ∷ es) m h = (m, h.1)
comes_restand r (suc i) s (e ∷ es) m h = (h.0, comes_restand r i s es m h.1)

comes_more : (r : ℕ) (line : List Entry) (e : Entry) → MayStand r e.stands → ComesLast r line → ComesLast r (line ++ e ∷ [])
comes_more r [] e m h = (m, tt)
comes_more r (x ∷ xs) e m h = (h.0, comes_more r xs e m h.1)

comes_at : (r : ℕ) (line : List Entry) (i : ℕ) (e : Entry) → ComesLast r line → slice_get line i ≡ Some e → MayStand r e.stands
comes_at r [] i e h g = absurd (cc (g))
comes_at r (x ∷ xs) zero e h g = subst (λ (y : Entry). MayStand r y.stands) (some_same x e g) h.0
comes_at r (x ∷ xs) (suc i) e h g = comes_at r xs i e h.1 g

pub parts_order : (line : List Entry) (j i : ℕ) (d e : Entry) → InThreeParts line → j < i → slice_get line j ≡ Some d → slice_get line i ≡ Some e
    → (is_cut d.stands ≡ true) ⊎ MayStand (rank d.stands) e.stands
parts_order [] j i d e p lt a b = absurd (cc (a))
parts_order (x ∷ xs) j zero d e p lt a b = absurd (omega (arith, lt))
parts_order (x ∷ xs) zero (suc i) d e p lt a b =
    subst (λ (y : Entry). (is_cut y.stands ≡ true) ⊎ MayStand (rank y.stands) e.stands) (some_same x d a)
    (⊎_elim (λ c. inl c) (λ h. inr (comes_at (rank x.stands) xs i e h b)) p.0)
parts_order (x ∷ xs) (suc j) (suc i) d e p lt a b = parts_order xs j i d e p.1 (omega (arith, lt)) a b

pub parts_restand : (i : ℕ) (s : Standing) (line : List Entry) (e : Entry) → slice_get line i ≡ Some e → Lets i s line
    → rank s ≤ rank e.stands → is_cut e.stands ≡ false → InThreeParts line → InThreeParts (restand i s line)
parts_restand i s [] e at lets le cut p = tt
parts_restand zero s (x ∷ xs) e at lets le cut p =
    let same = some_same x e at in
    let here : rank s ≤ rank x.stands = subst (λ (y : Entry). rank s ≤ rank y.stands) (sym same) le in
    (⊎_elim (λ c. absurd (true≢false (sym c ∙ ap (λ (y : Entry). is_cut y.stands) same ∙ cut))) (λ h. inr (comes_weaker (rank s) (rank x.stands) xs here h)) p.0, p.1)
parts_restand (suc i) s (x ∷ xs) e at lets le cut p = (
  ⊎_elim (λ c. inl c) (λ h. ⊎_elim (λ c. inl c) (λ m. inr (comes_restand (rank x.stands) i s xs m h)) (lets 0 x (omega arith) refl)) p.0,
  parts_restand i s xs e at (λ j d lt g. lets (suc j) d (omega (arith, lt)) g) le cut p.1,
)

pub parts_cut : (i : ℕ) (line : List Entry) → InThreeParts line → InThreeParts (restand i Cut line)
parts_cut i [] p = tt
parts_cut zero (x ∷ xs) p = (inl refl, p.1)
parts_cut (suc i) (x ∷ xs) p = (⊎_elim (λ c. inl c) (λ h. inr (comes_restand (rank x.stands) i Cut xs (inl refl) h)) p.0, parts_cut i xs p.1)

rank_most : (s : Standing) → rank s ≤ 2
rank_most (Claimed actor) = omega arith
rank_most Ready = omega arith
rank_most Batched = omega arith
rank_most (Out fate) = omega arith
rank_most Cut = omega arith

pub parts_more : (line : List Entry) (e : Entry) → rank e.stands ≡ 2 → InThreeParts line → InThreeParts (line ++ e ∷ [])
parts_more [] e two p = (inr tt, tt)
parts_more (x ∷ xs) e two p =
    let most = rank_most x.stands in
    (⊎_elim (λ c. inl c) (λ h. inr (comes_more (rank x.stands) xs e (inr (omega (arith, two, most))) h)) p.0, parts_more xs e two p.1)

-- ---- standings

pub ring_rank : (s : Standing) → in_ring s ≡ true → (rank s ≡ 2) × (is_cut s ≡ false) × (is_kept s ≡ true)
ring_rank (Claimed actor) e = (refl, refl, refl)
ring_rank Ready e = (refl, refl, refl)
ring_rank Batched e = absurd (true≢false (sym e))
ring_rank (Out fate) e = absurd (true≢false (sym e))
ring_rank Cut e = absurd (true≢false (sym e))

out_of_ring : (s : Standing) → in_ring s ≡ false → rank s ≤ 1
out_of_ring (Claimed actor) e = absurd (true≢false e)
out_of_ring Ready e = absurd (true≢false e)
out_of_ring Batched e = omega arith
out_of_ring (Out fate) e = omega arith
out_of_ring Cut e = omega arith

pub batch_is : (s : Standing) → in_batch s ≡ true → s ≡ Batched
batch_is (Claimed actor) e = absurd (true≢false (sym e))
batch_is Ready e = absurd (true≢false (sym e))
batch_is Batched e = refl
batch_is (Out fate) e = absurd (true≢false (sym e))
batch_is Cut e = absurd (true≢false (sym e))

gone_out : (s : Standing) → in_batch s ≡ false → rank s ≤ 1 → rank s ≤ 0
gone_out (Claimed actor) e le = absurd (omega (arith, le))
gone_out Ready e le = absurd (omega (arith, le))
gone_out Batched e le = absurd (true≢false e)
gone_out (Out fate) e le = omega arith
gone_out Cut e le = omega arith

-- ---- the moves of a line

pub parts_moved : (line : List Entry) (i : ℕ) → IsFirst in_ring line i → InThreeParts line → InThreeParts (restand i Batched line)
parts_moved line i h p =
    let r = ring_rank h.e.stands h.passes in
    let two = r.0 in
    parts_restand i Batched line h.e h.here (λ j d lt g. inr (inr (out_of_ring d.stands (h.before j d lt g)))) (omega (arith, two)) r.1 p

pub parts_out : (line : List Entry) (i : ℕ) (fate : Fate) → IsFirst in_batch line i → InThreeParts line → InThreeParts (restand i (Out fate) line)
parts_out line i fate h p =
    let b = batch_is h.e.stands h.passes in
    parts_restand i (Out fate) line h.e h.here
    (λ j d lt g. ⊎_elim (λ c. inl c) (λ m. ⊎_elim
    (λ c. absurd (true≢false (sym c ∙ ap is_cut b)))
    (λ le. inr (inr (gone_out d.stands (h.before j d lt g) (subst (λ (s : Standing). rank d.stands ≤ rank s) b le)))) m)
    (parts_order line j i d h.e p lt g h.here))
    (omega arith) (ap is_cut b) p

pub parts_put : (line : List Entry) (i actor : ℕ) (e : Entry) → slice_get line i ≡ Some e → e.stands ≡ Claimed actor → InThreeParts line → InThreeParts (restand i Ready line)
parts_put line i actor e at is p =
    let two : rank e.stands ≡ 2 = ap rank is in
    parts_restand i Ready line e at (λ j d lt g. inr (inr (rank_most d.stands))) (omega (arith, two)) (ap is_cut is) p

-- ---- up to 64 moves

pub filled_keeps : (P : List Entry → Type 0) → ((line : List Entry) (i : ℕ) → IsFirst in_ring line i → P line → P (restand i Batched line))
    → (n : ℕ) (line : List Entry) → P line → P (filled n line)
filled_keeps P step zero line h = h
filled_keeps P step (suc n) line h = go (ready_front line) refl (filled_keeps P step n)
  where
    go : (o : Option ℕ) → ready_front line ≡ o → ((l : List Entry) → P l → P (filled n l)) → P (option_map_or (λ i. filled n (restand i Batched line)) o line)
    go None is more = h
    go (Some i) is more = more (restand i Batched line) (step line i (front_is line i is) h)

-- ---- epochs

pub fall_restand : (i : ℕ) (s : Standing) (line : List Entry) → NeverFall line → NeverFall (restand i s line)
fall_restand i s [] h = tt
fall_restand zero s (x ∷ xs) h = h
fall_restand (suc i) s (x ∷ xs) h = (all_restand (λ (d : Entry). x.epoch ≤ d.epoch) i s xs (λ e at le. le) h.0, fall_restand i s xs h.1)

pub fall_more : (line : List Entry) (e : Entry) → AllByRecursion (λ (d : Entry). d.epoch ≤ e.epoch) line → NeverFall line → NeverFall (line ++ e ∷ [])
fall_more [] e a h = (tt, tt)
fall_more (x ∷ xs) e a h = (all_more (λ (d : Entry). x.epoch ≤ d.epoch) xs e h.0 a.0, fall_more xs e a.1 h.1)
