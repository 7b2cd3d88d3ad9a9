-- Lines on which what is free and what is cut stays so, as entries come to stand elsewhere.
use Rattle.std.proofs.Common.{◌≡◌, ◌≢◌, ◌⊎◌, ℕ, zero, suc, ◌+◌, ◌<◌, ◌≤◌, List, [], ◌∷◌, length, Bool, true, false, Option, Some, None, inl, inr, ⊎_elim, refl, sym, ap, ◌∙◌, subst, true≢false, option_map, arith}
use Rattle.std.specs.Prelude.{if◌then◌else◌, not, slice_get}
use Rattle.std.specs.Option.{option_map_or}
use Rattle.tap_world.specs.declared.line.Entry.{Entry}
use Rattle.tap_world.specs.declared.line.Standing.{Standing}
use Rattle.tap_world.specs.declared.line.Standing.TheVariants.{Batched, Claimed, Cut, Out, Ready}
use Rattle.tap_world.specs.Line.{count, entry_ready, first_that, in_ring, is_ready, last_that, or_here}
use Rattle.tap_world.specs.LineSteps.{filled, ready_front, restand}
use Rattle.tap_world.specs.Sound.{ComesLast, InThreeParts, is_cut, rank}
use Rattle.tap_sound.proofs.Kit.{WhereSome, only_some, some_same, then_some}

-- ---- an entry that stands elsewhere

abbrev pub free : Standing → Bool
free s = not (in_ring s)

pub restand_get : (k : ℕ) (s : Standing) (line : List Entry) (i : ℕ) (e : Entry) → slice_get (restand k s line) i ≡ Some e
    → ((k ≡ i) × (e.stands ≡ s)) ⊎ ((k ≢ i) × (slice_get line i ≡ Some e))
restand_get k s [] i e h = absurd (cc (h))
restand_get zero s (x ∷ xs) zero e h = inl (refl, ap (λ (q : Entry). q.stands) (sym (some_same _ e h)))
restand_get zero s (x ∷ xs) (suc i) e h = inr (λ q. omega (arith, q), h)
restand_get (suc k) s (x ∷ xs) zero e h = inr (λ q. omega (arith, q), h)
restand_get (suc k) s (x ∷ xs) (suc i) e h =
    ⊎_elim (λ t. inl (ap suc t.0, t.1)) (λ t. inr (λ q. t.0 (omega (arith, q)), t.1)) (restand_get k s xs i e h)

pub restand_length : (k : ℕ) (s : Standing) (line : List Entry) → length (restand k s line) ≡ length line
restand_length k s [] = refl
restand_length zero s (x ∷ xs) = refl
restand_length (suc k) s (x ∷ xs) = ap suc (restand_length k s xs)

abbrev pub bit : Bool → ℕ
bit b = if b then 1 else 0

swapped : (a b n : ℕ) → a + n + b ≡ b + n + a
swapped a b n = omega arith

behind : (x a b c d : ℕ) → a + c ≡ b + d → x + a + c ≡ x + b + d
behind x a b c d e = omega (arith, e)

pub restand_count : (test : Standing → Bool) (k : ℕ) (s : Standing) (line : List Entry) (d : Entry) → slice_get line k ≡ Some d
    → count test (restand k s line) + bit (test d.stands) ≡ count test line + bit (test s)
restand_count test k s [] d e = absurd (cc (e))
restand_count test zero s (x ∷ xs) d e =
    subst (λ (q : Entry). bit (test s) + count test xs + bit (test q.stands) ≡ bit (test x.stands) + count test xs + bit (test s)) (some_same x d e)
    (swapped (bit (test s)) (bit (test x.stands)) (count test xs))
restand_count test (suc k) s (x ∷ xs) d e =
    behind (bit (test x.stands)) (count test (restand k s xs)) (count test xs) (bit (test d.stands)) (bit (test s)) (restand_count test k s xs d e)

-- ---- lines on which what is free and what is cut stays so

pub record GoesOn (l m : List Entry) : Type 0 where
  pub many : length m ≡ length l
  pub freed : count free l ≤ count free m
  pub cut : (i : ℕ) (e : Entry) → slice_get m i ≡ Some e → (d : Entry) × (slice_get l i ≡ Some d) × (d.stands ≡ Cut → e.stands ≡ Cut)

pub still : (l : List Entry) → GoesOn l l
still l = record { many = refl; freed = omega arith; cut = λ i e h. (e, h, λ c. c) }

goes_then : (l m n : List Entry) → GoesOn l m → GoesOn m n → GoesOn l n
goes_then l m n a b = record {
  many = b.many ∙ a.many;
  freed = let x = a.freed in let y = b.freed in omega (arith, x, y);
  cut = λ i e h. let d = b.cut i e h in let c = a.cut i d.0 d.1 in (c.0, c.1, λ k. d.2 (c.2 k));
}

-- an entry may stand so after another way: free if it was free, and cut if it was cut
pub record MayStand (d s : Standing) : Type 0 where
  pub freed : free d ≡ true → free s ≡ true
  pub cut : d ≡ Cut → s ≡ Cut

bits : (a b : Bool) → (a ≡ true → b ≡ true) → bit a ≤ bit b
bits true b h = subst (λ (q : Bool). bit true ≤ bit q) (sym (h refl)) (omega arith)
bits false b h = omega arith

pub restand_goes : (k : ℕ) (s : Standing) (line : List Entry) (d : Entry) → slice_get line k ≡ Some d → MayStand d.stands s → GoesOn line (restand k s line)
restand_goes k s line d at_ may = record {
  many = restand_length k s line;
  freed =
      let n = restand_count free k s line d at_ in
      let le = bits (free d.stands) (free s) may.freed in
      omega (arith, n, le);
  cut = λ i e h. ⊎_elim
      (λ t. (d, subst (λ n. slice_get line n ≡ Some d) t.0 at_, λ c. t.1 ∙ may.cut c))
      (λ t. (e, t.1, λ c. c))
      (restand_get k s line i e h);
}

pub restand_same : (k : ℕ) (s : Standing) (line : List Entry) (d : Entry) → slice_get line k ≡ Some d → free s ≡ free d.stands
    → count free (restand k s line) ≡ count free line
restand_same k s line d at_ e =
    let n = restand_count free k s line d at_ in
    let same : bit (free s) ≡ bit (free d.stands) = ap bit e in
    omega (arith, n, same)

-- ---- the entries that changes meet

abbrev pub Has : (Standing → Bool) → List Entry → ℕ → Type 0
Has test line i = (e : Entry) × (slice_get line i ≡ Some e) × (test e.stands ≡ true)

has_here : (test : Standing → Bool) (x : Entry) (xs : List Entry) (b : Bool) → test x.stands ≡ b → (o : Option ℕ) → WhereSome (Has test xs) o
    → WhereSome (Has test (x ∷ xs)) (if b then Some 0 else option_map (λ i. i + 1) o)
has_here test x xs true is o h = (x, refl, is)
has_here test x xs false is None h = tt
has_here test x xs false is (Some i) h = let next : suc i ≡ i + 1 = omega arith in subst (Has test (x ∷ xs)) next h

pub first_has : (test : Standing → Bool) (line : List Entry) → WhereSome (Has test line) (first_that test line)
first_has test [] = tt
first_has test (x ∷ xs) = has_here test x xs (test x.stands) refl (first_that test xs) (first_has test xs)

-- the last that stands so, behind which none does
pub record IsLast (test : Standing → Bool) (line : List Entry) (i : ℕ) : Type 0 where
  pub e : Entry
  pub here : slice_get line i ≡ Some e
  pub passes : test e.stands ≡ true
  pub behind : (j : ℕ) (d : Entry) → i < j → slice_get line j ≡ Some d → test d.stands ≡ false

-- none of a line stands so
abbrev pub NoneIs : (Standing → Bool) → List Entry → Type 0
NoneIs test line = (j : ℕ) (d : Entry) → slice_get line j ≡ Some d → test d.stands ≡ false

abbrev pub LastOf : (Standing → Bool) → List Entry → Option ℕ → Type 0
LastOf test line None = NoneIs test line
LastOf test line (Some i) = IsLast test line i

last_here : (test : Standing → Bool) (x : Entry) (xs : List Entry) (o : Option ℕ) → LastOf test xs o → (b : Bool) → test x.stands ≡ b
    → LastOf test (x ∷ xs) (or_here b o)
last_here test x xs (Some i) h b is =
    let next : suc i ≡ i + 1 = omega arith in
    let it : IsLast test (x ∷ xs) (suc i) = record { e = h.e; here = h.here; passes = h.passes; behind = λ j d lt at_. later j d lt at_ } in
    subst (IsLast test (x ∷ xs)) next it
  where
    later : (j : ℕ) (d : Entry) → suc i < j → slice_get (x ∷ xs) j ≡ Some d → test d.stands ≡ false
    later zero d lt at_ = absurd (omega (arith, lt))
    later (suc j) d lt at_ = h.behind j d (omega (arith, lt)) at_
last_here test x xs None h true is = record { e = x; here = refl; passes = is; behind = λ j d lt at_. later j d lt at_ }
  where
    later : (j : ℕ) (d : Entry) → 0 < j → slice_get (x ∷ xs) j ≡ Some d → test d.stands ≡ false
    later zero d lt at_ = absurd (omega (arith, lt))
    later (suc j) d lt at_ = h j d at_
last_here test x xs None h false is = all
  where
    all : (j : ℕ) (d : Entry) → slice_get (x ∷ xs) j ≡ Some d → test d.stands ≡ false
    all zero d at_ = subst (λ (q : Entry). test q.stands ≡ false) (some_same x d at_) is
    all (suc j) d at_ = h j d at_

pub last_of : (test : Standing → Bool) (line : List Entry) → LastOf test line (last_that test line)
last_of test [] = λ j d at_. absurd (cc (at_))
last_of test (x ∷ xs) = last_here test x xs (last_that test xs) (last_of test xs) (test x.stands) refl

-- behind an entry of the ring all that isn't in the ring is cut
only_cut : (s : Standing) → (is_cut s ≡ true) ⊎ (2 ≤ rank s) → in_ring s ≡ false → s ≡ Cut
only_cut Cut h ring = refl
only_cut (Claimed actor) h ring = absurd (true≢false ring)
only_cut Ready h ring = absurd (true≢false ring)
only_cut Batched h ring = ⊎_elim (λ c. absurd (true≢false (sym c))) (λ le. absurd (omega (arith, le))) h
only_cut (Out fate) h ring = ⊎_elim (λ c. absurd (true≢false (sym c))) (λ le. absurd (omega (arith, le))) h

comes_last : (r : ℕ) (line : List Entry) (i : ℕ) (d : Entry) → ComesLast r line → slice_get line i ≡ Some d → (is_cut d.stands ≡ true) ⊎ (r ≤ rank d.stands)
comes_last r [] i d h e = absurd (cc (e))
comes_last r (x ∷ xs) zero d h e = subst (λ (q : Entry). (is_cut q.stands ≡ true) ⊎ (r ≤ rank q.stands)) (some_same x d e) h.0
comes_last r (x ∷ xs) (suc i) d h e = comes_last r xs i d h.1 e

ring_rank : (s : Standing) → in_ring s ≡ true → (rank s ≡ 2) × (is_cut s ≡ false)
ring_rank (Claimed actor) e = (refl, refl)
ring_rank Ready e = (refl, refl)
ring_rank s e = absurd (true≢false (sym e))

pub behind_ring : (line : List Entry) (i j : ℕ) (e d : Entry) → InThreeParts line → slice_get line i ≡ Some e → in_ring e.stands ≡ true → i < j
    → slice_get line j ≡ Some d → in_ring d.stands ≡ false → d.stands ≡ Cut
behind_ring [] i j e d parts at_ ring lt there out = absurd (cc (at_))
behind_ring (x ∷ xs) i zero e d parts at_ ring lt there out = absurd (omega (arith, lt))
behind_ring (x ∷ xs) zero (suc j) e d parts at_ ring lt there out =
    let r = ring_rank x.stands (subst (λ (q : Entry). in_ring q.stands ≡ true) (sym (some_same x e at_)) ring) in
    ⊎_elim
    (λ c. absurd (true≢false (sym c ∙ r.1)))
    (λ last. only_cut d.stands (subst (λ n. (is_cut d.stands ≡ true) ⊎ (n ≤ rank d.stands)) r.0 (comes_last (rank x.stands) xs j d last there)) out)
    parts.0
behind_ring (x ∷ xs) (suc i) (suc j) e d parts at_ ring lt there out = behind_ring xs i j e d parts.1 at_ ring (omega (arith, lt)) there out

-- the ring's front, where it is ready
ready_at : (line : List Entry) (i j : ℕ) (o : Option Entry) → slice_get line j ≡ o → entry_ready o j ≡ Some i
    → (d : Entry) × (slice_get line i ≡ Some d) × (is_ready d.stands ≡ true)
ready_at line i j None is e = absurd (cc (e))
ready_at line i j (Some d) is e = let t = only_some _ _ i e in (d, subst (λ n. slice_get line n ≡ Some d) t.1 is, t.0)

pub ready_is : (line : List Entry) (i : ℕ) → ready_front line ≡ Some i → (d : Entry) × (slice_get line i ≡ Some d) × (is_ready d.stands ≡ true)
ready_is line i e =
    let j = then_some (first_that in_ring line) _ i e in ready_at line i j.0 (slice_get line j.0) refl j.2

pub ready_may : (s : Standing) → is_ready s ≡ true → MayStand s Batched
ready_may Ready e = record { freed = λ h. absurd (true≢false (sym h)); cut = λ h. absurd (cc (h)) }
ready_may s e = absurd (true≢false (sym e))

pub filled_goes : (n : ℕ) (line : List Entry) → GoesOn line (filled n line)
filled_goes zero line = still line
filled_goes (suc more) line = filled_on more line (filled_goes more) (ready_front line) refl
  where
    filled_on : (n : ℕ) (l : List Entry) → ((m : List Entry) → GoesOn m (filled n m)) → (o : Option ℕ) → ready_front l ≡ o
        → GoesOn l (option_map_or (λ i. filled n (restand i Batched l)) o l)
    filled_on n l rest None is = still l
    filled_on n l rest (Some i) is =
        let d = ready_is l i is in
        goes_then l (restand i Batched l) (filled n (restand i Batched l)) (restand_goes i Batched l d.0 d.1 (ready_may d.0.stands d.2)) (rest (restand i Batched l))
