-- What is read of a file, by the counts of its line.
use Rattle.std.proofs.Common.{◌≡◌, ℕ, ◌+◌, ◌<◌, ◌≤◌, List, true, Option, Some, None, refl, sym, ap, ◌∙◌, arith}
use Rattle.std.proofs.lemmas.Bool.Decides.{nat_tests}
use Rattle.std.specs.Prelude.{nat_le, nat_lt, is_some, slice_get, IfSome}
use Rattle.tap_ground.specs.Options.{◌>>=◌}
use Rattle.tap_frame.specs.declared.name.Name.{Name}
use Rattle.tap_world.specs.declared.line.Entry.{Entry}
use Rattle.tap_world.specs.Line.{File, claimed, count, first_that, freed, in_batch, in_ring, is_claimed, is_full, is_over}
use Rattle.tap_world.specs.Sound.{front_name}
use Rattle.tap_lines.proofs.Fronts.{count_not, none_count, some_count}
use Rattle.tap_lines.proofs.Places.{count_most, first_at}

-- what is freed and what is in the ring are all that is claimed
pub freed_is : (f : File) → freed f + count in_ring f.line ≡ claimed f
freed_is f = let n = count_not in_ring f.line in omega (arith, n)

pub ring_most : (f : File) → count in_ring f.line ≤ claimed f
ring_most f = let n = count_most in_ring f.line in omega (arith, n)

pub full_is : (f : File) → nat_le f.capacity (count in_ring f.line) ≡ is_full f
full_is f = by_numbers (freed f) (claimed f) (count in_ring f.line) f.capacity (freed_is f)
  where
    by_numbers : (d k r c : ℕ) → d + r ≡ k → nat_le c r ≡ nat_le (d + c) k
    by_numbers d k r c h = grind (arith, nat_tests)

pub over_is : (f : File) → nat_lt f.capacity (count in_ring f.line) ≡ is_over f
over_is f = by_numbers (freed f) (claimed f) (count in_ring f.line) f.capacity (freed_is f)
  where
    by_numbers : (d k r c : ℕ) → d + r ≡ k → nat_lt c r ≡ nat_le (d + c + 1) k
    by_numbers d k r c h = grind (arith, nat_tests)

pub claim_is : (line : List Entry) → nat_lt 0 (count is_claimed line) ≡ is_some (first_that is_claimed line)
claim_is line = go (first_that is_claimed line) refl
  where
    positive : (n : ℕ) → 0 < n → nat_lt 0 n ≡ true
    positive n h = grind (arith, nat_tests)

    go : (o : Option ℕ) → first_that is_claimed line ≡ o → nat_lt 0 (count is_claimed line) ≡ is_some o
    go None e = ap (λ (n : ℕ). nat_lt 0 n) (none_count is_claimed line e)
    go (Some i) e = positive (count is_claimed line) (some_count is_claimed line i e)

pub front_name_is : (line : List Entry) (i : ℕ) (n : Name) → first_that in_batch line ≡ Some i → IfSome (slice_get line i) (λ e. n ≡ e.name) → Some n ≡ front_name line
front_name_is line i n first h =
    let a = first_at in_batch line i first in
    sym (ap (λ (o : Option ℕ). o >>= λ (k : ℕ). slice_get line k >>= λ (e : Entry). Some e.name) first ∙ go (slice_get line i) a.0 a.1 h)
  where
    go : (o : Option Entry) (e : Entry) → o ≡ Some e → IfSome o (λ d. n ≡ d.name) → (o >>= λ (d : Entry). Some d.name) ≡ Some n
    go None e at h = absurd (cc (at))
    go (Some d) e at h = ap Some (sym h)
