-- A place is among those from one on where it is fewer places ahead.
use Rattle.std.proofs.Common.{◌≡◌, ℕ, zero, suc, ◌+◌, ◌-◌, ◌<◌, Bool, true, false, cond, not, ◌&&◌, ◌||◌, nat_lt, nat_eq, refl, ap, ◌∙◌, arith}
use Rattle.std.proofs.lemmas.Bool.Decides.{nat_tests}
use Rattle.vring_packed.specs.declared.place.Place.{Place}
use Rattle.vring_packed.specs.Packed.{place_after}
use Rattle.vring_packed.specs.Publication.{is_same, is_among, ahead_in, places_ahead}

-- the test that the code makes
abbrev pub is_ahead : ℕ → Place → ℕ → Place → Bool
is_ahead num p n q = nat_lt q.at num && nat_lt (places_ahead num p q) n

none : (b : Bool) (k : ℕ) → false ≡ (b && nat_lt k 0)
none true k = grind (arith, nat_tests)
none false k = refl

-- one place on with the same wrap counter: the next entry, and the start of the ring with the other
inner : (num a b n : ℕ) → a + 1 < num
    → ((nat_eq a b && true) || (nat_lt b num && nat_lt (ahead_in num (a + 1) b) n)) ≡ (nat_lt b num && nat_lt (ahead_in num a b) (suc n))
inner num a b n h = grind (arith, nat_tests)

across : (num a b n : ℕ) → a + 1 < num
    → ((nat_eq a b && false) || (nat_lt b num && nat_lt (b + num - (a + 1)) n)) ≡ (nat_lt b num && nat_lt (b + num - a) (suc n))
across num a b n h = grind (arith, nat_tests)

inner_end : (num a b n : ℕ) → a + 1 ≡ num
    → ((nat_eq a b && true) || (nat_lt b num && nat_lt (b + num - (a + 1 - num)) n)) ≡ (nat_lt b num && nat_lt (ahead_in num a b) (suc n))
inner_end num a b n h = grind (arith, nat_tests)

across_end : (num a b n : ℕ) → a + 1 ≡ num
    → ((nat_eq a b && false) || (nat_lt b num && nat_lt (ahead_in num (a + 1 - num) b) n)) ≡ (nat_lt b num && nat_lt (b + num - a) (suc n))
across_end num a b n h = grind (arith, nat_tests)

-- one place more
one_more : (num : ℕ) (p q : Place) (n : ℕ) (t : Bool) → nat_lt (p.at + 1) num ≡ t → p.at < num
    → (is_same p q || is_ahead num (cond t (record { at = p.at + 1; wrap = p.wrap }) (record { at = p.at + 1 - num; wrap = not p.wrap })) n q) ≡ is_ahead num p (suc n) q
one_more num p q n true e h = by_wraps p.wrap q.wrap
  where
    by_wraps : (w v : Bool)
        → (is_same (record { at = p.at; wrap = w }) (record { at = q.at; wrap = v }) || is_ahead num (record { at = p.at + 1; wrap = w }) n (record { at = q.at; wrap = v }))
        ≡ is_ahead num (record { at = p.at; wrap = w }) (suc n) (record { at = q.at; wrap = v })
    by_wraps true true = inner num p.at q.at n (grind (arith, nat_tests))
    by_wraps true false = across num p.at q.at n (grind (arith, nat_tests))
    by_wraps false true = across num p.at q.at n (grind (arith, nat_tests))
    by_wraps false false = inner num p.at q.at n (grind (arith, nat_tests))
one_more num p q n false e h = by_wraps p.wrap q.wrap
  where
    by_wraps : (w v : Bool)
        → (is_same (record { at = p.at; wrap = w }) (record { at = q.at; wrap = v }) || is_ahead num (record { at = p.at + 1 - num; wrap = not w }) n (record { at = q.at; wrap = v }))
        ≡ is_ahead num (record { at = p.at; wrap = w }) (suc n) (record { at = q.at; wrap = v })
    by_wraps true true = inner_end num p.at q.at n (grind (arith, nat_tests))
    by_wraps true false = across_end num p.at q.at n (grind (arith, nat_tests))
    by_wraps false true = across_end num p.at q.at n (grind (arith, nat_tests))
    by_wraps false false = inner_end num p.at q.at n (grind (arith, nat_tests))

-- the next place is in the ring
stays : (num : ℕ) (p : Place) → p.at < num → (place_after num p 1).at < num
stays num p h = by_test (nat_lt (p.at + 1) num) refl
  where
    by_test : (t : Bool) → nat_lt (p.at + 1) num ≡ t → (cond {A = Place} t (record { at = p.at + 1; wrap = p.wrap }) (record { at = p.at + 1 - num; wrap = not p.wrap })).at < num
    by_test true e = grind (arith, nat_tests)
    by_test false e = grind (arith, nat_tests)

pub among_ahead : (num : ℕ) (p q : Place) (n : ℕ) → p.at < num → is_among num p n q ≡ is_ahead num p n q
among_ahead num p q zero h = none (nat_lt q.at num) (places_ahead num p q)
among_ahead num p q (suc n) h =
    ap (λ b. is_same p q || b) (among_ahead num (place_after num p 1) q n (stays num p h))
    ∙ one_more num p q n (nat_lt (p.at + 1) num) refl h
