-- What the stretch around an address tells of ranges.
use Rattle.std.proofs.Common.{◌≡◌, ℕ, zero, suc, ◌+◌, ◌<◌, true, false, nat_eq, nat_lt, nat_le, ◌&&◌, List, [], Option, Some, None, is_none, IsSome, MatchOption, refl, sym, ap, ◌∙◌, arith}
use Rattle.std.proofs.lemmas.Bool.Decides.{nat_tests}
use Rattle.guest_mem.specs.declared.region.Region.{Region}
use Rattle.guest_mem.specs.Memory.{is_in, is_there, look, first_bad, covers, IsStretchAround, CoversBy, IsFirstBadBy}
use Rattle.guest_mem.specs.Laws.{RangesAreTold, StretchesTell}
use Rattle.vring_walk.specs.Stretch.{TellsRanges}

-- a range without addresses has bytes
pub empty_covered : RangesAreTold → (rs : List Region) (a : ℕ) → covers rs a 0 ≡ true
empty_covered told rs a = by_bad (first_bad rs a 0) (told rs [] a 0)
  where
    by_bad : (o : Option ℕ) → MatchOption o (CoversBy (look rs []) a 0) (IsFirstBadBy (look rs []) a 0) → is_none o ≡ true
    by_bad None h = refl
    by_bad (Some bad) h = let start = h.start in let within = h.within in absurd (omega arith)

-- where no byte is, no range starts
pub nothing_starts : RangesAreTold → (rs : List Region) (a n : ℕ) → is_there rs a ≡ false → 0 < n → covers rs a n ≡ false
unfolding look
nothing_starts told rs a n out some = by_bad (first_bad rs a n) (told rs [] a n)
  where
    missing : look rs [] a ≡ None
    missing = rw out refl

    none_there : (o : Option ℕ) → o ≡ None → IsSome o → ⊥
    none_there (Some x) e h = absurd (cc)
    none_there None e h = absurd (cc)

    by_bad : (o : Option ℕ) → MatchOption o (CoversBy (look rs []) a n) (IsFirstBadBy (look rs []) a n) → is_none o ≡ false
    by_bad None h =
        let here : a + 0 ≡ a = omega arith in
        absurd (none_there (look rs [] (a + 0)) (ap (look rs []) here ∙ missing) (h 0 some))
    by_bad (Some bad) h = refl

-- where no byte is, the empty range alone has bytes
pub empty_alone : RangesAreTold → (rs : List Region) (a n : ℕ) → is_there rs a ≡ false → nat_eq n 0 ≡ covers rs a n
empty_alone told rs a zero out = sym (empty_covered told rs a)
empty_alone told rs a (suc n) out = let off : nat_eq (suc n) 0 ≡ false = grind (arith, nat_tests) in off ∙ sym (nothing_starts told rs a (suc n) out (omega arith))

in_ends : (a from len : ℕ) → (nat_le from a && nat_lt a (from + len)) ≡ true → true ≡ nat_le (a + 0) (from + len)
in_ends a from len h = grind (arith, nat_tests)

-- a stretch tells which ranges that start in it have bytes
pub stretch_tells : RangesAreTold → StretchesTell → (rs : List Region) (a : ℕ) (s : Region) → IsStretchAround rs a s → TellsRanges rs s
stretch_tells told stretches rs a s h = record { tells = each }
  where
    each : (b n : ℕ) → is_in b s ≡ true → covers rs b n ≡ nat_le (b + n) (s.addr + s.len)
    each b zero inside = empty_covered told rs b ∙ in_ends b s.addr s.len inside
    each b (suc n) inside = stretches rs a s b (suc n) h inside (omega arith)

-- no range starts in no addresses
pub nowhere_tells : (rs : List Region) → TellsRanges rs (record { addr = 0; len = 0 })
nowhere_tells rs = record { tells = λ a n h. absurd (outside a h) }
  where
    outside : (a : ℕ) → (nat_le 0 a && nat_lt a (0 + 0)) ≡ true → ⊥
    outside a h = grind (arith, nat_tests)
