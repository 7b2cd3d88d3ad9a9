-- The order of the tests of one instruction, and what is kept against the paths.
use Rattle.std.proofs.Common.{◌≡◌, ◌⊎◌, ℕ, ◌+◌, ◌*◌, ◌<◌, ◌≤◌, List, [], ◌∷◌, length, Bool, true, false, not, ◌&&◌, ◌||◌, Option, Some, None, refl, sym, ap, ◌∙◌, subst, inl, inr, arith}
use Rattle.std.proofs.lemmas.Bool.{both_ways, cases_lt, or_cases, or_parts, and_parts, and_cases, and_from, or_left, or_right, leb-false, eqb-true, eq-eqb, not-true, not-false, lt-ltb, le-ltb, false_from_ne_true}
use Rattle.std.proofs.lemmas.List.{get_or_past}
use Rattle.std.specs.Prelude.{◌==◌, nat_lt, nat_le, IsSomeAnd, IsTrue, slice_index_or}
use Rattle.std.specs.Option.{option_map}
use Rattle.ebpf_code.specs.declared.fault.CodeWhy.{CodeWhy}
use Rattle.ebpf_code.specs.declared.fault.CodeWhy.TheVariants.{Length, Opcode, Register, Backward, Beyond, Unset, NoExit, HalfWide, TooMany, Field}
use Rattle.ebpf_code.specs.declared.set.RegisterSet.{RegisterSet}
use Rattle.ebpf_code.specs.declared.instruction.Instruction.{Instruction}
use Rattle.ebpf_code.specs.declared.encoding.Encoding.{Encoding}
use Rattle.ebpf_code.specs.Encoding.{encoding_at}
use Rattle.ebpf_code.specs.Instruction.{operation_of, instruction, uses, is_exit, is_wide, is_swap, reads, goes_backward, goes_forward, target}
use Rattle.ebpf_code.specs.Faults.{is_second, instruction_at, slot_count, At, IsPath, is_set, ReadsUnset, HasFault, HasNone, number, misuses_register, goes_beyond, lacks_exit, enters_wide, misuses_field, has_stray_field, is_plain, is_swap_width}
use Rattle.ebpf_code.specs.Sets.{holds, kept_lacks, IsBelow, IsKept, AreSeconds}
use Rattle.ebpf_code.proofs.Places.{found_of, at_is}

-- ---- reads that a set lacks

module _ (a b c w : Bool) (d s : ℕ) (z : Bool) (ok : (((a || w) && nat_le 10 d) || (b && nat_le 10 s) || z) ≡ false) where
  dst_below : a ≡ true → d < 11
  dst_below e =
      let p = or_parts ((a || w) && nat_le 10 d) (b && nat_le 10 s) (or_parts (((a || w) && nat_le 10 d) || (b && nat_le 10 s)) z ok).0 in
      elim (and_cases (a || w) (nat_le 10 d) p.0) [
        | inl f ↦ absurd (both_ways (a || w) f (or_left a w e))
        | inr f ↦ let k = leb-false 10 d f in omega arith
      ]

  src_below : b ≡ true → s < 11
  src_below e =
      let p = or_parts ((a || w) && nat_le 10 d) (b && nat_le 10 s) (or_parts (((a || w) && nat_le 10 d) || (b && nat_le 10 s)) z ok).0 in
      elim (and_cases b (nat_le 10 s) p.1) [
        | inl f ↦ absurd (both_ways b f e)
        | inr f ↦ let k = leb-false 10 s f in omega arith
      ]

  -- the three registers that may be read
  read_cases : (r : ℕ) → ((a && r == d) || (b && r == s) || (c && r == 0)) ≡ true → ((a ≡ true) × (r ≡ d)) ⊎ (((b ≡ true) × (r ≡ s)) ⊎ ((c ≡ true) × (r ≡ 0)))
  read_cases r h =
      elim (or_cases ((a && r == d) || (b && r == s)) (c && r == 0) h) [
        | inl h1 ↦ elim (or_cases (a && r == d) (b && r == s) h1) [
          | inl p ↦ let q = and_parts a (r == d) p in inl (q.0, eqb-true r d q.1)
          | inr p ↦ let q = and_parts b (r == s) p in inr (inl (q.0, eqb-true r s q.1))
        ]
        | inr p ↦ let q = and_parts c (r == 0) p in inr (inr (q.0, eqb-true r 0 q.1))
      ]

  module _ (f : ℕ → Bool) where
    lacks_some : ((a && not (f d)) || (b && not (f s)) || (c && not (f 0))) ≡ true → (r : ℕ) × (((a && r == d) || (b && r == s) || (c && r == 0)) ≡ true) × (r < 11) × (f r ≡ false)
    lacks_some h =
        elim (or_cases ((a && not (f d)) || (b && not (f s))) (c && not (f 0)) h) [
          | inl h1 ↦ elim (or_cases (a && not (f d)) (b && not (f s)) h1) [
            | inl p ↦ let q = and_parts a (not (f d)) p in (d, or_left _ (c && d == 0) (or_left (a && d == d) (b && d == s) (and_from a (d == d) q.0 (eq-eqb d d refl))), dst_below q.0, not-true (f d) q.1)
            | inr p ↦ let q = and_parts b (not (f s)) p in (s, or_left _ (c && s == 0) (or_right (a && s == d) (b && s == s) (and_from b (s == s) q.0 (eq-eqb s s refl))), src_below q.0, not-true (f s) q.1)
          ]
          | inr p ↦ let q = and_parts c (not (f 0)) p in (0, or_right _ (c && 0 == 0) (and_from c true q.0 refl), omega arith, not-true (f 0) q.1)
        ]

    lacks_no : ((a && not (f d)) || (b && not (f s)) || (c && not (f 0))) ≡ false → (r : ℕ) → ((a && r == d) || (b && r == s) || (c && r == 0)) ≡ true → (r < 11) × (f r ≡ true)
    lacks_no h r e =
        let p = or_parts ((a && not (f d)) || (b && not (f s))) (c && not (f 0)) h in
        let q = or_parts (a && not (f d)) (b && not (f s)) p.0 in
        elim (read_cases r e) [
          | inl x ↦ (let k = dst_below x.0 in omega (arith, x.1), ap f x.1 ∙ elim (and_cases a (not (f d)) q.0) [ inl y ↦ absurd (both_ways a y x.0) | inr y ↦ not-false (f d) y ])
          | inr x ↦ elim x [
            | inl x ↦ (let k = src_below x.0 in omega (arith, x.1), ap f x.1 ∙ elim (and_cases b (not (f s)) q.1) [ inl y ↦ absurd (both_ways b y x.0) | inr y ↦ not-false (f s) y ])
            | inr x ↦ (omega (arith, x.1), ap f x.1 ∙ elim (and_cases c (not (f 0)) p.1) [ inl y ↦ absurd (both_ways c y x.0) | inr y ↦ not-false (f 0) y ])
          ]
        ]

-- what is kept for a place lacks a register that is read exactly where some path lacks it
pub unset_found : (bytes : List ℕ) (place : ℕ) (kept : Option RegisterSet) (i : Instruction) → IsKept bytes place place kept → misuses_register i ≡ false → kept_lacks kept i ≡ true → ReadsUnset bytes place i
unset_found bytes place None i k ok h = cc
unset_found bytes place (Some s) i k ok h =
    let u = uses i.operation in
    let r = lacks_some u.reads_destination u.source (is_exit i.operation) u.writes_destination i.destination i.source (is_wide i.operation && not (i.source == 0)) ok (holds s) h in
    let p = k.unset r.0 r.2 r.3 in
    (r.0, r.1, p.0, p.1, p.3)

pub below_place : (bytes : List ℕ) (place : ℕ) (path : List ℕ) → IsPath bytes place path → IsBelow place path
below_place bytes place [] p = tt
below_place bytes place (q ∷ path) p = p.0

pub unset_none : (bytes : List ℕ) (place : ℕ) (kept : Option RegisterSet) (i : Instruction) → IsKept bytes place place kept → misuses_register i ≡ false → kept_lacks kept i ≡ false → ReadsUnset bytes place i → ⊥
unset_none bytes place None i k ok h reads = k.sound reads.2 reads.3 (below_place bytes place reads.2 reads.3)
unset_none bytes place (Some s) i k ok h reads =
    let u = uses i.operation in
    let r = lacks_no u.reads_destination u.source (is_exit i.operation) u.writes_destination i.destination i.source (is_wide i.operation && not (i.source == 0)) ok (holds s) h reads.0 reads.1 in
    both_ways (is_set bytes reads.2 reads.0) reads.4 (k.sound reads.2 reads.3 (below_place bytes place reads.2 reads.3) reads.0 r.0 r.1)

-- ---- the order of the tests

-- what is known where the tests before number n have passed, and the tests of the whole
pub record Passed (bytes : List ℕ) (m place n : ℕ) (i : Instruction) : Type 0 where
  pub found : instruction_at bytes place ≡ Some i
  pub registers : 3 < n → misuses_register i ≡ false
  pub forward : 4 < n → goes_backward i ≡ false
  pub within : 5 < n → goes_beyond m place i ≡ false
  pub set : 6 < n → ReadsUnset bytes place i → ⊥
  pub exit : 7 < n → lacks_exit m place i ≡ false
  pub whole : 8 < n → enters_wide bytes place i ≡ false
  pub fields : 10 < n → misuses_field i (encoding_at bytes (place + 1)) ≡ false

by_test : (n k : ℕ) (b : Bool) → (k < n → b ≡ false) → b ≡ true → n ≤ k
by_test n k b fails holds = elim (cases_lt k n) [ inl lt ↦ absurd (both_ways b (fails lt) holds) | inr le ↦ le ]

pub at_found : (bytes : List ℕ) (place : ℕ) (i : Instruction) (P : Instruction → Type 0) → instruction_at bytes place ≡ Some i → At bytes place P → P i
at_found bytes place i P e h = subst (λ o. IsSomeAnd o P) e h

pub at_from : (bytes : List ℕ) (place : ℕ) (i : Instruction) (P : Instruction → Type 0) → instruction_at bytes place ≡ Some i → P i → At bytes place P
at_from bytes place i P e h = subst (λ o. IsSomeAnd o P) (sym e) h

pub count_is : (bytes : List ℕ) (m : ℕ) → length bytes ≡ 8 * m → slot_count bytes ≡ m
count_is bytes m e = omega arith

-- the faults at the place that are left have number n or more
pub least : (bytes : List ℕ) (m place n : ℕ) (i : Instruction) → length bytes ≡ 8 * m → place < m → m ≤ 4096 → Passed bytes m place n i → (why : CodeWhy) → HasFault bytes place why → n ≤ number why
least bytes m place n i len lt few p Length h = absurd (elim h.1 [ inl e ↦ omega arith | inr e ↦ e (omega arith) ])
least bytes m place n i len lt few p Opcode h = absurd (let o = (found_of bytes place i p.found).operation in let e : Some i.operation ≡ None = sym o ∙ h.2 in cc)
least bytes m place n i len lt few p Register h = by_test n 3 (misuses_register i) p.registers (at_found bytes place i (λ j. IsTrue (misuses_register j)) p.found h)
least bytes m place n i len lt few p Backward h = by_test n 4 (goes_backward i) p.forward (at_found bytes place i (λ j. IsTrue (goes_backward j)) p.found h)
least bytes m place n i len lt few p Beyond h =
    by_test n 5 (goes_beyond m place i) p.within (subst (λ k. goes_beyond k place i ≡ true) (count_is bytes m len) (at_found bytes place i (λ j. IsTrue (goes_beyond (slot_count bytes) place j)) p.found h))
least bytes m place n i len lt few p Unset h =
    elim (cases_lt 6 n) [ inl less ↦ absurd (p.set less (at_found bytes place i (ReadsUnset bytes place) p.found h)) | inr le ↦ le ]
least bytes m place n i len lt few p NoExit h =
    by_test n 7 (lacks_exit m place i) p.exit (subst (λ k. lacks_exit k place i ≡ true) (count_is bytes m len) (at_found bytes place i (λ j. IsTrue (lacks_exit (slot_count bytes) place j)) p.found h))
least bytes m place n i len lt few p HalfWide h = by_test n 8 (enters_wide bytes place i) p.whole (at_found bytes place i (λ j. IsTrue (enters_wide bytes place j)) p.found h)
least bytes m place n i len lt few p TooMany h = absurd (let k = count_is bytes m len in omega (arith, h.1))
least bytes m place n i len lt few p Field h = by_test n 10 (misuses_field i (encoding_at bytes (place + 1))) p.fields (at_found bytes place i (λ j. IsTrue (misuses_field j (encoding_at bytes (place + 1)))) p.found h)

too_great : (why : CodeWhy) → 11 ≤ number why → ⊥
too_great Length k = omega arith
too_great Opcode k = omega arith
too_great Register k = omega arith
too_great Backward k = omega arith
too_great Beyond k = omega arith
too_great Unset k = omega arith
too_great NoExit k = omega arith
too_great HalfWide k = omega arith
too_great TooMany k = omega arith
too_great Field k = omega arith

-- where all tests have passed there is no fault
pub none_left : (bytes : List ℕ) (m place : ℕ) (i : Instruction) → length bytes ≡ 8 * m → place < m → m ≤ 4096 → Passed bytes m place 11 i → HasNone bytes place
none_left bytes m place i len lt few p why h = let k = least bytes m place 11 i len lt few p why h in too_great why k

pub keep : (g x : Bool) → ((g && true) && x) ≡ (g && x)
keep true x = refl
keep false x = refl

pub lose : (g x : Bool) → ((g && false) && x) ≡ (g && false)
lose true x = refl
lose false x = refl

-- the flag of a target
pub entered : (bytes : List ℕ) (flags : List Bool) (place : ℕ) (i : Instruction) → AreSeconds bytes flags → enters_wide bytes place i ≡ (goes_forward i && slice_index_or flags (target place i) false)
entered bytes flags place i s =
    let t : ℕ = target place i in
    let g : Bool = goes_forward i in
    let m = count_is bytes (length flags) s.aligned in
    elim (cases_lt t (length flags)) [
      | inl lt ↦
          let a : nat_lt t (slot_count bytes) ≡ true = lt-ltb t (slot_count bytes) (omega (arith, lt, m)) in
          ap (λ x. (g && x) && is_second bytes t) a ∙ keep g (is_second bytes t) ∙ ap (λ x. g && x) (sym (s.each t lt))
      | inr le ↦
          let a : nat_lt t (slot_count bytes) ≡ false = le-ltb t (slot_count bytes) (omega (arith, le, m)) in
          ap (λ x. (g && x) && is_second bytes t) a ∙ lose g (is_second bytes t) ∙ ap (λ x. g && x) (sym (get_or_past flags t false le))
    ]

-- the instruction that was read
pub found_at : (bytes : List ℕ) (m place : ℕ) (i : Instruction) → length bytes ≡ 8 * m → place < m → is_second bytes place ≡ false → Some i ≡ option_map (λ o. instruction o (encoding_at bytes place)) (operation_of (encoding_at bytes place).opcode) → instruction_at bytes place ≡ Some i
found_at bytes m place i len lt begins e =
    let k = count_is bytes m len in at_is bytes place (omega arith) begins ∙ sym e

pub counted : (bytes : List ℕ) (m : ℕ) (place : ℕ) (f : ℕ → ℕ → Instruction → Bool) (i : Instruction) → length bytes ≡ 8 * m → f m place i ≡ true → f (slot_count bytes) place i ≡ true
counted bytes m place f i len h = subst (λ k. f k place i ≡ true) (sym (count_is bytes m len)) h

-- a test whose fault isn't there
pub clean : (bytes : List ℕ) (place : ℕ) (i : Instruction) (f : Instruction → Bool) → instruction_at bytes place ≡ Some i → (At bytes place (λ j. IsTrue (f j)) → ⊥) → f i ≡ false
clean bytes place i f found none = false_from_ne_true (f i) (λ e. none (at_from bytes place i (λ j. IsTrue (f j)) found e))

pub clean_count : (bytes : List ℕ) (m place : ℕ) (i : Instruction) (f : ℕ → ℕ → Instruction → Bool) → length bytes ≡ 8 * m → instruction_at bytes place ≡ Some i → (At bytes place (λ j. IsTrue (f (slot_count bytes) place j)) → ⊥) → f m place i ≡ false
clean_count bytes m place i f len found none = subst (λ k. f k place i ≡ false) (count_is bytes m len) (clean bytes place i (f (slot_count bytes) place) found none)

field_fits : (u : Bool) (d : ℕ) → (u && nat_le 10 d) ≡ false → (not u && not (d == 0)) ≡ false → d < 11
field_fits true d used unused = let k = leb-false 10 d used in omega arith
field_fits false d used unused = let k = eqb-true d 0 (not-false (d == 0) unused) in omega arith

-- the registers of an instruction without faults are R0 to R10
pub registers_fit : (i : Instruction) (next : Encoding) → misuses_register i ≡ false → misuses_field i next ≡ false → (i.destination < 11) × (i.source < 11)
registers_fit i next ok fields =
    let u = uses i.operation in
    let d = i.destination in
    let s = i.source in
    let a = or_parts (((u.reads_destination || u.writes_destination) && nat_le 10 d) || (u.source && nat_le 10 s)) (is_wide i.operation && not (s == 0)) ok in
    let b = or_parts ((u.reads_destination || u.writes_destination) && nat_le 10 d) (u.source && nat_le 10 s) a.0 in
    let p1 = or_parts (has_stray_field i) (is_wide i.operation && not (is_plain next)) fields in
    let p2 = or_parts _ (is_swap i.operation && not (is_swap_width i.immediate)) p1.0 in
    let p3 = or_parts _ (not u.immediate && not (i.immediate == 0)) p2.0 in
    let p4 = or_parts _ (not u.offset && not (i.offset == 0)) p3.0 in
    let p5 = or_parts (not (u.reads_destination || u.writes_destination) && not (d == 0)) (not u.source && not (s == 0)) p4.0 in
    (field_fits (u.reads_destination || u.writes_destination) d b.0 p5.0, field_fits u.source s b.1 p5.1)
