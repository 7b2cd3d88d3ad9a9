-- The first fault that is computed is the first fault.
use Rattle.std.proofs.Common.{◌≡◌, ◌≢◌, ℕ, zero, suc, ◌+◌, ◌-◌, ◌*◌, ◌%◌, ◌<◌, ◌≤◌, List, [], ◌∷◌, length, Bool, true, false, cond, not, ◌&&◌, ◌||◌, Option, Some, None, refl, sym, ap, ◌∙◌, subst, inl, inr, arith, add-one, ◌⊎◌, below_more}
use Rattle.std.proofs.lemmas.Bool.{both_ways, cases_lt, cases_Bool, or_cases, and_parts, and_from, eqb-true, eq-eqb, or_left, or_right, lt-ltb, le-ltb, ltb-true, ltb-false, or_parts, not-true, not-false}
use Rattle.std.specs.Prelude.{◌==◌, nat_lt, IsSomeAnd, IsTrue, slice_index, slice_index_or, map}
use Rattle.std.specs.Option.{option_map}
use Rattle.ebpf_code.specs.declared.fault.CodeWhy.{CodeWhy}
use Rattle.ebpf_code.specs.declared.fault.CodeWhy.TheVariants.{Length, Opcode, Register, Backward, Beyond, Unset, NoExit, HalfWide, TooMany, Field}
use Rattle.ebpf_code.specs.declared.fault.CodeFault.{CodeFault}
use Rattle.ebpf_code.specs.declared.encoding.Encoding.{Encoding}
use Rattle.ebpf_code.specs.declared.instruction.Instruction.{Instruction}
use Rattle.ebpf_code.specs.declared.operation.Operation.{Operation}
use Rattle.ebpf_code.specs.declared.set.RegisterSet.{RegisterSet}
use Rattle.ebpf_code.specs.Encoding.{byte_at, encoding_at}
use Rattle.ebpf_code.specs.Instruction.{instruction, falls_through, slots_of, goes_backward, goes_forward, target, leads}
use Rattle.ebpf_code.specs.Faults.{slot_count, is_second, instruction_of, instruction_at, IsPath, is_set, set_after, ReadsUnset, HasFault, HasNone, NoFault, IsLeast, IsFirstFault, IsNoLater, number, turn, misuses_register, goes_beyond, lacks_exit, enters_wide, misuses_field}
use Rattle.ebpf_code.specs.Sets.{holds, kept_holds, kept_lacks, Meets, IsBelow, IsKept}
use Rattle.ebpf_code.specs.FirstFault.{fields_of, with_seconds, no_fields, slot_ahead, begun, set_of, start_set, set_behind, met, meet_ahead, fallen, jumped, kept_ahead, kept_at_start, fault_of, fault_at_first, fault_at, or_later, fault_from, slots_in, first_fault}
use Rattle.std.proofs.lemmas.List.{get_or_past}
use Rattle.ebpf_code.proofs.Places.{at_is, none_of}
use Rattle.ebpf_code.proofs.Checks.{at_found, at_from, below_place, count_is, counted, least, none_left, unset_found, unset_none, keep, lose}
use Rattle.ebpf_code.proofs.Kept.{kept_same, led_any, some_slots}
use Rattle.ebpf_code.proofs.Whole.{turn_one, second_none, all_none, first}

-- ---- the fields of the slots

-- a byte behind eight others
behind_eight : (a b c d e f g h : ℕ) (rest : List ℕ) (p i : ℕ) → byte_at (a ∷ b ∷ c ∷ d ∷ e ∷ f ∷ g ∷ h ∷ rest) (suc p) i ≡ byte_at rest p i
behind_eight a b c d e f g h rest p i =
    let n : 8 * suc p + i ≡ suc (suc (suc (suc (suc (suc (suc (suc (8 * p + i)))))))) = omega arith in
    ap (slice_index (a ∷ b ∷ c ∷ d ∷ e ∷ f ∷ g ∷ h ∷ rest)) n

next_encoding : (a b c d e f g h : ℕ) (rest : List ℕ) (p : ℕ) → encoding_at (a ∷ b ∷ c ∷ d ∷ e ∷ f ∷ g ∷ h ∷ rest) (suc p) ≡ encoding_at rest p
unfolding encoding_at
next_encoding a b c d e f g h rest p =
    let at = behind_eight a b c d e f g h rest p in
    rw (at 0, at 1, at 2, at 3, at 4, at 5, at 6, at 7) refl

-- there are as many slots as eights of bytes, and each has its fields
record Fields (bytes : List ℕ) (m : ℕ) (es : List Encoding) : Type 0 where
  long : length es ≡ m
  each : (p : ℕ) (d : Encoding) → p < m → slice_index_or es p d ≡ encoding_at bytes p

fields : (bytes : List ℕ) (m : ℕ) → length bytes ≡ 8 * m → Fields bytes m (fields_of bytes)
unfolding fields_of encoding_at
fields [] zero len = record { long = refl; each = λ p d lt. absurd (omega arith) }
fields [] (suc m) len = absurd (omega arith)
fields (a ∷ []) m len = absurd (omega arith)
fields (a ∷ b ∷ []) m len = absurd (omega arith)
fields (a ∷ b ∷ c ∷ []) m len = absurd (omega arith)
fields (a ∷ b ∷ c ∷ d ∷ []) m len = absurd (omega arith)
fields (a ∷ b ∷ c ∷ d ∷ e ∷ []) m len = absurd (omega arith)
fields (a ∷ b ∷ c ∷ d ∷ e ∷ f ∷ []) m len = absurd (omega arith)
fields (a ∷ b ∷ c ∷ d ∷ e ∷ f ∷ g ∷ []) m len = absurd (omega arith)
fields (a ∷ b ∷ c ∷ d ∷ e ∷ f ∷ g ∷ h ∷ rest) zero len = absurd (omega arith)
fields (a ∷ b ∷ c ∷ d ∷ e ∷ f ∷ g ∷ h ∷ rest) (suc m) len =
    let later = fields rest m (omega arith) in
    record {
      long = ap suc later.long;
      each = each later;
    }
  where
    each : Fields rest m (fields_of rest) → (p : ℕ) (v : Encoding) → p < suc m → slice_index_or (fields_of (a ∷ b ∷ c ∷ d ∷ e ∷ f ∷ g ∷ h ∷ rest)) p v ≡ encoding_at (a ∷ b ∷ c ∷ d ∷ e ∷ f ∷ g ∷ h ∷ rest) p
    each later zero v lt = refl
    each later (suc p) v lt = later.each p v (omega arith) ∙ sym (next_encoding a b c d e f g h rest p)

-- ---- the slots from a place on

-- these are the slots from a place on
pub record From (bytes : List ℕ) (m k : ℕ) (slots : List (Encoding × Bool)) : Type 0 where
  pub long : k + length slots ≡ m
  pub each : (j : ℕ) → j < length slots → slot_ahead slots j ≡ (encoding_at bytes (k + j), is_second bytes (k + j))

head_of : (bytes : List ℕ) (m k : ℕ) (slot : Encoding × Bool) (behind : List (Encoding × Bool)) → From bytes m k (slot ∷ behind) → slot ≡ (encoding_at bytes k, is_second bytes k)
head_of bytes m k slot behind from =
    let n : k + 0 ≡ k = omega arith in
    rw n at (from.each 0 (omega arith))

tail_of : (bytes : List ℕ) (m k : ℕ) (slot : Encoding × Bool) (behind : List (Encoding × Bool)) → From bytes m k (slot ∷ behind) → From bytes m (k + 1) behind
tail_of bytes m k slot behind from = record {
  long = (let l = from.long in omega arith);
  each = λ j lt.
      let n : k + suc j ≡ (k + 1) + j = omega arith in
      rw n at (from.each (suc j) (omega arith));
}

second_next : (bytes : List ℕ) (k : ℕ) → is_second bytes (k + 1) ≡ ((encoding_at bytes k).opcode == 0x18 && not (is_second bytes k))
unfolding is_second
second_next bytes k = ap (is_second bytes) (add-one k)

flags_long : (es : List Encoding) (second : Bool) → length (with_seconds second es) ≡ length es
unfolding with_seconds
flags_long [] second = refl
flags_long (e ∷ es) second = ap suc (flags_long es _)

flags_each : (bytes : List ℕ) (es : List Encoding) (k : ℕ) (second : Bool) → second ≡ is_second bytes k → ((j : ℕ) (d : Encoding) → j < length es → slice_index_or es j d ≡ encoding_at bytes (k + j))
    → (j : ℕ) → j < length es → slot_ahead (with_seconds second es) j ≡ (encoding_at bytes (k + j), is_second bytes (k + j))
unfolding with_seconds
flags_each bytes [] k second is each j lt = absurd (omega arith)
flags_each bytes (e ∷ es) k second is each zero lt =
    let n : k + 0 ≡ k = omega arith in
    let here : e ≡ encoding_at bytes (k + 0) = each 0 e (omega arith) in
    rw (here, is, n) refl
flags_each bytes (e ∷ es) k second is each (suc j) lt =
    let n : (k + 1) + j ≡ k + suc j = omega arith in
    let zero' : k + 0 ≡ k = omega arith in
    let here : e ≡ encoding_at bytes k = rw zero' at (each 0 e (omega arith)) in
    let next : (e.opcode == 0x18 && not second) ≡ is_second bytes (k + 1) = rw (here, is) (sym (second_next bytes k)) in
    rw n at (flags_each bytes es (k + 1) (e.opcode == 0x18 && not second) next (λ i d l. let q : k + suc i ≡ (k + 1) + i = omega arith in rw q at (each (suc i) d (omega arith))) j (omega arith))

pub from_all : (bytes : List ℕ) (m : ℕ) → length bytes ≡ 8 * m → From bytes m 0 (slots_in bytes)
unfolding is_second
from_all bytes m len =
    let f = fields bytes m len in
    let long : length (slots_in bytes) ≡ m = flags_long (fields_of bytes) false ∙ f.long in
    record {
      long = omega arith;
      each = λ j lt. flags_each bytes (fields_of bytes) 0 false refl (λ i d l. let n : 0 + i ≡ i = omega arith in rw n (f.each i d (omega (arith, f.long)))) j (omega (arith, flags_long (fields_of bytes) false));
    }

-- ---- the sets

-- a set has the registers of which the test holds
holds_of : (f : ℕ → Bool) (r : ℕ) → r < 11 → holds (set_of f) r ≡ f r
holds_of f zero lt = refl
holds_of f (suc zero) lt = refl
holds_of f (suc (suc zero)) lt = refl
holds_of f (suc (suc (suc zero))) lt = refl
holds_of f (suc (suc (suc (suc zero)))) lt = refl
holds_of f (suc (suc (suc (suc (suc zero))))) lt = refl
holds_of f (suc (suc (suc (suc (suc (suc zero)))))) lt = refl
holds_of f (suc (suc (suc (suc (suc (suc (suc zero))))))) lt = refl
holds_of f (suc (suc (suc (suc (suc (suc (suc (suc zero)))))))) lt = refl
holds_of f (suc (suc (suc (suc (suc (suc (suc (suc (suc zero))))))))) lt = refl
holds_of f (suc (suc (suc (suc (suc (suc (suc (suc (suc (suc zero)))))))))) lt = refl
holds_of f (suc (suc (suc (suc (suc (suc (suc (suc (suc (suc (suc r))))))))))) lt = absurd (omega arith)

meets_met : (old : Option RegisterSet) (s : RegisterSet) → Meets old s (Some (met old s))
meets_met None s = λ r lt. refl
meets_met (Some t) s = λ r lt. holds_of (λ q. holds t q && holds s q) r lt

twice : (x y : Bool) → ((x && y) && y) ≡ (x && y)
twice true true = refl
twice true false = refl
twice false y = refl

-- two paths that come with one set are as one
meets_twice : (old : Option RegisterSet) (s : RegisterSet) → Meets old s (Some (met (Some (met old s)) s))
meets_twice old s = λ r lt.
    holds_of (λ q. holds (met old s) q && holds s q) r lt ∙ ap (λ b. b && holds s r) (meets_met old s r lt) ∙ twice (kept_holds old r) (holds s r)

meet_long : (n : ℕ) (s : RegisterSet) (sets : List (Option RegisterSet)) → length (meet_ahead n s sets) ≡ length sets
unfolding meet_ahead
meet_long n s [] = refl
meet_long zero s (kept ∷ sets) = refl
meet_long (suc n) s (kept ∷ sets) = ap suc (meet_long n s sets)

meet_here : (n : ℕ) (s : RegisterSet) (sets : List (Option RegisterSet)) → n < length sets → slice_index_or (meet_ahead n s sets) n None ≡ Some (met (slice_index_or sets n None) s)
unfolding meet_ahead
meet_here n s [] lt = absurd (omega arith)
meet_here zero s (kept ∷ sets) lt = refl
meet_here (suc n) s (kept ∷ sets) lt = meet_here n s sets (omega arith)

meet_other : (n : ℕ) (s : RegisterSet) (sets : List (Option RegisterSet)) (j : ℕ) → j ≢ n → slice_index_or (meet_ahead n s sets) j None ≡ slice_index_or sets j None
unfolding meet_ahead
meet_other n s [] j ne = refl
meet_other zero s (kept ∷ sets) zero ne = absurd (ne refl)
meet_other zero s (kept ∷ sets) (suc j) ne = refl
meet_other (suc n) s (kept ∷ sets) zero ne = refl
meet_other (suc n) s (kept ∷ sets) (suc j) ne = meet_other n s sets j (λ e. ne (ap suc e))

-- what is kept for a slot after a path that may come there: met where it does, the same where it doesn't
module _ (b : Bool) (n : ℕ) (s : RegisterSet) (sets : List (Option RegisterSet)) where
  abbrev going : List (Option RegisterSet)
  going = cond b (meet_ahead n s sets) sets

  going_long : length going ≡ length sets
  going_long = elim (cases_Bool b) [
    | inl yes' ↦ rw yes' (meet_long n s sets)
    | inr not' ↦ rw not' refl
  ]

  going_here : (j : ℕ) → j < length sets → (b && j == n) ≡ true → slice_index_or going j None ≡ Some (met (slice_index_or sets j None) s)
  going_here j lt h =
      let p = and_parts b (j == n) h in
      let same : n ≡ j = sym (eqb-true j n p.1) in
      rw (p.0, same) (meet_here j s sets lt)

  going_other : (j : ℕ) → (b && j == n) ≡ false → slice_index_or going j None ≡ slice_index_or sets j None
  going_other j h = elim (cases_Bool b) [
    | inl yes' ↦ rw yes' (meet_other n s sets j (λ e. both_ways (b && j == n) h (and_from b (j == n) yes' (eq-eqb j n e))))
    | inr not' ↦ rw not' refl
  ]

-- what is kept for each slot from a place on
abbrev pub KeptFrom : List ℕ → ℕ → List (Option RegisterSet) → Type 0
KeptFrom bytes k sets = (j : ℕ) → j < length sets → IsKept bytes k (k + j) (slice_index_or sets j None)

same_test : (a b c d : ℕ) → (a ≡ b → c ≡ d) → (c ≡ d → a ≡ b) → (a == b) ≡ (c == d)
same_test a b c d there back =
    elim (cases_Bool (c == d)) [
      | inl yes' ↦ eq-eqb a b (back (eqb-true c d yes')) ∙ sym yes'
      | inr not' ↦ elim (cases_Bool (a == b)) [
        | inl yes' ↦ absurd (both_ways (c == d) not' (eq-eqb c d (there (eqb-true a b yes'))))
        | inr none ↦ none ∙ sym not'
      ]
    ]

module _ (bytes : List ℕ) (k : ℕ) (i : Instruction) (s : RegisterSet) (sets : List (Option RegisterSet)) (found : instruction_at bytes k ≡ Some i) (here : IsKept bytes k k (Some s)) (was : (j : ℕ) → j < length sets → IsKept bytes k ((k + 1) + j) (slice_index_or sets j None)) where
  abbrev behind_set : RegisterSet
  behind_set = set_behind i s

  set_is : (r : ℕ) → r < 11 → holds behind_set r ≡ set_after (Some i) (holds s r) r
  set_is r lt = holds_of (λ q. set_after (Some i) (holds s q) q) r lt

  abbrev middle : List (Option RegisterSet)
  middle = fallen i behind_set sets

  abbrev after_all : List (Option RegisterSet)
  after_all = jumped i behind_set middle

  spread_long : length after_all ≡ length sets
  spread_long =
      going_long (goes_forward i) i.offset behind_set middle ∙ going_long (falls_through i.operation) (slots_of i.operation - 1) behind_set sets

  middle_long : length middle ≡ length sets
  middle_long = going_long (falls_through i.operation) (slots_of i.operation - 1) behind_set sets

  -- whether it falls through to a slot, and whether it jumps there
  abbrev falls_to : ℕ → Bool
  falls_to j = falls_through i.operation && j == (slots_of i.operation - 1)

  abbrev jumps_to : ℕ → Bool
  jumps_to j = goes_forward i && j == i.offset

  leads_is : (j : ℕ) → leads k i ((k + 1) + j) ≡ (falls_to j || jumps_to j)
  leads_is j =
      let one = some_slots i.operation in
      let falls : ((k + 1) + j == k + slots_of i.operation) ≡ (j == (slots_of i.operation - 1)) = same_test ((k + 1) + j) (k + slots_of i.operation) j (slots_of i.operation - 1) (λ e. omega arith) (λ e. omega arith) in
      let jumps : ((k + 1) + j == target k i) ≡ (j == i.offset) = same_test ((k + 1) + j) (target k i) j i.offset (λ e. omega arith) (λ e. omega arith) in
      ap (λ b. (falls_through i.operation && b) || (goes_forward i && ((k + 1) + j == target k i))) falls
      ∙ ap (λ b. falls_to j || (goes_forward i && b)) jumps

  led_to : (j : ℕ) → j < length sets → leads k i ((k + 1) + j) ≡ true → Meets (slice_index_or sets j None) behind_set (slice_index_or after_all j None) → IsKept bytes (k + 1) ((k + 1) + j) (slice_index_or after_all j None)
  led_to j lt led meets = led_any bytes k i s behind_set ((k + 1) + j) (slice_index_or sets j None) (slice_index_or after_all j None) found here set_is (was j lt) led meets

  spread_kept : (j : ℕ) → j < length sets → IsKept bytes (k + 1) ((k + 1) + j) (slice_index_or after_all j None)
  spread_kept j lt =
      let old : Option RegisterSet = slice_index_or sets j None in
      let mid_lt : j < length middle = omega (arith, middle_long) in
      elim (cases_Bool (falls_to j)) [
        | inl falls ↦
            let mid : slice_index_or middle j None ≡ Some (met old behind_set) = going_here (falls_through i.operation) (slots_of i.operation - 1) behind_set sets j lt falls in
            let led : leads k i ((k + 1) + j) ≡ true = leads_is j ∙ or_left (falls_to j) (jumps_to j) falls in
            elim (cases_Bool (jumps_to j)) [
              | inl jumps ↦
                  let new : slice_index_or after_all j None ≡ Some (met (Some (met old behind_set)) behind_set) = going_here (goes_forward i) i.offset behind_set middle j mid_lt jumps ∙ ap (λ (o : Option RegisterSet). Some (met o behind_set)) mid in
                  led_to j lt led (subst (Meets old behind_set) (sym new) (meets_twice old behind_set))
              | inr no_jump ↦
                  let new : slice_index_or after_all j None ≡ Some (met old behind_set) = going_other (goes_forward i) i.offset behind_set middle j no_jump ∙ mid in
                  led_to j lt led (subst (Meets old behind_set) (sym new) (meets_met old behind_set))
            ]
        | inr no_fall ↦
            let mid : slice_index_or middle j None ≡ old = going_other (falls_through i.operation) (slots_of i.operation - 1) behind_set sets j no_fall in
            elim (cases_Bool (jumps_to j)) [
              | inl jumps ↦
                  let led : leads k i ((k + 1) + j) ≡ true = leads_is j ∙ or_right (falls_to j) (jumps_to j) jumps in
                  let new : slice_index_or after_all j None ≡ Some (met old behind_set) = going_here (goes_forward i) i.offset behind_set middle j mid_lt jumps ∙ ap (λ (o : Option RegisterSet). Some (met o behind_set)) mid in
                  led_to j lt led (subst (Meets old behind_set) (sym new) (meets_met old behind_set))
              | inr no_jump ↦
                  let not_led : leads k i ((k + 1) + j) ≡ false = leads_is j ∙ ap (λ b. b || jumps_to j) no_fall ∙ no_jump in
                  let new : slice_index_or after_all j None ≡ old = going_other (goes_forward i) i.offset behind_set middle j no_jump ∙ mid in
                  subst (IsKept bytes (k + 1) ((k + 1) + j)) (sym new) (kept_same bytes k ((k + 1) + j) old (was j lt) (λ e path. both_ways (leads k i ((k + 1) + j)) not_led (at_found bytes k i (λ o. IsTrue (leads k o ((k + 1) + j))) found path.1)))
            ]
      ]

kept_long : (o : Option Instruction) (kept : Option RegisterSet) (sets : List (Option RegisterSet)) → length (kept_ahead o kept sets) ≡ length sets
kept_long None kept sets = refl
kept_long (Some i) None sets = refl
kept_long (Some i) (Some s) sets =
    going_long (goes_forward i) i.offset (set_behind i s) (fallen i (set_behind i s) sets) ∙ going_long (falls_through i.operation) (slots_of i.operation - 1) (set_behind i s) sets

-- behind a slot it is kept
kept_behind : (bytes : List ℕ) (k : ℕ) (o : Option Instruction) (kept : Option RegisterSet) (sets : List (Option RegisterSet)) → instruction_at bytes k ≡ o → IsKept bytes k k kept → ((j : ℕ) → j < length sets → IsKept bytes k ((k + 1) + j) (slice_index_or sets j None))
    → (j : ℕ) → j < length sets → IsKept bytes (k + 1) ((k + 1) + j) (slice_index_or (kept_ahead o kept sets) j None)
kept_behind bytes k None kept sets none here was j lt =
    kept_same bytes k ((k + 1) + j) (slice_index_or sets j None) (was j lt) (λ e path. subst (λ o. IsSomeAnd o (λ i. IsTrue (leads k i ((k + 1) + j)))) none path.1)
kept_behind bytes k (Some i) None sets found here was j lt =
    kept_same bytes k ((k + 1) + j) (slice_index_or sets j None) (was j lt) (λ e path. here.sound e path.2 (below_place bytes k e path.2))
kept_behind bytes k (Some i) (Some s) sets found here was j lt = spread_kept bytes k i s sets found here was j lt

-- the start
start_kept : (bytes : List ℕ) → IsKept bytes 0 0 (Some start_set)
start_kept bytes = record {
  sound = sound;
  reached = ([], refl, tt);
  unset = λ r lt e. ([], refl, tt, sym (holds_of (λ q. q == 1) r lt) ∙ e);
}
  where
    sound : (path : List ℕ) → IsPath bytes 0 path → IsBelow 0 path → (r : ℕ) → r < 11 → holds start_set r ≡ true → is_set bytes path r ≡ true
    sound [] is below r lt e = sym (holds_of (λ q. q == 1) r lt) ∙ e
    sound (q ∷ earlier) is below r lt e = absurd (omega arith)

none_kept : (bytes : List ℕ) (j : ℕ) → 0 < j → IsKept bytes 0 j None
none_kept bytes j some = record { sound = sound; reached = tt; unset = tt }
  where
    sound : (path : List ℕ) → IsPath bytes j path → IsBelow 0 path → ⊥
    sound [] is below = omega arith
    sound (q ∷ earlier) is below = omega arith

abbrev unreached : Encoding × Bool → Option RegisterSet
unreached slot = None

none_at : (slots : List (Encoding × Bool)) (j : ℕ) → slice_index_or (map unreached slots) j None ≡ None
none_at [] j = refl
none_at (slot ∷ slots) zero = refl
none_at (slot ∷ slots) (suc j) = none_at slots j

map_long : (slots : List (Encoding × Bool)) → length (map unreached slots) ≡ length slots
map_long [] = refl
map_long (slot ∷ slots) = ap suc (map_long slots)

kept_start_long : (slots : List (Encoding × Bool)) → length (kept_at_start slots) ≡ length slots
kept_start_long [] = refl
kept_start_long (slot ∷ slots) = ap suc (map_long slots)

kept_start : (bytes : List ℕ) (slots : List (Encoding × Bool)) → KeptFrom bytes 0 (kept_at_start slots)
kept_start bytes [] j lt = absurd (omega arith)
kept_start bytes (slot ∷ slots) zero lt = start_kept bytes
kept_start bytes (slot ∷ slots) (suc j) lt =
    let n : 0 + suc j ≡ suc j = omega arith in
    rw n (subst (IsKept bytes 0 (suc j)) (sym (none_at slots j)) (none_kept bytes (suc j) (omega arith)))

-- ---- the fault of a slot

-- the least fault at a place, or none
abbrev Least : List ℕ → ℕ → Option CodeWhy → Type 0
Least bytes k None = HasNone bytes k
Least bytes k (Some why) = IsLeast bytes k why

-- one test of a chain
peel : (b : Bool) (why : CodeWhy) (rest : Option CodeWhy) (P : Option CodeWhy → Type 0) → (b ≡ true → P (Some why)) → (b ≡ false → P rest) → P (cond b (Some why) rest)
peel true why rest P yes' not' = yes' refl
peel false why rest P yes' not' = not' refl

-- past the end all fields are 0
past_end : (bytes : List ℕ) (m : ℕ) → length bytes ≡ 8 * m → encoding_at bytes m ≡ no_fields
unfolding encoding_at
past_end bytes m len =
    let at : (i : ℕ) → byte_at bytes m i ≡ 0 = λ i. get_or_past bytes (8 * m + i) 0 (omega arith) in
    rw (at 0, at 1, at 2, at 3, at 4, at 5, at 6, at 7) refl

module _ (bytes : List ℕ) (m : ℕ) (len : length bytes ≡ 8 * m) (k : ℕ) (lt : k < m) (few : m ≤ 4096) (behind : List (Encoding × Bool)) (from : From bytes m (k + 1) behind) where
  -- the slot behind has the next place's fields
  next_fields : (slot_ahead behind 0).0 ≡ encoding_at bytes (k + 1)
  next_fields = go behind from
    where
      go : (slots : List (Encoding × Bool)) → From bytes m (k + 1) slots → (slot_ahead slots 0).0 ≡ encoding_at bytes (k + 1)
      go [] f =
          let end : k + 1 ≡ m = let l = f.long in omega arith in
          rw end (sym (past_end bytes m len))
      go (slot ∷ slots) f = ap (λ (x : Encoding × Bool). x.0) (head_of bytes m (k + 1) slot slots f)

  -- the slot at a jump's distance is flagged where the jump enters a wide instruction
  enters_ahead : (i : Instruction) → enters_wide bytes k i ≡ (goes_forward i && (slot_ahead behind i.offset).1)
  enters_ahead i =
      let count = count_is bytes m len in
      let l = from.long in
      let g : Bool = goes_forward i in
      let t : ℕ = target k i in
      elim (cases_lt i.offset (length behind)) [
        | inl inside ↦
            let a : nat_lt t (slot_count bytes) ≡ true = lt-ltb t (slot_count bytes) (omega arith) in
            let flag : (slot_ahead behind i.offset).1 ≡ is_second bytes t = ap (λ (x : Encoding × Bool). x.1) (from.each i.offset inside) in
            ap (λ x. (g && x) && is_second bytes t) a ∙ keep g (is_second bytes t) ∙ ap (λ x. g && x) (sym flag)
        | inr past ↦
            let a : nat_lt t (slot_count bytes) ≡ false = le-ltb t (slot_count bytes) (omega arith) in
            let flag : (slot_ahead behind i.offset).1 ≡ false = ap (λ (x : Encoding × Bool). x.1) (get_or_past behind i.offset (no_fields, false) past) in
            ap (λ x. (g && x) && is_second bytes t) a ∙ lose g (is_second bytes t) ∙ ap (λ x. g && x) (sym flag)
      ]

  module _ (i : Instruction) (found : instruction_at bytes k ≡ Some i) (kept : Option RegisterSet) (is_kept : IsKept bytes k k kept) where
    least_of : Least bytes k (fault_of m k i behind kept)
    least_of =
        peel (misuses_register i) Register _ (Least bytes k)
        (λ y. (at_from bytes k i (λ j. IsTrue (misuses_register j)) found y, least bytes m k 3 i len lt few (record { found = found; registers = λ h. absurd (omega arith); forward = λ h. absurd (omega arith); within = λ h. absurd (omega arith); set = λ h v. absurd (omega arith); exit = λ h. absurd (omega arith); whole = λ h. absurd (omega arith); fields = λ h. absurd (omega arith) })))
        (λ r. peel (goes_backward i) Backward _ (Least bytes k)
        (λ y. (at_from bytes k i (λ j. IsTrue (goes_backward j)) found y, least bytes m k 4 i len lt few (record { found = found; registers = λ h. r; forward = λ h. absurd (omega arith); within = λ h. absurd (omega arith); set = λ h v. absurd (omega arith); exit = λ h. absurd (omega arith); whole = λ h. absurd (omega arith); fields = λ h. absurd (omega arith) })))
        (λ b. peel (goes_beyond m k i) Beyond _ (Least bytes k)
        (λ y. (at_from bytes k i (λ j. IsTrue (goes_beyond (slot_count bytes) k j)) found (counted bytes m k goes_beyond i len y), least bytes m k 5 i len lt few (record { found = found; registers = λ h. r; forward = λ h. b; within = λ h. absurd (omega arith); set = λ h v. absurd (omega arith); exit = λ h. absurd (omega arith); whole = λ h. absurd (omega arith); fields = λ h. absurd (omega arith) })))
        (λ w. peel (kept_lacks kept i) Unset _ (Least bytes k)
        (λ y. (at_from bytes k i (ReadsUnset bytes k) found (unset_found bytes k kept i is_kept r y), least bytes m k 6 i len lt few (record { found = found; registers = λ h. r; forward = λ h. b; within = λ h. w; set = λ h v. absurd (omega arith); exit = λ h. absurd (omega arith); whole = λ h. absurd (omega arith); fields = λ h. absurd (omega arith) })))
        (λ u. peel (lacks_exit m k i) NoExit _ (Least bytes k)
        (λ y. (at_from bytes k i (λ j. IsTrue (lacks_exit (slot_count bytes) k j)) found (counted bytes m k lacks_exit i len y), least bytes m k 7 i len lt few (record { found = found; registers = λ h. r; forward = λ h. b; within = λ h. w; set = λ h. unset_none bytes k kept i is_kept r u; exit = λ h. absurd (omega arith); whole = λ h. absurd (omega arith); fields = λ h. absurd (omega arith) })))
        (λ x. peel (goes_forward i && (slot_ahead behind i.offset).1) HalfWide _ (Least bytes k)
        (λ y. (at_from bytes k i (λ j. IsTrue (enters_wide bytes k j)) found (enters_ahead i ∙ y), least bytes m k 8 i len lt few (record { found = found; registers = λ h. r; forward = λ h. b; within = λ h. w; set = λ h. unset_none bytes k kept i is_kept r u; exit = λ h. x; whole = λ h. absurd (omega arith); fields = λ h. absurd (omega arith) })))
        (λ e. peel (misuses_field i (slot_ahead behind 0).0) Field None (Least bytes k)
        (λ y. (at_from bytes k i (λ j. IsTrue (misuses_field j (encoding_at bytes (k + 1)))) found (ap (misuses_field i) (sym next_fields) ∙ y), least bytes m k 10 i len lt few (record { found = found; registers = λ h. r; forward = λ h. b; within = λ h. w; set = λ h. unset_none bytes k kept i is_kept r u; exit = λ h. x; whole = λ h. enters_ahead i ∙ e; fields = λ h. absurd (omega arith) })))
        (λ f. none_left bytes m k i len lt few (record { found = found; registers = λ h. r; forward = λ h. b; within = λ h. w; set = λ h. unset_none bytes k kept i is_kept r u; exit = λ h. x; whole = λ h. enters_ahead i ∙ e; fields = λ h. ap (misuses_field i) (sym next_fields) ∙ f }))))))))

no_operation : (o : Option Operation) (e : Encoding) → option_map (λ p. instruction p e) o ≡ None → o ≡ None
no_operation None e h = refl
no_operation (Some p) e h = absurd cc

-- what an answer says of the bytes
abbrev pub Answer : List ℕ → Option CodeFault → Type 0
Answer bytes None = NoFault bytes
Answer bytes (Some fault) = IsFirstFault bytes fault

module _ (bytes : List ℕ) (m : ℕ) (len : length bytes ≡ 8 * m) (some : 0 < m) (few : m ≤ 4096) where
  -- where no instruction begins at a first slot, no fault has a number below that of Opcode
  opcode_least : (k : ℕ) (why : CodeWhy) → HasFault bytes k why → 2 ≤ number why
  opcode_least k Length h = absurd (let t = turn_one bytes m len some few k Length h in omega arith)
  opcode_least k Opcode h = omega arith
  opcode_least k Register h = omega arith
  opcode_least k Backward h = omega arith
  opcode_least k Beyond h = omega arith
  opcode_least k Unset h = omega arith
  opcode_least k NoExit h = omega arith
  opcode_least k HalfWide h = omega arith
  opcode_least k TooMany h = omega arith
  opcode_least k Field h = omega arith

  -- the instruction that begins at a slot
  begun_is : (k : ℕ) (e : Encoding) (second : Bool) → k < m → e ≡ encoding_at bytes k → second ≡ is_second bytes k → instruction_at bytes k ≡ begun e second
  begun_is k e true lt fields is = none_of bytes k (sym is)
  begun_is k e false lt fields is =
      let within : k < slot_count bytes = omega (arith, count_is bytes m len) in
      at_is bytes k within (sym is) ∙ ap instruction_of (sym fields)

  module _ (k : ℕ) (lt : k < m) (behind : List (Encoding × Bool)) (from : From bytes m (k + 1) behind) (kept : Option RegisterSet) (is_kept : IsKept bytes k k kept) where
    least_first : (o : Option Instruction) → is_second bytes k ≡ false → instruction_of (encoding_at bytes k) ≡ o → Least bytes k (fault_at_first m k o behind kept)
    least_first None first' is = ((omega (arith, count_is bytes m len), first', no_operation _ (encoding_at bytes k) is), opcode_least k)
    least_first (Some i) first' is = least_of bytes m len k lt few behind from i (begun_is k (encoding_at bytes k) false lt refl (sym first') ∙ is) kept is_kept

    least_at : (e : Encoding) (second : Bool) → e ≡ encoding_at bytes k → second ≡ is_second bytes k → Least bytes k (fault_at m k e second behind kept)
    least_at e true fields is = second_none bytes m k len some few (sym is)
    least_at e false fields is = least_first (instruction_of e) (sym is) (ap instruction_of (sym fields))

  -- ---- the first fault of all

  answer_later : (k : ℕ) (o : Option CodeWhy) (later : Option CodeFault) → ((p : ℕ) → p < k → HasNone bytes p) → Least bytes k o → (HasNone bytes k → Answer bytes later) → Answer bytes (or_later k o later)
  answer_later k None later none here on = on here
  answer_later k (Some why) later none here on = (here.0, first bytes m k why len some few none here)

  answer_from : (slots : List (Encoding × Bool)) (sets : List (Option RegisterSet)) (k : ℕ) → From bytes m k slots → length sets ≡ length slots → KeptFrom bytes k sets → ((p : ℕ) → p < k → HasNone bytes p) → Answer bytes (fault_from m k slots sets)
  unfolding fault_from
  answer_from [] sets k from long kept none = all_none bytes m len some few (λ p lt. none p (let l = from.long in omega arith))
  answer_from (slot ∷ behind) [] k from long kept none = absurd (omega arith)
  answer_from (slot ∷ behind) (here ∷ sets) k from long kept none =
      let l = from.long in
      let lt : k < m = omega arith in
      let head = head_of bytes m k slot behind from in
      let fields : slot.0 ≡ encoding_at bytes k = ap (λ (x : Encoding × Bool). x.0) head in
      let second : slot.1 ≡ is_second bytes k = ap (λ (x : Encoding × Bool). x.1) head in
      let tail = tail_of bytes m k slot behind from in
      let zero' : k + 0 ≡ k = omega arith in
      let now : IsKept bytes k k here = subst (λ q. IsKept bytes k q here) zero' (kept 0 (omega arith)) in
      let was : (j : ℕ) → j < length sets → IsKept bytes k ((k + 1) + j) (slice_index_or sets j None) = λ j small. let n : k + suc j ≡ (k + 1) + j = omega arith in subst (λ q. IsKept bytes k q (slice_index_or sets j None)) n (kept (suc j) (omega arith)) in
      let o : Option Instruction = begun slot.0 slot.1 in
      answer_later k _ _ none (least_at k lt behind tail here now slot.0 slot.1 fields second)
      (λ clean. answer_from behind (kept_ahead o here sets) (k + 1) tail (kept_long o here sets ∙ (let e : length sets ≡ length behind = omega arith in e))
      (λ j small. kept_behind bytes k o here sets (begun_is k slot.0 slot.1 lt fields second) now was j (omega (arith, kept_long o here sets)))
      (below_more (λ p. HasNone bytes p) k none clean))

-- a fault of the length comes before all others
length_first : (bytes : List ℕ) (p : ℕ) (why : CodeWhy) → HasFault bytes p why → IsNoLater Length 0 why p
length_first bytes p Length h = inr (refl, inr (sym h.0, omega arith))
length_first bytes p Opcode h = inl (omega arith)
length_first bytes p Register h = inl (omega arith)
length_first bytes p Backward h = inl (omega arith)
length_first bytes p Beyond h = inl (omega arith)
length_first bytes p Unset h = inl (omega arith)
length_first bytes p NoExit h = inl (omega arith)
length_first bytes p HalfWide h = inl (omega arith)
length_first bytes p TooMany h = inr (refl, inl (omega (arith, h.0)))
length_first bytes p Field h = inl (omega arith)

many_first : (bytes : List ℕ) → (HasFault bytes 0 Length → ⊥) → (p : ℕ) (why : CodeWhy) → HasFault bytes p why → IsNoLater TooMany 4096 why p
many_first bytes whole p Length h = absurd (whole (refl, h.1))
many_first bytes whole p Opcode h = inl (omega arith)
many_first bytes whole p Register h = inl (omega arith)
many_first bytes whole p Backward h = inl (omega arith)
many_first bytes whole p Beyond h = inl (omega arith)
many_first bytes whole p Unset h = inl (omega arith)
many_first bytes whole p NoExit h = inl (omega arith)
many_first bytes whole p HalfWide h = inl (omega arith)
many_first bytes whole p TooMany h = inr (refl, inr (sym h.0, omega arith))
many_first bytes whole p Field h = inl (omega arith)

-- what is no multiple of 8, or nothing
wrong_length : (n : ℕ) → (n == 0 || not (n % 8 == 0)) ≡ true → (n ≡ 0) ⊎ (n % 8 ≢ 0)
wrong_length n h =
    elim (or_cases (n == 0) (not (n % 8 == 0)) h) [
      | inl x ↦ inl (eqb-true n 0 x)
      | inr x ↦ inr (λ e. both_ways (n % 8 == 0) (not-true (n % 8 == 0) x) (eq-eqb (n % 8) 0 e))
    ]

-- a chain of two tests, and what is so in each case
two_tests : (a b : Bool) (x y z : Option CodeFault) (P : Option CodeFault → Type 0) → (a ≡ true → P x) → (a ≡ false → b ≡ true → P y) → (a ≡ false → b ≡ false → P z) → P (cond a x (cond b y z))
two_tests true b x y z P p q r = p refl
two_tests false true x y z P p q r = q refl refl
two_tests false false x y z P p q r = r refl refl

-- the answer is right
pub first_answer : (bytes : List ℕ) → Answer bytes (first_fault bytes)
unfolding first_fault
first_answer bytes =
    let n : ℕ = length bytes in
    let m : ℕ = slot_count bytes in
    two_tests (n == 0 || not (n % 8 == 0)) (nat_lt 4096 m) (Some (record { why = Length; place = 0 })) (Some (record { why = TooMany; place = 4096 }))
    (fault_from m 0 (slots_in bytes) (kept_at_start (slots_in bytes))) (Answer bytes)
    (λ a. ((refl, wrong_length n a), length_first bytes))
    (λ a b. ((refl, ltb-true 4096 m b), many_first bytes (λ h. whole a h.1)))
    (λ a b.
    let p = or_parts (n == 0) (not (n % 8 == 0)) a in
    let even : n % 8 ≡ 0 = eqb-true (n % 8) 0 (not-false (n % 8 == 0) p.1) in
    let some' : n ≢ 0 = λ e. both_ways (n == 0) p.0 (eq-eqb n 0 e) in
    let len : n ≡ 8 * m = omega arith in
    answer_from bytes m len (omega arith) (ltb-false 4096 m b) (slots_in bytes) (kept_at_start (slots_in bytes)) 0 (from_all bytes m len) (kept_start_long (slots_in bytes)) (kept_start bytes (slots_in bytes)) (λ p lt. absurd (omega arith)))
  where
    whole : (length bytes == 0 || not (length bytes % 8 == 0)) ≡ false → (length bytes ≡ 0) ⊎ (length bytes % 8 ≢ 0) → ⊥
    whole a h =
        let p = or_parts (length bytes == 0) (not (length bytes % 8 == 0)) a in
        elim h [
          | inl e ↦ both_ways (length bytes == 0) p.0 (eq-eqb (length bytes) 0 e)
          | inr ne ↦ ne (eqb-true (length bytes % 8) 0 (not-false (length bytes % 8 == 0) p.1))
        ]

-- ---- there is one first fault

-- each of two numbers in an order by turn, place and number comes no later than the other only if they are equal
same_order : (t t' p p' n n' : ℕ) → (t < t') ⊎ ((t ≡ t') × ((p < p') ⊎ ((p ≡ p') × (n ≤ n')))) → (t' < t) ⊎ ((t' ≡ t) × ((p' < p) ⊎ ((p' ≡ p) × (n' ≤ n)))) → (p ≡ p') × (n ≡ n')
same_order t t' p p' n n' (inl a) (inl b) = absurd (omega arith)
same_order t t' p p' n n' (inl a) (inr b) = absurd (omega (arith, b.0))
same_order t t' p p' n n' (inr a) (inl b) = absurd (omega (arith, a.0))
same_order t t' p p' n n' (inr a) (inr b) = both a.1 b.1
  where
    both : (p < p') ⊎ ((p ≡ p') × (n ≤ n')) → (p' < p) ⊎ ((p' ≡ p) × (n' ≤ n)) → (p ≡ p') × (n ≡ n')
    both (inl x) (inl y) = absurd (omega arith)
    both (inl x) (inr y) = absurd (omega (arith, y.0))
    both (inr x) (inl y) = absurd (omega (arith, x.0))
    both (inr x) (inr y) = (x.0, omega (arith, x.1, y.1))

-- the fault of a number
why_of : ℕ → CodeWhy
why_of n =
    cond (n == 1) Length (cond (n == 2) Opcode (cond (n == 3) Register (cond (n == 4) Backward (cond (n == 5) Beyond (cond (n == 6) Unset
    (cond (n == 7) NoExit (cond (n == 8) HalfWide (cond (n == 9) TooMany Field))))))))

of_number : (why : CodeWhy) → why_of (number why) ≡ why
unfolding why_of
of_number Length = refl
of_number Opcode = refl
of_number Register = refl
of_number Backward = refl
of_number Beyond = refl
of_number Unset = refl
of_number NoExit = refl
of_number HalfWide = refl
of_number TooMany = refl
of_number Field = refl

pub one_first : (bytes : List ℕ) (f g : CodeFault) → IsFirstFault bytes f → IsFirstFault bytes g → f ≡ g
one_first bytes f g is is' =
    let same = same_order (turn f.why) (turn g.why) f.place g.place (number f.why) (number g.why) (is.1 g.place g.why is'.0) (is'.1 f.place f.why is.0) in
    let why : f.why ≡ g.why = sym (of_number f.why) ∙ ap why_of same.1 ∙ of_number g.why in
    fault_same f.why g.why f.place g.place why same.0
  where
    fault_same : (w w' : CodeWhy) (p p' : ℕ) → w ≡ w' → p ≡ p' → ◌≡◌ {A = CodeFault} (record { why = w; place = p }) (record { why = w'; place = p' })
    fault_same w w' p p' e e' = rw (e, e') refl

-- ---- the law

pub first_is : (bytes : List ℕ) (fault : CodeFault) (o : Option CodeFault) → Answer bytes o → IsFirstFault bytes fault → o ≡ Some fault
first_is bytes fault None none is = absurd (none fault.place fault.why is.0)
first_is bytes fault (Some g) g_is is = ap Some (one_first bytes g fault g_is is)

pub none_is : (bytes : List ℕ) (o : Option CodeFault) → Answer bytes o → NoFault bytes → o ≡ None
none_is bytes None none sound = refl
none_is bytes (Some g) g_is sound = absurd (sound g.place g.why g_is.0)
