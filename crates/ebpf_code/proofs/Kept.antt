-- One more instruction: what is kept for each place is still the set of what is set on all paths so far.
use Rattle.std.proofs.Common.{◌≡◌, ℕ, ◌+◌, ◌<◌, ◌≤◌, List, [], ◌∷◌, length, Bool, true, false, ◌&&◌, Option, Some, None, refl, sym, ap, ◌∙◌, subst, inl, inr, arith}
use Rattle.std.proofs.lemmas.Bool.{both_ways, cases_lt, cases_Bool, or_cases, and_parts, and_cases, eqb-true}
use Rattle.std.specs.Prelude.{◌==◌, IsSomeAnd, IfSome, IsTrue, if◌then◌else◌}
use Rattle.ebpf_code.specs.declared.set.RegisterSet.{RegisterSet}
use Rattle.ebpf_code.specs.declared.instruction.Instruction.{Instruction}
use Rattle.ebpf_code.specs.declared.operation.Operation.{Operation}
use Rattle.ebpf_code.specs.declared.operation.Operation.TheVariants.{Calculate, Negate, SwapBytes, LoadImmediate, LoadFrame, Jump, Branch, Exit}
use Rattle.ebpf_code.specs.Instruction.{falls_through, slots_of, goes_forward, target, leads, writes, spoils}
use Rattle.ebpf_code.specs.Faults.{instruction_at, IsPath, is_set, set_after}
use Rattle.ebpf_code.specs.Sets.{holds, kept_holds, Meets, IsBelow, IsKept, AreKept, kept_at}
use Rattle.ebpf_code.proofs.Checks.{at_found, at_from, below_place}

below_next : (k : ℕ) (path : List ℕ) → IsBelow k path → IsBelow (k + 1) path
below_next k [] b = tt
below_next k (q ∷ path) b = omega arith

-- one slot at least
pub some_slots : (o : Operation) → 1 ≤ slots_of o
some_slots (Calculate w a s) = omega arith
some_slots (Negate w) = omega arith
some_slots (SwapBytes o) = omega arith
some_slots LoadImmediate = omega arith
some_slots (LoadFrame m z) = omega arith
some_slots Jump = omega arith
some_slots (Branch w c s) = omega arith
some_slots Exit = omega arith

-- an instruction leads to later places only
pub leads_later : (k : ℕ) (i : Instruction) (p : ℕ) → leads k i p ≡ true → k < p
leads_later k i p h =
    elim (or_cases (falls_through i.operation && p == k + slots_of i.operation) (goes_forward i && p == target k i) h) [
      | inl x ↦ let e = eqb-true p (k + slots_of i.operation) (and_parts (falls_through i.operation) (p == k + slots_of i.operation) x).1 in let one = some_slots i.operation in omega arith
      | inr x ↦ let e : p ≡ k + 1 + i.offset = eqb-true p (target k i) (and_parts (goes_forward i) (p == target k i) x).1 in omega arith
    ]

-- no path comes to a place through k
abbrev pub NotThrough : List ℕ → ℕ → ℕ → Type 0
NotThrough bytes k p = (e : List ℕ) → IsPath bytes p (k ∷ e) → ⊥

same_sound : (bytes : List ℕ) (k p : ℕ) (kept : Option RegisterSet) → IsKept bytes k p kept → NotThrough bytes k p → (path : List ℕ) → IsPath bytes p path → IsBelow (k + 1) path → IsSomeAnd kept (λ s. (r : ℕ) → r < 11 → holds s r ≡ true → is_set bytes path r ≡ true)
same_sound bytes k p kept old apart [] path b = old.sound [] path tt
same_sound bytes k p kept old apart (q ∷ e) path b =
    elim (cases_lt q k) [
      | inl lt ↦ old.sound (q ∷ e) path lt
      | inr le ↦ let same : q ≡ k = omega arith in absurd (apart e (subst (λ x. IsPath bytes p (x ∷ e)) same path))
    ]

same_reached : (bytes : List ℕ) (k p : ℕ) (kept : Option RegisterSet) → IfSome kept (λ s. (path : List ℕ) × IsPath bytes p path × IsBelow k path) → IfSome kept (λ s. (path : List ℕ) × IsPath bytes p path × IsBelow (k + 1) path)
same_reached bytes k p None h = tt
same_reached bytes k p (Some s) h = (h.0, h.1, below_next k h.0 h.2)

same_unset : (bytes : List ℕ) (k p : ℕ) (kept : Option RegisterSet) → IfSome kept (λ s. (r : ℕ) → r < 11 → holds s r ≡ false → (path : List ℕ) × IsPath bytes p path × IsBelow k path × (is_set bytes path r ≡ false)) → IfSome kept (λ s. (r : ℕ) → r < 11 → holds s r ≡ false → (path : List ℕ) × IsPath bytes p path × IsBelow (k + 1) path × (is_set bytes path r ≡ false))
same_unset bytes k p None h = tt
same_unset bytes k p (Some s) h = λ r lt f. let x = h r lt f in (x.0, x.1, below_next k x.0 x.2, x.3)

pub kept_same : (bytes : List ℕ) (k p : ℕ) (kept : Option RegisterSet) → IsKept bytes k p kept → NotThrough bytes k p → IsKept bytes (k + 1) p kept
kept_same bytes k p kept old apart = record {
  sound = same_sound bytes k p kept old apart;
  reached = same_reached bytes k p kept old.reached;
  unset = same_unset bytes k p kept old.unset;
}

-- what holds of the registers of what was kept
from_old : (old : Option RegisterSet) (Q : ℕ → Type 0) → IsSomeAnd old (λ s. (r : ℕ) → r < 11 → holds s r ≡ true → Q r) → (r : ℕ) → r < 11 → kept_holds old r ≡ true → Q r
from_old None Q h r lt e = absurd h
from_old (Some s) Q h r lt e = h r lt e

grows : (w s : Bool) → (if w then true else (if s then false else false)) ≡ true → (if w then true else (if s then false else true)) ≡ true
grows true s h = refl
grows false true h = cc
grows false false h = refl

-- what is set before an instruction and is set after it
after_grows : (i : Instruction) (r : ℕ) (x y : Bool) → (x ≡ true → y ≡ true) → set_after (Some i) x r ≡ true → set_after (Some i) y r ≡ true
after_grows i r true y le h = subst (λ b. set_after (Some i) b r ≡ true) (sym (le refl)) h
after_grows i r false true le h = grows (writes i r) (spoils i r) h
after_grows i r false false le h = h

unset_old : (bytes : List ℕ) (k p : ℕ) (old : Option RegisterSet) (r : ℕ) → IsKept bytes k p old → r < 11 → kept_holds old r ≡ false → (path : List ℕ) × IsPath bytes p path × IsBelow (k + 1) path × (is_set bytes path r ≡ false)
unset_old bytes k p None r kept lt h = cc
unset_old bytes k p (Some s) r kept lt h = let x = kept.unset r lt h in (x.0, x.1, below_next k x.0 x.2, x.3)

module _ (bytes : List ℕ) (k : ℕ) (i : Instruction) (found : instruction_at bytes k ≡ Some i) where
  -- a path through k goes on where the instruction leads
  onward : (p : ℕ) (e : List ℕ) → leads k i p ≡ true → IsPath bytes k e → IsPath bytes p (k ∷ e)
  onward p e led path = (leads_later k i p led, at_from bytes k i (λ j. IsTrue (leads k j p)) found led, path)

  set_onward : (e : List ℕ) (r : ℕ) → is_set bytes (k ∷ e) r ≡ set_after (Some i) (is_set bytes e r) r
  set_onward e r = ap (λ o. set_after o (is_set bytes e r) r) found

  module _ (s a t : RegisterSet) (p : ℕ) (old : Option RegisterSet) (here : IsKept bytes k k (Some s)) (after : (r : ℕ) → r < 11 → holds a r ≡ set_after (Some i) (holds s r) r) (was : IsKept bytes k p old) (led : leads k i p ≡ true) (meets : (r : ℕ) → r < 11 → holds t r ≡ (kept_holds old r && holds a r)) where
    led_old : (path : List ℕ) → IsPath bytes p path → IsBelow k path → (r : ℕ) → r < 11 → holds t r ≡ true → is_set bytes path r ≡ true
    led_old path is below r lt h =
        from_old old (λ q. is_set bytes path q ≡ true) (was.sound path is below) r lt (and_parts (kept_holds old r) (holds a r) (sym (meets r lt) ∙ h)).0

    led_here : (e : List ℕ) → IsPath bytes k e → (r : ℕ) → r < 11 → holds t r ≡ true → is_set bytes (k ∷ e) r ≡ true
    led_here e is r lt h =
        let x = (and_parts (kept_holds old r) (holds a r) (sym (meets r lt) ∙ h)).1 in
        set_onward e r ∙ after_grows i r (holds s r) (is_set bytes e r) (here.sound e is (below_place bytes k e is) r lt) (sym (after r lt) ∙ x)

    led_sound : (path : List ℕ) → IsPath bytes p path → IsBelow (k + 1) path → (r : ℕ) → r < 11 → holds t r ≡ true → is_set bytes path r ≡ true
    led_sound [] is below r lt h = led_old [] is tt r lt h
    led_sound (q ∷ e) is below r lt h =
        elim (cases_lt q k) [
          | inl less ↦ led_old (q ∷ e) is less r lt h
          | inr le ↦
              let same : q ≡ k = omega arith in
              let is' = subst (λ x. IsPath bytes p (x ∷ e)) same is in
              subst (λ x. is_set bytes (x ∷ e) r ≡ true) (sym same) (led_here e is'.2 r lt h)
        ]

    -- some path to k has the register as the set has it
    exact : (r : ℕ) → r < 11 → (e : List ℕ) × IsPath bytes k e × (is_set bytes e r ≡ holds s r)
    exact r lt =
        elim (cases_Bool (holds s r)) [
          | inl is' ↦ let x = here.reached in (x.0, x.1, here.sound x.0 x.1 x.2 r lt is' ∙ sym is')
          | inr not' ↦ let x = here.unset r lt not' in (x.0, x.1, x.3 ∙ sym not')
        ]

    led_unset : (r : ℕ) → r < 11 → holds t r ≡ false → (path : List ℕ) × IsPath bytes p path × IsBelow (k + 1) path × (is_set bytes path r ≡ false)
    led_unset r lt h =
        elim (and_cases (kept_holds old r) (holds a r) (sym (meets r lt) ∙ h)) [
          | inl x ↦ unset_old bytes k p old r was lt x
          | inr x ↦
              let e = exact r lt in
              let below : k < k + 1 = omega arith in
              (k ∷ e.0, onward p e.0 led e.1, below, set_onward e.0 r ∙ ap (λ b. set_after (Some i) b r) e.2 ∙ sym (after r lt) ∙ x)
        ]

    kept_led : IsKept bytes (k + 1) p (Some t)
    kept_led = record {
      sound = led_sound;
      reached = (let x = here.reached in let below : k < k + 1 = omega arith in (k ∷ x.0, onward p x.0 led x.1, below));
      unset = led_unset;
    }

-- where no instruction begins, or no path comes, nothing changes
pub kept_past : (bytes : List ℕ) (k : ℕ) (sets : List (Option RegisterSet)) → AreKept bytes k sets → instruction_at bytes k ≡ None → AreKept bytes (k + 1) sets
kept_past bytes k sets kept none = λ p lt. kept_same bytes k p (kept_at sets p) (kept p lt) (λ e path. subst (λ o. IsSomeAnd o (λ i. IsTrue (leads k i p))) none path.1)

pub kept_unreached : (bytes : List ℕ) (k : ℕ) (sets : List (Option RegisterSet)) → AreKept bytes k sets → k < length sets → kept_at sets k ≡ None → AreKept bytes (k + 1) sets
kept_unreached bytes k sets kept here none = λ p lt.
    kept_same bytes k p (kept_at sets p) (kept p lt) (λ e path. subst (λ o. IsSomeAnd o (λ s. (r : ℕ) → r < 11 → holds s r ≡ true → is_set bytes e r ≡ true)) none ((kept k here).sound e path.2 (below_place bytes k e path.2)))

pub led_any : (bytes : List ℕ) (k : ℕ) (i : Instruction) (s a : RegisterSet) (p : ℕ) (old new : Option RegisterSet) → instruction_at bytes k ≡ Some i → IsKept bytes k k (Some s) → ((r : ℕ) → r < 11 → holds a r ≡ set_after (Some i) (holds s r) r) → IsKept bytes k p old → leads k i p ≡ true → Meets old a new → IsKept bytes (k + 1) p new
led_any bytes k i s a p old None found here after was led meets = absurd meets
led_any bytes k i s a p old (Some t) found here after was led meets = kept_led bytes k i found s a t p old here after was led meets

pub kept_spread : (bytes : List ℕ) (k : ℕ) (i : Instruction) (s a : RegisterSet) (sets new : List (Option RegisterSet)) → instruction_at bytes k ≡ Some i → AreKept bytes k sets → k < length sets → length new ≡ length sets → kept_at sets k ≡ Some s → ((r : ℕ) → r < 11 → holds a r ≡ set_after (Some i) (holds s r) r) → ((p : ℕ) → leads k i p ≡ true → Meets (kept_at sets p) a (kept_at new p)) → ((p : ℕ) → leads k i p ≡ false → kept_at new p ≡ kept_at sets p) → AreKept bytes (k + 1) new
kept_spread bytes k i s a sets new found kept here long was after next others = λ p lt.
    let within : p < length sets = omega arith in
    let k-kept = subst (IsKept bytes k k) was (kept k here) in
    elim (cases_Bool (leads k i p)) [
      | inl is' ↦ led_any bytes k i s a p (kept_at sets p) (kept_at new p) found k-kept after (kept p within) is' (next p is')
      | inr not' ↦ subst (IsKept bytes (k + 1) p) (sym (others p not')) (kept_same bytes k p (kept_at sets p) (kept p within) (λ e path. both_ways (leads k i p) not' (at_found bytes k i (λ j. IsTrue (leads k j p)) found path.1)))
    ]
