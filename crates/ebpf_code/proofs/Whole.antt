-- From the places to the whole program.
use Rattle.std.proofs.Common.{◌≡◌, ℕ, zero, suc, ◌+◌, ◌*◌, ◌<◌, ◌≤◌, List, [], ◌∷◌, ◌++◌, length, below_more, true, Some, None, refl, sym, ◌∙◌, subst, inl, inr, arith}
use Rattle.std.proofs.lemmas.Bool.{both_ways, cases_lt}
use Rattle.std.specs.Prelude.{IsSomeAnd, slice_get}
use Rattle.ebpf_code.specs.declared.fault.CodeWhy.{CodeWhy}
use Rattle.ebpf_code.specs.declared.fault.CodeWhy.TheVariants.{Length, Opcode, Register, Backward, Beyond, Unset, NoExit, HalfWide, TooMany, Field}
use Rattle.ebpf_code.specs.declared.instruction.Slot.{Slot}
use Rattle.ebpf_code.specs.declared.instruction.Instruction.{Instruction}
use Rattle.ebpf_code.specs.Faults.{is_second, instruction_at, slot_at, At, HasFault, HasNone, NoFault, IsLeast, turn, IsNoLater}
use Rattle.ebpf_code.proofs.Checks.{count_is}
use Rattle.ebpf_code.proofs.Places.{none_of, none_past}

-- what has no instruction has at most the faults of the whole
abbrev NoneAt : List ℕ → ℕ → Type 0
NoneAt bytes place = instruction_at bytes place ≡ None

nothing_at : (bytes : List ℕ) (place : ℕ) (P : Instruction → Type 0) → NoneAt bytes place → At bytes place P → ⊥
nothing_at bytes place P none h = subst (λ o. IsSomeAnd o P) none h

-- neither Length nor TooMany
pub turn_one : (bytes : List ℕ) (m : ℕ) → length bytes ≡ 8 * m → 0 < m → m ≤ 4096 → (place : ℕ) (why : CodeWhy) → HasFault bytes place why → turn why ≡ 1
turn_one bytes m len some few place Length h = absurd (elim h.1 [ inl e ↦ omega arith | inr e ↦ e (omega arith) ])
turn_one bytes m len some few place Opcode h = refl
turn_one bytes m len some few place Register h = refl
turn_one bytes m len some few place Backward h = refl
turn_one bytes m len some few place Beyond h = refl
turn_one bytes m len some few place Unset h = refl
turn_one bytes m len some few place NoExit h = refl
turn_one bytes m len some few place HalfWide h = refl
turn_one bytes m len some few place TooMany h = absurd (let k = count_is bytes m len in omega (arith, h.1))
turn_one bytes m len some few place Field h = refl

without : (bytes : List ℕ) (m : ℕ) → length bytes ≡ 8 * m → 0 < m → m ≤ 4096 → (place : ℕ) → NoneAt bytes place → ((place < m) → is_second bytes place ≡ true) → HasNone bytes place
without bytes m len some few place none second Length h = let t = turn_one bytes m len some few place Length h in omega arith
without bytes m len some few place none second Opcode h = let k = count_is bytes m len in both_ways (is_second bytes place) h.1 (second (omega (arith, h.0)))
without bytes m len some few place none second Register h = nothing_at bytes place _ none h
without bytes m len some few place none second Backward h = nothing_at bytes place _ none h
without bytes m len some few place none second Beyond h = nothing_at bytes place _ none h
without bytes m len some few place none second Unset h = nothing_at bytes place _ none h
without bytes m len some few place none second NoExit h = nothing_at bytes place _ none h
without bytes m len some few place none second HalfWide h = nothing_at bytes place _ none h
without bytes m len some few place none second TooMany h = let t = turn_one bytes m len some few place TooMany h in omega arith
without bytes m len some few place none second Field h = nothing_at bytes place _ none h

-- a second slot has no fault
pub second_none : (bytes : List ℕ) (m place : ℕ) → length bytes ≡ 8 * m → 0 < m → m ≤ 4096 → is_second bytes place ≡ true → HasNone bytes place
second_none bytes m place len some few second = without bytes m len some few place (none_of bytes place second) (λ lt. second)

-- no fault at any place
pub all_none : (bytes : List ℕ) (m : ℕ) → length bytes ≡ 8 * m → 0 < m → m ≤ 4096 → ((place : ℕ) → place < m → HasNone bytes place) → NoFault bytes
all_none bytes m len some few none place =
    elim (cases_lt place m) [
      | inl lt ↦ none place lt
      | inr le ↦ let k = count_is bytes m len in without bytes m len some few place (none_past bytes place (omega arith)) (λ lt. absurd (omega arith))
    ]

-- the first fault
pub first : (bytes : List ℕ) (m place : ℕ) (why : CodeWhy) → length bytes ≡ 8 * m → 0 < m → m ≤ 4096 → ((p : ℕ) → p < place → HasNone bytes p) → IsLeast bytes place why → (p : ℕ) (w : CodeWhy) → HasFault bytes p w → IsNoLater why place w p
first bytes m place why len some few none least p w h =
    let same : turn why ≡ turn w = turn_one bytes m len some few place why least.0 ∙ sym (turn_one bytes m len some few p w h) in
    elim (cases_lt place p) [
      | inl later ↦ inr (same, inl later)
      | inr le ↦ elim (cases_lt p place) [
        | inl lt ↦ absurd (none p lt w h)
        | inr ge ↦ let e : place ≡ p = omega arith in inr (same, inr (e, least.1 w (subst (λ q. HasFault bytes q w) (sym e) h)))
      ]
    ]

get_left : {A : Type 0} (xs ys : List A) (p : ℕ) → p < length xs → slice_get (xs ++ ys) p ≡ slice_get xs p
get_left [] ys p lt = absurd (omega arith)
get_left (x ∷ xs) ys zero lt = refl
get_left (x ∷ xs) ys (suc p) lt = get_left xs ys p (omega arith)

get_pushed : {A : Type 0} (xs : List A) (y : A) (p : ℕ) → length xs ≡ p → slice_get (xs ++ y ∷ []) p ≡ Some y
get_pushed [] y zero e = refl
get_pushed [] y (suc p) e = absurd (omega arith)
get_pushed (x ∷ xs) y zero e = absurd (omega arith)
get_pushed (x ∷ xs) y (suc p) e = get_pushed xs y p (omega arith)

-- one more slot
pub slots_more : (bytes : List ℕ) (slots : List Slot) (n : ℕ) (s : Slot) → length slots ≡ n → ((p : ℕ) → p < n → slice_get slots p ≡ slot_at bytes p) → slot_at bytes n ≡ Some s → (p : ℕ) → p < n + 1 → slice_get (slots ++ s ∷ []) p ≡ slot_at bytes p
slots_more bytes slots n s long each now =
    below_more (λ p. slice_get (slots ++ s ∷ []) p ≡ slot_at bytes p) n
    (λ p h. get_left slots (s ∷ []) p (omega arith) ∙ each p h)
    (get_pushed slots s n long ∙ sym now)
