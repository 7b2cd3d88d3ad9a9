-- Places of a program, and the instructions at them.
use Rattle.std.proofs.Common.{◌≡◌, ℕ, ◌+◌, ◌*◌, ◌<◌, ◌≤◌, List, [], ◌∷◌, ◌++◌, length, below_more, get_or, Bool, true, false, cond, not, ◌&&◌, Option, Some, None, refl, sym, ap, ◌∙◌, arith, add-one, add-zero}
use Rattle.std.proofs.lemmas.Bool.{and_parts, and_from, and_left, and_right, ltb-true, not-true, lt-ltb, le-ltb, cond-true, cond-false}
use Rattle.std.proofs.lemmas.Option.{same_Some}
use Rattle.std.proofs.lemmas.List.{get_or_append_left, get_or_push}
use Rattle.std.specs.Prelude.{◌==◌, nat_lt}
use Rattle.std.specs.Option.{option_map}
use Rattle.ebpf_code.specs.declared.instruction.Instruction.{Instruction}
use Rattle.ebpf_code.specs.declared.encoding.Encoding.{Encoding}
use Rattle.ebpf_code.specs.declared.operation.Operation.{Operation}
use Rattle.ebpf_code.specs.Encoding.{encoding_at}
use Rattle.ebpf_code.specs.Instruction.{operation_of, instruction}
use Rattle.ebpf_code.specs.Faults.{is_second, instruction_at, slot_count}

-- the flag of the next place
pub is_second_next : (bytes : List ℕ) (place : ℕ) → is_second bytes (place + 1) ≡ ((get_or bytes (8 * place) 0 == 0x18) && not (is_second bytes place))
unfolding is_second encoding_at
is_second_next bytes place = rw (add-one, add-zero) refl

pub is_second_first : (bytes : List ℕ) → is_second bytes 0 ≡ false
unfolding is_second
is_second_first bytes = refl

-- one more flag
pub flags_more : (bytes : List ℕ) (flags : List Bool) (n : ℕ) (s : Bool) → length flags ≡ n → ((p : ℕ) → p < n → get_or flags p false ≡ is_second bytes p) → s ≡ is_second bytes n → (p : ℕ) → p < n + 1 → get_or (flags ++ s ∷ []) p false ≡ is_second bytes p
flags_more bytes flags n s long each now =
    below_more (λ p. get_or (flags ++ s ∷ []) p false ≡ is_second bytes p) n
    (λ p h. get_or_append_left flags (s ∷ []) false p (omega arith) ∙ each p h)
    (get_or_push flags s false n long ∙ now)

-- ---- the instruction at a place

choice : (b : Bool) (bytes : List ℕ) (place : ℕ) (x : Option Instruction) (i : Instruction) → cond b x None ≡ Some i → (b ≡ true) × (x ≡ Some i)
choice true bytes place x i h = (refl, h)
choice false bytes place x i h = cc

map_some : (o : Option Operation) (e : Encoding) (i : Instruction) → option_map (λ p. instruction p e) o ≡ Some i → (p : Operation) × (o ≡ Some p) × (i ≡ instruction p e)
map_some None e i h = cc
map_some (Some p) e i h = (p, refl, sym (same_Some (instruction p e) i h))

-- what an instruction at a place is
pub record IsInstruction (bytes : List ℕ) (place : ℕ) (i : Instruction) : Type 0 where
  pub within : place < slot_count bytes
  pub begins : is_second bytes place ≡ false
  pub operation : operation_of (encoding_at bytes place).opcode ≡ Some i.operation
  pub fields : i ≡ instruction i.operation (encoding_at bytes place)

pub found_of : (bytes : List ℕ) (place : ℕ) (i : Instruction) → instruction_at bytes place ≡ Some i → IsInstruction bytes place i
unfolding instruction_at
found_of bytes place i h =
    let c = choice (nat_lt place (slot_count bytes) && not (is_second bytes place)) bytes place (option_map (λ o. instruction o (encoding_at bytes place)) (operation_of (encoding_at bytes place).opcode)) i h in
    let b = and_parts (nat_lt place (slot_count bytes)) (not (is_second bytes place)) c.0 in
    let m = map_some (operation_of (encoding_at bytes place).opcode) (encoding_at bytes place) i c.1 in
    let same : m.0 ≡ i.operation = ap (λ (j : Instruction). j.operation) (sym m.2) in
    record {
      within = ltb-true place (slot_count bytes) b.0;
      begins = not-true (is_second bytes place) b.1;
      operation = m.1 ∙ ap Some same;
      fields = m.2 ∙ ap (λ o. instruction o (encoding_at bytes place)) same;
    }

-- the instruction at a place where one begins
pub at_is : (bytes : List ℕ) (place : ℕ) → place < slot_count bytes → is_second bytes place ≡ false → instruction_at bytes place ≡ option_map (λ o. instruction o (encoding_at bytes place)) (operation_of (encoding_at bytes place).opcode)
unfolding instruction_at
at_is bytes place within begins = cond-true _ _ _ (and_from (nat_lt place (slot_count bytes)) (not (is_second bytes place)) (lt-ltb place (slot_count bytes) within) (ap not begins))

-- no instruction begins at a second slot
pub none_of : (bytes : List ℕ) (place : ℕ) → is_second bytes place ≡ true → instruction_at bytes place ≡ None
unfolding instruction_at
none_of bytes place second = cond-false _ _ _ (and_right (nat_lt place (slot_count bytes)) (not (is_second bytes place)) (ap not second))

-- nor past the end
pub none_past : (bytes : List ℕ) (place : ℕ) → slot_count bytes ≤ place → instruction_at bytes place ≡ None
unfolding instruction_at
none_past bytes place past = cond-false _ _ _ (and_left (nat_lt place (slot_count bytes)) (not (is_second bytes place)) (le-ltb place (slot_count bytes) past))
