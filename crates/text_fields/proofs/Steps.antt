-- Fields are read one after another.
use Rattle.std.proofs.Common.{◌≡◌, ℕ, zero, suc, ◌+◌, ◌<◌, ◌≤◌, Bool, true, false, List, [], ◌∷◌, ◌++◌, length, drop, get_or, Some, None, Result, Ok, Err, refl, sym, ap, subst, ◌∙◌, append_assoc, arith}
use Rattle.std.specs.List.{slice_get}
use Rattle.std.proofs.lemmas.List.{drop_all}
use Rattle.std.proofs.lemmas.Option.{get_or_from_slice_get, slice_get_within}
use Rattle.std.proofs.Math.Seq.{drop-cons}
use Rattle.text_fields.specs.declared.fault.FieldFault.{FieldFault}
use Rattle.text_fields.specs.declared.fault.FieldFault.TheVariants as fault
use Rattle.tap_ground.specs.declared.error.OrMemory.{OrMemory}
use Rattle.tap_ground.specs.declared.error.OrMemory.TheVariants.{Fault, NoMemory}
use Rattle.text_fields.specs.declared.kind.Kind.{Kind}
use Rattle.text_fields.specs.declared.value.Value.{Value}
use Rattle.tap_ground.specs.Errors.{Gives}
use Rattle.text_fields.specs.Answers.{TellsNumber}
use Rattle.text_fields.specs.Fields.{field_value, or_fault}
use Rattle.text_fields.specs.Finished.{finished}
use Rattle.text_fields.specs.Forms.{values_under, with_first}

abbrev Values : Type 0
Values = Result (List Value) FieldFault

-- ---- what was read, and the rest

one_more : (front : List Value) (bad : Bool) (v : Value) (others : Values) → finished front bad (with_first (Ok v) others) ≡ finished (front ++ v ∷ []) bad others
one_more front false v (Ok vs) = ap (λ (xs : List Value). Ok xs) (sym (append_assoc front (v ∷ []) vs))
one_more front false v (Err why) = refl
one_more front true v (Ok vs) = refl
one_more front true v (Err why) = refl

bad_from_now : (front : List Value) (bad : Bool) (others : Values) → finished front bad (with_first (Err fault.Hex) others) ≡ finished front true others
bad_from_now front false (Ok vs) = refl
bad_from_now front false (Err fault.Fields) = refl
bad_from_now front false (Err fault.Number) = refl
bad_from_now front false (Err fault.Hex) = refl
bad_from_now front true (Ok vs) = refl
bad_from_now front true (Err fault.Fields) = refl
bad_from_now front true (Err fault.Number) = refl
bad_from_now front true (Err fault.Hex) = refl

number_now : (front : List Value) (bad : Bool) (others : Values) → finished front bad (with_first (Err fault.Number) others) ≡ Err fault.Number
number_now front false (Ok vs) = refl
number_now front false (Err why) = refl
number_now front true (Ok vs) = refl
number_now front true (Err why) = refl

-- ---- the kinds that are left

pub no_fields : (kinds : List Kind) → values_under kinds [] ≡ Ok []
unfolding values_under
no_fields [] = refl
no_fields (k ∷ ks) = refl

suc_is : (i : ℕ) → suc i ≡ i + 1
suc_is i = omega arith

at_cons : (kinds : List Kind) (i : ℕ) (kind : Kind) → slice_get kinds i ≡ Some kind → drop i kinds ≡ kind ∷ drop (i + 1) kinds
at_cons kinds i kind e =
    drop-cons kinds i kind (slice_get_within kinds i kind e) ∙ ap (λ (n : ℕ). get_or kinds i kind ∷ drop n kinds) (suc_is i) ∙ ap (λ (k : Kind). k ∷ drop (i + 1) kinds) (get_or_from_slice_get kinds i kind kind e)

outside : (kinds : List Kind) (i : ℕ) → slice_get kinds i ≡ None → length kinds ≤ i
outside [] i e = omega arith
outside (k ∷ ks) zero e = absurd cc
outside (k ∷ ks) (suc i) e = let h = outside ks i e in omega arith

at_end : (kinds : List Kind) (i : ℕ) → slice_get kinds i ≡ None → drop i kinds ≡ []
at_end kinds i e = drop_all i kinds (outside kinds i e)

step : (kinds : List Kind) (i : ℕ) (kind : Kind) (field : List ℕ) (fields : List (List ℕ)) → slice_get kinds i ≡ Some kind
    → values_under (drop i kinds) (field ∷ fields) ≡ with_first (field_value kind field) (values_under (drop (i + 1) kinds) fields)
unfolding values_under
step kinds i kind field fields e = ap (λ (ks : List Kind). values_under ks (field ∷ fields)) (at_cons kinds i kind e)

-- what the values so far come to with the fields that are left
abbrev pub so_far : List Value → Bool → List Kind → ℕ → List (List ℕ) → Values
so_far front bad kinds i fields = finished front bad (values_under (drop i kinds) fields)

pub value_step : (front : List Value) (bad : Bool) (kinds : List Kind) (i : ℕ) (kind : Kind) (v : Value) (field : List ℕ) (fields : List (List ℕ)) → slice_get kinds i ≡ Some kind
    → field_value kind field ≡ or_fault fault.Hex (Some v) → so_far front bad kinds i (field ∷ fields) ≡ so_far (front ++ v ∷ []) bad kinds (i + 1) fields
value_step front bad kinds i kind v field fields at_i is =
    ap (finished front bad) (step kinds i kind field fields at_i ∙ ap (λ (r : Result Value FieldFault). with_first r (values_under (drop (i + 1) kinds) fields)) is)
    ∙ one_more front bad v (values_under (drop (i + 1) kinds) fields)

pub digits_step : (front : List Value) (bad : Bool) (kinds : List Kind) (i : ℕ) (kind : Kind) (field : List ℕ) (fields : List (List ℕ)) → slice_get kinds i ≡ Some kind
    → field_value kind field ≡ or_fault fault.Hex None → so_far front bad kinds i (field ∷ fields) ≡ so_far front true kinds (i + 1) fields
digits_step front bad kinds i kind field fields at_i is =
    ap (finished front bad) (step kinds i kind field fields at_i ∙ ap (λ (r : Result Value FieldFault). with_first r (values_under (drop (i + 1) kinds) fields)) is)
    ∙ bad_from_now front bad (values_under (drop (i + 1) kinds) fields)

number_step : (front : List Value) (bad : Bool) (kinds : List Kind) (i : ℕ) (kind : Kind) (field : List ℕ) (fields : List (List ℕ)) → slice_get kinds i ≡ Some kind
    → field_value kind field ≡ Err fault.Number → so_far front bad kinds i (field ∷ fields) ≡ Err fault.Number
number_step front bad kinds i kind field fields at_i is =
    ap (finished front bad) (step kinds i kind field fields at_i ∙ ap (λ (r : Result Value FieldFault). with_first r (values_under (drop (i + 1) kinds) fields)) is)
    ∙ number_now front bad (values_under (drop (i + 1) kinds) fields)

-- an error of a number is that of the whole
pub number_tells : (whole : Values) (error : OrMemory FieldFault) (front : List Value) (bad : Bool) (kinds : List Kind) (i : ℕ) (kind : Kind) (field : List ℕ) (fields : List (List ℕ))
    → slice_get kinds i ≡ Some kind → TellsNumber error (field_value kind field) → so_far front bad kinds i (field ∷ fields) ≡ whole → Gives {X = List Value} (Err error) whole
number_tells whole (Fault why) front bad kinds i kind field fields at_i tells same =
    sym same ∙ number_step front bad kinds i kind field fields at_i tells.1 ∙ ap (λ (w : FieldFault). Err w) (sym tells.0)
number_tells whole NoMemory front bad kinds i kind field fields at_i tells same = tt

-- nothing is left
pub at_last : (front : List Value) (bad : Bool) (kinds : List Kind) (i : ℕ) → so_far front bad kinds i [] ≡ finished front bad (Ok [])
at_last front bad kinds i = ap (finished front bad) (no_fields (drop i kinds))

no_kinds : (fields : List (List ℕ)) → values_under [] fields ≡ Ok []
unfolding values_under
no_kinds fields = refl

pub kinds_end : (front : List Value) (bad : Bool) (kinds : List Kind) (i : ℕ) (fields : List (List ℕ)) → slice_get kinds i ≡ None → so_far front bad kinds i fields ≡ finished front bad (Ok [])
kinds_end front bad kinds i fields e = ap (λ (ks : List Kind). finished front bad (values_under ks fields)) (at_end kinds i e) ∙ ap (finished front bad) (no_kinds fields)

-- ---- the loop

pub answers_same : (r : Result (List Value) (OrMemory FieldFault)) (a b : Values) → a ≡ b → Gives r a → Gives r b
answers_same r a b e h = subst (λ (x : Values). Gives r x) e h

pub some_left_at : (i count : ℕ) (left rest : List (List ℕ)) (field : List ℕ) → i + length left ≤ count → left ≡ field ∷ rest → (i < count) × (i + 1 + length rest ≤ count)
some_left_at i count left rest field le e =
    let lengths : length left ≡ length rest + 1 = ap length e ∙ suc_is (length rest) in
    (omega arith, omega arith)
