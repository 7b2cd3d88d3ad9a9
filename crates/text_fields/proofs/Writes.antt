-- Values are written one after another.
use Rattle.std.proofs.Common.{◌≡◌, ℕ, ◌+◌, ◌<◌, List, [], ◌∷◌, ◌++◌, length, take, get_or, Option, Some, None, refl, sym, ap, ◌∙◌, append_assoc, arith}
use Rattle.std.specs.List.{slice_get}
use Rattle.std.proofs.lemmas.List.{append-nil, length-take-le, take_more}
use Rattle.std.proofs.lemmas.List.Concat.{flat_map-append}
use Rattle.text_fields.specs.declared.kind.Kind.{Kind}
use Rattle.text_fields.specs.declared.value.Value.{Value}
use Rattle.text_fields.specs.Fields.{field_of}
use Rattle.text_fields.specs.Forms.{fields_under}
use Rattle.text_fields.specs.Lines.{spaced}

no_values : (kinds : List Kind) → fields_under kinds [] ≡ []
no_values [] = refl
no_values (k ∷ ks) = refl

pub nothing_written : (kinds : List Kind) (out : List ℕ) → out ≡ out ++ spaced (fields_under kinds [])
nothing_written kinds out = sym (ap (λ (fields : List (List ℕ)). out ++ spaced fields) (no_values kinds) ∙ append-nil out)

fields_under-push : (kinds : List Kind) (vs : List Value) (kind : Kind) (v : Value) → slice_get kinds (length vs) ≡ Some kind
    → fields_under kinds (vs ++ v ∷ []) ≡ fields_under kinds vs ++ field_of kind v ∷ []
fields_under-push [] vs kind v e = absurd cc
fields_under-push (k ∷ ks) [] kind v e = let same : k ≡ kind = cc in rw (no_values ks, same) refl
fields_under-push (k ∷ ks) (w ∷ vs) kind v e = ap (λ (rest : List (List ℕ)). field_of k w ∷ rest) (fields_under-push ks vs kind v e)

fields_under-past : (kinds : List Kind) (vs : List Value) (v : Value) → slice_get kinds (length vs) ≡ None → fields_under kinds (vs ++ v ∷ []) ≡ fields_under kinds vs
fields_under-past [] [] v e = refl
fields_under-past [] (w ∷ vs) v e = refl
fields_under-past (k ∷ ks) [] v e = absurd cc
fields_under-past (k ∷ ks) (w ∷ vs) v e = ap (λ (rest : List (List ℕ)). field_of k w ∷ rest) (fields_under-past ks vs v e)

abbrev Written : List ℕ → List ℕ → List Kind → List Value → ℕ → Type 0
Written before now kinds vs i = now ≡ before ++ spaced (fields_under kinds (take i vs))

front_is : (vs : List Value) (i : ℕ) (v : Value) → i < length vs → v ≡ get_or vs i v → take (i + 1) vs ≡ take i vs ++ v ∷ []
front_is vs i v lt is = take_more vs i v lt ∙ ap (λ (w : Value). take i vs ++ w ∷ []) (sym is)

at_front : (kinds : List Kind) (vs : List Value) (i : ℕ) (o : Option Kind) → i < length vs → slice_get kinds i ≡ o → slice_get kinds (length (take i vs)) ≡ o
at_front kinds vs i o lt e = ap (slice_get kinds) (length-take-le i vs (omega arith)) ∙ e

-- one more value, with a field
pub one_written : (before now after : List ℕ) (kinds : List Kind) (vs : List Value) (i : ℕ) (kind : Kind) (v : Value) → i < length vs → v ≡ get_or vs i v
    → slice_get kinds i ≡ Some kind → Written before now kinds vs i → after ≡ now ++ 32 ∷ field_of kind v → Written before after kinds vs (i + 1)
one_written before now after kinds vs i kind v lt is at_i so_far new =
    let fields : fields_under kinds (take (i + 1) vs) ≡ fields_under kinds (take i vs) ++ field_of kind v ∷ [] =
    ap (fields_under kinds) (front_is vs i v lt is) ∙ fields_under-push kinds (take i vs) kind v (at_front kinds vs i (Some kind) lt at_i) in
    let whole : spaced (fields_under kinds (take (i + 1) vs)) ≡ spaced (fields_under kinds (take i vs)) ++ 32 ∷ field_of kind v =
    ap spaced fields ∙ flat_map-append (λ (f : List ℕ). 32 ∷ f) (fields_under kinds (take i vs)) (field_of kind v ∷ [])
    ∙ ap (λ (t : List ℕ). spaced (fields_under kinds (take i vs)) ++ 32 ∷ t) (append-nil (field_of kind v)) in
    new ∙ ap (λ (t : List ℕ). t ++ 32 ∷ field_of kind v) so_far ∙ append_assoc before _ _ ∙ ap (λ (t : List ℕ). before ++ t) (sym whole)

-- one more value, for which there is no kind
pub none_written : (before now : List ℕ) (kinds : List Kind) (vs : List Value) (i : ℕ) (v : Value) → i < length vs → v ≡ get_or vs i v
    → slice_get kinds i ≡ None → Written before now kinds vs i → Written before now kinds vs (i + 1)
none_written before now kinds vs i v lt is at_i so_far =
    so_far ∙ ap (λ (fields : List (List ℕ)). before ++ spaced fields)
    (sym (ap (fields_under kinds) (front_is vs i v lt is) ∙ fields_under-past kinds (take i vs) v (at_front kinds vs i None lt at_i)))
