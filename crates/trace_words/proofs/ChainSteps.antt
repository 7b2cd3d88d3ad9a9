-- The chains that came back, read one after another.
use Rattle.std.proofs.Common.{◌≡◌, ℕ, List, [], ◌∷◌, ◌++◌, Option, Some, None, refl, ap, sym, ◌∙◌, append_assoc}
use Rattle.std.proofs.lemmas.List.{append-nil}
use Rattle.trace_words.specs.AnswerReading.{chains_of}
use Rattle.tap_ground.specs.Options.{◌>>=◌}
use Rattle.trace_causes.specs.Reading.{harvested_of}

-- the chains so far, and then those that were read
abbrev pub with_front : List (ℕ × ℕ) → Option (List (ℕ × ℕ)) → Option (List (ℕ × ℕ))
with_front front None = None
with_front front (Some chains) = Some (front ++ chains)

pub none_yet : (read : Option (List (ℕ × ℕ))) → with_front [] read ≡ read
none_yet None = refl
none_yet (Some chains) = refl

one_more : (front : List (ℕ × ℕ)) (chain : ℕ × ℕ) (read : Option (List (ℕ × ℕ))) → with_front front (read >>= λ chains. Some (chain ∷ chains)) ≡ with_front (front ++ chain ∷ []) read
one_more front chain None = refl
one_more front chain (Some chains) = ap (λ (xs : List (ℕ × ℕ)). Some xs) (sym (append_assoc front (chain ∷ []) chains))

pub goes_on : (front : List (ℕ × ℕ)) (left behind : List (List ℕ)) (field : List ℕ) (chain : ℕ × ℕ) (total : Option (List (ℕ × ℕ))) → left ≡ field ∷ behind → harvested_of field ≡ Some chain
    → with_front front (chains_of left) ≡ total → with_front (front ++ chain ∷ []) (chains_of behind) ≡ total
unfolding chains_of
goes_on front left behind field chain total cut is so_far =
    let step : with_front front (chains_of (field ∷ behind)) ≡ with_front (front ++ chain ∷ []) (chains_of behind) = rw is (one_more front chain (chains_of behind)) in
    sym step ∙ ap (λ (fields : List (List ℕ)). with_front front (chains_of fields)) (sym cut) ∙ so_far

pub stops : (front : List (ℕ × ℕ)) (left behind : List (List ℕ)) (field : List ℕ) (total : Option (List (ℕ × ℕ))) → left ≡ field ∷ behind → harvested_of field ≡ None
    → with_front front (chains_of left) ≡ total → None ≡ total
unfolding chains_of
stops front left behind field total cut is so_far =
    let step : with_front front (chains_of (field ∷ behind)) ≡ None = rw is refl in
    sym step ∙ ap (λ (fields : List (List ℕ)). with_front front (chains_of fields)) (sym cut) ∙ so_far

pub is_done : (front : List (ℕ × ℕ)) (left : List (List ℕ)) (total : Option (List (ℕ × ℕ))) → left ≡ [] → with_front front (chains_of left) ≡ total → Some front ≡ total
unfolding chains_of
is_done front left total end so_far =
    ap (λ (xs : List (ℕ × ℕ)). Some xs) (sym (append-nil front)) ∙ ap (λ (fields : List (List ℕ)). with_front front (chains_of fields)) (sym end) ∙ so_far
