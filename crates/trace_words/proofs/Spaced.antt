-- The chains that a driver took back, each behind a space.
use Rattle.std.proofs.Common.{◌≡◌, ℕ, List, [], ◌∷◌, ◌++◌, map, sym, ap, ◌∙◌, append_assoc}
use Rattle.std.specs.Prelude.{codes}
use Rattle.std.specs.List.{join_with_byte, flat_map}
use Rattle.std.proofs.lemmas.List.{append-nil}
use Rattle.tap_trace.specs.declared.answer.Answer.{Answer}
use Rattle.tap_trace.specs.declared.answer.Answer.TheVariants.{Harvested}
use Rattle.trace_causes.specs.Values.{harvested}
use Rattle.trace_words.specs.Answers.{answer_fields}

joined : (word : List ℕ) (chains : List (ℕ × ℕ)) → join_with_byte 32 (word ∷ map harvested chains) ≡ word ++ flat_map (λ e. 32 ∷ harvested e) chains
joined word [] = sym (append-nil word)
joined word (e ∷ chains) = ap (λ (rest : List ℕ). word ++ 32 ∷ rest) (joined (harvested e) chains)

-- the word and then the chains were written
pub harvest_written : (old mid : List ℕ) (a : Answer) (chains shown : List (ℕ × ℕ)) → a ≡ Harvested chains → shown ≡ chains → mid ≡ old ++ codes "harvest"
    → mid ++ flat_map (λ e. 32 ∷ harvested e) shown ≡ old ++ join_with_byte 32 (answer_fields a)
harvest_written old mid a chains shown is same first =
    ap (λ (t : List (ℕ × ℕ)). mid ++ flat_map (λ e. 32 ∷ harvested e) t) same
    ∙ ap (λ (t : List ℕ). t ++ flat_map (λ e. 32 ∷ harvested e) chains) first
    ∙ append_assoc old (codes "harvest") (flat_map (λ e. 32 ∷ harvested e) chains)
    ∙ ap (λ (t : List ℕ). old ++ t) (sym (ap (λ (x : Answer). join_with_byte 32 (answer_fields x)) is ∙ joined (codes "harvest") chains))
