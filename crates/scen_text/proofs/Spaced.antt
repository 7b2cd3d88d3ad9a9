-- A line of a command of an actor.
use Rattle.std.proofs.Common.{◌≡◌, ℕ, List, [], ◌∷◌, ◌++◌, sym, ap, ◌∙◌, append_assoc}
use Rattle.std.specs.List.{join_with_byte}
use Rattle.std.specs.Fmt.{decimal}
use Rattle.scen_words.specs.Field.{line}

-- `@K ` and a command's line were written
pub actor_written : (old mid new : List ℕ) (actor : ℕ) (word : List ℕ) (fields : List (List ℕ)) → mid ≡ old ++ (64 ∷ (decimal actor ++ 32 ∷ [])) → new ≡ mid ++ line (word ∷ fields)
    → new ≡ old ++ line ((64 ∷ decimal actor) ∷ word ∷ fields)
actor_written old mid new actor word fields a b =
    b ∙ ap (λ (t : List ℕ). t ++ line (word ∷ fields)) a ∙ append_assoc old (64 ∷ (decimal actor ++ 32 ∷ [])) (line (word ∷ fields))
    ∙ ap (λ (t : List ℕ). old ++ 64 ∷ t) (append_assoc (decimal actor) (32 ∷ []) (line (word ∷ fields)) ∙ sym (append_assoc (decimal actor) (32 ∷ join_with_byte 32 (word ∷ fields)) (10 ∷ [])))
