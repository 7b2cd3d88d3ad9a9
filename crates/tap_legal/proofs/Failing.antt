-- A list of clauses of which none fails has no lines.
use Rattle.std.proofs.Common.{◌≡◌, ℕ, List, [], ◌∷◌, None, refl}
use Rattle.tap_legal.specs.declared.clause.Clause.{Clause}
use Rattle.tap_legal.specs.Verdict.{Failing, first_failing}

pub none_first :
    (letter : Clause) (lines : List ℕ) (more : List Failing) → first_failing ((letter, lines) ∷ more) ≡ None
    → (lines ≡ []) × (first_failing more ≡ None)
none_first letter [] more e = (refl, e)
none_first letter (line ∷ lines) more e = absurd cc
