-- This project's own: the ids of the chains that are served, as a caller sees them that knows a ring of any kind.
use Rattle.std.specs.Prelude.{◌≡◌, ℕ, List, [], ◌∷◌, map, get_or, Option, None, Some}
use Rattle.std.proofs.Common.{ap}
use Rattle.vring_packed.specs.declared.chain.PackedChain.{PackedChain}
use Rattle.vring_packed.specs.Queue.{IsEarliest}

-- the chain that was fetched has this id
abbrev pub IsNext : Option PackedChain → ℕ → Type 0
IsNext None id = ⊥
IsNext (Some c) id = id ≡ c.id

-- the ids of chains
abbrev pub ids_of : List PackedChain → List ℕ
ids_of cs = map (λ c. c.id) cs

-- the first of them is that of the earliest chain
pub first_is_earliest : (cs : List PackedChain) (id : ℕ) (ids : List ℕ) → id ∷ ids ≡ ids_of cs → IsEarliest cs id
first_is_earliest [] id ids is = absurd (cc)
first_is_earliest (c ∷ cs) id ids is = ap (λ xs. get_or xs 0 0) is
