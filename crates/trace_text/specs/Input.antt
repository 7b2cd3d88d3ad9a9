-- This project's own: how the parts of an input are found, piece by piece.
use Rattle.std.specs.Prelude.{◌≡◌, ℕ, ◌<◌, List, ◌∷◌, ◌++◌, length}
use Rattle.trace_text.specs.BadLine.{before_line, from_line, joined, pieces}

-- the first piece of some bytes, and what stands behind it
abbrev pub IsPiece : List ℕ → List ℕ → List ℕ → Type 0
IsPiece bytes piece rest = (pieces bytes ≡ piece ∷ pieces rest) × (bytes ≡ piece ++ rest) × (0 < length piece)

-- what stands before the first piece that is this line, and the bytes from it on
abbrev pub IsSplit : List ℕ → List ℕ → List ℕ → List ℕ → Type 0
IsSplit line bytes before rest =
    (before ≡ joined (before_line line (pieces bytes))) × (pieces rest ≡ from_line line (pieces bytes))
