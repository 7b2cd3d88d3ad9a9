-- This project's own: words, each spelled in its own way, and which of them a field is.
use Rattle.std.specs.Prelude.{ℕ, List, Option, find}
use Rattle.std.specs.Str.{bytes_eq}

-- the first of these words that is spelled as the field
unfoldable pub word_in : {W : Type 0} → (W → List ℕ) → List W → List ℕ → Option W
word_in spelling words field = find (λ w. bytes_eq (spelling w) field) words
