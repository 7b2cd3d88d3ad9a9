-- This project's own: words with what they ask for.
use Rattle.std.specs.Prelude.{◌≡◌, true, false, [], ◌∷◌, codes, Some, None}
use Rattle.tap_words.specs.declared.request.Request.TheVariants.{Check, Plain, Live, Gen}
use Rattle.tap_words.specs.Words.{asks}

-- Options stand anywhere, and a value stands behind its option or behind `=`.
abbrev pub Options : Type 0
Options =
    (asks (codes "plain" ∷ []) ≡ Some (Plain 0 false))
    × (asks (codes "plain" ∷ codes "--seed" ∷ codes "3" ∷ []) ≡ Some (Plain 3 false))
    × (asks (codes "--seed=3" ∷ codes "plain" ∷ []) ≡ Some (Plain 3 false))
    × (asks (codes "--json" ∷ codes "live" ∷ []) ≡ Some (Live true))
    × (asks (codes "--" ∷ codes "check" ∷ []) ≡ Some Check)
    × (asks (codes "gen" ∷ codes "100000" ∷ []) ≡ Some (Gen 100000))

-- An option that is repeated, lacks its value, isn't known or isn't the command's is refused, as is a word too many or
-- too few, a number that isn't decimal or is out of range, and an option behind `--`.
abbrev pub Refused : Type 0
Refused =
    (asks (codes "plain" ∷ codes "--seed" ∷ codes "3" ∷ codes "--seed" ∷ codes "3" ∷ []) ≡ None)
    × (asks (codes "plain" ∷ codes "--seed" ∷ []) ≡ None)
    × (asks (codes "plain" ∷ codes "--seed=+1" ∷ []) ≡ None)
    × (asks (codes "plain" ∷ codes "--help" ∷ []) ≡ None)
    × (asks (codes "check" ∷ codes "--json" ∷ []) ≡ None)
    × (asks (codes "--" ∷ codes "plain" ∷ codes "--json" ∷ []) ≡ None)
    × (asks [] ≡ None)
    × (asks (codes "plain" ∷ codes "plain" ∷ []) ≡ None)
    × (asks (codes "gen" ∷ []) ≡ None)
    × (asks (codes "gen" ∷ codes "0" ∷ []) ≡ None)
    × (asks (codes "gen" ∷ codes "100001" ∷ []) ≡ None)
    × (asks (codes "gen" ∷ codes "010" ∷ []) ≡ None)

abbrev pub Examples : Type 0
Examples = Options × Refused
