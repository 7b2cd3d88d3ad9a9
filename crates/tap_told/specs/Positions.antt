-- This project's own: where a ring's lists of positions begin.
use Rattle.std.specs.Prelude.{ℕ, List, length, Option}
use Rattle.std.specs.Option.{option_map_or}

-- how many chains had been published before this list, or in all where there is no further list
abbrev pub begins_at : Option (ℕ × ℕ) → List (ℕ × ℕ × ℕ) → ℕ
begins_at list journal = option_map_or (λ (l : ℕ × ℕ). l.1) list (length journal)
