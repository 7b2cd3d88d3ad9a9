-- This project's own: a source and a sink in memory, some of whose calls fail.
use Rattle.std.specs.Prelude.{ℕ, ◌+◌, ◌<◌, ◌≤◌, ◌==◌, ◌||◌, ◌&&◌, Bool, false, not, List, [], ◌∷◌, length, nat_lt, if◌then◌else◌, Contains}

-- a source in memory
pub record Supply : Type 0 where
  -- the bytes that are left
  pub left : List ℕ
  -- how many calls are over
  pub calls : ℕ
  -- the numbers of the calls that fail, from 0
  pub fails : List ℕ
  -- the greatest piece that it gives
  pub most : ℕ

-- a sink in memory
pub record Store : Type 0 where
  -- the bytes that it has taken
  pub written : List ℕ
  -- how many calls are over
  pub calls : ℕ
  -- the numbers of the calls that fail, from 0
  pub fails : List ℕ
  -- the greatest piece that it takes
  pub most : ℕ

-- the list has this number
abbrev pub lists : List ℕ → ℕ → Bool
lists [] number = false
lists (n ∷ ns) number = n == number || lists ns number

-- How many of the listed calls are over. A number that is listed twice is one call: it counts where it stands last.
abbrev pub failed_calls : List ℕ → ℕ → ℕ
failed_calls [] calls = 0
failed_calls (n ∷ ns) calls = failed_calls ns calls + (if nat_lt n calls && not (lists ns n) then 1 else 0)

-- No call fails of those that can be needed to meet the end: one for each byte that is left, and one that tells it.
abbrev pub EndsWell : Supply → Type 0
EndsWell s = (call : ℕ) → Contains s.fails call → s.calls ≤ call → s.calls + length s.left < call
