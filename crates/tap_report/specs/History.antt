-- This project's own: which settings are kept for a key, so that the last one up to a version is found quickly.
use Rattle.std.specs.Prelude.{◌≡◌, ℕ, ◌≤◌, ◌<◌, ◌-◌, Bool, false, nat_le, List, [], length, reverse, slice_get, slice_index_or, find, Option, Some, None, unwrap_or}
use Rattle.tap_report.specs.declared.history.Setting.{Setting}
use Rattle.tap_report.specs.Index.{latest, sets_ever}

-- the list of a key
abbrev pub kept : List (List Setting) → ℕ → List Setting
kept lists key = unwrap_or (slice_get lists key) []

-- made by a version up to this one
abbrev pub up_to : ℕ → Setting → Bool
up_to seen s = nat_le s.version seen

-- the last one of a list that is
abbrev pub last_up_to : ℕ → List Setting → Option Setting
last_up_to seen list = find (up_to seen) (reverse list)

-- the last one of a list doesn't have a smaller version
abbrev pub hides : ℕ → Option Setting → Bool
hides version None = false
hides version (Some last) = nat_le version last.version

abbrev pub is_hidden : List Setting → ℕ → Bool
is_hidden list version = hides version (slice_get list (length list - 1))

-- versions don't fall
abbrev pub AreRising : List Setting → Type 0
AreRising list = (i j : ℕ) (d : Setting) → i ≤ j → j < length list
    → (slice_index_or list i d).version ≤ (slice_index_or list j d).version

-- the lists of the keys find what is found among all settings
pub record Follows (all : List Setting) (lists : List (List Setting)) : Type 0 where
  pub found : (key seen : ℕ) → last_up_to seen (kept lists key) ≡ latest all key seen
  pub rising : (key : ℕ) → AreRising (kept lists key)

-- the first setting that is kept for a key
abbrev pub first_kept : List (Option Setting) → ℕ → Option Setting
first_kept firsts key = unwrap_or (slice_get firsts key) None

-- for each key the first of all its settings is kept
pub record KeepsFirst (all : List Setting) (firsts : List (Option Setting)) : Type 0 where
  pub first : (key : ℕ) → first_kept firsts key ≡ find (sets_ever key) all
