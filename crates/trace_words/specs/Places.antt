-- This project's own: how the frames that had a place, and the published chains are written, and what a place says.
use Rattle.std.specs.Prelude.{ℕ, List, [], ◌∷◌, codes, Option, Some}
use Rattle.std.specs.Fmt.{decimal}
use Rattle.tap_trace.specs.declared.trace.PlaceLine.{PlaceLine}
use Rattle.scen_words.specs.Field.{frame_name}
use Rattle.trace_causes.specs.Causes.{fate_fields}
use Rattle.trace_causes.specs.CauseReading.{fate_in}
use Rattle.tap_ground.specs.Options.{◌>>=◌}
use Rattle.trace_causes.specs.Reading.{name_first, number16, number32, number64}

-- `line PLACE EPOCH NAME LEN FATE`
abbrev pub place_line : PlaceLine → List (List ℕ)
place_line l = codes "line" ∷ decimal l.place ∷ decimal l.epoch ∷ frame_name l.name ∷ decimal l.len ∷ fate_fields l.fate

-- PLACE EPOCH NAME LEN FATE
unfoldable pub place_in : List (List ℕ) → Option PlaceLine
place_in fields = do
  place ← number64 fields
  epoch ← number16 place.1
  name ← name_first epoch.1
  len ← number32 name.1
  fate ← fate_in len.1
  Some (record { place = place.0; epoch = epoch.0; name = name.0; len = len.0; fate = fate })

-- `used POSITION HEAD LEN`
abbrev pub used_line : ℕ × ℕ × ℕ → List (List ℕ)
used_line u = codes "used" ∷ decimal u.0 ∷ decimal u.1 ∷ decimal u.2 ∷ []
