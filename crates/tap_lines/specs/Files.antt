-- This project's own: files with their frames, by number.
use Rattle.std.specs.Prelude.{◌≡◌, ℕ, List, map, Option, Some, option_map}
use Rattle.tap_world.specs.ByNumber.{at, with_at}
use Rattle.tap_world.specs.Effect.{files_after}
use Rattle.tap_world.specs.Effect.OnFiles.{OnFile}
use Rattle.tap_world.specs.Line.{File}
use Rattle.tap_world.specs.LineSteps.{Change, changed}
use Rattle.tap_lines.specs.Placed.{Placed}

-- the files without their frames
abbrev pub files_of : List (Option Placed) → List (Option File)
files_of files = map (λ (p : Option Placed). option_map (λ (x : Placed). x.file) p) files

-- Where a file that is there changes and all else stays, the files are those after the change.
abbrev pub OneChanges : Type 0
OneChanges =
    (number : ℕ) (change : Change) (files : List (Option Placed)) (old new : Placed)
    → at files number ≡ Some old → changed change old.file ≡ Some new.file
    → files_after (OnFile number change) (files_of files) ≡ Some (files_of (with_at number new files))

-- A file has the same number with its frames as without them.
abbrev pub SameNumbers : Type 0
SameNumbers =
    (number : ℕ) (files : List (Option Placed))
    → at (files_of files) number ≡ option_map (λ (x : Placed). x.file) (at files number)
