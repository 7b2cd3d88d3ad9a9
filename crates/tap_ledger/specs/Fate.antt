-- This project's own: the causes for which a frame is discarded.
use Rattle.std.specs.Prelude.{ℕ}
use Rattle.tap_ledger.specs.declared.fate.Cause.{Cause}
use Rattle.tap_ledger.specs.declared.fate.Cause.TheVariants.{NoQueue, Filtered, Gone, Full, Purged, Overrun, Cut, Spent}

-- the numbers of the causes
abbrev pub number : Cause → ℕ
number NoQueue = 1
number Filtered = 2
number (Gone want found shut) = 3
number (Full claimed freed) = 4
number Purged = 5
number (Overrun need quota had) = 6
number Cut = 7
number (Spent claimed) = 8
