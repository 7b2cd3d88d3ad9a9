-- This project's own: a file that is lent out of the files.
use Rattle.std.specs.Prelude.{ℕ, List, Option}
use Rattle.std.specs.Borrow.{Fml, Lends, MutBor}
use Rattle.tap_world.specs.ByNumber.{with_at}
use Rattle.tap_lines.specs.Placed.{Placed}
use Rattle.tap_lines.specs.contracts.files.Files as files
use Rattle.tap_lines.specs.contracts.side.FileSide as side

-- r lends the file of a number: what is last left there stands in its place, and all else stays
abbrev pub LendsSide : MutBor (List (Option Placed)) → ℕ → MutBor Placed → Fml
LendsSide s number r = Lends files.the_row side.the_row s r (λ w. with_at number w s.now)
