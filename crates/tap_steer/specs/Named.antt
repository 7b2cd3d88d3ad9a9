-- This project's own: what an operation names is there.
use Rattle.std.specs.Prelude.{ℕ, ◌<◌, ◌≤◌, length, Option}
use Rattle.tap_steer.specs.declared.operation.Op.{Op}
use Rattle.tap_steer.specs.declared.operation.Op.TheVariants as op
use Rattle.tap_steer.specs.Table.{Table}
use Rattle.tap_steer.specs.Sound.{IsPlace}

-- a file of the table has this number
abbrev pub IsFile : Table → ℕ → Type 0
IsFile t file = file < length t.files

-- a file and a program, if one is named, are there
abbrev pub IsFileWith : Table → ℕ → Option ℕ → Type 0
IsFileWith t file program = IsFile t file × IsPlace (length t.programs) program

-- the file, the device and the program that an operation names are there; a capacity is 1 to 1,024
abbrev pub IsNamed : Table → Op → Type 0
IsNamed t (op.SetIff file device flags) = IsFile t file × (device < 64)
IsNamed t (op.SetQueue file flags) = IsFile t file
IsNamed t (op.Shut file) = IsFile t file
IsNamed t (op.HdrSize file size) = IsFile t file
IsNamed t (op.Persist file on) = IsFile t file
IsNamed t (op.Learn file hash) = IsFile t file
IsNamed t (op.Tick now) = Unit {0}
IsNamed t (op.Steering file program) = IsFileWith t file program
IsNamed t (op.Filter file program) = IsFileWith t file program
IsNamed t (op.Back file side vhost) = IsFile t file
IsNamed t (op.Resize file capacity) = IsFile t file × (1 ≤ capacity) × (capacity ≤ 1024)

-- a limit is 1 to 65,536 flows, an age 1 to 1,000,000,000 milliseconds
pub record AreLimits (flows : ℕ × ℕ) : Type 0 where
  pub some : 1 ≤ flows.0
  pub few : flows.0 ≤ 65536
  pub old : 1 ≤ flows.1
  pub young : flows.1 ≤ 1000000000
