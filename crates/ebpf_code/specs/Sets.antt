-- This project's own: the registers that are set on every path so far.
use Rattle.std.specs.Prelude.{◌≡◌, ℕ, ◌*◌, ◌<◌, List, [], ◌∷◌, length, Option, Some, None, IsSomeAnd, IfSome, Bool, true, false, not, ◌&&◌, ◌||◌, slice_index_or}
use Rattle.ebpf_code.specs.declared.set.RegisterSet.{RegisterSet}
use Rattle.ebpf_code.specs.declared.decoded.Decoded.{Decoded}
use Rattle.ebpf_code.specs.declared.instruction.Instruction.{Instruction}
use Rattle.ebpf_code.specs.Instruction.{instruction, uses, is_exit, goes_forward, target}
use Rattle.ebpf_code.specs.Faults.{IsPath, is_set, is_second}

-- the instruction that was read
abbrev pub read : Decoded → Instruction
read d = instruction d.operation d.encoding

abbrev pub holds : RegisterSet → ℕ → Bool
holds s r = slice_index_or s.set r false

-- a register that an instruction reads isn't in the set
abbrev pub lacks_read : RegisterSet → Instruction → Bool
lacks_read s i =
    ((uses i.operation).reads_destination && not (holds s i.destination))
    || ((uses i.operation).source && not (holds s i.source))
    || (is_exit i.operation && not (holds s 0))

-- what is kept for a place lacks a register that the instruction reads; no path that has come there lacks one
abbrev pub kept_lacks : Option RegisterSet → Instruction → Bool
kept_lacks None i = false
kept_lacks (Some s) i = lacks_read s i

-- what is kept for a place that no path has reached so far holds every register
abbrev pub kept_holds : Option RegisterSet → ℕ → Bool
kept_holds None r = true
kept_holds (Some s) r = holds s r

-- the new set has what is in both
abbrev pub Meets : Option RegisterSet → RegisterSet → Option RegisterSet → Type 0
Meets old s new = IsSomeAnd new (λ t. (r : ℕ) → r < 11 → holds t r ≡ (kept_holds old r && holds s r))

-- a path goes only through places below a number
abbrev pub IsBelow : ℕ → List ℕ → Type 0
IsBelow k [] = Unit {0}
IsBelow k (last ∷ earlier) = last < k

-- over the paths to a place that go only through places below k: the set of the registers that are set on each of them,
-- or none where there is no such path
pub record IsKept (bytes : List ℕ) (k place : ℕ) (kept : Option RegisterSet) : Type 0 where
  pub sound : (path : List ℕ) → IsPath bytes place path → IsBelow k path
      → IsSomeAnd kept (λ s. (r : ℕ) → r < 11 → holds s r ≡ true → is_set bytes path r ≡ true)
  pub reached : IfSome kept (λ s. (path : List ℕ) × IsPath bytes place path × IsBelow k path)
  pub unset : IfSome kept (λ s. (r : ℕ) → r < 11 → holds s r ≡ false
      → (path : List ℕ) × IsPath bytes place path × IsBelow k path × (is_set bytes path r ≡ false))

-- what is kept for a place
abbrev pub kept_at : List (Option RegisterSet) → ℕ → Option RegisterSet
kept_at sets place = slice_index_or sets place None

-- what is kept for each place is so
abbrev pub AreKept : List ℕ → ℕ → List (Option RegisterSet) → Type 0
AreKept bytes k sets = (place : ℕ) → place < length sets → IsKept bytes k place (kept_at sets place)

-- it jumps to a place that is flagged
abbrev pub enters_flagged : List Bool → ℕ → Instruction → Bool
enters_flagged flags place i = goes_forward i && slice_index_or flags (target place i) false

-- the flags say which places are second slots, and there is one for each slot
pub record AreSeconds (bytes : List ℕ) (seconds : List Bool) : Type 0 where
  pub aligned : length bytes ≡ 8 * length seconds
  pub each : (place : ℕ) → place < length seconds → slice_index_or seconds place false ≡ is_second bytes place
