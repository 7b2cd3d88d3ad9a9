-- This project's own: how a scenario that some text stands for lays down files, guests, vhosts, programs and flows.
use Rattle.std.specs.Prelude.{◌≡◌, ℕ, ◌≤◌, List, length, All, Some, None}
use Rattle.std.specs.List.{AllByRecursion}
use Rattle.ebpf_code.specs.FirstFault.{first_fault}
use Rattle.guest_mem.specs.declared.region.Region.{Region as Piece}
use Rattle.guest_mem.specs.Regions.{refusal}
use Rattle.scen_words.specs.declared.declaration.Declaration.{Declaration}
use Rattle.scen_words.specs.declared.declaration.Declaration.TheVariants.{File, Region, Vhost, Prog, Flows}
use Rattle.scen_words.specs.declared.limits.TheConstants.{MAX_FILE, MAX_FIRST, MAX_NAMES, MAX_PLACES}
use Rattle.tap_steer.specs.Named.{AreLimits}
use Rattle.tap_world.specs.ByNumber.{at}
use Rattle.tap_world.specs.Setup.{Declared, Setup}

-- ---- a declaration

-- The numbers of a declaration are in range: there are 320 files, 8 guests, 64 vhosts and 64 programs; a file has 1 to
-- 1,024 places, and the first of them is one of 2 ^ 40.
abbrev pub IsInRange : Declaration → Type 0
IsInRange (File file capacity first) = (file ≤ MAX_FILE) × (1 ≤ capacity) × (capacity ≤ MAX_PLACES) × (first ≤ MAX_FIRST)
IsInRange (Region guest addr len) = guest ≤ 7
IsInRange (Vhost vhost guest) = (vhost ≤ 63) × (guest ≤ 7)
IsInRange (Prog program code) = program ≤ 63
IsInRange (Flows name limit age) = AreLimits (limit, age)

-- ---- what declarations lay down

-- each file has 1 to 1,024 places
abbrev pub HasCapacities : Setup → Type 0
HasCapacities s =
    (file : ℕ) (d : Declared) → at s.files file ≡ Some d → (1 ≤ d.capacity) × (d.capacity ≤ MAX_PLACES)

-- the regions of each guest make a memory
abbrev pub HasMemories : Setup → Type 0
HasMemories s = (guest : ℕ) (rs : List Piece) → at s.guests guest ≡ Some rs → refusal rs ≡ None

-- no program has a fault
abbrev pub HasPrograms : Setup → Type 0
HasPrograms s = AllByRecursion (λ (p : ℕ × List ℕ). first_fault p.1 ≡ None) s.programs

-- each of 64 names has a limit and an age of its flows
pub record HasFlows (s : Setup) : Type 0 where
  pub names : length s.flows ≡ MAX_NAMES
  pub limits : All AreLimits s.flows

-- numbers of files, guests and vhosts are below these, and there are at most 64 programs
pub record AreFew (s : Setup) : Type 0 where
  pub files : length s.files ≤ 320
  pub guests : length s.guests ≤ 8
  pub vhosts : length s.vhosts ≤ 64
  pub programs : length s.programs ≤ 64
