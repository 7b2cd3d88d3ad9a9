-- This project's own: what the declarations of a scenario lay down for the files, guests, vhosts and table of a run.
use Rattle.std.specs.Prelude.{◌≡◌, ℕ, ◌≤◌, [], List, Option, Some, None, map, option_map}
use Rattle.std.specs.Option.{option_map_or}
use Rattle.guest_mem.specs.declared.region.Region.{Region}
use Rattle.guest_mem.specs.Regions.{refusal}
use Rattle.tap_guests.specs.Side.{Side, new_side}
use Rattle.tap_lines.specs.Placed.{Placed}
use Rattle.tap_lines.specs.declared.side.TheConstants.{MOST_PLACES}
use Rattle.tap_world.specs.ByNumber.{at}
use Rattle.tap_world.specs.Guests.{Guest, new_guest}
use Rattle.tap_world.specs.Runs.{new_file}
use Rattle.tap_world.specs.Setup.{Declared, Setup}

-- files, the regions of guests, and the guests of vhosts, by number; the programs in the order of their declarations;
-- and the limit and the age of the flows of each name
pub record Collected : Type 0 where
  pub files : List (Option Declared)
  pub guests : List (Option (List Region))
  pub vhosts : List (Option ℕ)
  pub programs : List (List ℕ)
  pub flows : List (ℕ × ℕ)

-- those of a set-up
abbrev pub collected : Setup → Collected
collected s = record {
  files = s.files;
  guests = s.guests;
  vhosts = s.vhosts;
  programs = map (λ p. p.1) s.programs;
  flows = s.flows;
}

-- What was collected of any set-up is now that of the set-up with more.
abbrev pub Follows : (Setup → Setup) → Collected → Collected → Type 0
Follows more old new = (s : Setup) → old ≡ collected s → new ≡ collected (more s)

-- ---- what a run begins with

-- a file that was declared so, with no frame
abbrev pub new_placed : Declared → Placed
new_placed d = record { file = new_file d; frames = [] }

-- the files, the guests and the vhosts by number
abbrev pub files_of : List (Option Declared) → List (Option Placed)
files_of files = map (λ d. option_map new_placed d) files

abbrev pub guests_of : List (Option (List Region)) → List (Option Guest)
guests_of guests = map (λ r. option_map new_guest r) guests

abbrev pub sides_of : List (Option ℕ) → List (Option Side)
sides_of vhosts = map (λ g. option_map new_side g) vhosts

-- how many places the ring of each file has; a number without a file has none
abbrev pub capacity_of : Option Declared → ℕ
capacity_of f = option_map_or (λ (d : Declared). d.capacity) f 0

abbrev pub capacities_of : List (Option Declared) → List ℕ
capacities_of files = map capacity_of files

-- ---- when it can begin

-- the first place of each file can be given out
abbrev pub HaveFirsts : List (Option Declared) → Type 0
HaveFirsts files = (file : ℕ) (d : Declared) → at files file ≡ Some d → d.first ≤ MOST_PLACES

-- the regions of each guest make a memory
abbrev pub AreMemories : List (Option (List Region)) → Type 0
AreMemories guests = (guest : ℕ) (rs : List Region) → at guests guest ≡ Some rs → refusal rs ≡ None
