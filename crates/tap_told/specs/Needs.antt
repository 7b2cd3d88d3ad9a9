-- This project's own: what has to hold of the parts of a world, so that they can be told.
use Rattle.std.specs.Prelude.{◌≤◌, ◌^◌, List, length, map, Option, option_map}
use Rattle.std.specs.List.{AllByRecursion}
use Rattle.scen_text.specs.declared.scenario.Scenario.{Scenario}
use Rattle.tap_guests.specs.Side.{Side}
use Rattle.tap_lines.specs.Placed.{Placed}
use Rattle.tap_world.specs.Guests.{Guest, Vhost}
use Rattle.tap_world.specs.declared.told.Published.{Published}
use Rattle.tap_told.specs.Devices.{HasDevice}

-- the vhosts without the workers of their rings
abbrev pub vhosts_of : List (Option Side) → List (Option Vhost)
vhosts_of sides = map (λ (s : Option Side). option_map (λ (x : Side). x.vhost) s) sides

-- Each operation has its device's name, and numbers of files, guests and vhosts have 16 bits. This is so in each world
-- that a run of a laid scenario reaches: operations are those of commands that name declared devices, and files, guests
-- and vhosts are the declared ones, of which there are at most 320, 8 and 64.
pub record CanBeTold
    (s : Scenario) (ops : List Published) (files : List (Option Placed)) (guests : List (Option Guest))
    (vhosts : List (Option Side)) : Type 0 where
  pub devices : AllByRecursion (HasDevice s.names) ops
  pub few_files : length files ≤ 2 ^ 16
  pub few_guests : length guests ≤ 2 ^ 16
  pub few_vhosts : length vhosts ≤ 2 ^ 16
