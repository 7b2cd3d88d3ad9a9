-- This project's own: of which parts of a world its trace tells, and which worlds can be told.
use Rattle.std.specs.Prelude.{◌≡◌, List, Option}
use Rattle.scen_text.specs.declared.scenario.Scenario.{Scenario}
use Rattle.scen_laid.specs.Laid.{IsLaid}
use Rattle.tap_guests.specs.Side.{Side}
use Rattle.tap_lines.specs.Files.{files_of}
use Rattle.tap_lines.specs.Placed.{Placed}
use Rattle.tap_world.specs.Project.{project}
use Rattle.tap_world.specs.Setup.{Setup, setup_of}
use Rattle.tap_world.specs.Steady.{IsSteady}
use Rattle.tap_world.specs.World.{World}
use Rattle.tap_told.specs.Needs.{CanBeTold, vhosts_of}
use Rattle.tap_told.specs.Told.{told_world}

-- The trace of a world is that of its operations, answers, files, guests and vhosts.
abbrev pub OnlyPartsAreTold : Type 0
OnlyPartsAreTold =
    (s : Setup) (w : World) → project s w ≡ project s (told_world w.ops w.said w.files w.guests w.vhosts)

-- Each steady world of a laid scenario can be told, whatever frames its files have and which workers its vhosts.
abbrev pub SteadyCanBeTold : Type 0
SteadyCanBeTold =
    (s : Scenario) (w : World) (files : List (Option Placed)) (sides : List (Option Side)) → IsLaid s
    → IsSteady (setup_of s) w → files_of files ≡ w.files → vhosts_of sides ≡ w.vhosts
    → CanBeTold s w.ops files w.guests sides
