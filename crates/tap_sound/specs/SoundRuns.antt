-- This project's own: that every world that a run reaches is sound.
use Rattle.std.specs.Prelude.{◌≡◌, ℕ, List, Some, is_some, true}
use Rattle.scen_text.specs.declared.scenario.Scenario.{Scenario}
use Rattle.tap_world.specs.declared.event.Event.{Event}
use Rattle.tap_world.specs.ByNumber.{at}
use Rattle.tap_world.specs.Setup.{Setup, setup_of}
use Rattle.tap_world.specs.World.{World}
use Rattle.tap_world.specs.Runs.{IsRun}
use Rattle.tap_world.specs.Sound.{IsSound}
use Rattle.tap_sound.specs.Reached.{HasPlaces}
use Rattle.tap_sound.specs.Worlds.{IsWorldOf}

-- each vhost's guest has a region
abbrev pub HasGuests : Setup → Type 0
HasGuests s = (vhost guest : ℕ) → at s.vhosts vhost ≡ Some guest → is_some (at s.guests guest) ≡ true

-- Each world of a scenario whose first places are of 2 ^ 40, and whose vhosts have guests, is sound, and the one that a
-- run of it ends in.
abbrev pub ReachedIsSound : Type 0
ReachedIsSound =
    (s : Scenario) (w : World) → HasPlaces (setup_of s) → HasGuests (setup_of s) → IsWorldOf s w
    → IsSound (setup_of s) w

abbrev pub RunIsSound : Type 0
RunIsSound =
    (s : Scenario) (events : List (List Event)) (w : World) → HasPlaces (setup_of s) → HasGuests (setup_of s)
    → IsRun s events w → IsSound (setup_of s) w
