-- This project's own: that no world stands still. While some command hasn't ended, one of the actors needn't wait.
use Rattle.std.specs.Prelude.{◌≡◌, ℕ, true, false, slice_get, Some}
use Rattle.tap_world.specs.Setup.{Numbered, Setup}
use Rattle.tap_world.specs.World.{Actor, World, current}
use Rattle.tap_world.specs.Runs.{has_ended}
use Rattle.tap_world.specs.Sound.{IsSound}
use Rattle.tap_world.specs.Steady.{IsSteady}
use Rattle.tap_world.specs.Waiting.{may_go}

-- some actor has a command, and may go on with it
abbrev pub SomeMayGo : World → Type 0
SomeMayGo w =
    (i : ℕ) × (a : Actor) × (c : Numbered) × (slice_get w.actors i ≡ Some a) × (current a.script ≡ Some c)
    × (may_go w i a c.command ≡ true)

-- In each sound and steady world in which not every command has ended some actor may go on.
abbrev pub NoStandstill : Type 0
NoStandstill = (s : Setup) (w : World) → IsSound s w → IsSteady s w → has_ended w ≡ false → SomeMayGo w
