-- This project's own: what it says that every event keeps a fact of worlds.
use Rattle.std.specs.Prelude.{◌≡◌, Some}
use Rattle.tap_world.specs.declared.event.Event.{Event}
use Rattle.tap_world.specs.declared.event.Heard.{Heard}
use Rattle.tap_world.specs.Setup.{Setup}
use Rattle.tap_world.specs.World.{World}
use Rattle.tap_world.specs.Step.{step}

-- Where P holds of a world, it holds of the world after any step.
abbrev pub Keeps : (Setup → World → Type 0) → Type 0
Keeps P = (s : Setup) (w : World) (e : Event) (u : World × Heard) → step s w e ≡ Some u → P s w → P s u.0

-- Where Q and P hold of a world, P holds of the world after any step.
abbrev pub KeepsWhere : (Setup → World → Type 0) → (Setup → World → Type 0) → Type 0
KeepsWhere Q P = (s : Setup) (w : World) (e : Event) (u : World × Heard) → step s w e ≡ Some u → Q s w → P s w → P s u.0
