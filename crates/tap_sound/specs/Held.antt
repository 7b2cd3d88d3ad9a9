-- This project's own: how far commands come and who holds the writer and the turns of rings, after every event.
use Rattle.tap_world.specs.Sound.{HaveActors}
use Rattle.tap_sound.specs.Keeps.{Keeps}

-- Every event keeps that each command has come as far as it can, and that the writer and the rings' turns are held
-- exactly by the commands under way that hold them, which are actors'.
abbrev pub HoldersAreKept : Type 0
HoldersAreKept = Keeps (λ s w. HaveActors w)
