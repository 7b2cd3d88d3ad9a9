-- This project's own: what actors share where a run begins.
use Rattle.std.specs.Prelude.{◌≡◌, []}
use Rattle.tap_world.specs.Runs.{opening}
use Rattle.tap_world.specs.Setup.{Setup}
use Rattle.core_shared.specs.Held.{IsHeld}
use Rattle.core_shared.specs.Worlds.{world_in}
use Rattle.core_shared.specs.declared.shared.Shared.{Shared}

-- With no actors and no answers it is the world that a run begins in.
pub record IsOpening (s : Setup) (x : Shared) : Type 0 where
  pub world : world_in x [] [] ≡ opening s
  pub held : IsHeld s x
