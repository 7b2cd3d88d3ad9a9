-- This project's own: what files and rings have of the queue table, after every event.
use Rattle.tap_world.specs.Each.{EachActor}
use Rattle.tap_world.specs.SoundActors.{CanBe}
use Rattle.tap_world.specs.SoundTable.{HasTable}
use Rattle.tap_world.specs.Sound.{WriterIsHeld}
use Rattle.tap_sound.specs.Keeps.{KeepsWhere}

-- Where the writer is held by the command that holds it, every event keeps that files have what the table says, and
-- rings the backends that it says, but for that command.
abbrev pub TableIsKept : Type 0
TableIsKept = KeepsWhere (λ s w. EachActor w (λ actor a. CanBe a) × EachActor w (WriterIsHeld w)) HasTable
