-- This project's own: that every event keeps room in each line.
use Rattle.tap_world.specs.Each.{EachActor, EachFile}
use Rattle.tap_world.specs.SoundActors.{CanBe}
use Rattle.tap_world.specs.SoundTable.{AgreesWithTable}
use Rattle.tap_world.specs.Sound.{HasSeen, HaveRoom}
use Rattle.tap_sound.specs.Keeps.{KeepsWhere}

-- Where files have what the table says, and commands have come as far as they can, every event keeps room in each line:
-- also a resize, whose capacity is compared with the table's until it is published, and the publications.
abbrev pub RoomIsAlwaysKept : Type 0
RoomIsAlwaysKept =
    KeepsWhere
    (λ s w. EachActor w (HasSeen w) × EachActor w (λ actor a. CanBe a) × EachFile w (AgreesWithTable s w)) HaveRoom
