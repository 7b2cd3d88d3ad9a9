-- This project's own: that a sound world stays sound.
use Rattle.tap_world.specs.Sound.{IsSound}
use Rattle.tap_sound.specs.Keeps.{Keeps}

-- Every event keeps all ten parts.
abbrev pub SoundnessIsKept : Type 0
SoundnessIsKept = Keeps IsSound
