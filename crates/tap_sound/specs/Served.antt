-- This project's own: the rings of vhosts, after every event.
use Rattle.tap_world.specs.Each.{EachActor, EachVhost}
use Rattle.tap_world.specs.SoundActors.{CanBe}
use Rattle.tap_world.specs.SoundRings.{HaveRings, TurnsAreHeld}
use Rattle.tap_sound.specs.Keeps.{KeepsWhere}

-- Where turns are held by the commands that hold them, every event keeps that the rings of vhosts are in order, and
-- that those which are served stand with their turns.
abbrev pub RingsAreKept : Type 0
RingsAreKept =
    KeepsWhere (λ s w. EachActor w (λ actor a. CanBe a) × EachVhost w (TurnsAreHeld w)) (λ s w. HaveRings w)
