-- This project's own: what every event keeps of what is sound.
use Rattle.std.specs.Prelude.{◌≡◌, Bool, true, false, Some}
use Rattle.tap_world.specs.declared.event.Event.{Event}
use Rattle.tap_world.specs.declared.event.EventKind.{EventKind}
use Rattle.tap_world.specs.declared.event.EventKind.TheVariants as event
use Rattle.tap_world.specs.declared.event.Heard.{Heard}
use Rattle.tap_world.specs.Setup.{Setup}
use Rattle.tap_world.specs.World.{World}
use Rattle.tap_world.specs.Step.{step}
use Rattle.tap_world.specs.Each.{EachActor, EachFile}
use Rattle.tap_world.specs.SoundActors.{CanBe}
use Rattle.tap_world.specs.Sound.{ClaimIsHeld, HasEpochs, HasSeen, HaveRoom, IsEmptyWhenShut, IsOrdered}
use Rattle.tap_sound.specs.Keeps.{Keeps}

-- Every event keeps that epochs never fall along a line, and that what waits has the gate's.
abbrev pub EpochsAreKept : Type 0
EpochsAreKept = Keeps (λ s w. EachFile w (λ file f. HasEpochs f))

-- Every event keeps each line in its three parts, with at most 64 in the batch and 2 ^ 40 - 1 places.
abbrev pub LinesAreKept : Type 0
LinesAreKept = Keeps (λ s w. EachFile w (λ file f. IsOrdered f))

-- Every event keeps that no actor has seen more versions than there are.
abbrev pub VersionsAreKept : Type 0
VersionsAreKept = Keeps (λ s w. EachActor w (HasSeen w))

-- the events that change neither the table nor a capacity
abbrev pub leaves_sizes : EventKind → Bool
leaves_sizes event.Publish = false
leaves_sizes event.Resize = false
leaves_sizes k = true

-- All events but these two keep room in each line.
abbrev pub RoomIsKept : Type 0
RoomIsKept =
    (s : Setup) (w : World) (e : Event) (u : World × Heard) → step s w e ≡ Some u → leaves_sizes e.kind ≡ true
    → EachActor w (HasSeen w) → HaveRoom s w → HaveRoom s u.0

-- Every event keeps that each command has come as far as it can and no further, and that an actor without one has begun
-- none.
abbrev pub StandsAreKept : Type 0
StandsAreKept = Keeps (λ s w. EachActor w (λ actor a. CanBe a))

-- Every event keeps that a place which is claimed and not put belongs to an actor that is about to put it.
abbrev pub ClaimsAreKept : Type 0
ClaimsAreKept = Keeps (λ s w. EachFile w (ClaimIsHeld w))

-- Every event keeps that nothing waits behind a shut gate, but where a detach is emptying the file.
abbrev pub ShutIsKept : Type 0
ShutIsKept = Keeps (λ s w. EachFile w (IsEmptyWhenShut w))
