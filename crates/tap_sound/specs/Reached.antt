-- This project's own: what holds in each world that a run ends in.
use Rattle.std.specs.Prelude.{◌≡◌, ℕ, ◌^◌, ◌-◌, ◌≤◌, List, Some}
use Rattle.scen_text.specs.declared.scenario.Scenario.{Scenario}
use Rattle.tap_world.specs.declared.event.Event.{Event}
use Rattle.tap_world.specs.ByNumber.{at}
use Rattle.tap_world.specs.Setup.{Declared, Setup, setup_of}
use Rattle.tap_world.specs.World.{World}
use Rattle.tap_world.specs.Runs.{IsRun, run}
use Rattle.tap_world.specs.Each.{EachActor, EachFile}
use Rattle.tap_world.specs.Sound.{ClaimIsHeld, HasEpochs, HasSeen, IsEmptyWhenShut, IsOrdered}
use Rattle.tap_world.specs.SoundActors.{CanBe}
use Rattle.tap_sound.specs.Worlds.{IsWorldOf}

-- the parts of soundness that every event keeps by themselves
pub record IsKept (w : World) : Type 0 where
  pub epochs : EachFile w (λ file f. HasEpochs f)
  pub lines : EachFile w (λ file f. IsOrdered f)
  pub claims : EachFile w (ClaimIsHeld w)
  pub shut : EachFile w (IsEmptyWhenShut w)
  pub seen : EachActor w (HasSeen w)
  pub stand : EachActor w (λ actor a. CanBe a)

-- each file's first place is one of 2 ^ 40
abbrev pub HasPlaces : Setup → Type 0
HasPlaces s = (file : ℕ) (d : Declared) → at s.files file ≡ Some d → d.first ≤ 2 ^ 40 - 1

-- They hold in the world that a run ends in, in each world that a run reaches, and from one world of a phase on in each
-- later one.
abbrev pub RunIsKept : Type 0
RunIsKept =
    (s : Scenario) (events : List (List Event)) (w : World) → HasPlaces (setup_of s) → IsRun s events w → IsKept w

abbrev pub PhaseIsKept : Type 0
PhaseIsKept = (s : Setup) (es : List Event) (w v : World) → run s es w ≡ Some v → IsKept w → IsKept v

abbrev pub ReachedIsKept : Type 0
ReachedIsKept = (s : Scenario) (w : World) → HasPlaces (setup_of s) → IsWorldOf s w → IsKept w
