-- This project's own: that the names of events are new in every world that a run reaches.
use Rattle.std.specs.Prelude.{◌≡◌, ℕ, ◌+◌, List, [], ◌∷◌, length, Some}
use Rattle.scen_text.specs.declared.scenario.Line.{Line}
use Rattle.scen_text.specs.declared.scenario.Phase.{Phase}
use Rattle.scen_text.specs.declared.scenario.Scenario.{Scenario}
use Rattle.tap_world.specs.declared.event.Event.{Event}
use Rattle.tap_world.specs.Setup.{setup_of}
use Rattle.tap_world.specs.World.{World}
use Rattle.tap_world.specs.Effect.{Effect}
use Rattle.tap_world.specs.Step.{effect, row_of}
use Rattle.tap_sound.specs.Worlds.{IsWorldOf}

-- commands are numbered one after another, from a number on; over all phases
abbrev pub AreNumbered : ℕ → List Line → Type 0
AreNumbered n [] = Unit {0}
AreNumbered n (l ∷ ls) = (l.number ≡ n) × AreNumbered (n + 1) ls

abbrev pub ArePhasesNumbered : ℕ → List Phase → Type 0
ArePhasesNumbered n [] = Unit {0}
ArePhasesNumbered n (p ∷ ps) = AreNumbered n p.lines × ArePhasesNumbered (n + length p.lines) ps

-- Where commands are numbered from 0, no event of a world that a run reaches is refused for its names: whatever comes
-- next and has an effect drops, hosts and places names that stand nowhere yet.
abbrev pub NamesAreNew : Type 0
NamesAreNew =
    (s : Scenario) (w : World) (e : Event) (r : Effect) → ArePhasesNumbered 0 s.phases → IsWorldOf s w
    → row_of (setup_of s) w e ≡ Some r → effect (setup_of s) w e ≡ Some r
