-- This project's own: what the trace of every run of a laid scenario has.
use Rattle.std.specs.Prelude.{◌≡◌, ℕ, suc, List, map, flat_map, slice_get, Some}
use Rattle.scen_text.specs.declared.scenario.Scenario.{Scenario}
use Rattle.scen_laid.specs.Laid.{IsLaid}
use Rattle.tap_world.specs.declared.event.Event.{Event}
use Rattle.tap_world.specs.ByNumber.{numbered}
use Rattle.tap_world.specs.Runs.{IsRun}
use Rattle.tap_world.specs.Setup.{Declared, setup_of}
use Rattle.tap_world.specs.World.{World}
use Rattle.tap_legal.specs.Case.{Case}
use Rattle.tap_legal.specs.Lookups.{declared}
use Rattle.tap_legal.specs.Numbered.{FileAt, OpAt}
use Rattle.tap_sights.specs.Sight.{In, Ordered}
use Rattle.tap_sights.specs.LineFacts.{FileTells, IsBehind, IsShaped}
use Rattle.tap_sights.specs.GuestFacts.{both_rings, ring_on}
use Rattle.tap_projected.specs.Projected.{AnswersAreTold, FilesAreTold, GuestsAreTold, IsProjected, OpsAreTold, RingsAreTold, told_case}

-- it is so of each world in which a run of a laid scenario ends
abbrev pub AtEnds : (Scenario → World → Type 0) → Type 0
AtEnds X = (s : Scenario) (events : List (List Event)) (w : World) → IsLaid s → IsRun s events w → X s w

-- ---- the trace of a run is its last world, line by line

abbrev pub OpsAreProjected : Type 0
OpsAreProjected = AtEnds (λ s w. OpsAreTold (setup_of s) w (told_case s w))

abbrev pub AnswersAreProjected : Type 0
AnswersAreProjected = AtEnds (λ s w. AnswersAreTold w (told_case s w))

abbrev pub FilesAreProjected : Type 0
FilesAreProjected = AtEnds (λ s w. FilesAreTold w (told_case s w))

abbrev pub GuestsAreProjected : Type 0
GuestsAreProjected = AtEnds (λ s w. GuestsAreTold w (told_case s w))

abbrev pub RingsAreProjected : Type 0
RingsAreProjected = AtEnds (λ s w. RingsAreTold w (told_case s w))

abbrev pub RunsAreProjected : Type 0
RunsAreProjected = AtEnds (λ s w. IsProjected (setup_of s) w (told_case s w))

-- ---- what sights ask of a trace's form

abbrev pub RunsAreShaped : Type 0
RunsAreShaped = AtEnds (λ s w. IsShaped (told_case s w))

-- operations are numbered by their versions
abbrev pub AreVersions : Case → Type 0
AreVersions c = (i : ℕ) (o : OpAt) → slice_get c.ops i ≡ Some o → o.at.version ≡ suc i

abbrev pub VersionsAreNumbered : Type 0
VersionsAreNumbered = AtEnds (λ s w. AreVersions (told_case s w))

-- each file has its places, CLAIMED, FREED and room
abbrev pub EachFileTells : Case → Type 0
EachFileTells c =
    (f : FileAt) → In f c.files → (d : Declared) × (declared c f.part.file ≡ Some d) × FileTells c f d

abbrev pub FilesTell : Type 0
FilesTell = AtEnds (λ s w. EachFileTells (told_case s w))

-- along each file epochs don't fall, and what isn't cut behind an entry that waits does so too
abbrev pub EntriesAreBehind : Type 0
EntriesAreBehind = AtEnds (λ s w. Ordered IsBehind (told_case s w).entries)

-- rings are both of each declared vhost
abbrev pub RingsAreDeclared : Type 0
RingsAreDeclared =
    AtEnds (λ s w. map ring_on (told_case s w).rings ≡ flat_map both_rings (numbered 0 (told_case s w).setup.vhosts))
