-- This project's own: what is so of every run of a scenario that some text stands for.
use Rattle.std.specs.Prelude.{◌≡◌, ◌⊎◌, ℕ, ◌<◌, ◌≤◌, true, List, slice_get, Some}
use Rattle.std.specs.List.{AllByRecursion}
use Rattle.tap_frame.specs.declared.name.Name.{Name}
use Rattle.tap_ledger.specs.declared.fate.Fate.{Fate}
use Rattle.vhost_dev.specs.Settings.{ring_at}
use Rattle.scen_text.specs.declared.scenario.Scenario.{Scenario}
use Rattle.scen_text.specs.Scenario.{Stands}
use Rattle.tap_world.specs.declared.event.Event.{Event}
use Rattle.tap_world.specs.ByNumber.{at}
use Rattle.tap_world.specs.Setup.{setup_of}
use Rattle.tap_world.specs.Guests.{Vhost}
use Rattle.tap_world.specs.declared.line.Entry.{Entry}
use Rattle.tap_world.specs.declared.line.Standing.TheVariants.{Out}
use Rattle.tap_world.specs.Line.{File}
use Rattle.tap_world.specs.World.{World}
use Rattle.tap_world.specs.Effect.{Effect}
use Rattle.tap_world.specs.Stands.{times}
use Rattle.tap_world.specs.Step.{effect, row_of}
use Rattle.tap_world.specs.Project.{lists_from}
use Rattle.tap_world.specs.Runs.{IsRun}
use Rattle.tap_world.specs.Sound.{IsSound, is_cut, rank}
use Rattle.tap_sound.specs.Worlds.{IsWorldOf}
use Rattle.tap_sound.specs.Used.{IsCounted}
use Rattle.scen_laid.specs.Laid.{IsLaid}

-- ---- a world of a run

-- frames leave each line in the order placed: what stands before an entry that is out is out, or was cut
abbrev pub LeavesInOrder : World → Type 0
LeavesInOrder w =
    (file i j : ℕ) (f : File) (d e : Entry) (fate : Fate) → at w.files file ≡ Some f → i < j
    → slice_get f.line i ≡ Some d → slice_get f.line j ≡ Some e → e.stands ≡ Out fate
    → (is_cut d.stands ≡ true) ⊎ (rank d.stands ≡ 0)

-- of each ring, the k-th entry of a list of positions that the trace tells has the k-th position from its base on
abbrev pub HasCountedRings : World → Type 0
HasCountedRings w =
    (vhost ring : ℕ) (v : Vhost) → at w.vhosts vhost ≡ Some v
    → AllByRecursion IsCounted
    (lists_from (ring_at ring v.settings).lists (ring_at ring v.settings).queue.positions.journal)

-- It is sound, in all parts; so each name stands at most once, frames leave lines in order, and published chains have
-- their positions in order.
pub record IsSoundWorld (s : Scenario) (w : World) : Type 0 where
  pub sound : IsSound (setup_of s) w
  pub once : (n : Name) → times w n ≤ 1
  pub in_order : LeavesInOrder w
  pub counted : HasCountedRings w

-- ---- all runs

-- Each world that a run reaches is so, and the one that it ends in is sound; and no event of a world that a run reaches
-- is refused for its names: whatever comes next and has an effect drops, hosts and places names that stand nowhere yet.
pub record HasSoundRuns (s : Scenario) : Type 0 where
  pub reached : (w : World) → IsWorldOf s w → IsSoundWorld s w
  pub ended : (events : List (List Event)) (w : World) → IsRun s events w → IsSound (setup_of s) w
  pub new :
      (w : World) (e : Event) (r : Effect) → IsWorldOf s w → row_of (setup_of s) w e ≡ Some r
      → effect (setup_of s) w e ≡ Some r

-- So are the runs of each scenario that is laid, and so those of each scenario that some text stands for.
abbrev pub LaidRunsAreSound : Type 0
LaidRunsAreSound = (s : Scenario) → IsLaid s → HasSoundRuns s

abbrev pub RunsOfText : Type 0
RunsOfText = (bytes : List ℕ) (s : Scenario) → Stands bytes s → HasSoundRuns s
