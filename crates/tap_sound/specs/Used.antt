-- This project's own: what a trace tells of the chains that were published.
use Rattle.std.specs.Prelude.{◌≡◌, ℕ, length, map, Some}
use Rattle.std.specs.List.{AllByRecursion}
use Rattle.tap_trace.specs.declared.trace.PositionList.{PositionList}
use Rattle.vhost_queue.specs.Positions.{Published, positions_from}
use Rattle.vhost_dev.specs.Settings.{ring_at}
use Rattle.tap_world.specs.ByNumber.{at}
use Rattle.tap_world.specs.Setup.{Setup}
use Rattle.tap_world.specs.Guests.{Vhost}
use Rattle.tap_world.specs.World.{World}
use Rattle.tap_world.specs.Project.{lists_from}
use Rattle.tap_world.specs.Sound.{IsSound}

-- the k-th entry of a list has the k-th position from its base on
abbrev pub IsCounted : PositionList → Type 0
IsCounted l = map (λ (c : Published). c.0) l.used ≡ positions_from l.base (length l.used)

-- In a sound world each list that the trace tells of a ring is counted so.
abbrev pub UsedIsCounted : Type 0
UsedIsCounted =
    (s : Setup) (w : World) (vhost ring : ℕ) (v : Vhost) → IsSound s w → at w.vhosts vhost ≡ Some v
    → AllByRecursion IsCounted
    (lists_from (ring_at ring v.settings).lists (ring_at ring v.settings).queue.positions.journal)
