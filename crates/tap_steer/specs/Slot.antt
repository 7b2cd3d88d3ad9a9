-- This project's own: how one name is kept in memory.
use Rattle.std.specs.Prelude.{◌≡◌, ℕ, ◌<◌, ◌≤◌, List, [], length, Option, None, IsSome, IsNone}
use Rattle.std.specs.Option.{option_map}
use Rattle.tap_queues.specs.declared.queues.Row.{Row}
use Rattle.tap_queues.specs.Rows.{index_of}
use Rattle.tap_flows.specs.Flow.{FlowList}
use Rattle.tap_flows.specs.FlowList.{AreNotAfter}
use Rattle.tap_steer.specs.declared.settings.Settings.{Settings}
use Rattle.tap_steer.specs.declared.slot.Slot.TheInside.{Inside}
use Rattle.tap_steer.specs.Table.{Device, Named}

-- the device of these parts
abbrev pub device_with : List Row → ℕ → FlowList → Settings → Device
device_with rows disabled flows settings =
    record { settings = settings; rows = rows; disabled = disabled; flows = flows }

-- the device that is kept
abbrev pub device_in : Inside → Option Device
device_in s = option_map (device_with s.queues s.disabled s.flows.flows) s.settings

-- the name that is kept
abbrev pub named_in : Inside → Named
named_in s =
    record { limit = s.flows.limit; age = s.flows.age; device = device_in s }

-- where no device exists, there are no rows, disabled queues or flows
pub record AreNone (rows : List Row) (disabled : ℕ) (flows : FlowList) : Type 0 where
  pub no_rows : rows ≡ []
  pub no_disabled : disabled ≡ 0
  pub no_flows : flows ≡ []

abbrev pub IsClean : Inside → Type 0
IsClean s = s.settings ≡ None → AreNone s.queues s.disabled s.flows.flows

-- the name with its device changed, where it exists
abbrev pub with_its : Named → (Device → Device) → Named
with_its name change = record name { device = option_map change name.device }

-- its header has a size that a shape may have
abbrev pub HasSize : Device → Type 0
HasSize d = (10 ≤ d.settings.header_size) × (d.settings.header_size ≤ 128)

-- the device exists, and has no row of the file and room for one more
pub record HasRoom (file : ℕ) (d : Device) : Type 0 where
  pub few : length d.rows < 256
  pub absent : IsNone (index_of d.rows file)

-- it has a row of the file, and room for one more disabled queue
abbrev pub HasRow : ℕ → Device → Type 0
HasRow file d = IsSome (index_of d.rows file)

-- without queues it has no flows
abbrev pub IsEmptied : Device → Type 0
IsEmptied d = d.rows ≡ [] → d.flows ≡ []

-- no flow is later than this time
abbrev pub IsNotAhead : ℕ → Device → Type 0
IsNotAhead now d = AreNotAfter now d.flows
