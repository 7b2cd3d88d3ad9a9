-- This project's own: what holds of the table after any lawful operations.
use Rattle.std.specs.Prelude.{◌≡◌, ℕ, ◌+◌, ◌==◌, ◌<◌, ◌≤◌, if◌then◌else◌, true, List, [], ◌∷◌, length, Option, Some, None, IfSome}
use Rattle.std.specs.List.{AllByRecursion}
use Rattle.tap_queues.specs.declared.queues.Row.{Row}
use Rattle.tap_flows.specs.Flow.{Flow}
use Rattle.tap_flows.specs.FlowList.{AreNotAfter}
use Rattle.tap_steer.specs.declared.files.Attachment.{Attachment}
use Rattle.tap_steer.specs.declared.files.Attachment.TheVariants.{Unattached, Enabled, Disabled}
use Rattle.tap_steer.specs.declared.files.File.{File}
use Rattle.tap_steer.specs.declared.settings.Settings.{Settings}
use Rattle.tap_steer.specs.Table.{Table, Device, file_at, device_at, queue_count, is_left}

-- how many of these rows are of a file
abbrev pub times : ℕ → List Row → ℕ
times file [] = 0
times file (row ∷ rows) = (if row.file == file then 1 else 0) + times file rows

-- the rows of a device, and none where it doesn't exist
abbrev pub rows_of : Option Device → List Row
rows_of None = []
rows_of (Some d) = d.rows

-- how many of its queues are disabled
abbrev pub disabled_of : Option Device → ℕ
disabled_of None = 0
disabled_of (Some d) = d.disabled

-- 1 where a file's queue is enabled in this device, else 0
abbrev pub enabled_in : ℕ → Attachment → ℕ
enabled_in device Unattached = 0
enabled_in device (Enabled home) = if home == device then 1 else 0
enabled_in device (Disabled home) = 0

-- 1 where it is disabled there, else 0
abbrev pub disabled_in : ℕ → Attachment → ℕ
disabled_in device Unattached = 0
disabled_in device (Enabled home) = 0
disabled_in device (Disabled home) = if home == device then 1 else 0

-- how many of these files' queues are disabled in this device
abbrev pub disabled_files : ℕ → List File → ℕ
disabled_files device [] = 0
disabled_files device (file ∷ files) = disabled_in device file.attachment + disabled_files device files

-- this is the place of one of so many programs, if it is one
abbrev pub IsPlace : ℕ → Option ℕ → Type 0
IsPlace programs place = IfSome place (λ p. p < programs)

-- each flow leads to one of so many rows
abbrev pub LeadsWithin : ℕ → List (ℕ × Flow) → Type 0
LeadsWithin rows flows = AllByRecursion (λ entry. entry.1.index < rows) flows

-- settings that the header's size and so many programs allow
pub record AreSettings (programs : ℕ) (s : Settings) : Type 0 where
  pub least : 10 ≤ s.header_size
  pub most : s.header_size ≤ 128
  pub steering : IsPlace programs s.steering
  pub filter : IsPlace programs s.filter

-- a device has at most 256 queues; without files it is persistent; its flows lead to its rows, and none is later than
-- the clock
pub record IsGood (programs clock : ℕ) (d : Device) : Type 0 where
  pub few : queue_count d ≤ 256
  pub kept : is_left d ≡ true → d.settings.persistent ≡ true
  pub settings : AreSettings programs d.settings
  pub led : LeadsWithin (length d.rows) d.flows
  pub latest : AreNotAfter clock d.flows

-- how often a file stands in the rows of a device
abbrev pub times_in : Table → ℕ → ℕ → ℕ
times_in t device file = times file (rows_of (device_at t device))

-- the epoch of each row is that of its file
abbrev pub AtOwnEpochs : Table → List Row → Type 0
AtOwnEpochs t rows = AllByRecursion (λ row. row.epoch ≡ (file_at t row.file).epoch) rows

-- There are 64 names. A file stands in the rows of a device once where its queue is enabled there, and then at its own
-- epoch, and else not.
-- A device has as many disabled queues as files have disabled queues there.
pub record IsSound (t : Table) : Type 0 where
  pub named : length t.names ≡ 64
  pub rows : (device file : ℕ) → times_in t device file ≡ enabled_in device (file_at t file).attachment
  pub epochs : (device : ℕ) → AtOwnEpochs t (rows_of (device_at t device))
  pub disabled : (device : ℕ) → disabled_of (device_at t device) ≡ disabled_files device t.files
  pub good : (device : ℕ) → IfSome (device_at t device) (IsGood (length t.programs) t.clock)
