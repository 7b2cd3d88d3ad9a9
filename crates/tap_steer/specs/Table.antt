-- This project's own, after Linux's tun devices with several queues: the table of files and devices.
use Rattle.std.specs.Prelude.{ℕ, ◌+◌, ◌==◌, Bool, true, false, not, List, map, length, Option, Some, None, is_some, slice_set, slice_index_or, bit_and}
use Rattle.std.specs.Option.{option_map_or, option_and_then}
use Rattle.tap_queues.specs.declared.queues.Row.{Row}
use Rattle.tap_flows.specs.Flow.{FlowList}
use Rattle.tap_steer.specs.declared.files.Attachment.{Attachment}
use Rattle.tap_steer.specs.declared.files.Attachment.TheVariants.{Unattached, Enabled, Disabled}
use Rattle.tap_steer.specs.declared.files.File.{File}
use Rattle.tap_steer.specs.declared.settings.Settings.{Settings}

-- ---- the table

-- a device: its settings, the rows of its enabled queues, how many queues are disabled, and its flows
pub record Device : Type 0 where
  pub settings : Settings
  pub rows : List Row
  pub disabled : ℕ
  pub flows : FlowList

-- a name: how many flows its device may have, after how many milliseconds one goes, and the device, if it exists
pub record Named : Type 0 where
  pub limit : ℕ
  pub age : ℕ
  pub device : Option Device

-- the clock in milliseconds, the files and the names by number, and the programs by their places
pub record Table : Type 0 where
  pub clock : ℕ
  pub files : List File
  pub names : List Named
  pub programs : List (List ℕ)

-- ---- the first one

-- a file that was never attached
abbrev pub new_file : ℕ → File
new_file capacity =
    record { attachment = Unattached; epoch = 0; rx = None; tx = None; capacity = capacity; resizes = 0 }

-- a name without a device
abbrev pub new_name : ℕ × ℕ → Named
new_name flows = record { limit = flows.0; age = flows.1; device = None }

-- the table of these programs, of files with these capacities, and of names with these limits and ages of flows
unfoldable pub first : List (List ℕ) → List ℕ → List (ℕ × ℕ) → Table
first programs capacities flows =
    record { clock = 0; files = map new_file capacities; names = map new_name flows; programs = programs }

-- ---- what is in it

-- the file of a number
abbrev pub file_at : Table → ℕ → File
file_at t file = slice_index_or t.files file (new_file 0)

-- the epoch of its next attachment
abbrev pub next_epoch : Table → ℕ → ℕ
next_epoch t file = (file_at t file).epoch + 1

-- the name of a number
abbrev pub name_at : Table → ℕ → Named
name_at t device = slice_index_or t.names device (new_name (0, 0))

-- the device of a number, if it exists
abbrev pub device_at : Table → ℕ → Option Device
device_at t device = (name_at t device).device

-- the device to which a file belongs, with its queue enabled or disabled
abbrev pub home : Attachment → Option ℕ
home Unattached = None
home (Enabled device) = Some device
home (Disabled device) = Some device

-- whether its queue is disabled
abbrev pub is_disabled : Attachment → Bool
is_disabled Unattached = false
is_disabled (Enabled device) = false
is_disabled (Disabled device) = true

-- whether it is enabled
abbrev pub is_enabled : Attachment → Bool
is_enabled Unattached = false
is_enabled (Enabled device) = true
is_enabled (Disabled device) = false

-- the device of a file
abbrev pub device_of : Table → ℕ → Option ℕ
device_of t file = home (file_at t file).attachment

-- the device of a number exists
abbrev pub exists : Table → ℕ → Bool
exists t device = is_some (device_at t device)

-- it exists, and this is so of it
abbrev pub has : Table → ℕ → (Device → Bool) → Bool
has t device test = option_map_or test (device_at t device) false

-- the file has a device, and this is so of it
abbrev pub at_home : Table → ℕ → (Device → Bool) → Bool
at_home t file test = option_map_or (λ device. has t device test) (device_of t file) false

-- how many queues a device has, enabled and disabled
abbrev pub queue_count : Device → ℕ
queue_count d = length d.rows + d.disabled

-- a device that no file belongs to
abbrev pub is_left : Device → Bool
is_left d = queue_count d == 0

-- flags have this one, or one of these
abbrev pub is_set : ℕ → ℕ → Bool
is_set flags flag = not (bit_and flags flag == 0)

-- ---- changes of one file or one name

-- with another file of this number
abbrev pub with_file : Table → ℕ → File → Table
with_file t file changed = record t { files = slice_set t.files file changed }

-- with another device of this number, or with none
abbrev pub with_device : Table → ℕ → Option Device → Table
with_device t device changed =
    record t { names = slice_set t.names device (record (name_at t device) { device = changed }) }

-- with what becomes of a device, where it exists
abbrev pub changed : Table → ℕ → (Device → Option Device) → Table
changed t device change = with_device t device (option_and_then change (device_at t device))
