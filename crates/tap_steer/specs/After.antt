-- This project's own, after Linux's tun devices: what operations that aren't refused change.
use Rattle.std.specs.Prelude.{ℕ, ◌+◌, ◌-◌, ◌&&◌, nat_lt, Bool, false, not, if◌then◌else◌, List, [], ◌∷◌, map, length, Option, Some, None, is_none, unwrap_or}
use Rattle.std.specs.Option.{option_map}
use Rattle.tap_queues.specs.Rows.{attached, detached, index_of}
use Rattle.tap_flows.specs.FlowList.{learnt, forgotten, ticked}
use Rattle.tap_ledger.specs.declared.error.TapErr.{TapErr}
use Rattle.tap_steer.specs.declared.files.Attachment.{Attachment}
use Rattle.tap_steer.specs.declared.files.Attachment.TheVariants.{Unattached, Enabled, Disabled}
use Rattle.tap_steer.specs.declared.files.File.{File}
use Rattle.tap_ledger.specs.declared.side.Side.{Side}
use Rattle.tap_ledger.specs.declared.side.Side.TheVariants.{Rx, Tx}
use Rattle.tap_steer.specs.declared.operation.Op.{Op}
use Rattle.tap_steer.specs.declared.operation.Op.TheVariants as op
use Rattle.tap_steer.specs.declared.settings.Settings.{Settings}
use Rattle.tap_steer.specs.declared.operation.TheConstants.{IFF_MULTI_QUEUE, IFF_NO_PI, IFF_VNET_HDR, IFF_ATTACH_QUEUE}
use Rattle.tap_steer.specs.Table.{Table, Device, Named, file_at, next_epoch, name_at, device_at, device_of, is_left, is_set, with_file, with_device, changed}
use Rattle.tap_steer.specs.Rules.{refuse}

-- ---- one queue

-- a file is attached to a device: its epoch is the next
abbrev pub attached_file : File → ℕ → File
attached_file file device = record file { attachment = Enabled device; epoch = file.epoch + 1 }

-- the device gets a row for it, the last
abbrev pub with_row : ℕ → ℕ → Device → Device
with_row file epoch d = record d { rows = attached d.rows file epoch }

-- the index of a file's row
abbrev pub row_of : Device → ℕ → ℕ
row_of d file = unwrap_or (index_of d.rows file) 0

-- the device loses the row of a file: the last row is written over it, and the flows of the last index go
abbrev pub without_row : ℕ → Device → Device
without_row file d = record d { rows = detached d.rows (row_of d file); flows = forgotten d.flows (length d.rows - 1) }

-- one more of its queues is disabled
abbrev pub with_disabled : Device → Device
with_disabled d = record d { disabled = d.disabled + 1 }

-- one less
abbrev pub without_disabled : Device → Device
without_disabled d = record d { disabled = d.disabled - 1 }

-- a file that stands otherwise
abbrev pub standing : Attachment → File → File
standing attachment file = record file { attachment = attachment }

-- ---- attaching to a device

-- a device is made: with these flags, a header of 10 bytes, no programs and no flows
abbrev pub new_settings : ℕ → Settings
new_settings flags = record {
  multi_queue = is_set flags IFF_MULTI_QUEUE;
  pi = not (is_set flags IFF_NO_PI);
  header = is_set flags IFF_VNET_HDR;
  persistent = false;
  header_size = 10;
  steering = None;
  filter = None;
}

abbrev pub new_device : ℕ → Device
new_device flags = record { settings = new_settings flags; rows = []; disabled = 0; flows = [] }

-- the same settings with what stands in front of frames from these flags
abbrev pub with_front : ℕ → Settings → Settings
with_front flags s = record s { pi = not (is_set flags IFF_NO_PI); header = is_set flags IFF_VNET_HDR }

-- a device that is found without files takes what stands in front of its frames from the flags; all else stays
abbrev pub found_left : ℕ → Device → Device
found_left flags d = record d { settings = with_front flags d.settings }

-- the device to which a file is attached
abbrev pub joined : ℕ → Option Device → Device
joined flags None = new_device flags
joined flags (Some d) = if is_left d then found_left flags d else d

-- a file is attached to the device of a name
unfoldable pub set_iff : Table → ℕ → ℕ → ℕ → Table
set_iff t file device flags =
    with_device (with_file t file (attached_file (file_at t file) device)) device
    (Some (with_row file (next_epoch t file) (joined flags (device_at t device))))

-- ---- enabling and disabling queues

-- a disabled queue is enabled
abbrev pub enabled : Attachment → Table → ℕ → Table
enabled (Disabled device) t file =
    changed (with_file t file (attached_file (file_at t file) device)) device
    (λ d. Some (with_row file (next_epoch t file) (without_disabled d)))
enabled (Enabled device) t file = t
enabled Unattached t file = t

-- an enabled queue is disabled
abbrev pub disabled : Attachment → Table → ℕ → Table
disabled (Enabled device) t file =
    changed (with_file t file (standing (Disabled device) (file_at t file))) device
    (λ d. Some (with_disabled (without_row file d)))
disabled (Disabled device) t file = t
disabled Unattached t file = t

unfoldable pub attach_queue : Table → ℕ → Table
attach_queue t file = enabled (file_at t file).attachment t file

unfoldable pub detach_queue : Table → ℕ → Table
detach_queue t file = disabled (file_at t file).attachment t file

-- with both flags it is enabled
abbrev pub set_queue : Table → ℕ → ℕ → Table
set_queue t file flags = if is_set flags IFF_ATTACH_QUEUE then attach_queue t file else detach_queue t file

-- ---- closing

-- a device without files goes, unless it is persistent
abbrev pub if_kept : Device → Option Device
if_kept d = if is_left d && not d.settings.persistent then None else Some d

-- the file leaves its device
abbrev pub left : Attachment → Table → ℕ → Table
left (Enabled device) t file =
    changed (with_file t file (standing Unattached (file_at t file))) device (λ d. if_kept (without_row file d))
left (Disabled device) t file =
    changed (with_file t file (standing Unattached (file_at t file))) device (λ d. if_kept (without_disabled d))
left Unattached t file = t

unfoldable pub shut : Table → ℕ → Table
shut t file = left (file_at t file).attachment t file

-- ---- settings of a file's device

abbrev pub with_settings : (Settings → Settings) → Device → Device
with_settings change d = record d { settings = change d.settings }

abbrev pub with_header_size : ℕ → Settings → Settings
with_header_size size s = record s { header_size = size }

abbrev pub with_persistence : Bool → Settings → Settings
with_persistence on s = record s { persistent = on }

abbrev pub with_steering : Option ℕ → Settings → Settings
with_steering program s = record s { steering = program }

abbrev pub with_filter : Option ℕ → Settings → Settings
with_filter program s = record s { filter = program }

-- the device of a file gets other settings
abbrev pub set_at : Option ℕ → Table → (Settings → Settings) → Table
set_at None t change = t
set_at (Some device) t change = changed t device (λ d. Some (with_settings change d))

unfoldable pub set_device : Table → ℕ → (Settings → Settings) → Table
set_device t file change = set_at (device_of t file) t change

abbrev pub set_hdr_size : Table → ℕ → ℕ → Table
set_hdr_size t file size = set_device t file (with_header_size size)

abbrev pub set_persistent : Table → ℕ → Bool → Table
set_persistent t file on = set_device t file (with_persistence on)

abbrev pub set_steering : Table → ℕ → Option ℕ → Table
set_steering t file program = set_device t file (with_steering program)

abbrev pub set_filter : Table → ℕ → Option ℕ → Table
set_filter t file program = set_device t file (with_filter program)

-- ---- flows

-- a device that takes what is learnt: it has more than one enabled queue, and no steering program
abbrev pub is_learning : Device → Bool
is_learning d = nat_lt 1 (length d.rows) && is_none d.settings.steering

-- what becomes of a device's flows where one is learnt at the queue of a file
abbrev pub learning : ℕ → ℕ → ℕ → ℕ → Device → Device
learning limit file hash now d =
    if is_learning d
    then record d { flows = learnt d.flows limit hash (record { index = row_of d file; updated = now }) }
    else d

-- only an enabled queue learns
abbrev pub learn_at : Attachment → Table → ℕ → ℕ → Table
learn_at (Enabled device) t file hash =
    changed t device (λ d. Some (learning (name_at t device).limit file hash t.clock d))
learn_at (Disabled device) t file hash = t
learn_at Unattached t file hash = t

unfoldable pub learn : Table → ℕ → ℕ → Table
learn t file hash = learn_at (file_at t file).attachment t file hash

-- the flows of a device that are old go
abbrev pub without_old : ℕ → ℕ → Device → Device
without_old age now d = record d { flows = ticked d.flows age now }

-- by the age of its name
abbrev pub aged : ℕ → Named → Named
aged now name = record name { device = option_map (without_old name.age now) name.device }

unfoldable pub tick : Table → ℕ → Table
tick t now = record t { clock = now; names = map (aged now) t.names }

-- ---- a file alone

-- a side of it belongs to a vhost's ring, or to none
abbrev pub backed : Side → Option ℕ → File → File
backed Rx vhost file = record file { rx = vhost }
backed Tx vhost file = record file { tx = vhost }

unfoldable pub back : Table → ℕ → Side → Option ℕ → Table
back t file side vhost = with_file t file (backed side vhost (file_at t file))

-- it has another capacity, and one more resize
abbrev pub resized : ℕ → File → File
resized capacity file = record file { capacity = capacity; resizes = file.resizes + 1 }

unfoldable pub resize : Table → ℕ → ℕ → Table
resize t file capacity = with_file t file (resized capacity (file_at t file))

-- ---- all operations

-- the table after an operation
abbrev pub after : Table → Op → Table
after t (op.SetIff file device flags) = set_iff t file device flags
after t (op.SetQueue file flags) = set_queue t file flags
after t (op.Shut file) = shut t file
after t (op.HdrSize file size) = set_hdr_size t file size
after t (op.Persist file on) = set_persistent t file on
after t (op.Learn file hash) = learn t file hash
after t (op.Tick now) = tick t now
after t (op.Steering file program) = set_steering t file program
after t (op.Filter file program) = set_filter t file program
after t (op.Back file side vhost) = back t file side vhost
after t (op.Resize file capacity) = resize t file capacity

-- the table after a list of operations, the first of the list first
abbrev pub after_all : Table → List Op → Table
after_all t [] = t
after_all t (operation ∷ operations) = after_all (after t operation) operations

-- the same where what is refused changes nothing, with the refusals in order
abbrev pub unless_refused : Option TapErr → Table → Op → Table
unless_refused None t operation = after t operation
unless_refused (Some refusal) t operation = t

abbrev pub tried : Table → Op → Table
tried t operation = unless_refused (refuse t operation) t operation

abbrev pub answers : Table → List Op → List (Option TapErr)
answers t [] = []
answers t (operation ∷ operations) = refuse t operation ∷ answers (tried t operation) operations

abbrev pub tried_all : Table → List Op → Table
tried_all t [] = t
tried_all t (operation ∷ operations) = tried_all (tried t operation) operations
