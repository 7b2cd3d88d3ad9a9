-- This project's own, after Linux's tun devices: which operations are refused. An operation has rules in an order,
-- and the first that it breaks says why it is refused.
use Rattle.std.specs.Prelude.{ℕ, ◌==◌, ◌&&◌, ◌||◌, nat_lt, nat_le, Bool, true, not, if◌then◌else◌, List, [], ◌∷◌, length, filter, Option, Some, None, is_some}
use Rattle.tap_ledger.specs.declared.error.TapErr.{TapErr}
use Rattle.tap_ledger.specs.declared.error.TapErr.TheVariants.{EEXIST, EINVAL, EBUSY, E2BIG, EBADFD, ENOTSUP, ENFILE}
use Rattle.tap_ledger.specs.declared.error.Invalid.TheVariants.{Kind, Multi, NotDetached, NoDevice, NotMulti, Detached, NoFlag, HdrSize, Clock}
use Rattle.tap_ledger.specs.declared.error.Busy.TheVariants.{Exclusive, OneQueue, Backed}
use Rattle.tap_ledger.specs.declared.error.TooBig.TheVariants.{Queues, Epochs, Resizes}
use Rattle.tap_steer.specs.declared.files.File.{File}
use Rattle.tap_ledger.specs.declared.side.Side.{Side}
use Rattle.tap_ledger.specs.declared.side.Side.TheVariants.{Rx, Tx}
use Rattle.tap_steer.specs.declared.operation.Op.{Op}
use Rattle.tap_steer.specs.declared.operation.Op.TheVariants as op
use Rattle.tap_steer.specs.declared.operation.TheConstants.{IFF_TAP, IFF_MULTI_QUEUE, IFF_TUN_EXCL, IFF_UNSUPPORTED, IFF_ATTACH_QUEUE, IFF_DETACH_QUEUE}
use Rattle.tap_steer.specs.declared.rules.TheConstants.{LEAST_HEADER_SIZE, MAX_DEVICES, MAX_EPOCH, MAX_RESIZES, MOST_HEADER_SIZE}
use Rattle.tap_steer.specs.Table.{Table, Device, file_at, device_of, is_disabled, exists, has, at_home, queue_count, is_set}
pub use Rattle.tap_ground.specs.Options.{first_that_holds as first_broken}

-- a rule: where the test is true, this is the refusal
abbrev pub Rule : Type 0
Rule = Bool × TapErr

-- ---- what rules ask

-- the file has a device
abbrev pub has_device : Table → ℕ → Bool
has_device t file = is_some (device_of t file)

-- the file was attached as often as it may be
abbrev pub has_spent_epochs : Table → ℕ → Bool
has_spent_epochs t file = nat_le MAX_EPOCH (file_at t file).epoch

-- how many devices exist
abbrev pub device_count : Table → ℕ
device_count t = length (filter (λ name. is_some name.device) t.names)

-- the device has several queues where one is asked for, or the other way round
abbrev pub differs_in_multi : ℕ → Device → Bool
differs_in_multi flags d =
    if d.settings.multi_queue then not (is_set flags IFF_MULTI_QUEUE) else is_set flags IFF_MULTI_QUEUE

-- it has one queue for good
abbrev pub is_single : Device → Bool
is_single d = not d.settings.multi_queue

-- it has the one queue that it may have
abbrev pub has_its_one_queue : Device → Bool
has_its_one_queue d = not d.settings.multi_queue && queue_count d == 1

-- it has as many queues as a device may have
abbrev pub is_full : Device → Bool
is_full d = nat_le 256 (queue_count d)

-- the vhost that has a side of the file
abbrev pub backer : Side → File → Option ℕ
backer Rx file = file.rx
backer Tx file = file.tx

-- a ring has the file as its backend
abbrev pub is_backed : File → Bool
is_backed file = is_some file.rx || is_some file.tx

-- no header has this size
abbrev pub is_bad_size : ℕ → Bool
is_bad_size size = nat_lt size LEAST_HEADER_SIZE || nat_lt MOST_HEADER_SIZE size

-- ---- the rules of each operation

-- a file is attached to the device of a name
unfoldable pub set_iff_rules : Table → ℕ → ℕ → ℕ → List Rule
set_iff_rules t file device flags =
    (has_device t file, EEXIST)
    ∷ (is_set flags IFF_UNSUPPORTED, ENOTSUP)
    ∷ (exists t device && is_set flags IFF_TUN_EXCL, EBUSY Exclusive)
    ∷ (not (is_set flags IFF_TAP), EINVAL Kind)
    ∷ (has t device (differs_in_multi flags), EINVAL Multi)
    ∷ (has t device has_its_one_queue, EBUSY OneQueue)
    ∷ (has t device is_full, E2BIG Queues)
    ∷ (not (exists t device) && nat_le MAX_DEVICES (device_count t), ENFILE)
    ∷ (has_spent_epochs t file, E2BIG Epochs)
    ∷ []

-- a queue is enabled
unfoldable pub attach_rules : Table → ℕ → List Rule
attach_rules t file =
    (not (is_disabled (file_at t file).attachment), EINVAL NotDetached)
    ∷ (has_spent_epochs t file, E2BIG Epochs)
    ∷ []

-- a queue is disabled
unfoldable pub detach_rules : Table → ℕ → List Rule
detach_rules t file =
    (not (has_device t file), EINVAL NoDevice)
    ∷ (at_home t file is_single, EINVAL NotMulti)
    ∷ (is_disabled (file_at t file).attachment, EINVAL Detached)
    ∷ []

-- neither is asked for
abbrev pub no_flag_rules : List Rule
no_flag_rules = (true, EINVAL NoFlag) ∷ []

-- a queue is enabled or disabled; with both flags it is enabled
abbrev pub set_queue_rules : Table → ℕ → ℕ → List Rule
set_queue_rules t file flags =
    if is_set flags IFF_ATTACH_QUEUE
    then attach_rules t file
    else (if is_set flags IFF_DETACH_QUEUE then detach_rules t file else no_flag_rules)

-- a file is closed
abbrev pub shut_rules : Table → ℕ → List Rule
shut_rules t file = (is_backed (file_at t file), EBUSY Backed) ∷ []

-- a device is set to something
abbrev pub device_rules : Table → ℕ → List Rule
device_rules t file = (not (has_device t file), EBADFD) ∷ []

-- its header size is set
abbrev pub hdr_size_rules : Table → ℕ → ℕ → List Rule
hdr_size_rules t file size = (not (has_device t file), EBADFD) ∷ (is_bad_size size, EINVAL HdrSize) ∷ []

-- the clock is set
abbrev pub tick_rules : Table → ℕ → List Rule
tick_rules t now = (nat_lt now t.clock, EINVAL Clock) ∷ []

-- a side of a file becomes the backend of a vhost's ring, or of none
abbrev pub back_rules : Table → ℕ → Side → Option ℕ → List Rule
back_rules t file side None = []
back_rules t file side (Some vhost) =
    (not (has_device t file), EBADFD)
    ∷ (is_some (backer side (file_at t file)), EBUSY Backed)
    ∷ []

-- the capacity of a file is set
abbrev pub resize_rules : Table → ℕ → List Rule
resize_rules t file =
    (not (has_device t file), EBADFD)
    ∷ (nat_le MAX_RESIZES (file_at t file).resizes, E2BIG Resizes)
    ∷ []

-- the rules of an operation
abbrev pub rules : Table → Op → List Rule
rules t (op.SetIff file device flags) = set_iff_rules t file device flags
rules t (op.SetQueue file flags) = set_queue_rules t file flags
rules t (op.Shut file) = shut_rules t file
rules t (op.HdrSize file size) = hdr_size_rules t file size
rules t (op.Persist file on) = device_rules t file
rules t (op.Learn file hash) = []
rules t (op.Tick now) = tick_rules t now
rules t (op.Steering file program) = device_rules t file
rules t (op.Filter file program) = device_rules t file
rules t (op.Back file side vhost) = back_rules t file side vhost
rules t (op.Resize file capacity) = resize_rules t file

-- the refusal of an operation, if it is refused
unfoldable pub refuse : Table → Op → Option TapErr
refuse t operation = first_broken (rules t operation)
