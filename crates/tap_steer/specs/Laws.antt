-- This project's own: what holds after any lawful operations.
use Rattle.std.specs.Prelude.{◌≡◌, ℕ, ◌+◌, ◌<◌, ◌≤◌, ◌⊎◌, true, List, [], ◌∷◌, length, Some, None, IfSome, is_some}
use Rattle.tap_queues.specs.declared.queues.Row.{Row as QueueRow}
use Rattle.tap_steer.specs.declared.files.Attachment.TheVariants.{Enabled}
use Rattle.tap_steer.specs.declared.files.File.{File}
use Rattle.tap_steer.specs.declared.operation.Op.{Op}
use Rattle.tap_steer.specs.declared.operation.Op.TheVariants as op
use Rattle.tap_steer.specs.declared.operation.TheConstants.{IFF_ATTACH_QUEUE}
use Rattle.tap_steer.specs.declared.selection.Select.TheVariants.{Row}
use Rattle.tap_steer.specs.Table.{Table, Device, first, file_at, home, is_enabled, next_epoch, device_at, device_of, is_left, is_set}
use Rattle.tap_steer.specs.Rules.{is_backed, refuse}
use Rattle.tap_steer.specs.After.{after, after_all, set_iff, shut, with_row, without_row, found_left}
use Rattle.tap_steer.specs.Named.{IsNamed}
use Rattle.tap_steer.specs.Select.{select}
use Rattle.tap_steer.specs.Sound.{IsSound}

-- one after the other, each operation names what is there and isn't refused
abbrev pub AreLawful : Table → List Op → Type 0
AreLawful t [] = Unit {0}
AreLawful t (operation ∷ operations) =
    IsNamed t operation × (refuse t operation ≡ None) × AreLawful (after t operation) operations

-- the table that lawful operations reach is sound
abbrev pub ReachedIsSound : Type 0
ReachedIsSound =
    (programs : List (List ℕ)) (capacities : List ℕ) (flows : List (ℕ × ℕ)) (operations : List Op) → length flows ≡ 64
    → AreLawful (first programs capacities flows) operations
    → IsSound (after_all (first programs capacities flows) operations)

-- the epoch of a file never falls
abbrev pub EpochsNeverFall : Type 0
EpochsNeverFall =
    (t : Table) (operations : List Op) (file : ℕ)
    → (file_at t file).epoch ≤ (file_at (after_all t operations) file).epoch

-- a file's epoch stays, and its queue isn't enabled where it wasn't; or its queue is enabled under the next epoch
abbrev pub StaysOrIsEnabled : File → File → Type 0
StaysOrIsEnabled f g =
    ((g.epoch ≡ f.epoch) × (is_enabled g.attachment ≡ true → is_enabled f.attachment ≡ true))
    ⊎ ((g.epoch ≡ f.epoch + 1) × (is_enabled g.attachment ≡ true))

-- an operation raises an epoch by one at most, and only where it enables the file's queue; so each epoch is enabled once
abbrev pub EpochsRiseByOne : Type 0
EpochsRiseByOne =
    (t : Table) (operation : Op) (file : ℕ) → StaysOrIsEnabled (file_at t file) (file_at (after t operation) file)

-- a file's capacity stays and so does the number of its resizes, or that number rises by one
abbrev pub StaysOrIsResized : File → File → Type 0
StaysOrIsResized f g =
    ((g.resizes ≡ f.resizes) × (g.capacity ≡ f.capacity)) ⊎ (g.resizes ≡ f.resizes + 1)

abbrev pub ResizesRiseByOne : Type 0
ResizesRiseByOne =
    (t : Table) (operation : Op) (file : ℕ) → StaysOrIsResized (file_at t file) (file_at (after t operation) file)

-- A file with a device was attached, so its epoch is at least 1. Only a file with a device is the backend of a ring.
pub record IsInUse (f : File) : Type 0 where
  pub numbered : is_some (home f.attachment) ≡ true → 0 < f.epoch
  pub backed : is_backed f ≡ true → is_some (home f.attachment) ≡ true

-- so it is of each file that lawful operations reach
abbrev pub FilesAreInUse : Type 0
FilesAreInUse =
    (programs : List (List ℕ)) (capacities : List ℕ) (flows : List (ℕ × ℕ)) (operations : List Op)
    → AreLawful (first programs capacities flows) operations
    → (file : ℕ) → IsInUse (file_at (after_all (first programs capacities flows) operations) file)

-- the row that a frame gets at a device: its file's queue is enabled there at this epoch, with this capacity after so
-- many resizes, and no more of the frame is kept than there is
pub record IsEnabledRow (t : Table) (device : ℕ) (frame : List ℕ) (row : QueueRow) (keep resizes capacity : ℕ) : Type 0 where
  pub enabled : (file_at t row.file).attachment ≡ Enabled device
  pub epoch : (file_at t row.file).epoch ≡ row.epoch
  pub kept : keep ≤ length frame
  pub resizes_are : resizes ≡ (file_at t row.file).resizes
  pub capacity_is : capacity ≡ (file_at t row.file).capacity

abbrev pub RowsAreEnabled : Type 0
RowsAreEnabled =
    (t : Table) → IsSound t → (device : ℕ) (frame : List ℕ) (row : QueueRow) (keep resizes capacity : ℕ)
    → select t device frame ≡ Row row keep resizes capacity → IsEnabledRow t device frame row keep resizes capacity

-- an attachment that isn't refused has an epoch left, and a resize that isn't refused a number
pub record HaveNumbersLeft (t : Table) (file : ℕ) : Type 0 where
  pub attached : (device flags : ℕ) → refuse t (op.SetIff file device flags) ≡ None → (file_at t file).epoch < 65535
  pub enabled :
      (flags : ℕ) → refuse t (op.SetQueue file flags) ≡ None → is_set flags IFF_ATTACH_QUEUE ≡ true
      → (file_at t file).epoch < 65535
  pub resized : (capacity : ℕ) → refuse t (op.Resize file capacity) ≡ None → (file_at t file).resizes < 127

abbrev pub NumbersAreLeft : Type 0
NumbersAreLeft = (t : Table) (file : ℕ) → HaveNumbersLeft t file

-- a device that exists is persistent, or a file belongs to it
abbrev pub IsPersistentOrHasFile : Table → ℕ → Device → Type 0
IsPersistentOrHasFile t device d =
    (d.settings.persistent ≡ true) ⊎ ((file : ℕ) × (device_of t file ≡ Some device))

abbrev pub DevicesHaveFiles : Type 0
DevicesHaveFiles = (t : Table) → IsSound t → (device : ℕ) → IfSome (device_at t device) (IsPersistentOrHasFile t device)

-- a persistent device stays when a file with an enabled queue is closed
abbrev pub StaysOverClose : Type 0
StaysOverClose =
    (t : Table) (file device : ℕ) (d : Device) → device < length t.names → device_at t device ≡ Some d
    → (file_at t file).attachment ≡ Enabled device → d.settings.persistent ≡ true
    → device_at (shut t file) device ≡ Some (without_row file d)

-- a device that is found without files keeps all but what stands in front of its frames
abbrev pub IsFoundAgain : Type 0
IsFoundAgain =
    (t : Table) (file device flags : ℕ) (d : Device)
    → device < length t.names → device_at t device ≡ Some d → is_left d ≡ true
    → device_at (set_iff t file device flags) device ≡ Some (with_row file (next_epoch t file) (found_left flags d))

-- what an operation names stays there
abbrev pub NamesStay : Type 0
NamesStay = (t : Table) (operation other : Op) → IsNamed t other → IsNamed (after t operation) other
