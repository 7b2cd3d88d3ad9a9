-- This project's own: part 6 of what is sound. Files and the rings of vhosts have what the queue table says in every
-- world of a run, but for the command that holds the writer.
use Rattle.std.specs.Prelude.{◌≡◌, ℕ, ◌+◌, ◌<◌, ◌==◌, ◌&&◌, ◌↔◌, not, if◌then◌else◌, length, slice_get, Bool, true, false, Option, Some, None}
use Rattle.std.specs.Option.{option_map_or}
use Rattle.tap_ledger.specs.declared.side.Side.{Side}
use Rattle.tap_ledger.specs.declared.side.Side.TheVariants.{Rx, Tx}
use Rattle.tap_steer.specs.Table.{Table, file_at}
use Rattle.tap_steer.specs.Rules.{backer}
use Rattle.vhost_dev.specs.Settings.{RingSettings, Settings}
use Rattle.scen_words.specs.declared.command.Command.{Command}
use Rattle.scen_words.specs.declared.command.Command.TheVariants as command
use Rattle.tap_ground.specs.Options.{◌>>=◌}
use Rattle.tap_world.specs.Guests.{Vhost, is_ring}
use Rattle.tap_world.specs.Setup.{Setup}
use Rattle.tap_world.specs.Each.{EachFile, EachVhost}
use Rattle.tap_world.specs.Line.{File}
use Rattle.tap_world.specs.StepTable.{is_enabled}
use Rattle.tap_world.specs.StepBackend.{side_of}
use Rattle.tap_world.specs.World.{Actor, Doing, World, current, table}
use Rattle.tap_world.specs.World.Doing.{Backed, Backs, Begun, Changes, Disowned, Opened, Owns, Released, Shrinks, Unbacked, Withdrawn, Withdraws}

-- ---- the command that holds the writer

-- the actor that holds the writer, how far its command has come, and the command
abbrev pub writer_of : World → Option Actor
writer_of w = do
  actor ← w.writer
  slice_get w.actors actor

abbrev pub writing : World → Doing
writing w = option_map_or (λ (a : Actor). a.doing) (writer_of w) Begun

abbrev pub commanded : World → Option Command
commanded w = do
  a ← writer_of w
  c ← current a.script
  Some c.command

-- ---- files

-- what a file has of the table: its epoch, whether its gate is shut, its owner, its capacity and its resizes
pub record Agreed : Type 0 where
  pub epoch : ℕ
  pub shut : Bool
  pub owner : Option ℕ
  pub capacity : ℕ
  pub resizes : ℕ

abbrev pub has_of : File → Agreed
has_of f = record { epoch = f.epoch; shut = f.shut; owner = f.owner; capacity = f.capacity; resizes = f.resizes }

abbrev pub of_table : Table → ℕ → Agreed
of_table t file = record {
  epoch = (file_at t file).epoch;
  shut = not (is_enabled (file_at t file).attachment);
  owner = (file_at t file).rx;
  capacity = (file_at t file).capacity;
  resizes = (file_at t file).resizes;
}

-- the capacity that a resize asks for
abbrev pub asked_by : Option Command → ℕ
asked_by (Some (command.Resize file capacity)) = capacity
asked_by other = 0

-- what a command that holds the writer has on its own file in place of that: an attach its gate unshut and one epoch
-- ahead; a detach its gate still open; a resize its capacity; and a backend an owner that is still to come, or gone
abbrev pub expected : Doing → Option Command → ℕ → Agreed → Agreed
expected (Opened other) c file x = if other == file then record x { epoch = x.epoch + 1; shut = false } else x
expected (Withdrawn other version) c file x = if other == file then record x { shut = false } else x
expected (Shrinks other places cuts) c file x =
    if other == file then record x { capacity = asked_by c; resizes = x.resizes + 1 } else x
expected (Owns other version) c file x = if other == file then record x { owner = None } else x
expected (Disowned other) c file x = if other == file then record x { owner = None } else x
expected doing c file x = x

-- A gate has its file's epoch, and is unshut exactly where its file is enabled; the owner is the worker that the table
-- names; capacity and number of resizes are the table's; but for the command that holds the writer.
abbrev pub AgreesWithTable : Setup → World → ℕ → File → Type 0
AgreesWithTable s w file f = has_of f ≡ expected (writing w) (commanded w) file (of_table (table s w) file)

-- Each file is one of the table.
abbrev pub IsInTable : Setup → World → ℕ → File → Type 0
IsInTable s w file f = file < length (table s w).files

-- ---- backends

-- the ring of a side
abbrev pub on_side : Side → Settings → RingSettings
on_side Rx s = s.rx
on_side Tx s = s.tx

-- a ring's number is that of the side
abbrev pub is_on : Side → ℕ → Bool
is_on Rx ring = ring == 0
is_on Tx ring = not (ring == 0)

abbrev pub is_rx_side : Side → Bool
is_rx_side Rx = true
is_rx_side Tx = false

-- the vhost of a side of a file, or the one that the command that holds the writer has set there and is to publish; or
-- none, where it has unset it
abbrev pub backer_by : Doing → Option Command → Side → ℕ → Option ℕ → Option ℕ
backer_by (Backed other) (Some (command.Backend vhost ring asked)) side file x =
    if other == file && is_on side ring then Some vhost else x
backer_by (Unbacked other) c side file x = if other == file && is_rx_side side then None else x
backer_by (Disowned other) c side file x = if other == file && is_rx_side side then None else x
backer_by (Released other) c side file x = if other == file && not (is_rx_side side) then None else x
backer_by doing c side file x = x

-- A vhost's ring has a file as its backend exactly where the table names that vhost for that file and side, but where
-- the command that holds the writer has set or unset it and is to publish that.
abbrev pub HasItsBackends : Setup → World → ℕ → Vhost → Type 0
HasItsBackends s w vhost v =
    (side : Side) (file : ℕ)
    → ((on_side side v.settings).file ≡ Some file)
    ↔ (backer_by (writing w) (commanded w) side file (backer side (file_at (table s w) file)) ≡ Some vhost)

-- ---- what the command that holds the writer found

-- A detach is of a file whose queue is enabled, until it has published; a close that changes the table alone is of one
-- whose queue isn't. A side of a file of the table that is to be a backend is none yet; and the worker that is to own a
-- file is the table's.
abbrev pub IsAsFound : Doing → Option Command → Table → Type 0
IsAsFound (Withdraws file) c t = is_enabled (file_at t file).attachment ≡ true
IsAsFound (Withdrawn file version) c t = is_enabled (file_at t file).attachment ≡ false
IsAsFound Changes (Some (command.Close file)) t = is_enabled (file_at t file).attachment ≡ false
IsAsFound (Backs None) (Some (command.Backend vhost ring (Some file))) t =
    is_ring ring ≡ true → (file < length t.files) × (backer (side_of ring) (file_at t file) ≡ None)
IsAsFound (Backed file) (Some (command.Backend vhost ring asked)) t =
    (file < length t.files) × (backer (side_of ring) (file_at t file) ≡ None)
IsAsFound (Owns file version) (Some (command.Backend vhost ring asked)) t = (file_at t file).rx ≡ Some vhost
IsAsFound doing c t = Unit {0}

-- ---- 6: the table

-- Files are the table's and have what it says, and rings the backends that it says, but for the command that holds the
-- writer; and what that command found is still so.
pub record HasTable (s : Setup) (w : World) : Type 0 where
  pub agrees : EachFile w (AgreesWithTable s w)
  pub known : EachFile w (IsInTable s w)
  pub backends : EachVhost w (HasItsBackends s w)
  pub found : IsAsFound (writing w) (commanded w) (table s w)
