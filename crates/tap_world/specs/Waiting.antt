-- This project's own: which actors wait. An actor may go on where its command's next event is allowed; that is read off
-- how far the command has come, who holds the writer and the rings' turns, and its file.
use Rattle.std.specs.Prelude.{ℕ, ◌&&◌, ◌||◌, not, Bool, true, false, if◌then◌else◌, is_none, is_some}
use Rattle.std.specs.Option.{option_map_or}
use Rattle.scen_words.specs.declared.command.Command.{Command}
use Rattle.scen_words.specs.declared.command.Command.TheVariants as command
use Rattle.tap_world.specs.ByNumber.{at}
use Rattle.tap_world.specs.Guests.{Vhost, is_free, is_free_for, is_ring}
use Rattle.tap_world.specs.Line.{File, has_batch, has_claim, is_over}
use Rattle.tap_world.specs.LineSteps.{ready_front}
use Rattle.tap_world.specs.World.{Actor, Doing, World}
use Rattle.tap_world.specs.World.Doing.{Backed, Backs, Begun, Changes, Disowned, Given, Hosts, Learns, Opened, Opens, Owns, Placed, Purges, Reads, Receives, Released, Resizes, Routed, Shrinks, Teaches, Transmits, Unbacked, Withdrawn, Withdraws}
use Rattle.tap_world.specs.StepControl.{may_call}

-- ---- what is waited for

-- nobody holds the writer
abbrev pub is_writer_free : World → Bool
is_writer_free w = is_none w.writer

-- a vhost or a file is so; one that isn't there isn't
abbrev pub vhost_is : World → ℕ → (Vhost → Bool) → Bool
vhost_is w vhost test = option_map_or test (at w.vhosts vhost) false

abbrev pub file_is : World → ℕ → (File → Bool) → Bool
file_is w file test = option_map_or test (at w.files file) false

-- a backend's turn is free where it begins; a ring that there isn't has none
abbrev pub has_free_turn : ℕ → Vhost → Bool
has_free_turn ring v = not (is_ring ring) || is_free ring v

-- a purge waits for a frame that is in hand, and for the place in front of the ring to be put
abbrev pub may_purge : File → Bool
may_purge f = if has_batch f then is_none f.hand else is_some (ready_front f.line)

-- a resize waits, while more wait than the ring has places, for each claimed place to be put
abbrev pub may_shrink : File → Bool
may_shrink f = not (is_over f) || not (has_claim f)

-- ---- who may go on

-- A command may begin: on the table where nobody holds the writer; a backend where its ring's turn is free, too; a turn
-- where that is free; a control call of a vhost where it meets no turn; any other command always.
abbrev pub may_begin : World → ℕ → Command → Bool
may_begin w actor (command.SetIff file name flags) = is_writer_free w
may_begin w actor (command.SetQueue file flags) = is_writer_free w
may_begin w actor (command.Close file) = is_writer_free w
may_begin w actor (command.Persist file on) = is_writer_free w
may_begin w actor (command.HdrSize file size) = is_writer_free w
may_begin w actor (command.Steer file program) = is_writer_free w
may_begin w actor (command.Filter file program) = is_writer_free w
may_begin w actor (command.Tick now) = is_writer_free w
may_begin w actor (command.Resize file capacity) = is_writer_free w
may_begin w actor (command.Backend vhost ring file) = is_writer_free w && vhost_is w vhost (has_free_turn ring)
may_begin w actor (command.RxTurn vhost) = vhost_is w vhost (is_free 0)
may_begin w actor (command.TxTurn vhost) = vhost_is w vhost (is_free 1)
may_begin w actor (command.Features vhost bits) = vhost_is w vhost (may_call actor (command.Features vhost bits))
may_begin w actor (command.VNum vhost ring n) = vhost_is w vhost (may_call actor (command.VNum vhost ring n))
may_begin w actor (command.VBase vhost ring n) = vhost_is w vhost (may_call actor (command.VBase vhost ring n))
may_begin w actor (command.VAddr vhost ring desc avail used) =
    vhost_is w vhost (may_call actor (command.VAddr vhost ring desc avail used))
may_begin w actor (command.GetBase vhost ring) = vhost_is w vhost (may_call actor (command.GetBase vhost ring))
may_begin w actor (command.DriveAt vhost ring addr) = true
may_begin w actor (command.PostIn vhost ring lens) = true
may_begin w actor (command.PostOut vhost ring bytes) = true
may_begin w actor (command.Harvest vhost ring) = true
may_begin w actor (command.Poke guest addr bytes) = true
may_begin w actor (command.Peek guest addr len) = true
may_begin w actor (command.Send device hdr bytes) = true
may_begin w actor (command.Read file room) = true
may_begin w actor (command.Write file bytes) = true

-- the call of a backend that the table refused waits for its ring's turn; one that it didn't refuse holds that turn
abbrev pub may_drive : World → ℕ → Command → Bool
may_drive w actor (command.Backend vhost ring file) = vhost_is w vhost (is_free_for actor ring)
may_drive w actor other = false

-- A command may go on from there: one under way waits for the writer where a flow is to be learnt, for its ring's
-- turn at the call of a backend, and, once its gate is shut or its ring resized, for frames of its file; else never.
abbrev pub may_go_from : World → ℕ → Command → Doing → Bool
may_go_from w actor c Begun = may_begin w actor c
may_go_from w actor c (Learns file ether) = is_writer_free w
may_go_from w actor c (Teaches file t chains frame) = is_writer_free w
may_go_from w actor c (Backs refusal) = may_drive w actor c
may_go_from w actor c (Purges file version) = file_is w file may_purge
may_go_from w actor c (Shrinks file places cuts) = file_is w file may_shrink
may_go_from w actor c Changes = true
may_go_from w actor c (Opens file) = true
may_go_from w actor c (Opened file) = true
may_go_from w actor c (Withdraws file) = true
may_go_from w actor c (Withdrawn file version) = true
may_go_from w actor c (Resizes file capacity) = true
may_go_from w actor c (Routed file epoch len) = true
may_go_from w actor c (Placed file place epoch len) = true
may_go_from w actor c (Reads file room front) = true
may_go_from w actor c (Hosts file ether learns) = true
may_go_from w actor c (Backed file) = true
may_go_from w actor c (Owns file version) = true
may_go_from w actor c (Unbacked file) = true
may_go_from w actor c (Disowned file) = true
may_go_from w actor c (Released file) = true
may_go_from w actor c (Receives file t) = true
may_go_from w actor c (Transmits file t chains) = true
may_go_from w actor c (Given file t chains frame) = true

-- an actor may go on with its command
abbrev pub may_go : World → ℕ → Actor → Command → Bool
may_go w actor a c = may_go_from w actor c a.doing
