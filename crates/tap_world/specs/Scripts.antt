-- This project's own: which events a command has. The next one is read off how far the command has come, and off the
-- file where it is about one.
use Rattle.std.specs.Prelude.{ℕ, ◌==◌, ◌||◌, Bool, false, if◌then◌else◌, Option, Some, None, is_some}
use Rattle.std.specs.Option.{option_map_or}
use Rattle.tap_world.specs.declared.event.EventKind.{EventKind}
use Rattle.tap_world.specs.declared.event.EventKind.TheVariants as event
use Rattle.scen_words.specs.declared.command.Command.{Command}
use Rattle.scen_words.specs.declared.command.Command.TheVariants as command
use Rattle.vring_turns.specs.declared.stage.RxStage.{RxStage}
use Rattle.vring_turns.specs.declared.stage.RxStage.TheVariants as rx
use Rattle.vring_turns.specs.declared.stage.TxStage.{TxStage}
use Rattle.vring_turns.specs.declared.stage.TxStage.TheVariants as tx
use Rattle.tap_world.specs.ByNumber.{at}
use Rattle.tap_world.specs.Line.{File, has_batch, is_full, is_gone, is_over, is_spent}
use Rattle.tap_world.specs.LineSteps.{ready_front}
use Rattle.tap_world.specs.World.{Doing, World}
use Rattle.tap_world.specs.World.Doing.{Backed, Backs, Begun, Changes, Disowned, Given, Hosts, Learns, Opened, Opens, Owns, Placed, Purges, Reads, Receives, Released, Resizes, Routed, Shrinks, Teaches, Transmits, Unbacked, Withdrawn, Withdraws}
use Rattle.tap_world.specs.StepControl.{driven_vhost}
use Rattle.tap_world.specs.StepTurns.{is_off}

-- a send with a row: the first of Gone, Spent, Full and Claim whose condition holds
abbrev pub send_next : ℕ → File → EventKind
send_next epoch f =
    if is_gone epoch f then event.Gone
    else if is_spent f then event.Spent
    else if is_full f then event.Full
    else event.Claim

-- a read, as the file stands: it meets a worker, takes the batch's front, moves the ring's front, or finds none ready
abbrev pub read_next : File → EventKind
read_next f =
    if is_some f.owner then event.Owner
    else if has_batch f then event.Out
    else if is_some (ready_front f.line) then event.Move
    else event.NotReady

-- a purge: the batch's front goes out, and then the ring's front moves
abbrev pub purge_next : File → EventKind
purge_next f = if has_batch f then event.Out else event.Move

-- a resize: cuts while more wait than the ring has places, and then its publication
abbrev pub shrink_next : File → EventKind
shrink_next f = if is_over f then event.Cut else event.Publish

-- what is next on a file; a file that a command names is there
abbrev pub on : World → ℕ → (File → EventKind) → Option EventKind
on w file kind = option_map_or (λ f. Some (kind f)) (at w.files file) None

-- ---- commands on guests

-- a turn begins by turning notices off, where its ring has a backend and isn't stopped
abbrev pub turn_first : World → ℕ → ℕ → EventKind
turn_first w vhost ring =
    if option_map_or (λ v. is_some (is_off vhost ring v)) (at w.vhosts vhost) false then event.Owner else event.Notices

-- a receive turn, by its stage; a frame is taken in hand where one is ready
abbrev pub hand_next : File → EventKind
hand_next f = if has_batch f || is_some (ready_front f.line) then event.Hand else event.NotReady

abbrev pub rx_next_kind : World → ℕ → RxStage → Option EventKind
rx_next_kind w file rx.Begin = Some event.Notices
rx_next_kind w file rx.Hand = on w file hand_next
rx_next_kind w file rx.Fetch = Some event.Fetch
rx_next_kind w file rx.NoticesOn = Some event.Notices
rx_next_kind w file rx.FetchAgain = Some event.Fetch
rx_next_kind w file (rx.NoticesOff way) = Some event.Notices
rx_next_kind w file rx.Copy = Some event.Copy
rx_next_kind w file rx.Out = Some event.Out
rx_next_kind w file (rx.Discard had) = Some event.Out
rx_next_kind w file (rx.PutBack e) = Some event.PutBack
rx_next_kind w file (rx.Publish e) = Some event.PublishUsed
rx_next_kind w file (rx.Ended e) = None

-- a transmit turn, by its stage
abbrev pub tx_next_kind : TxStage → Option EventKind
tx_next_kind tx.Begin = Some event.Notices
tx_next_kind tx.Fetch = Some event.Fetch
tx_next_kind tx.NoticesOn = Some event.Notices
tx_next_kind tx.FetchAgain = Some event.Fetch
tx_next_kind (tx.NoticesOff fault) = Some event.Notices
tx_next_kind tx.Copy = Some event.Copy
tx_next_kind tx.Give = Some event.HostIn
tx_next_kind (tx.Publish e) = Some event.PublishUsed
tx_next_kind (tx.Ended e) = None

-- ---- the next event of a command

-- the first one
abbrev pub first_kind : World → Command → EventKind
first_kind w (command.RxTurn vhost) = turn_first w vhost 0
first_kind w (command.TxTurn vhost) = turn_first w vhost 1
first_kind w (command.Poke guest addr bytes) = event.Poke
first_kind w (command.Peek guest addr len) = event.Peek
first_kind w c = if is_some (driven_vhost c) then event.Drive else event.Look

abbrev pub next_kind : World → Doing → Command → Option EventKind
next_kind w Begun c = Some (first_kind w c)
next_kind w Changes c = Some event.Publish
next_kind w (Opens file) c = Some event.Reopen
next_kind w (Opened file) c = Some event.Publish
next_kind w (Withdraws file) c = Some event.Publish
next_kind w (Withdrawn file version) c = Some event.Shut
next_kind w (Purges file version) c = on w file purge_next
next_kind w (Resizes file capacity) c = Some event.Resize
next_kind w (Shrinks file claimed cuts) c = on w file shrink_next
next_kind w (Routed file epoch len) c = on w file (send_next epoch)
next_kind w (Placed file place epoch len) c = Some event.Ready
next_kind w (Reads file room front) c = on w file read_next
next_kind w (Hosts file ether learns) c = Some event.HostIn
next_kind w (Learns file ether) c = Some event.Publish
next_kind w (Backs refusal) c = Some event.Drive
next_kind w (Backed file) c = Some event.Publish
next_kind w (Owns file version) c = Some event.Owner
next_kind w (Unbacked file) c = Some event.Owner
next_kind w (Disowned file) c = Some event.Publish
next_kind w (Released file) c = Some event.Publish
next_kind w (Receives file t) c = rx_next_kind w file t.stage
next_kind w (Transmits file t chains) c = tx_next_kind t.stage
next_kind w (Given file t chains f) c = Some event.Look
next_kind w (Teaches file t chains f) c = Some event.Publish

-- ---- kinds are told apart by numbers

abbrev pub kind_number : EventKind → ℕ
kind_number event.Look = 0
kind_number event.Publish = 1
kind_number event.Claim = 2
kind_number event.Ready = 3
kind_number event.Full = 4
kind_number event.Gone = 5
kind_number event.Spent = 6
kind_number event.Shut = 7
kind_number event.Reopen = 8
kind_number event.Resize = 9
kind_number event.Cut = 10
kind_number event.Move = 11
kind_number event.Hand = 12
kind_number event.PutBack = 13
kind_number event.Out = 14
kind_number event.NotReady = 15
kind_number event.Owner = 16
kind_number event.Fetch = 17
kind_number event.Copy = 18
kind_number event.PublishUsed = 19
kind_number event.Notices = 20
kind_number event.Poke = 21
kind_number event.Peek = 22
kind_number event.Drive = 23
kind_number event.HostIn = 24

abbrev pub is_kind : EventKind → Option EventKind → Bool
is_kind k next = option_map_or (λ j. kind_number j == kind_number k) next false
