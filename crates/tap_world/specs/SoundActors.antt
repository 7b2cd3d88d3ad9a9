-- This project's own: how far each command can have come.
use Rattle.std.specs.Prelude.{ℕ, ◌==◌, ◌≡◌, ◌&&◌, ◌||◌, not, Bool, true, false, Option, Some, None, is_none, is_some}
use Rattle.std.specs.Option.{option_map_or}
use Rattle.tap_steer.specs.declared.operation.TheConstants.{IFF_ATTACH_QUEUE}
use Rattle.tap_steer.specs.Table.{is_set}
use Rattle.scen_words.specs.declared.command.Command.{Command}
use Rattle.scen_words.specs.declared.command.Command.TheVariants as command
use Rattle.tap_ledger.specs.declared.error.TapErr.{TapErr as TapText}
use Rattle.tap_world.specs.Guests.{is_ring}
use Rattle.tap_world.specs.Setup.{Numbered}
use Rattle.tap_world.specs.World.{Actor, Doing, current}
use Rattle.tap_world.specs.World.Doing.{Backed, Backs, Begun, Changes, Disowned, Given, Hosts, Learns, Opened, Opens, Owns, Placed, Purges, Reads, Receives, Released, Resizes, Routed, Shrinks, Teaches, Transmits, Unbacked, Withdrawn, Withdraws}

-- ---- which commands

-- a command attaches the file, or detaches it
abbrev pub attaches : ℕ → Command → Bool
attaches file (command.SetIff other name flags) = other == file
attaches file (command.SetQueue other flags) = other == file && is_set flags IFF_ATTACH_QUEUE
attaches file c = false

abbrev pub detaches : ℕ → Command → Bool
detaches file (command.SetQueue other flags) = other == file && not (is_set flags IFF_ATTACH_QUEUE)
detaches file (command.Close other) = other == file
detaches file c = false

-- it changes the table alone
abbrev pub changes : Command → Bool
changes (command.Close file) = true
changes (command.Persist file on) = true
changes (command.HdrSize file size) = true
changes (command.Steer file program) = true
changes (command.Filter file program) = true
changes (command.Tick now) = true
changes c = false

-- it resizes the file, to this capacity
abbrev pub resizes : ℕ → Command → Bool
resizes file (command.Resize other capacity) = other == file
resizes file c = false

abbrev pub resizes_to : ℕ → ℕ → Command → Bool
resizes_to file asked (command.Resize other capacity) = other == file && capacity == asked
resizes_to file asked c = false

-- it sends, reads from the file, or writes to it
abbrev pub is_send : Command → Bool
is_send (command.Send device hdr bytes) = true
is_send c = false

abbrev pub reads_from : ℕ → Command → Bool
reads_from file (command.Read other room) = other == file
reads_from file c = false

abbrev pub writes_to : ℕ → Command → Bool
writes_to file (command.Write other bytes) = other == file
writes_to file c = false

-- it is a backend, which the table refuses only where it sets one; it sets the file, or unsets one, of a ring that
-- there is; of a receive ring
abbrev pub is_back : Option TapText → Command → Bool
is_back refusal (command.Backend vhost ring file) = is_none refusal || is_some file
is_back refusal c = false

abbrev pub sets : ℕ → Command → Bool
sets file (command.Backend vhost ring (Some other)) = other == file && is_ring ring
sets file c = false

abbrev pub unsets : Command → Bool
unsets (command.Backend vhost ring None) = is_ring ring
unsets c = false

abbrev pub is_of_rx : Command → Bool
is_of_rx (command.Backend vhost ring file) = ring == 0
is_of_rx c = false

-- it is a receive turn, or a transmit turn
abbrev pub is_rx_turn : Command → Bool
is_rx_turn (command.RxTurn vhost) = true
is_rx_turn c = false

abbrev pub is_tx_turn : Command → Bool
is_tx_turn (command.TxTurn vhost) = true
is_tx_turn c = false

-- ---- how far they come

-- a command can have come so far
abbrev pub can_be : Doing → Command → Bool
can_be Begun c = true
can_be Changes c = changes c
can_be (Opens file) c = attaches file c
can_be (Opened file) c = attaches file c
can_be (Withdraws file) c = detaches file c
can_be (Withdrawn file version) c = detaches file c
can_be (Purges file version) c = detaches file c
can_be (Resizes file capacity) c = resizes_to file capacity c
can_be (Shrinks file places cuts) c = resizes file c
can_be (Routed file epoch len) c = is_send c
can_be (Placed file place epoch len) c = is_send c
can_be (Reads file room front) c = reads_from file c
can_be (Hosts file ether learns) c = writes_to file c
can_be (Learns file ether) c = writes_to file c
can_be (Backs refusal) c = is_back refusal c
can_be (Backed file) c = sets file c
can_be (Owns file version) c = sets file c && is_of_rx c
can_be (Unbacked file) c = unsets c && is_of_rx c
can_be (Disowned file) c = unsets c && is_of_rx c
can_be (Released file) c = unsets c && not (is_of_rx c)
can_be (Receives file t) c = is_rx_turn c
can_be (Transmits file t chains) c = is_tx_turn c
can_be (Given file t chains frame) c = is_tx_turn c
can_be (Teaches file t chains frame) c = is_tx_turn c

-- an actor has begun no command
abbrev pub is_begun : Doing → Bool
is_begun Begun = true
is_begun doing = false

-- An actor has come as far as its command can, and one without a command has begun none.
abbrev pub CanBe : Actor → Type 0
CanBe a = option_map_or (λ (c : Numbered). can_be a.doing c.command) (current a.script) (is_begun a.doing) ≡ true
