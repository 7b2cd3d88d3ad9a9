-- This project's own: the steps by which a table changes, one address at a time.
use Rattle.std.specs.Prelude.{ℕ, ◌==◌, Bool, false, nat_lt, List, length, Option, None, Some, if◌then◌else◌}
use Rattle.std.specs.Option.{option_map_or}
use Rattle.std.specs.BTreeMap.{is_at, insert_entry}
use Rattle.std.specs.Map.{remove_entry}
use Rattle.tap_bridge.specs.declared.address.Address.{Address}
use Rattle.tap_bridge.specs.declared.address.Seen.{Seen}
use Rattle.tap_bridge.specs.Bridge.{Table, address_order, is_young, found, is_from_group, source}
use Rattle.tap_bridge.specs.declared.address.TheConstants.{MOST}

-- the table without an address, where its time is too long ago: by what is known of the address
abbrev pub without_known : ℕ → Address → Option Seen → Table → Table
without_known now address None table = table
without_known now address (Some seen) table =
    if is_young now seen.time then table else remove_entry (is_at (address_order address)) table

-- the table without it
abbrev pub without_stale : ℕ → Address → Table → Table
without_stale now address table = without_known now address (found address table) table

-- a time is that of its address
abbrev pub is_time_of : Table → ℕ × Address → Bool
is_time_of table p = option_map_or (λ seen. seen.time == p.0) (found p.1 table) false

-- the table with a frame's source, however many addresses it has
abbrev pub put_from : List ℕ → Seen → Table → Table
put_from frame seen table =
    if is_from_group frame then table else insert_entry address_order table (source frame) seen

-- the table without an address, where it has more than there may be
abbrev pub trimmed : Address → Table → Table
trimmed address table =
    if nat_lt MOST (length table) then remove_entry (is_at (address_order address)) table else table
