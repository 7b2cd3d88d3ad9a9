-- This project's own, after the usual learning bridge: the table of the addresses that a bridge learnt, what a
-- frame does to it, and at which ports the frame is sent on.
use Rattle.std.specs.Prelude.{ℕ, ◌+◌, ◌%◌, ◌==◌, Bool, not, nat_lt, ◌||◌, if◌then◌else◌, List, [], ◌∷◌, length, filter, map, slice_index, Option, None, Some, is_some}
use Rattle.std.specs.List.{list_any}
use Rattle.std.specs.Ordering.{nat_cmp}
use Rattle.std.specs.declared.cmp.Ordering.{Ordering}
use Rattle.std.specs.Cmp.Lexicographic.{slice_cmp}
use Rattle.std.specs.BTreeMap.{insert_entry, is_at}
use Rattle.std.specs.Map.{lookup}
use Rattle.tap_bridge.specs.declared.address.Address.{Address}
use Rattle.tap_bridge.specs.declared.address.Seen.{Seen}
use Rattle.tap_bridge.specs.declared.address.TheConstants.{STAY, MOST}

-- the addresses by rising bytes, each once, with the port and the time at which it was last a source
abbrev pub Table : Type 0
Table = List (Address × Seen)

-- the order of addresses: the first byte that differs decides
abbrev pub address_order : Address → Address → Ordering
address_order a b = slice_cmp nat_cmp a.bytes b.bytes

-- Frames.

-- a byte with its lowest bit set
abbrev pub is_odd : ℕ → Bool
is_odd byte = byte % 2 == 1

-- whether a frame is for a group of addresses, and whether it gives one as its source
abbrev pub is_to_group : List ℕ → Bool
is_to_group frame = is_odd (slice_index frame 0)

abbrev pub is_from_group : List ℕ → Bool
is_from_group frame = is_odd (slice_index frame 6)

-- bytes 0 to 5, and bytes 6 to 11
abbrev pub destination : List ℕ → Address
destination frame = record { bytes = map (slice_index frame) (0 ∷ 1 ∷ 2 ∷ 3 ∷ 4 ∷ 5 ∷ []) }

abbrev pub source : List ℕ → Address
source frame = record { bytes = map (slice_index frame) (6 ∷ 7 ∷ 8 ∷ 9 ∷ 10 ∷ 11 ∷ []) }

-- The table.

-- what is known of an address
abbrev pub found : Address → Table → Option Seen
found address table = lookup (is_at (address_order address)) table

-- a port is one of these
abbrev pub is_among : List ℕ → ℕ → Bool
is_among ports port = list_any (λ other. other == port) ports

-- the entries whose port is one of these
abbrev pub at_ports : List ℕ → Table → Table
at_ports ports table = filter (λ entry. is_among ports entry.1.port) table

-- a time that is less than 300,000 milliseconds ago
abbrev pub is_young : ℕ → ℕ → Bool
is_young now time = nat_lt now (time + STAY)

-- the entries that were a source less than 300,000 milliseconds ago
abbrev pub young : ℕ → Table → Table
young now table = filter (λ entry. is_young now entry.1.time) table

-- the table with this address: one that is known gets the new port and time, and one that isn't is put in while
-- there are fewer than 4,096
abbrev pub learnt : Address → Seen → Table → Table
learnt address seen table =
    if is_some (found address table) || nat_lt (length table) MOST
    then insert_entry address_order table address seen else table

-- the table with a frame's source, where that is one address
abbrev pub learnt_from : List ℕ → Seen → Table → Table
learnt_from frame seen table = if is_from_group frame then table else learnt (source frame) seen table

-- what stays at a frame: what isn't too old, at ports that are still there
abbrev pub kept : ℕ → List ℕ → Table → Table
kept now ports table = young now (at_ports ports table)

-- the table after a frame: what stays, with the frame's source
abbrev pub table_after : ℕ → List ℕ → ℕ → List ℕ → Table → Table
table_after port frame now ports table = learnt_from frame (record { port = port; time = now }) (kept now ports table)

-- The answer.

-- the other ports
abbrev pub others : ℕ → List ℕ → List ℕ
others port ports = filter (λ other. not (other == port)) ports

-- the one port of an address, if it isn't this one; all others, where it isn't known
abbrev pub toward : ℕ → List ℕ → Option Seen → List ℕ
toward port ports None = others port ports
toward port ports (Some seen) = others port (seen.port ∷ [])

-- the ports at which a frame is sent on, by the table after it
abbrev pub sent_on : ℕ → List ℕ → List ℕ → Table → List ℕ
sent_on port frame ports table =
    if is_to_group frame then others port ports else toward port ports (found (destination frame) table)
