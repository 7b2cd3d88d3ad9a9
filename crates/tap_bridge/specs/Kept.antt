-- This project's own: how a bridge keeps its table.
use Rattle.std.specs.Prelude.{◌≡◌, ℕ, Bool, true, List, Some}
use Rattle.std.specs.List.{list_any}
use Rattle.std.specs.List.Sorted.{IsStrictlySortedBy}
use Rattle.std.specs.Ordering.{nat_cmp, ordering_then}
use Rattle.std.specs.declared.cmp.Ordering.{Ordering}
use Rattle.std.specs.BTreeMap.{is_at}
use Rattle.std.specs.Map.{keys_of}
use Rattle.tap_bridge.specs.declared.address.Address.{Address}
use Rattle.tap_bridge.specs.declared.address.Seen.{Seen}
use Rattle.tap_bridge.specs.Bridge.{Table, address_order, is_among, found}

-- the order of times and, at one time, of addresses
abbrev pub time_order : ℕ × Address → ℕ × Address → Ordering
time_order p q = ordering_then (nat_cmp p.0 q.0) (address_order p.1 q.1)

-- an address stands under a time
abbrev pub has_time : List (ℕ × Address) → ℕ → Address → Bool
has_time times time address = list_any (is_at (time_order (time, address))) times

-- each address stands under its time
abbrev pub StandAt : List (ℕ × Address) → Table → Type 0
StandAt times table =
    (address : Address) (seen : Seen) → found address table ≡ Some seen → has_time times seen.time address ≡ true

-- the addresses rise
abbrev pub AreInOrder : Table → Type 0
AreInOrder table = IsStrictlySortedBy address_order (keys_of table)

-- each port is one of these
abbrev pub AreAt : List ℕ → Table → Type 0
AreAt ports table =
    (address : Address) (seen : Seen) → found address table ≡ Some seen → is_among ports seen.port ≡ true

-- what the new table knows the old one knew
abbrev pub IsPartOf : Table → Table → Type 0
IsPartOf old new = (address : Address) (seen : Seen) → found address new ≡ Some seen → found address old ≡ Some seen
