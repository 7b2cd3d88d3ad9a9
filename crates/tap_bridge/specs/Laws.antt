-- This project's own: what holds of a bridge's table and of its answers, whatever frames came.
use Rattle.std.specs.Prelude.{◌≡◌, ◌≢◌, ℕ, ◌≤◌, true, List, length}
use Rattle.std.specs.List.{AllByRecursion}
use Rattle.std.specs.List.Sorted.{IsStrictlySortedBy}
use Rattle.std.specs.Ordering.{nat_cmp}
use Rattle.tap_bridge.specs.declared.address.TheConstants.{MOST}
use Rattle.tap_bridge.specs.Bridge.{Table, is_among}
use Rattle.tap_bridge.specs.Kept.{AreInOrder}
use Rattle.tap_bridge.specs.Calls.{Call, IsGood, table_of, answer_to}

-- the addresses rise, so none stands twice, and there are at most 4,096
pub record IsSound (table : Table) : Type 0 where
  pub ordered : AreInOrder table
  pub few : length table ≤ MOST

-- so it is after any frames
abbrev pub TablesAreSound : Type 0
TablesAreSound = (calls : List Call) → IsSound (table_of calls)

-- an answer rises, so no port stands twice in it; each is one of the ports, and none the frame's own
pub record IsSoundAnswer (c : Call) (answer : List ℕ) : Type 0 where
  pub rising : IsStrictlySortedBy nat_cmp answer
  pub open_ports : AllByRecursion (λ port. is_among c.ports port ≡ true) answer
  pub others : AllByRecursion (λ port. port ≢ c.port) answer

-- so is each, after any frames
abbrev pub AnswersAreSound : Type 0
AnswersAreSound = (c : Call) (before : List Call) → IsGood c → IsSoundAnswer c (answer_to c before)
