-- What lasts from one step of a tick, or of a forget, to the next.
use Rattle.std.proofs.Common.{◌≡◌, ℕ, ◌+◌, List, length, get_or}
use Rattle.tap_flows.specs.Flows.{ticked, forgotten}
use Rattle.tap_flows.specs.Nodes.{contents, Sound, IsWalked}
use Rattle.tap_flows.specs.declared.table.Table.{Table}

-- what was removed was too old, and as many steps are left as flows
pub record IsTicking (before table : Table) (age now sum end : ℕ) : Type 0 where
  pub sound : Sound table
  pub limit : table.limit ≡ before.limit
  pub same : ticked (contents table.nodes.items) age now ≡ ticked (contents before.nodes.items) age now
  pub counted : sum ≡ end

-- what was removed was of the queue, and as many steps are left as nodes by age
pub record IsForgetting (before table : Table) (index node step end : ℕ) : Type 0 where
  pub left : List ℕ
  pub walk : IsWalked table index left
  pub limit : table.limit ≡ before.limit
  pub here : node ≡ get_or left 0 table.limit.nodes
  pub same : forgotten (contents table.nodes.items) index ≡ forgotten (contents before.nodes.items) index
  pub counted : length left + step ≡ end
