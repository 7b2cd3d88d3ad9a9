-- This project's own: the list of the flows is a finite map, and each step on the list is the step on the map.
use Rattle.std.specs.Prelude.{◌≡◌, ℕ, ◌↔◌, [], length}
use Rattle.std.specs.FinMap as map
use Rattle.tap_flows.specs.Flow.{Flow, FlowMap, FlowList}
use Rattle.tap_flows.specs.FlowList as listed
use Rattle.tap_flows.specs.Flows as mapped

-- the flows of a map, in the order of their hashes
abbrev pub flow_list : FlowMap → FlowList
flow_list flows = map.entries flows

-- each list in order is that of one map
pub record ListsAreMaps : Type 0 where
  pub in_order : (flows : FlowMap) → listed.AreInOrder (flow_list flows)
  pub some : (flows : FlowList) → listed.AreInOrder flows → (from : FlowMap) × (flow_list from ≡ flows)
  pub one : (flows others : FlowMap) → flow_list flows ≡ flow_list others → flows ≡ others

-- what a list says is what its map says, and a step on the list is the step on the map
pub record StepsAreOne : Type 0 where
  pub empty : flow_list map.empty ≡ []
  pub len : (flows : FlowMap) → length (flow_list flows) ≡ map.len flows
  pub latest : (flows : FlowMap) (time : ℕ) → listed.AreNotAfter time (flow_list flows) ↔ mapped.IsNotBefore time flows
  pub found : (flows : FlowMap) (hash : ℕ) → listed.found (flow_list flows) hash ≡ mapped.found flows hash
  pub outcome : (flows : FlowMap) (limit hash : ℕ)
      → listed.learn_outcome (flow_list flows) limit hash ≡ mapped.learn_outcome flows limit hash
  pub learnt : (flows : FlowMap) (limit hash : ℕ) (flow : Flow)
      → listed.learnt (flow_list flows) limit hash flow ≡ flow_list (mapped.learnt flows limit hash flow)
  pub forgotten : (flows : FlowMap) (index : ℕ)
      → listed.forgotten (flow_list flows) index ≡ flow_list (mapped.forgotten flows index)
  pub ticked : (flows : FlowMap) (age now : ℕ)
      → listed.ticked (flow_list flows) age now ≡ flow_list (mapped.ticked flows age now)
