use Rattle.tap_flows.specs.Nodes.{AreFree}
use Rattle.tap_flows.proofs.table.free_chain.Given as goal

-- the nodes so far are in the free ring
abbrev pub invariant-loop-number : goal.invariant-loop-number
invariant-loop-number l = AreFree l.limit.nodes l.chains.next.items l.chains.previous.items l.number
