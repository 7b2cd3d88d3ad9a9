use Rattle.std.proofs.Common.{◌≡◌, List, ℕ}
use Rattle.tap_flows.specs.Heads.{bucket_head}
use Rattle.tap_flows.specs.Nodes.{IsSound}
use Rattle.tap_flows.proofs.WalkLemmas.{IsSearched}
use Rattle.tap_flows.proofs.table.Table.find.Given as goal

-- the bucket's ring is walked along
abbrev pub invariant-loop : goal.invariant-loop
invariant-loop l = (l.head.number ≡ bucket_head l.self.limit.nodes l.hash) × ((ages : List ℕ) (s : IsSound l.self ages) → IsSearched l.self l.hash l.head.number l.place.number l.counter (s.chain l.head.number))
