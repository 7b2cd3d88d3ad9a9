use Rattle.std.proofs.Common.{◌<◌, All}
use Rattle.tap_flows.specs.Rings.{AreAlone}
use Rattle.tap_flows.proofs.links.own_numbers.Given as goal

-- each number so far is its own place
abbrev pub invariant-loop-place : goal.invariant-loop-place
invariant-loop-place l = AreAlone l.links.items l.place × All (λ k. k < l.places) l.links.items
