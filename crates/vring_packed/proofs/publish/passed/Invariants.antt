use Rattle.std.proofs.Common.{◌≡◌, ◌+◌, ◌*◌, ◌≤◌, drop}
use Rattle.vring_packed.specs.Publication.{passed}
use Rattle.vring_packed.proofs.publish.passed.Given as goal

-- what was counted, and what is left to count, is all
abbrev pub invariant-loop-chain : goal.invariant-loop-chain
invariant-loop-chain l = record {
  total : l.total + passed (drop l.chain-index l.done) ≡ passed l.done;
  most : l.total ≤ 65535 * l.chain-index;
}
