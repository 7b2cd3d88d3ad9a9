use Rattle.std.proofs.Common.{◌≡◌, ◌+◌, ◌++◌, vec_len, vec_capacity, drop, map}
use Rattle.vhost_queue.specs.Positions.{published_from}
use Rattle.vring_packed.specs.Queue.{done_of}
use Rattle.vring_packed.proofs.journal.append_published.Given as goal

-- what was appended, and then what is left to append, is all of it
abbrev pub invariant-loop-chain : goal.invariant-loop-chain
invariant-loop-chain l = record {
  items : l.journal.items ++ published_from l.position (map done_of (drop l.chain-index l.done))
      ≡ l.fn.journal.items ++ published_from l.first (map done_of l.done);
  len : vec_len l.journal ≡ vec_len l.fn.journal + l.chain-index;
  capacity : vec_capacity l.journal ≡ vec_capacity l.fn.journal;
}
