use Rattle.std.proofs.Common.{◌≡◌, ◌<◌, drop}
use Rattle.vring_packed.specs.Publication.{published_at, place_behind}
use Rattle.vring_packed.proofs.publish.publish_at.Given as goal

-- what is left to publish makes of memory and place now what all of it makes of them as they were
abbrev pub invariant-loop-chain : goal.invariant-loop-chain
invariant-loop-chain l = record {
  memory : published_at l.ring l.place (drop l.chain-index l.done) l.mem ≡ published_at l.ring l.fn.used l.done l.fn.mem;
  behind : place_behind l.ring.num l.place (drop l.chain-index l.done) ≡ place_behind l.ring.num l.fn.used l.done;
  regions : l.mem.regions ≡ l.fn.mem.regions;
  inside : l.place.at < l.ring.num;
}
