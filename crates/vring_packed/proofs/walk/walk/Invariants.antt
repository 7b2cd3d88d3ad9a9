use Rattle.std.proofs.Common.{◌≡◌, ◌-◌, ◌<◌, ◌≤◌}
use Rattle.guest_mem.specs.Memory.{byte_at, covers}
use Rattle.vring_packed.specs.Chain.{descs_along}
use Rattle.vring_packed.specs.Fetched.{chain_end, chain_from}
use Rattle.vring_packed.proofs.walk.walk.Given as goal

-- the chain goes on from here as it goes from its first entry
abbrev pub invariant-loop-seen : goal.invariant-loop-seen
invariant-loop-seen l = record {
  left : chain_end (byte_at l.mem) (covers l.mem.regions) l.ring l.seen (descs_along (byte_at l.mem) l.ring l.at (l.ring.num - l.seen)) l.met
      ≡ chain_from (byte_at l.mem) (covers l.mem.regions) l.ring l.fn.at;
  within : l.seen ≤ l.ring.num;
  inside : l.at < l.ring.num;
}
