use Rattle.std.proofs.Common.{◌≡◌, ◌+◌, ◌-◌, ◌≤◌, min, drop}
use Rattle.vring_walk.specs.Spread.{bytes_in}
use Rattle.vring_walk.proofs.spread.byte_count.Given as goal

abbrev pub invariant-loop-segment : goal.invariant-loop-segment
invariant-loop-segment l = record {
  within : l.count ≤ l.most;
  count : l.count + min (bytes_in (drop l.segment-index l.segments)) (l.most - l.count)
      ≡ min (bytes_in l.segments) l.most;
}
