use Rattle.std.proofs.Common.{◌≡◌, ◌≤◌, ◌++◌, drop}
use Rattle.vring_walk.specs.Spread.{laid}
use Rattle.vring_walk.proofs.spread.scatter.Given as goal

abbrev pub invariant-loop-segment : goal.invariant-loop-segment
invariant-loop-segment l = record {
  within : l.at ≤ l.whole;
  regions : l.mem.regions ≡ l.initial.mem.regions;
  bytes : laid l.mem.bytes (drop l.segment-index l.segments) (drop l.at (l.front ++ l.behind))
      ≡ laid l.initial.mem.bytes l.segments (l.front ++ l.behind);
}
