use Rattle.std.proofs.Common.{◌≡◌, ◌+◌, ◌-◌, ◌≤◌, ◌++◌, take, drop, length}
use Rattle.vring_walk.specs.Spread.{bytes_in, first_gathered}
use Rattle.vring_walk.proofs.spread.gather.Given as goal

abbrev pub invariant-loop-segment : goal.invariant-loop-segment
invariant-loop-segment l = record {
  within : l.at ≤ length l.room;
  enough : l.left + (length l.room - l.at) ≤ bytes_in (drop l.segment-index l.segments);
  bytes : take l.at l.room
      ++ drop l.left (first_gathered (l.left + (length l.room - l.at)) l.mem.bytes (drop l.segment-index l.segments))
      ≡ drop l.skip (first_gathered (l.skip + length l.initial.room) l.mem.bytes l.segments);
}
