use Rattle.std.proofs.Common.{◌≡◌, ◌+◌, ◌*◌, ◌^◌, ◌≤◌, drop}
use Rattle.vring_turns.specs.Ring.{bytes_in}
use Rattle.vhost_rx.proofs.chains.bytes_of.Given as goal

abbrev pub invariant-loop-segment : goal.invariant-loop-segment
invariant-loop-segment l = record {
  counted : l.bytes + bytes_in (drop l.segment-index l.segments) ≡ bytes_in l.segments;
  small : l.bytes ≤ 2 ^ 32 * l.segment-index;
}
