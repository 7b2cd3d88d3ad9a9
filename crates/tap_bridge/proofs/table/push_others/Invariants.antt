use Rattle.std.proofs.Common.{◌≡◌, ◌≤◌, ◌+◌, ◌++◌, take, length, vec_len, vec_capacity}
use Rattle.tap_bridge.specs.Bridge.{others}
use Rattle.tap_bridge.proofs.table.push_others.Given as goal

-- the other ones so far were added, and there is room for the rest
abbrev pub invariant-loop-other : goal.invariant-loop-other
invariant-loop-other l = record {
  added : l.answer.items ≡ l.fn.answer.items ++ others l.port (take l.other-index l.ports);
  room : vec_len l.answer + length l.ports ≤ vec_capacity l.answer + l.other-index;
}
