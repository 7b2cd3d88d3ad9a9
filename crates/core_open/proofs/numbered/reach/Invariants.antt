use Rattle.std.proofs.Common.{◌≡◌, ◌+◌, ◌-◌, ◌++◌, ◌≤◌, None, length, max, replicate}
use Rattle.core_open.proofs.numbered.reach.Given as goal

-- it has places up to the counter
abbrev pub invariant-loop : goal.invariant-loop
invariant-loop g l = record {
  made : l.items.items ≡ l.fn.items.items ++ replicate (l.counter - length l.fn.items.items) None;
  from : length l.fn.items.items ≤ l.counter;
  to : l.counter ≤ max (length l.fn.items.items) (l.number + 1);
  end : l.end ≡ l.number + 1;
}
