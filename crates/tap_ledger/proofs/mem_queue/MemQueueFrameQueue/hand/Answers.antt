use Rattle.std.proofs.Common.{arith, ap}
use Rattle.tap_ledger.specs.Memory.{MemoryQueue}
use Rattle.tap_ledger.proofs.Prepared.{with_first_in_hand-looks}
use Rattle.tap_ledger.proofs.mem_queue.MemQueueFrameQueue.hand.Goals as goal

pub returns-then-not-has_known-clause-never_falls : goal.returns-then-not-has_known-clause-never_falls
returns-then-not-has_known-clause-never_falls c =
    omega (arith, c.prepare.ensures.looks, ap (λ (q : MemoryQueue). q.queue.looks) c.call.ensures)

pub returns-clause-never_falls : goal.returns-clause-never_falls
returns-clause-never_falls c =
    omega (arith, c.prepare.ensures.looks, ap (λ (q : MemoryQueue). q.queue.looks) c.call.ensures, ap (λ (q : MemoryQueue). q.queue.looks) c.take_front.ensures.in_hand, with_first_in_hand-looks c.call.new.self.queue.waiting c.call.new.self)
