use Rattle.std.proofs.Common.{◌≡◌, arith, length, drop}
use Rattle.tap_ledger.specs.Memory.{found}
use Rattle.tap_ledger.specs.MemoryRoom.{meaning}
use Rattle.tap_ledger.proofs.Prepared.{looks_for}
use Rattle.tap_ledger.proofs.mem_queue.MemQueue.prepare.Goals as goal

pub returns-clause-prepared : goal.returns-clause-prepared
returns-clause-prepared c =
    let q = c.self.inside in
    let zero : q.known ≡ 0 = omega arith in
    let coming : c.len.result ≡ length (drop q.known q.frames.items) = rw zero (omega (arith, c.len.ensures, q.frames.ok.0)) in
    let is : c.found-found.result ≡ found (meaning q) = rw (← coming, ← c.deref.ensures.value) c.found-found.ensures in
    rw (← c.self.view_is) (looks_for q _ _ c.if-self.false zero is c.saturating_add-self-inside.ensures)
