use Rattle.vring_drive.proofs.Freed.{drop_popped}
use Rattle.vring_drive.proofs.free.take_lowest.Goals as goal

pub loop-preserved : goal.loop-preserved
loop-preserved c =
    drop_popped c.pop_first.result c.loop.counter c.args.free.now.keys c.loop.free.keys c.pop_first.new.self.keys
    c.loop.invariant c.pop_first.ensures.removal c.pop_first.ensures.unchanged c.pop_first.ensures.variant
