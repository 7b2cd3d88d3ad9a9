use Rattle.std.proofs.Common.{◌-◌, arith}
use Rattle.guest_mem.proofs.Sorted.{between}
use Rattle.guest_mem.proofs.Spots.{passed}
use Rattle.guest_mem.proofs.span.spot_of.Goals as goal

pub returns-then-count-eq0-clause-none : goal.returns-then-count-eq0-clause-none
returns-then-count-eq0-clause-none c =
    between c.args.blocks.now 0 c.args.addr (λ k d lt l. absurd (omega arith)) (λ k d le l. c.first_up_to-count.ensures.after k d (omega arith) l)

pub returns-then-before-len-clause-none : goal.returns-then-before-len-clause-none
returns-then-before-len-clause-none c =
    let bound = c.first_up_to-count.ensures.bound in
    between c.args.blocks.now c.first_up_to-count.result c.args.addr
    (λ k d lt l. passed c.args.blocks.now (c.first_up_to-count.result - 1) c.args.addr c.index-blocks-block.result c.index-blocks-block-2.result c.requires (omega arith)
    (c.first_up_to-count.ensures.before (c.first_up_to-count.result - 1) c.index-blocks-block.result (omega arith)) (omega arith) k d (omega arith))
    c.first_up_to-count.ensures.after
