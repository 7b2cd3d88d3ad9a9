use Rattle.std.proofs.Common.{arith, rules, leb}
use Rattle.std.proofs.lemmas.Bool.Decides.{nat_tests}
use Rattle.std.proofs.lemmas.List.Sorted.{IsPartitionPoint-from_clause, IsPartitionedBy-leb}
use Rattle.guest_mem.specs.declared.block.Block.{Block}
use Rattle.guest_mem.proofs.Sorted.{starts_rise}
use Rattle.guest_mem.proofs.span.first_up_to.Goals as goal

pub returns-clause-before : goal.returns-clause-before
returns-clause-before c = λ k d l.
    let point = IsPartitionPoint-from_clause (λ (b : Block). leb b.addr c.args.addr) c.args.blocks.now c.partition_point.result c.partition_point.ensures.partitioned (IsPartitionedBy-leb (λ (b : Block). b.addr) c.args.blocks.now c.args.addr (λ i j d. starts_rise c.args.blocks.now d c.requires i j)) (λ a r q called. search rules) in
    let e = point.0 k d (omega arith) l in
    grind (arith, nat_tests)

pub returns-clause-after : goal.returns-clause-after
returns-clause-after c = λ k d le l.
    let point = IsPartitionPoint-from_clause (λ (b : Block). leb b.addr c.args.addr) c.args.blocks.now c.partition_point.result c.partition_point.ensures.partitioned (IsPartitionedBy-leb (λ (b : Block). b.addr) c.args.blocks.now c.args.addr (λ i j d. starts_rise c.args.blocks.now d c.requires i j)) (λ a r q called. search rules) in
    let e = point.1 k d le l in
    grind (arith, nat_tests)
