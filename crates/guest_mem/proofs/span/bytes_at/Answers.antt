use Rattle.std.proofs.Common.{arith}
use Rattle.guest_mem.proofs.Spots.{rest_fits, rest_bad, rest_holds}
use Rattle.guest_mem.proofs.span.bytes_at.Goals as goal

pub overflow_add-result : goal.overflow_add-result
overflow_add-result c = omega (arith, rest_fits c.args.blocks.now c.args.addr c.in-Some.spot c.requires c.in-Some.ensures.found c.index-blocks-spot.result c.deref.result.now c.deref.ensures.value)

pub returns-then-len-bytes-clause-bytes : goal.returns-then-len-bytes-clause-bytes
returns-then-len-bytes-clause-bytes c =
    rest_holds c.args.blocks.now c.args.addr c.in-Some.spot c.requires c.in-Some.ensures.found c.index-blocks-spot.result c.deref.result.now c.deref.ensures.value c.args.len c.if-len-bytes.true

pub returns-else-len-bytes-clause-bad : goal.returns-else-len-bytes-clause-bad
returns-else-len-bytes-clause-bad c =
    rest_bad c.args.blocks.now c.args.addr c.in-Some.spot c.requires c.in-Some.ensures.found c.index-blocks-spot.result c.deref.result.now c.deref.ensures.value c.args.len c.if-len-bytes.false
