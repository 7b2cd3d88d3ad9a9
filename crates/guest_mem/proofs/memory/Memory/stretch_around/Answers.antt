use Rattle.std.proofs.Common.{List, length, subst, ap, arith}
use Rattle.guest_mem.specs.declared.block.Block.{Block}
use Rattle.guest_mem.specs.Blocks.{IsSpot}
use Rattle.guest_mem.proofs.Kept.{Holds, stretch_told}
use Rattle.guest_mem.proofs.memory.Memory.stretch_around.Goals as goal

pub returns-in-Some-clause-around : goal.returns-in-Some-clause-around
returns-in-Some-clause-around c =
    let held : Holds c.args.self.now c.self.inside.regions.items c.self.inside.blocks.items = record { is = c.self.view_is; kept = c.self.invariant } in
    let spot : IsSpot c.self.inside.blocks.items c.args.addr c.in-Some.spot = subst (λ (bs : List Block). IsSpot bs c.args.addr c.in-Some.spot) c.deref.ensures.value c.in-Some.ensures.found in
    let start = spot.at c.index.result.now in
    let inside = spot.inside c.index.result.now in
    let addr = ap (λ (b : Block). b.addr) c.index.ensures in
    let len = ap (λ (b : Block). length b.bytes.items) c.index.ensures in
    stretch_told c.args.self.now c.self.inside.regions.items c.self.inside.blocks.items c.args.addr c.in-Some.spot.block c.index.result.now c.region.result held spot.within c.index.ensures c.region.ensures.addr c.region.ensures.end (omega arith) (omega arith)
