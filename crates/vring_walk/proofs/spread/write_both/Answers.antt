use Rattle.std.proofs.Common.{◌+◌, length, ◌∙◌, ap}
use Rattle.guest_mem.specs.Memory.{Contents, written}
use Rattle.vring_walk.proofs.Writes.{twice}
use Rattle.vring_walk.proofs.spread.write_both.Goals as goal

pub returns : goal.returns
returns c =
    c.write_in-2.ensures
    ∙ (ap (λ (m : Contents). written m (c.args.addr + length c.args.front.now) c.args.behind.now) c.write_in.ensures
    ∙ twice c.args.mem.now c.args.addr c.args.front.now c.args.behind.now
    c.range_laws.ensures.parts c.byte_laws.ensures.one_list c.write_laws.ensures.byte c.write_laws.ensures.sound
    c.regions.ensures.sound c.requires.covered)
