use Rattle.std.proofs.Common.{sym, ◌∙◌}
use Rattle.vring_walk.proofs.Stretches.{empty_alone, stretch_tells}
use Rattle.vring_walk.proofs.near.covers_near.Goals as goal

pub returns-in-Some-clause-covered : goal.returns-in-Some-clause-covered
returns-in-Some-clause-covered c =
    let told = stretch_tells c.range_laws.ensures.told c.range_laws.ensures.stretches c.args.mem.now.regions c.args.addr c.in-Some.stretch c.in-Some.ensures.around in
    c.ends_in-in-Some.ensures ∙ sym (told.tells c.args.addr c.args.len c.in-Some.ensures.around.around)

pub returns-in-Some-clause-tells : goal.returns-in-Some-clause-tells
returns-in-Some-clause-tells c = stretch_tells c.range_laws.ensures.told c.range_laws.ensures.stretches c.args.mem.now.regions c.args.addr c.in-Some.stretch c.in-Some.ensures.around

pub returns-in-None-clause-covered : goal.returns-in-None-clause-covered
returns-in-None-clause-covered c = empty_alone c.range_laws.ensures.told c.args.mem.now.regions c.args.addr c.args.len c.in-None.ensures.none
