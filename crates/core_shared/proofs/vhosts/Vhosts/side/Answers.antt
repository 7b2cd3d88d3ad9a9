use Rattle.std.proofs.Common.{sym, ap, ◌∙◌, arith}
use Rattle.std.specs.Option.{option_copied}
use Rattle.core_shared.proofs.Numbered.{at_within, slot_is, slot_there}
use Rattle.core_shared.proofs.vhosts.Vhosts.side.Goals as goal

pub index-requires : goal.index-requires
index-requires c =
    let s = c.self.inside.sides in
    omega (arith, at_within s.items c.args.vhost (rw (← c.self.view_is) at c.requires), c.from.ensures, s.ok.0)

pub unwrap-requires : goal.unwrap-requires
unwrap-requires c =
    c.as_ref.ensures.variant
    ∙ slot_there c.self.inside.sides.items _ c.args.vhost _ c.from.ensures c.index.ensures (rw (← c.self.view_is) at c.requires)

pub returns : goal.returns
returns c =
    let some = sym c.as_ref.ensures.value ∙ ap option_copied c.unwrap.ensures in
    rw (← c.self.view_is)
    (slot_is c.self.inside.sides.items _ c.args.vhost _ c.unwrap.result.now c.from.ensures c.index.ensures (rw (← c.self.view_is) at c.requires) some)
