use Rattle.std.proofs.Common.{refl, sym, ap, ◌∙◌, arith}
use Rattle.std.specs.Option.{option_copied_mut}
use Rattle.tap_world.specs.ByNumber.{with_at}
use Rattle.core_shared.proofs.Numbered.{at_within, slot_is, slot_there, with_set}
use Rattle.core_shared.proofs.vhosts.Vhosts.side_mut.Goals as goal

pub index_mut-requires : goal.index_mut-requires
index_mut-requires c =
    let s = c.self.inside.sides in
    omega (arith, at_within s.items c.args.vhost (rw (← c.self.view_is) at c.requires), c.from.ensures, s.ok.0)

pub unwrap-requires : goal.unwrap-requires
unwrap-requires c =
    c.as_mut.ensures.variant
    ∙ slot_there c.self.inside.sides.items _ c.args.vhost _ c.from.ensures c.index_mut.ensures.value (rw (← c.self.view_is) at c.requires)

pub returns : goal.returns
returns c =
    let items = c.self.inside.sides.items in
    let some = sym c.as_mut.ensures.value ∙ ap option_copied_mut c.unwrap.ensures in
    let value = slot_is items _ c.args.vhost _ c.unwrap.result.now c.from.ensures c.index_mut.ensures.value (rw (← c.self.view_is) at c.requires) some in
    rw (← c.self.view_is)
    ((refl, λ w. with_set items c.from.result w ∙ ap (λ k. with_at k w items) c.from.ensures), record { lends = tt; value = value })
