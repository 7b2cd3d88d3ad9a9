use Rattle.std.proofs.Common.{refl, sym, ap, ◌∙◌, arith}
use Rattle.std.specs.Option.{option_copied_mut}
use Rattle.tap_world.specs.ByNumber.{with_at}
use Rattle.core_shared.proofs.Numbered.{at_within, slot_is, slot_there, with_set}
use Rattle.core_shared.proofs.guests.Guests.guest_mut.Goals as goal

pub index_mut-requires : goal.index_mut-requires
index_mut-requires c =
    let s = c.self.inside.items in
    omega (arith, at_within s.items c.args.guest (rw (← c.self.view_is) at c.requires), c.from.ensures, s.ok.0)

pub unwrap-requires : goal.unwrap-requires
unwrap-requires c =
    c.as_mut.ensures.variant
    ∙ slot_there c.self.inside.items.items _ c.args.guest _ c.from.ensures c.index_mut.ensures.value (rw (← c.self.view_is) at c.requires)

pub returns : goal.returns
returns c =
    let items = c.self.inside.items.items in
    let some = sym c.as_mut.ensures.value ∙ ap option_copied_mut c.unwrap.ensures in
    let value = slot_is items _ c.args.guest _ c.unwrap.result.now c.from.ensures c.index_mut.ensures.value (rw (← c.self.view_is) at c.requires) some in
    rw (← c.self.view_is)
    ((refl, λ w. with_set items c.from.result w ∙ ap (λ k. with_at k w items) c.from.ensures), record { lends = tt; value = value })
