use Rattle.std.proofs.Common.{◌∙◌, ap}
use Rattle.std.specs.Option.{option_copied}
use Rattle.core_shared.proofs.Numbered.{got_none, got_slot}
use Rattle.core_shared.proofs.vhosts.Vhosts.get.Goals as goal

pub returns-in_err-get : goal.returns-in_err-get
returns-in_err-get c =
    rw (← c.self.view_is)
    (ap option_copied c.from_residual.ensures ∙ got_none c.self.inside.sides.items _ _ _ c.deref.ensures.value c.from.ensures c.in_err-get.ensures.lookup.0)

pub returns : goal.returns
returns c =
    rw (← c.self.view_is)
    (c.as_ref.ensures.value
    ∙ got_slot c.self.inside.sides.items _ _ _ _ c.deref.ensures.value c.from.ensures c.in_ok-get.ensures.lookup.0 c.in_ok-get.ensures.lookup.1)
