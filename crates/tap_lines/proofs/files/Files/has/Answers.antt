use Rattle.std.proofs.Common.{◌∙◌}
use Rattle.tap_lines.proofs.Numbered.{has_none, has_some}
use Rattle.tap_lines.proofs.files.Files.has.Goals as goal

pub returns-in-Some : goal.returns-in-Some
returns-in-Some c =
    rw (← c.self.view_is)
    (c.is_some.ensures
    ∙ has_some c.self.inside.sides.items _ _ _ _ c.deref.ensures.value c.from.ensures c.in-Some.ensures.lookup.0 c.in-Some.ensures.lookup.1)

pub returns-in-None : goal.returns-in-None
returns-in-None c =
    rw (← c.self.view_is) (has_none c.self.inside.sides.items _ _ _ c.deref.ensures.value c.from.ensures c.in-None.ensures.lookup.0)
