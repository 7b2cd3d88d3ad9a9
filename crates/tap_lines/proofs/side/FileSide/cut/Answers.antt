use Rattle.std.proofs.Common.{sym, ap, ◌∙◌}
use Rattle.tap_world.specs.Line.{File}
use Rattle.tap_lines.specs.Framed.{Framed}
use Rattle.tap_lines.specs.Held.{placed_of}
use Rattle.tap_lines.proofs.Changed.{cut_at, cut_has, cut_is, cut_placed, goes, stands_there}
use Rattle.tap_lines.proofs.side.FileSide.cut.Goals as goal

pub cut-requires-clause-put : goal.cut-requires-clause-put
cut-requires-clause-put c =
    let f : File = (placed_of c.self.inside).file in
    (cut_is f (rw (← c.self.view_is) at c.requires)).0

pub take_frame-requires : goal.take_frame-requires
take_frame-requires c =
    let f : File = (placed_of c.self.inside).file in
    let at = cut_at f _ (rw (← c.self.view_is) at c.requires) (sym c.ring_back.ensures ∙ c.unwrap-index.ensures) in
    rw c.cut.ensures (stands_there _ _ _ (cut_has f _ _ at c.self.invariant))

pub invariant_of-self : goal.invariant_of-self
invariant_of-self c =
    let f : File = (placed_of c.self.inside).file in
    let at = cut_at f _ (rw (← c.self.view_is) at c.requires) (sym c.ring_back.ensures ∙ c.unwrap-index.ensures) in
    rw (c.take_frame.ensures.gone, c.cut.ensures) (cut_placed f _ _ at c.self.invariant)

pub returns-clause-frame : goal.returns-clause-frame
returns-clause-frame c =
    let f : File = (placed_of c.self.inside).file in
    let last = sym c.ring_back.ensures ∙ c.unwrap-index.ensures in
    let at = cut_at f _ (rw (← c.self.view_is) at c.requires) last in
    let gone = ap (λ (x : Framed). x.frames) c.take_frame.ensures.gone in
    rw (← c.self.view_is)
    (goes f.line c.self.inside.line.frames _ _ _ _ last (cut_has f _ _ at c.self.invariant)
    (rw c.cut.ensures at c.take_frame.ensures.stood) (rw c.cut.ensures at gone))
