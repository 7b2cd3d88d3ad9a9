-- The device of an enabled queue has its row, and no flow later than the clock.
use Rattle.std.proofs.Common.{Option, sym, ap, subst, ◌∙◌}
use Rattle.std.specs.Prelude.{IsSomeAnd, IfSome}
use Rattle.tap_steer.specs.declared.files.File.{File}
use Rattle.tap_steer.specs.Table.{Table, Device}
use Rattle.tap_steer.specs.Slot.{HasRow, IsNotAhead}
use Rattle.tap_steer.proofs.Homes.{enabled_is_name}
use Rattle.tap_steer.proofs.Lawful.{enabled_has_row, is_not_ahead}
use Rattle.tap_steer.proofs.SlotLemmas.{slot_device}
use Rattle.tap_steer.proofs.state.State.learn.Goals as goal

pub learn-requires-clause-there : goal.learn-requires-clause-there
learn-requires-clause-there c =
    let t = c.args.self.now in
    let e = ap (λ (f : File). f.attachment) (sym c.file.ensures) ∙ c.in-Enabled.is in
    let at = slot_device t c.self.inside c.self.view_is c.from.result c.in-Enabled.device c.from.ensures c.index_mut.result.now c.index_mut.ensures.value (enabled_is_name t c.requires.sound c.args.file c.in-Enabled.device e) in
    subst (λ (o : Option Device). IsSomeAnd o (HasRow c.args.file)) (sym at) (enabled_has_row t c.requires.sound c.args.file c.in-Enabled.device e)

pub learn-requires-clause-latest : goal.learn-requires-clause-latest
learn-requires-clause-latest c =
    let t = c.args.self.now in
    let e = ap (λ (f : File). f.attachment) (sym c.file.ensures) ∙ c.in-Enabled.is in
    let at = slot_device t c.self.inside c.self.view_is c.from.result c.in-Enabled.device c.from.ensures c.index_mut.result.now c.index_mut.ensures.value (enabled_is_name t c.requires.sound c.args.file c.in-Enabled.device e) in
    let clock = ap (λ (x : Table). x.clock) c.self.view_is in
    subst (λ n. IfSome c.index_mut.result.now.device (IsNotAhead n)) (sym clock)
    (subst (λ (o : Option Device). IfSome o (IsNotAhead t.clock)) (sym at) (is_not_ahead t c.requires.sound c.args.file c.in-Enabled.device e))
