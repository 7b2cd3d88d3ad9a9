-- The device of an enabled queue has its row.
use Rattle.std.proofs.Common.{Option, sym, ap, subst, ◌∙◌}
use Rattle.std.specs.Prelude.{IsSomeAnd}
use Rattle.std.specs.Option.{option_map}
use Rattle.tap_steer.specs.declared.files.File.{File}
use Rattle.tap_steer.specs.Table.{Device, Named}
use Rattle.tap_steer.specs.After.{without_row}
use Rattle.tap_steer.specs.Slot.{HasRow}
use Rattle.tap_steer.proofs.Homes.{enabled_is_name}
use Rattle.tap_steer.proofs.Lawful.{enabled_has_row, detached_is_few, IsFewDisabled}
use Rattle.tap_steer.proofs.SlotLemmas.{slot_device}
use Rattle.tap_steer.proofs.state.State.detach_queue.Goals as goal

pub detach-requires : goal.detach-requires
detach-requires c =
    let t = c.args.self.now in
    let e = ap (λ (f : File). f.attachment) (sym c.file-entry.ensures) ∙ c.in-Enabled.is in
    let at = slot_device t c.self.inside c.self.view_is c.from-in-Enabled.result c.in-Enabled.device c.from-in-Enabled.ensures c.index_mut-slot.result.now c.index_mut-slot.ensures.value (enabled_is_name t c.requires.sound c.args.file c.in-Enabled.device e) in
    subst (λ (o : Option Device). IsSomeAnd o (HasRow c.args.file)) (sym at) (enabled_has_row t c.requires.sound c.args.file c.in-Enabled.device e)

pub disable-requires : goal.disable-requires
disable-requires c =
    let t = c.args.self.now in
    let e = ap (λ (f : File). f.attachment) (sym c.file-entry.ensures) ∙ c.in-Enabled.is in
    let at = slot_device t c.self.inside c.self.view_is c.from-in-Enabled.result c.in-Enabled.device c.from-in-Enabled.ensures c.index_mut-slot.result.now c.index_mut-slot.ensures.value (enabled_is_name t c.requires.sound c.args.file c.in-Enabled.device e) in
    subst (λ (o : Option Device). IsSomeAnd o IsFewDisabled) (sym (ap (λ (n : Named). n.device) c.detach.ensures ∙ ap (option_map (without_row c.args.file)) at))
    (detached_is_few t c.requires.sound c.args.file c.in-Enabled.device e)
