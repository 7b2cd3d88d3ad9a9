-- The device of a queue has its row or counts it; without rows it has no flows.
use Rattle.std.proofs.Common.{Option, sym, ap, subst, ◌∙◌}
use Rattle.std.specs.Prelude.{IsSomeAnd, IfSome}
use Rattle.std.specs.Option.{option_map}
use Rattle.tap_steer.specs.declared.files.File.{File}
use Rattle.tap_steer.specs.Table.{Device, Named}
use Rattle.tap_steer.specs.After.{without_row, without_disabled}
use Rattle.tap_steer.specs.Slot.{HasRow, IsEmptied}
use Rattle.tap_steer.proofs.Homes.{enabled_is_name, disabled_is_name}
use Rattle.tap_steer.proofs.Lawful.{enabled_has_row, disabled_has_some, detached_is_emptied, enabled_is_emptied, HasDisabled}
use Rattle.tap_steer.proofs.SlotLemmas.{slot_device}
use Rattle.tap_steer.proofs.state.State.shut.Goals as goal

pub detach-requires : goal.detach-requires
detach-requires c =
    let t = c.args.self.now in
    let e = ap (λ (f : File). f.attachment) (sym c.file-entry.ensures) ∙ c.in-Enabled.is in
    let at = slot_device t c.self.inside c.self.view_is c.from-in-Enabled.result c.in-Enabled.device c.from-in-Enabled.ensures c.index_mut-slot.result.now c.index_mut-slot.ensures.value (enabled_is_name t c.requires.sound c.args.file c.in-Enabled.device e) in
    subst (λ (o : Option Device). IsSomeAnd o (HasRow c.args.file)) (sym at) (enabled_has_row t c.requires.sound c.args.file c.in-Enabled.device e)

pub leave-requires : goal.leave-requires
leave-requires c =
    let t = c.args.self.now in
    let e = ap (λ (f : File). f.attachment) (sym c.file-entry.ensures) ∙ c.in-Enabled.is in
    let at = slot_device t c.self.inside c.self.view_is c.from-in-Enabled.result c.in-Enabled.device c.from-in-Enabled.ensures c.index_mut-slot.result.now c.index_mut-slot.ensures.value (enabled_is_name t c.requires.sound c.args.file c.in-Enabled.device e) in
    subst (λ (o : Option Device). IfSome o IsEmptied) (sym (ap (λ (n : Named). n.device) c.detach.ensures ∙ ap (option_map (without_row c.args.file)) at))
    (detached_is_emptied t c.requires.sound c.args.file c.in-Enabled.device e)

pub enable-requires : goal.enable-requires
enable-requires c =
    let t = c.args.self.now in
    let e = ap (λ (f : File). f.attachment) (sym c.file-entry.ensures) ∙ c.in-Disabled.is in
    let at = slot_device t c.self.inside c.self.view_is c.from-in-Disabled.result c.in-Disabled.device c.from-in-Disabled.ensures c.index_mut-slot-in-Disabled.result.now c.index_mut-slot-in-Disabled.ensures.value (disabled_is_name t c.requires.sound c.args.file c.in-Disabled.device e) in
    subst (λ (o : Option Device). IsSomeAnd o HasDisabled) (sym at) (disabled_has_some t c.requires.sound c.args.file c.in-Disabled.device e)

pub leave-requires-in-Disabled : goal.leave-requires-in-Disabled
leave-requires-in-Disabled c =
    let t = c.args.self.now in
    let e = ap (λ (f : File). f.attachment) (sym c.file-entry.ensures) ∙ c.in-Disabled.is in
    let at = slot_device t c.self.inside c.self.view_is c.from-in-Disabled.result c.in-Disabled.device c.from-in-Disabled.ensures c.index_mut-slot-in-Disabled.result.now c.index_mut-slot-in-Disabled.ensures.value (disabled_is_name t c.requires.sound c.args.file c.in-Disabled.device e) in
    subst (λ (o : Option Device). IfSome o IsEmptied) (sym (ap (λ (n : Named). n.device) c.enable.ensures ∙ ap (option_map without_disabled) at))
    (enabled_is_emptied t c.requires.sound c.args.file c.in-Disabled.device e)
