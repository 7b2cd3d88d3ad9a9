-- The device of a disabled queue counts it, and has room for its row.
use Rattle.std.proofs.Common.{Option, sym, ap, subst, ◌∙◌}
use Rattle.std.specs.Prelude.{IsSomeAnd}
use Rattle.std.specs.Option.{option_map}
use Rattle.tap_steer.specs.declared.files.File.{File}
use Rattle.tap_steer.specs.Table.{Device, Named}
use Rattle.tap_steer.specs.After.{without_disabled}
use Rattle.tap_steer.specs.Slot.{HasRoom}
use Rattle.tap_steer.proofs.Homes.{disabled_is_name}
use Rattle.tap_steer.proofs.Lawful.{disabled_has_some, attach_has_room, HasDisabled}
use Rattle.tap_steer.proofs.SlotLemmas.{slot_device}
use Rattle.tap_steer.proofs.state.State.attach_queue.Goals as goal

pub enable-requires : goal.enable-requires
enable-requires c =
    let t = c.args.self.now in
    let e = ap (λ (f : File). f.attachment) (sym c.file-entry.ensures) ∙ c.in-Disabled.is in
    let at = slot_device t c.self.inside c.self.view_is c.from-in-Disabled.result c.in-Disabled.device c.from-in-Disabled.ensures c.index_mut-slot.result.now c.index_mut-slot.ensures.value (disabled_is_name t c.requires.sound c.args.file c.in-Disabled.device e) in
    subst (λ (o : Option Device). IsSomeAnd o HasDisabled) (sym at) (disabled_has_some t c.requires.sound c.args.file c.in-Disabled.device e)

pub attach-requires : goal.attach-requires
attach-requires c =
    let t = c.args.self.now in
    let e = ap (λ (f : File). f.attachment) (sym c.file-entry.ensures) ∙ c.in-Disabled.is in
    let at = slot_device t c.self.inside c.self.view_is c.from-in-Disabled.result c.in-Disabled.device c.from-in-Disabled.ensures c.index_mut-slot.result.now c.index_mut-slot.ensures.value (disabled_is_name t c.requires.sound c.args.file c.in-Disabled.device e) in
    subst (λ (o : Option Device). IsSomeAnd o (HasRoom c.args.file)) (sym (ap (λ (n : Named). n.device) c.enable.ensures ∙ ap (option_map without_disabled) at))
    (attach_has_room t c.requires.sound c.args.file c.in-Disabled.device e)
