-- A file has a shape exactly where it has a device.
use Rattle.std.proofs.Common.{sym, ap, ◌∙◌}
use Rattle.std.specs.Prelude.{is_some}
use Rattle.tap_steer.specs.Table.{Table, device_of}
use Rattle.tap_steer.proofs.Homes.{has_shape}
use Rattle.tap_steer.proofs.steer.Steer.shape_of.Goals as goal

pub returns-clause-none : goal.returns-clause-none
returns-clause-none c =
    let e = has_shape c.self.inside.state c.self.invariant c.args.file c.shape_of.result c.shape_of.ensures in
    let f = ap (λ (t : Table). is_some (device_of t c.args.file)) c.self.view_is in
    (λ h. sym f ∙ (sym e ∙ h), λ h. e ∙ (f ∙ h))
