-- A lawful operation leaves the table sound.
use Rattle.std.proofs.Common.{◌≡◌, None, sym, subst}
use Rattle.tap_steer.specs.Table.{Table}
use Rattle.tap_steer.specs.Rules.{refuse}
use Rattle.tap_steer.specs.Named.{IsNamed}
use Rattle.tap_steer.specs.Sound.{IsSound}
use Rattle.tap_steer.proofs.SoundOps.{sound_after}
use Rattle.tap_steer.proofs.steer.Steer.apply.Goals as goal

pub invariant_of-self : goal.invariant_of-self
invariant_of-self c =
    let named = subst (λ (t : Table). IsNamed t c.args.op.now) (sym c.self.view_is) c.requires.named in
    let lawful = subst (λ (t : Table). refuse t c.args.op.now ≡ None) (sym c.self.view_is) c.requires.lawful in
    subst IsSound (sym c.apply.ensures) (sound_after c.self.inside.state c.args.op.now c.self.invariant named lawful)
