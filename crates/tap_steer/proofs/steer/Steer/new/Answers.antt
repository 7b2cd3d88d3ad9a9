-- The first table is sound.
use Rattle.std.proofs.Common.{length, sym, ap, subst, ◌∙◌}
use Rattle.tap_steer.specs.Sound.{IsSound}
use Rattle.tap_steer.proofs.SoundOps.{sound_first}
use Rattle.tap_steer.proofs.steer.Steer.new.Goals as goal

pub invariant_of-result : goal.invariant_of-result
invariant_of-result c =
    subst IsSound (sym c.in_ok-new.ensures)
    (sound_first c.args.programs.items c.deref.result.now c.deref-2.result.now (ap length c.deref-2.ensures.value ∙ c.requires.names))
