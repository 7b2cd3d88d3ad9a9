-- Every event keeps what files and rings have of the queue table.
use Rattle.std.proofs.Common.{◌≡◌, Some}
use Rattle.tap_world.specs.declared.event.Event.{Event}
use Rattle.tap_world.specs.declared.event.Heard.{Heard}
use Rattle.tap_world.specs.Setup.{Setup}
use Rattle.tap_world.specs.World.{World}
use Rattle.tap_world.specs.Step.{step}
use Rattle.tap_world.specs.Each.{EachActor}
use Rattle.tap_world.specs.SoundTable.{HasTable}
use Rattle.tap_world.specs.Sound.{WriterIsHeld}
use Rattle.tap_world.specs.SoundActors.{CanBe}
use Rattle.tap_sound.proofs.BackerEvents.{backings_are_kept}
use Rattle.tap_sound.proofs.Held.{can_here, shape_here}
use Rattle.tap_sound.proofs.TableEvents.{fits_are_kept}
use Rattle.tap_sound.proofs.TableKept.{FitsWorld}
use Rattle.tap_sound.proofs.Taken.{step_is}

pub table_is_kept : (s : Setup) (w : World) (x : Event) (u : World × Heard) → step s w x ≡ Some u → EachActor w (λ actor a. CanBe a) → EachActor w (WriterIsHeld w)
    → HasTable s w → HasTable s u.0
table_is_kept s w x u e stand writer h =
    let t = step_is s w x u e in
    let can = can_here s w x u.0 t stand in
    let shape = shape_here s w x u.0 t stand in
    let fits : FitsWorld s w = record { agrees = h.agrees; known = h.known; found = h.found } in
    let after = fits_are_kept s w x u.0 t can shape writer fits in
    record { agrees = after.agrees; known = after.known; backends = backings_are_kept s w x u.0 t can shape writer fits h.backends; found = after.found }
