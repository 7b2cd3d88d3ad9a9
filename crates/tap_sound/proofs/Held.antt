-- Every event keeps who holds the writer and the turns of rings.
use Rattle.std.proofs.Common.{◌≡◌, true, Some}
use Rattle.tap_world.specs.declared.event.Event.{Event}
use Rattle.tap_world.specs.declared.event.Heard.{Heard}
use Rattle.tap_world.specs.Setup.{Setup}
use Rattle.tap_world.specs.World.{World}
use Rattle.tap_world.specs.Step.{step}
use Rattle.tap_world.specs.Each.{EachActor}
use Rattle.tap_world.specs.Sound.{HaveActors}
use Rattle.tap_world.specs.SoundActors.{CanBe, can_be}
use Rattle.tap_sound.proofs.Kit.{where_some}
use Rattle.tap_sound.proofs.Shapes.{Shape}
use Rattle.tap_sound.proofs.ShapeRows.{row_shape}
use Rattle.tap_sound.proofs.Stand.{stands_are_kept, stands_at}
use Rattle.tap_sound.proofs.Taken.{IsStep, step_is}
use Rattle.tap_sound.proofs.Turns.{turns_are_kept}
use Rattle.tap_sound.proofs.Writers.{writer_is_kept}

pub can_here : (s : Setup) (w : World) (x : Event) (u : World) (t : IsStep s w x u) → EachActor w (λ actor a. CanBe a) → can_be t.actor.doing t.now.command ≡ true
can_here s w x u t stand = stands_at t.actor t.now t.current_is (stand x.actor t.actor t.found)

pub shape_here : (s : Setup) (w : World) (x : Event) (u : World) (t : IsStep s w x u) → EachActor w (λ actor a. CanBe a)
    → Shape s w x.actor t.actor.seen t.actor.doing t.now.command t.effect
shape_here s w x u t stand = where_some (Shape s w x.actor t.actor.seen t.actor.doing t.now.command) _ t.effect
    (row_shape s w x.kind x.actor t.actor t.now.number t.now.command t.next (can_here s w x u t stand)) t.is_row

pub holders_are_kept : (s : Setup) (w : World) (x : Event) (u : World × Heard) → step s w x ≡ Some u → HaveActors w → HaveActors u.0
holders_are_kept s w x u e h =
    let t = step_is s w x u e in
    let can = can_here s w x u.0 t h.stand in
    let shape = shape_here s w x u.0 t h.stand in
    let writer = writer_is_kept s w x u.0 t can shape (h.writer, h.holders.0) in
    let turns = turns_are_kept s w x u.0 t can shape (h.turns, h.holders.1) in
    record { stand = stands_are_kept s w x u e h.stand; writer = writer.0; turns = turns.0; holders = (writer.1, turns.1) }
