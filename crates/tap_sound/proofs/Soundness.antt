-- A sound world stays sound.
use Rattle.std.proofs.Common.{◌≡◌, Some}
use Rattle.tap_world.specs.declared.event.Event.{Event}
use Rattle.tap_world.specs.declared.event.Heard.{Heard}
use Rattle.tap_world.specs.Setup.{Setup}
use Rattle.tap_world.specs.World.{World}
use Rattle.tap_world.specs.Step.{step}
use Rattle.tap_world.specs.Sound.{IsSound}
use Rattle.tap_sound.proofs.Claims.{claims_are_kept}
use Rattle.tap_sound.proofs.HandKept.{hand_is_kept}
use Rattle.tap_sound.proofs.Held.{holders_are_kept}
use Rattle.tap_sound.proofs.Kept.{epochs_are_kept, versions_are_kept}
use Rattle.tap_sound.proofs.NamesKept.{names_are_kept}
use Rattle.tap_sound.proofs.EventRings.{rings_are_kept}
use Rattle.tap_sound.proofs.RoomKept.{room_is_always_kept}
use Rattle.tap_sound.proofs.TurnRings.{RingLaws}
use Rattle.tap_sound.proofs.Shut.{shut_is_kept}
use Rattle.tap_sound.proofs.Tabled.{table_is_kept}

pub soundness_is_kept : RingLaws → (s : Setup) (w : World) (x : Event) (u : World × Heard) → step s w x ≡ Some u → IsSound s w → IsSound s u.0
soundness_is_kept laws s w x u e h = record {
  names = names_are_kept s w x u e h.names;
  lines = room_is_always_kept s w x u e h.versions h.actors.stand h.tabled.agrees h.lines;
  claims = claims_are_kept s w x u e h.claims;
  epochs = epochs_are_kept s w x u e h.epochs;
  shut = shut_is_kept s w x u e h.shut;
  tabled = table_is_kept s w x u e h.actors.stand h.actors.writer h.tabled;
  hand = hand_is_kept s w x u e h.actors.stand (λ file f at_. (h.lines file f at_).ordered.parts) h.hand;
  rings = rings_are_kept laws s w x u e h.actors.stand h.actors.turns h.rings;
  versions = versions_are_kept s w x u e h.versions;
  actors = holders_are_kept s w x u e h.actors;
}
