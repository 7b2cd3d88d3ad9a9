use Rattle.std.proofs.Common.{Bool, true, false}
use Rattle.vhost_dev.specs.Settings.{Settings, ring_at, ring_of, is_rx}
use Rattle.vhost_dev.specs.Lists.{AreInOrder}
use Rattle.tap_sound.proofs.Used as used
use Rattle.tap_sound.proofs.used_is_counted.Goals as goal

in_order : (b : Bool) (s : Settings) → AreInOrder s.rx.lists s.rx.queue.positions → AreInOrder s.tx.lists s.tx.queue.positions
    → AreInOrder (ring_of b s).lists (ring_of b s).queue.positions
in_order true s rx tx = rx
in_order false s rx tx = tx

pub returns : goal.returns
returns c = λ s w vhost ring v sound at.
    let r = sound.rings.rings vhost v at in
    used.are_counted (ring_at ring v.settings).lists (ring_at ring v.settings).queue.positions
    (in_order (is_rx ring) v.settings r.2.lists r.3.lists)
