use Rattle.std.proofs.Common.{◌≡◌, is_some, true, false, sym, subst}
use Rattle.guest_mem.specs.Memory.{covers}
use Rattle.vhost_queue.specs.Queue.{Reserved}
use Rattle.vring_split.specs.Good.{IsGoodFor}
use Rattle.tap_guests.specs.Side.{Side}
use Rattle.tap_guests.specs.Within.{IsIn}
use Rattle.tap_guests.proofs.side.VhostSide.begin_tx.Goals as goal

pub begin_tx-requires-clause-good : goal.begin_tx-requires-clause-good
begin_tx-requires-clause-good c =
    let P : Reserved → Type 0 = λ q. IsGoodFor q.queue.layout (covers c.args.mem.now.regions) in
    let Q : Side → Type 0 = λ s. is_some s.vhost.settings.tx.file ≡ true in
    let inside = subst (λ (x : Side). IsIn c.args.mem.now.regions x) (sym c.self.view_is) c.requires.within in
    subst P (sym c.vq.ensures.queue) (inside.good false (subst Q (sym c.self.view_is) c.requires.backed))
