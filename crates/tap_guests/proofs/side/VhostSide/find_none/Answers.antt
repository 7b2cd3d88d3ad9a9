use Rattle.std.proofs.Common.{◌∙◌, true, sym, subst}
use Rattle.guest_mem.specs.Memory.{covers}
use Rattle.vhost_queue.specs.Queue.{Reserved}
use Rattle.vring_split.specs.Good.{IsGoodFor}
use Rattle.tap_guests.specs.Kept.{side_of}
use Rattle.tap_guests.specs.Side.{Side}
use Rattle.tap_guests.specs.Within.{IsIn}
use Rattle.tap_guests.proofs.Served.{rx_served}
use Rattle.tap_guests.proofs.side.VhostSide.find_none.Goals as goal

pub find_none-requires-clause-good : goal.find_none-requires-clause-good
find_none-requires-clause-good c =
    let P : Reserved → Type 0 = λ q. IsGoodFor q.queue.layout (covers c.args.mem.now.regions) in
    let served =
    rx_served _ (side_of c.self.inside) c.in-Some.worker (sym c.take.ensures.value ∙ c.in-Some.is)
    c.self.invariant.rx in
    let inside = subst (λ (x : Side). IsIn c.args.mem.now.regions x) (sym c.self.view_is) c.requires.within in
    subst P (sym c.vq.ensures.queue) (inside.good true served.backed)
