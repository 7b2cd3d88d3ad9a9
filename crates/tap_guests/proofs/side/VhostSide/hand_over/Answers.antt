use Rattle.std.proofs.Common.{◌∙◌, None, true, sym, subst}
use Rattle.guest_mem.specs.Memory.{covers}
use Rattle.guest_mem.specs.declared.region.Region.{Region}
use Rattle.std.specs.Prelude.{List}
use Rattle.vhost_queue.specs.Queue.{Reserved}
use Rattle.vring_split.specs.Good.{IsGoodFor}
use Rattle.tap_guests.specs.Kept.{side_of}
use Rattle.tap_guests.specs.Side.{Side}
use Rattle.tap_guests.specs.Within.{IsIn}
use Rattle.tap_guests.proofs.Served.{rx_after, rx_served, rx_within}
use Rattle.tap_guests.proofs.side.VhostSide.hand_over.Goals as goal

pub hand_over-requires-clause-good : goal.hand_over-requires-clause-good
hand_over-requires-clause-good c =
    let P : Reserved → Type 0 = λ q. IsGoodFor q.queue.layout (covers c.args.mem.now.regions) in
    let served =
    rx_served _ (side_of c.self.inside) c.in-Some.worker (sym c.take.ensures.value ∙ c.in-Some.is)
    c.self.invariant.rx in
    let inside = subst (λ (x : Side). IsIn c.args.mem.now.regions x) (sym c.self.view_is) c.requires.within in
    subst P (sym c.vq.ensures.queue) (inside.good true served.backed)

pub returns-in-Err-clause-within : goal.returns-in-Err-clause-within
returns-in-Err-clause-within c =
    let rs = c.leave_idle.new.mem.regions in
    let inside = subst (λ (x : Side). IsIn c.args.mem.now.regions x) (sym c.self.view_is) c.requires.within in
    let same = sym (c.leave_idle.ensures.regions ∙ c.hand_over.ensures.regions) in
    let moved = subst (λ (x : List Region). IsIn x (side_of c.self.inside)) same inside in
    subst (λ o. IsIn rs (rx_after c.leave_idle.new.vq None o (side_of c.self.inside))) (sym c.take.ensures.after)
    (rx_within rs c.leave_idle.new.vq None None (side_of c.self.inside) moved c.leave_idle.ensures.good tt)
