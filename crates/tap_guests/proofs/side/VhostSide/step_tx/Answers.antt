use Rattle.std.proofs.Common.{◌∙◌, false, sym, subst}
use Rattle.guest_mem.specs.Memory.{covers}
use Rattle.guest_mem.specs.declared.region.Region.{Region}
use Rattle.std.specs.Prelude.{List}
use Rattle.vhost_queue.specs.Queue.{Reserved}
use Rattle.vring_split.specs.Good.{IsGoodFor}
use Rattle.tap_guests.specs.Kept.{side_of}
use Rattle.tap_guests.specs.Side.{Side}
use Rattle.tap_guests.specs.Within.{IsIn}
use Rattle.tap_guests.proofs.Served.{tx_served, tx_within, tx_lies}
use Rattle.tap_guests.proofs.side.VhostSide.step_tx.Goals as goal

pub step_tx-requires-clause-good : goal.step_tx-requires-clause-good
step_tx-requires-clause-good c =
    let P : Reserved → Type 0 = λ q. IsGoodFor q.queue.layout (covers c.args.mem.now.regions) in
    let served =
    tx_served _ (side_of c.self.inside) c.in-Some.worker (sym c.take.ensures.value ∙ c.in-Some.is)
    c.self.invariant.tx in
    let inside = subst (λ (x : Side). IsIn c.args.mem.now.regions x) (sym c.self.view_is) c.requires.within in
    subst P (sym c.vq.ensures.queue) (inside.good false served.backed)

pub returns-in-Ok-clause-within : goal.returns-in-Ok-clause-within
returns-in-Ok-clause-within c =
    let rs = c.step_tx.new.mem.regions in
    let inside = subst (λ (x : Side). IsIn c.args.mem.now.regions x) (sym c.self.view_is) c.requires.within in
    let moved = subst (λ (x : List Region). IsIn x (side_of c.self.inside)) (sym c.step_tx.ensures.regions) inside in
    tx_within rs c.step_tx.new.vq c.keep.new.turn c.keep.new.place (side_of c.self.inside) moved c.step_tx.ensures.good
    (tx_lies rs _ c.step_tx.new.worker c.take.new.self c.keep.new.place c.take.ensures.after c.keep.ensures.worker
    c.step_tx.ensures.lies)
