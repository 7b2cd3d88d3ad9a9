use Rattle.std.proofs.Common.{ℕ, ap, sym, ◌∙◌}
use Rattle.vhost_queue.specs.Queue.{Reserved}
use Rattle.vring_turns.specs.Ring.{found, room_in}
use Rattle.vhost_rx.specs.Worker.{IsSteady, ring_of, fetch_stage}
use Rattle.vhost_rx.proofs.Fetched.{settled_steady, fetch_gathers, few_found}
use Rattle.vhost_rx.proofs.worker.RxWorker.fetch.Goals as goal
use Rattle.vhost_rx.proofs.worker.RxWorker.fetch.Goals.{After-told_of}

steady : (c : After-told_of) → IsSteady c.settle.new.self c.settle.new.vq
steady c =
    let segments = (found (ring_of c.args.self.now c.args.vq.now.queue) c.args.mem.now).1 in
    let F : ℕ → Reserved = λ n. record { queue = c.settle.new.vq.queue; reserved = n } in
    settled_steady c.args.self.now c.settle.new.self c.args.vq.now c.settle.new.vq (fetch_stage c.args.second)
    c.after_by-stage.result c.find-found.result segments c.args.second c.rewinds.result
    (ring_of c.find-found.new.self c.find-found.new.vq.queue) (ring_of c.settle.new.self c.settle.new.vq.queue)
    c.way-way.result
    c.requires.steady c.requires.stage (fetch_gathers c.args.second)
    c.find-found.ensures.ring
    (rw (c.find-found.ensures.worker, c.need-need.ensures.need) at c.way-way.ensures)
    c.rewinds.ensures
    (rw (← c.need-need.ensures.need) (c.after_by-stage.ensures c.args.self.now.turn.chains
    (ap (λ w. room_in w.turn.chains) (sym c.self.view_is) ∙ sym c.had-had.ensures)))
    c.settle.ensures.ring
    (rw c.find-found.ensures.worker at c.settle.ensures.worker)
    (ap F (c.settle.ensures.reserved ∙ c.find-found.ensures.reserved))

pub returns-clause-steady : goal.returns-clause-steady
returns-clause-steady c = steady c

pub returns-clause-layout : goal.returns-clause-layout
returns-clause-layout c =
    let same = rw c.find-found.ensures.worker at c.settle.ensures.worker in
    (steady c).queue.layout ∙ (ap (λ w. w.layout) same ∙ sym c.requires.steady.queue.layout)

pub settle-requires-clause-few : goal.settle-requires-clause-few
settle-requires-clause-few c =
    let segments = (found (ring_of c.args.self.now c.args.vq.now.queue) c.args.mem.now).1 in
    few_found c.args.self.now c.args.vq.now c.args.second c.find-found.result segments
    (ring_of c.find-found.new.self c.find-found.new.vq.queue) c.requires.steady c.requires.stage c.find-found.ensures.ring
