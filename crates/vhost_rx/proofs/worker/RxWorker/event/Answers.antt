use Rattle.std.proofs.Common.{◌≡◌, ◌∙◌, refl, sym, ap, subst}
use Rattle.tap_ledger.specs.declared.hand.Hand.TheVariants.{Off}
use Rattle.vring_turns.specs.declared.stage.RxStage.{RxStage}
use Rattle.vring_turns.specs.RxTurn.{rx_next, rx_outs}
use Rattle.vring_turns.specs.Hands.{MovesAt}
use Rattle.vring_turns.specs.Stage.{has_in_hand}
use Rattle.vhost_rx.specs.Worker.{state_of}
use Rattle.vhost_rx.proofs.Events.{out_step, discard_step, back_step, at_memory, discarded}
use Rattle.vhost_rx.proofs.worker.RxWorker.event.Goals as goal

pub returns-in-Begin-clause-event : goal.returns-in-Begin-clause-event
returns-in-Begin-clause-event g c =
    let t = c.args.self.now.turn in
    let q = g.Q.FrameQueue.queue c.args.q.now in
    let s = state_of c.args.self.now c.args.vq.now.queue c.args.mem.now in
    let e = ap (λ w. w.turn.stage) (sym c.self.view_is) ∙ c.in-Begin.is in
    let P : RxStage → Type 0 = λ st. MovesAt st t Off q q in
    record {
      hand = Off;
      moves = subst P (sym e) refl;
      step = ap (λ st. rx_next st Off s) e ∙ c.notices_first.ensures.step Off;
    }

pub returns-in-NoticesOn-clause-event : goal.returns-in-NoticesOn-clause-event
returns-in-NoticesOn-clause-event g c =
    let t = c.args.self.now.turn in
    let q = g.Q.FrameQueue.queue c.args.q.now in
    let s = state_of c.args.self.now c.args.vq.now.queue c.args.mem.now in
    let e = ap (λ w. w.turn.stage) (sym c.self.view_is) ∙ c.in-NoticesOn.is in
    let P : RxStage → Type 0 = λ st. MovesAt st t Off q q in
    record {
      hand = Off;
      moves = subst P (sym e) refl;
      step = ap (λ st. rx_next st Off s) e ∙ c.notices_on.ensures.step Off;
    }

pub returns-in-Out-clause-event : goal.returns-in-Out-clause-event
returns-in-Out-clause-event g c =
    let t = c.args.self.now.turn in
    let old = g.Q.FrameQueue.queue c.args.q.now in
    let new = g.Q.FrameQueue.queue c.out.new.q in
    let s = state_of c.args.self.now c.args.vq.now.queue c.args.mem.now in
    let after = state_of c.out.new.self c.args.vq.now.queue c.args.mem.now in
    let e = ap (λ w. w.turn.stage) (sym c.self.view_is) ∙ c.in-Out.is in
    let held = c.requires.fits.steady.chains.held ∙ ap has_in_hand e in
    let P : RxStage → Type 0 = λ st. MovesAt st t Off old new in
    record {
      hand = Off;
      moves = subst P (sym e) c.out.ensures.moved;
      step = out_step s after c.out.result c.need-bytes.result e c.need-bytes.ensures.need held
          (at_memory t.held (λ frame m. rx_outs c.need-bytes.result frame (state_of c.args.self.now c.args.vq.now.queue m)
          ≡ (state_of c.out.new.self c.args.vq.now.queue m, c.out.result)) c.args.mem.now c.out.ensures.step);
    }

pub returns-in-Discard-clause-event : goal.returns-in-Discard-clause-event
returns-in-Discard-clause-event g c =
    let t = c.args.self.now.turn in
    let old = g.Q.FrameQueue.queue c.args.q.now in
    let new = g.Q.FrameQueue.queue c.out-in-Discard.new.q in
    let s = state_of c.args.self.now c.args.vq.now.queue c.args.mem.now in
    let after = state_of c.out-in-Discard.new.self c.args.vq.now.queue c.args.mem.now in
    let e = ap (λ w. w.turn.stage) (sym c.self.view_is) ∙ c.in-Discard.is in
    let held = c.requires.fits.steady.chains.held ∙ ap has_in_hand e in
    let P : RxStage → Type 0 = λ st. MovesAt st t Off old new in
    record {
      hand = Off;
      moves = subst P (sym e)
          (discarded t.held t.header c.in-Discard.had t.mergeable c.overrun-fate.result old new c.overrun-fate.ensures.fate
          c.out-in-Discard.ensures.moved);
      step = discard_step s after c.out-in-Discard.result c.in-Discard.had e held
          (at_memory t.held (λ frame m. rx_outs 0 frame (state_of c.args.self.now c.args.vq.now.queue m)
          ≡ (state_of c.out-in-Discard.new.self c.args.vq.now.queue m, c.out-in-Discard.result))
          c.args.mem.now c.out-in-Discard.ensures.step);
    }

pub returns-in-PutBack-clause-event : goal.returns-in-PutBack-clause-event
returns-in-PutBack-clause-event g c =
    let t = c.args.self.now.turn in
    let old = g.Q.FrameQueue.queue c.args.q.now in
    let new = g.Q.FrameQueue.queue c.put_back.new.q in
    let s = state_of c.args.self.now c.args.vq.now.queue c.args.mem.now in
    let after = state_of c.put_back.new.self c.args.vq.now.queue c.args.mem.now in
    let e = ap (λ w. w.turn.stage) (sym c.self.view_is) ∙ c.in-PutBack.is in
    let held = c.requires.fits.steady.chains.held ∙ ap has_in_hand e in
    let P : RxStage → Type 0 = λ st. MovesAt st t Off old new in
    record {
      hand = Off;
      moves = subst P (sym e) c.put_back.ensures.moved;
      step = back_step s after c.put_back.result c.in-PutBack.end e held (c.put_back.ensures.step c.args.mem.now);
    }
