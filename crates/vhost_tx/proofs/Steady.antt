-- A worker and its queue fit together after notices were turned off again.
use Rattle.std.proofs.Common.{◌≡◌, ℕ, ◌<◌, Bool, true, false, Option, Some, None, if◌then◌else◌, nat_eq, refl, ap, ◌∙◌, arith}
use Rattle.vring_split.specs.declared.fault.RingFault.{RingFault}
use Rattle.vhost_queue.specs.Queue.{Reserved}
use Rattle.vring_turns.specs.declared.end.End.TheVariants.{Stopped}
use Rattle.vring_turns.specs.declared.stage.TxStage.TheVariants.{NoticesOff, Publish, Ended}
use Rattle.vring_turns.specs.Ring.{done_in}
use Rattle.vring_turns.specs.TxTurn.{at_stage, tx_after_notices}
use Rattle.vring_turns.specs.Stage.{is_giving, chains_at, tx_stopped_at}
use Rattle.vhost_tx.specs.Worker.{Worker, IsSteady, goes_on_at}

-- where it ends with a fault, it publishes first where anything is done
closing_steady :
    (w : Worker) (r : Reserved) (fault : RingFault) (none : Bool)
    → (none ≡ false → 0 < done_in r.queue)
    → IsSteady w r → w.turn.stage ≡ NoticesOff (Some fault)
    → IsSteady (record w {
      turn = at_stage (if none then Ended (Stopped fault) else Publish (Some (Stopped fault))) w.turn;
    }) r
closing_steady w r fault true some s e = record {
  queue = record {
    layout = s.queue.layout;
    next = s.queue.next;
    gathered = s.queue.gathered ∙ ap chains_at e;
    stopped = s.queue.stopped ∙ ap tx_stopped_at e;
    done = λ h. cc;
  };
  numbers = record {
    chains = s.numbers.chains ∙ ap chains_at e;
    held = s.numbers.held ∙ ap is_giving e;
    more = λ h. cc;
    few = s.numbers.few;
    room = s.numbers.room;
  };
}
closing_steady w r fault false some s e = record {
  queue = record {
    layout = s.queue.layout;
    next = s.queue.next;
    gathered = s.queue.gathered ∙ ap chains_at e;
    stopped = s.queue.stopped ∙ ap tx_stopped_at e;
    done = λ h. some refl;
  };
  numbers = record {
    chains = s.numbers.chains ∙ ap chains_at e;
    held = s.numbers.held ∙ ap is_giving e;
    more = λ h. cc;
    few = s.numbers.few;
    room = s.numbers.room;
  };
}

-- a number that isn't 0 is above it
above_zero : (n : ℕ) → nat_eq n 0 ≡ false → 0 < n
above_zero n e = grind arith

pub off_steady :
    (w : Worker) (r : Reserved) (fault : Option RingFault)
    → IsSteady w r → w.turn.stage ≡ NoticesOff fault
    → IsSteady (record w { turn = at_stage (tx_after_notices r.queue fault) w.turn }) r
off_steady w r None s e = record {
  queue = record {
    layout = s.queue.layout;
    next = s.queue.next;
    gathered = s.queue.gathered ∙ ap chains_at e;
    stopped = s.queue.stopped ∙ ap tx_stopped_at e;
    done = λ h. cc;
  };
  numbers = record {
    chains = s.numbers.chains ∙ ap chains_at e;
    held = s.numbers.held ∙ ap is_giving e;
    more = λ h. s.numbers.more (ap goes_on_at e);
    few = s.numbers.few;
    room = s.numbers.room;
  };
}
off_steady w r (Some fault) s e =
    closing_steady w r fault (nat_eq (done_in r.queue) 0) (above_zero (done_in r.queue)) s e
