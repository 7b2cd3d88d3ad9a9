-- What a vhost's turns need, and what they leave.
use Rattle.std.proofs.Common.{◌≡◌, ℕ, Bool, true, false, List, Option, None, Some, IfSome, MatchOption, if◌then◌else◌, sym, subst, ◌∙◌}
use Rattle.guest_mem.specs.Memory.{covers}
use Rattle.guest_mem.specs.declared.region.Region.{Region}
use Rattle.vhost_dev.specs.Laws.{BackedAreGood}
use Rattle.vhost_queue.specs.Queue.{Reserved}
use Rattle.vhost_rx.specs.Worker.{Worker as RxWorker}
use Rattle.vhost_tx.specs.Worker.{Worker as TxWorker}
use Rattle.vring_split.specs.Good.{IsGoodFor}
use Rattle.vring_turns.specs.Ring.{LieIn}
use Rattle.tap_guests.specs.Side.{Side, RingIsIdle, RxIsServed, TxIsServed}
use Rattle.tap_guests.specs.Within.{IsIn, blank}

-- what holds of the worker of a ring that one serves
pub rx_served :
    (o : Option RxWorker) (s : Side) (w : RxWorker)
    → o ≡ Some w → MatchOption o (RingIsIdle true s) (RxIsServed s) → RxIsServed s w
rx_served o s w is served =
    let P : Option RxWorker → Type 0 = λ x. MatchOption x (RingIsIdle true s) (RxIsServed s) in
    subst P is served

pub tx_served :
    (o : Option TxWorker) (s : Side) (w : TxWorker)
    → o ≡ Some w → MatchOption o (RingIsIdle false s) (TxIsServed s) → TxIsServed s w
tx_served o s w is served =
    let P : Option TxWorker → Type 0 = λ x. MatchOption x (RingIsIdle false s) (TxIsServed s) in
    subst P is served

-- the vhost with another queue, turn and worker of a ring
abbrev pub rx_after : Reserved → Option ℕ → Option RxWorker → Side → Side
rx_after q turn w s = record s {
  vhost = record s.vhost {
    settings = record s.vhost.settings { rx = record s.vhost.settings.rx { queue = q.queue } };
    rx_turn = turn;
  };
  rx_reserved = q.reserved;
  rx = w;
}

abbrev pub tx_after : Reserved → Option ℕ → Option TxWorker → Side → Side
tx_after q turn w s = record s {
  vhost = record s.vhost {
    settings = record s.vhost.settings { tx = record s.vhost.settings.tx { queue = q.queue } };
    tx_turn = turn;
  };
  tx_reserved = q.reserved;
  tx = w;
}

-- it stays in the regions
pub rx_within :
    (rs : List Region) (q : Reserved) (turn : Option ℕ) (w : Option RxWorker) (s : Side)
    → IsIn rs s → IsGoodFor q.queue.layout (covers rs) → IfSome w (λ x. LieIn (covers rs) x.turn.chains)
    → IsIn rs (rx_after q turn w s)
rx_within rs q turn w s inside good lies = record {
  good = good_of;
  rx_driver = inside.rx_driver;
  tx_driver = inside.tx_driver;
  rx = lies;
  tx = inside.tx;
} where
  good_of : BackedAreGood (blank rs) (rx_after q turn w s).vhost.settings
  good_of true backed = good
  good_of false backed = inside.good false backed

pub tx_within :
    (rs : List Region) (q : Reserved) (turn : Option ℕ) (w : Option TxWorker) (s : Side)
    → IsIn rs s → IsGoodFor q.queue.layout (covers rs) → IfSome w (λ x. LieIn (covers rs) x.turn.chains)
    → IsIn rs (tx_after q turn w s)
tx_within rs q turn w s inside good lies = record {
  good = good_of;
  rx_driver = inside.rx_driver;
  tx_driver = inside.tx_driver;
  rx = inside.rx;
  tx = lies;
} where
  good_of : BackedAreGood (blank rs) (tx_after q turn w s).vhost.settings
  good_of true backed = inside.good true backed
  good_of false backed = good

-- so do the chains of a worker that is kept
pub tx_lies :
    (rs : List Region) (over : Bool) (w : TxWorker) (old new : Option TxWorker)
    → old ≡ None → new ≡ (if over then old else Some w) → LieIn (covers rs) w.turn.chains
    → IfSome new (λ x. LieIn (covers rs) x.turn.chains)
tx_lies rs true w old new none is lies =
    let P : Option TxWorker → Type 0 = λ o. IfSome o (λ x. LieIn (covers rs) x.turn.chains) in
    subst P (sym (is ∙ none)) tt
tx_lies rs false w old new none is lies =
    let P : Option TxWorker → Type 0 = λ o. IfSome o (λ x. LieIn (covers rs) x.turn.chains) in
    subst P (sym is) lies
