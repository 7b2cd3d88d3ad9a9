-- What each step of either turn publishes, and a run of them.
use Rattle.std.proofs.Common.{◌≡◌, ℕ, zero, suc, ◌+◌, ◌^◌, ◌<◌, Bool, true, false, List, [], ◌∷◌, ◌++◌, length, map, Option, None, Some, if◌then◌else◌, nat_le, nat_lt, nat_eq, refl, sym, ap, ◌∙◌, subst, arith, append_assoc}
use Rattle.std.proofs.lemmas.List.{append-nil, length-append}
use Rattle.guest_mem.specs.Memory.{Contents}
use Rattle.vring_split.specs.declared.segment.Segment.{Segment}
use Rattle.vring_walk.specs.declared.walk.Fetched.{Fetched}
use Rattle.vring_walk.specs.declared.walk.Fetched.TheVariants.{Chain, Nothing, Bad, Crowded}
use Rattle.vhost_queue.specs.declared.done.Done.{Done}
use Rattle.vhost_queue.specs.Positions.{Positions, after, with_done, first_done, published_from}
use Rattle.vhost_queue.specs.Queue.{Queue}
use Rattle.tap_frame.specs.declared.reading.BadFrame.{BadFrame}
use Rattle.tap_frame.specs.Frame.{FrameValue}
use Rattle.tap_ledger.specs.declared.act.Act.{Act}
use Rattle.tap_ledger.specs.declared.act.Act.TheVariants as act
use Rattle.tap_ledger.specs.declared.hand.Hand.{Hand}
use Rattle.tap_ledger.specs.declared.hand.Hand.TheVariants as hand
use Rattle.tap_ledger.specs.Host.{with_given}
use Rattle.vring_turns.specs.declared.end.End.{End}
use Rattle.vring_turns.specs.declared.end.End.TheVariants.{Idle}
use Rattle.vring_turns.specs.declared.stage.TxStage.{TxStage}
use Rattle.vring_turns.specs.declared.stage.TxStage.TheVariants as tx
use Rattle.vring_turns.specs.declared.stage.RxStage.{RxStage}
use Rattle.vring_turns.specs.declared.stage.RxStage.TheVariants as rx
use Rattle.vring_turns.specs.Ring.{Gathered, Ring, Made, room_in, joined, told_of, all_rewound, found, fetches, noticed, done_in, with_all_done, first_position}
use Rattle.vring_turns.specs.TransmitBytes.{bytes_of_chain, refusal_of}
use Rattle.vring_turns.specs.ReceiveImage.{need_of, shares}
use Rattle.vring_turns.specs.TxTurn.{TxTurn, TxState, tx_ring, tx_made, tx_done, tx_judged, tx_copies, tx_gives, tx_after_packet, tx_after_fetch, tx_after_second, tx_after_notices, tx_next}
use Rattle.vring_turns.specs.TxRun.{Moment, IsTxRun}
use Rattle.vring_turns.specs.RxTurn.{RxTurn, RxState, rx_ring, rx_made, rewinding, rx_outs, rx_puts_back, rx_hands, rx_with, rx_in_hand, rx_next, stage_of, rx_at, rx_closing, rx_rewinds, rx_way, rx_after_fetch, rx_after_second}
use Rattle.vring_turns.specs.RxRun.{RxMoment, IsRxRun}
use Rattle.vring_turns.specs.Publications.{RingMoment, of_transmit, of_receive, PublishesAt, entries_at, entries_by, TurnPublishes}
use Rattle.vring_turns.proofs.TxRuns.{some_is, published_made}
use Rattle.vring_turns.proofs.RxRuns.{published_made as received_made, copied_made}

-- What one step adds to what was published.

record Grows (told : Act) (m : RingMoment) : Type 0 where
  pub layout : m.queue_then.layout ≡ m.queue.layout
  pub journal : m.queue_then.positions.journal ≡ m.queue.positions.journal ++ entries_at told m.queue
  pub used : m.queue.used < 2 ^ 16 → m.queue_then.used ≡ after m.queue.used (length (entries_at told m.queue))

length_of : (position : ℕ) (ds : List Done) → length (published_from position ds) ≡ length ds
length_of position [] = refl
length_of position (d ∷ ds) = ap suc (length_of (after position 1) ds)

none_more : (u : ℕ) → u < 2 ^ 16 → u ≡ after u 0
none_more u h = omega arith

grows : (told : Act) (m : RingMoment) → PublishesAt told m → Grows told m
grows (act.Publish count call) m p = record {
  layout = ap (λ q. q.layout) p.queue_is;
  journal = ap (λ q. q.positions.journal) p.queue_is;
  used = λ h. ap (λ q. q.used) p.queue_is
      ∙ ap (λ n. after m.queue.used n) (sym (length_of (first_done m.queue.positions) m.queue.positions.done));
}
grows other m p = record {
  layout = p.layout_stays;
  journal = p.journal_stays ∙ sym (append-nil m.queue.positions.journal);
  used = λ h. p.used_stays ∙ none_more m.queue.used h;
}

-- a step, and those behind it
more :
    (m : RingMoment) (q' : Queue) (ms : List RingMoment)
    → PublishesAt m.told m → TurnPublishes m.queue_then q' ms → TurnPublishes m.queue q' (m ∷ ms)
more m q' ms p rest =
    let g = grows m.told m p in
    record {
      each = (p, rest.each);
      layout = rest.layout ∙ g.layout;
      journal = rest.journal ∙ (ap (λ front. front ++ entries_by ms) g.journal
          ∙ append_assoc m.queue.positions.journal (entries_at m.told m.queue) (entries_by ms));
      used = λ h.
          let a = g.used h in
          let lt : m.queue_then.used < 2 ^ 16 = omega (arith, a) in
          omega (arith, a, rest.used lt, length-append (entries_at m.told m.queue) (entries_by ms));
    }

-- What steps of both kinds have in common.

-- a fetch publishes nothing, whatever it found
fetched_nothing :
    (position : ℕ) (f : Fetched) (segments : List Segment) (r : Ring) (m : Contents)
    → PublishesAt (told_of position f) (record {
      queue = r.queue;
      memory = m;
      told = told_of position f;
      queue_then = (joined f segments r).queue;
      memory_then = m;
    })
fetched_nothing position (Chain head) segments r m =
    record { layout_stays = refl; used_stays = refl; journal_stays = refl }
fetched_nothing position Nothing segments r m =
    record { layout_stays = refl; used_stays = refl; journal_stays = refl }
fetched_nothing position (Bad fault) segments r m =
    record { layout_stays = refl; used_stays = refl; journal_stays = refl }
fetched_nothing position Crowded segments r m =
    record { layout_stays = refl; used_stays = refl; journal_stays = refl }

-- nor does one that gives up its chains
rewound_nothing :
    (position : ℕ) (f : Fetched) (segments : List Segment) (r : Ring) (m : Contents)
    → PublishesAt (told_of position f) (record {
      queue = r.queue;
      memory = m;
      told = told_of position f;
      queue_then = (all_rewound (joined f segments r)).queue;
      memory_then = m;
    })
rewound_nothing position (Chain head) segments r m =
    record { layout_stays = refl; used_stays = refl; journal_stays = refl }
rewound_nothing position Nothing segments r m =
    record { layout_stays = refl; used_stays = refl; journal_stays = refl }
rewound_nothing position (Bad fault) segments r m =
    record { layout_stays = refl; used_stays = refl; journal_stays = refl }
rewound_nothing position Crowded segments r m =
    record { layout_stays = refl; used_stays = refl; journal_stays = refl }

positive : (n : ℕ) → nat_eq n 0 ≡ false → 0 < n
positive zero e = cc
positive (suc n) e = omega arith

-- Transmit.

abbrev TxDoes : TxState → TxState × Act → Type 0
TxDoes s y = PublishesAt y.1 (of_transmit (record { before = s; told = y.1; after = y.0 }))

of_tx :
    (s s' : TxState) (told : Act) (x : TxState × Act)
    → Some x ≡ Some (s', told) → TxDoes s x → TxDoes s (s', told)
of_tx s s' told x e d =
    let P : TxState × Act → Type 0 = λ y. TxDoes s y in
    subst P (some_is x (s', told) e) d

tx_fetch :
    (s s' : TxState) (told : Act) (o : Option TxStage)
    → (elim o as (λ (k : Option TxStage). Option (TxState × Act)) [
      | None ↦ None
      | Some stage ↦ Some (tx_made (fetches (tx_ring s) s.memory) stage s)
    ]) ≡ Some (s', told)
    → TxDoes s (s', told)
tx_fetch s s' told None e = cc
tx_fetch s s' told (Some stage) e =
    let f = found (tx_ring s) s.memory in
    of_tx s s' told (tx_made (fetches (tx_ring s) s.memory) stage s) e
    (fetched_nothing s.queue.positions.next f.0 f.1 (tx_ring s) s.memory)

tx_judge :
    (s s' : TxState) (told : Act) (c : Gathered) (position : ℕ) (bytes : List ℕ) (bad : Option BadFrame)
    → Some (tx_judged position bytes bad (tx_done c s)) ≡ Some (s', told) → TxDoes s (s', told)
tx_judge s s' told c position bytes (Some bad) e =
    of_tx s s' told (tx_judged position bytes (Some bad) (tx_done c s)) e
    (record { layout_stays = refl; used_stays = refl; journal_stays = refl })
tx_judge s s' told c position bytes None e =
    of_tx s s' told (tx_judged position bytes None (tx_done c s)) e
    (record { layout_stays = refl; used_stays = refl; journal_stays = refl })

tx_copy :
    (s s' : TxState) (told : Act) (chains : List Gathered)
    → tx_copies chains s ≡ Some (s', told) → TxDoes s (s', told)
tx_copy s s' told [] e = cc
tx_copy s s' told (c ∷ cs) e =
    let bytes = bytes_of_chain s.turn.header s.memory c in
    tx_judge s s' told c (first_position (tx_ring s)) bytes (refusal_of s.turn.header bytes) e

tx_give :
    (s s' : TxState) (told : Act) (held : Option FrameValue)
    → tx_gives held s ≡ Some (s', told) → TxDoes s (s', told)
tx_give s s' told None e = cc
tx_give s s' told (Some frame) e = room (nat_lt 0 s.host.room) e
  where
    x : TxState
    x = record s {
      turn = record s.turn { held = None; stage = tx_after_packet s.turn s.queue };
      host = with_given frame s.host;
    }

    room :
        (b : Bool)
        → if◌then◌else◌ {A = Option (TxState × Act)} b (Some (x, act.Given frame.name)) None ≡ Some (s', told)
        → TxDoes s (s', told)
    room true e =
        of_tx s s' told (x, act.Given frame.name) e
        (record { layout_stays = refl; used_stays = refl; journal_stays = refl })
    room false e = cc

tx_publish :
    (s s' : TxState) (told : Act) (end : Option End) (b : Bool)
    → nat_eq (done_in s.queue) 0 ≡ b
    → (elim (if b then None else Some (published_made s)) as (λ (k : Option Made). Option (TxState × Act)) [
      | None ↦ None
      | Some m ↦ Some (tx_made m (elim end [ None ↦ tx.Fetch | Some e ↦ tx.Ended e ]) s)
    ]) ≡ Some (s', told)
    → TxDoes s (s', told)
tx_publish s s' told end true is e = cc
tx_publish s s' told end false is e =
    of_tx s s' told (tx_made (published_made s) (elim end [ None ↦ tx.Fetch | Some e ↦ tx.Ended e ]) s) e
    (record {
      some = positive (done_in s.queue) is;
      counted = refl;
      queue_is = refl;
      written = refl;
      called = refl;
    })

tx_does : (s s' : TxState) (told : Act) (st : TxStage) → tx_next st s ≡ Some (s', told) → TxDoes s (s', told)
tx_does s s' told tx.Begin e =
    of_tx s s' told (tx_made (noticed false (tx_ring s) s.memory) tx.Fetch s) e
    (record { layout_stays = refl; used_stays = refl; journal_stays = refl })
tx_does s s' told tx.Fetch e = tx_fetch s s' told (tx_after_fetch s.queue (found (tx_ring s) s.memory).0) e
tx_does s s' told tx.NoticesOn e =
    of_tx s s' told (tx_made (noticed true (tx_ring s) s.memory) tx.FetchAgain s) e
    (record { layout_stays = refl; used_stays = refl; journal_stays = refl })
tx_does s s' told tx.FetchAgain e = tx_fetch s s' told (tx_after_second s.queue (found (tx_ring s) s.memory).0) e
tx_does s s' told (tx.NoticesOff fault) e =
    of_tx s s' told (tx_made (noticed false (tx_ring s) s.memory) (tx_after_notices s.queue fault) s) e
    (record { layout_stays = refl; used_stays = refl; journal_stays = refl })
tx_does s s' told tx.Copy e = tx_copy s s' told s.turn.chains e
tx_does s s' told tx.Give e = tx_give s s' told s.turn.held e
tx_does s s' told (tx.Publish end) e = tx_publish s s' told end (nat_eq (done_in s.queue) 0) refl e
tx_does s s' told (tx.Ended end) e = cc

-- Receive.

abbrev RxDoes : RxState → RxState × Act → Type 0
RxDoes s y = PublishesAt y.1 (record {
  queue = s.queue;
  memory = s.memory;
  told = y.1;
  queue_then = y.0.queue;
  memory_then = y.0.memory;
})

of_rx :
    (s s' : RxState) (told : Act) (x : RxState × Act)
    → Some x ≡ Some (s', told) → RxDoes s x → RxDoes s (s', told)
of_rx s s' told x e d =
    let P : RxState × Act → Type 0 = λ y. RxDoes s y in
    subst P (some_is x (s', told) e) d

rx_fetch :
    (s s' : RxState) (told : Act) (b : Bool) (st : RxStage)
    → Some (rx_made (rewinding b (fetches (rx_ring s) s.memory)) st s) ≡ Some (s', told) → RxDoes s (s', told)
rx_fetch s s' told true st e =
    let f = found (rx_ring s) s.memory in
    of_rx s s' told (rx_made (rewinding true (fetches (rx_ring s) s.memory)) st s) e
    (rewound_nothing s.queue.positions.next f.0 f.1 (rx_ring s) s.memory)
rx_fetch s s' told false st e =
    let f = found (rx_ring s) s.memory in
    of_rx s s' told (rx_made (rewinding false (fetches (rx_ring s) s.memory)) st s) e
    (fetched_nothing s.queue.positions.next f.0 f.1 (rx_ring s) s.memory)

all_done_journal : (ds : List Done) (p : Positions) → (with_all_done ds p).journal ≡ p.journal
all_done_journal [] p = refl
all_done_journal (d ∷ ds) p = all_done_journal ds (with_done d.head d.len p)

rx_copy :
    (s s' : RxState) (told : Act) (frame : FrameValue) (b : Bool)
    → (elim (if b then Some (copied_made frame s) else None) as (λ (k : Option Made). Option (RxState × Act)) [
      | None ↦ None
      | Some m ↦
          let next = rx_made m rx.Out s in
          Some (record next.0 { turn = record next.0.turn { handled = s.turn.handled + length s.turn.chains } }, next.1)
    ]) ≡ Some (s', told)
    → RxDoes s (s', told)
rx_copy s s' told frame false e = cc
rx_copy s s' told frame true e =
    let next = rx_made (copied_made frame s) rx.Out s in
    let x : RxState × Act =
    (record next.0 { turn = record next.0.turn { handled = s.turn.handled + length s.turn.chains } }, next.1) in
    of_rx s s' told x e (record {
      layout_stays = refl;
      used_stays = refl;
      journal_stays = all_done_journal (shares s.turn.chains (need_of s.turn.header frame)) s.queue.positions;
    })

rx_hand : (s s' : RxState) (told : Act) (h : Hand) → rx_hands h s ≡ Some (s', told) → RxDoes s (s', told)
rx_hand s s' told (hand.Got frame) e =
    let x : RxState × Act = (record s { turn = record s.turn { held = Some frame; stage = rx.Fetch } }, act.Hand) in
    of_rx s s' told x e (record { layout_stays = refl; used_stays = refl; journal_stays = refl })
rx_hand s s' told (hand.NotReady place) e =
    let x : RxState × Act = (record s { turn = rx_at (rx_closing Idle s.queue) s.turn }, act.NotReady) in
    of_rx s s' told x e (record { layout_stays = refl; used_stays = refl; journal_stays = refl })
rx_hand s s' told hand.Off e = cc
rx_hand s s' told hand.NoMemory e = cc

rx_publish :
    (s s' : RxState) (told : Act) (end : Option End) (b : Bool)
    → nat_eq (done_in s.queue) 0 ≡ b
    → (elim (if b then None else Some (received_made s)) as (λ (k : Option Made). Option (RxState × Act)) [
      | None ↦ None
      | Some m ↦ Some (rx_made m (elim end [ None ↦ rx.Hand | Some e ↦ rx.Ended e ]) s)
    ]) ≡ Some (s', told)
    → RxDoes s (s', told)
rx_publish s s' told end true is e = cc
rx_publish s s' told end false is e =
    of_rx s s' told (rx_made (received_made s) (elim end [ None ↦ rx.Hand | Some e ↦ rx.Ended e ]) s) e
    (record {
      some = positive (done_in s.queue) is;
      counted = refl;
      queue_is = refl;
      written = refl;
      called = refl;
    })

rx_with_frame :
    (s s' : RxState) (told : Act) (st : RxStage) (frame : FrameValue)
    → rx_with st frame s ≡ Some (s', told) → RxDoes s (s', told)
rx_with_frame s s' told rx.Begin frame e = cc
rx_with_frame s s' told rx.Hand frame e = cc
rx_with_frame s s' told rx.Fetch frame e =
    let way = rx_way (need_of s.turn.header frame) s in
    rx_fetch s s' told (rx_rewinds false way) (rx_after_fetch way) e
rx_with_frame s s' told rx.NoticesOn frame e = cc
rx_with_frame s s' told rx.FetchAgain frame e =
    let way = rx_way (need_of s.turn.header frame) s in
    rx_fetch s s' told (rx_rewinds true way) (rx_after_second (need_of s.turn.header frame) s.turn.chains way) e
rx_with_frame s s' told (rx.NoticesOff way) frame e = cc
rx_with_frame s s' told rx.Copy frame e =
    rx_copy s s' told frame (nat_le (need_of s.turn.header frame) (room_in s.turn.chains)) e
rx_with_frame s s' told rx.Out frame e =
    of_rx s s' told (rx_outs (need_of s.turn.header frame) frame s) e
    (record { layout_stays = refl; used_stays = refl; journal_stays = refl })
rx_with_frame s s' told (rx.Discard had) frame e =
    of_rx s s' told (rx_outs 0 frame s) e (record { layout_stays = refl; used_stays = refl; journal_stays = refl })
rx_with_frame s s' told (rx.PutBack end) frame e =
    of_rx s s' told (rx_puts_back end s) e (record { layout_stays = refl; used_stays = refl; journal_stays = refl })
rx_with_frame s s' told (rx.Publish end) frame e = cc
rx_with_frame s s' told (rx.Ended end) frame e = cc

rx_held :
    (s s' : RxState) (told : Act) (st : RxStage) (held : Option FrameValue)
    → s.turn.stage ≡ st → rx_in_hand held s ≡ Some (s', told) → RxDoes s (s', told)
rx_held s s' told st None at e = cc
rx_held s s' told st (Some frame) at e = rx_with_frame s s' told s.turn.stage frame e

rx_does :
    (s s' : RxState) (told : Act) (h : Hand) (st : RxStage)
    → s.turn.stage ≡ st → rx_next st h s ≡ Some (s', told) → RxDoes s (s', told)
rx_does s s' told h rx.Begin at e =
    of_rx s s' told (rx_made (noticed false (rx_ring s) s.memory) rx.Hand s) e
    (record { layout_stays = refl; used_stays = refl; journal_stays = refl })
rx_does s s' told h rx.Hand at e = rx_hand s s' told h e
rx_does s s' told h rx.Fetch at e = rx_held s s' told rx.Fetch s.turn.held at e
rx_does s s' told h rx.NoticesOn at e =
    of_rx s s' told (rx_made (noticed true (rx_ring s) s.memory) rx.FetchAgain s) e
    (record { layout_stays = refl; used_stays = refl; journal_stays = refl })
rx_does s s' told h rx.FetchAgain at e = rx_held s s' told rx.FetchAgain s.turn.held at e
rx_does s s' told h (rx.NoticesOff way) at e =
    of_rx s s' told (rx_made (noticed false (rx_ring s) s.memory) (stage_of way) s) e
    (record { layout_stays = refl; used_stays = refl; journal_stays = refl })
rx_does s s' told h rx.Copy at e = rx_held s s' told rx.Copy s.turn.held at e
rx_does s s' told h rx.Out at e = rx_held s s' told rx.Out s.turn.held at e
rx_does s s' told h (rx.Discard had) at e = rx_held s s' told (rx.Discard had) s.turn.held at e
rx_does s s' told h (rx.PutBack end) at e = rx_held s s' told (rx.PutBack end) s.turn.held at e
rx_does s s' told h (rx.Publish end) at e = rx_publish s s' told end (nat_eq (done_in s.queue) 0) refl e
rx_does s s' told h (rx.Ended end) at e = cc

-- Runs.

same : (q q' : Queue) → q' ≡ q → TurnPublishes q q' []
same q q' e = record {
  each = tt;
  layout = ap (λ k. k.layout) e;
  journal = ap (λ k. k.positions.journal) e ∙ sym (append-nil q.positions.journal);
  used = λ h. ap (λ k. k.used) e ∙ none_more q.used h;
}

pub transmit_publishes :
    (t t' : TxTurn) (q q' : Queue) (ms : List Moment) → IsTxRun t q ms t' q' → TurnPublishes q q' (map of_transmit ms)
transmit_publishes t t' q q' [] run = same q q' run.1
transmit_publishes t t' q q' (m ∷ ms) run =
    let one = tx_does m.before m.after m.told m.before.turn.stage run.2 in
    let all = more (of_transmit m) q' (map of_transmit ms) one
    (transmit_publishes m.after.turn t' m.after.queue q' ms run.3) in
    let P : Queue → Type 0 = λ k. TurnPublishes k q' (map of_transmit (m ∷ ms)) in
    subst P run.1 all

pub receive_publishes :
    (t t' : RxTurn) (q q' : Queue) (ms : List RxMoment) → IsRxRun t q ms t' q' → TurnPublishes q q' (map of_receive ms)
receive_publishes t t' q q' [] run = same q q' run.1
receive_publishes t t' q q' (m ∷ ms) run =
    let one = rx_does m.before m.after m.told m.hand m.before.turn.stage refl run.2 in
    let all = more (of_receive m) q' (map of_receive ms) one
    (receive_publishes m.after.turn t' m.after.queue q' ms run.3) in
    let P : Queue → Type 0 = λ k. TurnPublishes k q' (map of_receive (m ∷ ms)) in
    subst P run.1 all
