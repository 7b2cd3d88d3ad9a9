-- How a receive turn and its ring stand after each step, and that the order of positions is kept.
use Rattle.std.proofs.Common.{◌≡◌, ℕ, ◌+◌, ◌<◌, ◌≤◌, Bool, true, false, List, [], ◌∷◌, length, Option, None, Some, if◌then◌else◌, nat_le, nat_eq, refl, sym, ap, subst, arith}
use Rattle.vhost_queue.specs.Positions.{IsInOrder}
use Rattle.vhost_queue.specs.Queue.{Queue}
use Rattle.tap_frame.specs.Frame.{FrameValue}
use Rattle.tap_ledger.specs.declared.act.Act.{Act}
use Rattle.tap_ledger.specs.declared.act.Act.TheVariants as act
use Rattle.tap_ledger.specs.declared.hand.Hand.{Hand}
use Rattle.tap_ledger.specs.declared.hand.Hand.TheVariants as hand
use Rattle.vring_turns.specs.declared.end.End.{End}
use Rattle.vring_turns.specs.declared.end.End.TheVariants as end
use Rattle.vring_turns.specs.declared.stage.RxStage.{RxStage}
use Rattle.vring_turns.specs.declared.stage.RxStage.TheVariants as rx
use Rattle.vring_turns.specs.Ring.{Made, room_in, noticed, done_in, with_all_done}
use Rattle.vring_turns.specs.Turn.{is_enough}
use Rattle.vring_turns.specs.ReceiveImage.{need_of, shares}
use Rattle.vring_turns.specs.RxTurn.{RxTurn, RxState, quota, rx_ring, rx_made, rx_outs, rx_puts_back, rx_hands, rx_with, rx_in_hand, rx_next, stage_of, rx_at, rx_closing}
use Rattle.vring_turns.specs.RxRun.{RxMoment, IsRxRun}
use Rattle.vring_turns.specs.Standing.{HasRxCause, IsGathering, RxStandsAt, RxStands, ReceiveTurnsBegin}
use Rattle.vring_turns.specs.Stage.{need_at}
use Rattle.vring_turns.proofs.RxRuns.{published_made, copied_made}
use Rattle.vring_turns.proofs.Standings.{OrderLaws, IsCounted}
use Rattle.vring_turns.proofs.RxFetches.{length-shares, done_counted, done_in_order, closing_stands, packet_stands, some_quota, same_cause, at_stage, way_stands, of_answer, calm, fetch_keeps, RxKeeps}

-- The other steps.

hand_keeps :
    (s s' : RxState) (told : Act) (h : Hand)
    → 0 < s.turn.header → IsCounted (rx_ring s) → RxStandsAt rx.Hand s.turn s.queue → rx_hands h s ≡ Some (s', told)
    → RxKeeps s.queue.positions s'.turn s'.queue
hand_keeps s s' told (hand.Got frame) header g at e =
    let u : RxTurn = record s.turn { held = Some frame; stage = rx.Fetch } in
    let x : RxState × Act = (record s { turn = u }, act.Hand) in
    let n : length s.turn.chains ≡ 0 = ap length at.0 in
    let m : room_in s.turn.chains ≡ 0 = ap room_in at.0 in
    let some = some_quota s.turn.mergeable in
    let fewer : length s.turn.chains < quota s.turn.mergeable = omega (arith, n, some) in
    let short : room_in s.turn.chains < s.turn.header + frame.mark = omega (arith, m, header) in
    let gathering : IsGathering u s.queue = record { fewer = fewer; short = short; few_done = at.1 } in
    calm s s' told x e (record { header = header; gathered = g; stage = gathering }) refl
hand_keeps s s' told (hand.NotReady place) header g at e =
    let x : RxState × Act = (record s { turn = rx_at (rx_closing end.Idle s.queue) s.turn }, act.NotReady) in
    calm s s' told x e (record {
      header = header;
      gathered = g;
      stage = closing_stands (nat_eq (done_in s.queue) 0) end.Idle x.0.turn s.queue refl at.0 tt;
    }) refl
hand_keeps s s' told hand.Off header g at e = cc
hand_keeps s s' told hand.NoMemory header g at e = cc

copy_keeps :
    OrderLaws → (s s' : RxState) (told : Act) (frame : FrameValue) (b : Bool)
    → 0 < s.turn.header → IsCounted (rx_ring s)
    → (elim (if b then Some (copied_made frame s) else None) as (λ (k : Option Made). Option (RxState × Act)) [
      | None ↦ None
      | Some m ↦
          let next = rx_made m rx.Out s in
          Some (record next.0 { turn = record next.0.turn { handled = s.turn.handled + length s.turn.chains } }, next.1)
    ]) ≡ Some (s', told)
    → RxKeeps s.queue.positions s'.turn s'.queue
copy_keeps laws s s' told frame false header g e = cc
copy_keeps laws s s' told frame true header g e =
    let next = rx_made (copied_made frame s) rx.Out s in
    let x : RxState × Act =
    (record next.0 { turn = record next.0.turn { handled = s.turn.handled + length s.turn.chains } }, next.1) in
    let ds = shares s.turn.chains (need_of s.turn.header frame) in
    let n = length-shares s.turn.chains (need_of s.turn.header frame) in
    let none : (with_all_done ds s.queue.positions).gathered ≡ 0 =
    omega (arith, done_counted ds s.queue.positions, n, g) in
    let le : length ds ≤ s.queue.positions.gathered = omega (arith, n, g) in
    of_answer s s' told x e (record {
      stands = record { header = header; gathered = none; stage = refl };
      order = done_in_order laws ds s.queue.positions le;
    })

out_keeps :
    (s s' : RxState) (told : Act) (n : ℕ) (frame : FrameValue)
    → 0 < s.turn.header → IsCounted (rx_ring s) → s.turn.chains ≡ [] → Some (rx_outs n frame s) ≡ Some (s', told)
    → RxKeeps s.queue.positions s'.turn s'.queue
out_keeps s s' told n frame header g none e =
    let u = (rx_outs n frame s).0.turn in
    calm s s' told (rx_outs n frame s) e (record {
      header = header;
      gathered = g;
      stage = packet_stands (is_enough u.packets u.bytes u.handled) (nat_le 64 (done_in s.queue))
          u s.queue refl refl none;
    }) refl

back_keeps :
    (s s' : RxState) (told : Act) (e : End)
    → 0 < s.turn.header → IsCounted (rx_ring s) → RxStandsAt (rx.PutBack e) s.turn s.queue
    → Some (rx_puts_back e s) ≡ Some (s', told)
    → RxKeeps s.queue.positions s'.turn s'.queue
back_keeps s s' told e header g at is =
    let u = (rx_puts_back e s).0.turn in
    calm s s' told (rx_puts_back e s) is (record {
      header = header;
      gathered = g;
      stage = closing_stands (nat_eq (done_in s.queue) 0) e u s.queue refl at.0
          (same_cause e s.turn s.turn.chains None u.stage s.queue at.1);
    }) refl

published_cause :
    (e : End) (s : RxState) (st : RxStage)
    → HasRxCause e s.turn s.queue → HasRxCause e (record s.turn { stage = st }) (published_made s).ring.queue
published_cause end.Idle s st h = tt
published_cause (end.Short need had) s st h = h
published_cause end.Again s st h = h
published_cause (end.Stopped fault) s st h = h
published_cause end.Off s st h = h
published_cause end.NoMemory s st h = h

publish_stands :
    (o : Option End) (s : RxState) (st : RxStage)
    → st ≡ (elim o [ None ↦ rx.Hand | Some e ↦ rx.Ended e ]) → RxStandsAt (rx.Publish o) s.turn s.queue
    → RxStandsAt st (record s.turn { stage = st }) (published_made s).ring.queue
publish_stands None s st is h =
    let P : RxStage → Type 0 = λ k. RxStandsAt k (record s.turn { stage = k }) (published_made s).ring.queue in
    let done : done_in (published_made s).ring.queue < 64 = omega arith in
    subst P (sym is) (h, done)
publish_stands (Some e) s st is h =
    let P : RxStage → Type 0 = λ k. RxStandsAt k (record s.turn { stage = k }) (published_made s).ring.queue in
    subst P (sym is) (h.0, published_cause e s (rx.Ended e) h.1, refl)

publish_keeps :
    OrderLaws → (s s' : RxState) (told : Act) (o : Option End) (b : Bool)
    → 0 < s.turn.header → IsCounted (rx_ring s) → RxStandsAt (rx.Publish o) s.turn s.queue
    → (elim (if b then None else Some (published_made s)) as (λ (k : Option Made). Option (RxState × Act)) [
      | None ↦ None
      | Some m ↦ Some (rx_made m (elim o [ None ↦ rx.Hand | Some e ↦ rx.Ended e ]) s)
    ]) ≡ Some (s', told)
    → RxKeeps s.queue.positions s'.turn s'.queue
publish_keeps laws s s' told o true header g at e = cc
publish_keeps laws s s' told o false header g at e =
    let st : RxStage = elim o [ None ↦ rx.Hand | Some e ↦ rx.Ended e ] in
    of_answer s s' told (rx_made (published_made s) st s) e (record {
      stands = record { header = header; gathered = g; stage = publish_stands o s st refl at };
      order = λ base start h. laws.published base start s.queue.positions h;
    })

with_keeps :
    OrderLaws → (s s' : RxState) (told : Act) (st : RxStage) (frame : FrameValue)
    → 0 < s.turn.header → IsCounted (rx_ring s) → RxStandsAt st s.turn s.queue
    → s.turn.held ≡ Some frame → rx_with st frame s ≡ Some (s', told)
    → RxKeeps s.queue.positions s'.turn s'.queue
with_keeps laws s s' told rx.Begin frame header g at held e = cc
with_keeps laws s s' told rx.Hand frame header g at held e = cc
with_keeps laws s s' told rx.Fetch frame header g at held e =
    fetch_keeps laws false s s' told (need_of s.turn.header frame) header g at
    (ap (λ o. need_at s.turn.header o) held) e
with_keeps laws s s' told rx.NoticesOn frame header g at held e = cc
with_keeps laws s s' told rx.FetchAgain frame header g at held e =
    fetch_keeps laws true s s' told (need_of s.turn.header frame) header g at
    (ap (λ o. need_at s.turn.header o) held) e
with_keeps laws s s' told (rx.NoticesOff way) frame header g at held e = cc
with_keeps laws s s' told rx.Copy frame header g at held e =
    copy_keeps laws s s' told frame (nat_le (need_of s.turn.header frame) (room_in s.turn.chains)) header g e
with_keeps laws s s' told rx.Out frame header g at held e =
    out_keeps s s' told (need_of s.turn.header frame) frame header g at e
with_keeps laws s s' told (rx.Discard had) frame header g at held e = out_keeps s s' told 0 frame header g at e
with_keeps laws s s' told (rx.PutBack end) frame header g at held e = back_keeps s s' told end header g at e
with_keeps laws s s' told (rx.Publish end) frame header g at held e = cc
with_keeps laws s s' told (rx.Ended end) frame header g at held e = cc

held_keeps :
    OrderLaws → (s s' : RxState) (told : Act) (st : RxStage) (held : Option FrameValue)
    → 0 < s.turn.header → IsCounted (rx_ring s) → RxStandsAt st s.turn s.queue
    → s.turn.stage ≡ st → s.turn.held ≡ held → rx_in_hand held s ≡ Some (s', told)
    → RxKeeps s.queue.positions s'.turn s'.queue
held_keeps laws s s' told st None header g at is held e = cc
held_keeps laws s s' told st (Some frame) header g at is held e =
    let Q : RxStage → Type 0 = λ k. rx_with k frame s ≡ Some (s', told) in
    with_keeps laws s s' told st frame header g at held (subst Q is e)

step_keeps :
    OrderLaws → (s s' : RxState) (told : Act) (h : Hand) (st : RxStage)
    → 0 < s.turn.header → IsCounted (rx_ring s) → RxStandsAt st s.turn s.queue
    → s.turn.stage ≡ st → rx_next st h s ≡ Some (s', told)
    → RxKeeps s.queue.positions s'.turn s'.queue
step_keeps laws s s' told h rx.Begin header g at is e =
    calm s s' told (rx_made (noticed false (rx_ring s) s.memory) rx.Hand s) e
    (record { header = header; gathered = g; stage = at }) refl
step_keeps laws s s' told h rx.Hand header g at is e = hand_keeps s s' told h header g at e
step_keeps laws s s' told h rx.Fetch header g at is e =
    held_keeps laws s s' told rx.Fetch s.turn.held header g at is refl e
step_keeps laws s s' told h rx.NoticesOn header g at is e =
    calm s s' told (rx_made (noticed true (rx_ring s) s.memory) rx.FetchAgain s) e
    (record { header = header; gathered = g; stage = at_stage s.turn s.queue rx.FetchAgain at }) refl
step_keeps laws s s' told h rx.FetchAgain header g at is e =
    held_keeps laws s s' told rx.FetchAgain s.turn.held header g at is refl e
step_keeps laws s s' told h (rx.NoticesOff way) header g at is e =
    calm s s' told (rx_made (noticed false (rx_ring s) s.memory) (stage_of way) s) e
    (record { header = header; gathered = g; stage = way_stands way s.turn s.queue at }) refl
step_keeps laws s s' told h rx.Copy header g at is e =
    held_keeps laws s s' told rx.Copy s.turn.held header g at is refl e
step_keeps laws s s' told h rx.Out header g at is e =
    held_keeps laws s s' told rx.Out s.turn.held header g at is refl e
step_keeps laws s s' told h (rx.Discard had) header g at is e =
    held_keeps laws s s' told (rx.Discard had) s.turn.held header g at is refl e
step_keeps laws s s' told h (rx.PutBack end) header g at is e =
    held_keeps laws s s' told (rx.PutBack end) s.turn.held header g at is refl e
step_keeps laws s s' told h (rx.Publish end) header g at is e =
    publish_keeps laws s s' told end (nat_eq (done_in s.queue) 0) header g at e
step_keeps laws s s' told h (rx.Ended end) header g at is e = cc

-- Runs.

pub begun : ReceiveTurnsBegin
begun mergeable header q some idle =
    let g : q.positions.gathered ≡ 0 = omega (arith, idle) in
    let d : done_in q < 64 = omega (arith, idle) in
    record { header = some; gathered = g; stage = (refl, d) }

run_keeps :
    OrderLaws → (t t' : RxTurn) (q q' : Queue) (ms : List RxMoment)
    → RxStands t q → IsRxRun t q ms t' q' → RxKeeps q.positions t' q'
run_keeps laws t t' q q' [] h run =
    let P : RxTurn → Type 0 = λ u. RxKeeps q.positions u q' in
    let Q : Queue → Type 0 = λ k. RxKeeps q.positions t k in
    subst P (sym run.0) (subst Q (sym run.1) (record { stands = h; order = λ base start o. o }))
run_keeps laws t t' q q' (m ∷ ms) h run =
    let P : RxTurn → Type 0 = λ u. RxStands u q in
    let Q : Queue → Type 0 = λ k. RxStands m.before.turn k in
    let right : RxStands m.before.turn m.before.queue = subst Q (sym run.1) (subst P (sym run.0) h) in
    let one = step_keeps laws m.before m.after m.told m.hand m.before.turn.stage right.header right.gathered right.stage
    refl run.2 in
    let rest = run_keeps laws m.after.turn t' m.after.queue q' ms one.stands run.3 in
    let R : Queue → Type 0 = λ k. RxKeeps k.positions t' q' in
    subst R run.1 (record {
      stands = rest.stands;
      order = λ base start o. rest.order base start (one.order base start o);
    })

pub receive_stands :
    OrderLaws → (t t' : RxTurn) (q q' : Queue) (ms : List RxMoment)
    → RxStands t q → IsRxRun t q ms t' q' → RxStands t' q'
receive_stands laws t t' q q' ms h run = (run_keeps laws t t' q q' ms h run).stands

pub receive_in_order :
    OrderLaws → (t t' : RxTurn) (q q' : Queue) (ms : List RxMoment) (base start : ℕ)
    → RxStands t q → IsInOrder base start q.positions → IsRxRun t q ms t' q' → IsInOrder base start q'.positions
receive_in_order laws t t' q q' ms base start h o run = (run_keeps laws t t' q q' ms h run).order base start o
