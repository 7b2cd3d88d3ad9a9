-- How a transmit turn and its ring stand after each step, and that the order of positions is kept.
use Rattle.std.proofs.Common.{◌≡◌, ℕ, ◌+◌, ◌-◌, ◌^◌, ◌<◌, Bool, true, false, List, [], ◌∷◌, ◌++◌, length, Option, None, Some, if◌then◌else◌, nat_le, nat_lt, nat_eq, refl, sym, ap, ◌∙◌, subst, arith}
use Rattle.std.proofs.lemmas.List.{length-append}
use Rattle.vring_split.specs.declared.fault.RingFault.{RingFault}
use Rattle.vring_split.specs.declared.segment.Segment.{Segment}
use Rattle.vring_walk.specs.declared.walk.Fetched.{Fetched}
use Rattle.vring_walk.specs.declared.walk.Fetched.TheVariants.{Chain, Nothing, Bad, Crowded}
use Rattle.vhost_queue.specs.Positions.{Positions, IsInOrder}
use Rattle.vhost_queue.specs.Queue.{Queue}
use Rattle.vhost_queue.specs.Laws.{ServesInOrder, RewindsInOrder, DoneInOrder, PublishedInOrder}
use Rattle.tap_frame.specs.declared.reading.BadFrame.{BadFrame}
use Rattle.tap_frame.specs.Frame.{FrameValue}
use Rattle.tap_ledger.specs.declared.act.Act.{Act}
use Rattle.tap_ledger.specs.declared.act.Act.TheVariants as act
use Rattle.tap_ledger.specs.Host.{with_given}
use Rattle.vring_turns.specs.declared.end.End.{End}
use Rattle.vring_turns.specs.declared.end.End.TheVariants as end
use Rattle.vring_turns.specs.declared.stage.TxStage.{TxStage}
use Rattle.vring_turns.specs.declared.stage.TxStage.TheVariants as tx
use Rattle.vring_turns.specs.Ring.{Gathered, Ring, Made, joined, found, fetches, noticed, done_in, first_position}
use Rattle.vring_turns.specs.Turn.{is_enough}
use Rattle.vring_turns.specs.TransmitBytes.{bytes_of_chain, refusal_of}
use Rattle.vring_turns.specs.TxTurn.{TxTurn, TxState, tx_ring, tx_made, tx_done, tx_judged, tx_copies, tx_gives, tx_after_packet, tx_after_fetch, tx_after_second, tx_after_notices, tx_next}
use Rattle.vring_turns.specs.TxRun.{Moment, IsTxRun}
use Rattle.vring_turns.specs.Standing.{HasTxCause, TxStandsAt, TxStands, TransmitTurnsBegin}
use Rattle.vring_turns.proofs.TxRuns.{some_is, published_made}

-- that the calls on a queue keep the order of its positions
pub record OrderLaws : Type 0 where
  pub serves : ServesInOrder
  pub rewinds : RewindsInOrder
  pub done : DoneInOrder
  pub published : PublishedInOrder

pub order_laws : ServesInOrder → RewindsInOrder → DoneInOrder → PublishedInOrder → OrderLaws
order_laws serves rewinds done published =
    record { serves = serves; rewinds = rewinds; done = done; published = published }

-- What steps of both kinds have in common.

pub zero_of : (n : ℕ) → nat_eq n 0 ≡ true → n ≡ 0
zero_of n e = grind arith

-- positions in order stay so
abbrev pub StayInOrder : Positions → Positions → Type 0
StayInOrder p p' = (base start : ℕ) → IsInOrder base start p → IsInOrder base start p'

-- as many chains are gathered as the queue says
abbrev pub IsCounted : Ring → Type 0
IsCounted r = r.queue.positions.gathered ≡ length r.chains

pub joined_counted : (f : Fetched) (segments : List Segment) (r : Ring) → IsCounted r → IsCounted (joined f segments r)
joined_counted (Chain head) segments r h =
    omega (arith, h, length-append r.chains (record { head = head; segments = segments } ∷ []))
joined_counted Nothing segments r h = h
joined_counted Crowded segments r h = h
joined_counted (Bad fault) segments r h = h

pub joined_in_order :
    OrderLaws → (f : Fetched) (segments : List Segment) (r : Ring)
    → r.queue.positions.gathered + done_in r.queue < 2 ^ 16
    → StayInOrder r.queue.positions (joined f segments r).queue.positions
joined_in_order laws (Chain head) segments r h base start o = laws.serves base start r.queue.positions h o
joined_in_order laws Nothing segments r h base start o = o
joined_in_order laws Crowded segments r h base start o = o
joined_in_order laws (Bad fault) segments r h base start o = o

-- Stages.

tx_closing_stands :
    (b : Bool) (e : End) (t : TxTurn) (q : Queue)
    → nat_eq (done_in q) 0 ≡ b → t.chains ≡ [] → HasTxCause e t q
    → TxStandsAt (if b then tx.Ended e else tx.Publish (Some e)) t q
tx_closing_stands true e t q is none cause = (none, cause, zero_of (done_in q) is)
tx_closing_stands false e t q is none cause = (none, cause)

pub few : (n : ℕ) → nat_le 64 n ≡ false → n < 64
few n e = grind arith

tx_packet_stands :
    (a b : Bool) (t : TxTurn) (q : Queue)
    → is_enough t.packets t.bytes t.packets ≡ a → nat_le 64 (done_in q) ≡ b → t.chains ≡ []
    → TxStandsAt (if a then (if nat_eq (done_in q) 0 then tx.Ended end.Again else tx.Publish (Some end.Again))
    else (if b then tx.Publish None else tx.Fetch)) t q
tx_packet_stands true b t q enough many none = tx_closing_stands (nat_eq (done_in q) 0) end.Again t q refl none enough
tx_packet_stands false true t q enough many none = none
tx_packet_stands false false t q enough many none = (none, few (done_in q) many)

-- One step.

-- the turn stands rightly, and its positions are in order as they were
record TxKeeps (p : Positions) (t : TxTurn) (q : Queue) : Type 0 where
  pub stands : TxStands t q
  pub order : StayInOrder p q.positions

of_answer :
    (s s' : TxState) (told : Act) (x : TxState × Act)
    → Some x ≡ Some (s', told) → TxKeeps s.queue.positions x.0.turn x.0.queue
    → TxKeeps s.queue.positions s'.turn s'.queue
of_answer s s' told x e d =
    let P : TxState → Type 0 = λ u. TxKeeps s.queue.positions u.turn u.queue in
    subst P (ap (λ y. y.0) (some_is x (s', told) e)) d

-- a step that leaves the positions and the chains
calm :
    (s s' : TxState) (told : Act) (x : TxState × Act)
    → Some x ≡ Some (s', told) → TxStands x.0.turn x.0.queue → x.0.queue.positions ≡ s.queue.positions
    → TxKeeps s.queue.positions s'.turn s'.queue
calm s s' told x e stands same =
    let order : StayInOrder s.queue.positions x.0.queue.positions =
    λ base start o. subst (IsInOrder base start) (sym same) o in
    of_answer s s' told x e (record { stands = stands; order = order })

-- what the ring is after a fetch
fetched :
    OrderLaws → (s : TxState) (stage : TxStage) → s.queue.positions.gathered ≡ length s.turn.chains → s.turn.chains ≡ []
    → done_in s.queue < 64
    → TxStandsAt stage (tx_made (fetches (tx_ring s) s.memory) stage s).0.turn (fetches (tx_ring s) s.memory).ring.queue
    → TxKeeps s.queue.positions (tx_made (fetches (tx_ring s) s.memory) stage s).0.turn
    (fetches (tx_ring s) s.memory).ring.queue
fetched laws s stage gathered none done at =
    let f = found (tx_ring s) s.memory in
    let n : length s.turn.chains ≡ 0 = ap length none in
    record {
      stands = record { gathered = joined_counted f.0 f.1 (tx_ring s) gathered; stage = at };
      order = joined_in_order laws f.0 f.1 (tx_ring s) (omega (arith, gathered, n));
    }

-- the chain that was fetched is the only one
one_more : (chains : List Gathered) (c : Gathered) → chains ≡ [] → length (chains ++ c ∷ []) ≡ 1
one_more chains c none = omega (arith, length-append chains (c ∷ []), ap length none)

-- the stage after a fetch that found this
first_at :
    (stage : TxStage) (f : Fetched) (segments : List Segment) (s : TxState)
    → s.turn.chains ≡ [] → done_in s.queue < 64 → tx_after_fetch s.queue f ≡ Some stage
    → TxStandsAt stage (record s.turn { chains = (joined f segments (tx_ring s)).chains; stage = stage })
    (joined f segments (tx_ring s)).queue
first_at stage (Chain head) segments s none done e =
    let c : Gathered = record { head = head; segments = segments } in
    let q = (joined (Chain head) segments (tx_ring s)).queue in
    let P : TxStage → Type 0 = λ k. TxStandsAt k (record s.turn { chains = s.turn.chains ++ c ∷ []; stage = k }) q in
    subst P (some_is tx.Copy stage e) (one_more s.turn.chains c none)
first_at stage Nothing segments s none done e =
    let P : TxStage → Type 0 = λ k. TxStandsAt k (record s.turn { stage = k }) s.queue in
    subst P (some_is tx.NoticesOn stage e) (none, done)
first_at stage (Bad fault) segments s none done e =
    let q : Queue = record s.queue { stopped = Some fault } in
    let P : TxStage → Type 0 = λ k. TxStandsAt k (record s.turn { stage = k }) q in
    let b = nat_eq (done_in s.queue) 0 in
    let st : TxStage = if b then tx.Ended (end.Stopped fault) else tx.Publish (Some (end.Stopped fault)) in
    subst P (some_is st stage e)
    (tx_closing_stands b (end.Stopped fault) (record s.turn { stage = st }) q refl none refl)
first_at stage Crowded segments s none done e = cc

second_at :
    (stage : TxStage) (f : Fetched) (segments : List Segment) (s : TxState)
    → s.turn.chains ≡ [] → done_in s.queue < 64 → tx_after_second s.queue f ≡ Some stage
    → TxStandsAt stage (record s.turn { chains = (joined f segments (tx_ring s)).chains; stage = stage })
    (joined f segments (tx_ring s)).queue
second_at stage (Chain head) segments s none done e =
    let c : Gathered = record { head = head; segments = segments } in
    let q = (joined (Chain head) segments (tx_ring s)).queue in
    let P : TxStage → Type 0 = λ k. TxStandsAt k (record s.turn { chains = s.turn.chains ++ c ∷ []; stage = k }) q in
    subst P (some_is (tx.NoticesOff None) stage e) (one_more s.turn.chains c none)
second_at stage Nothing segments s none done e =
    let P : TxStage → Type 0 = λ k. TxStandsAt k (record s.turn { stage = k }) s.queue in
    let b = nat_eq (done_in s.queue) 0 in
    let st : TxStage = if b then tx.Ended end.Idle else tx.Publish (Some end.Idle) in
    subst P (some_is st stage e) (tx_closing_stands b end.Idle (record s.turn { stage = st }) s.queue refl none tt)
second_at stage (Bad fault) segments s none done e =
    let q : Queue = record s.queue { stopped = Some fault } in
    let P : TxStage → Type 0 = λ k. TxStandsAt k (record s.turn { stage = k }) q in
    subst P (some_is (tx.NoticesOff (Some fault)) stage e) (none, refl)
second_at stage Crowded segments s none done e = cc

fetch_keeps :
    OrderLaws → (s s' : TxState) (told : Act) (o : Option TxStage)
    → s.queue.positions.gathered ≡ length s.turn.chains → s.turn.chains ≡ [] → done_in s.queue < 64
    → ((stage : TxStage) → o ≡ Some stage
    → TxStandsAt stage (tx_made (fetches (tx_ring s) s.memory) stage s).0.turn (fetches (tx_ring s) s.memory).ring.queue)
    → (elim o as (λ (k : Option TxStage). Option (TxState × Act)) [
      | None ↦ None
      | Some stage ↦ Some (tx_made (fetches (tx_ring s) s.memory) stage s)
    ]) ≡ Some (s', told)
    → TxKeeps s.queue.positions s'.turn s'.queue
fetch_keeps laws s s' told None gathered none done at e = cc
fetch_keeps laws s s' told (Some stage) gathered none done at e =
    of_answer s s' told (tx_made (fetches (tx_ring s) s.memory) stage s) e
    (fetched laws s stage gathered none done (at stage refl))

notices_stand :
    (fault : Option RingFault) (t u : TxTurn) (q : Queue)
    → u.chains ≡ t.chains → TxStandsAt (tx.NoticesOff fault) t q → TxStandsAt (tx_after_notices q fault) u q
notices_stand None t u q same h = ap length same ∙ h
notices_stand (Some fault) t u q same h =
    tx_closing_stands (nat_eq (done_in q) 0) (end.Stopped fault) u q refl (same ∙ h.0) h.1

-- the chain is done
done_counted : (n : ℕ) (c : Gathered) (cs : List Gathered) → n ≡ length (c ∷ cs) → length (c ∷ cs) ≡ 1 → n - 1 ≡ 0
done_counted n c cs h one = omega (arith, h, one)

judge_keeps :
    OrderLaws → (s s' : TxState) (told : Act) (c : Gathered) (cs : List Gathered) (position : ℕ) (bytes : List ℕ)
    (bad : Option BadFrame)
    → s.queue.positions.gathered ≡ length (c ∷ cs) → length (c ∷ cs) ≡ 1
    → Some (tx_judged position bytes bad (tx_done c s)) ≡ Some (s', told)
    → TxKeeps s.queue.positions s'.turn s'.queue
judge_keeps laws s s' told c cs position bytes (Some bad) gathered one e =
    let u = tx_done c s in
    let some : 0 < s.queue.positions.gathered = omega (arith, gathered, one) in
    of_answer s s' told (tx_judged position bytes (Some bad) u) e (record {
      stands = record {
        gathered = done_counted s.queue.positions.gathered c cs gathered one;
        stage = tx_packet_stands (is_enough u.turn.packets u.turn.bytes u.turn.packets) (nat_le 64 (done_in u.queue))
            (tx_judged position bytes (Some bad) u).0.turn u.queue refl refl refl;
      };
      order = λ base start o. laws.done base start c.head 0 s.queue.positions some o;
    })
judge_keeps laws s s' told c cs position bytes None gathered one e =
    let u = tx_done c s in
    let some : 0 < s.queue.positions.gathered = omega (arith, gathered, one) in
    of_answer s s' told (tx_judged position bytes None u) e (record {
      stands = record {
        gathered = done_counted s.queue.positions.gathered c cs gathered one;
        stage = refl;
      };
      order = λ base start o. laws.done base start c.head 0 s.queue.positions some o;
    })

copy_keeps :
    OrderLaws → (s s' : TxState) (told : Act) (chains : List Gathered)
    → s.queue.positions.gathered ≡ length chains → length chains ≡ 1 → tx_copies chains s ≡ Some (s', told)
    → TxKeeps s.queue.positions s'.turn s'.queue
copy_keeps laws s s' told [] gathered one e = cc
copy_keeps laws s s' told (c ∷ cs) gathered one e =
    let bytes = bytes_of_chain s.turn.header s.memory c in
    judge_keeps laws s s' told c cs (first_position (tx_ring s)) bytes (refusal_of s.turn.header bytes) gathered one e

give_keeps :
    (s s' : TxState) (told : Act) (held : Option FrameValue)
    → s.queue.positions.gathered ≡ length s.turn.chains → s.turn.chains ≡ [] → tx_gives held s ≡ Some (s', told)
    → TxKeeps s.queue.positions s'.turn s'.queue
give_keeps s s' told None gathered none e = cc
give_keeps s s' told (Some frame) gathered none e = room (nat_lt 0 s.host.room) e
  where
    x : TxState
    x = record s {
      turn = record s.turn { held = None; stage = tx_after_packet s.turn s.queue };
      host = with_given frame s.host;
    }

    room :
        (b : Bool)
        → if◌then◌else◌ {A = Option (TxState × Act)} b (Some (x, act.Given frame.name)) None ≡ Some (s', told)
        → TxKeeps s.queue.positions s'.turn s'.queue
    room true e = calm s s' told (x, act.Given frame.name) e (record {
      gathered = gathered;
      stage = tx_packet_stands (is_enough s.turn.packets s.turn.bytes s.turn.packets) (nat_le 64 (done_in s.queue))
          x.turn s.queue refl refl none;
    }) refl
    room false e = cc

published_cause :
    (e : End) (s : TxState) (st : TxStage)
    → HasTxCause e s.turn s.queue → HasTxCause e (record s.turn { stage = st }) (published_made s).ring.queue
published_cause end.Idle s st h = tt
published_cause end.Again s st h = h
published_cause (end.Stopped fault) s st h = h
published_cause (end.Short need had) s st h = h
published_cause end.Off s st h = h
published_cause end.NoMemory s st h = h

publish_stands :
    (o : Option End) (s : TxState) (st : TxStage)
    → st ≡ (elim o [ None ↦ tx.Fetch | Some e ↦ tx.Ended e ]) → TxStandsAt (tx.Publish o) s.turn s.queue
    → TxStandsAt st (record s.turn { stage = st }) (published_made s).ring.queue
publish_stands None s st is h =
    let P : TxStage → Type 0 = λ k. TxStandsAt k (record s.turn { stage = k }) (published_made s).ring.queue in
    let done : done_in (published_made s).ring.queue < 64 = omega arith in
    subst P (sym is) (h, done)
publish_stands (Some e) s st is h =
    let P : TxStage → Type 0 = λ k. TxStandsAt k (record s.turn { stage = k }) (published_made s).ring.queue in
    subst P (sym is) (h.0, published_cause e s (tx.Ended e) h.1, refl)

publish_keeps :
    OrderLaws → (s s' : TxState) (told : Act) (o : Option End) (b : Bool)
    → (elim (if b then None else Some (published_made s)) as (λ (k : Option Made). Option (TxState × Act)) [
      | None ↦ None
      | Some m ↦ Some (tx_made m (elim o [ None ↦ tx.Fetch | Some e ↦ tx.Ended e ]) s)
    ]) ≡ Some (s', told)
    → s.queue.positions.gathered ≡ length s.turn.chains → TxStandsAt (tx.Publish o) s.turn s.queue
    → TxKeeps s.queue.positions s'.turn s'.queue
publish_keeps laws s s' told o true e gathered at = cc
publish_keeps laws s s' told o false e gathered at =
    let st : TxStage = elim o [ None ↦ tx.Fetch | Some e ↦ tx.Ended e ] in
    of_answer s s' told (tx_made (published_made s) st s) e (record {
      stands = record { gathered = gathered; stage = publish_stands o s st refl at };
      order = λ base start h. laws.published base start s.queue.positions h;
    })

step_keeps :
    OrderLaws → (s s' : TxState) (told : Act) (st : TxStage)
    → s.queue.positions.gathered ≡ length s.turn.chains → TxStandsAt st s.turn s.queue → tx_next st s ≡ Some (s', told)
    → TxKeeps s.queue.positions s'.turn s'.queue
step_keeps laws s s' told tx.Begin gathered at e =
    calm s s' told (tx_made (noticed false (tx_ring s) s.memory) tx.Fetch s) e
    (record { gathered = gathered; stage = at }) refl
step_keeps laws s s' told tx.Fetch gathered at e =
    let f = found (tx_ring s) s.memory in
    fetch_keeps laws s s' told (tx_after_fetch s.queue f.0) gathered at.0 at.1
    (λ stage is. first_at stage f.0 f.1 s at.0 at.1 is) e
step_keeps laws s s' told tx.NoticesOn gathered at e =
    calm s s' told (tx_made (noticed true (tx_ring s) s.memory) tx.FetchAgain s) e
    (record { gathered = gathered; stage = at }) refl
step_keeps laws s s' told tx.FetchAgain gathered at e =
    let f = found (tx_ring s) s.memory in
    fetch_keeps laws s s' told (tx_after_second s.queue f.0) gathered at.0 at.1
    (λ stage is. second_at stage f.0 f.1 s at.0 at.1 is) e
step_keeps laws s s' told (tx.NoticesOff fault) gathered at e =
    let x = tx_made (noticed false (tx_ring s) s.memory) (tx_after_notices s.queue fault) s in
    calm s s' told x e
    (record { gathered = gathered; stage = notices_stand fault s.turn x.0.turn s.queue refl at }) refl
step_keeps laws s s' told tx.Copy gathered at e = copy_keeps laws s s' told s.turn.chains gathered at e
step_keeps laws s s' told tx.Give gathered at e = give_keeps s s' told s.turn.held gathered at e
step_keeps laws s s' told (tx.Publish end) gathered at e =
    publish_keeps laws s s' told end (nat_eq (done_in s.queue) 0) e gathered at
step_keeps laws s s' told (tx.Ended end) gathered at e = cc

-- Runs.

pub begun : TransmitTurnsBegin
begun header first q idle =
    let g : q.positions.gathered ≡ 0 = omega (arith, idle) in
    let d : done_in q < 64 = omega (arith, idle) in
    record { gathered = g; stage = (refl, d) }

run_keeps :
    OrderLaws → (t t' : TxTurn) (q q' : Queue) (ms : List Moment)
    → TxStands t q → IsTxRun t q ms t' q' → TxKeeps q.positions t' q'
run_keeps laws t t' q q' [] h run =
    let P : TxTurn → Type 0 = λ u. TxKeeps q.positions u q' in
    let Q : Queue → Type 0 = λ k. TxKeeps q.positions t k in
    subst P (sym run.0) (subst Q (sym run.1) (record { stands = h; order = λ base start o. o }))
run_keeps laws t t' q q' (m ∷ ms) h run =
    let P : TxTurn → Type 0 = λ u. TxStands u q in
    let Q : Queue → Type 0 = λ k. TxStands m.before.turn k in
    let right : TxStands m.before.turn m.before.queue = subst Q (sym run.1) (subst P (sym run.0) h) in
    let one = step_keeps laws m.before m.after m.told m.before.turn.stage right.gathered right.stage run.2 in
    let rest = run_keeps laws m.after.turn t' m.after.queue q' ms one.stands run.3 in
    let R : Queue → Type 0 = λ k. TxKeeps k.positions t' q' in
    subst R run.1 (record {
      stands = rest.stands;
      order = λ base start o. rest.order base start (one.order base start o);
    })

pub transmit_stands :
    OrderLaws → (t t' : TxTurn) (q q' : Queue) (ms : List Moment) → TxStands t q → IsTxRun t q ms t' q' → TxStands t' q'
transmit_stands laws t t' q q' ms h run = (run_keeps laws t t' q q' ms h run).stands

pub transmit_in_order :
    OrderLaws → (t t' : TxTurn) (q q' : Queue) (ms : List Moment) (base start : ℕ)
    → TxStands t q → IsInOrder base start q.positions → IsTxRun t q ms t' q' → IsInOrder base start q'.positions
transmit_in_order laws t t' q q' ms base start h o run = (run_keeps laws t t' q q' ms h run).order base start o
