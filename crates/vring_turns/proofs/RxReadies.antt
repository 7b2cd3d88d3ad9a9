-- A receive turn has ready what its next step needs, and there is one until it is over.
use Rattle.std.proofs.Common.{◌≡◌, ℕ, ◌+◌, ◌<◌, ◌≤◌, Bool, true, false, List, [], ◌∷◌, length, Option, None, Some, is_some, if◌then◌else◌, nat_le, nat_eq, refl, sym, ap, ◌∙◌, subst, arith}
use Rattle.std.proofs.lemmas.List.{length-append}
use Rattle.vring_split.specs.declared.segment.Segment.{Segment}
use Rattle.vring_walk.specs.declared.walk.Fetched.{Fetched}
use Rattle.vring_walk.specs.declared.walk.Fetched.TheVariants.{Chain, Nothing, Bad, Crowded}
use Rattle.vhost_queue.specs.Queue.{Queue}
use Rattle.tap_frame.specs.Frame.{FrameValue}
use Rattle.tap_ledger.specs.declared.act.Act.{Act}
use Rattle.tap_ledger.specs.declared.act.Act.TheVariants as act
use Rattle.tap_ledger.specs.declared.hand.Hand.{Hand}
use Rattle.tap_ledger.specs.declared.hand.Hand.TheVariants as hand
use Rattle.vring_turns.specs.declared.end.End.{End}
use Rattle.vring_turns.specs.declared.end.End.TheVariants as end
use Rattle.vring_turns.specs.declared.stage.RxStage.{RxStage}
use Rattle.vring_turns.specs.declared.stage.RxStage.TheVariants as rx
use Rattle.vring_turns.specs.declared.stage.After.{After}
use Rattle.vring_turns.specs.declared.stage.After.TheVariants as after
use Rattle.vring_turns.specs.Ring.{Gathered, Ring, Made, room_in, joined, found, fetches, noticed, done_in}
use Rattle.vring_turns.specs.Turn.{is_enough}
use Rattle.vring_turns.specs.ReceiveImage.{need_of}
use Rattle.vring_turns.specs.Stage.{has_in_hand, need_at, is_asking, copies_at, rx_is_publishing, rx_is_over}
use Rattle.vring_turns.specs.RxTurn.{RxTurn, RxState, quota, goes_on, rx_ring, rx_made, rewinding, rx_rewinds, rx_way, rx_outs, rx_puts_back, rx_hands, rx_with, rx_in_hand, rx_next, stage_of, rx_at, rx_closing}
use Rattle.vring_turns.specs.RxRun.{RxMoment, IsRxRun}
use Rattle.vring_turns.specs.Standing.{RxStands, RxStandsAt, IsGathering}
use Rattle.vring_turns.specs.Ready.{RxReady, is_told, ReceiveTurnsBeginReady, ReceiveTurnsGoOn}
use Rattle.vring_turns.proofs.TxRuns.{some_is}
use Rattle.vring_turns.proofs.RxRuns.{published_made, copied_made}
use Rattle.vring_turns.proofs.Standings.{OrderLaws}
use Rattle.vring_turns.proofs.RxFetches.{some_quota, after_by, ring_by}
use Rattle.vring_turns.proofs.RxStandings.{receive_stands}
use Rattle.vring_turns.proofs.TxReadies.{above_zero, many, not_zero}

-- Stages.

is_le : (a b : ℕ) → nat_le a b ≡ true → a ≤ b
is_le a b e = grind arith

-- the chains that are gathered are no more than there may be
abbrev IsMost : RxTurn → Type 0
IsMost t = length t.chains ≤ quota t.mergeable

closing_ready :
    (b : Bool) (e : End) (t : RxTurn) (q : Queue)
    → nat_eq (done_in q) 0 ≡ b → is_some t.held ≡ false → IsMost t
    → RxReady (rx_at (if b then rx.Ended e else rx.Publish (Some e)) t) q
closing_ready true e t q is none most = record { held = none; most = most; enough = λ h. cc; done = λ h. cc }
closing_ready false e t q is none most =
    record { held = none; most = most; enough = λ h. cc; done = λ h. above_zero (done_in q) is }

packet_ready :
    (a b : Bool) (t : RxTurn) (q : Queue)
    → nat_le 64 (done_in q) ≡ b → is_some t.held ≡ false → IsMost t
    → RxReady (rx_at (if a then (if nat_eq (done_in q) 0 then rx.Ended end.Again else rx.Publish (Some end.Again))
    else (if b then rx.Publish None else rx.Hand)) t) q
packet_ready true b t q is none most = closing_ready (nat_eq (done_in q) 0) end.Again t q refl none most
packet_ready false true t q is none most =
    record { held = none; most = most; enough = λ h. cc; done = λ h. many (done_in q) is }
packet_ready false false t q is none most = record { held = none; most = most; enough = λ h. cc; done = λ h. cc }

-- where a way leads, once the notices are off
way_ready :
    (way : After) (t : RxTurn) (q : Queue)
    → is_some t.held ≡ true → IsMost t
    → (copies_at (rx.NoticesOff way) ≡ true → need_at t.header t.held ≤ room_in t.chains)
    → RxReady (rx_at (stage_of way) t) q
way_ready after.Fetch t q held most enough =
    record { held = held; most = most; enough = λ h. cc; done = λ h. cc }
way_ready after.Copy t q held most enough =
    record { held = held; most = most; enough = λ h. enough refl; done = λ h. cc }
way_ready (after.Discard had) t q held most enough =
    record { held = held; most = most; enough = λ h. cc; done = λ h. cc }
way_ready (after.PutBack e) t q held most enough =
    record { held = held; most = most; enough = λ h. cc; done = λ h. cc }

-- One step.

of_answer :
    (s s' : RxState) (told : Act) (x : RxState × Act)
    → Some x ≡ Some (s', told) → RxReady x.0.turn x.0.queue → RxReady s'.turn s'.queue
of_answer s s' told x e d =
    let P : RxState → Type 0 = λ u. RxReady u.turn u.queue in
    subst P (ap (λ y. y.0) (some_is x (s', told) e)) d

-- the turn after a fetch that led to this ring and goes this way
abbrev FetchReady : Bool → ℕ → Option After → Ring → RxState → Type 0
FetchReady second need way r s =
    RxReady (record s.turn { chains = (ring_by second way r).chains; stage = after_by second need s.turn.chains way })
    (ring_by second way r).queue

-- the chains stay as they are, or are given up, for a frame that is still in hand
plain_ready :
    (s : RxState) (chains : List Gathered) (st : RxStage) (q : Queue)
    → has_in_hand st ≡ true → copies_at st ≡ false → rx_is_publishing st ≡ false
    → is_some s.turn.held ≡ true → length chains ≤ quota s.turn.mergeable
    → RxReady (record s.turn { chains = chains; stage = st }) q
plain_ready s chains st q has copies publishing held most = record {
  held = held ∙ sym has;
  most = most;
  enough = λ h. absurd (clash (copies_at st) h copies);
  done = λ h. absurd (clash (rx_is_publishing st) h publishing);
}
  where
    clash : (b : Bool) → b ≡ true → b ≡ false → ⊥
    clash b t f = cc

given_up :
    (s : RxState) (st : RxStage) (q : Queue)
    → has_in_hand st ≡ true → copies_at st ≡ false → rx_is_publishing st ≡ false → is_some s.turn.held ≡ true
    → RxReady (record s.turn { chains = []; stage = st }) q
given_up s st q has copies publishing held =
    plain_ready s [] st q has copies publishing held (omega (arith, some_quota s.turn.mergeable))

chain_ready :
    (second : Bool) (s : RxState) (need head : ℕ) (segments : List Segment) (a b : Bool)
    → IsGathering s.turn s.queue → is_some s.turn.held ≡ true → need_at s.turn.header s.turn.held ≡ need
    → nat_le need (room_in (joined (Chain head) segments (rx_ring s)).chains) ≡ a
    → FetchReady second need
    (Some (if a then after.Copy
    else (if b then after.Discard (room_in (joined (Chain head) segments (rx_ring s)).chains) else after.Fetch)))
    (joined (Chain head) segments (rx_ring s)) s
chain_ready second s need head segments a b at held is ea = by_way second a b ea
  where
    r : Ring
    r = joined (Chain head) segments (rx_ring s)

    most : length r.chains ≤ quota s.turn.mergeable
    most =
        let n = length-append s.turn.chains (record { head = head; segments = segments } ∷ []) in
        omega (arith, n, at.fewer)

    by_way :
        (second a b : Bool) → nat_le need (room_in r.chains) ≡ a
        → FetchReady second need
        (Some (if a then after.Copy else (if b then after.Discard (room_in r.chains) else after.Fetch))) r s
    by_way false true b ea = record {
      held = held;
      most = most;
      enough = λ h. subst (λ n. n ≤ room_in r.chains) (sym is) (is_le need (room_in r.chains) ea);
      done = λ h. cc;
    }
    by_way true true b ea = record {
      held = held;
      most = most;
      enough = λ h. subst (λ n. n ≤ room_in r.chains) (sym is) (is_le need (room_in r.chains) ea);
      done = λ h. cc;
    }
    by_way false false true ea = given_up s (rx.Discard (room_in r.chains)) _ refl refl refl held
    by_way true false true ea = given_up s (rx.NoticesOff (after.Discard (room_in r.chains))) _ refl refl refl held
    by_way false false false ea = plain_ready s r.chains rx.Fetch r.queue refl refl refl held most
    by_way true false false ea = plain_ready s r.chains (rx.NoticesOff after.Fetch) r.queue refl refl refl held most

found_ready :
    (second : Bool) (s : RxState) (need : ℕ) (f : Fetched) (segments : List Segment)
    → IsGathering s.turn s.queue → is_some s.turn.held ≡ true → need_at s.turn.header s.turn.held ≡ need → IsMost s.turn
    → FetchReady second need (goes_on s.turn.mergeable need (joined f segments (rx_ring s)).chains f)
    (joined f segments (rx_ring s)) s
found_ready second s need (Chain head) segments at held is most =
    let cs = (joined (Chain head) segments (rx_ring s)).chains in
    chain_ready second s need head segments (nat_le need (room_in cs)) (nat_le (quota s.turn.mergeable) (length cs))
    at held is refl
found_ready false s need Nothing segments at held is most =
    plain_ready s s.turn.chains rx.NoticesOn s.queue refl refl refl held most
found_ready true s need Nothing segments at held is most =
    given_up s (rx.PutBack (end.Short need (room_in s.turn.chains))) _ refl refl refl held
found_ready false s need Crowded segments at held is most =
    given_up s (rx.Discard (room_in s.turn.chains)) _ refl refl refl held
found_ready true s need Crowded segments at held is most =
    given_up s (rx.NoticesOff (after.Discard (room_in s.turn.chains))) _ refl refl refl held
found_ready false s need (Bad fault) segments at held is most =
    given_up s (rx.PutBack (end.Stopped fault)) _ refl refl refl held
found_ready true s need (Bad fault) segments at held is most =
    given_up s (rx.NoticesOff (after.PutBack (end.Stopped fault))) _ refl refl refl held

fetch_ready :
    (second : Bool) (s s' : RxState) (told : Act) (need : ℕ)
    → IsGathering s.turn s.queue → is_some s.turn.held ≡ true → need_at s.turn.header s.turn.held ≡ need → IsMost s.turn
    → Some (rx_made (rewinding (rx_rewinds second (rx_way need s)) (fetches (rx_ring s) s.memory))
    (after_by second need s.turn.chains (rx_way need s)) s) ≡ Some (s', told)
    → RxReady s'.turn s'.queue
fetch_ready second s s' told need at held is most e =
    let f = found (rx_ring s) s.memory in
    let way = rx_way need s in
    of_answer s s' told
    (rx_made (rewinding (rx_rewinds second way) (fetches (rx_ring s) s.memory))
    (after_by second need s.turn.chains way) s)
    e (found_ready second s need f.0 f.1 at held is most)

hand_ready :
    (s s' : RxState) (told : Act) (h : Hand)
    → is_some s.turn.held ≡ false → IsMost s.turn → rx_hands h s ≡ Some (s', told) → RxReady s'.turn s'.queue
hand_ready s s' told (hand.Got frame) none most e =
    let u : RxTurn = record s.turn { held = Some frame; stage = rx.Fetch } in
    of_answer s s' told (record s { turn = u }, act.Hand) e
    (record { held = refl; most = most; enough = λ h. cc; done = λ h. cc })
hand_ready s s' told (hand.NotReady place) none most e =
    of_answer s s' told (record s { turn = rx_at (rx_closing end.Idle s.queue) s.turn }, act.NotReady) e
    (closing_ready (nat_eq (done_in s.queue) 0) end.Idle s.turn s.queue refl none most)
hand_ready s s' told hand.Off none most e = cc
hand_ready s s' told hand.NoMemory none most e = cc

copy_ready :
    (s s' : RxState) (told : Act) (frame : FrameValue) (b : Bool)
    → is_some s.turn.held ≡ true
    → (elim (if b then Some (copied_made frame s) else None) as (λ (k : Option Made). Option (RxState × Act)) [
      | None ↦ None
      | Some m ↦
          let next = rx_made m rx.Out s in
          Some (record next.0 { turn = record next.0.turn { handled = s.turn.handled + length s.turn.chains } }, next.1)
    ]) ≡ Some (s', told)
    → RxReady s'.turn s'.queue
copy_ready s s' told frame false held e = cc
copy_ready s s' told frame true held e =
    let next = rx_made (copied_made frame s) rx.Out s in
    let x : RxState × Act =
    (record next.0 { turn = record next.0.turn { handled = s.turn.handled + length s.turn.chains } }, next.1) in
    let most : 0 ≤ quota s.turn.mergeable = omega arith in
    of_answer s s' told x e (record { held = held; most = most; enough = λ h. cc; done = λ h. cc })

out_ready :
    (s s' : RxState) (told : Act) (n : ℕ) (frame : FrameValue)
    → IsMost s.turn → Some (rx_outs n frame s) ≡ Some (s', told) → RxReady s'.turn s'.queue
out_ready s s' told n frame most e =
    let t : RxTurn = record s.turn { packets = s.turn.packets + 1; bytes = s.turn.bytes + n; held = None } in
    of_answer s s' told (rx_outs n frame s) e
    (packet_ready (is_enough t.packets t.bytes t.handled) (nat_le 64 (done_in s.queue)) t s.queue refl refl most)

back_ready :
    (s s' : RxState) (told : Act) (e : End)
    → IsMost s.turn → Some (rx_puts_back e s) ≡ Some (s', told) → RxReady s'.turn s'.queue
back_ready s s' told e most is =
    let t : RxTurn = record s.turn { held = None } in
    of_answer s s' told (rx_puts_back e s) is
    (closing_ready (nat_eq (done_in s.queue) 0) e t s.queue refl refl most)

publish_ready :
    (s s' : RxState) (told : Act) (o : Option End) (b : Bool)
    → is_some s.turn.held ≡ false → IsMost s.turn
    → (elim (if b then None else Some (published_made s)) as (λ (k : Option Made). Option (RxState × Act)) [
      | None ↦ None
      | Some m ↦ Some (rx_made m (elim o [ None ↦ rx.Hand | Some e ↦ rx.Ended e ]) s)
    ]) ≡ Some (s', told)
    → RxReady s'.turn s'.queue
publish_ready s s' told o true none most e = cc
publish_ready s s' told None false none most e =
    of_answer s s' told (rx_made (published_made s) rx.Hand s) e
    (record { held = none; most = most; enough = λ h. cc; done = λ h. cc })
publish_ready s s' told (Some k) false none most e =
    of_answer s s' told (rx_made (published_made s) (rx.Ended k) s) e
    (record { held = none; most = most; enough = λ h. cc; done = λ h. cc })

with_ready :
    (s s' : RxState) (told : Act) (st : RxStage) (frame : FrameValue)
    → RxStandsAt st s.turn s.queue → s.turn.held ≡ Some frame → IsMost s.turn → rx_with st frame s ≡ Some (s', told)
    → RxReady s'.turn s'.queue
with_ready s s' told rx.Begin frame at held most e = cc
with_ready s s' told rx.Hand frame at held most e = cc
with_ready s s' told rx.Fetch frame at held most e =
    fetch_ready false s s' told (need_of s.turn.header frame) at (ap is_some held)
    (ap (λ o. need_at s.turn.header o) held) most e
with_ready s s' told rx.NoticesOn frame at held most e = cc
with_ready s s' told rx.FetchAgain frame at held most e =
    fetch_ready true s s' told (need_of s.turn.header frame) at (ap is_some held)
    (ap (λ o. need_at s.turn.header o) held) most e
with_ready s s' told (rx.NoticesOff way) frame at held most e = cc
with_ready s s' told rx.Copy frame at held most e =
    copy_ready s s' told frame (nat_le (need_of s.turn.header frame) (room_in s.turn.chains)) (ap is_some held) e
with_ready s s' told rx.Out frame at held most e = out_ready s s' told (need_of s.turn.header frame) frame most e
with_ready s s' told (rx.Discard had) frame at held most e = out_ready s s' told 0 frame most e
with_ready s s' told (rx.PutBack end) frame at held most e = back_ready s s' told end most e
with_ready s s' told (rx.Publish end) frame at held most e = cc
with_ready s s' told (rx.Ended end) frame at held most e = cc

held_ready :
    (s s' : RxState) (told : Act) (st : RxStage) (held : Option FrameValue)
    → RxStandsAt st s.turn s.queue → s.turn.stage ≡ st → s.turn.held ≡ held → IsMost s.turn
    → rx_in_hand held s ≡ Some (s', told)
    → RxReady s'.turn s'.queue
held_ready s s' told st None at is held most e = cc
held_ready s s' told st (Some frame) at is held most e =
    let Q : RxStage → Type 0 = λ k. rx_with k frame s ≡ Some (s', told) in
    with_ready s s' told st frame at held most (subst Q is e)

step_ready :
    (s s' : RxState) (told : Act) (h : Hand) (st : RxStage)
    → RxStandsAt st s.turn s.queue → s.turn.stage ≡ st → is_some s.turn.held ≡ has_in_hand st → IsMost s.turn
    → (copies_at st ≡ true → need_at s.turn.header s.turn.held ≤ room_in s.turn.chains)
    → rx_next st h s ≡ Some (s', told)
    → RxReady s'.turn s'.queue
step_ready s s' told h rx.Begin at is held most enough e =
    of_answer s s' told (rx_made (noticed false (rx_ring s) s.memory) rx.Hand s) e
    (record { held = held; most = most; enough = λ h. cc; done = λ h. cc })
step_ready s s' told h rx.Hand at is held most enough e = hand_ready s s' told h held most e
step_ready s s' told h rx.Fetch at is held most enough e =
    held_ready s s' told rx.Fetch s.turn.held at is refl most e
step_ready s s' told h rx.NoticesOn at is held most enough e =
    of_answer s s' told (rx_made (noticed true (rx_ring s) s.memory) rx.FetchAgain s) e
    (record { held = held; most = most; enough = λ h. cc; done = λ h. cc })
step_ready s s' told h rx.FetchAgain at is held most enough e =
    held_ready s s' told rx.FetchAgain s.turn.held at is refl most e
step_ready s s' told h (rx.NoticesOff way) at is held most enough e =
    of_answer s s' told (rx_made (noticed false (rx_ring s) s.memory) (stage_of way) s) e
    (way_ready way s.turn s.queue held most enough)
step_ready s s' told h rx.Copy at is held most enough e =
    held_ready s s' told rx.Copy s.turn.held at is refl most e
step_ready s s' told h rx.Out at is held most enough e =
    held_ready s s' told rx.Out s.turn.held at is refl most e
step_ready s s' told h (rx.Discard had) at is held most enough e =
    held_ready s s' told (rx.Discard had) s.turn.held at is refl most e
step_ready s s' told h (rx.PutBack end) at is held most enough e =
    held_ready s s' told (rx.PutBack end) s.turn.held at is refl most e
step_ready s s' told h (rx.Publish end) at is held most enough e =
    publish_ready s s' told end (nat_eq (done_in s.queue) 0) held most e
step_ready s s' told h (rx.Ended end) at is held most enough e = cc

-- Runs.

pub begun : ReceiveTurnsBeginReady
begun mergeable header q = record {
  held = refl;
  most = omega (arith, some_quota mergeable);
  enough = λ h. cc;
  done = λ h. cc;
}

pub run_stays :
    OrderLaws → (t t' : RxTurn) (q q' : Queue) (ms : List RxMoment)
    → RxStands t q → RxReady t q → IsRxRun t q ms t' q' → RxReady t' q'
run_stays laws t t' q q' [] stands ready run =
    let P : RxTurn → Type 0 = λ u. RxReady u q' in
    let Q : Queue → Type 0 = λ k. RxReady t k in
    subst P (sym run.0) (subst Q (sym run.1) ready)
run_stays laws t t' q q' (m ∷ ms) stands ready run =
    let P : RxTurn → Type 0 = λ u. RxStands u q × RxReady u q in
    let Q : Queue → Type 0 = λ k. RxStands m.before.turn k × RxReady m.before.turn k in
    let right : RxStands m.before.turn m.before.queue × RxReady m.before.turn m.before.queue =
    subst Q (sym run.1) (subst P (sym run.0) (stands, ready)) in
    let next = receive_stands laws m.before.turn m.after.turn m.before.queue m.after.queue (m ∷ []) right.0
    (refl, refl, run.2, (refl, refl)) in
    let one = step_ready m.before m.after m.told m.hand m.before.turn.stage right.0.stage refl right.1.held right.1.most
    right.1.enough run.2 in
    run_stays laws m.after.turn t' m.after.queue q' ms next one run.3

-- There is a next step.

some_hands : (s : RxState) (h : Hand) → is_told h ≡ true → is_some (rx_hands h s) ≡ true
some_hands s (hand.Got frame) told = refl
some_hands s (hand.NotReady place) told = refl
some_hands s hand.Off told = cc
some_hands s hand.NoMemory told = cc

some_held :
    (s : RxState) (st : RxStage) (held : Option FrameValue)
    → s.turn.stage ≡ st → is_some held ≡ true
    → ((frame : FrameValue) → held ≡ Some frame → is_some (rx_with st frame s) ≡ true)
    → is_some (rx_in_hand held s) ≡ true
some_held s st None is some one = cc
some_held s st (Some frame) is some one =
    let P : RxStage → Type 0 = λ k. is_some (rx_with k frame s) ≡ true in
    subst P (sym is) (one frame refl)

holds : (a b : ℕ) → a ≤ b → nat_le a b ≡ true
holds a b h = grind arith

some_taken :
    (s : RxState) (frame : FrameValue) (b : Bool)
    → b ≡ true
    → is_some (elim (if b then Some (copied_made frame s) else None) as (λ (k : Option Made). Option (RxState × Act)) [
      | None ↦ None
      | Some m ↦
          let next = rx_made m rx.Out s in
          Some (record next.0 { turn = record next.0.turn { handled = s.turn.handled + length s.turn.chains } }, next.1)
    ]) ≡ true
some_taken s frame true some = refl
some_taken s frame false some = cc

some_copy :
    (s : RxState) (frame : FrameValue)
    → need_at s.turn.header s.turn.held ≤ room_in s.turn.chains → s.turn.held ≡ Some frame
    → is_some (rx_with rx.Copy frame s) ≡ true
some_copy s frame enough held =
    let P : ℕ → Type 0 = λ n. n ≤ room_in s.turn.chains in
    let le : need_of s.turn.header frame ≤ room_in s.turn.chains =
    subst P (ap (λ o. need_at s.turn.header o) held) enough in
    some_taken s frame (nat_le (need_of s.turn.header frame) (room_in s.turn.chains))
    (holds (need_of s.turn.header frame) (room_in s.turn.chains) le)

some_publish :
    (s : RxState) (o : Option End) (b : Bool)
    → b ≡ false
    → is_some (elim (if b then None else Some (published_made s)) as (λ (k : Option Made). Option (RxState × Act)) [
      | None ↦ None
      | Some m ↦ Some (rx_made m (elim o [ None ↦ rx.Hand | Some e ↦ rx.Ended e ]) s)
    ]) ≡ true
some_publish s o true some = cc
some_publish s o false some = refl

some_next :
    (s : RxState) (h : Hand) (st : RxStage)
    → s.turn.stage ≡ st → is_some s.turn.held ≡ has_in_hand st
    → (copies_at st ≡ true → need_at s.turn.header s.turn.held ≤ room_in s.turn.chains)
    → (rx_is_publishing st ≡ true → 0 < done_in s.queue)
    → rx_is_over st ≡ false → (is_asking st ≡ true → is_told h ≡ true)
    → is_some (rx_next st h s) ≡ true
some_next s h rx.Begin is held enough done going told = refl
some_next s h rx.Hand is held enough done going told = some_hands s h (told refl)
some_next s h rx.Fetch is held enough done going told =
    some_held s rx.Fetch s.turn.held is held (λ frame e. refl)
some_next s h rx.NoticesOn is held enough done going told = refl
some_next s h rx.FetchAgain is held enough done going told =
    some_held s rx.FetchAgain s.turn.held is held (λ frame e. refl)
some_next s h (rx.NoticesOff way) is held enough done going told = refl
some_next s h rx.Copy is held enough done going told =
    some_held s rx.Copy s.turn.held is held (λ frame e. some_copy s frame (enough refl) e)
some_next s h rx.Out is held enough done going told = some_held s rx.Out s.turn.held is held (λ frame e. refl)
some_next s h (rx.Discard had) is held enough done going told =
    some_held s (rx.Discard had) s.turn.held is held (λ frame e. refl)
some_next s h (rx.PutBack k) is held enough done going told =
    some_held s (rx.PutBack k) s.turn.held is held (λ frame e. refl)
some_next s h (rx.Publish o) is held enough done going told =
    some_publish s o (nat_eq (done_in s.queue) 0) (not_zero (done_in s.queue) (done refl))
some_next s h (rx.Ended k) is held enough done going told = cc

pub there_is : ReceiveTurnsGoOn
there_is h s ready going told =
    some_next s h s.turn.stage refl ready.held ready.enough ready.done going told
