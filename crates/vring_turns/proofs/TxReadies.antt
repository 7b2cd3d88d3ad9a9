-- A transmit turn has ready what its next step needs, and there is one until it is over.
use Rattle.std.proofs.Common.{◌≡◌, ◌≢◌, ℕ, ◌<◌, Bool, true, false, List, [], ◌∷◌, length, Option, None, Some, is_some, if◌then◌else◌, nat_le, nat_lt, nat_eq, refl, sym, ap, ◌∙◌, subst, arith}
use Rattle.guest_mem.specs.Memory.{byte_at, covers}
use Rattle.vring_split.specs.declared.fault.RingFault.{RingFault}
use Rattle.vring_split.specs.declared.segment.Segment.{Segment}
use Rattle.vring_walk.specs.declared.walk.Fetched.{Fetched}
use Rattle.vring_walk.specs.declared.walk.Fetched.TheVariants.{Chain, Nothing, Bad, Crowded}
use Rattle.vring_walk.specs.Laws.{EmptyIsNotCrowded}
use Rattle.vhost_queue.specs.Queue.{Queue}
use Rattle.tap_frame.specs.declared.reading.BadFrame.{BadFrame}
use Rattle.tap_frame.specs.Frame.{FrameValue}
use Rattle.tap_ledger.specs.declared.act.Act.{Act}
use Rattle.tap_ledger.specs.declared.act.Act.TheVariants as act
use Rattle.tap_ledger.specs.Host.{with_given}
use Rattle.vring_turns.specs.declared.end.End.{End}
use Rattle.vring_turns.specs.declared.end.End.TheVariants as end
use Rattle.vring_turns.specs.declared.stage.TxStage.{TxStage}
use Rattle.vring_turns.specs.declared.stage.TxStage.TheVariants as tx
use Rattle.vring_turns.specs.Ring.{Gathered, Made, joined, found, fetches, noticed, done_in, first_position}
use Rattle.vring_turns.specs.Turn.{is_enough}
use Rattle.vring_turns.specs.TransmitBytes.{bytes_of_chain, refusal_of}
use Rattle.vring_turns.specs.Stage.{is_giving, tx_is_publishing, tx_is_over}
use Rattle.vring_turns.specs.TxTurn.{TxTurn, TxState, tx_ring, tx_made, tx_done, tx_judged, tx_copies, tx_gives, tx_after_packet, tx_after_fetch, tx_after_second, tx_after_notices, tx_next}
use Rattle.vring_turns.specs.TxRun.{Moment, IsTxRun}
use Rattle.vring_turns.specs.Standing.{TxStandsAt}
use Rattle.vring_turns.specs.Ready.{TxReady, TransmitTurnsBeginReady, TransmitTurnsStayReady, TransmitTurnsGoOn}
use Rattle.vring_turns.proofs.TxRuns.{some_is, published_made}
use Rattle.vring_turns.proofs.TxFrames.{run_passes}

-- Something is done where it is published next.

abbrev HasDone : TxStage → Queue → Type 0
HasDone st q = tx_is_publishing st ≡ true → 0 < done_in q

pub above_zero : (n : ℕ) → nat_eq n 0 ≡ false → 0 < n
above_zero n e = grind arith

pub many : (n : ℕ) → nat_le 64 n ≡ true → 0 < n
many n e = grind arith

closing_done :
    (b : Bool) (e : End) (q : Queue)
    → nat_eq (done_in q) 0 ≡ b → HasDone (if b then tx.Ended e else tx.Publish (Some e)) q
closing_done true e q is h = cc
closing_done false e q is h = above_zero (done_in q) is

packet_done :
    (a b : Bool) (q : Queue)
    → nat_le 64 (done_in q) ≡ b
    → HasDone (if a then (if nat_eq (done_in q) 0 then tx.Ended end.Again else tx.Publish (Some end.Again))
    else (if b then tx.Publish None else tx.Fetch)) q
packet_done true b q is = closing_done (nat_eq (done_in q) 0) end.Again q refl
packet_done false true q is = λ h. many (done_in q) is
packet_done false false q is = λ h. cc

of_answer :
    (s s' : TxState) (told : Act) (x : TxState × Act)
    → Some x ≡ Some (s', told) → HasDone x.0.turn.stage x.0.queue → HasDone s'.turn.stage s'.queue
of_answer s s' told x e d =
    let P : TxState → Type 0 = λ u. HasDone u.turn.stage u.queue in
    subst P (ap (λ y. y.0) (some_is x (s', told) e)) d

-- the stage after a fetch that found this
abbrev IsDoneAt : Option TxStage → Queue → Type 0
IsDoneAt None q = Unit {0}
IsDoneAt (Some st) q = HasDone st q

first_done : (f : Fetched) (segments : List Segment) (s : TxState)
    → IsDoneAt (tx_after_fetch s.queue f) (joined f segments (tx_ring s)).queue
first_done (Chain head) segments s = λ h. cc
first_done Nothing segments s = λ h. cc
first_done (Bad fault) segments s = closing_done (nat_eq (done_in s.queue) 0) (end.Stopped fault)
    (joined (Bad fault) segments (tx_ring s)).queue refl
first_done Crowded segments s = tt

second_done : (f : Fetched) (segments : List Segment) (s : TxState)
    → IsDoneAt (tx_after_second s.queue f) (joined f segments (tx_ring s)).queue
second_done (Chain head) segments s = λ h. cc
second_done Nothing segments s = closing_done (nat_eq (done_in s.queue) 0) end.Idle s.queue refl
second_done (Bad fault) segments s = λ h. cc
second_done Crowded segments s = tt

fetch_done :
    (s s' : TxState) (told : Act) (o : Option TxStage)
    → IsDoneAt o (fetches (tx_ring s) s.memory).ring.queue
    → (elim o as (λ (k : Option TxStage). Option (TxState × Act)) [
      | None ↦ None
      | Some stage ↦ Some (tx_made (fetches (tx_ring s) s.memory) stage s)
    ]) ≡ Some (s', told)
    → HasDone s'.turn.stage s'.queue
fetch_done s s' told None at e = cc
fetch_done s s' told (Some st) at e = of_answer s s' told (tx_made (fetches (tx_ring s) s.memory) st s) e at

notices_done : (fault : Option RingFault) (q : Queue) → HasDone (tx_after_notices q fault) q
notices_done None q = λ h. cc
notices_done (Some fault) q = closing_done (nat_eq (done_in q) 0) (end.Stopped fault) q refl

judged_done :
    (s s' : TxState) (told : Act) (c : Gathered) (position : ℕ) (bytes : List ℕ) (bad : Option BadFrame)
    → Some (tx_judged position bytes bad (tx_done c s)) ≡ Some (s', told) → HasDone s'.turn.stage s'.queue
judged_done s s' told c position bytes (Some bad) e =
    let u = tx_done c s in
    of_answer s s' told (tx_judged position bytes (Some bad) u) e
    (packet_done (is_enough u.turn.packets u.turn.bytes u.turn.packets) (nat_le 64 (done_in u.queue)) u.queue refl)
judged_done s s' told c position bytes None e =
    of_answer s s' told (tx_judged position bytes None (tx_done c s)) e (λ h. cc)

copy_done :
    (s s' : TxState) (told : Act) (chains : List Gathered)
    → tx_copies chains s ≡ Some (s', told) → HasDone s'.turn.stage s'.queue
copy_done s s' told [] e = cc
copy_done s s' told (c ∷ cs) e =
    let bytes = bytes_of_chain s.turn.header s.memory c in
    judged_done s s' told c (first_position (tx_ring s)) bytes (refusal_of s.turn.header bytes) e

give_done :
    (s s' : TxState) (told : Act) (held : Option FrameValue)
    → tx_gives held s ≡ Some (s', told) → HasDone s'.turn.stage s'.queue
give_done s s' told None e = cc
give_done s s' told (Some frame) e = room (nat_lt 0 s.host.room) e
  where
    x : TxState
    x = record s {
      turn = record s.turn { held = None; stage = tx_after_packet s.turn s.queue };
      host = with_given frame s.host;
    }

    room :
        (b : Bool)
        → if◌then◌else◌ {A = Option (TxState × Act)} b (Some (x, act.Given frame.name)) None ≡ Some (s', told)
        → HasDone s'.turn.stage s'.queue
    room true e = of_answer s s' told (x, act.Given frame.name) e
        (packet_done (is_enough s.turn.packets s.turn.bytes s.turn.packets) (nat_le 64 (done_in s.queue)) s.queue refl)
    room false e = cc

publish_done :
    (s s' : TxState) (told : Act) (o : Option End) (b : Bool)
    → (elim (if b then None else Some (published_made s)) as (λ (k : Option Made). Option (TxState × Act)) [
      | None ↦ None
      | Some m ↦ Some (tx_made m (elim o [ None ↦ tx.Fetch | Some e ↦ tx.Ended e ]) s)
    ]) ≡ Some (s', told)
    → HasDone s'.turn.stage s'.queue
publish_done s s' told o true e = cc
publish_done s s' told None false e = of_answer s s' told (tx_made (published_made s) tx.Fetch s) e (λ h. cc)
publish_done s s' told (Some k) false e = of_answer s s' told (tx_made (published_made s) (tx.Ended k) s) e (λ h. cc)

step_done :
    (s s' : TxState) (told : Act) (st : TxStage) → tx_next st s ≡ Some (s', told) → HasDone s'.turn.stage s'.queue
step_done s s' told tx.Begin e =
    of_answer s s' told (tx_made (noticed false (tx_ring s) s.memory) tx.Fetch s) e (λ h. cc)
step_done s s' told tx.Fetch e =
    let f = found (tx_ring s) s.memory in
    fetch_done s s' told (tx_after_fetch s.queue f.0) (first_done f.0 f.1 s) e
step_done s s' told tx.NoticesOn e =
    of_answer s s' told (tx_made (noticed true (tx_ring s) s.memory) tx.FetchAgain s) e (λ h. cc)
step_done s s' told tx.FetchAgain e =
    let f = found (tx_ring s) s.memory in
    fetch_done s s' told (tx_after_second s.queue f.0) (second_done f.0 f.1 s) e
step_done s s' told (tx.NoticesOff fault) e =
    of_answer s s' told (tx_made (noticed false (tx_ring s) s.memory) (tx_after_notices s.queue fault) s) e
    (notices_done fault s.queue)
step_done s s' told tx.Copy e = copy_done s s' told s.turn.chains e
step_done s s' told tx.Give e = give_done s s' told s.turn.held e
step_done s s' told (tx.Publish o) e = publish_done s s' told o (nat_eq (done_in s.queue) 0) e
step_done s s' told (tx.Ended k) e = cc

-- Runs.

pub begun : TransmitTurnsBeginReady
begun header first q = record { held = refl; done = λ h. cc }

run_done :
    (t t' : TxTurn) (q q' : Queue) (ms : List Moment)
    → HasDone t.stage q → IsTxRun t q ms t' q' → HasDone t'.stage q'
run_done t t' q q' [] d run =
    let P : TxTurn → Type 0 = λ u. HasDone u.stage q' in
    let Q : Queue → Type 0 = λ k. HasDone t.stage k in
    subst P (sym run.0) (subst Q (sym run.1) d)
run_done t t' q q' (m ∷ ms) d run =
    run_done m.after.turn t' m.after.queue q' ms (step_done m.before m.after m.told m.before.turn.stage run.2) run.3

pub run_stays : TransmitTurnsStayReady
run_stays t t' q q' ms ready run = record {
  held = (run_passes t t' q q' ms ready.held run).rightly;
  done = run_done t t' q q' ms ready.done run;
}

-- There is a next step.

some_fetch :
    (s : TxState) (o : Option TxStage)
    → is_some o ≡ true
    → is_some (elim o as (λ (k : Option TxStage). Option (TxState × Act)) [
      | None ↦ None
      | Some stage ↦ Some (tx_made (fetches (tx_ring s) s.memory) stage s)
    ]) ≡ true
some_fetch s None some = cc
some_fetch s (Some st) some = refl

some_first : (q : Queue) (f : Fetched) → f ≢ Crowded → is_some (tx_after_fetch q f) ≡ true
some_first q (Chain head) fits = refl
some_first q Nothing fits = refl
some_first q (Bad fault) fits = refl
some_first q Crowded fits = absurd (fits refl)

some_second : (q : Queue) (f : Fetched) → f ≢ Crowded → is_some (tx_after_second q f) ≡ true
some_second q (Chain head) fits = refl
some_second q Nothing fits = refl
some_second q (Bad fault) fits = refl
some_second q Crowded fits = absurd (fits refl)

-- a fetch that has all places finds enough of them
some_places : EmptyIsNotCrowded → (s : TxState) → s.turn.chains ≡ [] → (found (tx_ring s) s.memory).0 ≢ Crowded
some_places fits s none =
    let P : List Gathered → Type 0 =
    λ cs. (found (record { queue = s.queue; chains = cs }) s.memory).0 ≢ Crowded in
    subst P (sym none) (fits (byte_at s.memory) (covers s.memory.regions) s.queue.layout s.queue.positions.next)

some_copy : (s : TxState) (chains : List Gathered) → length chains ≡ 1 → is_some (tx_copies chains s) ≡ true
some_copy s [] one = cc
some_copy s (c ∷ cs) one = refl

has_room : (n : ℕ) → 0 < n → nat_lt 0 n ≡ true
has_room n h = grind arith

some_give :
    (s : TxState) (held : Option FrameValue)
    → is_some held ≡ true → 0 < s.host.room → is_some (tx_gives held s) ≡ true
some_give s None some room = cc
some_give s (Some frame) some room = rw (has_room s.host.room room) refl

pub not_zero : (n : ℕ) → 0 < n → nat_eq n 0 ≡ false
not_zero n h = grind arith

some_publish :
    (s : TxState) (o : Option End) (b : Bool)
    → b ≡ false
    → is_some (elim (if b then None else Some (published_made s)) as (λ (k : Option Made). Option (TxState × Act)) [
      | None ↦ None
      | Some m ↦ Some (tx_made m (elim o [ None ↦ tx.Fetch | Some e ↦ tx.Ended e ]) s)
    ]) ≡ true
some_publish s o true some = cc
some_publish s o false some = refl

some_next :
    EmptyIsNotCrowded → (s : TxState) (st : TxStage)
    → TxStandsAt st s.turn s.queue → is_some s.turn.held ≡ is_giving st → HasDone st s.queue
    → tx_is_over st ≡ false → (is_giving st ≡ true → 0 < s.host.room)
    → is_some (tx_next st s) ≡ true
some_next fits s tx.Begin at held done going room = refl
some_next fits s tx.Fetch at held done going room =
    let f = (found (tx_ring s) s.memory).0 in
    some_fetch s (tx_after_fetch s.queue f) (some_first s.queue f (some_places fits s at.0))
some_next fits s tx.NoticesOn at held done going room = refl
some_next fits s tx.FetchAgain at held done going room =
    let f = (found (tx_ring s) s.memory).0 in
    some_fetch s (tx_after_second s.queue f) (some_second s.queue f (some_places fits s at.0))
some_next fits s (tx.NoticesOff fault) at held done going room = refl
some_next fits s tx.Copy at held done going room = some_copy s s.turn.chains at
some_next fits s tx.Give at held done going room = some_give s s.turn.held held (room refl)
some_next fits s (tx.Publish o) at held done going room =
    some_publish s o (nat_eq (done_in s.queue) 0) (not_zero (done_in s.queue) (done refl))
some_next fits s (tx.Ended k) at held done going room = cc

pub there_is : EmptyIsNotCrowded → TransmitTurnsGoOn
there_is fits s stands ready going room =
    some_next fits s s.turn.stage stands.stage ready.held ready.done going room
