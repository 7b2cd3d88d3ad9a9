-- What each step of a receive turn adds, and a run of them.
use Rattle.std.proofs.Common.{◌≡◌, ℕ, suc, ◌+◌, ◌-◌, Bool, true, false, List, [], ◌∷◌, ◌++◌, length, map, Option, None, Some, if◌then◌else◌, nat_le, nat_eq, refl, sym, ap, ◌∙◌, subst, arith, append_assoc}
use Rattle.std.proofs.lemmas.List.{append-nil, length-append, map-append}
use Rattle.vhost_queue.specs.declared.done.Done.{Done}
use Rattle.vhost_queue.specs.Positions.{with_done}
use Rattle.vhost_queue.specs.Queue.{Queue}
use Rattle.tap_frame.specs.Frame.{FrameValue}
use Rattle.tap_ledger.specs.declared.act.Act.{Act}
use Rattle.tap_ledger.specs.declared.act.Act.TheVariants as act
use Rattle.vhost_queue.specs.Publication.{with_published, published_in, wants_notice, next_used}
use Rattle.tap_ledger.specs.declared.hand.Hand.{Hand}
use Rattle.tap_ledger.specs.declared.hand.Hand.TheVariants as hand
use Rattle.vring_turns.specs.declared.end.End.{End}
use Rattle.vring_turns.specs.declared.end.End.TheVariants.{Idle}
use Rattle.vring_turns.specs.declared.stage.RxStage.{RxStage}
use Rattle.vring_turns.specs.declared.stage.RxStage.TheVariants as stage
use Rattle.vring_turns.specs.Ring.{Gathered, Made, bytes_in, room_in, moved, found, fetches, noticed, done_in, with_all_done, first_position}
use Rattle.vring_turns.specs.ReceiveImage.{need_of, shares, with_image}
use Rattle.vring_turns.specs.RxTurn.{RxTurn, RxState, rx_ring, rx_made, rewinding, rx_outs, rx_puts_back, rx_hands, rx_with, rx_in_hand, rx_next, stage_of, rx_at, rx_closing, rx_rewinds, rx_way, rx_after_fetch, rx_after_second}
use Rattle.vring_turns.specs.TxRun.{chains_told}
use Rattle.vring_turns.specs.RxRun.{RxMoment, IsRxRun, done_at, packets_at, bytes_at, taken_by, done_by, packets_by, bytes_by, RxDid}
use Rattle.vring_turns.specs.Stage.{need_at}
use Rattle.vring_turns.proofs.TxRuns.{some_is, told-published, told-joined, told_of_done, told_of_published}

-- a step that counts nothing and is done with no chain
idle_did :
    (s u : RxState)
    → u.turn.header ≡ s.turn.header → u.turn.packets ≡ s.turn.packets → u.turn.bytes ≡ s.turn.bytes
    → u.turn.handled ≡ s.turn.handled → chains_told u.queue ≡ chains_told s.queue
    → RxDid s.turn u.turn s.queue u.queue [] 0 0
idle_did s u h p b k c = record {
  header = h;
  packets_are = omega (arith, p);
  bytes_are = omega (arith, b);
  handled = omega (arith, k);
  chains = c ∙ sym (append-nil (chains_told s.queue));
}

-- what an answer says holds of the state in it
of_answer :
    (s s' : RxState) (told : Act) (x : RxState × Act) (ds : List Done) (p b : ℕ)
    → Some x ≡ Some (s', told) → RxDid s.turn x.0.turn s.queue x.0.queue ds p b
    → RxDid s.turn s'.turn s.queue s'.queue ds p b
of_answer s s' told x ds p b e d =
    let P : RxState → Type 0 = λ u. RxDid s.turn u.turn s.queue u.queue ds p b in
    subst P (ap (λ y. y.0) (some_is x (s', told) e)) d

-- one more chain is done, and several
told-one_done :
    (q : Queue) (d : Done)
    → chains_told (record q { positions = with_done d.head d.len q.positions }) ≡ chains_told q ++ told_of_done d ∷ []
told-one_done q d =
    let J = map told_of_published q.positions.journal in
    ap (λ rest. J ++ rest) (map-append told_of_done q.positions.done (record { head = d.head; len = d.len } ∷ []))
    ∙ sym (append_assoc J (map told_of_done q.positions.done) (told_of_done d ∷ []))

told-all_done :
    (ds : List Done) (q : Queue)
    → chains_told (record q { positions = with_all_done ds q.positions }) ≡ chains_told q ++ map told_of_done ds
told-all_done [] q = sym (append-nil (chains_told q))
told-all_done (d ∷ ds) q =
    told-all_done ds (record q { positions = with_done d.head d.len q.positions })
    ∙ (ap (λ front. front ++ map told_of_done ds) (told-one_done q d)
    ∙ append_assoc (chains_told q) (told_of_done d ∷ []) (map told_of_done ds))

length-shares : (cs : List Gathered) (n : ℕ) → length (shares cs n) ≡ length cs
length-shares [] n = refl
length-shares (c ∷ cs) n = ap (λ k. suc k) (length-shares cs (n - bytes_in c.segments))

told-rewinding : (b : Bool) (made : Made) → chains_told (rewinding b made).ring.queue ≡ chains_told made.ring.queue
told-rewinding true made = refl
told-rewinding false made = refl

-- One step.

made_did :
    (s s' : RxState) (told : Act) (made : Made) (st : RxStage)
    → Some (rx_made made st s) ≡ Some (s', told) → chains_told made.ring.queue ≡ chains_told s.queue
    → RxDid s.turn s'.turn s.queue s'.queue [] 0 0
made_did s s' told made st e c =
    of_answer s s' told (rx_made made st s) [] 0 0 e (idle_did s (rx_made made st s).0 refl refl refl refl c)

fetch_did :
    (s s' : RxState) (told : Act) (b : Bool) (st : RxStage)
    → Some (rx_made (rewinding b (fetches (rx_ring s) s.memory)) st s) ≡ Some (s', told)
    → RxDid s.turn s'.turn s.queue s'.queue [] 0 0
fetch_did s s' told b st e =
    made_did s s' told (rewinding b (fetches (rx_ring s) s.memory)) st e
    (told-rewinding b (fetches (rx_ring s) s.memory)
    ∙ told-joined (found (rx_ring s) s.memory).0 (found (rx_ring s) s.memory).1 (rx_ring s))

copy_by :
    (s s' : RxState) (told : Act) (ds : List Done) (made : Made) (b : Bool)
    → made.ring.queue ≡ record s.queue { positions = with_all_done ds s.queue.positions }
    → length ds ≡ length s.turn.chains
    → (elim (if b then Some made else None) as (λ (k : Option Made). Option (RxState × Act)) [
      | None ↦ None
      | Some m ↦
          let next = rx_made m stage.Out s in
          Some (record next.0 { turn = record next.0.turn { handled = s.turn.handled + length s.turn.chains } }, next.1)
    ]) ≡ Some (s', told)
    → RxDid s.turn s'.turn s.queue s'.queue ds 0 0
copy_by s s' told ds made false q n e = cc
copy_by s s' told ds made true q n e =
    let next = rx_made made stage.Out s in
    let x : RxState × Act =
    (record next.0 { turn = record next.0.turn { handled = s.turn.handled + length s.turn.chains } }, next.1) in
    of_answer s s' told x ds 0 0 e (record {
      header = refl;
      packets_are = omega arith;
      bytes_are = omega arith;
      handled = omega (arith, n);
      chains = ap chains_told q ∙ told-all_done ds s.queue;
    })

out_did :
    (s s' : RxState) (told : Act) (n : ℕ) (frame : FrameValue)
    → Some (rx_outs n frame s) ≡ Some (s', told) → RxDid s.turn s'.turn s.queue s'.queue [] 1 n
out_did s s' told n frame e =
    of_answer s s' told (rx_outs n frame s) [] 1 n e (record {
      header = refl;
      packets_are = refl;
      bytes_are = refl;
      handled = omega arith;
      chains = sym (append-nil (chains_told s.queue));
    })

hand_did :
    (s s' : RxState) (told : Act) (h : Hand)
    → rx_hands h s ≡ Some (s', told) → RxDid s.turn s'.turn s.queue s'.queue [] 0 0
hand_did s s' told (hand.Got frame) e =
    let x : RxState × Act = (record s { turn = record s.turn { held = Some frame; stage = stage.Fetch } }, act.Hand) in
    of_answer s s' told x [] 0 0 e (idle_did s x.0 refl refl refl refl refl)
hand_did s s' told (hand.NotReady place) e =
    let x : RxState × Act = (record s { turn = rx_at (rx_closing Idle s.queue) s.turn }, act.NotReady) in
    of_answer s s' told x [] 0 0 e (idle_did s x.0 refl refl refl refl refl)
hand_did s s' told hand.Off e = cc
hand_did s s' told hand.NoMemory e = cc

publish_did :
    (s s' : RxState) (told : Act) (end : Option End) (b : Bool) (made : Made)
    → (elim (if b then None else Some made) as (λ (k : Option Made). Option (RxState × Act)) [
      | None ↦ None
      | Some m ↦ Some (rx_made m (elim end [ None ↦ stage.Hand | Some e ↦ stage.Ended e ]) s)
    ]) ≡ Some (s', told)
    → chains_told made.ring.queue ≡ chains_told s.queue
    → RxDid s.turn s'.turn s.queue s'.queue [] 0 0
publish_did s s' told end true made e c = cc
publish_did s s' told end false made e c =
    made_did s s' told made (elim end [ None ↦ stage.Hand | Some e ↦ stage.Ended e ]) e c

-- what a publication and a copy make, where they make something
abbrev pub published_made : RxState → Made
published_made s = record {
  ring = record (rx_ring s) { queue = with_published s.queue };
  memory = published_in s.queue s.memory;
  told = act.Publish (done_in s.queue)
      (wants_notice s.queue.layout s.queue.used (next_used s.queue) (published_in s.queue s.memory));
}

abbrev pub copied_made : FrameValue → RxState → Made
copied_made frame s = record {
  ring = moved (with_all_done (shares s.turn.chains (need_of s.turn.header frame))) [] (rx_ring s);
  memory = with_image s.turn.header frame s.turn.chains s.memory;
  told = act.Copy (first_position (rx_ring s)) frame.name;
}

-- a step with the frame in hand
with_did :
    (s s' : RxState) (told : Act) (st : RxStage) (frame : FrameValue)
    → rx_with st frame s ≡ Some (s', told) → s.turn.held ≡ Some frame
    → RxDid s.turn s'.turn s.queue s'.queue (done_at st s.turn) (packets_at st) (bytes_at st s.turn)
with_did s s' told stage.Begin frame e h = cc
with_did s s' told stage.Hand frame e h = cc
with_did s s' told stage.Fetch frame e h =
    fetch_did s s' told (rx_rewinds false (rx_way (need_of s.turn.header frame) s))
    (rx_after_fetch (rx_way (need_of s.turn.header frame) s)) e
with_did s s' told stage.NoticesOn frame e h = cc
with_did s s' told stage.FetchAgain frame e h =
    fetch_did s s' told (rx_rewinds true (rx_way (need_of s.turn.header frame) s))
    (rx_after_second (need_of s.turn.header frame) s.turn.chains (rx_way (need_of s.turn.header frame) s)) e
with_did s s' told (stage.NoticesOff way) frame e h = cc
with_did s s' told stage.Copy frame e h =
    let n = need_of s.turn.header frame in
    let P : Option FrameValue → Type 0 =
    λ o. RxDid s.turn s'.turn s.queue s'.queue (taken_by s.turn.header s.turn.chains o) 0 0 in
    subst P (sym h) (copy_by s s' told (shares s.turn.chains n) (copied_made frame s) (nat_le n (room_in s.turn.chains))
    refl (length-shares s.turn.chains n) e)
with_did s s' told stage.Out frame e h =
    let P : Option FrameValue → Type 0 =
    λ o. RxDid s.turn s'.turn s.queue s'.queue [] 1 (need_at s.turn.header o) in
    subst P (sym h) (out_did s s' told (need_of s.turn.header frame) frame e)
with_did s s' told (stage.Discard had) frame e h = out_did s s' told 0 frame e
with_did s s' told (stage.PutBack end) frame e h =
    let x = rx_puts_back end s in
    of_answer s s' told x [] 0 0 e (idle_did s x.0 refl refl refl refl refl)
with_did s s' told (stage.Publish end) frame e h = cc
with_did s s' told (stage.Ended end) frame e h = cc

in_hand_did :
    (s s' : RxState) (told : Act) (st : RxStage) (held : Option FrameValue)
    → s.turn.stage ≡ st → s.turn.held ≡ held → rx_in_hand held s ≡ Some (s', told)
    → RxDid s.turn s'.turn s.queue s'.queue (done_at st s.turn) (packets_at st) (bytes_at st s.turn)
in_hand_did s s' told st None at h e = cc
in_hand_did s s' told st (Some frame) at h e =
    let Q : RxStage → Type 0 = λ k. rx_with k frame s ≡ Some (s', told) in
    with_did s s' told st frame (subst Q at e) h

step_did :
    (s s' : RxState) (told : Act) (h : Hand) (st : RxStage)
    → s.turn.stage ≡ st → rx_next st h s ≡ Some (s', told)
    → RxDid s.turn s'.turn s.queue s'.queue (done_at st s.turn) (packets_at st) (bytes_at st s.turn)
step_did s s' told h stage.Begin at e = made_did s s' told (noticed false (rx_ring s) s.memory) stage.Hand e refl
step_did s s' told h stage.Hand at e = hand_did s s' told h e
step_did s s' told h stage.Fetch at e = in_hand_did s s' told stage.Fetch s.turn.held at refl e
step_did s s' told h stage.NoticesOn at e =
    made_did s s' told (noticed true (rx_ring s) s.memory) stage.FetchAgain e refl
step_did s s' told h stage.FetchAgain at e = in_hand_did s s' told stage.FetchAgain s.turn.held at refl e
step_did s s' told h (stage.NoticesOff way) at e =
    made_did s s' told (noticed false (rx_ring s) s.memory) (stage_of way) e refl
step_did s s' told h stage.Copy at e = in_hand_did s s' told stage.Copy s.turn.held at refl e
step_did s s' told h stage.Out at e = in_hand_did s s' told stage.Out s.turn.held at refl e
step_did s s' told h (stage.Discard had) at e = in_hand_did s s' told (stage.Discard had) s.turn.held at refl e
step_did s s' told h (stage.PutBack end) at e = in_hand_did s s' told (stage.PutBack end) s.turn.held at refl e
step_did s s' told h (stage.Publish end) at e =
    publish_did s s' told end (nat_eq (done_in s.queue) 0) (published_made s) e (told-published s.queue)
step_did s s' told h (stage.Ended end) at e = cc

-- Runs.

both_did :
    (t u v : RxTurn) (q r w : Queue) (xs ys : List Done) (p k b n : ℕ)
    → RxDid t u q r xs p b → RxDid u v r w ys k n → RxDid t v q w (xs ++ ys) (p + k) (b + n)
both_did t u v q r w xs ys p k b n x y = record {
  header = y.header ∙ x.header;
  packets_are = omega (arith, x.packets_are, y.packets_are);
  bytes_are = omega (arith, x.bytes_are, y.bytes_are);
  handled = omega (arith, x.handled, y.handled, length-append xs ys);
  chains = y.chains ∙ (ap (λ front. front ++ map told_of_done ys) x.chains
      ∙ (append_assoc (chains_told q) (map told_of_done xs) (map told_of_done ys)
      ∙ ap (λ rest. chains_told q ++ rest) (sym (map-append told_of_done xs ys))));
}

pub run_did :
    (t t' : RxTurn) (q q' : Queue) (ms : List RxMoment)
    → IsRxRun t q ms t' q' → RxDid t t' q q' (done_by ms) (packets_by ms) (bytes_by ms)
run_did t t' q q' [] run = record {
  header = ap (λ u. u.header) run.0;
  packets_are = omega (arith, ap (λ u. u.packets) run.0);
  bytes_are = omega (arith, ap (λ u. u.bytes) run.0);
  handled = omega (arith, ap (λ u. u.handled) run.0);
  chains = ap chains_told run.1 ∙ sym (append-nil (chains_told q));
}
run_did t t' q q' (m ∷ ms) run =
    let st = m.before.turn.stage in
    let b = m.before.turn in
    let one = step_did m.before m.after m.told m.hand st refl run.2 in
    let P : RxTurn → Type 0 = λ u. RxDid u m.after.turn m.before.queue m.after.queue (done_at st b) (packets_at st) (bytes_at st b) in
    let Q : Queue → Type 0 = λ k. RxDid t m.after.turn k m.after.queue (done_at st b) (packets_at st) (bytes_at st b) in
    both_did t m.after.turn t' q m.after.queue q' (done_at st b) (done_by ms) (packets_at st) (packets_by ms)
    (bytes_at st b) (bytes_by ms)
    (subst Q run.1 (subst P run.0 one)) (run_did m.after.turn t' m.after.queue q' ms run.3)
