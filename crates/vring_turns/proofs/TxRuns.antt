-- What each step of a transmit turn adds, and a run of them.
use Rattle.std.proofs.Common.{◌≡◌, ℕ, ◌+◌, Bool, true, false, List, [], ◌∷◌, ◌++◌, map, Option, None, Some, unwrap_or, if◌then◌else◌, nat_lt, nat_eq, refl, sym, ap, ◌∙◌, subst, arith, append_assoc}
use Rattle.std.proofs.lemmas.List.{append-nil, length-append, map-append}
use Rattle.vring_split.specs.declared.segment.Segment.{Segment}
use Rattle.vring_walk.specs.declared.walk.Fetched.{Fetched}
use Rattle.vring_walk.specs.declared.walk.Fetched.TheVariants.{Chain, Nothing, Bad, Crowded}
use Rattle.vhost_queue.specs.declared.done.Done.{Done}
use Rattle.vhost_queue.specs.Positions.{Published, after, with_done, first_done, published_from}
use Rattle.vhost_queue.specs.Queue.{Queue}
use Rattle.vhost_queue.specs.Publication.{with_published, published_in, wants_notice, next_used}
use Rattle.tap_frame.specs.declared.reading.BadFrame.{BadFrame}
use Rattle.tap_frame.specs.Frame.{FrameValue}
use Rattle.tap_ledger.specs.declared.act.Act.{Act}
use Rattle.tap_ledger.specs.declared.act.Act.TheVariants as act
use Rattle.tap_ledger.specs.Host.{with_given}
use Rattle.vring_turns.specs.declared.end.End.{End}
use Rattle.vring_turns.specs.declared.stage.TxStage.{TxStage}
use Rattle.vring_turns.specs.declared.stage.TxStage.TheVariants.{Begin, Fetch, NoticesOn, FetchAgain, NoticesOff, Copy, Give, Publish, Ended}
use Rattle.vring_turns.specs.Ring.{Gathered, Ring, Made, joined, found, fetches, noticed, done_in, first_position}
use Rattle.vring_turns.specs.TransmitBytes.{bytes_of_chain, counted, refusal_of}
use Rattle.vring_turns.specs.TxTurn.{TxTurn, TxState, tx_ring, tx_made, tx_done, tx_judged, tx_copies, tx_gives, tx_after_fetch, tx_after_second, tx_after_notices, tx_after_packet, tx_next}
use Rattle.vring_turns.specs.TxRun.{Moment, IsTxRun, reads_at, first_chain, read_by, counted_in, chains_told, TxDid}

-- what stands in a step's answer
pub some_is : {A : Type 0} (x y : A) → Some x ≡ Some y → x ≡ y
some_is x y e = ap (λ o. unwrap_or o x) e

-- nothing was read
pub idle_did :
    (t t' : TxTurn) (q q' : Queue)
    → t'.header ≡ t.header → t'.packets ≡ t.packets → t'.bytes ≡ t.bytes → chains_told q' ≡ chains_told q
    → TxDid t t' q q' []
idle_did t t' q q' h p b c = record {
  header = h;
  packets = omega (arith, p);
  bytes = omega (arith, b);
  chains = c ∙ sym (append-nil (chains_told q));
}

-- the published and the done ones are told alike
abbrev pub told_of_published : Published → ℕ × ℕ
told_of_published e = (e.1, e.2)

abbrev pub told_of_done : Done → ℕ × ℕ
told_of_done d = (d.head, d.len)

told-published_from :
    (position : ℕ) (ds : List Done)
    → map told_of_published (published_from position ds) ≡ map told_of_done ds
told-published_from position [] = refl
told-published_from position (d ∷ ds) =
    ap (λ rest. told_of_done d ∷ rest) (told-published_from (after position 1) ds)

pub told-published : (q : Queue) → chains_told (with_published q) ≡ chains_told q
told-published q =
    let F : Published → ℕ × ℕ = λ e. (e.1, e.2) in
    append-nil (map F (q.positions.journal ++ published_from (first_done q.positions) q.positions.done))
    ∙ (map-append F q.positions.journal (published_from (first_done q.positions) q.positions.done)
    ∙ ap (λ rest. map F q.positions.journal ++ rest) (told-published_from (first_done q.positions) q.positions.done))

pub told-joined : (f : Fetched) (segments : List Segment) (r : Ring) → chains_told (joined f segments r).queue ≡ chains_told r.queue
told-joined (Chain head) segments r = refl
told-joined Nothing segments r = refl
told-joined Crowded segments r = refl
told-joined (Bad fault) segments r = refl

-- one more chain is done
told-done :
    (q : Queue) (head : ℕ)
    → chains_told (record q { positions = with_done head 0 q.positions }) ≡ chains_told q ++ (head, 0) ∷ []
told-done q head =
    let D : Done → ℕ × ℕ = λ d. (d.head, d.len) in
    let J = map (λ (e : Published). (e.1, e.2)) q.positions.journal in
    ap (λ rest. J ++ rest) (map-append D q.positions.done (record { head = head; len = 0 } ∷ []))
    ∙ sym (append_assoc J (map D q.positions.done) ((head, 0) ∷ []))

-- One step.

made_did :
    (s s' : TxState) (told : Act) (made : Made) (stage : TxStage)
    → Some (tx_made made stage s) ≡ Some (s', told)
    → chains_told made.ring.queue ≡ chains_told s.queue
    → TxDid s.turn s'.turn s.queue s'.queue []
made_did s s' told made stage e c =
    let is : (tx_made made stage s).0 ≡ s' = ap (λ p. p.0) (some_is (tx_made made stage s) (s', told) e) in
    let P : TxState → Type 0 = λ u. TxDid s.turn u.turn s.queue u.queue [] in
    subst P is (idle_did s.turn (tx_made made stage s).0.turn s.queue made.ring.queue refl refl refl c)

fetch_did :
    (s s' : TxState) (told : Act) (o : Option TxStage)
    → (elim o as (λ (k : Option TxStage). Option (TxState × Act)) [
      | None ↦ None
      | Some stage ↦ Some (tx_made (fetches (tx_ring s) s.memory) stage s)
    ]) ≡ Some (s', told)
    → TxDid s.turn s'.turn s.queue s'.queue []
fetch_did s s' told None e = cc
fetch_did s s' told (Some stage) e =
    made_did s s' told (fetches (tx_ring s) s.memory) stage e
    (told-joined (found (tx_ring s) s.memory).0 (found (tx_ring s) s.memory).1 (tx_ring s))

-- a state that has one more packet, whose chain is done
done_did :
    (s u : TxState) (c : Gathered)
    → u.turn.header ≡ s.turn.header → u.turn.packets ≡ s.turn.packets + 1
    → u.turn.bytes ≡ s.turn.bytes + counted s.turn.header c → u.queue ≡ (tx_done c s).queue
    → TxDid s.turn u.turn s.queue u.queue (c ∷ [])
done_did s u c h p b q = record {
  header = h;
  packets = p;
  bytes = omega (arith, b);
  chains = ap chains_told q ∙ told-done s.queue c.head;
}

judged_did :
    (s s' : TxState) (told : Act) (c : Gathered) (position : ℕ) (bytes : List ℕ) (bad : Option BadFrame)
    → Some (tx_judged position bytes bad (tx_done c s)) ≡ Some (s', told)
    → TxDid s.turn s'.turn s.queue s'.queue (c ∷ [])
judged_did s s' told c position bytes (Some bad) e =
    let x = tx_judged position bytes (Some bad) (tx_done c s) in
    let P : TxState → Type 0 = λ u. TxDid s.turn u.turn s.queue u.queue (c ∷ []) in
    subst P (ap (λ p. p.0) (some_is x (s', told) e)) (done_did s x.0 c refl refl refl refl)
judged_did s s' told c position bytes None e =
    let x = tx_judged position bytes None (tx_done c s) in
    let P : TxState → Type 0 = λ u. TxDid s.turn u.turn s.queue u.queue (c ∷ []) in
    subst P (ap (λ p. p.0) (some_is x (s', told) e)) (done_did s x.0 c refl refl refl refl)

copy_did :
    (s s' : TxState) (told : Act) (chains : List Gathered)
    → tx_copies chains s ≡ Some (s', told) → TxDid s.turn s'.turn s.queue s'.queue (first_chain chains)
copy_did s s' told [] e = cc
copy_did s s' told (c ∷ cs) e =
    judged_did s s' told c (first_position (tx_ring s)) (bytes_of_chain s.turn.header s.memory c)
    (refusal_of s.turn.header (bytes_of_chain s.turn.header s.memory c)) e

give_did :
    (s s' : TxState) (told : Act) (held : Option FrameValue)
    → tx_gives held s ≡ Some (s', told) → TxDid s.turn s'.turn s.queue s'.queue []
give_did s s' told None e = cc
give_did s s' told (Some frame) e = room_did (nat_lt 0 s.host.room) e
  where
    x : TxState
    x = record s {
      turn = record s.turn { held = None; stage = tx_after_packet s.turn s.queue };
      host = with_given frame s.host;
    }

    room_did :
        (b : Bool) → if◌then◌else◌ {A = Option (TxState × Act)} b (Some (x, act.Given frame.name)) None ≡ Some (s', told)
        → TxDid s.turn s'.turn s.queue s'.queue []
    room_did true e =
        let P : TxState → Type 0 = λ u. TxDid s.turn u.turn s.queue u.queue [] in
        subst P (ap (λ p. p.0) (some_is (x, act.Given frame.name) (s', told) e))
        (idle_did s.turn x.turn s.queue x.queue refl refl refl refl)
    room_did false e = cc

-- what a publication makes, where anything is done
abbrev pub published_made : TxState → Made
published_made s = record {
  ring = record (tx_ring s) { queue = with_published s.queue };
  memory = published_in s.queue s.memory;
  told = act.Publish (done_in s.queue)
      (wants_notice s.queue.layout s.queue.used (next_used s.queue) (published_in s.queue s.memory));
}

publish_did :
    (s s' : TxState) (told : Act) (end : Option End) (b : Bool) (made : Made)
    → (elim (if b then None else Some made) as (λ (k : Option Made). Option (TxState × Act)) [
      | None ↦ None
      | Some m ↦ Some (tx_made m (elim end [ None ↦ Fetch | Some e ↦ Ended e ]) s)
    ]) ≡ Some (s', told)
    → chains_told made.ring.queue ≡ chains_told s.queue
    → TxDid s.turn s'.turn s.queue s'.queue []
publish_did s s' told end true made e c = cc
publish_did s s' told end false made e c =
    made_did s s' told made (elim end [ None ↦ Fetch | Some e ↦ Ended e ]) e c

step_did :
    (s s' : TxState) (told : Act) (st : TxStage)
    → s.turn.stage ≡ st → tx_next st s ≡ Some (s', told)
    → TxDid s.turn s'.turn s.queue s'.queue (reads_at st s)
step_did s s' told Begin at e = made_did s s' told (noticed false (tx_ring s) s.memory) Fetch e refl
step_did s s' told Fetch at e = fetch_did s s' told (tx_after_fetch s.queue (found (tx_ring s) s.memory).0) e
step_did s s' told NoticesOn at e = made_did s s' told (noticed true (tx_ring s) s.memory) FetchAgain e refl
step_did s s' told FetchAgain at e = fetch_did s s' told (tx_after_second s.queue (found (tx_ring s) s.memory).0) e
step_did s s' told (NoticesOff fault) at e =
    made_did s s' told (noticed false (tx_ring s) s.memory) (tx_after_notices s.queue fault) e refl
step_did s s' told Copy at e = copy_did s s' told s.turn.chains e
step_did s s' told Give at e = give_did s s' told s.turn.held e
step_did s s' told (Publish end) at e =
    publish_did s s' told end (nat_eq (done_in s.queue) 0) (published_made s) e (told-published s.queue)
step_did s s' told (Ended end) at e = cc

-- Runs.

counted_in-append :
    (size : ℕ) (xs ys : List Gathered) → counted_in size (xs ++ ys) ≡ counted_in size xs + counted_in size ys
counted_in-append size [] ys = omega arith
counted_in-append size (x ∷ xs) ys = omega (arith, counted_in-append size xs ys)

both_did :
    (t u v : TxTurn) (q r w : Queue) (xs ys : List Gathered)
    → TxDid t u q r xs → TxDid u v r w ys → TxDid t v q w (xs ++ ys)
both_did t u v q r w xs ys a b =
    let H : Gathered → ℕ × ℕ = λ c. (c.head, 0) in
    let n = length-append xs ys in
    let k = counted_in-append t.header xs ys in
    let m : counted_in u.header ys ≡ counted_in t.header ys = ap (λ size. counted_in size ys) a.header in
    record {
      header = b.header ∙ a.header;
      packets = omega (arith, a.packets, b.packets, n);
      bytes = omega (arith, a.bytes, b.bytes, k, m);
      chains = b.chains ∙ (ap (λ front. front ++ map H ys) a.chains
          ∙ (append_assoc (chains_told q) (map H xs) (map H ys)
          ∙ ap (λ rest. chains_told q ++ rest) (sym (map-append H xs ys))));
    }

pub run_did :
    (t t' : TxTurn) (q q' : Queue) (ms : List Moment) → IsTxRun t q ms t' q' → TxDid t t' q q' (read_by ms)
run_did t t' q q' [] run = idle_did t t' q q'
    (ap (λ u. u.header) run.0) (ap (λ u. u.packets) run.0) (ap (λ u. u.bytes) run.0) (ap chains_told run.1)
run_did t t' q q' (m ∷ ms) run =
    let one = step_did m.before m.after m.told m.before.turn.stage refl run.2 in
    let P : TxTurn → Type 0 = λ u. TxDid u m.after.turn m.before.queue m.after.queue (reads_at m.before.turn.stage m.before) in
    let Q : Queue → Type 0 = λ k. TxDid t m.after.turn k m.after.queue (reads_at m.before.turn.stage m.before) in
    both_did t m.after.turn t' q m.after.queue q' (reads_at m.before.turn.stage m.before) (read_by ms)
    (subst Q run.1 (subst P run.0 one)) (run_did m.after.turn t' m.after.queue q' ms run.3)
