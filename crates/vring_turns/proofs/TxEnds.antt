-- What ends a transmit turn.
use Rattle.std.proofs.Common.{◌≡◌, ℕ, Bool, true, false, List, [], ◌∷◌, ◌++◌, Option, None, Some, if◌then◌else◌, nat_le, nat_lt, nat_eq, refl, sym, ap, ◌∙◌, subst, append_assoc, arith}
use Rattle.std.specs.Option.{option_to_list}
use Rattle.std.proofs.lemmas.List.{append-nil}
use Rattle.vring_split.specs.declared.fault.RingFault.{RingFault}
use Rattle.vring_split.specs.declared.segment.Segment.{Segment}
use Rattle.vring_split.specs.Split.{number_of_fault}
use Rattle.vring_walk.specs.declared.walk.Fetched.{Fetched}
use Rattle.vring_walk.specs.declared.walk.Fetched.TheVariants.{Chain, Nothing, Bad, Crowded}
use Rattle.vhost_queue.specs.Queue.{Queue}
use Rattle.tap_frame.specs.declared.reading.BadFrame.{BadFrame}
use Rattle.tap_frame.specs.declared.name.Name.{Name}
use Rattle.tap_frame.specs.Frame.{FrameValue}
use Rattle.tap_ledger.specs.declared.act.Act.{Act}
use Rattle.tap_ledger.specs.declared.act.Act.TheVariants as act
use Rattle.tap_ledger.specs.Host.{with_given}
use Rattle.vring_turns.specs.declared.end.End.{End}
use Rattle.vring_turns.specs.declared.end.End.TheVariants as end
use Rattle.vring_turns.specs.declared.stage.TxStage.{TxStage}
use Rattle.vring_turns.specs.declared.stage.TxStage.TheVariants as tx
use Rattle.vring_turns.specs.Ring.{Gathered, Made, joined, told_of, found, fetches, noticed, done_in, first_position}
use Rattle.vring_turns.specs.TransmitBytes.{bytes_of_chain, refusal_of}
use Rattle.vring_turns.specs.TxTurn.{TxTurn, TxState, tx_begun, tx_ring, tx_made, tx_done, tx_judged, tx_copies, tx_gives, tx_after_packet, tx_after_fetch, tx_after_second, tx_after_notices, tx_next}
use Rattle.vring_turns.specs.TxRun.{Moment, IsTxRun}
use Rattle.vring_turns.specs.Ends.{stopped_by, turns_on, is_again, tx_enough, tx_ends_at, tx_ends_by, TxAgainAt, TxEnds, IsWholeTx}
use Rattle.vring_turns.specs.Stage.{first_answer, tx_end_at, tx_is_second}
use Rattle.vring_turns.proofs.TxRuns.{some_is, published_made}

-- what ends a turn at a stage
abbrev ending : TxStage → List End
ending st = option_to_list (tx_end_at st)

-- what a step at a stage brings about and leaves
record Tells (st : TxStage) (t : TxTurn) (y : TxState × Act) : Type 0 where
  pub ends : ending y.0.turn.stage ≡ ending st ++ tx_ends_at (tx_is_second st) y.1 y.0
  pub second : tx_is_second y.0.turn.stage ≡ turns_on y.1
  pub again : TxAgainAt st (tx_enough t) → TxAgainAt y.0.turn.stage (tx_enough y.0.turn)

of_answer :
    (st : TxStage) (s s' : TxState) (told : Act) (x : TxState × Act)
    → Some x ≡ Some (s', told) → Tells st s.turn x → Tells st s.turn (s', told)
of_answer st s s' told x e d =
    let P : TxState × Act → Type 0 = λ y. Tells st s.turn y in
    subst P (some_is x (s', told) e) d

-- Stages that end the turn, after a publication or without one.

closing_end : (b : Bool) (e : End) → ending (if b then tx.Ended e else tx.Publish (Some e)) ≡ e ∷ []
closing_end true e = refl
closing_end false e = refl

closing_second : (b : Bool) (e : End) → tx_is_second (if b then tx.Ended e else tx.Publish (Some e)) ≡ false
closing_second true e = refl
closing_second false e = refl

closing_again :
    (b : Bool) (e : End) (enough : Bool)
    → is_again e ≡ enough → TxAgainAt (if b then tx.Ended e else tx.Publish (Some e)) enough
closing_again true e enough h = h
closing_again false e enough h = h

-- One step.

same_number : (n : ℕ) → nat_eq n n ≡ true
same_number n = grind arith

-- a fault that stopped the ring, and is told by its number
pub told_stopped : (fault : RingFault) → stopped_by (number_of_fault fault) (Some fault) ≡ end.Stopped fault ∷ []
told_stopped fault = rw (same_number (number_of_fault fault)) refl

-- a fetch that found this
first_tells :
    (st : TxStage) (f : Fetched) (segments : List Segment) (s : TxState)
    → tx_after_fetch s.queue f ≡ Some st
    → Tells tx.Fetch s.turn (
      record s {
        turn = record s.turn { chains = (joined f segments (tx_ring s)).chains; stage = st };
        queue = (joined f segments (tx_ring s)).queue;
      },
      told_of s.queue.positions.next f,
    )
first_tells st (Chain head) segments s e =
    let y : TxStage → TxState × Act = λ k. (
      record s {
        turn = record s.turn { chains = (joined (Chain head) segments (tx_ring s)).chains; stage = k };
        queue = (joined (Chain head) segments (tx_ring s)).queue;
      },
      act.Fetch s.queue.positions.next head,
    ) in
    let P : TxStage → Type 0 = λ k. Tells tx.Fetch s.turn (y k) in
    subst P (some_is tx.Copy st e) (record { ends = refl; second = refl; again = λ h. h })
first_tells st Nothing segments s e =
    let y : TxStage → TxState × Act = λ k. (record s { turn = record s.turn { stage = k } }, act.Nothing) in
    let P : TxStage → Type 0 = λ k. Tells tx.Fetch s.turn (y k) in
    subst P (some_is tx.NoticesOn st e) (record { ends = refl; second = refl; again = λ h. h })
first_tells st (Bad fault) segments s e =
    let b = nat_eq (done_in s.queue) 0 in
    let y : TxStage → TxState × Act = λ k. (
      record s {
        turn = record s.turn { stage = k };
        queue = (joined (Bad fault) segments (tx_ring s)).queue;
      },
      told_of s.queue.positions.next (Bad fault),
    ) in
    let P : TxStage → Type 0 = λ k. Tells tx.Fetch s.turn (y k) in
    subst P (some_is (if b then tx.Ended (end.Stopped fault) else tx.Publish (Some (end.Stopped fault))) st e) (record {
      ends = closing_end b (end.Stopped fault) ∙ sym (told_stopped fault);
      second = closing_second b (end.Stopped fault);
      again = λ h. closing_again b (end.Stopped fault) (tx_enough s.turn) (sym h);
    })
first_tells st Crowded segments s e = cc

second_tells :
    (st : TxStage) (f : Fetched) (segments : List Segment) (s : TxState)
    → tx_after_second s.queue f ≡ Some st
    → Tells tx.FetchAgain s.turn (
      record s {
        turn = record s.turn { chains = (joined f segments (tx_ring s)).chains; stage = st };
        queue = (joined f segments (tx_ring s)).queue;
      },
      told_of s.queue.positions.next f,
    )
second_tells st (Chain head) segments s e =
    let y : TxStage → TxState × Act = λ k. (
      record s {
        turn = record s.turn { chains = (joined (Chain head) segments (tx_ring s)).chains; stage = k };
        queue = (joined (Chain head) segments (tx_ring s)).queue;
      },
      act.Fetch s.queue.positions.next head,
    ) in
    let P : TxStage → Type 0 = λ k. Tells tx.FetchAgain s.turn (y k) in
    subst P (some_is (tx.NoticesOff None) st e) (record { ends = refl; second = refl; again = λ h. h })
second_tells st Nothing segments s e =
    let b = nat_eq (done_in s.queue) 0 in
    let y : TxStage → TxState × Act = λ k. (record s { turn = record s.turn { stage = k } }, act.Nothing) in
    let P : TxStage → Type 0 = λ k. Tells tx.FetchAgain s.turn (y k) in
    subst P (some_is (if b then tx.Ended end.Idle else tx.Publish (Some end.Idle)) st e) (record {
      ends = closing_end b end.Idle;
      second = closing_second b end.Idle;
      again = λ h. closing_again b end.Idle (tx_enough s.turn) (sym h);
    })
second_tells st (Bad fault) segments s e =
    let y : TxStage → TxState × Act = λ k. (
      record s {
        turn = record s.turn { stage = k };
        queue = (joined (Bad fault) segments (tx_ring s)).queue;
      },
      told_of s.queue.positions.next (Bad fault),
    ) in
    let P : TxStage → Type 0 = λ k. Tells tx.FetchAgain s.turn (y k) in
    subst P (some_is (tx.NoticesOff (Some fault)) st e)
    (record { ends = sym (told_stopped fault); second = refl; again = λ h. h })
second_tells st Crowded segments s e = cc

fetch_tells :
    (at : TxStage) (s s' : TxState) (told : Act) (o : Option TxStage)
    → ((st : TxStage) → o ≡ Some st → Tells at s.turn (tx_made (fetches (tx_ring s) s.memory) st s))
    → (elim o as (λ (k : Option TxStage). Option (TxState × Act)) [
      | None ↦ None
      | Some st ↦ Some (tx_made (fetches (tx_ring s) s.memory) st s)
    ]) ≡ Some (s', told)
    → Tells at s.turn (s', told)
fetch_tells at s s' told None each e = cc
fetch_tells at s s' told (Some st) each e =
    of_answer at s s' told (tx_made (fetches (tx_ring s) s.memory) st s) e (each st refl)

off_tells :
    (fault : Option RingFault) (s : TxState)
    → Tells (tx.NoticesOff fault) s.turn
    (tx_made (noticed false (tx_ring s) s.memory) (tx_after_notices s.queue fault) s)
off_tells None s = record { ends = refl; second = refl; again = λ h. h }
off_tells (Some fault) s =
    let b = nat_eq (done_in s.queue) 0 in
    record {
      ends = closing_end b (end.Stopped fault);
      second = closing_second b (end.Stopped fault);
      again = λ h. closing_again b (end.Stopped fault) (tx_enough s.turn) (sym h);
    }

-- the stage behind a packet, by whether the turn did enough
packet_tells :
    (st : TxStage) (t : TxTurn) (u : TxState) (told : Act) (enough many none : Bool)
    → ending st ≡ [] → tx_is_second st ≡ false → turns_on told ≡ false → tx_enough u.turn ≡ enough
    → u.turn.stage
    ≡ (if enough then (if none then tx.Ended end.Again else tx.Publish (Some end.Again))
    else (if many then tx.Publish None else tx.Fetch))
    → tx_ends_at false told u ≡ (if enough then end.Again ∷ [] else [])
    → Tells st t (u, told)
packet_tells st t u told true many none no_end first off enough is ends =
    let P : TxStage → Type 0 = λ k. ending k ≡ ending st ++ tx_ends_at (tx_is_second st) told u in
    record {
      ends = rw (no_end, first, ends) (ap ending is ∙ closing_end none end.Again);
      second = ap tx_is_second is ∙ closing_second none end.Again ∙ sym off;
      again = λ h. rw is (closing_again none end.Again (tx_enough u.turn) (sym enough));
    }
packet_tells st t u told false true none no_end first off enough is ends = record {
  ends = rw (no_end, first, ends) (ap ending is);
  second = ap tx_is_second is ∙ sym off;
  again = λ h. rw is enough;
}
packet_tells st t u told false false none no_end first off enough is ends = record {
  ends = rw (no_end, first, ends) (ap ending is);
  second = ap tx_is_second is ∙ sym off;
  again = λ h. rw is enough;
}

again_is : (b : Bool) → (if b then end.Again ∷ [] else []) ≡ (if b then end.Again ∷ [] else [])
again_is b = refl

judged_tells :
    (s s' : TxState) (told : Act) (c : Gathered) (position : ℕ) (bytes : List ℕ) (bad : Option BadFrame)
    → Some (tx_judged position bytes bad (tx_done c s)) ≡ Some (s', told)
    → Tells tx.Copy s.turn (s', told)
judged_tells s s' told c position bytes (Some bad) e =
    let u = tx_done c s in
    let x = tx_judged position bytes (Some bad) u in
    of_answer tx.Copy s s' told x e
    (packet_tells tx.Copy s.turn x.0 x.1 (tx_enough u.turn) (nat_le 64 (done_in u.queue)) (nat_eq (done_in u.queue) 0)
    refl refl refl refl refl refl)
judged_tells s s' told c position bytes None e =
    of_answer tx.Copy s s' told (tx_judged position bytes None (tx_done c s)) e
    (record { ends = refl; second = refl; again = λ h. tt })

copy_tells :
    (s s' : TxState) (told : Act) (chains : List Gathered)
    → tx_copies chains s ≡ Some (s', told) → Tells tx.Copy s.turn (s', told)
copy_tells s s' told [] e = cc
copy_tells s s' told (c ∷ cs) e =
    judged_tells s s' told c (first_position (tx_ring s)) (bytes_of_chain s.turn.header s.memory c)
    (refusal_of s.turn.header (bytes_of_chain s.turn.header s.memory c)) e

give_tells :
    (s s' : TxState) (told : Act) (held : Option FrameValue)
    → tx_gives held s ≡ Some (s', told) → Tells tx.Give s.turn (s', told)
give_tells s s' told None e = cc
give_tells s s' told (Some frame) e = room (nat_lt 0 s.host.room) e
  where
    x : TxState
    x = record s {
      turn = record s.turn { held = None; stage = tx_after_packet s.turn s.queue };
      host = with_given frame s.host;
    }

    room :
        (b : Bool)
        → if◌then◌else◌ {A = Option (TxState × Act)} b (Some (x, act.Given frame.name)) None ≡ Some (s', told)
        → Tells tx.Give s.turn (s', told)
    room true e =
        of_answer tx.Give s s' told (x, act.Given frame.name) e
        (packet_tells tx.Give s.turn x (act.Given frame.name) (tx_enough s.turn) (nat_le 64 (done_in s.queue))
        (nat_eq (done_in s.queue) 0) refl refl refl refl refl refl)
    room false e = cc

publish_tells :
    (s s' : TxState) (told : Act) (o : Option End) (b : Bool)
    → (elim (if b then None else Some (published_made s)) as (λ (k : Option Made). Option (TxState × Act)) [
      | None ↦ None
      | Some m ↦ Some (tx_made m (elim o [ None ↦ tx.Fetch | Some e ↦ tx.Ended e ]) s)
    ]) ≡ Some (s', told)
    → Tells (tx.Publish o) s.turn (s', told)
publish_tells s s' told o true e = cc
publish_tells s s' told None false e =
    of_answer (tx.Publish None) s s' told (tx_made (published_made s) tx.Fetch s) e
    (record { ends = refl; second = refl; again = λ h. h })
publish_tells s s' told (Some k) false e =
    of_answer (tx.Publish (Some k)) s s' told (tx_made (published_made s) (tx.Ended k) s) e
    (record { ends = refl; second = refl; again = λ h. h })

step_tells :
    (s s' : TxState) (told : Act) (st : TxStage) → tx_next st s ≡ Some (s', told) → Tells st s.turn (s', told)
step_tells s s' told tx.Begin e =
    of_answer tx.Begin s s' told (tx_made (noticed false (tx_ring s) s.memory) tx.Fetch s) e
    (record { ends = refl; second = refl; again = λ h. h })
step_tells s s' told tx.Fetch e =
    let f = found (tx_ring s) s.memory in
    fetch_tells tx.Fetch s s' told (tx_after_fetch s.queue f.0) (λ st is. first_tells st f.0 f.1 s is) e
step_tells s s' told tx.NoticesOn e =
    of_answer tx.NoticesOn s s' told (tx_made (noticed true (tx_ring s) s.memory) tx.FetchAgain s) e
    (record { ends = refl; second = refl; again = λ h. h })
step_tells s s' told tx.FetchAgain e =
    let f = found (tx_ring s) s.memory in
    fetch_tells tx.FetchAgain s s' told (tx_after_second s.queue f.0) (λ st is. second_tells st f.0 f.1 s is) e
step_tells s s' told (tx.NoticesOff fault) e =
    of_answer (tx.NoticesOff fault) s s' told
    (tx_made (noticed false (tx_ring s) s.memory) (tx_after_notices s.queue fault) s) e (off_tells fault s)
step_tells s s' told tx.Copy e = copy_tells s s' told s.turn.chains e
step_tells s s' told tx.Give e = give_tells s s' told s.turn.held e
step_tells s s' told (tx.Publish o) e = publish_tells s s' told o (nat_eq (done_in s.queue) 0) e
step_tells s s' told (tx.Ended k) e = cc

-- Runs.

pub run_tells :
    (t t' : TxTurn) (q q' : Queue) (ms : List Moment) → IsTxRun t q ms t' q' → TxEnds t t' ms
run_tells t t' q q' [] run =
    let P : TxTurn → Type 0 = λ u. TxEnds t u [] in
    subst P (sym run.0) (record { ends = sym (append-nil (ending t.stage)); again = λ h. h })
run_tells t t' q q' (m ∷ ms) run =
    let P : TxTurn → Type 0 = λ u. TxEnds u t' (m ∷ ms) in
    let one = step_tells m.before m.after m.told m.before.turn.stage run.2 in
    let rest = run_tells m.after.turn t' m.after.queue q' ms run.3 in
    let later : tx_ends_by (tx_is_second m.after.turn.stage) ms ≡ tx_ends_by (turns_on m.told) ms =
    ap (λ b. tx_ends_by b ms) one.second in
    subst P run.0 (record {
      ends = rest.ends
          ∙ (ap (λ front. front ++ tx_ends_by (tx_is_second m.after.turn.stage) ms) one.ends
          ∙ (ap (λ back.
          (ending m.before.turn.stage
          ++ tx_ends_at (tx_is_second m.before.turn.stage) m.told m.after) ++ back) later
          ∙ append_assoc (ending m.before.turn.stage)
          (tx_ends_at (tx_is_second m.before.turn.stage) m.told m.after) (tx_ends_by (turns_on m.told) ms)));
      again = λ h. rest.again (one.again h);
    })

-- a whole turn
pub whole_ends :
    (backed : Bool) (stopped : Option RingFault) (header : ℕ) (first : Name) (q : Queue) (ms : List Moment)
    (t' : TxTurn) (end : End)
    → IsWholeTx (first_answer backed stopped) (tx_begun header first) q ms t' end
    → (option_to_list (first_answer backed stopped) ++ tx_ends_by false ms ≡ end ∷ []) × (is_again end ≡ tx_enough t')
whole_ends false stopped header first q ms t' end (none, same, is) = (rw (none, is) refl, rw (is, same) refl)
whole_ends true (Some fault) header first q ms t' end (none, same, is) = (rw (none, is) refl, rw (is, same) refl)
whole_ends true None header first q ms t' end (q', run, over) =
    let tells = run_tells (tx_begun header first) t' q q' ms run in
    let P : TxStage → Type 0 = λ k. TxAgainAt k (tx_enough t') in
    (sym tells.ends ∙ ap ending over, subst P over (tells.again refl))
