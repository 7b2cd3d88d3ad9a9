-- What ends a receive turn.
use Rattle.std.proofs.Common.{◌≡◌, ℕ, ◌+◌, Bool, true, false, List, [], ◌∷◌, ◌++◌, length, Option, None, Some, if◌then◌else◌, nat_le, nat_eq, refl, sym, ap, ◌∙◌, subst, append_assoc}
use Rattle.std.specs.Option.{option_to_list}
use Rattle.std.proofs.lemmas.List.{append-nil}
use Rattle.vring_split.specs.declared.fault.RingFault.{RingFault}
use Rattle.vring_split.specs.declared.segment.Segment.{Segment}
use Rattle.vring_walk.specs.declared.walk.Fetched.{Fetched}
use Rattle.vring_walk.specs.declared.walk.Fetched.TheVariants.{Chain, Nothing, Bad, Crowded}
use Rattle.vhost_queue.specs.Queue.{Queue}
use Rattle.tap_frame.specs.Frame.{FrameValue}
use Rattle.tap_ledger.specs.declared.act.Act.{Act}
use Rattle.tap_ledger.specs.declared.act.Act.TheVariants as act
use Rattle.tap_ledger.specs.declared.hand.Hand.{Hand}
use Rattle.tap_ledger.specs.declared.hand.Hand.TheVariants as hand
use Rattle.vring_turns.specs.declared.end.End.{End}
use Rattle.vring_turns.specs.declared.end.End.TheVariants as end
use Rattle.vring_turns.specs.declared.stage.RxStage.{RxStage}
use Rattle.vring_turns.specs.declared.stage.RxStage.TheVariants as rx
use Rattle.vring_turns.specs.declared.stage.After.{After}
use Rattle.vring_turns.specs.declared.stage.After.TheVariants as after
use Rattle.vring_turns.specs.Ring.{Made, room_in, joined, told_of, found, fetches, noticed, done_in}
use Rattle.vring_turns.specs.ReceiveImage.{need_of}
use Rattle.vring_turns.specs.RxTurn.{RxTurn, RxState, rx_begun, quota, goes_on, rx_ring, rx_made, rewinding, rx_rewinds, rx_way, rx_outs, rx_puts_back, rx_hands, rx_with, rx_in_hand, rx_next, stage_of, rx_at, rx_closing}
use Rattle.vring_turns.specs.RxRun.{RxMoment, IsRxRun}
use Rattle.vring_turns.specs.Standing.{RxStandsAt, RxStands}
use Rattle.vring_turns.specs.Ends.{turns_on, is_again, rx_enough, rx_ends_at, rx_ends_by, RxAgainAt, RxEnds, IsWholeRx, IsShortAt, AreShort}
use Rattle.vring_turns.specs.Stage.{first_answer, need_at, rx_end_at, rx_is_second}
use Rattle.vring_turns.proofs.TxEnds.{told_stopped}
use Rattle.vring_turns.proofs.TxRuns.{some_is}
use Rattle.vring_turns.proofs.RxRuns.{published_made, copied_made}
use Rattle.vring_turns.proofs.Standings.{OrderLaws}
use Rattle.vring_turns.proofs.RxFetches.{after_by, ring_by}
use Rattle.vring_turns.proofs.RxStandings.{receive_stands}

-- what ends a turn at a stage
abbrev ending : RxStage → List End
ending st = option_to_list (rx_end_at st)

-- what a step at a stage brings about and leaves
record Tells (st : RxStage) (s : RxState) (y : RxState × Act) : Type 0 where
  pub ends : ending y.0.turn.stage ≡ ending st ++ rx_ends_at (rx_is_second st) y.1 s y.0
  pub second : rx_is_second y.0.turn.stage ≡ turns_on y.1
  pub again : RxAgainAt st (rx_enough s.turn) → RxAgainAt y.0.turn.stage (rx_enough y.0.turn)
  pub short : RxStandsAt st s.turn s.queue → IsShortAt y.1 s

of_answer :
    (st : RxStage) (s s' : RxState) (told : Act) (x : RxState × Act)
    → Some x ≡ Some (s', told) → Tells st s x → Tells st s (s', told)
of_answer st s s' told x e d =
    let P : RxState × Act → Type 0 = λ y. Tells st s y in
    subst P (some_is x (s', told) e) d

-- Stages that end the turn, after a publication or without one.

closing_end : (b : Bool) (e : End) → ending (if b then rx.Ended e else rx.Publish (Some e)) ≡ e ∷ []
closing_end true e = refl
closing_end false e = refl

closing_second : (b : Bool) (e : End) → rx_is_second (if b then rx.Ended e else rx.Publish (Some e)) ≡ false
closing_second true e = refl
closing_second false e = refl

closing_again :
    (b : Bool) (e : End) (enough : Bool)
    → is_again e ≡ enough → RxAgainAt (if b then rx.Ended e else rx.Publish (Some e)) enough
closing_again true e enough h = h
closing_again false e enough h = h

-- Fetches.

abbrev fetch_at : Bool → RxStage
fetch_at true = rx.FetchAgain
fetch_at false = rx.Fetch

-- a fetch that found this, and led this way
abbrev fetched : Bool → ℕ → Option After → Fetched → List Segment → RxState → RxState × Act
fetched second need way f segments s = (
  record s {
    turn = record s.turn {
      chains = (ring_by second way (joined f segments (rx_ring s))).chains;
      stage = after_by second need s.turn.chains way;
    };
    queue = (ring_by second way (joined f segments (rx_ring s))).queue;
  },
  told_of s.queue.positions.next f,
)

chain_tells :
    (second : Bool) (s : RxState) (need head : ℕ) (segments : List Segment) (a b : Bool) (had : ℕ)
    → Tells (fetch_at second) s
    (fetched second need (Some (if a then after.Copy else (if b then after.Discard had else after.Fetch)))
    (Chain head) segments s)
chain_tells false s need head segments true b had =
    record { ends = refl; second = refl; again = λ h. h; short = λ h. tt }
chain_tells true s need head segments true b had =
    record { ends = refl; second = refl; again = λ h. h; short = λ h. tt }
chain_tells false s need head segments false true had =
    record { ends = refl; second = refl; again = λ h. h; short = λ h. tt }
chain_tells true s need head segments false true had =
    record { ends = refl; second = refl; again = λ h. h; short = λ h. tt }
chain_tells false s need head segments false false had =
    record { ends = refl; second = refl; again = λ h. h; short = λ h. tt }
chain_tells true s need head segments false false had =
    record { ends = refl; second = refl; again = λ h. h; short = λ h. tt }

found_tells :
    (second : Bool) (s : RxState) (need : ℕ) (f : Fetched) (segments : List Segment)
    → need_at s.turn.header s.turn.held ≡ need
    → Tells (fetch_at second) s
    (fetched second need (goes_on s.turn.mergeable need (joined f segments (rx_ring s)).chains f) f segments s)
found_tells second s need (Chain head) segments is =
    let cs = (joined (Chain head) segments (rx_ring s)).chains in
    chain_tells second s need head segments (nat_le need (room_in cs)) (nat_le (quota s.turn.mergeable) (length cs))
    (room_in cs)
found_tells false s need Nothing segments is =
    record { ends = refl; second = refl; again = λ h. h; short = λ h. h }
found_tells true s need Nothing segments is = record {
  ends = ap (λ n. end.Short n (room_in s.turn.chains) ∷ []) (sym is);
  second = refl;
  again = λ h. sym h;
  short = λ h. h;
}
found_tells false s need Crowded segments is =
    record { ends = refl; second = refl; again = λ h. h; short = λ h. tt }
found_tells true s need Crowded segments is =
    record { ends = refl; second = refl; again = λ h. h; short = λ h. tt }
found_tells false s need (Bad fault) segments is =
    record { ends = sym (told_stopped fault); second = refl; again = λ h. sym h; short = λ h. tt }
found_tells true s need (Bad fault) segments is =
    record { ends = sym (told_stopped fault); second = refl; again = λ h. sym h; short = λ h. tt }

fetch_tells :
    (second : Bool) (s s' : RxState) (told : Act) (need : ℕ)
    → need_at s.turn.header s.turn.held ≡ need
    → Some (rx_made (rewinding (rx_rewinds second (rx_way need s)) (fetches (rx_ring s) s.memory))
    (after_by second need s.turn.chains (rx_way need s)) s) ≡ Some (s', told)
    → Tells (fetch_at second) s (s', told)
fetch_tells second s s' told need is e =
    let f = found (rx_ring s) s.memory in
    let way = rx_way need s in
    of_answer (fetch_at second) s s' told
    (rx_made (rewinding (rx_rewinds second way) (fetches (rx_ring s) s.memory))
    (after_by second need s.turn.chains way) s)
    e (found_tells second s need f.0 f.1 is)

-- The other steps.

hand_tells :
    (s s' : RxState) (told : Act) (h : Hand) → rx_hands h s ≡ Some (s', told) → Tells rx.Hand s (s', told)
hand_tells s s' told (hand.Got frame) e =
    let x : RxState × Act =
    (record s { turn = record s.turn { held = Some frame; stage = rx.Fetch } }, act.Hand) in
    of_answer rx.Hand s s' told x e (record { ends = refl; second = refl; again = λ h. h; short = λ h. tt })
hand_tells s s' told (hand.NotReady place) e =
    let b = nat_eq (done_in s.queue) 0 in
    of_answer rx.Hand s s' told (record s { turn = rx_at (rx_closing end.Idle s.queue) s.turn }, act.NotReady) e
    (record {
      ends = closing_end b end.Idle;
      second = closing_second b end.Idle;
      again = λ h. closing_again b end.Idle (rx_enough s.turn) (sym h);
      short = λ h. tt;
    })
hand_tells s s' told hand.Off e = cc
hand_tells s s' told hand.NoMemory e = cc

copy_tells :
    (s s' : RxState) (told : Act) (frame : FrameValue) (b : Bool)
    → (elim (if b then Some (copied_made frame s) else None) as (λ (k : Option Made). Option (RxState × Act)) [
      | None ↦ None
      | Some m ↦
          let next = rx_made m rx.Out s in
          Some (record next.0 { turn = record next.0.turn { handled = s.turn.handled + length s.turn.chains } }, next.1)
    ]) ≡ Some (s', told)
    → Tells rx.Copy s (s', told)
copy_tells s s' told frame false e = cc
copy_tells s s' told frame true e =
    let next = rx_made (copied_made frame s) rx.Out s in
    let x : RxState × Act =
    (record next.0 { turn = record next.0.turn { handled = s.turn.handled + length s.turn.chains } }, next.1) in
    of_answer rx.Copy s s' told x e (record { ends = refl; second = refl; again = λ h. tt; short = λ h. tt })

-- the stage behind a packet, by whether the turn did enough
packet_tells :
    (st : RxStage) (s : RxState) (u : RxState) (told : Act) (enough many none : Bool)
    → ending st ≡ [] → rx_is_second st ≡ false → turns_on told ≡ false → rx_enough u.turn ≡ enough
    → u.turn.stage
    ≡ (if enough then (if none then rx.Ended end.Again else rx.Publish (Some end.Again))
    else (if many then rx.Publish None else rx.Hand))
    → rx_ends_at false told s u ≡ (if enough then end.Again ∷ [] else [])
    → (RxStandsAt st s.turn s.queue → IsShortAt told s)
    → Tells st s (u, told)
packet_tells st s u told true many none no_end first off enough is ends short = record {
  ends = rw (no_end, first, ends) (ap ending is ∙ closing_end none end.Again);
  second = ap rx_is_second is ∙ closing_second none end.Again ∙ sym off;
  again = λ h. rw is (closing_again none end.Again (rx_enough u.turn) (sym enough));
  short = short;
}
packet_tells st s u told false true none no_end first off enough is ends short = record {
  ends = rw (no_end, first, ends) (ap ending is);
  second = ap rx_is_second is ∙ sym off;
  again = λ h. rw is enough;
  short = short;
}
packet_tells st s u told false false none no_end first off enough is ends short = record {
  ends = rw (no_end, first, ends) (ap ending is);
  second = ap rx_is_second is ∙ sym off;
  again = λ h. rw is enough;
  short = short;
}

out_tells :
    (st : RxStage) (s s' : RxState) (told : Act) (n : ℕ) (frame : FrameValue)
    → ending st ≡ [] → rx_is_second st ≡ false → Some (rx_outs n frame s) ≡ Some (s', told)
    → Tells st s (s', told)
out_tells st s s' told n frame no_end first e =
    let x = rx_outs n frame s in
    of_answer st s s' told x e
    (packet_tells st s x.0 x.1 (rx_enough x.0.turn) (nat_le 64 (done_in s.queue)) (nat_eq (done_in s.queue) 0)
    no_end first refl refl refl refl (λ h. tt))

back_tells :
    (s s' : RxState) (told : Act) (k : End) → Some (rx_puts_back k s) ≡ Some (s', told)
    → Tells (rx.PutBack k) s (s', told)
back_tells s s' told k e =
    let b = nat_eq (done_in s.queue) 0 in
    of_answer (rx.PutBack k) s s' told (rx_puts_back k s) e (record {
      ends = closing_end b k;
      second = closing_second b k;
      again = λ h. closing_again b k (rx_enough s.turn) h;
      short = λ h. tt;
    })

publish_tells :
    (s s' : RxState) (told : Act) (o : Option End) (b : Bool)
    → (elim (if b then None else Some (published_made s)) as (λ (k : Option Made). Option (RxState × Act)) [
      | None ↦ None
      | Some m ↦ Some (rx_made m (elim o [ None ↦ rx.Hand | Some e ↦ rx.Ended e ]) s)
    ]) ≡ Some (s', told)
    → Tells (rx.Publish o) s (s', told)
publish_tells s s' told o true e = cc
publish_tells s s' told None false e =
    of_answer (rx.Publish None) s s' told (rx_made (published_made s) rx.Hand s) e
    (record { ends = refl; second = refl; again = λ h. h; short = λ h. tt })
publish_tells s s' told (Some k) false e =
    of_answer (rx.Publish (Some k)) s s' told (rx_made (published_made s) (rx.Ended k) s) e
    (record { ends = refl; second = refl; again = λ h. h; short = λ h. tt })

off_tells :
    (way : After) (s : RxState)
    → Tells (rx.NoticesOff way) s (rx_made (noticed false (rx_ring s) s.memory) (stage_of way) s)
off_tells after.Fetch s = record { ends = refl; second = refl; again = λ h. h; short = λ h. tt }
off_tells after.Copy s = record { ends = refl; second = refl; again = λ h. h; short = λ h. tt }
off_tells (after.Discard had) s = record { ends = refl; second = refl; again = λ h. h; short = λ h. tt }
off_tells (after.PutBack k) s = record { ends = refl; second = refl; again = λ h. h; short = λ h. tt }

with_tells :
    (s s' : RxState) (told : Act) (st : RxStage) (frame : FrameValue)
    → s.turn.held ≡ Some frame → rx_with st frame s ≡ Some (s', told) → Tells st s (s', told)
with_tells s s' told rx.Begin frame held e = cc
with_tells s s' told rx.Hand frame held e = cc
with_tells s s' told rx.Fetch frame held e =
    fetch_tells false s s' told (need_of s.turn.header frame) (ap (λ o. need_at s.turn.header o) held) e
with_tells s s' told rx.NoticesOn frame held e = cc
with_tells s s' told rx.FetchAgain frame held e =
    fetch_tells true s s' told (need_of s.turn.header frame) (ap (λ o. need_at s.turn.header o) held) e
with_tells s s' told (rx.NoticesOff way) frame held e = cc
with_tells s s' told rx.Copy frame held e =
    copy_tells s s' told frame (nat_le (need_of s.turn.header frame) (room_in s.turn.chains)) e
with_tells s s' told rx.Out frame held e =
    out_tells rx.Out s s' told (need_of s.turn.header frame) frame refl refl e
with_tells s s' told (rx.Discard had) frame held e = out_tells (rx.Discard had) s s' told 0 frame refl refl e
with_tells s s' told (rx.PutBack k) frame held e = back_tells s s' told k e
with_tells s s' told (rx.Publish o) frame held e = cc
with_tells s s' told (rx.Ended k) frame held e = cc

held_tells :
    (s s' : RxState) (told : Act) (st : RxStage) (held : Option FrameValue)
    → s.turn.stage ≡ st → s.turn.held ≡ held → rx_in_hand held s ≡ Some (s', told) → Tells st s (s', told)
held_tells s s' told st None is held e = cc
held_tells s s' told st (Some frame) is held e =
    let Q : RxStage → Type 0 = λ k. rx_with k frame s ≡ Some (s', told) in
    with_tells s s' told st frame held (subst Q is e)

step_tells :
    (s s' : RxState) (told : Act) (h : Hand) (st : RxStage)
    → s.turn.stage ≡ st → rx_next st h s ≡ Some (s', told) → Tells st s (s', told)
step_tells s s' told h rx.Begin is e =
    of_answer rx.Begin s s' told (rx_made (noticed false (rx_ring s) s.memory) rx.Hand s) e
    (record { ends = refl; second = refl; again = λ h. h; short = λ h. tt })
step_tells s s' told h rx.Hand is e = hand_tells s s' told h e
step_tells s s' told h rx.Fetch is e = held_tells s s' told rx.Fetch s.turn.held is refl e
step_tells s s' told h rx.NoticesOn is e =
    of_answer rx.NoticesOn s s' told (rx_made (noticed true (rx_ring s) s.memory) rx.FetchAgain s) e
    (record { ends = refl; second = refl; again = λ h. h; short = λ h. tt })
step_tells s s' told h rx.FetchAgain is e = held_tells s s' told rx.FetchAgain s.turn.held is refl e
step_tells s s' told h (rx.NoticesOff way) is e =
    of_answer (rx.NoticesOff way) s s' told (rx_made (noticed false (rx_ring s) s.memory) (stage_of way) s) e
    (off_tells way s)
step_tells s s' told h rx.Copy is e = held_tells s s' told rx.Copy s.turn.held is refl e
step_tells s s' told h rx.Out is e = held_tells s s' told rx.Out s.turn.held is refl e
step_tells s s' told h (rx.Discard had) is e = held_tells s s' told (rx.Discard had) s.turn.held is refl e
step_tells s s' told h (rx.PutBack k) is e = held_tells s s' told (rx.PutBack k) s.turn.held is refl e
step_tells s s' told h (rx.Publish o) is e = publish_tells s s' told o (nat_eq (done_in s.queue) 0) e
step_tells s s' told h (rx.Ended k) is e = cc

-- Runs.

pub run_tells :
    (t t' : RxTurn) (q q' : Queue) (ms : List RxMoment) → IsRxRun t q ms t' q' → RxEnds t t' ms
run_tells t t' q q' [] run =
    let P : RxTurn → Type 0 = λ u. RxEnds t u [] in
    subst P (sym run.0) (record { ends = sym (append-nil (ending t.stage)); again = λ h. h })
run_tells t t' q q' (m ∷ ms) run =
    let P : RxTurn → Type 0 = λ u. RxEnds u t' (m ∷ ms) in
    let one = step_tells m.before m.after m.told m.hand m.before.turn.stage refl run.2 in
    let rest = run_tells m.after.turn t' m.after.queue q' ms run.3 in
    let first = rx_ends_at (rx_is_second m.before.turn.stage) m.told m.before m.after in
    let later : rx_ends_by (rx_is_second m.after.turn.stage) ms ≡ rx_ends_by (turns_on m.told) ms =
    ap (λ b. rx_ends_by b ms) one.second in
    subst P run.0 (record {
      ends = rest.ends
          ∙ (ap (λ front. front ++ rx_ends_by (rx_is_second m.after.turn.stage) ms) one.ends
          ∙ (ap (λ back. (ending m.before.turn.stage ++ first) ++ back) later
          ∙ append_assoc (ending m.before.turn.stage) first (rx_ends_by (turns_on m.told) ms)));
      again = λ h. rest.again (one.again h);
    })

-- a whole turn
pub whole_ends :
    (backed : Bool) (stopped : Option RingFault) (mergeable : Bool) (header : ℕ) (q : Queue) (ms : List RxMoment)
    (t' : RxTurn) (end : End)
    → IsWholeRx (first_answer backed stopped) (rx_begun mergeable header) q ms t' end
    → (option_to_list (first_answer backed stopped) ++ rx_ends_by false ms ≡ end ∷ []) × (is_again end ≡ rx_enough t')
whole_ends false stopped mergeable header q ms t' end (none, same, is) = (rw (none, is) refl, rw (is, same) refl)
whole_ends true (Some fault) mergeable header q ms t' end (none, same, is) =
    (rw (none, is) refl, rw (is, same) refl)
whole_ends true None mergeable header q ms t' end (q', run, over) =
    let tells = run_tells (rx_begun mergeable header) t' q q' ms run in
    let P : RxStage → Type 0 = λ k. RxAgainAt k (rx_enough t') in
    (sym tells.ends ∙ ap ending over, subst P over (tells.again refl))

pub all_short :
    OrderLaws → (t t' : RxTurn) (q q' : Queue) (ms : List RxMoment)
    → RxStands t q → IsRxRun t q ms t' q' → AreShort ms
all_short laws t t' q q' [] stands run = tt
all_short laws t t' q q' (m ∷ ms) stands run =
    let P : RxTurn → Type 0 = λ u. RxStands u q in
    let Q : Queue → Type 0 = λ k. RxStands m.before.turn k in
    let right : RxStands m.before.turn m.before.queue = subst Q (sym run.1) (subst P (sym run.0) stands) in
    let then_ : RxStands m.after.turn m.after.queue =
    receive_stands laws m.before.turn m.after.turn m.before.queue m.after.queue (m ∷ []) right
    (refl, refl, run.2, (refl, refl)) in (
      (step_tells m.before m.after m.told m.hand m.before.turn.stage refl run.2).short right.stage,
      all_short laws m.after.turn t' m.after.queue q' ms then_ run.3,
    )
