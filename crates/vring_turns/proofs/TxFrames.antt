-- No step of a transmit turn loses a frame.
use Rattle.std.proofs.Common.{◌≡◌, ℕ, Bool, true, false, List, [], ◌∷◌, ◌++◌, Option, None, Some, is_some, if◌then◌else◌, nat_le, nat_lt, nat_eq, refl, sym, ap, ◌∙◌, subst, append_assoc}
use Rattle.std.specs.Option.{option_to_list}
use Rattle.std.proofs.lemmas.List.{append-nil}
use Rattle.vring_split.specs.declared.fault.RingFault.{RingFault}
use Rattle.vring_walk.specs.declared.walk.Fetched.{Fetched}
use Rattle.vring_walk.specs.declared.walk.Fetched.TheVariants.{Chain, Nothing, Bad, Crowded}
use Rattle.vhost_queue.specs.Queue.{Queue}
use Rattle.tap_frame.specs.declared.reading.BadFrame.{BadFrame}
use Rattle.tap_frame.specs.Frame.{FrameValue}
use Rattle.tap_ledger.specs.declared.act.Act.{Act}
use Rattle.tap_ledger.specs.declared.act.Act.TheVariants as act
use Rattle.tap_ledger.specs.Host.{with_given}
use Rattle.vring_turns.specs.declared.end.End.{End}
use Rattle.vring_turns.specs.declared.end.End.TheVariants.{Idle, Again, Stopped}
use Rattle.vring_turns.specs.declared.stage.TxStage.{TxStage}
use Rattle.vring_turns.specs.declared.stage.TxStage.TheVariants.{Begin, Fetch, NoticesOn, FetchAgain, NoticesOff, Copy, Give, Publish, Ended}
use Rattle.vring_turns.specs.Ring.{Gathered, Made, found, fetches, noticed, done_in, first_position}
use Rattle.vring_turns.specs.Turn.{is_enough, publishes_at}
use Rattle.vring_turns.specs.TransmitBytes.{bytes_of_chain, refusal_of}
use Rattle.vring_turns.specs.TxTurn.{TxTurn, TxState, tx_ring, tx_made, tx_done, tx_judged, tx_copies, tx_gives, tx_closing, tx_after_packet, tx_after_fetch, tx_after_second, tx_after_notices, tx_next}
use Rattle.vring_turns.specs.TxRun.{Moment, IsTxRun, accepts_at, gives_at, accepted_by, given_by, HoldsRightly, PassesFrames}
use Rattle.vring_turns.specs.Stage.{is_giving}
use Rattle.vring_turns.proofs.TxRuns.{some_is, published_made}

-- Stages at which nothing is given.

closing_by : (b : Bool) (end : End) → is_giving (if b then Ended end else Publish (Some end)) ≡ false
closing_by true end = refl
closing_by false end = refl

closing_calm : (end : End) (q : Queue) → is_giving (tx_closing end q) ≡ false
closing_calm end q = closing_by (nat_eq (done_in q) 0) end

packet_by :
    (a b : Bool) (st : TxStage) → is_giving st ≡ false
    → is_giving (if a then st else (if b then Publish None else Fetch)) ≡ false
packet_by true b st e = e
packet_by false true st e = refl
packet_by false false st e = refl

packet_calm : (t : TxTurn) (q : Queue) → is_giving (tx_after_packet t q) ≡ false
packet_calm t q =
    packet_by (is_enough t.packets t.bytes t.packets) (nat_le publishes_at (done_in q)) (tx_closing Again q)
    (closing_calm Again q)

abbrev IsCalm : Option TxStage → Type 0
IsCalm None = Unit {0}
IsCalm (Some st) = is_giving st ≡ false

fetch_calm : (q : Queue) (f : Fetched) → IsCalm (tx_after_fetch q f)
fetch_calm q (Chain head) = refl
fetch_calm q Nothing = refl
fetch_calm q (Bad fault) = closing_calm (Stopped fault) q
fetch_calm q Crowded = tt

second_calm : (q : Queue) (f : Fetched) → IsCalm (tx_after_second q f)
second_calm q (Chain head) = refl
second_calm q Nothing = closing_calm Idle q
second_calm q (Bad fault) = refl
second_calm q Crowded = tt

notices_calm : (q : Queue) (fault : Option RingFault) → is_giving (tx_after_notices q fault) ≡ false
notices_calm q None = refl
notices_calm q (Some fault) = closing_calm (Stopped fault) q

publish_calm : (end : Option End) → is_giving (elim end [ None ↦ Fetch | Some e ↦ Ended e ]) ≡ false
publish_calm None = refl
publish_calm (Some e) = refl

-- One step.

-- a step that leaves the frame, from a stage at which none is given to another
leaves :
    (s s' : TxState) (told : Act) (made : Made) (st : TxStage)
    → Some (tx_made made st s) ≡ Some (s', told) → is_some s.turn.held ≡ false → is_giving st ≡ false
    → PassesFrames s.turn s'.turn [] []
leaves s s' told made st e none calm =
    let P : TxState → Type 0 = λ u. PassesFrames s.turn u.turn [] [] in
    subst P (ap (λ p. p.0) (some_is (tx_made made st s) (s', told) e)) (record {
      frames = sym (append-nil (option_to_list s.turn.held));
      rightly = none ∙ sym calm;
    })

fetch_passes :
    (s s' : TxState) (told : Act) (o : Option TxStage)
    → IsCalm o
    → (elim o as (λ (k : Option TxStage). Option (TxState × Act)) [
      | None ↦ None
      | Some stage ↦ Some (tx_made (fetches (tx_ring s) s.memory) stage s)
    ]) ≡ Some (s', told)
    → is_some s.turn.held ≡ false → PassesFrames s.turn s'.turn [] []
fetch_passes s s' told None calm e none = cc
fetch_passes s s' told (Some st) calm e none = leaves s s' told (fetches (tx_ring s) s.memory) st e none calm

publish_passes :
    (s s' : TxState) (told : Act) (end : Option End) (b : Bool)
    → (elim (if b then None else Some (published_made s)) as (λ (k : Option Made). Option (TxState × Act)) [
      | None ↦ None
      | Some m ↦ Some (tx_made m (elim end [ None ↦ Fetch | Some e ↦ Ended e ]) s)
    ]) ≡ Some (s', told)
    → is_some s.turn.held ≡ false → PassesFrames s.turn s'.turn [] []
publish_passes s s' told end true e none = cc
publish_passes s s' told end false e none =
    leaves s s' told (published_made s) (elim end [ None ↦ Fetch | Some e ↦ Ended e ]) e none (publish_calm end)

none_held : (o : Option FrameValue) → is_some o ≡ false → option_to_list o ≡ []
none_held None e = refl
none_held (Some frame) e = cc

judged_passes :
    (s s' : TxState) (told : Act) (c : Gathered) (position : ℕ) (bytes : List ℕ) (bad : Option BadFrame)
    → Some (tx_judged position bytes bad (tx_done c s)) ≡ Some (s', told) → is_some s.turn.held ≡ false
    → PassesFrames s.turn s'.turn (option_to_list s'.turn.held) []
judged_passes s s' told c position bytes (Some bad) e none =
    let x = tx_judged position bytes (Some bad) (tx_done c s) in
    let P : TxState → Type 0 = λ u. PassesFrames s.turn u.turn (option_to_list u.turn.held) [] in
    let n = none_held s.turn.held none in
    subst P (ap (λ p. p.0) (some_is x (s', told) e)) (record {
      frames = sym (ap (λ front. front ++ option_to_list s.turn.held) n);
      rightly = none ∙ sym (packet_calm (tx_done c s).turn (tx_done c s).queue);
    })
judged_passes s s' told c position bytes None e none =
    let x = tx_judged position bytes None (tx_done c s) in
    let P : TxState → Type 0 = λ u. PassesFrames s.turn u.turn (option_to_list u.turn.held) [] in
    let n = none_held s.turn.held none in
    subst P (ap (λ p. p.0) (some_is x (s', told) e)) (record {
      frames = sym (ap (λ front. front ++ option_to_list x.0.turn.held) n);
      rightly = refl;
    })

copy_passes :
    (s s' : TxState) (told : Act) (chains : List Gathered)
    → tx_copies chains s ≡ Some (s', told) → is_some s.turn.held ≡ false
    → PassesFrames s.turn s'.turn (option_to_list s'.turn.held) []
copy_passes s s' told [] e none = cc
copy_passes s s' told (c ∷ cs) e none =
    judged_passes s s' told c (first_position (tx_ring s)) (bytes_of_chain s.turn.header s.memory c)
    (refusal_of s.turn.header (bytes_of_chain s.turn.header s.memory c)) e none

give_passes :
    (s s' : TxState) (told : Act) (held : Option FrameValue)
    → s.turn.held ≡ held → tx_gives held s ≡ Some (s', told)
    → PassesFrames s.turn s'.turn [] (option_to_list s.turn.held)
give_passes s s' told None h e = cc
give_passes s s' told (Some frame) h e = room_passes (nat_lt 0 s.host.room) e
  where
    x : TxState
    x = record s {
      turn = record s.turn { held = None; stage = tx_after_packet s.turn s.queue };
      host = with_given frame s.host;
    }

    room_passes :
        (b : Bool) → if◌then◌else◌ {A = Option (TxState × Act)} b (Some (x, act.Given frame.name)) None ≡ Some (s', told)
        → PassesFrames s.turn s'.turn [] (option_to_list s.turn.held)
    room_passes true e =
        let P : TxState → Type 0 = λ u. PassesFrames s.turn u.turn [] (option_to_list s.turn.held) in
        subst P (ap (λ p. p.0) (some_is (x, act.Given frame.name) (s', told) e)) (record {
          frames = refl;
          rightly = sym (packet_calm s.turn s.queue);
        })
    room_passes false e = cc

step_passes :
    (s s' : TxState) (told : Act) (st : TxStage)
    → s.turn.stage ≡ st → is_some s.turn.held ≡ is_giving st → tx_next st s ≡ Some (s', told)
    → PassesFrames s.turn s'.turn (accepts_at st s') (gives_at st s)
step_passes s s' told Begin at none e = leaves s s' told (noticed false (tx_ring s) s.memory) Fetch e none refl
step_passes s s' told Fetch at none e =
    let f = (found (tx_ring s) s.memory).0 in
    fetch_passes s s' told (tx_after_fetch s.queue f) (fetch_calm s.queue f) e none
step_passes s s' told NoticesOn at none e =
    leaves s s' told (noticed true (tx_ring s) s.memory) FetchAgain e none refl
step_passes s s' told FetchAgain at none e =
    let f = (found (tx_ring s) s.memory).0 in
    fetch_passes s s' told (tx_after_second s.queue f) (second_calm s.queue f) e none
step_passes s s' told (NoticesOff fault) at none e =
    leaves s s' told (noticed false (tx_ring s) s.memory) (tx_after_notices s.queue fault) e none
    (notices_calm s.queue fault)
step_passes s s' told Copy at none e = copy_passes s s' told s.turn.chains e none
step_passes s s' told Give at some e = give_passes s s' told s.turn.held refl e
step_passes s s' told (Publish end) at none e =
    publish_passes s s' told end (nat_eq (done_in s.queue) 0) e none
step_passes s s' told (Ended end) at none e = cc

-- Runs.

both_pass :
    (t u v : TxTurn) (a b g h : List FrameValue)
    → PassesFrames t u a g → PassesFrames u v b h → PassesFrames t v (a ++ b) (g ++ h)
both_pass t u v a b g h x y = record {
  frames = append_assoc g h (option_to_list v.held)
      ∙ (ap (λ rest. g ++ rest) y.frames
      ∙ (sym (append_assoc g (option_to_list u.held) b)
      ∙ (ap (λ front. front ++ b) x.frames
      ∙ append_assoc (option_to_list t.held) a b)));
  rightly = y.rightly;
}

pub run_passes :
    (t t' : TxTurn) (q q' : Queue) (ms : List Moment)
    → HoldsRightly t → IsTxRun t q ms t' q' → PassesFrames t t' (accepted_by ms) (given_by ms)
run_passes t t' q q' [] right run = record {
  frames = ap (λ u. option_to_list u.held) run.0 ∙ sym (append-nil (option_to_list t.held));
  rightly = subst HoldsRightly (sym run.0) right;
}
run_passes t t' q q' (m ∷ ms) right run =
    let st = m.before.turn.stage in
    let one = step_passes m.before m.after m.told st refl (subst HoldsRightly (sym run.0) right) run.2 in
    let P : TxTurn → Type 0 = λ u. PassesFrames u m.after.turn (accepts_at st m.after) (gives_at st m.before) in
    both_pass t m.after.turn t' (accepts_at st m.after) (accepted_by ms) (gives_at st m.before) (given_by ms)
    (subst P run.0 one) (run_passes m.after.turn t' m.after.queue q' ms one.rightly run.3)
