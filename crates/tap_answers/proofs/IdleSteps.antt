-- A step leads to a stage that is to end since no frame was ready only from such a stage, or by finding none.
use Rattle.std.proofs.Common.{◌≡◌, ◌⊎◌, ℕ, Bool, true, false, Option, Some, None, inl, inr, refl, sym, ap, ◌∙◌, subst, true≢false, ⊎_elim}
use Rattle.std.specs.Prelude.{◌==◌, ◌+◌, nat_le, if◌then◌else◌, length, List}
use Rattle.tap_frame.specs.Frame.{FrameValue}
use Rattle.tap_ledger.specs.declared.act.Act.{Act}
use Rattle.tap_ledger.specs.declared.hand.Hand.{Hand}
use Rattle.tap_ledger.specs.declared.hand.Hand.TheVariants as hand
use Rattle.tap_trace.specs.declared.turn.TurnText.TheVariants as text
use Rattle.vhost_queue.specs.Queue.{Queue}
use Rattle.vring_walk.specs.declared.walk.Fetched.{Fetched}
use Rattle.vring_walk.specs.declared.walk.Fetched.TheVariants as fetched
use Rattle.vring_turns.specs.declared.end.End.{End}
use Rattle.vring_turns.specs.declared.end.End.TheVariants as end
use Rattle.vring_turns.specs.declared.stage.After.{After}
use Rattle.vring_turns.specs.declared.stage.After.TheVariants as after
use Rattle.vring_turns.specs.declared.stage.RxStage.{RxStage}
use Rattle.vring_turns.specs.declared.stage.RxStage.TheVariants as rx
use Rattle.vring_turns.specs.Ring.{Gathered, Made, done_in, fetches, found, publishes, room_in}
use Rattle.vring_turns.specs.ReceiveImage.{copies_in, need_of}
use Rattle.vring_turns.specs.Turn.{is_enough, publishes_at}
use Rattle.vring_turns.specs.RxTurn as rt
use Rattle.vring_turns.specs.RxTurn.{RxState, RxTurn, rx_next, rx_step}
use Rattle.tap_sound.proofs.Kit.{WhereSome, where_some}
use Rattle.tap_world.specs.StepTurns.{end_told}
use Rattle.tap_answers.specs.Idle.{IdleTurnsAreIdle, is_idle, is_idle_end}

-- a step from a stage, with what was handed, to another
abbrev Leads : RxStage → Hand → RxStage → Type 0
Leads st h next =
    is_idle next ≡ true
    → (is_idle st ≡ true) ⊎ ((st ≡ rx.Hand) × (place : ℕ) × (h ≡ hand.NotReady place))

abbrev To : RxStage → Hand → Option (RxState × Act) → Type 0
To st h o = WhereSome (λ (made : RxState × Act). Leads st h made.0.turn.stage) o

busy : (st next : RxStage) (h : Hand) → is_idle next ≡ false → Leads st h next
busy st next h no_ is = absurd (true≢false (sym is ∙ no_))

-- ---- stages that aren't so

closing_busy : (e : End) (q : Queue) → is_idle_end e ≡ false → is_idle (rt.rx_closing e q) ≡ false
closing_busy e q no_ = go (done_in q == 0)
  where
    go : (b : Bool) → is_idle (if b then rx.Ended e else rx.Publish (Some e)) ≡ false
    go true = no_
    go false = no_

closing_is : (e : End) (q : Queue) → is_idle (rt.rx_closing e q) ≡ true → is_idle_end e ≡ true
closing_is e q is = go (done_in q == 0) is
  where
    go : (b : Bool) → is_idle (if b then rx.Ended e else rx.Publish (Some e)) ≡ true → is_idle_end e ≡ true
    go true h = h
    go false h = h

packet_busy : (t : RxTurn) (q : Queue) → is_idle (rt.rx_after_packet t q) ≡ false
packet_busy t q = go (is_enough t.packets t.bytes t.handled) (nat_le publishes_at (done_in q))
  where
    go : (a b : Bool) → is_idle (if a then rt.rx_closing end.Again q else (if b then rx.Publish None else rx.Hand)) ≡ false
    go true b = closing_busy end.Again q refl
    go false true = refl
    go false false = refl

abbrev way_by : List Gathered → Bool → Bool → After
way_by chains a b = if a then after.Copy else (if b then after.Discard (room_in chains) else after.Fetch)

gathers_busy : (mergeable : Bool) (need : ℕ) (chains : List Gathered)
    → (is_idle (rt.stage_of (rt.gathers mergeable need chains)) ≡ false)
    × (is_idle (rx.NoticesOff (rt.gathers mergeable need chains)) ≡ false)
gathers_busy mergeable need chains =
    go (nat_le need (room_in chains)) (nat_le (rt.quota mergeable) (length chains))
  where
    go : (a b : Bool) → (is_idle (rt.stage_of (way_by chains a b)) ≡ false)
        × (is_idle (rx.NoticesOff (way_by chains a b)) ≡ false)
    go true b = (refl, refl)
    go false true = (refl, refl)
    go false false = (refl, refl)

fetch_busy : (mergeable : Bool) (need : ℕ) (chains : List Gathered) (f : Fetched)
    → is_idle (rt.rx_after_fetch (rt.goes_on mergeable need chains f)) ≡ false
fetch_busy mergeable need chains (fetched.Chain head) = (gathers_busy mergeable need chains).0
fetch_busy mergeable need chains fetched.Crowded = refl
fetch_busy mergeable need chains (fetched.Bad fault) = refl
fetch_busy mergeable need chains fetched.Nothing = refl

second_busy : (mergeable : Bool) (need : ℕ) (old chains : List Gathered) (f : Fetched)
    → is_idle (rt.rx_after_second need old (rt.goes_on mergeable need chains f)) ≡ false
second_busy mergeable need old chains (fetched.Chain head) = (gathers_busy mergeable need chains).1
second_busy mergeable need old chains fetched.Crowded = refl
second_busy mergeable need old chains (fetched.Bad fault) = refl
second_busy mergeable need old chains fetched.Nothing = refl

way_is : (way : After) → is_idle (rt.stage_of way) ≡ true → is_idle (rx.NoticesOff way) ≡ true
way_is after.Fetch h = absurd (true≢false (sym h))
way_is after.Copy h = absurd (true≢false (sym h))
way_is (after.Discard had) h = absurd (true≢false (sym h))
way_is (after.PutBack e) h = h

-- ---- steps

leaves : (st : RxStage) (h : Hand) (bytes : ℕ) (s : RxState) → Leads st h (rt.rx_after_packet (record s.turn {
  packets = s.turn.packets + 1;
  bytes = s.turn.bytes + bytes;
  held = None;
}) s.queue)
leaves st h bytes s is = absurd (true≢false (sym is ∙ packet_busy (record s.turn {
  packets = s.turn.packets + 1;
  bytes = s.turn.bytes + bytes;
  held = None;
}) s.queue))

with_frame : (st : RxStage) (h : Hand) (frame : FrameValue) (s : RxState) → To st h (rt.rx_with st frame s)
with_frame rx.Fetch h frame s = busy rx.Fetch
    (rt.rx_after_fetch (rt.rx_way (need_of s.turn.header frame) s)) h (fetch_busy s.turn.mergeable (need_of s.turn.header frame)
    (fetches (rt.rx_ring s) s.memory).ring.chains (found (rt.rx_ring s) s.memory).0)
with_frame rx.FetchAgain h frame s = busy rx.FetchAgain
    (rt.rx_after_second (need_of s.turn.header frame) s.turn.chains (rt.rx_way (need_of s.turn.header frame) s)) h
    (second_busy s.turn.mergeable (need_of s.turn.header frame) s.turn.chains (fetches (rt.rx_ring s) s.memory).ring.chains (found (rt.rx_ring s) s.memory).0)
with_frame rx.Copy h frame s = go (copies_in s.turn.header frame (rt.rx_ring s) s.memory)
  where
    go : (o : Option Made) → To rx.Copy h (elim o [
      | None ↦ None
      | Some made ↦
          let next = rt.rx_made made rx.Out s in
          Some (record next.0 { turn = record next.0.turn { handled = s.turn.handled + length s.turn.chains } }, next.1)
    ])
    go None = tt
    go (Some made) = busy rx.Copy rx.Out h refl
with_frame rx.Out h frame s = leaves rx.Out h (need_of s.turn.header frame) s
with_frame (rx.Discard had) h frame s = leaves (rx.Discard had) h 0 s
with_frame (rx.PutBack e) h frame s = λ is. inl (closing_is e s.queue is)
with_frame st h frame s = tt

in_hand : (st : RxStage) (h : Hand) (o : Option FrameValue) (s : RxState)
    → ((frame : FrameValue) → To st h (rt.rx_with s.turn.stage frame s)) → To st h (rt.rx_in_hand o s)
in_hand st h None s each = tt
in_hand st h (Some frame) s each = each frame

handed : (h : Hand) (s : RxState) → To rx.Hand h (rt.rx_hands h s)
handed (hand.Got frame) s = busy rx.Hand rx.Fetch (hand.Got frame) refl
handed (hand.NotReady place) s = λ is. inr (refl, place, refl)
handed hand.Off s = tt
handed hand.NoMemory s = tt

published : (h : Hand) (o : Option End) (s : RxState) → To (rx.Publish o) h (rt.rx_publishes o s)
published h o s = go o (publishes (rt.rx_ring s) s.memory)
  where
    go : (o : Option End) (p : Option Made) → To (rx.Publish o) h (elim p [
      | None ↦ None
      | Some made ↦ Some (rt.rx_made made (elim o [ None ↦ rx.Hand | Some e ↦ rx.Ended e ]) s)
    ])
    go o None = tt
    go None (Some made) = busy (rx.Publish None) rx.Hand h refl
    go (Some e) (Some made) = λ is. inl is

any_stage : (st : RxStage) (h : Hand) (s : RxState) → s.turn.stage ≡ st → To st h (rx_next st h s)
any_stage rx.Begin h s is = busy rx.Begin rx.Hand h refl
any_stage rx.Hand h s is = handed h s
any_stage rx.NoticesOn h s is = busy rx.NoticesOn rx.FetchAgain h refl
any_stage (rx.NoticesOff way) h s is = λ idle. inl (way_is way idle)
any_stage (rx.Publish e) h s is = published h e s
any_stage (rx.Ended e) h s is = tt
any_stage st h s is = in_hand st h s.turn.held s
    (λ frame. subst (λ (x : RxStage). To st h (rt.rx_with x frame s)) (sym is) (with_frame st h frame s))

pub idle_step : (h : Hand) (s : RxState) (made : RxState × Act) → rx_step h s ≡ Some made
    → is_idle made.0.turn.stage ≡ true
    → (is_idle s.turn.stage ≡ true) ⊎ ((s.turn.stage ≡ rx.Hand) × (place : ℕ) × (h ≡ hand.NotReady place))
idle_step h s made step =
    where_some (λ (x : RxState × Act). Leads s.turn.stage h x.0.turn.stage) (rx_step h s) made
    (any_stage s.turn.stage h s refl) step

-- ---- a turn that tells so

idle_end : (e : End) → end_told e ≡ Some text.Idle → is_idle_end e ≡ true
idle_end end.Idle h = refl
idle_end (end.Short need had) h = absurd (cc (h))
idle_end end.Again h = absurd (cc (h))
idle_end (end.Stopped fault) h = absurd (cc (h))
idle_end end.Off h = absurd (cc (h))
idle_end end.NoMemory h = absurd (cc (h))

pub idle_turns_are_idle : IdleTurnsAreIdle
idle_turns_are_idle o vhost seen packets bytes h = ⊎_elim (λ is. inl is) (λ is. inr (is.1, is.2))
    (idle_step h.handed _ h.made h.step (ap is_idle h.over ∙ idle_end h.end h.told))
