-- What a step makes of a receive turn.
use Rattle.std.proofs.Common.{◌≡◌, ℕ, ◌+◌, ◌<◌, List, length, Bool, true, false, true≢false, Option, Some, None, refl, sym, ap, ◌∙◌, subst}
use Rattle.std.specs.Prelude.{◌==◌, if◌then◌else◌, nat_le, IfSome}
use Rattle.std.proofs.lemmas.Bool.{leb-false}
use Rattle.tap_frame.specs.Frame.{FrameValue}
use Rattle.tap_ledger.specs.declared.act.Act.{Act}
use Rattle.tap_ledger.specs.declared.hand.Hand.{Hand}
use Rattle.tap_ledger.specs.declared.hand.Hand.TheVariants as hand
use Rattle.vring_split.specs.declared.segment.Segment.{Segment}
use Rattle.vring_walk.specs.declared.walk.Fetched.{Fetched}
use Rattle.vring_walk.specs.declared.walk.Fetched.TheVariants as fetched
use Rattle.vhost_queue.specs.Queue.{Queue}
use Rattle.vring_turns.specs.declared.end.End.{End}
use Rattle.vring_turns.specs.declared.end.End.TheVariants.{Again, Idle}
use Rattle.vring_turns.specs.declared.stage.After.{After}
use Rattle.vring_turns.specs.declared.stage.After.TheVariants as after
use Rattle.vring_turns.specs.declared.stage.RxStage.{RxStage}
use Rattle.vring_turns.specs.declared.stage.RxStage.TheVariants as rx
use Rattle.vring_turns.specs.ReceiveImage.{copies_in, need_of}
use Rattle.vring_turns.specs.Ring.{Gathered, Made, Ring, done_in, found, joined, publishes, room_in}
use Rattle.vring_turns.specs.RxTurn as turn
use Rattle.vring_turns.specs.RxTurn.{RxState, RxTurn}
use Rattle.vring_turns.specs.Stage.{gathers_at, has_in_hand, need_at}
use Rattle.vring_turns.specs.Turn.{is_enough, publishes_at}
use Rattle.tap_world.specs.Steady.{had_at}
use Rattle.tap_sound.proofs.Kit.{WhereSome}

-- the frame in hand leaves, or is put back, next
abbrev pub leaves_at : RxStage → Bool
leaves_at rx.Begin = false
leaves_at rx.Hand = false
leaves_at rx.Fetch = false
leaves_at rx.NoticesOn = false
leaves_at rx.FetchAgain = false
leaves_at (rx.NoticesOff way) = false
leaves_at rx.Copy = false
leaves_at rx.Out = true
leaves_at (rx.Discard had) = true
leaves_at (rx.PutBack e) = true
leaves_at (rx.Publish e) = false
leaves_at (rx.Ended e) = false

-- a frame that is to be discarded next needs more than this
abbrev pub Overruns : RxStage → ℕ → Type 0
Overruns st need = IfSome (had_at st) (λ had. had < need)

-- What a step that is handed no frame makes of a turn at a stage: a frame in hand stays so until it leaves or is put
-- back, and one that is discarded then needs more than its chains had.
pub record RxOn (st : RxStage) (t : RxTurn) (x : RxState × Act) : Type 0 where
  pub mergeable : x.0.turn.mergeable ≡ t.mergeable
  pub header : x.0.turn.header ≡ t.header
  pub stays : leaves_at st ≡ false → has_in_hand x.0.turn.stage ≡ has_in_hand st
  pub held : leaves_at st ≡ false → x.0.turn.held ≡ t.held
  pub freed : leaves_at st ≡ true → has_in_hand x.0.turn.stage ≡ false
  pub overruns : Overruns x.0.turn.stage (need_at t.header x.0.turn.held)

-- ---- ways

abbrev WayShort : ℕ → Option After → Type 0
WayShort need (Some (after.Discard had)) = had < need
WayShort need o = Unit {0}

gathers_short : (b : Bool) (need : ℕ) (chains : List Gathered) → WayShort need (Some (turn.gathers b need chains))
gathers_short b need chains = go (nat_le need (room_in chains)) refl (nat_le (turn.quota b) (length chains))
  where
    go : (a : Bool) → nat_le need (room_in chains) ≡ a → (c : Bool)
        → WayShort need (Some (if a then after.Copy else if c then after.Discard (room_in chains) else after.Fetch))
    go true is c = tt
    go false is true = leb-false need (room_in chains) is
    go false is false = tt

way_short : (b : Bool) (need : ℕ) (f : Fetched) (segments : List Segment) (r : Ring) → room_in r.chains < need
    → WayShort need (turn.goes_on b need (joined f segments r).chains f)
way_short b need (fetched.Chain head) segments r short = gathers_short b need (joined (fetched.Chain head) segments r).chains
way_short b need fetched.Nothing segments r short = tt
way_short b need fetched.Crowded segments r short = short
way_short b need (fetched.Bad fault) segments r short = tt

first_over : (need : ℕ) (o : Option After) → WayShort need o → Overruns (turn.rx_after_fetch o) need
first_over need None h = tt
first_over need (Some after.Fetch) h = tt
first_over need (Some after.Copy) h = tt
first_over need (Some (after.Discard had)) h = h
first_over need (Some (after.PutBack e)) h = tt

second_over : (need : ℕ) (cs : List Gathered) (o : Option After) → WayShort need o → Overruns (turn.rx_after_second need cs o) need
second_over need cs None h = tt
second_over need cs (Some after.Fetch) h = tt
second_over need cs (Some after.Copy) h = tt
second_over need cs (Some (after.Discard had)) h = h
second_over need cs (Some (after.PutBack e)) h = tt

way_held : (way : After) → has_in_hand (turn.stage_of way) ≡ true
way_held after.Fetch = refl
way_held after.Copy = refl
way_held (after.Discard had) = refl
way_held (after.PutBack e) = refl

way_over : (need : ℕ) (way : After) → Overruns (rx.NoticesOff way) need → Overruns (turn.stage_of way) need
way_over need after.Fetch h = tt
way_over need after.Copy h = tt
way_over need (after.Discard had) h = h
way_over need (after.PutBack e) h = tt

first_held : (o : Option After) → has_in_hand (turn.rx_after_fetch o) ≡ true
first_held None = refl
first_held (Some way) = way_held way

second_held : (need : ℕ) (cs : List Gathered) (o : Option After) → has_in_hand (turn.rx_after_second need cs o) ≡ true
second_held need cs None = refl
second_held need cs (Some way) = refl

-- ---- stages behind a frame

-- nothing is in hand at this stage
record IsBare (st : RxStage) : Type 0 where
  none : has_in_hand st ≡ false
  had : had_at st ≡ None

closing_bare : (e : End) (q : Queue) → IsBare (turn.rx_closing e q)
closing_bare e q = go (done_in q == 0)
  where
    go : (b : Bool) → IsBare (if b then rx.Ended e else rx.Publish (Some e))
    go true = record { none = refl; had = refl }
    go false = record { none = refl; had = refl }

packet_bare : (t : RxTurn) (q : Queue) → IsBare (turn.rx_after_packet t q)
packet_bare t q = go (is_enough t.packets t.bytes t.handled) (nat_le publishes_at (done_in q)) (closing_bare Again q)
  where
    go : (a b : Bool) → IsBare (turn.rx_closing Again q) → IsBare (if a then turn.rx_closing Again q else if b then rx.Publish None else rx.Hand)
    go true b h = h
    go false true h = record { none = refl; had = refl }
    go false false h = record { none = refl; had = refl }

bare_over : (st : RxStage) (need : ℕ) → IsBare st → Overruns st need
bare_over st need h = subst (λ (o : Option ℕ). IfSome o (λ had. had < need)) (sym h.had) tt

-- ---- with a frame in hand

module _ (s : RxState) (frame : FrameValue) (is_held : s.turn.held ≡ Some frame) where
  need_is : need_of s.turn.header frame ≡ need_at s.turn.header s.turn.held
  need_is = ap (need_at s.turn.header) (sym is_held)

  outs : (st : RxStage) (bytes : ℕ) → leaves_at st ≡ true → RxOn st s.turn (turn.rx_outs bytes frame s)
  outs st bytes leaves =
      let t : RxTurn = record s.turn { packets = s.turn.packets + 1; bytes = s.turn.bytes + bytes; held = None } in
      let bare = packet_bare t s.queue in
      record {
        mergeable = refl;
        header = refl;
        stays = λ h. absurd (true≢false (sym leaves ∙ h));
        held = λ h. absurd (true≢false (sym leaves ∙ h));
        freed = λ h. bare.none;
        overruns = bare_over (turn.rx_after_packet t s.queue) (need_at s.turn.header None) bare;
      }

  with_on : (st : RxStage) → (gathers_at st ≡ true → room_in s.turn.chains < need_at s.turn.header s.turn.held)
      → WhereSome (RxOn st s.turn) (turn.rx_with st frame s)
  with_on rx.Fetch short =
      let need : ℕ = need_of s.turn.header frame in
      let less : room_in s.turn.chains < need = subst (λ (n : ℕ). room_in s.turn.chains < n) (sym need_is) (short refl) in
      record {
        mergeable = refl;
        header = refl;
        stays = λ h. first_held (turn.rx_way need s);
        held = λ h. refl;
        freed = λ h. absurd (true≢false (sym h));
        overruns = subst (Overruns (turn.rx_after_fetch (turn.rx_way need s))) need_is
            (first_over need (turn.rx_way need s)
            (way_short s.turn.mergeable need (found (turn.rx_ring s) s.memory).0 (found (turn.rx_ring s) s.memory).1 (turn.rx_ring s) less));
      }
  with_on rx.FetchAgain short =
      let need : ℕ = need_of s.turn.header frame in
      let less : room_in s.turn.chains < need = subst (λ (n : ℕ). room_in s.turn.chains < n) (sym need_is) (short refl) in
      record {
        mergeable = refl;
        header = refl;
        stays = λ h. second_held need s.turn.chains (turn.rx_way need s);
        held = λ h. refl;
        freed = λ h. absurd (true≢false (sym h));
        overruns = subst (Overruns (turn.rx_after_second need s.turn.chains (turn.rx_way need s))) need_is
            (second_over need s.turn.chains (turn.rx_way need s)
            (way_short s.turn.mergeable need (found (turn.rx_ring s) s.memory).0 (found (turn.rx_ring s) s.memory).1 (turn.rx_ring s) less));
      }
  with_on rx.Copy short = go (copies_in s.turn.header frame (turn.rx_ring s) s.memory)
    where
      go : (o : Option Made) → WhereSome (RxOn rx.Copy s.turn) (elim o [
        | None ↦ None
        | Some made ↦
            let next = turn.rx_made made rx.Out s in
            Some (record next.0 { turn = record next.0.turn { handled = s.turn.handled + length s.turn.chains } }, next.1)
      ])
      go None = tt
      go (Some made) = record {
        mergeable = refl;
        header = refl;
        stays = λ h. refl;
        held = λ h. refl;
        freed = λ h. absurd (true≢false (sym h));
        overruns = tt;
      }
  with_on rx.Out short = outs rx.Out (need_of s.turn.header frame) refl
  with_on (rx.Discard had) short = outs (rx.Discard had) 0 refl
  with_on (rx.PutBack e) short = record {
    mergeable = refl;
    header = refl;
    stays = λ h. absurd (true≢false h);
    held = λ h. absurd (true≢false h);
    freed = λ h. (closing_bare e s.queue).none;
    overruns = bare_over (turn.rx_closing e s.queue) (need_at s.turn.header None) (closing_bare e s.queue);
  }
  with_on st short = tt

-- ---- all stages

-- no frame is handed out
abbrev pub HandsNone : Hand → Type 0
HandsNone (hand.Got frame) = ⊥
HandsNone h = Unit {0}

hands_on : (h : Hand) (s : RxState) → HandsNone h → WhereSome (RxOn rx.Hand s.turn) (turn.rx_hands h s)
hands_on (hand.Got frame) s none = absurd none
hands_on (hand.NotReady place) s none = record {
  mergeable = refl;
  header = refl;
  stays = λ h. (closing_bare Idle s.queue).none;
  held = λ h. refl;
  freed = λ h. absurd (true≢false (sym h));
  overruns = bare_over (turn.rx_closing Idle s.queue) (need_at s.turn.header s.turn.held) (closing_bare Idle s.queue);
}
hands_on h s none = tt

publishes_on : (e : Option End) (s : RxState) → WhereSome (RxOn (rx.Publish e) s.turn) (turn.rx_publishes e s)
publishes_on e s = go e (publishes (turn.rx_ring s) s.memory)
  where
    go : (e : Option End) (o : Option Made) → WhereSome (RxOn (rx.Publish e) s.turn) (elim o [
      | None ↦ None
      | Some made ↦ Some (turn.rx_made made (elim e [ None ↦ rx.Hand | Some x ↦ rx.Ended x ]) s)
    ])
    go e None = tt
    go None (Some made) = record {
      mergeable = refl;
      header = refl;
      stays = λ h. refl;
      held = λ h. refl;
      freed = λ h. absurd (true≢false (sym h));
      overruns = tt;
    }
    go (Some x) (Some made) = record {
      mergeable = refl;
      header = refl;
      stays = λ h. refl;
      held = λ h. refl;
      freed = λ h. absurd (true≢false (sym h));
      overruns = tt;
    }

in_hand_on : (st : RxStage) (s : RxState) (o : Option FrameValue) → s.turn.held ≡ o → s.turn.stage ≡ st
    → (gathers_at st ≡ true → room_in s.turn.chains < need_at s.turn.header s.turn.held) → WhereSome (RxOn st s.turn) (turn.rx_in_hand o s)
in_hand_on st s None held is short = tt
in_hand_on st s (Some frame) held is short =
    subst (λ (q : RxStage). WhereSome (RxOn st s.turn) (turn.rx_with q frame s)) (sym is) (with_on s frame held st short)

pub next_on : (st : RxStage) (h : Hand) (s : RxState) → s.turn.stage ≡ st → HandsNone h
    → (gathers_at st ≡ true → room_in s.turn.chains < need_at s.turn.header s.turn.held) → Overruns st (need_at s.turn.header s.turn.held)
    → WhereSome (RxOn st s.turn) (turn.rx_next st h s)
next_on rx.Begin h s is none short over = record {
  mergeable = refl;
  header = refl;
  stays = λ l. refl;
  held = λ l. refl;
  freed = λ l. absurd (true≢false (sym l));
  overruns = tt;
}
next_on rx.Hand h s is none short over = hands_on h s none
next_on rx.NoticesOn h s is none short over = record {
  mergeable = refl;
  header = refl;
  stays = λ l. refl;
  held = λ l. refl;
  freed = λ l. absurd (true≢false (sym l));
  overruns = tt;
}
next_on (rx.NoticesOff way) h s is none short over = record {
  mergeable = refl;
  header = refl;
  stays = λ l. way_held way;
  held = λ l. refl;
  freed = λ l. absurd (true≢false (sym l));
  overruns = way_over (need_at s.turn.header s.turn.held) way over;
}
next_on (rx.Publish e) h s is none short over = publishes_on e s
next_on (rx.Ended e) h s is none short over = tt
next_on rx.Fetch h s is none short over = in_hand_on rx.Fetch s s.turn.held refl is short
next_on rx.FetchAgain h s is none short over = in_hand_on rx.FetchAgain s s.turn.held refl is short
next_on rx.Copy h s is none short over = in_hand_on rx.Copy s s.turn.held refl is short
next_on rx.Out h s is none short over = in_hand_on rx.Out s s.turn.held refl is short
next_on (rx.Discard had) h s is none short over = in_hand_on (rx.Discard had) s s.turn.held refl is short
next_on (rx.PutBack e) h s is none short over = in_hand_on (rx.PutBack e) s s.turn.held refl is short
