-- A receive worker and its queue fit together after a fetch.
use Rattle.std.proofs.Common.{◌≡◌, ℕ, ◌+◌, ◌<◌, ◌≤◌, Bool, true, false, nat_le, List, [], ◌∷◌, length, Option, Some, None, is_some, if◌then◌else◌, refl, sym, ap, ◌∙◌, arith}
use Rattle.std.proofs.lemmas.List.{length-append}
use Rattle.std.proofs.lemmas.Bool.Decides.{nat_tests}
use Rattle.vring_split.specs.declared.segment.Segment.{Segment}
use Rattle.vring_walk.specs.declared.walk.Fetched.{Fetched}
use Rattle.vring_walk.specs.declared.walk.Fetched.TheVariants.{Chain, Nothing, Bad, Crowded}
use Rattle.vhost_queue.specs.Queue.{Reserved, turn_places}
use Rattle.vring_turns.specs.declared.end.End.TheVariants.{Short, Stopped}
use Rattle.vring_turns.specs.declared.stage.RxStage.{RxStage}
use Rattle.vring_turns.specs.declared.stage.RxStage.TheVariants as stage
use Rattle.vring_turns.specs.declared.stage.After.{After}
use Rattle.vring_turns.specs.declared.stage.After.TheVariants as after
use Rattle.vring_turns.specs.Ring.{Gathered, Ring, done_in, room_in, joined, all_rewound}
use Rattle.vring_turns.specs.RxTurn.{quota, goes_on, rx_after_fetch, rx_after_second, rx_rewinds}
use Rattle.vring_turns.specs.Stage.{has_in_hand, gathers_at, copies_at, rx_stopped_at, rx_is_publishing}
use Rattle.vhost_rx.specs.Worker.{Worker, IsSteady, need_in, ring_of, counts_at, copies_after, few_done_at, fetch_stage}

-- a stage at which a chain is fetched
pub record Gathering (st : RxStage) : Type 0 where
  pub gathers : gathers_at st ≡ true
  pub holds : has_in_hand st ≡ true
  pub stopped : rx_stopped_at st ≡ None
  pub counts : counts_at st ≡ true
  pub copies : copies_after st ≡ true
  pub few : few_done_at st ≡ true

-- what is so there
record Loose (w : Worker) (r : Reserved) : Type 0 where
  pub layout : r.queue.layout ≡ w.layout
  pub gathered : r.queue.positions.gathered ≡ length w.turn.chains
  pub stopped : r.queue.stopped ≡ None
  pub held : is_some w.turn.held ≡ true
  pub fewer : length w.turn.chains < quota w.turn.mergeable
  pub short : room_in w.turn.chains < need_in w.turn
  pub packets : w.turn.packets < 256
  pub bytes : w.turn.bytes < 524288
  pub handled : w.turn.handled < 1024
  pub few : done_in r.queue < 64
  pub reserved : turn_places + done_in r.queue ≤ r.reserved + w.turn.handled

loose : (w : Worker) (r : Reserved) (st : RxStage) → IsSteady w r → w.turn.stage ≡ st → Gathering st → Loose w r
loose w r st s e g = record {
  layout = s.queue.layout;
  gathered = s.queue.gathered;
  stopped = s.queue.stopped ∙ (ap rx_stopped_at e ∙ g.stopped);
  held = s.chains.held ∙ (ap has_in_hand e ∙ g.holds);
  fewer = s.chains.fewer (ap gathers_at e ∙ g.gathers);
  short = s.chains.short (ap gathers_at e ∙ g.gathers);
  packets = s.places.packets (ap counts_at e ∙ g.counts);
  bytes = s.places.bytes (ap counts_at e ∙ g.counts);
  handled = s.places.handled (ap copies_after e ∙ g.copies);
  few = s.places.few (ap few_done_at e ∙ g.few);
  reserved = s.places.reserved;
}

-- the worker behind the fetch
abbrev pub behind : Worker → Ring → RxStage → Worker
behind w ring st = record {
  turn = record w.turn { chains = ring.chains; stage = st };
  layout = w.layout;
  next = ring.queue.positions.next;
}

abbrev pub reserved_in : Reserved → Ring → Reserved
reserved_in r ring = record { queue = ring.queue; reserved = r.reserved }

-- what a stage says of the chains
record Says (w : Worker) (ring : Ring) (st : RxStage) : Type 0 where
  pub holds : has_in_hand st ≡ true
  pub unpublished : rx_is_publishing st ≡ false
  pub stopped : ring.queue.stopped ≡ rx_stopped_at st
  pub fewer : gathers_at st ≡ true → length ring.chains < quota w.turn.mergeable
  pub short : gathers_at st ≡ true → room_in ring.chains < need_in w.turn
  pub enough : copies_at st ≡ true → need_in w.turn ≤ room_in ring.chains
  pub most : length ring.chains ≤ quota w.turn.mergeable
  pub none : gathers_at st ≡ false → copies_at st ≡ false → length ring.chains ≡ 0

-- the ring keeps its layout and what is done
record Keeps (r : Reserved) (ring : Ring) : Type 0 where
  pub layout : ring.queue.layout ≡ r.queue.layout
  pub done : done_in ring.queue ≡ done_in r.queue
  pub gathered : ring.queue.positions.gathered ≡ length ring.chains

steady_at :
    (w : Worker) (r : Reserved) (ring : Ring) (st : RxStage)
    → Loose w r → Keeps r ring → Says w ring st → IsSteady (behind w ring st) (reserved_in r ring)
steady_at w r ring st l k s = record {
  queue = record {
    layout = k.layout ∙ l.layout;
    next = refl;
    gathered = k.gathered;
    stopped = s.stopped;
    done = λ h. absurd (clash (rx_is_publishing st) h s.unpublished);
  };
  chains = record {
    held = l.held ∙ sym s.holds;
    fewer = s.fewer;
    short = s.short;
    enough = s.enough;
    most = s.most;
    none = s.none;
  };
  places = record {
    packets = λ h. l.packets;
    bytes = λ h. l.bytes;
    handled = λ h. l.handled;
    few = λ h. omega (arith, l.few, k.done);
    reserved = omega (arith, l.reserved, k.done);
  };
}
  where
    clash : (b : Bool) → b ≡ true → b ≡ false → ⊥
    clash b t f = cc

-- chains that are given up
keeps_none : (r : Reserved) (ring : Ring) → Keeps r ring → Keeps r (all_rewound ring)
keeps_none r ring k = record { layout = k.layout; done = k.done; gathered = omega (arith, k.gathered) }

no_chain : (w : Worker) (ring : Ring) (st : RxStage)
    → has_in_hand st ≡ true → rx_is_publishing st ≡ false → ring.queue.stopped ≡ rx_stopped_at st
    → gathers_at st ≡ false → copies_at st ≡ false → 0 < quota w.turn.mergeable
    → Says w (all_rewound ring) st
no_chain w ring st h u s g c q = record {
  holds = h;
  unpublished = u;
  stopped = s;
  fewer = λ t. absurd (clash (gathers_at st) t g);
  short = λ t. absurd (clash (gathers_at st) t g);
  enough = λ t. absurd (clash (copies_at st) t c);
  most = omega arith;
  none = λ a b. refl;
}
  where
    clash : (b : Bool) → b ≡ true → b ≡ false → ⊥
    clash b t f = cc

-- the ring after the fetch
keeps_joined :
    (w : Worker) (r : Reserved) (f : Fetched) (segments : List Segment)
    → Loose w r → Keeps r (joined f segments (ring_of w r.queue))
keeps_joined w r (Chain head) segments l = record {
  layout = refl;
  done = refl;
  gathered = omega (arith, l.gathered, length-append w.turn.chains (record { head = head; segments = segments } ∷ []));
}
keeps_joined w r Nothing segments l = record { layout = refl; done = refl; gathered = l.gathered }
keeps_joined w r Crowded segments l = record { layout = refl; done = refl; gathered = l.gathered }
keeps_joined w r (Bad fault) segments l = record { layout = refl; done = refl; gathered = l.gathered }

-- chains that go on being gathered
more_says : (w : Worker) (ring : Ring) (st : RxStage)
    → has_in_hand st ≡ true → rx_is_publishing st ≡ false → ring.queue.stopped ≡ rx_stopped_at st
    → gathers_at st ≡ true → copies_at st ≡ false
    → length ring.chains < quota w.turn.mergeable → room_in ring.chains < need_in w.turn
    → Says w ring st
more_says w ring st h u s g c fewer short = record {
  holds = h;
  unpublished = u;
  stopped = s;
  fewer = λ t. fewer;
  short = λ t. short;
  enough = λ t. absurd (clash (copies_at st) t c);
  most = omega arith;
  none = λ a b. absurd (clash (gathers_at st) g a);
}
  where
    clash : (b : Bool) → b ≡ true → b ≡ false → ⊥
    clash b t f = cc

-- chains that hold the frame
enough_says : (w : Worker) (ring : Ring) (st : RxStage)
    → has_in_hand st ≡ true → rx_is_publishing st ≡ false → ring.queue.stopped ≡ rx_stopped_at st
    → gathers_at st ≡ false → copies_at st ≡ true
    → length ring.chains ≤ quota w.turn.mergeable → need_in w.turn ≤ room_in ring.chains
    → Says w ring st
enough_says w ring st h u s g c most enough = record {
  holds = h;
  unpublished = u;
  stopped = s;
  fewer = λ t. absurd (clash (gathers_at st) t g);
  short = λ t. absurd (clash (gathers_at st) t g);
  enough = λ t. enough;
  most = most;
  none = λ a b. absurd (clash (copies_at st) c b);
}
  where
    clash : (b : Bool) → b ≡ true → b ≡ false → ⊥
    clash b t f = cc

abbrev pub stage_after : Bool → ℕ → List Gathered → Option After → RxStage
stage_after second need chains way = if second then rx_after_second need chains way else rx_after_fetch way

abbrev pub settled : Bool → Ring → Ring
settled rewinds ring = if rewinds then all_rewound ring else ring

abbrev pub way_by : Bool → Bool → ℕ → After
way_by holds full had = if holds then after.Copy else (if full then after.Discard had else after.Fetch)

-- after a fetch that found a chain
chain_steady :
    (w : Worker) (r : Reserved) (ring : Ring) (second holds full : Bool)
    → Loose w r → Keeps r ring → ring.queue.stopped ≡ None → length ring.chains ≤ quota w.turn.mergeable
    → (holds ≡ true → need_in w.turn ≤ room_in ring.chains) → (holds ≡ false → room_in ring.chains < need_in w.turn)
    → (full ≡ false → length ring.chains < quota w.turn.mergeable)
    → let way = Some (way_by holds full (room_in ring.chains)) in
    IsSteady (behind w (settled (rx_rewinds second way) ring) (stage_after second (need_in w.turn) w.turn.chains way))
    (reserved_in r (settled (rx_rewinds second way) ring))
chain_steady w r ring false true full l k s most holds short fewer =
    steady_at w r ring stage.Copy l k (enough_says w ring stage.Copy refl refl s refl refl most (holds refl))
chain_steady w r ring true true full l k s most holds short fewer =
    steady_at w r ring (stage.NoticesOff after.Copy) l k
    (enough_says w ring (stage.NoticesOff after.Copy) refl refl s refl refl most (holds refl))
chain_steady w r ring false false true l k s most holds short fewer =
    let had = room_in ring.chains in
    steady_at w r (all_rewound ring) (stage.Discard had) l (keeps_none r ring k)
    (no_chain w ring (stage.Discard had) refl refl s refl refl (omega (arith, l.fewer)))
chain_steady w r ring true false true l k s most holds short fewer =
    let had = room_in ring.chains in
    steady_at w r (all_rewound ring) (stage.NoticesOff (after.Discard had)) l (keeps_none r ring k)
    (no_chain w ring (stage.NoticesOff (after.Discard had)) refl refl s refl refl (omega (arith, l.fewer)))
chain_steady w r ring false false false l k s most holds short fewer =
    steady_at w r ring stage.Fetch l k
    (more_says w ring stage.Fetch refl refl s refl refl (fewer refl) (short refl))
chain_steady w r ring true false false l k s most holds short fewer =
    steady_at w r ring (stage.NoticesOff after.Fetch) l k
    (more_says w ring (stage.NoticesOff after.Fetch) refl refl s refl refl (fewer refl) (short refl))

le_true : (a b : ℕ) → nat_le a b ≡ true → a ≤ b
le_true a b e = grind (arith, nat_tests)

le_false : (a b : ℕ) → nat_le a b ≡ false → b < a
le_false a b e = grind (arith, nat_tests)

-- after any fetch
fetched_steady :
    (w : Worker) (r : Reserved) (f : Fetched) (segments : List Segment) (second : Bool)
    → Loose w r
    → let ring = joined f segments (ring_of w r.queue) in
    let way = goes_on w.turn.mergeable (need_in w.turn) ring.chains f in
    IsSteady (behind w (settled (rx_rewinds second way) ring) (stage_after second (need_in w.turn) w.turn.chains way))
    (reserved_in r (settled (rx_rewinds second way) ring))
fetched_steady w r (Chain head) segments second l =
    let ring = joined (Chain head) segments (ring_of w r.queue) in
    let n = length-append w.turn.chains (record { head = head; segments = segments } ∷ []) in
    chain_steady w r ring second
    (nat_le (need_in w.turn) (room_in ring.chains)) (nat_le (quota w.turn.mergeable) (length ring.chains))
    l (keeps_joined w r (Chain head) segments l) l.stopped (omega (arith, n, l.fewer))
    (le_true (need_in w.turn) (room_in ring.chains)) (le_false (need_in w.turn) (room_in ring.chains))
    (le_false (quota w.turn.mergeable) (length ring.chains))
fetched_steady w r Nothing segments false l =
    let ring = ring_of w r.queue in
    steady_at w r ring stage.NoticesOn l (keeps_joined w r Nothing segments l)
    (more_says w ring stage.NoticesOn refl refl l.stopped refl refl l.fewer l.short)
fetched_steady w r Nothing segments true l =
    let ring = ring_of w r.queue in
    let st = stage.PutBack (Short (need_in w.turn) (room_in w.turn.chains)) in
    steady_at w r (all_rewound ring) st l (keeps_none r ring (keeps_joined w r Nothing segments l))
    (no_chain w ring st refl refl l.stopped refl refl (omega (arith, l.fewer)))
fetched_steady w r Crowded segments false l =
    let ring = ring_of w r.queue in
    let st = stage.Discard (room_in w.turn.chains) in
    steady_at w r (all_rewound ring) st l (keeps_none r ring (keeps_joined w r Crowded segments l))
    (no_chain w ring st refl refl l.stopped refl refl (omega (arith, l.fewer)))
fetched_steady w r Crowded segments true l =
    let ring = ring_of w r.queue in
    let st = stage.NoticesOff (after.Discard (room_in w.turn.chains)) in
    steady_at w r (all_rewound ring) st l (keeps_none r ring (keeps_joined w r Crowded segments l))
    (no_chain w ring st refl refl l.stopped refl refl (omega (arith, l.fewer)))
fetched_steady w r (Bad fault) segments false l =
    let ring = joined (Bad fault) segments (ring_of w r.queue) in
    let st = stage.PutBack (Stopped fault) in
    steady_at w r (all_rewound ring) st l (keeps_none r ring (keeps_joined w r (Bad fault) segments l))
    (no_chain w ring st refl refl refl refl refl (omega (arith, l.fewer)))
fetched_steady w r (Bad fault) segments true l =
    let ring = joined (Bad fault) segments (ring_of w r.queue) in
    let st = stage.NoticesOff (after.PutBack (Stopped fault)) in
    steady_at w r (all_rewound ring) st l (keeps_none r ring (keeps_joined w r (Bad fault) segments l))
    (no_chain w ring st refl refl refl refl refl (omega (arith, l.fewer)))

-- the same, told of what the parts of a step gave
pub settled_steady :
    (w w2 : Worker) (r r2 : Reserved) (st st2 : RxStage) (f : Fetched) (segments : List Segment) (second b : Bool)
    (one two : Ring) (way : Option After)
    → IsSteady w r → w.turn.stage ≡ st → Gathering st
    → one ≡ joined f segments (ring_of w r.queue)
    → way ≡ goes_on w.turn.mergeable (need_in w.turn) one.chains f
    → b ≡ rx_rewinds second way
    → st2 ≡ stage_after second (need_in w.turn) w.turn.chains way
    → two ≡ settled b one
    → w2 ≡ behind w two st2 → r2 ≡ reserved_in r two
    → IsSteady w2 r2
settled_steady w w2 r r2 st st2 f segments second b one two way s e g e1 ew eb es e2 e3 e4 =
    rw (e3, e4, e2, es, eb, ew, e1) (fetched_steady w r f segments second (loose w r st s e g))

pub fetch_gathers : (second : Bool) → Gathering (fetch_stage second)
fetch_gathers false = record { gathers = refl; holds = refl; stopped = refl; counts = refl; copies = refl; few = refl }
fetch_gathers true = record { gathers = refl; holds = refl; stopped = refl; counts = refl; copies = refl; few = refl }

most_quota : (m : Bool) → quota m ≤ 1024
most_quota true = omega arith
most_quota false = omega arith

few_behind :
    (f : Fetched) (segments : List Segment) (w : Worker) (r : Reserved)
    → Loose w r → length (joined f segments (ring_of w r.queue)).chains ≤ 1024
few_behind (Chain head) segments w r l =
    let n = length-append w.turn.chains (record { head = head; segments = segments } ∷ []) in
    omega (arith, n, l.fewer, most_quota w.turn.mergeable)
few_behind Nothing segments w r l = omega (arith, l.fewer, most_quota w.turn.mergeable)
few_behind Crowded segments w r l = omega (arith, l.fewer, most_quota w.turn.mergeable)
few_behind (Bad fault) segments w r l = omega (arith, l.fewer, most_quota w.turn.mergeable)

-- the chains are no more than there may be
pub few_found :
    (w : Worker) (r : Reserved) (second : Bool) (f : Fetched) (segments : List Segment) (ring : Ring)
    → IsSteady w r → w.turn.stage ≡ fetch_stage second → ring ≡ joined f segments (ring_of w r.queue)
    → length ring.chains ≤ 1024
few_found w r second f segments ring s e is =
    rw is (few_behind f segments w r (loose w r (fetch_stage second) s e (fetch_gathers second)))
