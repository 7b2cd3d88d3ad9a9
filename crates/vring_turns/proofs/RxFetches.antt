-- How a receive turn and its ring stand after a fetch, and what its stages need.
use Rattle.std.proofs.Common.{◌≡◌, ℕ, suc, ◌+◌, ◌-◌, ◌^◌, ◌<◌, ◌≤◌, Bool, true, false, List, [], ◌∷◌, length, Option, None, Some, if◌then◌else◌, nat_le, nat_eq, refl, sym, ap, subst, arith}
use Rattle.vring_walk.specs.declared.walk.Fetched.{Fetched}
use Rattle.vring_walk.specs.declared.walk.Fetched.TheVariants.{Chain, Nothing, Bad, Crowded}
use Rattle.vring_split.specs.declared.segment.Segment.{Segment}
use Rattle.vhost_queue.specs.declared.done.Done.{Done}
use Rattle.vhost_queue.specs.Positions.{Positions, IsInOrder, with_done}
use Rattle.vhost_queue.specs.Queue.{Queue}
use Rattle.tap_frame.specs.Frame.{FrameValue}
use Rattle.tap_ledger.specs.declared.act.Act.{Act}
use Rattle.vring_turns.specs.declared.end.End.{End}
use Rattle.vring_turns.specs.declared.end.End.TheVariants as end
use Rattle.vring_turns.specs.declared.stage.RxStage.{RxStage}
use Rattle.vring_turns.specs.declared.stage.RxStage.TheVariants as rx
use Rattle.vring_turns.specs.declared.stage.After.{After}
use Rattle.vring_turns.specs.declared.stage.After.TheVariants as after
use Rattle.vring_turns.specs.Ring.{Gathered, Ring, bytes_in, room_in, joined, all_rewound, found, fetches, done_in, with_all_done}
use Rattle.vring_turns.specs.Turn.{is_enough}
use Rattle.vring_turns.specs.ReceiveImage.{shares}
use Rattle.vring_turns.specs.RxTurn.{RxTurn, RxState, quota, goes_on, rx_ring, rx_made, rewinding, stage_of, rx_rewinds, rx_way, rx_after_fetch, rx_after_second}
use Rattle.vring_turns.specs.Standing.{HasRxCause, IsGathering, RxStandsAt, RxStands}
use Rattle.vring_turns.specs.Stage.{need_at}
use Rattle.vring_turns.proofs.TxRuns.{some_is}
use Rattle.vring_turns.proofs.Standings.{OrderLaws, StayInOrder, IsCounted, joined_counted, joined_in_order, zero_of, few}

-- What a fetch leaves where its chains are given up.

rewound_counted : (r : Ring) → IsCounted r → IsCounted (all_rewound r)
rewound_counted r h = omega (arith, h)

rewound_in_order :
    OrderLaws → (r : Ring) → IsCounted r → StayInOrder r.queue.positions (all_rewound r).queue.positions
rewound_in_order laws r h base start o =
    let le : length r.chains ≤ r.queue.positions.gathered = omega (arith, h) in
    laws.rewinds base start (length r.chains) r.queue.positions le o

-- Chains that are done.

pub length-shares : (cs : List Gathered) (n : ℕ) → length (shares cs n) ≡ length cs
length-shares [] n = refl
length-shares (c ∷ cs) n = ap (λ k. suc k) (length-shares cs (n - bytes_in c.segments))

pub done_counted : (ds : List Done) (p : Positions) → (with_all_done ds p).gathered ≡ p.gathered - length ds
done_counted [] p = omega arith
done_counted (d ∷ ds) p = omega (arith, done_counted ds (with_done d.head d.len p))

pub done_in_order :
    OrderLaws → (ds : List Done) (p : Positions) → length ds ≤ p.gathered → StayInOrder p (with_all_done ds p)
done_in_order laws [] p h base start o = o
done_in_order laws (d ∷ ds) p h base start o =
    let some : 0 < p.gathered = omega (arith, h) in
    let rest : length ds ≤ (with_done d.head d.len p).gathered = omega (arith, h) in
    done_in_order laws ds (with_done d.head d.len p) rest base start (laws.done base start d.head d.len p some o)

-- Stages.

pub closing_stands :
    (b : Bool) (e : End) (t : RxTurn) (q : Queue)
    → nat_eq (done_in q) 0 ≡ b → t.chains ≡ [] → HasRxCause e t q
    → RxStandsAt (if b then rx.Ended e else rx.Publish (Some e)) t q
closing_stands true e t q is none cause = (none, cause, zero_of (done_in q) is)
closing_stands false e t q is none cause = (none, cause)

pub packet_stands :
    (a b : Bool) (t : RxTurn) (q : Queue)
    → is_enough t.packets t.bytes t.handled ≡ a → nat_le 64 (done_in q) ≡ b → t.chains ≡ []
    → RxStandsAt (if a then (if nat_eq (done_in q) 0 then rx.Ended end.Again else rx.Publish (Some end.Again))
    else (if b then rx.Publish None else rx.Hand)) t q
packet_stands true b t q enough many none = closing_stands (nat_eq (done_in q) 0) end.Again t q refl none enough
packet_stands false true t q enough many none = none
packet_stands false false t q enough many none = (none, few (done_in q) many)

pub some_quota : (m : Bool) → 0 < quota m
some_quota true = omega arith
some_quota false = omega arith

most_quota : (m : Bool) → quota m ≤ 1024
most_quota true = omega arith
most_quota false = omega arith

less : (a b : ℕ) → nat_le a b ≡ false → b < a
less a b e = grind arith

-- the cause of an end doesn't speak of chains, of what is held, or of the stage
pub same_cause :
    (e : End) (t : RxTurn) (cs : List Gathered) (o : Option FrameValue) (st : RxStage) (q : Queue)
    → HasRxCause e t q → HasRxCause e (record t { chains = cs; held = o; stage = st }) q
same_cause end.Idle t cs o st q h = tt
same_cause (end.Short need had) t cs o st q h = h
same_cause end.Again t cs o st q h = h
same_cause (end.Stopped fault) t cs o st q h = h
same_cause end.Off t cs o st q h = h
same_cause end.NoMemory t cs o st q h = h

pub at_stage : (t : RxTurn) (q : Queue) (st : RxStage) → IsGathering t q → IsGathering (record t { stage = st }) q
at_stage t q st h = record { fewer = h.fewer; short = h.short; few_done = h.few_done }

-- where a way leads, once the notices are off
pub way_stands :
    (way : After) (t : RxTurn) (q : Queue)
    → RxStandsAt (rx.NoticesOff way) t q → RxStandsAt (stage_of way) (record t { stage = stage_of way }) q
way_stands after.Fetch t q at = at_stage t q rx.Fetch at
way_stands after.Copy t q at = tt
way_stands (after.Discard had) t q at = at
way_stands (after.PutBack e) t q at = (at.0, same_cause e t t.chains t.held (rx.PutBack e) q at.1)

-- One step.

-- the turn stands rightly, and its positions are in order as they were
pub record RxKeeps (p : Positions) (t : RxTurn) (q : Queue) : Type 0 where
  pub stands : RxStands t q
  pub order : StayInOrder p q.positions

pub of_answer :
    (s s' : RxState) (told : Act) (x : RxState × Act)
    → Some x ≡ Some (s', told) → RxKeeps s.queue.positions x.0.turn x.0.queue
    → RxKeeps s.queue.positions s'.turn s'.queue
of_answer s s' told x e d =
    let P : RxState → Type 0 = λ u. RxKeeps s.queue.positions u.turn u.queue in
    subst P (ap (λ y. y.0) (some_is x (s', told) e)) d

-- a step that leaves the positions
pub calm :
    (s s' : RxState) (told : Act) (x : RxState × Act)
    → Some x ≡ Some (s', told) → RxStands x.0.turn x.0.queue → x.0.queue.positions ≡ s.queue.positions
    → RxKeeps s.queue.positions s'.turn s'.queue
calm s s' told x e stands same =
    let order : StayInOrder s.queue.positions x.0.queue.positions =
    λ base start o. subst (IsInOrder base start) (sym same) o in
    of_answer s s' told x e (record { stands = stands; order = order })

-- Fetches.

abbrev pub after_by : Bool → ℕ → List Gathered → Option After → RxStage
after_by second need cs way = if second then rx_after_second need cs way else rx_after_fetch way

abbrev pub ring_by : Bool → Option After → Ring → Ring
ring_by second way r = if rx_rewinds second way then all_rewound r else r

-- the turn after a fetch that led to this ring and goes this way
abbrev FetchKeeps : Bool → ℕ → Option After → Ring → RxState → Type 0
FetchKeeps second need way r s =
    RxKeeps s.queue.positions
    (record s.turn { chains = (ring_by second way r).chains; stage = after_by second need s.turn.chains way })
    (ring_by second way r).queue

few_served :
    (s : RxState) → IsCounted (rx_ring s) → IsGathering s.turn s.queue
    → s.queue.positions.gathered + done_in s.queue < 2 ^ 16
few_served s g at =
    let a = at.fewer in
    let b = at.few_done in
    omega (arith, g, a, b, most_quota s.turn.mergeable)

kept :
    OrderLaws → (s : RxState) (f : Fetched) (segments : List Segment) (st : RxStage)
    → 0 < s.turn.header → IsCounted (rx_ring s) → IsGathering s.turn s.queue
    → RxStandsAt st (record s.turn { chains = (joined f segments (rx_ring s)).chains; stage = st })
    (joined f segments (rx_ring s)).queue
    → RxKeeps s.queue.positions (record s.turn { chains = (joined f segments (rx_ring s)).chains; stage = st })
    (joined f segments (rx_ring s)).queue
kept laws s f segments st header g gathering at = record {
  stands = record { header = header; gathered = joined_counted f segments (rx_ring s) g; stage = at };
  order = joined_in_order laws f segments (rx_ring s) (few_served s g gathering);
}

given_up :
    OrderLaws → (s : RxState) (f : Fetched) (segments : List Segment) (st : RxStage)
    → 0 < s.turn.header → IsCounted (rx_ring s) → IsGathering s.turn s.queue
    → RxStandsAt st (record s.turn { chains = []; stage = st }) (all_rewound (joined f segments (rx_ring s))).queue
    → RxKeeps s.queue.positions (record s.turn { chains = []; stage = st })
    (all_rewound (joined f segments (rx_ring s))).queue
given_up laws s f segments st header g gathering at =
    let counted = joined_counted f segments (rx_ring s) g in
    record {
      stands = record {
        header = header;
        gathered = rewound_counted (joined f segments (rx_ring s)) counted;
        stage = at;
      };
      order = λ base start o.
          rewound_in_order laws (joined f segments (rx_ring s)) counted base start
          (joined_in_order laws f segments (rx_ring s) (few_served s g gathering) base start o);
    }

-- a chain was found, and the chains hold the frame, or are as many as they may be, or are too short
chain_keeps :
    OrderLaws → (second : Bool) (s : RxState) (need head : ℕ) (segments : List Segment) (a b : Bool)
    → 0 < s.turn.header → IsCounted (rx_ring s) → IsGathering s.turn s.queue
    → need_at s.turn.header s.turn.held ≡ need
    → nat_le need (room_in (joined (Chain head) segments (rx_ring s)).chains) ≡ a
    → nat_le (quota s.turn.mergeable) (length (joined (Chain head) segments (rx_ring s)).chains) ≡ b
    → FetchKeeps second need
    (Some (if a then after.Copy
    else (if b then after.Discard (room_in (joined (Chain head) segments (rx_ring s)).chains) else after.Fetch)))
    (joined (Chain head) segments (rx_ring s)) s
chain_keeps laws false s need head segments true b header g at is ea eb =
    kept laws s (Chain head) segments rx.Copy header g at tt
chain_keeps laws true s need head segments true b header g at is ea eb =
    kept laws s (Chain head) segments (rx.NoticesOff after.Copy) header g at tt
chain_keeps laws false s need head segments false true header g at is ea eb =
    let had = room_in (joined (Chain head) segments (rx_ring s)).chains in
    given_up laws s (Chain head) segments (rx.Discard had) header g at refl
chain_keeps laws true s need head segments false true header g at is ea eb =
    let had = room_in (joined (Chain head) segments (rx_ring s)).chains in
    given_up laws s (Chain head) segments (rx.NoticesOff (after.Discard had)) header g at refl
chain_keeps laws false s need head segments false false header g at is ea eb =
    let cs = (joined (Chain head) segments (rx_ring s)).chains in
    kept laws s (Chain head) segments rx.Fetch header g at (record {
      fewer = less (quota s.turn.mergeable) (length cs) eb;
      short = subst (λ n. room_in cs < n) (sym is) (less need (room_in cs) ea);
      few_done = at.few_done;
    })
chain_keeps laws true s need head segments false false header g at is ea eb =
    let cs = (joined (Chain head) segments (rx_ring s)).chains in
    kept laws s (Chain head) segments (rx.NoticesOff after.Fetch) header g at (record {
      fewer = less (quota s.turn.mergeable) (length cs) eb;
      short = subst (λ n. room_in cs < n) (sym is) (less need (room_in cs) ea);
      few_done = at.few_done;
    })

found_keeps :
    OrderLaws → (second : Bool) (s : RxState) (need : ℕ) (f : Fetched) (segments : List Segment)
    → 0 < s.turn.header → IsCounted (rx_ring s) → IsGathering s.turn s.queue
    → need_at s.turn.header s.turn.held ≡ need
    → FetchKeeps second need (goes_on s.turn.mergeable need (joined f segments (rx_ring s)).chains f)
    (joined f segments (rx_ring s)) s
found_keeps laws second s need (Chain head) segments header g at is =
    let cs = (joined (Chain head) segments (rx_ring s)).chains in
    let a = nat_le need (room_in cs) in
    let b = nat_le (quota s.turn.mergeable) (length cs) in
    chain_keeps laws second s need head segments a b header g at is refl refl
found_keeps laws false s need Nothing segments header g at is =
    kept laws s Nothing segments rx.NoticesOn header g at (at_stage s.turn s.queue rx.NoticesOn at)
found_keeps laws true s need Nothing segments header g at is =
    let had = room_in s.turn.chains in
    given_up laws s Nothing segments (rx.PutBack (end.Short need had)) header g at
    (refl, subst (λ n. had < n) is at.short)
found_keeps laws false s need Crowded segments header g at is =
    given_up laws s Crowded segments (rx.Discard (room_in s.turn.chains)) header g at refl
found_keeps laws true s need Crowded segments header g at is =
    given_up laws s Crowded segments (rx.NoticesOff (after.Discard (room_in s.turn.chains))) header g at refl
found_keeps laws false s need (Bad fault) segments header g at is =
    given_up laws s (Bad fault) segments (rx.PutBack (end.Stopped fault)) header g at (refl, refl)
found_keeps laws true s need (Bad fault) segments header g at is =
    given_up laws s (Bad fault) segments (rx.NoticesOff (after.PutBack (end.Stopped fault))) header g at (refl, refl)

pub fetch_keeps :
    OrderLaws → (second : Bool) (s s' : RxState) (told : Act) (need : ℕ)
    → 0 < s.turn.header → IsCounted (rx_ring s) → IsGathering s.turn s.queue
    → need_at s.turn.header s.turn.held ≡ need
    → Some (rx_made (rewinding (rx_rewinds second (rx_way need s)) (fetches (rx_ring s) s.memory))
    (after_by second need s.turn.chains (rx_way need s)) s) ≡ Some (s', told)
    → RxKeeps s.queue.positions s'.turn s'.queue
fetch_keeps laws second s s' told need header g at is e =
    let f = found (rx_ring s) s.memory in
    let way = rx_way need s in
    of_answer s s' told
    (rx_made (rewinding (rx_rewinds second way) (fetches (rx_ring s) s.memory))
    (after_by second need s.turn.chains way) s)
    e (found_keeps laws second s need f.0 f.1 header g at is)
