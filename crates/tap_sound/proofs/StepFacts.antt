-- What each step of a turn leaves of its ring: the layout, what was published, and the memory's regions.
use Rattle.std.proofs.Common.{◌≡◌, ℕ, ◌+◌, ◌-◌, ◌≤◌, List, [], ◌∷◌, ◌++◌, length, map, take, drop, Bool, true, false, Option, Some, None, refl, sym, ap, ◌∙◌, subst, arith, length-append, length-drop}
use Rattle.std.specs.Prelude.{if◌then◌else◌, ◌==◌, nat_le, nat_lt}
use Rattle.std.proofs.lemmas.List.{drop-append-le, take-append-le}
use Rattle.guest_mem.specs.Memory.{Contents, written}
use Rattle.vring_split.specs.Split.{used_entry_addr, used_idx_addr}
use Rattle.vring_split.specs.declared.layout.Layout.{Layout}
use Rattle.vring_split.specs.declared.segment.Segment.{Segment}
use Rattle.vring_walk.specs.declared.walk.Fetched.{Fetched}
use Rattle.vring_walk.specs.declared.walk.Fetched.TheVariants as fetched
use Rattle.vhost_queue.specs.declared.done.Done.{Done}
use Rattle.vhost_queue.specs.Positions.{after, IsInOrder, Positions, Published, first_done, published_from, with_done}
use Rattle.vhost_queue.specs.Publication.{entry_bytes, next_used, published_in, with_entries, with_published}
use Rattle.vhost_queue.specs.Queue.{Queue}
use Rattle.vhost_dev.specs.Lists.{AreInOrder, IsClosed}
use Rattle.tap_frame.specs.Frame.{FrameValue}
use Rattle.tap_frame.specs.declared.reading.BadFrame.{BadFrame}
use Rattle.tap_ledger.specs.declared.act.Act.{Act}
use Rattle.tap_ledger.specs.declared.act.Act.TheVariants as act
use Rattle.tap_ledger.specs.declared.hand.Hand.{Hand}
use Rattle.tap_ledger.specs.declared.hand.Hand.TheVariants as hand
use Rattle.tap_ledger.specs.Host.{with_given}
use Rattle.vring_turns.specs.declared.stage.RxStage.{RxStage}
use Rattle.vring_turns.specs.declared.stage.RxStage.TheVariants as rx
use Rattle.vring_turns.specs.declared.stage.TxStage.{TxStage}
use Rattle.vring_turns.specs.declared.stage.TxStage.TheVariants as tx
use Rattle.vring_turns.specs.Ring.{Gathered, Made, Ring, all_rewound, done_in, fetches, first_position, found, joined, moved, publishes, room_in, with_all_done}
use Rattle.vring_turns.specs.ReceiveImage.{copies_in, need_of, shares, with_image}
use Rattle.vring_turns.specs.TransmitBytes.{bytes_of_chain, refusal_of}
use Rattle.vring_turns.specs.RxTurn as rt
use Rattle.vring_turns.specs.RxTurn.{RxState, rx_in_hand, rx_next, rx_ring, rx_step, rx_with}
use Rattle.vring_turns.specs.TxTurn as tt_
use Rattle.vring_turns.specs.TxTurn.{TxState, tx_next, tx_ring, tx_step}
use Rattle.tap_sound.proofs.Kit.{WhereSome}
use Rattle.tap_sound.proofs.RingSteps.{notice_regions, field_regions}

-- ---- what a step leaves

-- it publishes behind what was published
abbrev pub Grows : Positions → Positions → Type 0
Grows p q = (more : List Published) × (q.journal ≡ p.journal ++ more)

abbrev pub Does : Queue → Contents → Queue → Contents → Type 0
Does q m r n = (r.layout ≡ q.layout) × Grows q.positions r.positions × (n.regions ≡ m.regions)

with_none : (xs : List Published) → xs ≡ xs ++ []
with_none [] = refl
with_none (x ∷ xs) = ap (λ (ys : List Published). x ∷ ys) (with_none xs)

still : (p q : Positions) → q.journal ≡ p.journal → Grows p q
still p q same = ([], same ∙ with_none p.journal)

-- a fetch, rewound or not
joined_keeps : (x : Fetched) (segments : List Segment) (r : Ring) → ((joined x segments r).queue.layout ≡ r.queue.layout) × ((joined x segments r).queue.positions.journal ≡ r.queue.positions.journal)
joined_keeps (fetched.Chain head) segments r = (refl, refl)
joined_keeps fetched.Nothing segments r = (refl, refl)
joined_keeps fetched.Crowded segments r = (refl, refl)
joined_keeps (fetched.Bad fault) segments r = (refl, refl)

rewound_keeps : (b : Bool) (r : Ring) → ((if b then all_rewound r else r).queue.layout ≡ r.queue.layout) × ((if b then all_rewound r else r).queue.positions.journal ≡ r.queue.positions.journal)
rewound_keeps true r = (refl, refl)
rewound_keeps false r = (refl, refl)

done_keeps : (ds : List Done) (p : Positions) → (with_all_done ds p).journal ≡ p.journal
done_keeps [] p = refl
done_keeps (d ∷ ds) p = done_keeps ds (with_done d.head d.len p)

entries_regions : (l : Layout) (index : ℕ) (ds : List Done) (m : Contents) → (with_entries l index ds m).regions ≡ m.regions
unfolding with_entries
entries_regions l index [] m = refl
entries_regions l index (d ∷ ds) m = entries_regions l (after index 1) ds (written m (used_entry_addr l index) (entry_bytes d))

published_regions : (q : Queue) (m : Contents) → (published_in q m).regions ≡ m.regions
unfolding published_in
published_regions q m = field_regions (used_idx_addr q.layout) (next_used q) (with_entries q.layout q.used q.positions.done m) ∙ entries_regions q.layout q.used q.positions.done m

-- ---- receive

abbrev pub RxDoes : RxState → RxState × Act → Type 0
RxDoes s made = Does s.queue s.memory made.0.queue made.0.memory

rx_fetch_does : (second : Bool) (need : ℕ) (s : RxState) → RxDoes s (rt.rx_fetches second need s)
rx_fetch_does second need s =
    let j = joined_keeps (found (rx_ring s) s.memory).0 (found (rx_ring s) s.memory).1 (rx_ring s) in
    let r = rewound_keeps (rt.rx_rewinds second (rt.rx_way need s)) (fetches (rx_ring s) s.memory).ring in
    (r.0 ∙ j.0, still s.queue.positions (rt.rx_fetches second need s).0.queue.positions (r.1 ∙ j.1), refl)

-- a frame is copied into chains, or what is done is published
abbrev MadeDoes : Ring → Contents → Made → Type 0
MadeDoes r m made = Does r.queue m made.ring.queue made.memory

copy_does : (size : ℕ) (frame : FrameValue) (r : Ring) (m : Contents) → WhereSome (MadeDoes r m) (copies_in size frame r m)
copy_does size frame r m = go (nat_le (need_of size frame) (room_in r.chains))
  where
    go : (b : Bool) → WhereSome (MadeDoes r m) (if b then Some (record {
      ring = moved (with_all_done (shares r.chains (need_of size frame))) [] r;
      memory = with_image size frame r.chains m;
      told = act.Copy (first_position r) frame.name;
    }) else None)
    go true = (refl, still r.queue.positions (with_all_done (shares r.chains (need_of size frame)) r.queue.positions) (done_keeps (shares r.chains (need_of size frame)) r.queue.positions), refl)
    go false = tt

publish_does : (r : Ring) (m : Contents) → WhereSome (MadeDoes r m) (publishes r m)
publish_does r m = go (done_in r.queue == 0) _
  where
    go : (b : Bool) (told : Act) → WhereSome (MadeDoes r m)
        (if b then None else Some (record { ring = record r { queue = with_published r.queue }; memory = published_in r.queue m; told = told }))
    go true told = tt
    go false told = (refl, (published_from (first_done r.queue.positions) r.queue.positions.done, refl), published_regions r.queue m)

copied_does : (s : RxState) (o : Option Made) → WhereSome (MadeDoes (rx_ring s) s.memory) o → WhereSome (RxDoes s) (elim o [
  | None ↦ None
  | Some made ↦
      let next = rt.rx_made made rx.Out s in
      Some (record next.0 { turn = record next.0.turn { handled = s.turn.handled + length s.turn.chains } }, next.1)
])
copied_does s None h = tt
copied_does s (Some made) h = h

rx_published_does : (s : RxState) (st : RxStage) (o : Option Made) → WhereSome (MadeDoes (rx_ring s) s.memory) o
    → WhereSome (RxDoes s) (elim o [ None ↦ None | Some made ↦ Some (rt.rx_made made st s) ])
rx_published_does s st None h = tt
rx_published_does s st (Some made) h = h

rx_with_does : (st : RxStage) (frame : FrameValue) (s : RxState) → WhereSome (RxDoes s) (rx_with st frame s)
rx_with_does rx.Fetch frame s = rx_fetch_does false (need_of s.turn.header frame) s
rx_with_does rx.FetchAgain frame s = rx_fetch_does true (need_of s.turn.header frame) s
rx_with_does rx.Copy frame s = copied_does s (copies_in s.turn.header frame (rx_ring s) s.memory) (copy_does s.turn.header frame (rx_ring s) s.memory)
rx_with_does rx.Out frame s = (refl, still s.queue.positions s.queue.positions refl, refl)
rx_with_does (rx.Discard had) frame s = (refl, still s.queue.positions s.queue.positions refl, refl)
rx_with_does (rx.PutBack e) frame s = (refl, still s.queue.positions s.queue.positions refl, refl)
rx_with_does st frame s = tt

rx_hold_does : (o : Option FrameValue) (s : RxState) → WhereSome (RxDoes s) (rx_in_hand o s)
rx_hold_does None s = tt
rx_hold_does (Some frame) s = rx_with_does s.turn.stage frame s

rx_hand_does : (h : Hand) (s : RxState) → WhereSome (RxDoes s) (rx_next rx.Hand h s)
rx_hand_does (hand.Got frame) s = (refl, still s.queue.positions s.queue.positions refl, refl)
rx_hand_does (hand.NotReady place) s = (refl, still s.queue.positions s.queue.positions refl, refl)
rx_hand_does hand.Off s = tt
rx_hand_does hand.NoMemory s = tt

rx_next_does : (st : RxStage) (h : Hand) (s : RxState) → WhereSome (RxDoes s) (rx_next st h s)
rx_next_does rx.Begin h s = (refl, still s.queue.positions s.queue.positions refl, notice_regions s.queue.layout s.queue.positions.next false s.memory)
rx_next_does rx.Hand h s = rx_hand_does h s
rx_next_does rx.NoticesOn h s = (refl, still s.queue.positions s.queue.positions refl, notice_regions s.queue.layout s.queue.positions.next true s.memory)
rx_next_does (rx.NoticesOff way) h s = (refl, still s.queue.positions s.queue.positions refl, notice_regions s.queue.layout s.queue.positions.next false s.memory)
rx_next_does (rx.Publish None) h s = rx_published_does s rx.Hand (publishes (rx_ring s) s.memory) (publish_does (rx_ring s) s.memory)
rx_next_does (rx.Publish (Some e)) h s = rx_published_does s (rx.Ended e) (publishes (rx_ring s) s.memory) (publish_does (rx_ring s) s.memory)
rx_next_does (rx.Ended e) h s = tt
rx_next_does st h s = rx_hold_does s.turn.held s

pub rx_does : (h : Hand) (s : RxState) → WhereSome (RxDoes s) (rx_step h s)
rx_does h s = rx_next_does s.turn.stage h s

-- ---- transmit

abbrev pub TxDoes : TxState → TxState × Act → Type 0
TxDoes s made = Does s.queue s.memory made.0.queue made.0.memory

tx_fetched_does : (s : TxState) (o : Option TxStage) → WhereSome (TxDoes s) (elim o [ None ↦ None | Some st ↦ Some (tt_.tx_made (fetches (tx_ring s) s.memory) st s) ])
tx_fetched_does s None = tt
tx_fetched_does s (Some st) =
    let j = joined_keeps (found (tx_ring s) s.memory).0 (found (tx_ring s) s.memory).1 (tx_ring s) in
    (j.0, still s.queue.positions (joined (found (tx_ring s) s.memory).0 (found (tx_ring s) s.memory).1 (tx_ring s)).queue.positions j.1, refl)

tx_published_does : (s : TxState) (st : TxStage) (o : Option Made) → WhereSome (MadeDoes (tx_ring s) s.memory) o
    → WhereSome (TxDoes s) (elim o [ None ↦ None | Some made ↦ Some (tt_.tx_made made st s) ])
tx_published_does s st None h = tt
tx_published_does s st (Some made) h = h

tx_copied_does : (s : TxState) (cs : List Gathered) → WhereSome (TxDoes s) (tt_.tx_copies cs s)
tx_copied_does s [] = tt
tx_copied_does s (c ∷ cs) = go (refusal_of s.turn.header (bytes_of_chain s.turn.header s.memory c))
  where
    go : (o : Option BadFrame) → WhereSome (TxDoes s) (Some (tt_.tx_judged (first_position (tx_ring s)) (bytes_of_chain s.turn.header s.memory c) o (tt_.tx_done c s)))
    go None = (refl, still s.queue.positions s.queue.positions refl, refl)
    go (Some bad) = (refl, still s.queue.positions s.queue.positions refl, refl)

tx_given_does : (o : Option FrameValue) (s : TxState) → WhereSome (TxDoes s) (tt_.tx_gives o s)
tx_given_does None s = tt
tx_given_does (Some frame) s = go (nat_lt 0 s.host.room)
  where
    go : (b : Bool) → WhereSome (TxDoes s) (if b
        then Some (record s { turn = record s.turn { held = None; stage = tt_.tx_after_packet s.turn s.queue }; host = with_given frame s.host }, act.Given frame.name)
        else None)
    go true = (refl, still s.queue.positions s.queue.positions refl, refl)
    go false = tt

tx_next_does : (st : TxStage) (s : TxState) → WhereSome (TxDoes s) (tx_next st s)
tx_next_does tx.Begin s = (refl, still s.queue.positions s.queue.positions refl, notice_regions s.queue.layout s.queue.positions.next false s.memory)
tx_next_does tx.Fetch s = tx_fetched_does s _
tx_next_does tx.NoticesOn s = (refl, still s.queue.positions s.queue.positions refl, notice_regions s.queue.layout s.queue.positions.next true s.memory)
tx_next_does tx.FetchAgain s = tx_fetched_does s _
tx_next_does (tx.NoticesOff fault) s = (refl, still s.queue.positions s.queue.positions refl, notice_regions s.queue.layout s.queue.positions.next false s.memory)
tx_next_does tx.Copy s = tx_copied_does s s.turn.chains
tx_next_does tx.Give s = tx_given_does s.turn.held s
tx_next_does (tx.Publish None) s = tx_published_does s tx.Fetch (publishes (tx_ring s) s.memory) (publish_does (tx_ring s) s.memory)
tx_next_does (tx.Publish (Some e)) s = tx_published_does s (tx.Ended e) (publishes (tx_ring s) s.memory) (publish_does (tx_ring s) s.memory)
tx_next_does (tx.Ended e) s = tt

pub tx_does : (s : TxState) → WhereSome (TxDoes s) (tx_step s)
tx_does s = tx_next_does s.turn.stage s

-- ---- lists of positions

-- a list that ended stays as it was where more is published
closed_on : (base start until : ℕ) (journal more : List Published) → IsClosed base start until journal → IsClosed base start until (journal ++ more)
closed_on base start until journal more h =
    let n = length-append journal more in
    let d = length-drop start journal in
    let rising = h.rising in
    let begun = h.begun in
    let first : start ≤ length journal = omega (arith, rising, begun) in
    let fits : until - start ≤ length (drop start journal) = omega (arith, rising, begun, d) in
    record {
      rising = h.rising;
      begun = omega (arith, begun, n);
      positions = ap (λ (xs : List Published). map (λ (e : Published). e.0) (take (until - start) xs)) (drop-append-le start journal more first)
          ∙ ap (λ (xs : List Published). map (λ (e : Published). e.0) xs) (take-append-le (until - start) (drop start journal) more fits) ∙ h.positions;
    }

pub lists_on : (lists : List (ℕ × ℕ)) (p q : Positions) → Grows p q → ((base start : ℕ) → IsInOrder base start p → IsInOrder base start q) → AreInOrder lists p → AreInOrder lists q
lists_on [] p q grows keep h = tt
lists_on ((base, start) ∷ []) p q grows keep h = keep base start h
lists_on ((base, start) ∷ (next, until) ∷ more) p q grows keep h =
    (subst (IsClosed base start until) (sym grows.1) (closed_on base start until p.journal grows.0 h.0), lists_on ((next, until) ∷ more) p q grows keep h.1)
