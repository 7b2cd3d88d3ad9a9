-- This project's own: each step of a turn leaves the regions of its guest's memory.
use Rattle.std.proofs.Common.{◌≡◌, ℕ, ◌+◌, List, [], ◌∷◌, length, Bool, true, false, Option, Some, None, refl, ◌∙◌}
use Rattle.std.specs.Prelude.{if◌then◌else◌, ◌==◌, nat_le, nat_lt}
use Rattle.guest_mem.specs.Memory.{Contents, with_le16, written}
use Rattle.vring_split.specs.Split.{used_entry_addr, used_idx_addr}
use Rattle.vring_split.specs.declared.layout.Layout.{Layout}
use Rattle.vhost_queue.specs.declared.done.Done.{Done}
use Rattle.vhost_queue.specs.Positions.{after}
use Rattle.vhost_queue.specs.Publication.{entry_bytes, next_used, noticed_at, published_in, with_entries, with_field, with_published}
use Rattle.vhost_queue.specs.Queue.{Queue}
use Rattle.tap_frame.specs.Frame.{FrameValue}
use Rattle.tap_frame.specs.declared.reading.BadFrame.{BadFrame}
use Rattle.tap_ledger.specs.declared.act.Act.{Act}
use Rattle.tap_ledger.specs.declared.act.Act.TheVariants as act
use Rattle.tap_ledger.specs.declared.hand.Hand.{Hand}
use Rattle.tap_ledger.specs.declared.hand.Hand.TheVariants as hand
use Rattle.tap_ledger.specs.Host.{with_given}
use Rattle.vring_turns.specs.declared.stage.RxStage.{RxStage}
use Rattle.vring_turns.specs.declared.stage.RxStage.TheVariants as rx
use Rattle.vring_turns.specs.declared.stage.TxStage.{TxStage}
use Rattle.vring_turns.specs.declared.stage.TxStage.TheVariants as tx
use Rattle.vring_turns.specs.Ring.{Gathered, Made, Ring, done_in, fetches, first_position, moved, publishes, room_in, with_all_done}
use Rattle.vring_turns.specs.ReceiveImage.{copies_in, need_of, shares, with_image}
use Rattle.vring_turns.specs.TransmitBytes.{bytes_of_chain, refusal_of}
use Rattle.vring_turns.specs.RxTurn as rt
use Rattle.vring_turns.specs.RxTurn.{RxState, rx_in_hand, rx_next, rx_ring, rx_step, rx_with}
use Rattle.vring_turns.specs.TxTurn as transmit
use Rattle.vring_turns.specs.TxTurn.{TxState, tx_next, tx_ring, tx_step}
use Rattle.tap_sound.proofs.Kit.{WhereSome}

-- ---- writes

field_regions : (addr number : ℕ) (m : Contents) → (with_field addr number m).regions ≡ m.regions
unfolding with_le16
field_regions addr number m = refl

notice_regions : (l : Layout) (next : ℕ) (on : Bool) (m : Contents) → (noticed_at l next on m).regions ≡ m.regions
unfolding noticed_at
notice_regions l next on m = go l.event on _ _ _
  where
    go : (a b : Bool) (x y k : ℕ)
        → (if a then (if b then with_field x next m else m) else with_field y k m).regions ≡ m.regions
    go true true x y k = field_regions x next m
    go true false x y k = refl
    go false b x y k = field_regions y k m

entries_regions : (l : Layout) (index : ℕ) (ds : List Done) (m : Contents)
    → (with_entries l index ds m).regions ≡ m.regions
unfolding with_entries
entries_regions l index [] m = refl
entries_regions l index (d ∷ ds) m = entries_regions l (after index 1) ds
    (written m (used_entry_addr l index) (entry_bytes d))

published_regions : (q : Queue) (m : Contents) → (published_in q m).regions ≡ m.regions
unfolding published_in
published_regions q m =
    field_regions (used_idx_addr q.layout) (next_used q) (with_entries q.layout q.used q.positions.done m)
    ∙ entries_regions q.layout q.used q.positions.done m

-- ---- a frame is copied into chains, or what is done is published

abbrev MadeSame : Contents → Made → Type 0
MadeSame m made = made.memory.regions ≡ m.regions

copy_same : (size : ℕ) (frame : FrameValue) (r : Ring) (m : Contents)
    → WhereSome (MadeSame m) (copies_in size frame r m)
copy_same size frame r m = go (nat_le (need_of size frame) (room_in r.chains))
  where
    go : (b : Bool) → WhereSome (MadeSame m) (if b then Some (record {
      ring = moved (with_all_done (shares r.chains (need_of size frame))) [] r;
      memory = with_image size frame r.chains m;
      told = act.Copy (first_position r) frame.name;
    }) else None)
    go true = refl
    go false = tt

publish_same : (r : Ring) (m : Contents) → WhereSome (MadeSame m) (publishes r m)
publish_same r m = go (done_in r.queue == 0) _
  where
    go : (b : Bool) (told : Act) → WhereSome (MadeSame m)
        (if b then None else Some
        (record {
          ring = record r { queue = with_published r.queue };
          memory = published_in r.queue m;
          told = told;
        }))
    go true told = tt
    go false told = published_regions r.queue m

-- ---- receive

abbrev pub RxSame : RxState → RxState × Act → Type 0
RxSame s made = made.0.memory.regions ≡ s.memory.regions

copied_same : (s : RxState) (o : Option Made) → WhereSome (MadeSame s.memory) o → WhereSome (RxSame s) (elim o [
  | None ↦ None
  | Some made ↦
      let next = rt.rx_made made rx.Out s in
      Some (record next.0 { turn = record next.0.turn { handled = s.turn.handled + length s.turn.chains } }, next.1)
])
copied_same s None h = tt
copied_same s (Some made) h = h

rx_published_same : (s : RxState) (st : RxStage) (o : Option Made) → WhereSome (MadeSame s.memory) o
    → WhereSome (RxSame s) (elim o [ None ↦ None | Some made ↦ Some (rt.rx_made made st s) ])
rx_published_same s st None h = tt
rx_published_same s st (Some made) h = h

rx_with_same : (st : RxStage) (frame : FrameValue) (s : RxState) → WhereSome (RxSame s) (rx_with st frame s)
rx_with_same rx.Fetch frame s = refl
rx_with_same rx.FetchAgain frame s = refl
rx_with_same rx.Copy frame s =
    copied_same s (copies_in s.turn.header frame (rx_ring s) s.memory)
    (copy_same s.turn.header frame (rx_ring s) s.memory)
rx_with_same rx.Out frame s = refl
rx_with_same (rx.Discard had) frame s = refl
rx_with_same (rx.PutBack e) frame s = refl
rx_with_same st frame s = tt

rx_hold_same : (o : Option FrameValue) (s : RxState) → WhereSome (RxSame s) (rx_in_hand o s)
rx_hold_same None s = tt
rx_hold_same (Some frame) s = rx_with_same s.turn.stage frame s

rx_hand_same : (h : Hand) (s : RxState) → WhereSome (RxSame s) (rx_next rx.Hand h s)
rx_hand_same (hand.Got frame) s = refl
rx_hand_same (hand.NotReady place) s = refl
rx_hand_same hand.Off s = tt
rx_hand_same hand.NoMemory s = tt

rx_next_same : (st : RxStage) (h : Hand) (s : RxState) → WhereSome (RxSame s) (rx_next st h s)
rx_next_same rx.Begin h s = notice_regions s.queue.layout s.queue.positions.next false s.memory
rx_next_same rx.Hand h s = rx_hand_same h s
rx_next_same rx.NoticesOn h s = notice_regions s.queue.layout s.queue.positions.next true s.memory
rx_next_same (rx.NoticesOff way) h s = notice_regions s.queue.layout s.queue.positions.next false s.memory
rx_next_same (rx.Publish None) h s =
    rx_published_same s rx.Hand (publishes (rx_ring s) s.memory) (publish_same (rx_ring s) s.memory)
rx_next_same (rx.Publish (Some e)) h s =
    rx_published_same s (rx.Ended e) (publishes (rx_ring s) s.memory) (publish_same (rx_ring s) s.memory)
rx_next_same (rx.Ended e) h s = tt
rx_next_same st h s = rx_hold_same s.turn.held s

pub rx_same : (h : Hand) (s : RxState) → WhereSome (RxSame s) (rx_step h s)
rx_same h s = rx_next_same s.turn.stage h s

-- ---- transmit

abbrev pub TxSame : TxState → TxState × Act → Type 0
TxSame s made = made.0.memory.regions ≡ s.memory.regions

tx_fetched_same : (s : TxState) (o : Option TxStage)
    → WhereSome (TxSame s)
    (elim o [ None ↦ None | Some st ↦ Some (transmit.tx_made (fetches (tx_ring s) s.memory) st s) ])
tx_fetched_same s None = tt
tx_fetched_same s (Some st) = refl

tx_published_same : (s : TxState) (st : TxStage) (o : Option Made) → WhereSome (MadeSame s.memory) o
    → WhereSome (TxSame s) (elim o [ None ↦ None | Some made ↦ Some (transmit.tx_made made st s) ])
tx_published_same s st None h = tt
tx_published_same s st (Some made) h = h

tx_copied_same : (s : TxState) (cs : List Gathered) → WhereSome (TxSame s) (transmit.tx_copies cs s)
tx_copied_same s [] = tt
tx_copied_same s (c ∷ cs) = go (refusal_of s.turn.header (bytes_of_chain s.turn.header s.memory c))
  where
    go : (o : Option BadFrame)
        → WhereSome (TxSame s)
        (Some (transmit.tx_judged (first_position (tx_ring s)) (bytes_of_chain s.turn.header s.memory c) o
        (transmit.tx_done c s)))
    go None = refl
    go (Some bad) = refl

tx_given_same : (o : Option FrameValue) (s : TxState) → WhereSome (TxSame s) (transmit.tx_gives o s)
tx_given_same None s = tt
tx_given_same (Some frame) s = go (nat_lt 0 s.host.room)
  where
    go : (b : Bool) → WhereSome (TxSame s) (if b
        then Some (
          record s {
            turn = record s.turn { held = None; stage = transmit.tx_after_packet s.turn s.queue };
            host = with_given frame s.host;
          },
          act.Given frame.name,
        )
        else None)
    go true = refl
    go false = tt

tx_next_same : (st : TxStage) (s : TxState) → WhereSome (TxSame s) (tx_next st s)
tx_next_same tx.Begin s = notice_regions s.queue.layout s.queue.positions.next false s.memory
tx_next_same tx.Fetch s = tx_fetched_same s _
tx_next_same tx.NoticesOn s = notice_regions s.queue.layout s.queue.positions.next true s.memory
tx_next_same tx.FetchAgain s = tx_fetched_same s _
tx_next_same (tx.NoticesOff fault) s = notice_regions s.queue.layout s.queue.positions.next false s.memory
tx_next_same tx.Copy s = tx_copied_same s s.turn.chains
tx_next_same tx.Give s = tx_given_same s.turn.held s
tx_next_same (tx.Publish None) s =
    tx_published_same s tx.Fetch (publishes (tx_ring s) s.memory) (publish_same (tx_ring s) s.memory)
tx_next_same (tx.Publish (Some e)) s =
    tx_published_same s (tx.Ended e) (publishes (tx_ring s) s.memory) (publish_same (tx_ring s) s.memory)
tx_next_same (tx.Ended e) s = tt

pub tx_same : (s : TxState) → WhereSome (TxSame s) (tx_step s)
tx_same s = tx_next_same s.turn.stage s
