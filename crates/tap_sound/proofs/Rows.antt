-- Each event of a command is one that is left to it, and what is left then follows.
use Rattle.std.proofs.Common.{◌≡◌, ℕ, ◌+◌, List, [], ◌∷◌, Option, Some, None, inl, inr, refl, subst}
use Rattle.std.specs.Prelude.{length, nat_lt}
use Rattle.tap_frame.specs.declared.reading.BadFrame.{BadFrame}
use Rattle.tap_ledger.specs.declared.hand.Hand.TheVariants as hand
use Rattle.tap_ledger.specs.declared.act.Act.{Act}
use Rattle.tap_frame.specs.Frame.{FrameValue}
use Rattle.vring_walk.specs.declared.walk.Fetched.{Fetched}
use Rattle.vring_walk.specs.declared.walk.Fetched.TheVariants as fetched
use Rattle.vhost_queue.specs.Queue.{Queue}
use Rattle.vring_turns.specs.declared.end.End.TheVariants.{Idle, Stopped}
use Rattle.vring_turns.specs.declared.stage.After.{After}
use Rattle.vring_turns.specs.declared.stage.RxStage.{RxStage}
use Rattle.vring_turns.specs.declared.stage.RxStage.TheVariants as rx
use Rattle.vring_turns.specs.declared.stage.TxStage.{TxStage}
use Rattle.vring_turns.specs.declared.stage.TxStage.TheVariants as tx
use Rattle.vring_turns.specs.Ring.{Gathered, Made, fetches, found, first_position, publishes}
use Rattle.vring_turns.specs.ReceiveImage.{copies_in, need_of}
use Rattle.vring_turns.specs.TransmitBytes.{bytes_of_chain, refusal_of}
use Rattle.vring_turns.specs.RxTurn as rt
use Rattle.vring_turns.specs.RxTurn.{RxState}
use Rattle.vring_turns.specs.TxTurn as tt_
use Rattle.vring_turns.specs.TxTurn.{TxState, TxTurn}
use Rattle.tap_world.specs.declared.event.EventKind.{EventKind}
use Rattle.tap_world.specs.declared.event.EventKind.TheVariants as event
use Rattle.tap_world.specs.Grammar.{HasForm, Perhaps}
use Rattle.tap_world.specs.Grammar.Grammar.{One, ◌⨾◌}
use Rattle.tap_world.specs.Commands.{published}
use Rattle.tap_sound.proofs.Forms.{weaken}
use Rattle.tap_sound.proofs.Kit.{WhereSome, where_if}
use Rattle.tap_sound.proofs.Left.{more_chains, rx_closes, rx_finds, rx_goes_way, rx_left, rx_notices, rx_packet, tx_closes, tx_finds, tx_left, tx_notices, tx_packet}

-- ---- the steps of a receive turn

abbrev pub RxGoes : RxStage → EventKind → RxStage → Type 0
RxGoes st k next = (es : List EventKind) → HasForm (rx_left next) es → HasForm (rx_left st) (k ∷ es)

abbrev pub rx_kind : RxStage → EventKind
rx_kind rx.Begin = event.Notices
rx_kind rx.Hand = event.Hand
rx_kind rx.Fetch = event.Fetch
rx_kind rx.NoticesOn = event.Notices
rx_kind rx.FetchAgain = event.Fetch
rx_kind (rx.NoticesOff way) = event.Notices
rx_kind rx.Copy = event.Copy
rx_kind rx.Out = event.Out
rx_kind (rx.Discard had) = event.Out
rx_kind (rx.PutBack e) = event.PutBack
rx_kind (rx.Publish e) = event.PublishUsed
rx_kind (rx.Ended e) = event.PublishUsed

abbrev RxFits : RxStage → Option (RxState × Act) → Type 0
RxFits st o = WhereSome (λ (made : RxState × Act). RxGoes st (rx_kind st) made.0.turn.stage) o

after_first : (o : Option After) → RxGoes rx.Fetch event.Fetch (rt.rx_after_fetch o)
after_first None es h = rx_notices es h
after_first (Some way) es h = rx_finds (event.Fetch ∷ es) (inl (refl, rx_goes_way way es h))

after_second : (need : ℕ) (chains : List Gathered) (o : Option After) → RxGoes rx.FetchAgain event.Fetch (rt.rx_after_second need chains o)
after_second need chains None es h = (refl, inr h)
after_second need chains (Some way) es h = (refl, inl h)

-- a step with the frame in hand
rx_with_fits : (st : RxStage) (frame : FrameValue) (s : RxState) → RxFits st (rt.rx_with st frame s)
rx_with_fits rx.Fetch frame s = after_first (rt.rx_way (need_of s.turn.header frame) s)
rx_with_fits rx.FetchAgain frame s = after_second (need_of s.turn.header frame) s.turn.chains (rt.rx_way (need_of s.turn.header frame) s)
rx_with_fits rx.Copy frame s = go (copies_in s.turn.header frame (rt.rx_ring s) s.memory)
  where
    go : (o : Option Made) → RxFits rx.Copy (elim o [
      | None ↦ None
      | Some made ↦
          let next = rt.rx_made made rx.Out s in
          Some (record next.0 { turn = record next.0.turn { handled = s.turn.handled + length s.turn.chains } }, next.1)
    ])
    go None = tt
    go (Some made) = λ es h. (refl, h)
rx_with_fits rx.Out frame s = λ es h. (refl, rx_packet (record s.turn { packets = s.turn.packets + 1; bytes = s.turn.bytes + need_of s.turn.header frame; held = None }) s.queue es h)
rx_with_fits (rx.Discard had) frame s = λ es h. (refl, rx_packet (record s.turn { packets = s.turn.packets + 1; bytes = s.turn.bytes + 0; held = None }) s.queue es h)
rx_with_fits (rx.PutBack e) frame s = λ es h. (refl, rx_closes e s.queue es h)
rx_with_fits rx.Begin frame s = tt
rx_with_fits rx.Hand frame s = tt
rx_with_fits rx.NoticesOn frame s = tt
rx_with_fits (rx.NoticesOff way) frame s = tt
rx_with_fits (rx.Publish e) frame s = tt
rx_with_fits (rx.Ended e) frame s = tt

rx_hand_fits : (o : Option FrameValue) (s : RxState) → ((frame : FrameValue) → RxFits s.turn.stage (rt.rx_with s.turn.stage frame s)) → RxFits s.turn.stage (rt.rx_in_hand o s)
rx_hand_fits None s h = tt
rx_hand_fits (Some frame) s h = h frame

rx_next_fits : (st : RxStage) (s : RxState) → s.turn.stage ≡ st → RxFits st (rt.rx_next st hand.Off s)
rx_next_fits rx.Begin s is = λ es h. (refl, h)
rx_next_fits rx.Hand s is = tt
rx_next_fits rx.NoticesOn s is = λ es h. (refl, h)
rx_next_fits (rx.NoticesOff way) s is = λ es h. (refl, rx_goes_way way es h)
rx_next_fits (rx.Publish None) s is = go (publishes (rt.rx_ring s) s.memory)
  where
    go : (o : Option Made) → RxFits (rx.Publish None) (elim o [ None ↦ None | Some made ↦ Some (rt.rx_made made rx.Hand s) ])
    go None = tt
    go (Some made) = λ es h. (refl, h)
rx_next_fits (rx.Publish (Some e)) s is = go (publishes (rt.rx_ring s) s.memory)
  where
    go : (o : Option Made) → RxFits (rx.Publish (Some e)) (elim o [ None ↦ None | Some made ↦ Some (rt.rx_made made (rx.Ended e) s) ])
    go None = tt
    go (Some made) = λ es h. (refl, h)
rx_next_fits (rx.Ended e) s is = tt
rx_next_fits st s is =
    subst (λ (x : RxStage). RxFits x (rt.rx_in_hand s.turn.held s)) is (rx_hand_fits s.turn.held s (λ frame. rx_with_fits s.turn.stage frame s))

-- every step of a turn but Hand and NotReady
pub rx_step_fits : (s : RxState) → RxFits s.turn.stage (rt.rx_step hand.Off s)
rx_step_fits s = rx_next_fits s.turn.stage s refl

-- ---- the steps of a transmit turn

abbrev pub TxGoes : TxStage → EventKind → TxStage → Type 0
TxGoes st k next = (es : List EventKind) → HasForm (tx_left next) es → HasForm (tx_left st) (k ∷ es)

abbrev pub tx_kind : TxStage → EventKind
tx_kind tx.Begin = event.Notices
tx_kind tx.Fetch = event.Fetch
tx_kind tx.NoticesOn = event.Notices
tx_kind tx.FetchAgain = event.Fetch
tx_kind (tx.NoticesOff fault) = event.Notices
tx_kind tx.Copy = event.Copy
tx_kind tx.Give = event.HostIn
tx_kind (tx.Publish e) = event.PublishUsed
tx_kind (tx.Ended e) = event.PublishUsed

-- after Give there is a look, and perhaps a learning
abbrev pub TxGives : TxStage → TxStage → Type 0
TxGives tx.Give next = (es : List EventKind) → HasForm (One event.Look ⨾ Perhaps (One event.Publish) ⨾ tx_left next) es → HasForm (tx_left tx.Give) (event.HostIn ∷ es)
TxGives st next = TxGoes st (tx_kind st) next

abbrev TxFits : TxStage → Option (TxState × Act) → Type 0
TxFits st o = WhereSome (λ (made : TxState × Act). TxGives st made.0.turn.stage) o

abbrev Chosen : TxStage → Option TxStage → Type 0
Chosen st o = WhereSome (TxGives st) o

fetches_fits : (st : TxStage) (after : Queue → Fetched → Option TxStage) (s : TxState) → ((x : Fetched) → Chosen st (after s.queue x)) → TxFits st (tt_.tx_fetches after s)
fetches_fits st after s h = go (after s.queue (found (tt_.tx_ring s) s.memory).0) (h (found (tt_.tx_ring s) s.memory).0)
  where
    go : (o : Option TxStage) → Chosen st o → TxFits st (elim o [
      | None ↦ None
      | Some stage ↦ Some (tt_.tx_made (fetches (tt_.tx_ring s) s.memory) stage s)
    ])
    go None x = tt
    go (Some stage) x = x

tx_next_fits : (st : TxStage) (s : TxState) → TxFits st (tt_.tx_next st s)
tx_next_fits tx.Begin s = λ es h. (refl, h)
tx_next_fits tx.Fetch s = fetches_fits tx.Fetch tt_.tx_after_fetch s first
  where
    first : (x : Fetched) → Chosen tx.Fetch (tt_.tx_after_fetch s.queue x)
    first (fetched.Chain head) = λ es h. tx_finds (event.Fetch ∷ es) (inl (refl, inl h))
    first fetched.Nothing = λ es h. tx_notices es h
    first (fetched.Bad fault) = λ es h. tx_finds (event.Fetch ∷ es) (inl (refl, inr (tx_closes (Stopped fault) s.queue es h)))
    first fetched.Crowded = tt
tx_next_fits tx.NoticesOn s = λ es h. (refl, h)
tx_next_fits tx.FetchAgain s = fetches_fits tx.FetchAgain tt_.tx_after_second s second
  where
    second : (x : Fetched) → Chosen tx.FetchAgain (tt_.tx_after_second s.queue x)
    second (fetched.Chain head) = λ es h. (refl, inl h)
    second fetched.Nothing = λ es h. (refl, inr (tx_closes Idle s.queue es h))
    second (fetched.Bad fault) = λ es h. (refl, inl h)
    second fetched.Crowded = tt
tx_next_fits (tx.NoticesOff None) s = λ es h. (refl, inl h)
tx_next_fits (tx.NoticesOff (Some fault)) s = λ es h. (refl, inr (tx_closes (Stopped fault) s.queue es h))
tx_next_fits tx.Copy s = copies s.turn.chains
  where
    judges : (c : Gathered) (o : Option BadFrame) (position : ℕ) (bytes : List ℕ) → TxFits tx.Copy (Some (tt_.tx_judged position bytes o (tt_.tx_done c s)))
    judges c (Some bad) position bytes = λ es h. (refl, inl (tx_packet (tt_.tx_done c s).turn (tt_.tx_done c s).queue es h))
    judges c None position bytes = λ es h. (refl, gives h)
      where
        gives : {es : List EventKind} → HasForm (tx_left tx.Give) es → HasForm (Perhaps (One event.HostIn ⨾ One event.Look ⨾ Perhaps (One event.Publish)) ⨾ published ⨾ more_chains) es
        gives h = inr h

    copies : (cs : List Gathered) → TxFits tx.Copy (tt_.tx_copies cs s)
    copies [] = tt
    copies (c ∷ cs) = judges c (refusal_of s.turn.header (bytes_of_chain s.turn.header s.memory c)) (first_position (tt_.tx_ring s)) (bytes_of_chain s.turn.header s.memory c)
tx_next_fits tx.Give s = gives s.turn.held
  where
    last : (q : Queue) (t : TxTurn) (es : List EventKind) → HasForm (One event.Look ⨾ Perhaps (One event.Publish) ⨾ tx_left (tt_.tx_after_packet t q)) es
        → HasForm (tx_left tx.Give) (event.HostIn ∷ es)
    last q t es h = (refl, weaken (One event.Look ⨾ Perhaps (One event.Publish)) (HasForm (tx_left (tt_.tx_after_packet t q))) (HasForm (published ⨾ more_chains)) (tx_packet t q) es h)

    gives : (o : Option FrameValue) → TxFits tx.Give (tt_.tx_gives o s)
    gives None = tt
    gives (Some frame) = where_if (λ (made : TxState × Act). TxGives tx.Give made.0.turn.stage) (nat_lt 0 s.host.room) _ (λ b. last s.queue s.turn)
tx_next_fits (tx.Publish None) s = go (publishes (tt_.tx_ring s) s.memory)
  where
    go : (o : Option Made) → TxFits (tx.Publish None) (elim o [ None ↦ None | Some made ↦ Some (tt_.tx_made made tx.Fetch s) ])
    go None = tt
    go (Some made) = λ es h. (refl, h)
tx_next_fits (tx.Publish (Some e)) s = go (publishes (tt_.tx_ring s) s.memory)
  where
    go : (o : Option Made) → TxFits (tx.Publish (Some e)) (elim o [ None ↦ None | Some made ↦ Some (tt_.tx_made made (tx.Ended e) s) ])
    go None = tt
    go (Some made) = λ es h. (refl, h)
tx_next_fits (tx.Ended e) s = tt

pub tx_step_fits : (s : TxState) → TxFits s.turn.stage (tt_.tx_step s)
tx_step_fits s = tx_next_fits s.turn.stage s
