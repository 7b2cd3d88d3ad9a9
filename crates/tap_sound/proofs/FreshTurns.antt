-- Which frames a step of a transmit turn accepts, by the number of those before.
use Rattle.std.proofs.Common.{◌≡◌, ◌+◌, List, [], ◌∷◌, Bool, true, false, Option, Some, None, refl, true≢false}
use Rattle.std.specs.Prelude.{if◌then◌else◌, ◌==◌, nat_le, nat_lt}
use Rattle.vring_split.specs.declared.fault.RingFault.{RingFault}
use Rattle.tap_frame.specs.declared.reading.BadFrame.{BadFrame}
use Rattle.tap_frame.specs.Frame.{FrameValue}
use Rattle.tap_ledger.specs.declared.act.Act.{Act}
use Rattle.vhost_queue.specs.Queue.{Queue}
use Rattle.vring_walk.specs.declared.walk.Fetched.{Fetched}
use Rattle.vring_walk.specs.declared.walk.Fetched.TheVariants as fetched
use Rattle.vring_turns.specs.declared.end.End.{End}
use Rattle.vring_turns.specs.declared.end.End.TheVariants.{Again, Idle, Stopped}
use Rattle.vring_turns.specs.declared.stage.TxStage.{TxStage}
use Rattle.vring_turns.specs.declared.stage.TxStage.TheVariants as tx
use Rattle.vring_turns.specs.Ring.{Gathered, Made, done_in, fetches, first_position, found, publishes}
use Rattle.vring_turns.specs.TransmitBytes.{bytes_of_chain, refusal_of}
use Rattle.vring_turns.specs.Turn.{is_enough, publishes_at}
use Rattle.vring_turns.specs.TxTurn as turn
use Rattle.vring_turns.specs.TxTurn.{TxState, TxTurn}
use Rattle.vring_turns.specs.Stage.{is_giving}
use Rattle.tap_sound.proofs.Kit.{WhereSome, where_if}

-- as many were accepted as before, and none is to be given next; or one more, under the next name, which is
pub data Accepts (t : TxTurn) (made : TxState × Act) : Type 0 where
  AsBefore : made.0.turn.first ≡ t.first → made.0.turn.accepted ≡ t.accepted → is_giving made.0.turn.stage ≡ false → Accepts t made
  OneMore : (f : FrameValue) → made.0.turn.first ≡ t.first → made.0.turn.accepted ≡ t.accepted + 1 → made.0.turn.held ≡ Some f → f.name ≡ turn.next_name t
      → Accepts t made

abbrev Quiet : TxStage → Type 0
Quiet st = is_giving st ≡ false

closing : (e : End) (q : Queue) → Quiet (turn.tx_closing e q)
closing e q = go (done_in q == 0)
  where
    go : (b : Bool) → Quiet (if b then tx.Ended e else tx.Publish (Some e))
    go true = refl
    go false = refl

after_packet : (t : TxTurn) (q : Queue) → Quiet (turn.tx_after_packet t q)
after_packet t q = go (is_enough t.packets t.bytes t.packets) (nat_le publishes_at (done_in q))
  where
    go : (a b : Bool) → Quiet (if a then turn.tx_closing Again q else (if b then tx.Publish None else tx.Fetch))
    go true b = closing Again q
    go false true = refl
    go false false = refl

after_fetch : (q : Queue) (x : Fetched) → WhereSome Quiet (turn.tx_after_fetch q x)
after_fetch q (fetched.Chain head) = refl
after_fetch q fetched.Nothing = refl
after_fetch q (fetched.Bad fault) = closing (Stopped fault) q
after_fetch q fetched.Crowded = tt

after_second : (q : Queue) (x : Fetched) → WhereSome Quiet (turn.tx_after_second q x)
after_second q (fetched.Chain head) = refl
after_second q fetched.Nothing = closing Idle q
after_second q (fetched.Bad fault) = refl
after_second q fetched.Crowded = tt

after_notices : (q : Queue) (o : Option RingFault) → Quiet (turn.tx_after_notices q o)
after_notices q None = refl
after_notices q (Some fault) = closing (Stopped fault) q

fetches_accept : (after : Queue → Fetched → Option TxStage) (s : TxState) → ((x : Fetched) → WhereSome Quiet (after s.queue x)) → WhereSome (Accepts s.turn) (turn.tx_fetches after s)
fetches_accept after s h = go (after s.queue (found (turn.tx_ring s) s.memory).0) (h (found (turn.tx_ring s) s.memory).0)
  where
    go : (o : Option TxStage) → WhereSome Quiet o → WhereSome (Accepts s.turn) (elim o [
      | None ↦ None
      | Some stage ↦ Some (turn.tx_made (fetches (turn.tx_ring s) s.memory) stage s)
    ])
    go None q = tt
    go (Some stage) q = AsBefore refl refl q

publishes_accept : (e : Option End) (s : TxState) → WhereSome (Accepts s.turn) (turn.tx_publishes e s)
publishes_accept None s = go (publishes (turn.tx_ring s) s.memory)
  where
    go : (o : Option Made) → WhereSome (Accepts s.turn) (elim o [ None ↦ None | Some made ↦ Some (turn.tx_made made tx.Fetch s) ])
    go None = tt
    go (Some made) = AsBefore refl refl refl
publishes_accept (Some e) s = go (publishes (turn.tx_ring s) s.memory)
  where
    go : (o : Option Made) → WhereSome (Accepts s.turn) (elim o [ None ↦ None | Some made ↦ Some (turn.tx_made made (tx.Ended e) s) ])
    go None = tt
    go (Some made) = AsBefore refl refl refl

copies_accept : (cs : List Gathered) (s : TxState) → WhereSome (Accepts s.turn) (turn.tx_copies cs s)
copies_accept [] s = tt
copies_accept (c ∷ cs) s = judges (refusal_of s.turn.header (bytes_of_chain s.turn.header s.memory c))
  where
    judges : (o : Option BadFrame)
        → WhereSome (Accepts s.turn) (Some (turn.tx_judged (first_position (turn.tx_ring s)) (bytes_of_chain s.turn.header s.memory c) o (turn.tx_done c s)))
    judges (Some bad) = AsBefore refl refl (after_packet (turn.tx_done c s).turn (turn.tx_done c s).queue)
    judges None = OneMore _ refl refl refl refl

-- every step but that which gives a frame to the host
pub step_accepts : (st : TxStage) (s : TxState) → is_giving st ≡ false → WhereSome (Accepts s.turn) (turn.tx_next st s)
step_accepts tx.Begin s e = AsBefore refl refl refl
step_accepts tx.Fetch s e = fetches_accept turn.tx_after_fetch s (after_fetch s.queue)
step_accepts tx.NoticesOn s e = AsBefore refl refl refl
step_accepts tx.FetchAgain s e = fetches_accept turn.tx_after_second s (after_second s.queue)
step_accepts (tx.NoticesOff fault) s e = AsBefore refl refl (after_notices s.queue fault)
step_accepts tx.Copy s e = copies_accept s.turn.chains s
step_accepts tx.Give s e = absurd (true≢false e)
step_accepts (tx.Publish end) s e = publishes_accept end s
step_accepts (tx.Ended end) s e = tt

-- and that one
abbrev pub Gives : TxTurn → TxState × Act → Type 0
Gives t made = (made.0.turn.first ≡ t.first) × (made.0.turn.accepted ≡ t.accepted) × (is_giving made.0.turn.stage ≡ false)

pub give_accepts : (s : TxState) → WhereSome (Gives s.turn) (turn.tx_next tx.Give s)
give_accepts s = go s.turn.held
  where
    go : (o : Option FrameValue) → WhereSome (Gives s.turn) (turn.tx_gives o s)
    go None = tt
    go (Some frame) = where_if (Gives s.turn) (nat_lt 0 s.host.room) _ (λ b. (refl, refl, after_packet s.turn s.queue))
