-- Which accepted names a step of a transmit turn tells.
use Rattle.std.proofs.Common.{◌≡◌, ℕ, List, [], ◌∷◌, ◌++◌, Bool, true, false, Option, Some, None, refl, ap, ◌∙◌, true≢false}
use Rattle.std.specs.Prelude.{if◌then◌else◌, ◌==◌}
use Rattle.tap_frame.specs.declared.name.Name.{Name}
use Rattle.tap_frame.specs.declared.reading.BadFrame.{BadFrame}
use Rattle.tap_frame.specs.Frame.{FrameValue}
use Rattle.tap_ledger.specs.declared.act.Act.{Act}
use Rattle.tap_ledger.specs.declared.act.Act.TheVariants as act
use Rattle.vhost_queue.specs.Queue.{Queue}
use Rattle.vhost_queue.specs.Publication.{next_used, published_in, wants_notice, with_published}
use Rattle.vring_walk.specs.declared.walk.Fetched.{Fetched}
use Rattle.vring_walk.specs.declared.walk.Fetched.TheVariants as fetched
use Rattle.vring_turns.specs.declared.end.End.{End}
use Rattle.vring_turns.specs.declared.stage.TxStage.{TxStage}
use Rattle.vring_turns.specs.declared.stage.TxStage.TheVariants as tx
use Rattle.vring_turns.specs.Ring.{Gathered, done_in, fetches, first_position, found, told_of}
use Rattle.vring_turns.specs.TransmitBytes.{bytes_of_chain, refusal_of}
use Rattle.vring_turns.specs.TxTurn as turn
use Rattle.vring_turns.specs.TxTurn.{TxState}
use Rattle.tap_trace.specs.declared.turn.ChainText.{ChainText}
use Rattle.tap_trace.specs.declared.turn.ChainText.TheVariants as chain
use Rattle.tap_world.specs.StepTransmits.{chains_after}
use Rattle.vring_turns.specs.Stage.{is_giving}
use Rattle.tap_world.specs.SoundNames.{got_in}
use Rattle.tap_sound.proofs.Kit.{WhereSome}

pub got_more : (xs ys : List ChainText) → got_in (xs ++ ys) ≡ got_in xs ++ got_in ys
got_more [] ys = refl
got_more (chain.Got name len fnv ∷ xs) ys = ap (λ (ns : List Name). name ∷ ns) (got_more xs ys)
got_more (chain.Refused position bad ∷ xs) ys = got_more xs ys

with_none : {A : Type 0} (xs : List A) → xs ++ [] ≡ xs
with_none [] = refl
with_none (x ∷ xs) = ap (λ (ys : List _). x ∷ ys) (with_none xs)

-- the names that a step tells are those of before, or one more, which is to be given to the host next
pub data Adds (chains : List ChainText) (made : TxState × Act) : Type 0 where
  Same : got_in (chains_after made.1 made.0.turn.held chains) ≡ got_in chains → Adds chains made
  OneMore : (f : FrameValue) → made.0.turn.stage ≡ tx.Give → made.0.turn.held ≡ Some f
      → got_in (chains_after made.1 made.0.turn.held chains) ≡ got_in chains ++ f.name ∷ [] → Adds chains made

told_same : (chains : List ChainText) (held : Option FrameValue) (position : ℕ) (x : Fetched) → got_in (chains_after (told_of position x) held chains) ≡ got_in chains
told_same chains held position (fetched.Chain head) = refl
told_same chains held position fetched.Nothing = refl
told_same chains held position fetched.Crowded = refl
told_same chains held position (fetched.Bad fault) = refl

fetches_adds : (chains : List ChainText) (after : Queue → Fetched → Option TxStage) (s : TxState) → WhereSome (Adds chains) (turn.tx_fetches after s)
fetches_adds chains after s = go (after s.queue (found (turn.tx_ring s) s.memory).0)
  where
    go : (o : Option TxStage) → WhereSome (Adds chains) (elim o [
      | None ↦ None
      | Some stage ↦ Some (turn.tx_made (fetches (turn.tx_ring s) s.memory) stage s)
    ])
    go None = tt
    go (Some stage) = Same (told_same chains s.turn.held (turn.tx_ring s).queue.positions.next (found (turn.tx_ring s) s.memory).0)

publishes_adds : (chains : List ChainText) (e : Option End) (s : TxState) → WhereSome (Adds chains) (turn.tx_publishes e s)
publishes_adds chains e s = go (done_in s.queue == 0)
  where
    go : (b : Bool) → WhereSome (Adds chains) (elim (if b then None else Some (record {
      ring = record (turn.tx_ring s) { queue = with_published s.queue };
      memory = published_in s.queue s.memory;
      told = act.Publish (done_in s.queue) (wants_notice s.queue.layout s.queue.used (next_used s.queue) (published_in s.queue s.memory));
    })) [
      | None ↦ None
      | Some made ↦ Some (turn.tx_made made (elim e [ None ↦ tx.Fetch | Some x ↦ tx.Ended x ]) s)
    ])
    go true = tt
    go false = Same refl

copies_add : (chains : List ChainText) (cs : List Gathered) (s : TxState) → WhereSome (Adds chains) (turn.tx_copies cs s)
copies_add chains [] s = tt
copies_add chains (c ∷ cs) s = judges (refusal_of s.turn.header (bytes_of_chain s.turn.header s.memory c))
  where
    judges : (o : Option BadFrame)
        → WhereSome (Adds chains) (Some (turn.tx_judged (first_position (turn.tx_ring s)) (bytes_of_chain s.turn.header s.memory c) o (turn.tx_done c s)))
    judges (Some bad) = Same (got_more chains (chain.Refused _ bad ∷ []) ∙ with_none (got_in chains))
    judges None = OneMore _ refl refl (got_more chains _)

-- every step but that which gives a frame to the host
pub step_adds : (chains : List ChainText) (st : TxStage) (s : TxState) → is_giving st ≡ false → WhereSome (Adds chains) (turn.tx_next st s)
step_adds chains tx.Begin s e = Same refl
step_adds chains tx.Fetch s e = fetches_adds chains turn.tx_after_fetch s
step_adds chains tx.NoticesOn s e = Same refl
step_adds chains tx.FetchAgain s e = fetches_adds chains turn.tx_after_second s
step_adds chains (tx.NoticesOff fault) s e = Same refl
step_adds chains tx.Copy s e = copies_add chains s.turn.chains s
step_adds chains tx.Give s e = absurd (true≢false e)
step_adds chains (tx.Publish end) s e = publishes_adds chains end s
step_adds chains (tx.Ended end) s e = tt
