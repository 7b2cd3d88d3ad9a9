-- Steps of turns that leave the queue of their ring.
use Rattle.std.proofs.Common.{◌≡◌, ℕ, Bool, true, false, Option, Some, None, refl, true≢false}
use Rattle.std.specs.Prelude.{if◌then◌else◌, nat_lt}
use Rattle.guest_mem.specs.Memory.{Contents, with_le16}
use Rattle.vring_split.specs.declared.layout.Layout.{Layout}
use Rattle.vhost_queue.specs.Publication.{noticed_at, with_field}
use Rattle.tap_frame.specs.Frame.{FrameValue}
use Rattle.tap_ledger.specs.declared.act.Act.{Act}
use Rattle.vring_turns.specs.declared.stage.TxStage.{TxStage}
use Rattle.vring_turns.specs.declared.stage.TxStage.TheVariants as tx
use Rattle.vring_turns.specs.TxTurn.{TxState, tx_after_packet, tx_gives, tx_next, tx_step}
use Rattle.tap_ledger.specs.declared.act.Act.TheVariants as act
use Rattle.tap_ledger.specs.Host.{with_given}
use Rattle.tap_sound.proofs.Kit.{WhereSome}

-- the same queue, and memory with the same regions
abbrev pub TxLeaves : TxState → TxState × Act → Type 0
TxLeaves s made = (made.0.queue ≡ s.queue) × (made.0.memory.regions ≡ s.memory.regions)

pub field_regions : (addr number : ℕ) (m : Contents) → (with_field addr number m).regions ≡ m.regions
unfolding with_le16
field_regions addr number m = refl

pub notice_regions : (l : Layout) (next : ℕ) (on : Bool) (m : Contents) → (noticed_at l next on m).regions ≡ m.regions
unfolding noticed_at
notice_regions l next on m = go l.event on _ _ _
  where
    go : (a b : Bool) (x y k : ℕ) → (if a then (if b then with_field x next m else m) else with_field y k m).regions ≡ m.regions
    go true true x y k = field_regions x next m
    go true false x y k = refl
    go false b x y k = field_regions y k m

-- the stages that change their ring
abbrev pub tx_changes : TxStage → Bool
tx_changes tx.Fetch = true
tx_changes tx.FetchAgain = true
tx_changes tx.Copy = true
tx_changes (tx.Publish e) = true
tx_changes st = false

gives_leaves : (o : Option FrameValue) (s : TxState) → WhereSome (TxLeaves s) (tx_gives o s)
gives_leaves None s = tt
gives_leaves (Some frame) s = go (nat_lt 0 s.host.room)
  where
    go : (b : Bool) → WhereSome (TxLeaves s) (if b
        then Some (record s { turn = record s.turn { held = None; stage = tx_after_packet s.turn s.queue }; host = with_given frame s.host }, act.Given frame.name)
        else None)
    go true = (refl, refl)
    go false = tt

tx_next_leaves : (st : TxStage) (s : TxState) → tx_changes st ≡ false → WhereSome (TxLeaves s) (tx_next st s)
tx_next_leaves tx.Begin s no_ = (refl, notice_regions s.queue.layout s.queue.positions.next false s.memory)
tx_next_leaves tx.NoticesOn s no_ = (refl, notice_regions s.queue.layout s.queue.positions.next true s.memory)
tx_next_leaves (tx.NoticesOff fault) s no_ = (refl, notice_regions s.queue.layout s.queue.positions.next false s.memory)
tx_next_leaves tx.Give s no_ = gives_leaves s.turn.held s
tx_next_leaves (tx.Ended e) s no_ = tt
tx_next_leaves tx.Fetch s no_ = absurd (true≢false no_)
tx_next_leaves tx.FetchAgain s no_ = absurd (true≢false no_)
tx_next_leaves tx.Copy s no_ = absurd (true≢false no_)
tx_next_leaves (tx.Publish e) s no_ = absurd (true≢false no_)

pub tx_leaves : (s : TxState) → tx_changes s.turn.stage ≡ false → WhereSome (TxLeaves s) (tx_step s)
tx_leaves s no_ = tx_next_leaves s.turn.stage s no_
