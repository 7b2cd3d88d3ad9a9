-- Rings and the turns that serve them, after the events that leave rings.
use Rattle.std.proofs.Common.{◌≡◌, ℕ, ◌<◌, List, [], ◌∷◌, length, Bool, true, false, Some, None, refl, sym, ap, ◌∙◌, subst, true≢false, arith}
use Rattle.std.specs.Prelude.{if◌then◌else◌, ◌&&◌, ◌||◌, slice_get}
use Rattle.guest_mem.specs.Memory.{Contents}
use Rattle.vhost_queue.specs.Positions.{IsIdle}
use Rattle.vhost_queue.specs.Queue.{Queue}
use Rattle.vhost_dev.specs.Settings.{Settings, hdr_of}
use Rattle.vring_turns.specs.declared.end.End.{End}
use Rattle.vring_turns.specs.declared.stage.RxStage.{RxStage}
use Rattle.vring_turns.specs.declared.stage.RxStage.TheVariants as rx
use Rattle.vring_turns.specs.declared.stage.TxStage.{TxStage}
use Rattle.vring_turns.specs.declared.stage.TxStage.TheVariants as tx
use Rattle.vring_turns.specs.RxTurn.{RxState, RxTurn, rx_step}
use Rattle.vring_turns.specs.TxTurn.{TxState, TxTurn, tx_step}
use Rattle.vring_turns.specs.Standing.{ReceiveTurnsBegin, ReceiveTurnsStand, RxStands, RxStandsAt, TransmitTurnsBegin, TransmitTurnsStand, TxStands, TxStandsAt}
use Rattle.tap_ledger.specs.declared.act.Act.{Act}
use Rattle.tap_ledger.specs.declared.hand.Hand.{Hand}
use Rattle.tap_world.specs.Guests.{Vhost, turn_of}
use Rattle.tap_world.specs.World.{Actor, Doing, World, current}
use Rattle.tap_world.specs.World.Doing.{Given, Receives, Teaches, Transmits}
use Rattle.tap_world.specs.StepTurns as rx_turns
use Rattle.tap_world.specs.StepTransmits as tx_turns
use Rattle.tap_world.specs.SoundRings.{Serves, TurnsAreHeld, holds_turn, is_about, serves}
use Rattle.tap_sound.proofs.Turned.{is_at}
use Rattle.tap_sound.proofs.Turns.{held}

-- the laws of turns
pub record TurnLaws : Type 0 where
  pub rx_begin : ReceiveTurnsBegin
  pub rx_stand : ReceiveTurnsStand
  pub tx_begin : TransmitTurnsBegin
  pub tx_stand : TransmitTurnsStand

-- ---- who serves a ring

pub serves_holds : (d : Doing) → serves d ≡ true → holds_turn d ≡ true
serves_holds (Receives file t) h = refl
serves_holds (Transmits file t told) h = refl
serves_holds (Given file t told f) h = refl
serves_holds (Teaches file t told f) h = refl
serves_holds d h = absurd (true≢false (sym h))

pub held_by : (vhost ring : ℕ) (a : Actor) → Serves vhost ring a → held vhost ring a ≡ true
held_by vhost ring a h = ap (λ (b : Bool). b && is_about vhost ring (current a.script)) (serves_holds a.doing h.0) ∙ h.1

-- a ring with a free turn isn't served
pub unserved : (w : World) (vhost ring : ℕ) (v : Vhost) → TurnsAreHeld w vhost v → ring < 2 → turn_of ring v ≡ None
    → (actor : ℕ) (a : Actor) → slice_get w.actors actor ≡ Some a → Serves vhost ring a → ⊥
unserved w vhost ring v turns below free actor a at_ h =
    true≢false (sym (held_by vhost ring a h) ∙ turns ring actor a below at_ ∙ ap (is_at actor) free)

-- ---- one step of a turn

pub hdr_more : (s : Settings) → 0 < hdr_of s
hdr_more s = go (s.mrg || s.version_1)
  where
    go : (b : Bool) → 0 < (if b then 12 else 10)
    go true = omega arith
    go false = omega arith

pub rx_stands_on : TurnLaws → (t : RxTurn) (v : Vhost) (h : Hand) (m : Contents) (made : RxState × Act) → rx_step h (rx_turns.rx_state t v m) ≡ Some made
    → RxStands t v.settings.rx.queue → RxStands made.0.turn made.0.queue
rx_stands_on laws t v h m made e stands =
    laws.rx_stand t made.0.turn v.settings.rx.queue made.0.queue
    (record { before = rx_turns.rx_state t v m; hand = h; told = made.1; after = made.0 } ∷ []) stands (refl, refl, e, (refl, refl))

pub tx_stands_on : TurnLaws → (t : TxTurn) (v : Vhost) (m : Contents) (made : TxState × Act) → tx_step (tx_turns.tx_state t v m) ≡ Some made
    → TxStands t v.settings.tx.queue → TxStands made.0.turn made.0.queue
tx_stands_on laws t v m made e stands =
    laws.tx_stand t made.0.turn v.settings.tx.queue made.0.queue
    (record { before = tx_turns.tx_state t v m; told = made.1; after = made.0 } ∷ []) stands (refl, refl, e, (refl, refl))

-- a turn that is over leaves an idle ring
pub rx_idle : (t : RxTurn) (q : Queue) (st : RxStage) (e : End) → t.stage ≡ st → rx_turns.rx_over st ≡ Some e → RxStands t q → IsIdle q.positions
rx_idle t q (rx.Ended e) end is over h =
    let at_ : RxStandsAt (rx.Ended e) t q = subst (λ (x : RxStage). RxStandsAt x t q) is h.stage in
    let none : length t.chains ≡ 0 = ap (λ (cs : List _). length cs) at_.0 in
    let some = h.gathered in
    let done = at_.2 in
    omega (arith, none, some, done)
rx_idle t q st end is over h = absurd (cc (over))

pub tx_idle : (t : TxTurn) (q : Queue) (st : TxStage) (e : End) → t.stage ≡ st → tx_turns.tx_over st ≡ Some e → TxStands t q → IsIdle q.positions
tx_idle t q (tx.Ended e) end is over h =
    let at_ : TxStandsAt (tx.Ended e) t q = subst (λ (x : TxStage). TxStandsAt x t q) is h.stage in
    let none : length t.chains ≡ 0 = ap (λ (cs : List _). length cs) at_.0 in
    let some = h.gathered in
    let done = at_.2 in
    omega (arith, none, some, done)
tx_idle t q st end is over h = absurd (cc (over))
