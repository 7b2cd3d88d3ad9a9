-- What a step of a transmit turn leaves, by its stage.
use Rattle.std.proofs.Common.{◌≡◌, [], ◌∷◌, length, Option, Some, IfSome, OnSome, refl, sym, ap, subst, ◌∙◌, arith}
use Rattle.tap_ledger.specs.declared.act.Act.{Act}
use Rattle.vhost_queue.specs.Positions.{IsIdle}
use Rattle.vhost_queue.specs.Queue.{Queue}
use Rattle.vring_turns.specs.declared.end.TurnEnd.{TurnEnd}
use Rattle.vring_turns.specs.declared.stage.TxStage.{TxStage}
use Rattle.vring_turns.specs.declared.stage.TxStage.TheVariants as tx
use Rattle.vring_turns.specs.declared.step.Step.{Step}
use Rattle.vring_turns.specs.Turn.{event_of}
use Rattle.vring_turns.specs.TxTurn.{TxTurn, TxState, tx_step, tx_told}
use Rattle.vring_turns.specs.Standing.{TransmitTurnsStand, TxStands, TxStandsAt}
use Rattle.vhost_step.specs.Told.{over_in}
use Rattle.vhost_step.specs.Transmit.{tx_did}

-- the step of which a worker told the event
pub stepped :
    (e : Option Act) (act : Act) (before after : TxState)
    → e ≡ Some act → IfSome e (λ a. tx_step before ≡ Some (after, a)) → tx_step before ≡ Some (after, act)
stepped e act before after is made =
    let P : Option Act → Type 0 = λ x. IfSome x (λ a. tx_step before ≡ Some (after, a)) in
    subst P is made

-- one step is a run, so the turn stands with its ring as before
pub stands_after :
    TransmitTurnsStand → (before after : TxState) (act : Act)
    → TxStands before.turn before.queue → tx_step before ≡ Some (after, act) → TxStands after.turn after.queue
stands_after law before after act stands made =
    law before.turn after.turn before.queue after.queue (record { before = before; told = act; after = after } ∷ [])
    stands (refl, refl, made, (refl, refl))

-- where a turn is over, its ring is idle
idle_at :
    (stage : TxStage) (t : TxTurn) (q : Queue)
    → q.positions.gathered ≡ length t.chains → TxStandsAt stage t q → OnSome (tx_did stage t) (IsIdle q.positions)
idle_at tx.Begin t q gathered at = tt
idle_at tx.Fetch t q gathered at = tt
idle_at tx.NoticesOn t q gathered at = tt
idle_at tx.FetchAgain t q gathered at = tt
idle_at (tx.NoticesOff fault) t q gathered at = tt
idle_at tx.Copy t q gathered at = tt
idle_at tx.Give t q gathered at = tt
idle_at (tx.Publish end) t q gathered at = tt
idle_at (tx.Ended end) t q gathered (none, why, published) =
    let g : q.positions.gathered ≡ 0 = gathered ∙ ap length none in
    let d : length q.positions.done ≡ 0 = published in
    omega (arith, g, d)

pub idle_after :
    (t : TxTurn) (q : Queue) (over : Option TurnEnd)
    → TxStands t q → over ≡ tx_did t.stage t → OnSome over (IsIdle q.positions)
idle_after t q over stands is =
    let P : Option TurnEnd → Type 0 = λ x. OnSome x (IsIdle q.positions) in
    subst P (sym is) (idle_at t.stage t q stands.gathered stands.stage)

-- what is told of the end is what the turn did
over_told : (stage : TxStage) (t : TxTurn) (act : Act) → over_in (tx_told t stage act) ≡ tx_did stage t
over_told tx.Begin t act = refl
over_told tx.Fetch t act = refl
over_told tx.NoticesOn t act = refl
over_told tx.FetchAgain t act = refl
over_told (tx.NoticesOff fault) t act = refl
over_told tx.Copy t act = refl
over_told tx.Give t act = refl
over_told (tx.Publish end) t act = refl
over_told (tx.Ended end) t act = refl

pub over_after :
    (step : Step) (act : Act) (t : TxTurn)
    → event_of step ≡ Some act → IfSome (event_of step) (λ a. step ≡ tx_told t t.stage a)
    → over_in step ≡ tx_did t.stage t
over_after step act t is told =
    let P : Option Act → Type 0 = λ x. IfSome x (λ a. step ≡ tx_told t t.stage a) in
    ap over_in (subst P is told) ∙ over_told t.stage t act
