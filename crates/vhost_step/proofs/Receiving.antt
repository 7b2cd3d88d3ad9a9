-- What a step of a receive turn leaves, by its stage.
use Rattle.std.proofs.Common.{◌≡◌, ℕ, Bool, true, false, [], ◌∷◌, length, Option, None, Some, is_some, IfSome, OnSome, refl, sym, ap, subst, ◌∙◌, arith}
use Rattle.std.specs.Option.{option_map}
use Rattle.tap_frame.specs.Frame.{FrameValue}
use Rattle.tap_ledger.specs.declared.act.Act.{Act}
use Rattle.tap_ledger.specs.declared.fate.Fate.TheVariants.{Guest}
use Rattle.tap_ledger.specs.declared.hand.Hand.{Hand}
use Rattle.tap_ledger.specs.declared.hand.Hand.TheVariants as hand
use Rattle.tap_ledger.specs.Queue.{QueueState, finished, put_back}
use Rattle.tap_frame.specs.declared.name.Name.{Name}
use Rattle.vhost_queue.specs.Positions.{IsIdle}
use Rattle.vhost_queue.specs.Queue.{Queue}
use Rattle.vring_turns.specs.declared.end.TurnEnd.{TurnEnd}
use Rattle.vring_turns.specs.declared.stage.RxStage.{RxStage}
use Rattle.vring_turns.specs.declared.stage.RxStage.TheVariants as rx
use Rattle.vring_turns.specs.declared.step.Step.{Step}
use Rattle.vring_turns.specs.Hands.{MovesAt}
use Rattle.vring_turns.specs.ReceiveImage.{need_of}
use Rattle.vring_turns.specs.RxTurn.{RxTurn, RxState, overrun, rx_next, rx_step, rx_told}
use Rattle.vring_turns.specs.Stage.{has_in_hand, is_asking, need_at}
use Rattle.vring_turns.specs.Standing.{ReceiveTurnsStand, RxStands, RxStandsAt}
use Rattle.vring_turns.specs.Turn.{event_of}
use Rattle.vhost_rx.specs.Worker.{Stepped}
use Rattle.vhost_step.specs.declared.went.Went.TheVariants as went
use Rattle.vhost_step.specs.Queues.{one_queue, holding, went_in}
use Rattle.vhost_step.specs.Receive.{comes_back, rx_did, rx_went}
use Rattle.vhost_step.specs.Told.{over_in}

-- the step of which a worker told the event
pub stepped :
    (e : Option Act) (act : Act) (before after : RxState) (old new : QueueState)
    → e ≡ Some act → IfSome e (Stepped before after old new) → Stepped before after old new act
stepped e act before after old new is made =
    let P : Option Act → Type 0 = λ x. IfSome x (Stepped before after old new) in
    subst P is made

-- where no frame is asked for, the step doesn't read what is handed out
any_hand :
    (stage : RxStage) (h : Hand) (s : RxState) → is_asking stage ≡ false → rx_next stage h s ≡ rx_next stage hand.Off s
any_hand rx.Begin h s not = refl
any_hand rx.Hand h s not = cc
any_hand rx.Fetch h s not = refl
any_hand rx.NoticesOn h s not = refl
any_hand rx.FetchAgain h s not = refl
any_hand (rx.NoticesOff way) h s not = refl
any_hand rx.Copy h s not = refl
any_hand rx.Out h s not = refl
any_hand (rx.Discard had) h s not = refl
any_hand (rx.PutBack end) h s not = refl
any_hand (rx.Publish end) h s not = refl
any_hand (rx.Ended end) h s not = refl

pub without_hand :
    (before after : RxState) (old new : QueueState) (act : Act)
    → is_asking before.turn.stage ≡ false → Stepped before after old new act
    → rx_step hand.Off before ≡ Some (after, act)
without_hand before after old new act not made =
    sym (any_hand before.turn.stage made.hand before not) ∙ made.step

-- one step is a run, so the turn stands with its ring as before
pub stands_after :
    ReceiveTurnsStand → (before after : RxState) (old new : QueueState) (act : Act)
    → RxStands before.turn before.queue → Stepped before after old new act → RxStands after.turn after.queue
stands_after law before after old new act stands made =
    law before.turn after.turn before.queue after.queue
    (record { hand = made.hand; before = before; told = act; after = after } ∷ [])
    stands (refl, refl, made.step, (refl, refl))

-- where a turn is over, its ring is idle
idle_at :
    (stage : RxStage) (t : RxTurn) (q : Queue)
    → q.positions.gathered ≡ length t.chains → RxStandsAt stage t q → OnSome (rx_did stage t) (IsIdle q.positions)
idle_at rx.Begin t q gathered at = tt
idle_at rx.Hand t q gathered at = tt
idle_at rx.Fetch t q gathered at = tt
idle_at rx.NoticesOn t q gathered at = tt
idle_at rx.FetchAgain t q gathered at = tt
idle_at (rx.NoticesOff way) t q gathered at = tt
idle_at rx.Copy t q gathered at = tt
idle_at rx.Out t q gathered at = tt
idle_at (rx.Discard had) t q gathered at = tt
idle_at (rx.PutBack end) t q gathered at = tt
idle_at (rx.Publish end) t q gathered at = tt
idle_at (rx.Ended end) t q gathered (none, why, published) =
    let g : q.positions.gathered ≡ 0 = gathered ∙ ap length none in
    let d : length q.positions.done ≡ 0 = published in
    omega (arith, g, d)

pub idle_after :
    (t : RxTurn) (q : Queue) (over : Option TurnEnd)
    → RxStands t q → over ≡ rx_did t.stage t → OnSome over (IsIdle q.positions)
idle_after t q over stands is =
    let P : Option TurnEnd → Type 0 = λ x. OnSome x (IsIdle q.positions) in
    subst P (sym is) (idle_at t.stage t q stands.gathered stands.stage)

-- what is told of the end is what the turn did
over_told : (stage : RxStage) (t : RxTurn) (act : Act) → over_in (rx_told t stage act) ≡ rx_did stage t
over_told rx.Begin t act = refl
over_told rx.Hand t act = refl
over_told rx.Fetch t act = refl
over_told rx.NoticesOn t act = refl
over_told rx.FetchAgain t act = refl
over_told (rx.NoticesOff way) t act = refl
over_told rx.Copy t act = refl
over_told rx.Out t act = refl
over_told (rx.Discard had) t act = refl
over_told (rx.PutBack end) t act = refl
over_told (rx.Publish end) t act = refl
over_told (rx.Ended end) t act = refl

pub over_after :
    (step : Step) (act : Act) (t : RxTurn)
    → event_of step ≡ Some act → IfSome (event_of step) (λ a. step ≡ rx_told t t.stage a)
    → over_in step ≡ rx_did t.stage t
over_after step act t is told =
    let P : Option Act → Type 0 = λ x. IfSome x (λ a. step ≡ rx_told t t.stage a) in
    ap over_in (subst P is told) ∙ over_told t.stage t act

-- where the frame in hand went
nowhere : (name : Option Name) → went_in (one_queue (holding name)) ≡ went.Nowhere
nowhere None = refl
nowhere (Some name) = refl

-- the queue of a worker that holds this frame, or none
abbrev of_held : Option FrameValue → QueueState
of_held held = one_queue (holding (option_map (λ f. f.name) held))

out_went :
    (held : Option FrameValue) (q : QueueState)
    → is_some held ≡ true → IfSome held (λ frame. q ≡ finished frame Guest (of_held held)) → went_in q ≡ went.Out Guest
out_went None q some moved = cc
out_went (Some frame) q some moved = ap went_in moved

discard_went :
    (held : Option FrameValue) (mergeable : Bool) (header had : ℕ) (q : QueueState)
    → is_some held ≡ true
    → IfSome held (λ frame. q ≡ finished frame (overrun mergeable (need_of header frame) had) (of_held held))
    → went_in q ≡ went.Out (overrun mergeable (need_at header held) had)
discard_went None mergeable header had q some moved = cc
discard_went (Some frame) mergeable header had q some moved = ap went_in moved

back_went :
    (held : Option FrameValue) (q : QueueState)
    → is_some held ≡ true → IfSome held (λ frame. q ≡ put_back frame (of_held held)) → went_in q ≡ comes_back held
back_went None q some moved = cc
back_went (Some frame) q some moved = ap went_in moved

went_at :
    (stage : RxStage) (t : RxTurn) (h : Hand) (q : QueueState)
    → is_asking stage ≡ false → is_some t.held ≡ has_in_hand stage
    → MovesAt stage t h (of_held t.held) q → went_in q ≡ rx_went stage t
went_at rx.Begin t h q not held moved = ap went_in moved ∙ nowhere _
went_at rx.Hand t h q not held moved = cc
went_at rx.Fetch t h q not held moved = ap went_in moved ∙ nowhere _
went_at rx.NoticesOn t h q not held moved = ap went_in moved ∙ nowhere _
went_at rx.FetchAgain t h q not held moved = ap went_in moved ∙ nowhere _
went_at (rx.NoticesOff way) t h q not held moved = ap went_in moved ∙ nowhere _
went_at rx.Copy t h q not held moved = ap went_in moved ∙ nowhere _
went_at rx.Out t h q not held moved = out_went t.held q held moved
went_at (rx.Discard had) t h q not held moved = discard_went t.held t.mergeable t.header had q held moved
went_at (rx.PutBack end) t h q not held moved = back_went t.held q held moved
went_at (rx.Publish end) t h q not held moved = ap went_in moved ∙ nowhere _
went_at (rx.Ended end) t h q not held moved = ap went_in moved ∙ nowhere _

pub went_after :
    (before after : RxState) (new : QueueState) (act : Act)
    → is_asking before.turn.stage ≡ false → is_some before.turn.held ≡ has_in_hand before.turn.stage
    → Stepped before after (of_held before.turn.held) new act → went_in new ≡ rx_went before.turn.stage before.turn
went_after before after new act not held made =
    went_at before.turn.stage before.turn made.hand new not held made.moves
