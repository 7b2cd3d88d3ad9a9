-- The rows of a receive turn's events, at a turn and a vhost that are known.
use Rattle.std.proofs.Common.{◌≡◌, ℕ, List, false, Option, Some, refl, ap, ◌∙◌, subst, true≢false}
use Rattle.guest_mem.specs.Memory.{Contents}
use Rattle.tap_ledger.specs.declared.act.Act.{Act}
use Rattle.tap_ledger.specs.declared.hand.Hand.TheVariants as hand
use Rattle.tap_sound.proofs.Kit.{some_same, some_then, then_some}
use Rattle.tap_trace.specs.declared.turn.TurnText.{TurnText}
use Rattle.scen_words.specs.declared.command.Command.TheVariants as command
use Rattle.tap_world.specs.declared.event.EventKind.{EventKind}
use Rattle.tap_world.specs.declared.event.EventKind.TheVariants as event
use Rattle.tap_world.specs.declared.event.Found.{Found}
use Rattle.tap_world.specs.declared.told.Said.{Said}
use Rattle.tap_ground.specs.Options.{◌>>=◌}
use Rattle.tap_world.specs.ByNumber.{at}
use Rattle.tap_world.specs.Effect.{Effect, OnFiles}
use Rattle.tap_world.specs.Guests.{Guest, Vhost}
use Rattle.tap_world.specs.Scripts.{rx_next_kind}
use Rattle.tap_world.specs.Setup.{Numbered, Setup}
use Rattle.tap_world.specs.Step.{row}
use Rattle.tap_world.specs.StepTransmits.{goes_on, on_turn}
use Rattle.tap_world.specs.StepTurns.{found_by, held_name, kind_of, over_told, rx_change, rx_effect, rx_event, rx_over, rx_state, rx_steps_on}
use Rattle.tap_world.specs.World.{Actor, World}
use Rattle.tap_world.specs.World.Doing.{Receives}
use Rattle.vring_turns.specs.declared.stage.RxStage.{RxStage}
use Rattle.vring_turns.specs.declared.stage.RxStage.TheVariants as rx
use Rattle.vring_turns.specs.RxTurn.{RxState, RxTurn, rx_step}
use Rattle.vring_turns.specs.Stage.{is_asking}
use Rattle.core_shared.specs.Worlds.{world_in}
use Rattle.core_shared.specs.declared.shared.Shared.{Shared}

-- ---- an event of a step

-- what it found, and how the turn's end is told
pub record EventIs (w : World) (actor seen vhost file : ℕ) (v : Vhost) (change : OnFiles) (o : Option Found)
    (made : RxState × Act) (r : Effect) : Type 0 where
  pub found : Found
  pub is_found : o ≡ Some found
  pub told : Option TurnText
  pub is_told : over_told (rx_over made.0.turn.stage) ≡ Some told
  pub is : rx_effect w actor seen vhost file v change found told made ≡ r

pub event_is :
    (w : World) (actor seen vhost file : ℕ) (v : Vhost) (change : OnFiles) (o : Option Found) (made : RxState × Act)
    (r : Effect)
    → rx_event w actor seen vhost file v change o made ≡ Some r → EventIs w actor seen vhost file v change o made r
event_is w actor seen vhost file v change o made r e =
    let one = then_some o (λ f. over_told (rx_over made.0.turn.stage) >>= (λ over. Some
    (rx_effect w actor seen vhost file v change f over made))) r e in
    let two = then_some (over_told (rx_over made.0.turn.stage)) (λ over. Some
    (rx_effect w actor seen vhost file v change one.0 over made)) r one.2 in
    record { found = one.0; is_found = one.1; told = two.0; is_told = two.1; is = some_same _ r two.2 }

pub event_of :
    (w : World) (actor seen vhost file : ℕ) (v : Vhost) (change : OnFiles) (o : Option Found) (made : RxState × Act)
    (f : Found) (told : Option TurnText)
    → o ≡ Some f → over_told (rx_over made.0.turn.stage) ≡ Some told
    → rx_event w actor seen vhost file v change o made ≡ Some (rx_effect w actor seen vhost file v change f told made)
event_of w actor seen vhost file v change o made f told is_f is_told =
    some_then o (λ x. over_told (rx_over made.0.turn.stage) >>= (λ over. Some
    (rx_effect w actor seen vhost file v change x over made))) f _ is_f
    (some_then (over_told (rx_over made.0.turn.stage)) (λ over. Some
    (rx_effect w actor seen vhost file v change f over made)) told _ is_told refl)

-- ---- a step that asks for no frame

pub record StepIs (w : World) (actor seen vhost file : ℕ) (t : RxTurn) (v : Vhost) (m : Contents) (r : Effect) : Type 0
  where
    pub made : RxState × Act
    pub step : rx_step hand.Off (rx_state t v m) ≡ Some made
    pub event : EventIs w actor seen vhost file v (rx_change vhost file t t.stage)
        (found_by (kind_of vhost 0 made.1) (held_name t.held)) made r

pub step_is :
    (w : World) (actor seen vhost file : ℕ) (t : RxTurn) (v : Vhost) (m : Contents) (r : Effect)
    → rx_steps_on w actor seen vhost file t v m ≡ Some r → StepIs w actor seen vhost file t v m r
step_is w actor seen vhost file t v m r e =
    let one = then_some (rx_step hand.Off (rx_state t v m)) (λ made. rx_event w actor seen vhost file v
    (rx_change vhost file t t.stage) (found_by (kind_of vhost 0 made.1) (held_name t.held)) made) r e in
    record {
      made = one.0;
      step = one.1;
      event = event_is w actor seen vhost file v (rx_change vhost file t t.stage)
          (found_by (kind_of vhost 0 one.0.1) (held_name t.held)) one.0 r one.2;
    }

pub step_of :
    (w : World) (actor seen vhost file : ℕ) (t : RxTurn) (v : Vhost) (m : Contents) (made : RxState × Act) (f : Found)
    (told : Option TurnText)
    → rx_step hand.Off (rx_state t v m) ≡ Some made
    → found_by (kind_of vhost 0 made.1) (held_name t.held) ≡ Some f
    → over_told (rx_over made.0.turn.stage) ≡ Some told
    → rx_steps_on w actor seen vhost file t v m
    ≡ Some (rx_effect w actor seen vhost file v (rx_change vhost file t t.stage) f told made)
step_of w actor seen vhost file t v m made f told is_step is_found is_told =
    some_then (rx_step hand.Off (rx_state t v m)) (λ x. rx_event w actor seen vhost file v
    (rx_change vhost file t t.stage) (found_by (kind_of vhost 0 x.1) (held_name t.held)) x) made _ is_step
    (event_of w actor seen vhost file v (rx_change vhost file t t.stage)
    (found_by (kind_of vhost 0 made.1) (held_name t.held)) made f told is_found is_told)

-- ---- an event of a turn under way

pub on_turn_is :
    (w : World) (vhost : ℕ) (v : Vhost) (g : Guest) (e : ℕ → Vhost → Contents → Option Effect)
    → at w.vhosts vhost ≡ Some v → at w.guests v.guest ≡ Some g
    → on_turn w (command.RxTurn vhost) e ≡ e vhost v g.memory
on_turn_is w vhost v g e is_v is_g =
    ap (λ (o : Option Vhost). o >>= (λ x. at w.guests x.guest >>= (λ y. e vhost x y.memory))) is_v
    ∙ ap (λ (o : Option Guest). o >>= (λ y. e vhost v y.memory)) is_g

-- an actor at a receive turn
abbrev pub at_turn : ℕ → List Numbered → ℕ → RxTurn → Actor
at_turn seen script file t = record { seen = seen; script = script; doing = Receives file t }

-- the row of the kind that a stage tells
pub row_at :
    (s : Setup) (w : World) (kind : EventKind) (actor seen n vhost file : ℕ) (script : List Numbered) (t : RxTurn)
    (st : RxStage)
    → is_asking st ≡ false → rx_next_kind w file st ≡ Some kind
    → row s w kind actor (at_turn seen script file t) n (command.RxTurn vhost)
    ≡ on_turn w (command.RxTurn vhost) (goes_on w actor seen (Receives file t))
row_at s w kind actor seen n vhost file script t st asks is = go st asks is
  where
    Row : EventKind → Type 0
    Row k = row s w k actor (at_turn seen script file t) n (command.RxTurn vhost)
        ≡ on_turn w (command.RxTurn vhost) (goes_on w actor seen (Receives file t))

    of_kind : (k : EventKind) → Some k ≡ Some kind → Row k → Row kind
    of_kind k e h = subst Row (some_same k kind e) h

    go : (x : RxStage) → is_asking x ≡ false → rx_next_kind w file x ≡ Some kind → Row kind
    go rx.Begin a e = of_kind event.Notices e refl
    go rx.Hand a e = absurd (true≢false a)
    go rx.Fetch a e = of_kind event.Fetch e refl
    go rx.NoticesOn a e = of_kind event.Notices e refl
    go rx.FetchAgain a e = of_kind event.Fetch e refl
    go (rx.NoticesOff way) a e = of_kind event.Notices e refl
    go rx.Copy a e = of_kind event.Copy e refl
    go rx.Out a e = of_kind event.Out e refl
    go (rx.Discard had) a e = of_kind event.Out e refl
    go (rx.PutBack end) a e = of_kind event.PutBack e refl
    go (rx.Publish end) a e = of_kind event.PublishUsed e refl
    go (rx.Ended end) a e = absurd (cc (e))

-- which is next is told by the stage and the file alone
pub next_any :
    (x : Shared) (file : ℕ) (one two : List Actor) (said told : List Said) (st : RxStage)
    → rx_next_kind (world_in x one said) file st ≡ rx_next_kind (world_in x two told) file st
next_any x file one two said told rx.Begin = refl
next_any x file one two said told rx.Hand = refl
next_any x file one two said told rx.Fetch = refl
next_any x file one two said told rx.NoticesOn = refl
next_any x file one two said told rx.FetchAgain = refl
next_any x file one two said told (rx.NoticesOff way) = refl
next_any x file one two said told rx.Copy = refl
next_any x file one two said told rx.Out = refl
next_any x file one two said told (rx.Discard had) = refl
next_any x file one two said told (rx.PutBack end) = refl
next_any x file one two said told (rx.Publish end) = refl
next_any x file one two said told (rx.Ended end) = refl
