-- What the events of turns are.
use Rattle.std.proofs.Common.{◌≡◌, ℕ, List, true, true≢false, Option, Some, None, inl, inr, refl, sym, ap}
use Rattle.std.specs.Prelude.{◌&&◌, is_none}
use Rattle.tap_frame.specs.Frame.{FrameValue}
use Rattle.tap_ledger.specs.declared.act.Act.{Act}
use Rattle.tap_ledger.specs.declared.hand.Hand.{Hand}
use Rattle.tap_ledger.specs.declared.hand.Hand.TheVariants as hand
use Rattle.vhost_dev.specs.Settings.{hdr_of}
use Rattle.vring_turns.specs.declared.stage.RxStage.{RxStage}
use Rattle.vring_turns.specs.declared.stage.RxStage.TheVariants as rx
use Rattle.vring_turns.specs.RxTurn.{RxState, RxTurn, rx_begun, rx_step}
use Rattle.scen_words.specs.declared.command.Command.{Command}
use Rattle.scen_words.specs.declared.command.Command.TheVariants as command
use Rattle.tap_trace.specs.declared.turn.TurnText.{TurnText}
use Rattle.tap_world.specs.declared.event.EventKind.{EventKind}
use Rattle.tap_world.specs.declared.event.EventKind.TheVariants as event
use Rattle.tap_world.specs.declared.event.Found.{Found}
use Rattle.tap_world.specs.ByNumber.{at}
use Rattle.tap_world.specs.Setup.{Numbered, Setup}
use Rattle.tap_world.specs.Line.{File, front_place}
use Rattle.tap_world.specs.LineSteps.{changed}
use Rattle.tap_world.specs.LineSteps.Change.{Takes}
use Rattle.tap_world.specs.Guests.{Guest, Vhost, is_free}
use Rattle.tap_world.specs.World.{Doing, World}
use Rattle.tap_world.specs.World.Doing.{Begun, Receives}
use Rattle.tap_world.specs.Effect.{Effect, OnFiles, Onward}
use Rattle.tap_world.specs.Effect.OnFiles.{NoFile, OnFile}
use Rattle.tap_world.specs.Effect.Onward.{Ends}
use Rattle.tap_world.specs.Scripts.{is_kind, next_kind, rx_next_kind}
use Rattle.tap_world.specs.Step.{row}
use Rattle.tap_world.specs.StepTurns as rx_turns
use Rattle.tap_world.specs.StepTransmits as tx_turns
use Rattle.tap_world.specs.SoundActors.{can_be}
use Rattle.tap_sound.proofs.Kit.{WhereSome, where_if, where_only, where_then}
use Rattle.tap_sound.proofs.Shapes.{RxWay}
use Rattle.tap_sound.proofs.Steps.{held, rx_missed, rx_stepped, rx_taken}
use Rattle.tap_sound.proofs.Taken.{both}
use Rattle.tap_steady.proofs.TurnSteps.{HandsNone}

-- the command ends
abbrev pub IsEnd : Onward → Type 0
IsEnd (Ends seen x) = Unit {0}
IsEnd o = ⊥

-- ---- receive

-- an event of a receive turn: it ends at once; a step that was handed no frame; or one that was handed the batch's front
pub data RxEvent (s : Setup) (w : World) (me seen vhost : ℕ) (d : Doing) (r : Effect) : Type 0 where
  RxOver : IsEnd r.onward → RxEvent s w me seen vhost d r
  RxWent : (file : ℕ) (t : RxTurn) (v : Vhost) (g : Guest) (h : Hand) (made : RxState × Act) (files : OnFiles) (f : Found) (over : Option TurnText)
      → at w.vhosts vhost ≡ Some v → at w.guests v.guest ≡ Some g → RxWay me d file t v → HandsNone h
      → rx_step h (rx_turns.rx_state t v g.memory) ≡ Some made → files ≡ rx_turns.rx_change vhost file t t.stage
      → rx_turns.over_told (rx_turns.rx_over made.0.turn.stage) ≡ Some over
      → rx_turns.rx_effect w me seen vhost file v files f over made ≡ r → RxEvent s w me seen vhost d r
  Took : (file : ℕ) (t : RxTurn) (v : Vhost) (g : Guest) (before now : File) (frame : FrameValue) (made : RxState × Act) (f : Found) (over : Option TurnText)
      → at w.vhosts vhost ≡ Some v → at w.guests v.guest ≡ Some g → d ≡ Receives file t → t.stage ≡ rx.Hand
      → at w.files file ≡ Some before → changed (Takes vhost) before ≡ Some now → rx_turns.front_frame s now ≡ Some frame
      → rx_step (hand.Got frame) (rx_turns.rx_state t v g.memory) ≡ Some made
      → rx_turns.over_told (rx_turns.rx_over made.0.turn.stage) ≡ Some over
      → rx_turns.rx_effect w me seen vhost file v (OnFile file (Takes vhost)) f over made ≡ r → RxEvent s w me seen vhost d r

hand_stage : (w : World) (file : ℕ) (st : RxStage) → is_kind event.Hand (rx_next_kind w file st) ≡ true → st ≡ rx.Hand
hand_stage w file rx.Hand e = refl
hand_stage w file st e = absurd (true≢false (sym e))

none_stage : (w : World) (file : ℕ) (st : RxStage) → is_kind event.NotReady (rx_next_kind w file st) ≡ true → st ≡ rx.Hand
none_stage w file rx.Hand e = refl
none_stage w file st e = absurd (true≢false (sym e))

module _ (s : Setup) (w : World) (me seen vhost : ℕ) (d : Doing) where
  steps_on : (file : ℕ) (t : RxTurn) (v : Vhost) (g : Guest) → at w.vhosts vhost ≡ Some v → at w.guests v.guest ≡ Some g → RxWay me d file t v
      → WhereSome (RxEvent s w me seen vhost d) (rx_turns.rx_steps_on w me seen vhost file t v g.memory)
  steps_on file t v g a b way = let P = RxEvent s w me seen vhost d in
      where_then P (rx_step hand.Off (rx_turns.rx_state t v g.memory)) _
      (λ made e. rx_stepped P w me seen vhost file t v made
      (λ f over e2 told. RxWent file t v g hand.Off made (rx_turns.rx_change vhost file t t.stage) f over a b way tt e refl told refl))

  rx_begins : (n : ℕ) → d ≡ Begun → WhereSome (RxEvent s w me seen vhost d) (tx_turns.turn_begins w me n seen (command.RxTurn vhost))
  rx_begins n is = let P = RxEvent s w me seen vhost d in
      where_then P (at w.vhosts vhost) _ (λ v e2. where_then P (at w.guests v.guest) _
      (λ g e3. where_then P v.settings.rx.file _ (λ file e4. where_if P (is_free 0 v && is_none v.settings.rx.queue.stopped)
      (rx_turns.rx_steps_on w me seen vhost file (rx_begun v.settings.mrg (hdr_of v.settings)) v g.memory)
      (λ x. steps_on file (rx_begun v.settings.mrg (hdr_of v.settings)) v g e2 e3 (inr (is, e4, (both _ _ x).0, refl))))))

  rx_going : (file : ℕ) (t : RxTurn) → d ≡ Receives file t
      → WhereSome (RxEvent s w me seen vhost d) (tx_turns.on_turn w (command.RxTurn vhost) (tx_turns.goes_on w me seen (Receives file t)))
  rx_going file t is = let P = RxEvent s w me seen vhost d in
      where_then P (at w.vhosts vhost) _ (λ v e2. where_then P (at w.guests v.guest) _ (λ g e3. steps_on file t v g e2 e3 (inl is)))

  hands_one : (file : ℕ) (t : RxTurn) → d ≡ Receives file t → t.stage ≡ rx.Hand
      → WhereSome (RxEvent s w me seen vhost d) (tx_turns.hands s w me seen (Receives file t) (command.RxTurn vhost))
  hands_one file t is stage = let P = RxEvent s w me seen vhost d in
      where_then P (at w.vhosts vhost) _ (λ v a. where_then P (at w.guests v.guest) _ (λ g b. where_then P (at w.files file) _
      (λ f e1. where_then P (changed (Takes vhost) f) _ (λ h e2. where_then P (rx_turns.front_frame s h) _
      (λ frame e3. where_then P (rx_step (hand.Got frame) (rx_turns.rx_state t v g.memory)) _
      (λ made e. rx_taken P w me seen vhost file v frame made
      (λ over told. Took file t v g f h frame made _ over a b is stage e1 e2 e3 e told refl)))))))

  finds_none : (file : ℕ) (t : RxTurn) → d ≡ Receives file t → t.stage ≡ rx.Hand
      → WhereSome (RxEvent s w me seen vhost d) (tx_turns.turn_finds_none w me seen (Receives file t) (command.RxTurn vhost))
  finds_none file t is stage = let P = RxEvent s w me seen vhost d in
      where_then P (at w.vhosts vhost) _ (λ v a. where_then P (at w.guests v.guest) _ (λ g b. where_then P (at w.files file) _
      (λ f e1. where_then P (rx_step (hand.NotReady (front_place f)) (rx_turns.rx_state t v g.memory)) _
      (λ made e. rx_missed P w me seen vhost file v f made
      (λ over told. RxWent file t v g (hand.NotReady (front_place f)) made NoFile _ over a b (inl is) tt e
      (ap (rx_turns.rx_change vhost file t) (sym stage)) told refl)))))

-- a turn of a ring without a backend, or of a stopped one, ends at once
pub ends_off : (w : World) (seen : ℕ) (c : Command) → WhereSome (λ r. IsEnd r.onward) (rx_turns.finds_off w seen Begun c)
ends_off w seen c = let P : Effect → Type 0 = λ r. IsEnd r.onward in
    where_then P (rx_turns.turn_on c) _ (λ t e1. where_then P (at w.vhosts t.0) _ (λ v e2. where_then P (at w.guests v.guest) _
    (λ g e3. where_then P (rx_turns.is_off t.0 t.1 v) _ (λ told e4. where_only P _ (rx_turns.off_told w seen v g.memory told) (λ x. tt)))))

over_rx : (s : Setup) (w : World) (me seen vhost : ℕ) (d : Doing) (o : Option Effect) → WhereSome (λ r. IsEnd r.onward) o → WhereSome (RxEvent s w me seen vhost d) o
over_rx s w me seen vhost d None h = tt
over_rx s w me seen vhost d (Some r) h = RxOver h

rx_begun_row : (s : Setup) (w : World) (k : EventKind) (me seen : ℕ) (script : List Numbered) (n vhost : ℕ)
    → WhereSome (RxEvent s w me seen vhost Begun) (row s w k me (record { seen = seen; script = script; doing = Begun }) n (command.RxTurn vhost))
rx_begun_row s w event.Notices me seen script n vhost = rx_begins s w me seen vhost Begun n refl
rx_begun_row s w event.Fetch me seen script n vhost = rx_begins s w me seen vhost Begun n refl
rx_begun_row s w event.Copy me seen script n vhost = rx_begins s w me seen vhost Begun n refl
rx_begun_row s w event.PublishUsed me seen script n vhost = rx_begins s w me seen vhost Begun n refl
rx_begun_row s w event.PutBack me seen script n vhost = rx_begins s w me seen vhost Begun n refl
rx_begun_row s w event.Out me seen script n vhost = rx_begins s w me seen vhost Begun n refl
rx_begun_row s w event.Owner me seen script n vhost =
    over_rx s w me seen vhost Begun _ (ends_off w seen (command.RxTurn vhost))
rx_begun_row s w event.Shut me seen script n vhost = held (RxEvent s w me seen vhost Begun) w me None tt
rx_begun_row s w event.Reopen me seen script n vhost = held (RxEvent s w me seen vhost Begun) w me None tt
rx_begun_row s w event.Resize me seen script n vhost = held (RxEvent s w me seen vhost Begun) w me None tt
rx_begun_row s w event.Cut me seen script n vhost = held (RxEvent s w me seen vhost Begun) w me None tt
rx_begun_row s w k me seen script n vhost = tt

rx_on_row : (s : Setup) (w : World) (k : EventKind) (me seen : ℕ) (script : List Numbered) (n vhost file : ℕ) (t : RxTurn) → is_kind k (rx_next_kind w file t.stage) ≡ true
    → WhereSome (RxEvent s w me seen vhost (Receives file t)) (row s w k me (record { seen = seen; script = script; doing = Receives file t }) n (command.RxTurn vhost))
rx_on_row s w event.Notices me seen script n vhost file t e = rx_going s w me seen vhost (Receives file t) file t refl
rx_on_row s w event.Fetch me seen script n vhost file t e = rx_going s w me seen vhost (Receives file t) file t refl
rx_on_row s w event.Copy me seen script n vhost file t e = rx_going s w me seen vhost (Receives file t) file t refl
rx_on_row s w event.PublishUsed me seen script n vhost file t e = rx_going s w me seen vhost (Receives file t) file t refl
rx_on_row s w event.PutBack me seen script n vhost file t e = rx_going s w me seen vhost (Receives file t) file t refl
rx_on_row s w event.Out me seen script n vhost file t e = rx_going s w me seen vhost (Receives file t) file t refl
rx_on_row s w event.Hand me seen script n vhost file t e = hands_one s w me seen vhost (Receives file t) file t refl (hand_stage w file t.stage e)
rx_on_row s w event.NotReady me seen script n vhost file t e = finds_none s w me seen vhost (Receives file t) file t refl (none_stage w file t.stage e)
rx_on_row s w event.Shut me seen script n vhost file t e = held (RxEvent s w me seen vhost (Receives file t)) w me None tt
rx_on_row s w event.Reopen me seen script n vhost file t e = held (RxEvent s w me seen vhost (Receives file t)) w me None tt
rx_on_row s w event.Resize me seen script n vhost file t e = held (RxEvent s w me seen vhost (Receives file t)) w me None tt
rx_on_row s w event.Cut me seen script n vhost file t e = held (RxEvent s w me seen vhost (Receives file t)) w me None tt
rx_on_row s w k me seen script n vhost file t e = tt

pub rx_row : (s : Setup) (w : World) (k : EventKind) (me seen : ℕ) (script : List Numbered) (n vhost : ℕ) (d : Doing) → can_be d (command.RxTurn vhost) ≡ true
    → is_kind k (next_kind w d (command.RxTurn vhost)) ≡ true
    → WhereSome (RxEvent s w me seen vhost d) (row s w k me (record { seen = seen; script = script; doing = d }) n (command.RxTurn vhost))
rx_row s w k me seen script n vhost Begun can e = rx_begun_row s w k me seen script n vhost
rx_row s w k me seen script n vhost (Receives file t) can e = rx_on_row s w k me seen script n vhost file t e
rx_row s w k me seen script n vhost d can e = absurd (true≢false (sym can))
