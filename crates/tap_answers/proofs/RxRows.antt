-- What each event of a receive turn says where it ends it.
use Rattle.std.proofs.Common.{◌≡◌, ◌⊎◌, ℕ, List, true, false, Option, Some, None, inl, inr, refl, sym, ap, ◌∙◌, subst, true≢false}
use Rattle.std.specs.Prelude.{◌&&◌, ◌||◌, is_none, is_some}
use Rattle.std.specs.Option.{option_map_or}
use Rattle.tap_ledger.specs.declared.act.Act.{Act}
use Rattle.tap_ledger.specs.declared.hand.Hand.{Hand}
use Rattle.tap_ledger.specs.declared.hand.Hand.TheVariants as hand
use Rattle.scen_words.specs.declared.command.Command.{Command}
use Rattle.scen_words.specs.declared.command.Command.TheVariants as command
use Rattle.tap_trace.specs.declared.turn.TurnText.{TurnText}
use Rattle.vhost_dev.specs.Settings.{hdr_of}
use Rattle.vring_turns.specs.declared.stage.RxStage.{RxStage}
use Rattle.vring_turns.specs.declared.stage.RxStage.TheVariants as rx
use Rattle.vring_turns.specs.RxTurn.{RxState, RxTurn, rx_begun, rx_step}
use Rattle.tap_world.specs.declared.event.EventKind.{EventKind}
use Rattle.tap_world.specs.declared.event.EventKind.TheVariants as event
use Rattle.tap_world.specs.declared.event.Found.{Found}
use Rattle.tap_world.specs.ByNumber.{at}
use Rattle.tap_world.specs.Effect.{OnFiles}
use Rattle.tap_world.specs.Effect.OnFiles.{NoFile, OnFile}
use Rattle.tap_world.specs.Guests.{Guest, Vhost, is_free}
use Rattle.tap_world.specs.Line.{first_that, front_place, has_batch, in_batch}
use Rattle.tap_world.specs.LineSteps.{changed, ready_front}
use Rattle.tap_world.specs.LineSteps.Change.{Takes}
use Rattle.tap_world.specs.Scripts.{hand_next, is_kind, rx_next_kind}
use Rattle.tap_world.specs.Setup.{Numbered, Setup}
use Rattle.tap_world.specs.Step.{row}
use Rattle.tap_world.specs.StepTransmits as tx_turns
use Rattle.tap_world.specs.StepTurns as rx_turns
use Rattle.tap_world.specs.World.{Doing, World}
use Rattle.tap_world.specs.World.Doing.{Begun, Receives}
use Rattle.tap_sound.proofs.Kit.{where_if, where_only, where_then}
use Rattle.tap_sound.proofs.Steps.{rx_made}
use Rattle.tap_sound.proofs.Taken.{both}
use Rattle.tap_answers.specs.SaysShared.{Occasion}
use Rattle.tap_answers.specs.SaysTurns.{IsHanded, Receiving}
use Rattle.tap_answers.proofs.Kit.{none_is}
use Rattle.tap_answers.proofs.NextKinds.{at_file_kind, at_kind, either_kind}
use Rattle.tap_answers.specs.Idle.{is_idle}
use Rattle.tap_answers.proofs.IdleSteps.{idle_step}
use Rattle.tap_answers.proofs.Rows.{WasIdle, AllSay, Known, RowSays, Says, actor_at, at_doing, sees_known}
use Rattle.tap_answers.proofs.TurnEnds.{end_is, rx_ended}

module _ (s : Setup) (w u : World) (me low n : ℕ) (script : List Numbered) (vhost : ℕ) where
  abbrev on : Doing → Occasion
  on d = at_doing w u me low n d

  abbrev c : Command
  c = command.RxTurn vhost

  abbrev At : Doing → EventKind → Type 0
  At d j = AllSay s (on d) c (row s w j me (actor_at low script d) n c)

  module _ (d : Doing) (k : Known s (on d) c) (file : ℕ) (t : RxTurn) (v : Vhost) (g : Guest)
      (e1 : at w.vhosts vhost ≡ Some v) (e2 : at w.guests v.guest ≡ Some g) (way : Receiving d file t v) where
    -- a step that leaves it to end since no frame was ready
    on_idle : (h : Hand) → IsHanded w file h → (made : RxState × Act)
        → rx_step h (rx_turns.rx_state t v g.memory) ≡ Some made → is_idle made.0.turn.stage ≡ true
        → WasIdle (on d) file
    on_idle h handed made step idle = go way (idle_step h (rx_turns.rx_state t v g.memory) made step idle)
      where
        go : Receiving d file t v
            → (is_idle t.stage ≡ true) ⊎ ((t.stage ≡ rx.Hand) × (place : ℕ) × (h ≡ hand.NotReady place))
            → WasIdle (on d) file
        go (inl is) (inl was) = (t, is, inl was)
        go (inl is) (inr none) = (t, is, inr (none.1, subst (IsHanded w file) none.2 handed))
        go (inr begun) (inl was) = absurd (true≢false
            (sym was ∙ ap (λ (x : RxTurn). is_idle x.stage) begun.2))
        go (inr begun) (inr none) = absurd (cc (sym none.0 ∙ ap (λ (x : RxTurn). x.stage) begun.2))

    -- a step with what was handed
    rx_says : (h : Hand) → IsHanded w file h → (files : OnFiles) (f : Found) (made : RxState × Act)
        → rx_step h (rx_turns.rx_state t v g.memory) ≡ Some made → (over : Option TurnText)
        → rx_turns.over_told (rx_turns.rx_over made.0.turn.stage) ≡ Some over
        → RowSays s (on d) c (rx_turns.rx_effect w me low vhost file v files f over made)
    rx_says h handed files f made step None told left = λ idle. on_idle h handed made step idle
    rx_says h handed files f made step (Some x) told left =
        let e = end_is (rx_turns.rx_over made.0.turn.stage) x told in (
          inr (
            record {
              serves = record { known = refl; v = v; is_vhost = e1; g = g; is_guest = e2 };
              file = file;
              turn = t;
              on = way;
              handed = h;
              found = handed;
              made = made;
              step = step;
              end = e.end;
              over = rx_ended made.0.turn.stage e.end e.is;
              told = e.told;
              as_many = refl;
              as_long = refl;
            },
            refl,
          ),
          sees_known s (on d) c k _ left.ops,
        )

    steps_on : AllSay s (on d) c (rx_turns.rx_steps_on w me low vhost file t v g.memory)
    steps_on = where_then (RowSays s (on d) c) (rx_step hand.Off (rx_turns.rx_state t v g.memory)) _
        (λ made step. rx_made (RowSays s (on d) c) w me low vhost file v (rx_turns.rx_change vhost file t t.stage)
        (rx_turns.found_by (rx_turns.kind_of vhost 0 made.1) (rx_turns.held_name t.held)) made
        (λ f over e told. rx_says hand.Off tt (rx_turns.rx_change vhost file t t.stage) f made step over told))

    handed_on : AllSay s (on d) c (rx_turns.takes s w me low vhost file t v g.memory)
    handed_on = let P = RowSays s (on d) c in
        where_then P (at w.files file) _ (λ f e3. where_then P (changed (Takes vhost) f) _
        (λ h e4. where_then P (rx_turns.front_frame s h) _
        (λ frame e5. where_then P (rx_step (hand.Got frame) (rx_turns.rx_state t v g.memory)) _
        (λ made step. rx_made P w me low vhost file v (OnFile file (Takes vhost)) (Some _) made
        (λ f over e told. rx_says (hand.Got frame) tt (OnFile file (Takes vhost)) f made step over told)))))

    none_on : AllSay s (on d) c (rx_turns.finds_no_frame w me low vhost file t v g.memory)
    none_on = let P = RowSays s (on d) c in
        where_then P (at w.files file) _
        (λ f e3. where_then P (rx_step (hand.NotReady (front_place f)) (rx_turns.rx_state t v g.memory)) _
        (λ made step. where_if P (is_none (first_that in_batch f.line) && is_none (ready_front f.line))
        (rx_turns.rx_event w me low vhost file v NoFile (Some (_)) made)
        (λ b. let q = both (is_none (first_that in_batch f.line)) (is_none (ready_front f.line)) b in
        rx_made P w me low vhost file v NoFile (Some _) made
        (λ x over e told. rx_says (hand.NotReady (front_place f)) (record {
          f = f;
          is_file = e3;
          batch = none_is (first_that in_batch f.line) q.0;
          ready = none_is (ready_front f.line) q.1;
          front = refl;
        }) NoFile x made step over told))))

  -- it is off
  rx_off : Known s (on Begun) c → At Begun event.Owner
  rx_off k = let P = RowSays s (on Begun) c in
      where_then P (at w.vhosts vhost) _ (λ v e1. where_then P (at w.guests v.guest) _
      (λ g e2. where_then P (rx_turns.is_off vhost 0 v) _
      (λ told e3. where_only P (is_free 0 v) (rx_turns.off_told w low v g.memory told) (λ b left. (
        inl (
          record {
            serves = record { known = refl; v = v; is_vhost = e1; g = g; is_guest = e2 };
            step = told.1;
            off = e3;
            free = b;
          },
          (refl, refl, refl),
        ),
        sees_known s (on Begun) c k _ left.ops,
      )))))

  rx_begins : Known s (on Begun) c → At Begun event.Notices
  rx_begins k = let P = RowSays s (on Begun) c in
      where_then P (at w.vhosts vhost) _ (λ v e1. where_then P (at w.guests v.guest) _
      (λ g e2. where_then P v.settings.rx.file _
      (λ file e3. where_if P (is_free 0 v && is_none v.settings.rx.queue.stopped)
      (rx_turns.rx_steps_on w me low vhost file (rx_begun v.settings.mrg (hdr_of v.settings)) v g.memory)
      (λ b. steps_on Begun k file (rx_begun v.settings.mrg (hdr_of v.settings)) v g e1 e2 (inr (refl, e3, refl))))))

  module _ (file : ℕ) (t : RxTurn) (k : Known s (on (Receives file t)) c) where
    abbrev d : Doing
    d = Receives file t

    turning : AllSay s (on d) c (tx_turns.turns w me n low d c)
    turning = where_then (RowSays s (on d) c) (at w.vhosts vhost) _
        (λ v e1. where_then (RowSays s (on d) c) (at w.guests v.guest) _
        (λ g e2. steps_on d k file t v g e1 e2 (inl refl)))

    handing : At d event.Hand
    handing = where_then (RowSays s (on d) c) (at w.vhosts vhost) _
        (λ v e1. where_then (RowSays s (on d) c) (at w.guests v.guest) _
        (λ g e2. handed_on d k file t v g e1 e2 (inl refl)))

    finding : At d event.NotReady
    finding = where_then (RowSays s (on d) c) (at w.vhosts vhost) _
        (λ v e1. where_then (RowSays s (on d) c) (at w.guests v.guest) _
        (λ g e2. none_on d k file t v g e1 e2 (inl refl)))

    at_stage : (st : RxStage) (j : EventKind) → is_kind j (rx_next_kind w file st) ≡ true → At d j
    at_stage rx.Begin j next = at_kind (At d) j event.Notices next turning
    at_stage rx.Hand j next = at_file_kind (At d) (at w.files file) hand_next j next
        (λ f e. either_kind (At d) (has_batch f || is_some (ready_front f.line)) event.Hand event.NotReady
        (λ b. handing) (λ b. finding))
    at_stage rx.Fetch j next = at_kind (At d) j event.Fetch next turning
    at_stage rx.NoticesOn j next = at_kind (At d) j event.Notices next turning
    at_stage rx.FetchAgain j next = at_kind (At d) j event.Fetch next turning
    at_stage (rx.NoticesOff way) j next = at_kind (At d) j event.Notices next turning
    at_stage rx.Copy j next = at_kind (At d) j event.Copy next turning
    at_stage rx.Out j next = at_kind (At d) j event.Out next turning
    at_stage (rx.Discard had) j next = at_kind (At d) j event.Out next turning
    at_stage (rx.PutBack e) j next = at_kind (At d) j event.PutBack next turning
    at_stage (rx.Publish e) j next = at_kind (At d) j event.PublishUsed next turning
    at_stage (rx.Ended e) j next = absurd (true≢false (sym next))

  pub rx_turn_says : (d : Doing) → Says s w u me low n script d c
  rx_turn_says Begun k j next =
      at_kind (At Begun) j _ next
      (either_kind (At Begun) (option_map_or (λ v. is_some (rx_turns.is_off vhost 0 v)) (at w.vhosts vhost) false)
      event.Owner event.Notices (λ b. rx_off k) (λ b. rx_begins k))
  rx_turn_says (Receives file t) k j next = at_stage file t k t.stage j next
  rx_turn_says d k j next = absurd (true≢false (sym k.can))
