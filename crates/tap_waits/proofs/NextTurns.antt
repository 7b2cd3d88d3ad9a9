-- Turns that are about to begin, and what their ends tell.
use Rattle.std.proofs.Common.{◌≡◌, ℕ, List, [], true, false, Option, Some, None, refl, sym, ap, ◌∙◌, true≢false}
use Rattle.std.specs.Prelude.{if◌then◌else◌, ◌&&◌, is_none, is_some}
use Rattle.std.specs.Option.{option_map_or}
use Rattle.tap_frame.specs.declared.name.Name.{Name}
use Rattle.tap_ledger.specs.declared.act.Act.{Act}
use Rattle.tap_trace.specs.declared.kind.Kind.{Kind}
use Rattle.tap_trace.specs.declared.turn.TurnText.{TurnText}
use Rattle.vring_split.specs.declared.fault.RingFault.{RingFault}
use Rattle.vring_walk.specs.declared.walk.Fetched.{Fetched}
use Rattle.vring_walk.specs.declared.walk.Fetched.TheVariants as fetched
use Rattle.vhost_dev.specs.Settings.{hdr_of}
use Rattle.vring_turns.specs.declared.stage.RxStage.TheVariants as rx
use Rattle.vring_turns.specs.declared.stage.TxStage.TheVariants as tx
use Rattle.vring_turns.specs.Ring.{noticed, told_of}
use Rattle.vring_turns.specs.Stage.{first_answer}
use Rattle.vring_turns.specs.RxTurn.{RxState, rx_begun, rx_made, rx_ring}
use Rattle.vring_turns.specs.TxTurn.{TxState, tx_begun, tx_made, tx_ring}
use Rattle.tap_trace.specs.declared.turn.ChainText.{ChainText}
use Rattle.scen_words.specs.declared.command.Command.TheVariants as command
use Rattle.tap_ground.specs.Options.{◌>>=◌, only_if}
use Rattle.tap_world.specs.declared.event.EventKind.TheVariants as event
use Rattle.tap_world.specs.declared.event.Found.{Found}
use Rattle.tap_world.specs.ByNumber.{at}
use Rattle.tap_world.specs.Setup.{Numbered, Setup}
use Rattle.tap_world.specs.Guests.{Guest, Vhost, is_free}
use Rattle.tap_world.specs.World.{World, name_of}
use Rattle.tap_world.specs.World.Doing.{Begun}
use Rattle.tap_world.specs.Effect.{OnFiles, files_after}
use Rattle.tap_world.specs.Effect.OnFiles.{NoFile}
use Rattle.tap_world.specs.StepTransmits.{tx_begins, tx_effect, tx_event, tx_over, tx_state, tx_steps_on}
use Rattle.tap_world.specs.StepTurns.{found_by, held_name, is_off, kind_of, off_told, over_told, rx_begins, rx_effect, rx_event, rx_over, rx_state, rx_steps_on, step_at_once}
use Rattle.tap_waits.proofs.Kit.{and_both, does}
use Rattle.tap_waits.proofs.NextFacts.{Goes, Here, and_true, guest_of_vhost, names, vhost_there}
use Rattle.tap_waits.proofs.NextRing.{does_only}
use Rattle.tap_waits.proofs.NextBack.{does_if, guest_done}

-- ---- what is told

pub found_kind : (o : Option Kind) (name : Option Name) → is_some o ≡ true → is_some (found_by o name) ≡ true
found_kind (Some k) name e = refl
found_kind None name e = absurd (true≢false (sym e))

pub fetch_kind : (vhost r position : ℕ) (x : Fetched) → is_some (kind_of vhost r (told_of position x)) ≡ true
fetch_kind vhost r position (fetched.Chain head) = refl
fetch_kind vhost r position fetched.Nothing = refl
fetch_kind vhost r position fetched.Crowded = refl
fetch_kind vhost r position (fetched.Bad fault) = refl

-- ---- an event of a turn is done where its file can change so, and what it found and its end can be told

module _ (w : World) (i seen n vhost file : ℕ) (v : Vhost) (g : Guest) (at_ : at w.guests v.guest ≡ Some g) where
  pub rx_event_done : (files : OnFiles) (o : Option Found) (made : RxState × Act) → is_some (files_after files w.files)
      ≡ true → is_some o ≡ true
      → is_some (over_told (rx_over made.0.turn.stage)) ≡ true
      → does w i n (rx_event w i seen vhost file v files o made) ≡ true
  rx_event_done files None made h k l = absurd (true≢false (sym k))
  rx_event_done files (Some f) made h k l = go (over_told (rx_over made.0.turn.stage)) l
    where
      go : (q : Option (Option TurnText)) → is_some q ≡ true
          → does w i n (q >>= (λ over. Some (rx_effect w i seen vhost file v files f over made))) ≡ true
      go None l = absurd (true≢false (sym l))
      go (Some over) l = and_both (is_some (files_after files w.files)) _ h
          (guest_done w i n v.guest made.0.memory (kind_of vhost 0 made.1) g at_)

  pub tx_event_done : (chains : List ChainText) (made : TxState × Act) → is_some (kind_of vhost 1 made.1) ≡ true
      → is_some (over_told (tx_over made.0.turn.stage)) ≡ true
      → does w i n (tx_event w i seen vhost file chains v made) ≡ true
  tx_event_done chains made k l = go (kind_of vhost 1 made.1) (over_told (tx_over made.0.turn.stage)) k l
    where
      go : (p : Option Kind) (q : Option (Option TurnText)) → is_some p ≡ true → is_some q ≡ true
          → does w i n (p >>= (λ step. q >>= (λ over. Some (tx_effect w i seen vhost file chains v step over made))))
          ≡ true
      go None q k l = absurd (true≢false (sym k))
      go (Some step) None k l = absurd (true≢false (sym l))
      go (Some step) (Some over) k l = guest_done w i n v.guest made.0.memory (Some step) g at_

-- ---- a turn begins

-- a ring that isn't off has a backend, and isn't stopped
on_ring : (vhost r : ℕ) (o : Option ℕ) (st : Option RingFault)
    → (first_answer (is_some o) st >>= (λ e. step_at_once vhost r e)) ≡ None → (file : ℕ) × (o ≡ Some file)
    × (st ≡ None)
on_ring vhost r None st e = absurd (cc (e))
on_ring vhost r (Some file) (Some fault) e = absurd (cc (e))
on_ring vhost r (Some file) None e = (file, refl, refl)

module _ (s : Setup) (w : World) (i seen : ℕ) (script : List Numbered) (n : ℕ) where
  next_turn : (vhost r : ℕ) (v : Vhost) (o : Option (TurnText × Kind)) → at w.vhosts vhost ≡ Some v
      → is_off vhost r v ≡ o
      → Some (if option_map_or (λ (x : Vhost). is_some (is_off vhost r x)) (at w.vhosts vhost) false then event.Owner
      else event.Notices) ≡ Some (if is_some o then event.Owner else event.Notices)
  next_turn vhost r v o at_ is =
      ap (λ (q : Option Vhost). Some (if option_map_or (λ (x : Vhost). is_some (is_off vhost r x)) q false then
      event.Owner else event.Notices)) at_
      ∙ ap (λ (q : Option (TurnText × Kind)). Some (if is_some q then event.Owner else event.Notices)) is

  off_done : (vhost r : ℕ) (v : Vhost) (g : Guest) (told : TurnText × Kind) → at w.vhosts vhost ≡ Some v
      → at w.guests v.guest ≡ Some g → is_off vhost r v ≡ Some told
      → does w i n (at w.vhosts vhost
      >>= (λ x. at w.guests x.guest
      >>= (λ y. is_off vhost r x >>= (λ z. only_if (is_free r x) (off_told w seen x y.memory z)))))
      ≡ option_map_or (is_free r) (at w.vhosts vhost) false
  off_done vhost r v g told e f is =
      ap (λ (o : Option Vhost). does w i n
      (o >>= (λ x. at w.guests x.guest
      >>= (λ y. is_off vhost r x >>= (λ z. only_if (is_free r x) (off_told w seen x y.memory z)))))) e
      ∙ ap (λ (o : Option Guest). does w i n
      (o >>= (λ y. is_off vhost r v >>= (λ z. only_if (is_free r v) (off_told w seen v y.memory z))))) f
      ∙ ap (λ (o : Option (TurnText × Kind)). does w i n
      (o >>= (λ z. only_if (is_free r v) (off_told w seen v g.memory z)))) is
      ∙ does_only w i n (is_free r v) (off_told w seen v g.memory told)
      (guest_done w i n v.guest g.memory (Some told.1) g f)
      ∙ sym (ap (λ (o : Option Vhost). option_map_or (is_free r) o false) e)

  pub rx_turn_begins : (vhost : ℕ) → Here s w i seen script n (command.RxTurn vhost) Begun
      → Goes s w i seen script n (command.RxTurn vhost) Begun
  rx_turn_begins vhost h =
      let v = vhost_there h vhost (names h).vhost in
      let g = guest_of_vhost h vhost v.0 v.1 in
      go v.0 g.0 v.1 g.1 (is_off vhost 0 v.0) refl
    where
      go : (v : Vhost) (g : Guest) → at w.vhosts vhost ≡ Some v → at w.guests v.guest ≡ Some g
          → (o : Option (TurnText × Kind)) → is_off vhost 0 v ≡ o → Goes s w i seen script n (command.RxTurn vhost)
          Begun
      go v g e f (Some told) is = record {
        kind = event.Owner;
        is_next = next_turn vhost 0 v (Some told) e is;
        done = off_done vhost 0 v g told e f is;
      }
      go v g e f None is =
          let on_ = on_ring vhost 0 v.settings.rx.file v.settings.rx.queue.stopped is in
          let t = rx_begun v.settings.mrg (hdr_of v.settings) in
          let S : RxState = rx_state t v g.memory in
          let made : RxState × Act = rx_made (noticed false (rx_ring S) S.memory) rx.Hand S in
          let run : does w i n (rx_steps_on w i seen vhost on_.0 t v g.memory) ≡ true =
          rx_event_done w i seen n vhost on_.0 v g f NoFile (found_by (kind_of vhost 0 made.1) (held_name t.held)) made
          refl refl refl in
          record {
            kind = event.Notices;
            is_next = next_turn vhost 0 v None e is;
            done =
                ap (λ (o : Option Vhost). does w i n
                (o >>= (λ x. at w.guests x.guest >>= (λ y. rx_begins w i seen vhost x y.memory)))) e
                ∙ ap (λ (o : Option Guest). does w i n (o >>= (λ y. rx_begins w i seen vhost v y.memory))) f
                ∙ ap (λ (o : Option ℕ). does w i n
                (o >>= (λ file. if is_free 0 v && is_none v.settings.rx.queue.stopped then rx_steps_on w i seen
                vhost file (rx_begun v.settings.mrg (hdr_of v.settings)) v g.memory else None))) on_.1
                ∙ does_if w i n (is_free 0 v && is_none v.settings.rx.queue.stopped)
                (rx_steps_on w i seen vhost on_.0 (rx_begun v.settings.mrg (hdr_of v.settings)) v g.memory) run
                ∙ ap (λ (o : Option RingFault). is_free 0 v && is_none o) on_.2 ∙ and_true (is_free 0 v)
                ∙ sym (ap (λ (o : Option Vhost). option_map_or (is_free 0) o false) e);
          }

  pub tx_turn_begins : (vhost : ℕ) → Here s w i seen script n (command.TxTurn vhost) Begun
      → Goes s w i seen script n (command.TxTurn vhost) Begun
  tx_turn_begins vhost h =
      let v = vhost_there h vhost (names h).vhost in
      let g = guest_of_vhost h vhost v.0 v.1 in
      go v.0 g.0 v.1 g.1 (is_off vhost 1 v.0) refl
    where
      go : (v : Vhost) (g : Guest) → at w.vhosts vhost ≡ Some v → at w.guests v.guest ≡ Some g
          → (o : Option (TurnText × Kind)) → is_off vhost 1 v ≡ o → Goes s w i seen script n (command.TxTurn vhost)
          Begun
      go v g e f (Some told) is = record {
        kind = event.Owner;
        is_next = next_turn vhost 1 v (Some told) e is;
        done = off_done vhost 1 v g told e f is;
      }
      go v g e f None is =
          let on_ = on_ring vhost 1 v.settings.tx.file v.settings.tx.queue.stopped is in
          let t = tx_begun (hdr_of v.settings) (name_of i n) in
          let S : TxState = tx_state t v g.memory in
          let made : TxState × Act = tx_made (noticed false (tx_ring S) S.memory) tx.Fetch S in
          let run : does w i n (tx_steps_on w i seen vhost on_.0 t [] v g.memory) ≡ true =
          tx_event_done w i seen n vhost on_.0 v g f [] made refl refl in
          record {
            kind = event.Notices;
            is_next = next_turn vhost 1 v None e is;
            done =
                ap (λ (o : Option Vhost). does w i n
                (o >>= (λ x. at w.guests x.guest >>= (λ y. tx_begins w i n seen vhost x y.memory)))) e
                ∙ ap (λ (o : Option Guest). does w i n (o >>= (λ y. tx_begins w i n seen vhost v y.memory))) f
                ∙ ap (λ (o : Option ℕ). does w i n
                (o >>= (λ file. if is_free 1 v && is_none v.settings.tx.queue.stopped then tx_steps_on w i seen
                vhost file (tx_begun (hdr_of v.settings) (name_of i n)) [] v g.memory else None))) on_.1
                ∙ does_if w i n (is_free 1 v && is_none v.settings.tx.queue.stopped)
                (tx_steps_on w i seen vhost on_.0 (tx_begun (hdr_of v.settings) (name_of i n)) [] v g.memory) run
                ∙ ap (λ (o : Option RingFault). is_free 1 v && is_none o) on_.2 ∙ and_true (is_free 1 v)
                ∙ sym (ap (λ (o : Option Vhost). option_map_or (is_free 1) o false) e);
          }
