-- What each event of a transmit turn says where it ends it.
use Rattle.std.proofs.Common.{◌≡◌, ℕ, List, [], Bool, true, false, Option, Some, None, inl, inr, refl, sym, true≢false}
use Rattle.std.specs.Prelude.{◌&&◌, if◌then◌else◌, is_none, is_some}
use Rattle.std.specs.Option.{option_map_or}
use Rattle.tap_ledger.specs.declared.act.Act.{Act}
use Rattle.tap_steer.specs.Select as steer
use Rattle.scen_words.specs.declared.command.Command.{Command}
use Rattle.scen_words.specs.declared.command.Command.TheVariants as command
use Rattle.tap_trace.specs.declared.kind.Kind.{Kind}
use Rattle.tap_trace.specs.declared.turn.ChainText.{ChainText}
use Rattle.tap_trace.specs.declared.turn.TurnText.{TurnText}
use Rattle.vhost_dev.specs.Settings.{hdr_of}
use Rattle.vring_turns.specs.declared.stage.TxStage.{TxStage}
use Rattle.vring_turns.specs.declared.stage.TxStage.TheVariants as tx
use Rattle.vring_turns.specs.TxTurn.{TxState, TxTurn, tx_begun, tx_step}
use Rattle.tap_world.specs.declared.event.EventKind.{EventKind}
use Rattle.tap_world.specs.declared.event.EventKind.TheVariants as event
use Rattle.tap_world.specs.ByNumber.{at}
use Rattle.tap_world.specs.Guests.{Guest, Vhost, is_free}
use Rattle.tap_world.specs.Scripts.{is_kind, tx_next_kind}
use Rattle.tap_world.specs.Setup.{Numbered, Setup}
use Rattle.tap_world.specs.Step.{row}
use Rattle.tap_world.specs.StepTransmits as tx_turns
use Rattle.tap_world.specs.StepTurns as rx_turns
use Rattle.tap_world.specs.World.{Doing, HostFrame, World, name_of, newest, table}
use Rattle.tap_world.specs.World.Doing.{Begun, Given, Teaches, Transmits}
use Rattle.tap_sound.proofs.Kit.{where_if, where_only, where_then}
use Rattle.tap_sound.proofs.Steps.{tx_made}
use Rattle.tap_answers.specs.SaysShared.{Occasion}
use Rattle.tap_answers.specs.SaysTurns.{Transmitting}
use Rattle.tap_answers.proofs.NextKinds.{at_kind, either_kind}
use Rattle.tap_answers.proofs.Rows.{AllSay, GoesOn, Known, RowSays, Says, actor_at, at_doing, sees_known}
use Rattle.tap_answers.proofs.TurnEnds.{end_is, tx_ended}

module _ (s : Setup) (w u : World) (me low n : ℕ) (script : List Numbered) (vhost : ℕ) where
  abbrev on : Doing → Occasion
  on d = at_doing w u me low n d

  abbrev c : Command
  c = command.TxTurn vhost

  abbrev At : Doing → EventKind → Type 0
  At d j = AllSay s (on d) c (row s w j me (actor_at low script d) n c)

  module _ (d : Doing) (k : Known s (on d) c) (file : ℕ) (t : TxTurn) (so_far : List ChainText) (v : Vhost) (g : Guest)
      (e1 : at w.vhosts vhost ≡ Some v) (e2 : at w.guests v.guest ≡ Some g)
      (way : Transmitting (on d) file t so_far v) where
    tx_says : (made : TxState × Act) → tx_step (tx_turns.tx_state t v g.memory) ≡ Some made → (step : Kind)
        (over : Option TurnText) → rx_turns.over_told (tx_turns.tx_over made.0.turn.stage) ≡ Some over
        → RowSays s (on d) c (tx_turns.tx_effect w me low vhost file so_far v step over made)
    tx_says made is step None told left = tt
    tx_says made is step (Some x) told left =
        let e = end_is (tx_turns.tx_over made.0.turn.stage) x told in (
          inr (record {
            serves = record { known = refl; v = v; is_vhost = e1; g = g; is_guest = e2 };
            file = file;
            turn = t;
            so_far = so_far;
            on = way;
            made = made;
            step = is;
            end = e.end;
            over = tx_ended made.0.turn.stage e.end e.is;
            told = e.told;
            as_many = refl;
            as_long = refl;
            became = refl;
          }),
          sees_known s (on d) c k _ left.ops,
        )

    steps_on : AllSay s (on d) c (tx_turns.tx_steps_on w me low vhost file t so_far v g.memory)
    steps_on = where_then (RowSays s (on d) c) (tx_step (tx_turns.tx_state t v g.memory)) _
        (λ made is. tx_made (RowSays s (on d) c) w me low vhost file so_far v made
        (λ step over e told. tx_says made is step over told))

  tx_off : Known s (on Begun) c → At Begun event.Owner
  tx_off k = let P = RowSays s (on Begun) c in
      where_then P (at w.vhosts vhost) _ (λ v e1. where_then P (at w.guests v.guest) _
      (λ g e2. where_then P (rx_turns.is_off vhost 1 v) _
      (λ told e3. where_only P (is_free 1 v) (rx_turns.off_told w low v g.memory told) (λ b left. (
        inl (
          record {
            serves = record { known = refl; v = v; is_vhost = e1; g = g; is_guest = e2 };
            step = told.1;
            off = e3;
            free = b;
          },
          (refl, refl, refl),
        ),
        sees_known s (on Begun) c k _ left.ops,
      )))))

  tx_begins : Known s (on Begun) c → At Begun event.Notices
  tx_begins k = let P = RowSays s (on Begun) c in
      where_then P (at w.vhosts vhost) _ (λ v e1. where_then P (at w.guests v.guest) _
      (λ g e2. where_then P v.settings.tx.file _
      (λ file e3. where_if P (is_free 1 v && is_none v.settings.tx.queue.stopped)
      (tx_turns.tx_steps_on w me low vhost file (tx_begun (hdr_of v.settings) (name_of me n)) [] v g.memory)
      (λ b. steps_on Begun k file (tx_begun (hdr_of v.settings) (name_of me n)) [] v g e1 e2
      (inr (refl, e3, refl, refl))))))

  module _ (file : ℕ) (t : TxTurn) (chains : List ChainText) (k : Known s (on (Transmits file t chains)) c) where
    abbrev d : Doing
    d = Transmits file t chains

    turning : AllSay s (on d) c (tx_turns.turns w me n low d c)
    turning = where_then (RowSays s (on d) c) (at w.vhosts vhost) _
        (λ v e1. where_then (RowSays s (on d) c) (at w.guests v.guest) _
        (λ g e2. steps_on d k file t chains v g e1 e2 (inl refl)))

    giving : At d event.HostIn
    giving = let P = RowSays s (on d) c in
        where_then P (at w.vhosts vhost) _ (λ v e1. where_then P (at w.guests v.guest) _
        (λ g e2. where_then P t.held _ (λ f e3. where_then P (tx_step (tx_turns.tx_state t v g.memory)) _
        (λ made e4 left. tt))))

    at_stage : (st : TxStage) (j : EventKind) → is_kind j (tx_next_kind st) ≡ true → At d j
    at_stage tx.Begin j next = at_kind (At d) j event.Notices next turning
    at_stage tx.Fetch j next = at_kind (At d) j event.Fetch next turning
    at_stage tx.NoticesOn j next = at_kind (At d) j event.Notices next turning
    at_stage tx.FetchAgain j next = at_kind (At d) j event.Fetch next turning
    at_stage (tx.NoticesOff fault) j next = at_kind (At d) j event.Notices next turning
    at_stage tx.Copy j next = at_kind (At d) j event.Copy next turning
    at_stage tx.Give j next = at_kind (At d) j event.HostIn next giving
    at_stage (tx.Publish e) j next = at_kind (At d) j event.PublishUsed next turning
    at_stage (tx.Ended e) j next = absurd (true≢false (sym next))

  looks : (file : ℕ) (t : TxTurn) (chains : List ChainText) (f : HostFrame) → At (Given file t chains f) event.Look
  looks file t chains f left = go (steer.learns (table s w) file)
    where
      go : (b : Bool) → GoesOn (on (Given file t chains f)) (newest w)
          (if b then Teaches file t chains f else Transmits file t chains)
      go true = tt
      go false = tt

  teaching : (file : ℕ) (t : TxTurn) (chains : List ChainText) (f : HostFrame) → At (Teaches file t chains f) event.Publish
  teaching file t chains f = where_only (RowSays s (on (Teaches file t chains f)) c) (is_none w.writer) _ (λ b left. tt)

  pub tx_turn_says : (d : Doing) → Says s w u me low n script d c
  tx_turn_says Begun k j next =
      at_kind (At Begun) j _ next
      (either_kind (At Begun) (option_map_or (λ v. is_some (rx_turns.is_off vhost 1 v)) (at w.vhosts vhost) false)
      event.Owner event.Notices (λ b. tx_off k) (λ b. tx_begins k))
  tx_turn_says (Transmits file t chains) k j next = at_stage file t chains k t.stage j next
  tx_turn_says (Given file t chains f) k j next =
      at_kind (At (Given file t chains f)) j event.Look next (looks file t chains f)
  tx_turn_says (Teaches file t chains f) k j next =
      at_kind (At (Teaches file t chains f)) j event.Publish next (teaching file t chains f)
  tx_turn_says d k j next = absurd (true≢false (sym k.can))
