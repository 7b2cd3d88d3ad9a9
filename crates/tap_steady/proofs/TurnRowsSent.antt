-- What the events of transmit turns are.
use Rattle.std.proofs.Common.{◌≡◌, ◌⊎◌, ℕ, List, [], Bool, true, false, true≢false, Option, Some, None, inl, inr, refl, sym}
use Rattle.std.specs.Prelude.{if◌then◌else◌, ◌&&◌, is_none}
use Rattle.tap_ledger.specs.declared.act.Act.{Act}
use Rattle.tap_steer.specs.Select.{learns}
use Rattle.vhost_dev.specs.Settings.{hdr_of}
use Rattle.vring_turns.specs.declared.stage.TxStage.{TxStage}
use Rattle.vring_turns.specs.declared.stage.TxStage.TheVariants as tx
use Rattle.vring_turns.specs.TxTurn.{TxState, TxTurn, tx_begun, tx_step}
use Rattle.scen_words.specs.declared.command.Command.TheVariants as command
use Rattle.tap_trace.specs.declared.kind.Kind.{Kind}
use Rattle.tap_trace.specs.declared.turn.ChainText.{ChainText}
use Rattle.tap_trace.specs.declared.turn.TurnText.{TurnText}
use Rattle.tap_world.specs.declared.event.EventKind.{EventKind}
use Rattle.tap_world.specs.declared.event.EventKind.TheVariants as event
use Rattle.tap_world.specs.declared.event.Found.{Found}
use Rattle.tap_world.specs.declared.event.Found.TheVariants as found
use Rattle.tap_world.specs.ByNumber.{at}
use Rattle.tap_world.specs.Setup.{Numbered, Setup}
use Rattle.tap_world.specs.Guests.{Guest, Vhost, is_free}
use Rattle.tap_world.specs.World.{Doing, HostFrame, World, name_of, newest, table}
use Rattle.tap_world.specs.World.Doing.{Begun, Given, Teaches, Transmits}
use Rattle.tap_world.specs.Effect.{Effect, only}
use Rattle.tap_world.specs.Effect.OnVhosts.{NoVhost}
use Rattle.tap_world.specs.Effect.Onward.{Goes}
use Rattle.tap_world.specs.Scripts.{is_kind, next_kind, tx_next_kind}
use Rattle.tap_world.specs.Step.{row}
use Rattle.tap_world.specs.StepTurns as rx_turns
use Rattle.tap_world.specs.StepTransmits as tx_turns
use Rattle.tap_world.specs.SoundActors.{can_be}
use Rattle.tap_sound.proofs.Kit.{WhereSome, where_if, where_only, where_then}
use Rattle.tap_sound.proofs.Steps.{held, tx_made}
use Rattle.tap_sound.proofs.Taken.{both}
use Rattle.tap_steady.proofs.TurnRows.{IsEnd, ends_off}

-- the file and the turn of a command whose frame is with the host, and of one that sends on or is to learn
abbrev pub given_in : Doing → Option (ℕ × TxTurn)
given_in (Given file t told f) = Some (file, t)
given_in (Teaches file t told f) = Some (file, t)
given_in d = None

abbrev pub sending_in : Doing → Option (ℕ × TxTurn)
sending_in (Transmits file t told) = Some (file, t)
sending_in (Teaches file t told f) = Some (file, t)
sending_in d = None

-- a turn is under way, or begins under its command's name
abbrev pub TxFrom : ℕ → ℕ → Doing → ℕ → TxTurn → List ChainText → Vhost → Type 0
TxFrom me n d file t told v =
    (d ≡ Transmits file t told)
    ⊎ ((d ≡ Begun) × (v.settings.tx.file ≡ Some file) × (is_free 1 v ≡ true) × (t ≡ tx_begun (hdr_of v.settings) (name_of me n)))

-- an event of a transmit turn: it ends at once; a step; it gives its frame; or it looks at the flow, or learns it
pub data TxEvent (s : Setup) (w : World) (me n seen vhost : ℕ) (d : Doing) (r : Effect) : Type 0 where
  TxOver : IsEnd r.onward → TxEvent s w me n seen vhost d r
  TxWent : (file : ℕ) (t : TxTurn) (told : List ChainText) (v : Vhost) (g : Guest) (made : TxState × Act) (step : Kind) (over : Option TurnText)
      → at w.vhosts vhost ≡ Some v → at w.guests v.guest ≡ Some g → TxFrom me n d file t told v
      → tx_step (tx_turns.tx_state t v g.memory) ≡ Some made → rx_turns.over_told (tx_turns.tx_over made.0.turn.stage) ≡ Some over
      → tx_turns.tx_effect w me seen vhost file told v step over made ≡ r → TxEvent s w me n seen vhost d r
  Gave : (file : ℕ) (t : TxTurn) (told : List ChainText) (v : Vhost) (g : Guest) (made : TxState × Act) (frame : HostFrame) (f : Found)
      → at w.vhosts vhost ≡ Some v → at w.guests v.guest ≡ Some g → d ≡ Transmits file t told → t.stage ≡ tx.Give
      → tx_step (tx_turns.tx_state t v g.memory) ≡ Some made → r.vhosts ≡ NoVhost
      → r.onward ≡ Goes seen (Given file made.0.turn told frame) f → TxEvent s w me n seen vhost d r
  Rested : (file : ℕ) (t : TxTurn) (e : Doing) (m : ℕ) (f : Found) → given_in d ≡ Some (file, t) → sending_in e ≡ Some (file, t)
      → r.vhosts ≡ NoVhost → r.onward ≡ Goes m e f → TxEvent s w me n seen vhost d r

give_stage : (st : TxStage) → is_kind event.HostIn (tx_next_kind st) ≡ true → st ≡ tx.Give
give_stage tx.Give e = refl
give_stage tx.Begin e = absurd (true≢false (sym e))
give_stage tx.Fetch e = absurd (true≢false (sym e))
give_stage tx.NoticesOn e = absurd (true≢false (sym e))
give_stage tx.FetchAgain e = absurd (true≢false (sym e))
give_stage (tx.NoticesOff fault) e = absurd (true≢false (sym e))
give_stage tx.Copy e = absurd (true≢false (sym e))
give_stage (tx.Publish end) e = absurd (true≢false (sym e))
give_stage (tx.Ended end) e = absurd (true≢false (sym e))

module _ (s : Setup) (w : World) (me n seen vhost : ℕ) (d : Doing) where
  tx_steps : (file : ℕ) (t : TxTurn) (told : List ChainText) (v : Vhost) (g : Guest) → at w.vhosts vhost ≡ Some v → at w.guests v.guest ≡ Some g
      → TxFrom me n d file t told v → WhereSome (TxEvent s w me n seen vhost d) (tx_turns.tx_steps_on w me seen vhost file t told v g.memory)
  tx_steps file t told v g a b way = let P = TxEvent s w me n seen vhost d in
      where_then P (tx_step (tx_turns.tx_state t v g.memory)) _
      (λ made e. tx_made P w me seen vhost file told v made
      (λ step over e2 end_. TxWent file t told v g made step over a b way e end_ refl))

  tx_begins : d ≡ Begun → WhereSome (TxEvent s w me n seen vhost d) (tx_turns.turn_begins w me n seen (command.TxTurn vhost))
  tx_begins is = let P = TxEvent s w me n seen vhost d in
      where_then P (at w.vhosts vhost) _ (λ v e2. where_then P (at w.guests v.guest) _
      (λ g e3. where_then P v.settings.tx.file _ (λ file e4. where_if P (is_free 1 v && is_none v.settings.tx.queue.stopped)
      (tx_turns.tx_steps_on w me seen vhost file (tx_begun (hdr_of v.settings) (name_of me n)) [] v g.memory)
      (λ x. tx_steps file (tx_begun (hdr_of v.settings) (name_of me n)) [] v g e2 e3 (inr (is, e4, (both _ _ x).0, refl))))))

  tx_going : (file : ℕ) (t : TxTurn) (told : List ChainText) → d ≡ Transmits file t told
      → WhereSome (TxEvent s w me n seen vhost d) (tx_turns.on_turn w (command.TxTurn vhost) (tx_turns.goes_on w me seen (Transmits file t told)))
  tx_going file t told is = let P = TxEvent s w me n seen vhost d in
      where_then P (at w.vhosts vhost) _ (λ v e2. where_then P (at w.guests v.guest) _ (λ g e3. tx_steps file t told v g e2 e3 (inl is)))

  gives : (file : ℕ) (t : TxTurn) (told : List ChainText) → d ≡ Transmits file t told → t.stage ≡ tx.Give
      → WhereSome (TxEvent s w me n seen vhost d) (tx_turns.hosts_of_turn w seen (Transmits file t told) (command.TxTurn vhost))
  gives file t told is stage = let P = TxEvent s w me n seen vhost d in
      where_then P (at w.vhosts vhost) _ (λ v a. where_then P (at w.guests v.guest) _ (λ g b. where_then P t.held _
      (λ f e1. where_then P (tx_step (tx_turns.tx_state t v g.memory)) _
      (λ made e2. Gave file t told v g made (tx_turns.with_host f) _ a b is stage e2 refl refl))))

  over_tx : (o : Option Effect) → WhereSome (λ r. IsEnd r.onward) o → WhereSome (TxEvent s w me n seen vhost d) o
  over_tx None h = tt
  over_tx (Some r) h = TxOver h

tx_begun_row : (s : Setup) (w : World) (k : EventKind) (me seen : ℕ) (script : List Numbered) (n vhost : ℕ)
    → WhereSome (TxEvent s w me n seen vhost Begun) (row s w k me (record { seen = seen; script = script; doing = Begun }) n (command.TxTurn vhost))
tx_begun_row s w event.Notices me seen script n vhost = tx_begins s w me n seen vhost Begun refl
tx_begun_row s w event.Fetch me seen script n vhost = tx_begins s w me n seen vhost Begun refl
tx_begun_row s w event.Copy me seen script n vhost = tx_begins s w me n seen vhost Begun refl
tx_begun_row s w event.PublishUsed me seen script n vhost = tx_begins s w me n seen vhost Begun refl
tx_begun_row s w event.PutBack me seen script n vhost = tx_begins s w me n seen vhost Begun refl
tx_begun_row s w event.Out me seen script n vhost = tx_begins s w me n seen vhost Begun refl
tx_begun_row s w event.Owner me seen script n vhost =
    over_tx s w me n seen vhost Begun _ (ends_off w seen (command.TxTurn vhost))
tx_begun_row s w event.Shut me seen script n vhost = held (TxEvent s w me n seen vhost Begun) w me None tt
tx_begun_row s w event.Reopen me seen script n vhost = held (TxEvent s w me n seen vhost Begun) w me None tt
tx_begun_row s w event.Resize me seen script n vhost = held (TxEvent s w me n seen vhost Begun) w me None tt
tx_begun_row s w event.Cut me seen script n vhost = held (TxEvent s w me n seen vhost Begun) w me None tt
tx_begun_row s w k me seen script n vhost = tt

tx_on_row : (s : Setup) (w : World) (k : EventKind) (me seen : ℕ) (script : List Numbered) (n vhost file : ℕ) (t : TxTurn) (told : List ChainText)
    → is_kind k (tx_next_kind t.stage) ≡ true
    → WhereSome (TxEvent s w me n seen vhost (Transmits file t told))
    (row s w k me (record { seen = seen; script = script; doing = Transmits file t told }) n (command.TxTurn vhost))
tx_on_row s w event.Notices me seen script n vhost file t told e = tx_going s w me n seen vhost (Transmits file t told) file t told refl
tx_on_row s w event.Fetch me seen script n vhost file t told e = tx_going s w me n seen vhost (Transmits file t told) file t told refl
tx_on_row s w event.Copy me seen script n vhost file t told e = tx_going s w me n seen vhost (Transmits file t told) file t told refl
tx_on_row s w event.PublishUsed me seen script n vhost file t told e = tx_going s w me n seen vhost (Transmits file t told) file t told refl
tx_on_row s w event.PutBack me seen script n vhost file t told e = tx_going s w me n seen vhost (Transmits file t told) file t told refl
tx_on_row s w event.Out me seen script n vhost file t told e = tx_going s w me n seen vhost (Transmits file t told) file t told refl
tx_on_row s w event.HostIn me seen script n vhost file t told e =
    gives s w me n seen vhost (Transmits file t told) file t told refl (give_stage t.stage e)
tx_on_row s w event.Shut me seen script n vhost file t told e = held (TxEvent s w me n seen vhost (Transmits file t told)) w me None tt
tx_on_row s w event.Reopen me seen script n vhost file t told e = held (TxEvent s w me n seen vhost (Transmits file t told)) w me None tt
tx_on_row s w event.Resize me seen script n vhost file t told e = held (TxEvent s w me n seen vhost (Transmits file t told)) w me None tt
tx_on_row s w event.Cut me seen script n vhost file t told e = held (TxEvent s w me n seen vhost (Transmits file t told)) w me None tt
tx_on_row s w k me seen script n vhost file t told e = tt

tx_given_row : (s : Setup) (w : World) (k : EventKind) (me seen : ℕ) (script : List Numbered) (n vhost file : ℕ) (t : TxTurn) (told : List ChainText) (f : HostFrame)
    → is_kind k (Some event.Look) ≡ true
    → WhereSome (TxEvent s w me n seen vhost (Given file t told f))
    (row s w k me (record { seen = seen; script = script; doing = Given file t told f }) n (command.TxTurn vhost))
tx_given_row s w event.Look me seen script n vhost file t told f e = go (learns (table s w) file)
  where
    go : (b : Bool) → TxEvent s w me n seen vhost (Given file t told f)
        (only (Goes (newest w) (if b then Teaches file t told f else Transmits file t told) (found.Version (newest w))) w)
    go true = Rested file t (Teaches file t told f) (newest w) (found.Version (newest w)) refl refl refl refl
    go false = Rested file t (Transmits file t told) (newest w) (found.Version (newest w)) refl refl refl refl
tx_given_row s w k me seen script n vhost file t told f e = absurd (true≢false (sym e))

tx_taught_row : (s : Setup) (w : World) (k : EventKind) (me seen : ℕ) (script : List Numbered) (n vhost file : ℕ) (t : TxTurn) (told : List ChainText) (f : HostFrame)
    → is_kind k (Some event.Publish) ≡ true
    → WhereSome (TxEvent s w me n seen vhost (Teaches file t told f))
    (row s w k me (record { seen = seen; script = script; doing = Teaches file t told f }) n (command.TxTurn vhost))
tx_taught_row s w event.Publish me seen script n vhost file t told f e =
    where_only (TxEvent s w me n seen vhost (Teaches file t told f)) (is_none w.writer) _
    (λ b. Rested file t (Transmits file t told) _ _ refl refl refl refl)
tx_taught_row s w k me seen script n vhost file t told f e = absurd (true≢false (sym e))

pub tx_row : (s : Setup) (w : World) (k : EventKind) (me seen : ℕ) (script : List Numbered) (n vhost : ℕ) (d : Doing) → can_be d (command.TxTurn vhost) ≡ true
    → is_kind k (next_kind w d (command.TxTurn vhost)) ≡ true
    → WhereSome (TxEvent s w me n seen vhost d) (row s w k me (record { seen = seen; script = script; doing = d }) n (command.TxTurn vhost))
tx_row s w k me seen script n vhost Begun can e = tx_begun_row s w k me seen script n vhost
tx_row s w k me seen script n vhost (Transmits file t told) can e = tx_on_row s w k me seen script n vhost file t told e
tx_row s w k me seen script n vhost (Given file t told f) can e = tx_given_row s w k me seen script n vhost file t told f e
tx_row s w k me seen script n vhost (Teaches file t told f) can e = tx_taught_row s w k me seen script n vhost file t told f e
tx_row s w k me seen script n vhost d can e = absurd (true≢false (sym can))
