-- A transmit turn under way always goes on.
use Rattle.std.proofs.Common.{◌≡◌, ℕ, List, [], ◌∷◌, Bool, true, false, Option, Some, None, refl, sym, ap, ◌∙◌, subst, true≢false, arith}
use Rattle.std.specs.Prelude.{if◌then◌else◌, ◌==◌, ◌&&◌, is_some, nat_le, IfSome}
use Rattle.guest_mem.specs.Memory.{Contents}
use Rattle.tap_frame.specs.declared.reading.BadFrame.{BadFrame}
use Rattle.tap_frame.specs.Frame.{FrameValue}
use Rattle.tap_ledger.specs.declared.act.Act.{Act}
use Rattle.tap_trace.specs.declared.turn.ChainText.{ChainText}
use Rattle.vhost_queue.specs.Queue.{Queue}
use Rattle.vring_split.specs.declared.fault.RingFault.{RingFault}
use Rattle.vring_walk.specs.declared.walk.Fetched.{Fetched}
use Rattle.vring_walk.specs.declared.walk.Fetched.TheVariants as fetched
use Rattle.vring_turns.specs.declared.end.End.{End}
use Rattle.vring_turns.specs.declared.end.End.TheVariants as end
use Rattle.vring_turns.specs.declared.stage.TxStage.{TxStage}
use Rattle.vring_turns.specs.declared.stage.TxStage.TheVariants as tx
use Rattle.vring_turns.specs.Ready.{TransmitTurnsGoOn}
use Rattle.vring_turns.specs.Ring.{Gathered, Made, done_in, fetches, first_position, found, noticed}
use Rattle.vring_turns.specs.Stage.{is_giving, tx_is_over, tx_is_publishing}
use Rattle.vring_turns.specs.Standing.{HasTxCause, TxStands, TxStandsAt}
use Rattle.vring_turns.specs.TransmitBytes.{bytes_of_chain, refusal_of}
use Rattle.vring_turns.specs.Turn.{is_enough, publishes_at}
use Rattle.vring_turns.specs.TxTurn.{TxState, TxTurn, tx_after_fetch, tx_after_notices, tx_after_second, tx_copies, tx_done, tx_judged, tx_made, tx_next, tx_ring, tx_step}
use Rattle.scen_words.specs.declared.command.Command.{Command}
use Rattle.scen_words.specs.declared.command.Command.TheVariants as command
use Rattle.tap_ground.specs.Options.{◌>>=◌}
use Rattle.tap_world.specs.declared.event.EventKind.TheVariants as event
use Rattle.tap_world.specs.declared.event.Found.TheVariants as found_
use Rattle.tap_world.specs.ByNumber.{at}
use Rattle.tap_world.specs.Setup.{Numbered, Setup}
use Rattle.tap_world.specs.Guests.{Guest, Vhost}
use Rattle.tap_world.specs.World.{World, name_of}
use Rattle.tap_world.specs.World.Doing.{Given, Transmits}
use Rattle.tap_world.specs.Effect.{Effect, only}
use Rattle.tap_world.specs.Effect.Onward.{Goes as GoesOn}
use Rattle.tap_world.specs.Scripts.{tx_next_kind}
use Rattle.tap_world.specs.SoundActors as so
use Rattle.tap_world.specs.SoundRings.{is_about}
use Rattle.tap_world.specs.StepTurns.{over_told}
use Rattle.tap_world.specs.StepTransmits.{gives, goes_on, on_turn, turns, tx_event, tx_over, tx_state, with_host}
use Rattle.tap_world.specs.Steady.{IsSending}
use Rattle.tap_sound.proofs.Turned.{itself}
use Rattle.tap_waits.proofs.Kit.{does}
use Rattle.tap_waits.proofs.NextFacts.{Goes, Here, guest_of_vhost, me}
use Rattle.tap_waits.proofs.NextTurns.{fetch_kind, tx_event_done}
use Rattle.tap_waits.proofs.NextReceives.{not_zero, published_made}

-- ---- ends have words

abbrev IsTold : TxStage → Type 0
IsTold st = is_some (over_told (tx_over st)) ≡ true

end_words : (e : End) (t : TxTurn) (q : Queue) → HasTxCause e t q → is_some (over_told (Some e)) ≡ true
end_words end.Idle t q h = refl
end_words (end.Short need had) t q h = absurd h
end_words end.Again t q h = refl
end_words (end.Stopped fault) t q h = refl
end_words end.Off t q h = absurd h
end_words end.NoMemory t q h = absurd h

closing_told : (b : Bool) (e : End) → is_some (over_told (Some e)) ≡ true
    → IsTold (if b then tx.Ended e else tx.Publish (Some e))
closing_told true e h = h
closing_told false e h = refl

packet_told : (a b c : Bool)
    → IsTold (if a then (if b then tx.Ended end.Again else tx.Publish (Some end.Again)) else
    (if c then tx.Publish None else tx.Fetch))
packet_told true b c = closing_told b end.Again refl
packet_told false true true = refl
packet_told false true false = refl
packet_told false false true = refl
packet_told false false false = refl

fetch_told : (q : Queue) (x : Fetched) → IfSome (tx_after_fetch q x) IsTold
fetch_told q (fetched.Chain head) = refl
fetch_told q fetched.Nothing = refl
fetch_told q (fetched.Bad fault) = closing_told (done_in q == 0) (end.Stopped fault) refl
fetch_told q fetched.Crowded = tt

second_told : (q : Queue) (x : Fetched) → IfSome (tx_after_second q x) IsTold
second_told q (fetched.Chain head) = refl
second_told q fetched.Nothing = closing_told (done_in q == 0) end.Idle refl
second_told q (fetched.Bad fault) = refl
second_told q fetched.Crowded = tt

notices_told : (q : Queue) (fault : Option RingFault) → IsTold (tx_after_notices q fault)
notices_told q None = refl
notices_told q (Some fault) = closing_told (done_in q == 0) (end.Stopped fault) refl

published_told : (e : Option End) → ((x : End) → e ≡ Some x → is_some (over_told (Some x)) ≡ true)
    → IsTold (elim e [ None ↦ tx.Fetch | Some x ↦ tx.Ended x ])
published_told None h = refl
published_told (Some x) h = h x refl

module _ (law : TransmitTurnsGoOn) (s : Setup) (w : World) (i seen : ℕ) (script : List Numbered) (n vhost file : ℕ)
    (t : TxTurn) (chains : List ChainText)
    (h : Here s w i seen script n (command.TxTurn vhost) (Transmits file t chains))
    (r : IsSending w vhost file t (name_of i n)) (g : Guest) (guest_is : at w.guests r.v.guest ≡ Some g) where
  abbrev pub S : TxState
  S = tx_state t r.v g.memory

  abbrev pub tx_done_by : Option (TxState × Act) → Option Effect
  tx_done_by o = o >>= (λ made. tx_event w i seen vhost file chains r.v made)

  abbrev pub AtStage : TxStage → Type 0
  AtStage st = does w i n (tx_done_by (tx_next st S)) ≡ true

  stands : TxStands t r.v.settings.tx.queue
  stands = (h.sound.rings.served vhost r.v r.is_vhost).stands 1 i (me seen script (Transmits file t chains)) h.found
      (refl, ap (λ (o : Option Numbered). is_about vhost 1 o) h.now ∙ ap (λ (b : Bool). b && (1 == 1)) (itself vhost))

  stands_at : (st : TxStage) → t.stage ≡ st → TxStandsAt st t r.v.settings.tx.queue
  stands_at st is = subst (λ (q : TxStage). TxStandsAt q t r.v.settings.tx.queue) is stands.stage

  -- there is a next step
  steps : (st : TxStage) → t.stage ≡ st → is_some (tx_next st S) ≡ true
  steps st is = ap (λ (q : TxStage). is_some (tx_next q S)) (sym is)
      ∙ law S stands r.ready r.goes_on (λ e. omega (arith))

  -- ---- each stage

  noticed_done : (on : Bool) (to : TxStage) → IsTold to
      → does w i n (tx_done_by (Some (tx_made (noticed on (tx_ring S) S.memory) to S))) ≡ true
  noticed_done on to told = tx_event_done w i seen n vhost file r.v g guest_is chains
      (tx_made (noticed on (tx_ring S) S.memory) to S) refl told

  abbrev pub fetched_to : Option TxStage → Option (TxState × Act)
  fetched_to o = elim o [ None ↦ None | Some to ↦ Some (tx_made (fetches (tx_ring S) S.memory) to S) ]

  fetched_done : (o : Option TxStage) → is_some (fetched_to o) ≡ true → IfSome o IsTold
      → does w i n (tx_done_by (fetched_to o)) ≡ true
  fetched_done None some told = absurd (true≢false (sym some))
  fetched_done (Some to) some told =
      tx_event_done w i seen n vhost file r.v g guest_is chains (tx_made (fetches (tx_ring S) S.memory) to S)
      (fetch_kind vhost 1 S.queue.positions.next (found (tx_ring S) S.memory).0) told

  fetch_done : t.stage ≡ tx.Fetch → AtStage tx.Fetch
  fetch_done is = fetched_done (tx_after_fetch S.queue (found (tx_ring S) S.memory).0) (steps tx.Fetch is)
      (fetch_told S.queue (found (tx_ring S) S.memory).0)

  again_done : t.stage ≡ tx.FetchAgain → AtStage tx.FetchAgain
  again_done is = fetched_done (tx_after_second S.queue (found (tx_ring S) S.memory).0) (steps tx.FetchAgain is)
      (second_told S.queue (found (tx_ring S) S.memory).0)

  judged_done : (position : ℕ) (bytes : List ℕ) (o : Option BadFrame) (x : TxState)
      → does w i n (tx_done_by (Some (tx_judged position bytes o x))) ≡ true
  judged_done position bytes (Some bad) x =
      tx_event_done w i seen n vhost file r.v g guest_is chains (tx_judged position bytes (Some bad) x) refl
      (packet_told (is_enough x.turn.packets x.turn.bytes x.turn.packets) (done_in x.queue == 0)
      (nat_le publishes_at (done_in x.queue)))
  judged_done position bytes None x = tx_event_done w i seen n vhost file r.v g guest_is chains
      (tx_judged position bytes None x) refl refl

  copies_done : (cs : List Gathered) → is_some (tx_copies cs S) ≡ true → does w i n (tx_done_by (tx_copies cs S)) ≡ true
  copies_done [] e = absurd (true≢false (sym e))
  copies_done (c ∷ cs) e = judged_done (first_position (tx_ring S)) (bytes_of_chain t.header S.memory c)
      (refusal_of t.header (bytes_of_chain t.header S.memory c)) (tx_done c S)

  publish_end : (e : Option End) → t.stage ≡ tx.Publish e → (x : End) → e ≡ Some x → is_some (over_told (Some x)) ≡ true
  publish_end e is x same =
      let stand : TxStandsAt (tx.Publish (Some x)) t r.v.settings.tx.queue = stands_at (tx.Publish (Some x))
      (is ∙ ap (λ (q : Option End). tx.Publish q) same) in
      end_words x t r.v.settings.tx.queue stand.1

  publish_done : (e : Option End) → t.stage ≡ tx.Publish e → AtStage (tx.Publish e)
  publish_done e is =
      let some : (done_in S.queue == 0) ≡ false = not_zero (done_in S.queue)
      (r.ready.done (ap (λ (q : TxStage). tx_is_publishing q) is)) in
      let m : Made = published_made (tx_ring S) S.memory in
      let made : TxState × Act = tx_made m (elim e [ None ↦ tx.Fetch | Some x ↦ tx.Ended x ]) S in
      ap (λ (b : Bool). does w i n (tx_done_by (elim (if b then None else Some m) [
        | None ↦ None
        | Some x ↦ Some (tx_made x (elim e [ None ↦ tx.Fetch | Some y ↦ tx.Ended y ]) S)
      ]))) some
      ∙ tx_event_done w i seen n vhost file r.v g guest_is chains made refl (published_told e (publish_end e is))

  -- ---- rows

  on_its_ring : (e : ℕ → Vhost → Contents → Option Effect) → on_turn w (command.TxTurn vhost) e ≡ e vhost r.v g.memory
  on_its_ring e =
      ap (λ (o : Option Vhost). o >>= (λ v. at w.guests v.guest >>= (λ y. e vhost v y.memory))) r.is_vhost
      ∙ ap (λ (o : Option Guest). o >>= (λ y. e vhost r.v y.memory)) guest_is

  turns_done : (st : TxStage) → t.stage ≡ st → AtStage st
      → does w i n (turns w i n seen (Transmits file t chains) (command.TxTurn vhost)) ≡ true
  turns_done st is e =
      ap (does w i n) (on_its_ring (goes_on w i seen (Transmits file t chains)))
      ∙ ap (λ (q : TxStage). does w i n (tx_done_by (tx_next q S))) is ∙ e

  -- what is given
  given_done : (o : Option FrameValue) (p : Option (TxState × Act)) → is_some o ≡ true → is_some p ≡ true
      → does w i n (o >>= (λ f. p
      >>= (λ made. Some (record (only
      (GoesOn seen (Given file made.0.turn chains (with_host f)) (found_.Moved f.name)) w) {
        hosts = f.name
            ∷ [];
      })))) ≡ true
  given_done None p e f = absurd (true≢false (sym e))
  given_done (Some x) None e f = absurd (true≢false (sym f))
  given_done (Some x) (Some made) e f = refl

  pub tx_goes : (st : TxStage) → t.stage ≡ st → Goes s w i seen script n (command.TxTurn vhost)
      (Transmits file t chains)
  tx_goes tx.Begin is = record {
    kind = event.Notices;
    is_next = ap (λ (q : TxStage). tx_next_kind q) is;
    done =
        turns_done tx.Begin is (noticed_done false tx.Fetch refl);
  }
  tx_goes tx.Fetch is = record {
    kind = event.Fetch;
    is_next = ap (λ (q : TxStage). tx_next_kind q) is;
    done =
        turns_done tx.Fetch is (fetch_done is);
  }
  tx_goes tx.NoticesOn is = record {
    kind = event.Notices;
    is_next = ap (λ (q : TxStage). tx_next_kind q) is;
    done =
        turns_done tx.NoticesOn is (noticed_done true tx.FetchAgain refl);
  }
  tx_goes tx.FetchAgain is = record {
    kind = event.Fetch;
    is_next = ap (λ (q : TxStage). tx_next_kind q) is;
    done =
        turns_done tx.FetchAgain is (again_done is);
  }
  tx_goes (tx.NoticesOff fault) is = record {
    kind = event.Notices;
    is_next = ap (λ (q : TxStage). tx_next_kind q) is;
    done = turns_done (tx.NoticesOff fault) is
        (noticed_done false (tx_after_notices S.queue fault) (notices_told S.queue fault));
  }
  tx_goes tx.Copy is = record {
    kind = event.Copy;
    is_next = ap (λ (q : TxStage). tx_next_kind q) is;
    done = turns_done
        tx.Copy is (copies_done t.chains (steps tx.Copy is));
  }
  tx_goes tx.Give is = record {
    kind = event.HostIn;
    is_next = ap (λ (q : TxStage). tx_next_kind q) is;
    done =
        ap (does w i n) (on_its_ring (λ vh v m. gives w seen file t chains v m))
        ∙ given_done t.held (tx_step S) (r.ready.held ∙ ap (λ (q : TxStage). is_giving q) is)
        (law S stands r.ready r.goes_on (λ e. omega (arith)));
  }
  tx_goes (tx.Publish e) is = record {
    kind = event.PublishUsed;
    is_next = ap (λ (q : TxStage). tx_next_kind q) is;
    done = turns_done (tx.Publish e) is (publish_done e is);
  }
  tx_goes (tx.Ended e) is = absurd (true≢false (ap (λ (q : TxStage). tx_is_over q) (sym is) ∙ r.goes_on))

module _ (law : TransmitTurnsGoOn) {s : Setup} {w : World} {i seen : ℕ} {script : List Numbered} {n : ℕ} where
  pub transmits_goes : (c : Command) (file : ℕ) (t : TxTurn) (chains : List ChainText)
      → Here s w i seen script n c (Transmits file t chains) → so.is_tx_turn c ≡ true
      → Goes s w i seen script n c (Transmits file t chains)
  transmits_goes (command.TxTurn vhost) file t chains h e =
      let r : IsSending w vhost file t (name_of i n) = h.steady.turns i (me seen script (Transmits file t chains))
      h.found (record { number = n; command = command.TxTurn vhost }) h.now in
      let g = guest_of_vhost h vhost r.v r.is_vhost in
      tx_goes law s w i seen script n vhost file t chains h r g.0 g.1 t.stage refl
  transmits_goes c file t chains h e = absurd (true≢false (sym e))
