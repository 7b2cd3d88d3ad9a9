-- A receive turn under way always goes on.
use Rattle.std.proofs.Common.{◌≡◌, ℕ, ◌+◌, ◌<◌, ◌≤◌, List, [], Bool, true, false, Option, Some, None, refl, sym, ap, ◌∙◌, subst, true≢false, arith}
use Rattle.std.specs.Prelude.{if◌then◌else◌, ◌==◌, ◌&&◌, ◌||◌, is_none, is_some, slice_get, nat_le, length}
use Rattle.std.specs.Option.{option_map_or}
use Rattle.std.specs.List.{AllByRecursion}
use Rattle.guest_mem.specs.Memory.{Contents}
use Rattle.tap_frame.specs.Frame.{FrameValue}
use Rattle.tap_ledger.specs.declared.act.Act.{Act}
use Rattle.tap_ledger.specs.declared.act.Act.TheVariants as act
use Rattle.tap_ledger.specs.declared.fate.Fate.{Fate}
use Rattle.tap_ledger.specs.declared.fate.Fate.TheVariants as fate
use Rattle.tap_ledger.specs.declared.hand.Hand.TheVariants as hand
use Rattle.vhost_queue.specs.Publication.{next_used, published_in, wants_notice, with_published}
use Rattle.vhost_queue.specs.Queue.{Queue}
use Rattle.vring_turns.specs.declared.end.End.{End}
use Rattle.vring_turns.specs.declared.end.End.TheVariants as end
use Rattle.vring_turns.specs.declared.stage.After.{After}
use Rattle.vring_turns.specs.declared.stage.After.TheVariants as after
use Rattle.vring_turns.specs.declared.stage.RxStage.{RxStage}
use Rattle.vring_turns.specs.declared.stage.RxStage.TheVariants as rx
use Rattle.vring_turns.specs.ReceiveImage.{need_of, shares, with_image}
use Rattle.vring_turns.specs.Ring.{Made, Ring, done_in, first_position, found, moved, noticed, room_in, with_all_done}
use Rattle.vring_turns.specs.Stage.{copies_at, has_in_hand, need_at, rx_is_over, rx_is_publishing}
use Rattle.vring_turns.specs.Standing.{HasRxCause, RxStands, RxStandsAt}
use Rattle.vring_turns.specs.Turn.{is_enough, publishes_at}
use Rattle.vring_turns.specs.RxTurn.{RxState, RxTurn, overrun, rx_after_fetch, rx_after_second, rx_fetches, rx_in_hand, rx_made, rx_next, rx_outs, rx_puts_back, rx_ring, rx_step, rx_at, rx_closing, rx_way, rx_with, stage_of}
use Rattle.scen_words.specs.declared.command.Command.{Command}
use Rattle.scen_words.specs.declared.command.Command.TheVariants as command
use Rattle.tap_ground.specs.Options.{◌>>=◌}
use Rattle.tap_world.specs.declared.event.EventKind.TheVariants as event
use Rattle.tap_world.specs.declared.event.Found.TheVariants as found_
use Rattle.tap_world.specs.ByNumber.{at}
use Rattle.tap_world.specs.Setup.{Numbered, Setup}
use Rattle.tap_world.specs.Line.{File, first_that, front_place, has_batch, in_batch}
use Rattle.tap_world.specs.LineSteps.{changed, is_in_hand_of, moves_to, ready_front}
use Rattle.tap_world.specs.LineSteps.Change.{Leaves, PutsBack, Takes}
use Rattle.tap_world.specs.declared.line.Standing.TheVariants.{Out}
use Rattle.tap_world.specs.Guests.{Guest, Vhost}
use Rattle.tap_world.specs.World.{World}
use Rattle.tap_world.specs.World.Doing.{Receives}
use Rattle.tap_world.specs.Effect.{Effect, files_after}
use Rattle.tap_world.specs.Effect.OnFiles.{NoFile, OnFile}
use Rattle.tap_world.specs.Scripts.{hand_next, next_kind, rx_next_kind}
use Rattle.tap_world.specs.SoundActors as so
use Rattle.tap_world.specs.SoundRings.{is_about}
use Rattle.tap_world.specs.StepTurns.{finds_no_frame, found_by, frame_at, front_frame, held_name, kind_of, over_told, rx_change, rx_event, rx_over, rx_state, takes}
use Rattle.tap_world.specs.StepTransmits.{goes_on, on_turn, turns}
use Rattle.tap_world.specs.Steady.{IsReceiving, WasSent}
use Rattle.tap_sound.proofs.Kit.{some_same, then_some}
use Rattle.tap_sound.proofs.Turned.{itself}
use Rattle.tap_waits.proofs.Kit.{and_both, does, is_there}
use Rattle.tap_waits.proofs.NextFacts.{Goes, Here, file_changes, guest_of_vhost, me}
use Rattle.tap_waits.proofs.NextLines.{some_only}
use Rattle.tap_waits.proofs.NextRing.{none_of}
use Rattle.tap_waits.proofs.NextTurns.{fetch_kind, found_kind, rx_event_done}
use Rattle.tap_waits.proofs.NextTakes.{taken_frame, taken_is}

-- ---- ends have words

abbrev IsTold : RxStage → Type 0
IsTold st = is_some (over_told (rx_over st)) ≡ true

end_words : (e : End) (t : RxTurn) (q : Queue) → HasRxCause e t q → is_some (over_told (Some e)) ≡ true
end_words end.Idle t q h = refl
end_words (end.Short need had) t q h = refl
end_words end.Again t q h = refl
end_words (end.Stopped fault) t q h = refl
end_words end.Off t q h = absurd h
end_words end.NoMemory t q h = absurd h

closing_told : (b : Bool) (e : End) → is_some (over_told (Some e)) ≡ true
    → IsTold (if b then rx.Ended e else rx.Publish (Some e))
closing_told true e h = h
closing_told false e h = refl

way_told : (way : After) → IsTold (stage_of way)
way_told after.Fetch = refl
way_told after.Copy = refl
way_told (after.Discard had) = refl
way_told (after.PutBack e) = refl

fetch_told : (way : Option After) → IsTold (rx_after_fetch way)
fetch_told None = refl
fetch_told (Some way) = way_told way

second_told : (need : ℕ) (t : RxTurn) (way : Option After) → IsTold (rx_after_second need t.chains way)
second_told need t None = refl
second_told need t (Some way) = refl

packet_told : (a b c : Bool)
    → IsTold (if a then (if b then rx.Ended end.Again else rx.Publish (Some end.Again)) else
    (if c then rx.Publish None else rx.Hand))
packet_told true b c = closing_told b end.Again refl
packet_told false true true = refl
packet_told false true false = refl
packet_told false false true = refl
packet_told false false false = refl

published_told : (e : Option End) → ((x : End) → e ≡ Some x → is_some (over_told (Some x)) ≡ true)
    → IsTold (elim e [ None ↦ rx.Hand | Some x ↦ rx.Ended x ])
published_told None h = refl
published_told (Some x) h = h x refl

is_le : (a b : ℕ) → a ≤ b → nat_le a b ≡ true
is_le a b e = grind arith

pub not_zero : (a : ℕ) → 0 < a → (a == 0) ≡ false
not_zero a e = grind arith

-- what is done, published
abbrev pub published_made : Ring → Contents → Made
published_made r m = record {
  ring = record r { queue = with_published r.queue };
  memory = published_in r.queue m;
  told = act.Publish (done_in r.queue) (wants_notice r.queue.layout r.queue.used (next_used r.queue)
      (published_in r.queue m));
}

-- a frame, copied
abbrev copied_made : ℕ → FrameValue → Ring → Contents → Made
copied_made size frame r m = record {
  ring = moved (with_all_done (shares r.chains (need_of size frame))) [] r;
  memory = with_image size frame r.chains m;
  told = act.Copy (first_position r) frame.name;
}

module _ (s : Setup) (w : World) (i seen : ℕ) (script : List Numbered) (n vhost file : ℕ) (t : RxTurn)
    (h : Here s w i seen script n (command.RxTurn vhost) (Receives file t)) (r : IsReceiving s w vhost file t)
    (g : Guest) (guest_is : at w.guests r.v.guest ≡ Some g) where
  abbrev pub S : RxState
  S = rx_state t r.v g.memory

  -- the event of a step at a stage
  abbrev pub rx_done : RxStage → Option (RxState × Act) → Option Effect
  rx_done st o = o >>= (λ made. rx_event w i seen vhost file r.v (rx_change vhost file t st)
      (found_by (kind_of vhost 0 made.1) (held_name t.held)) made)

  abbrev pub AtStage : RxStage → Type 0
  AtStage st = does w i n (rx_done st (rx_next st hand.Off S)) ≡ true

  stands : RxStands t r.v.settings.rx.queue
  stands = (h.sound.rings.served vhost r.v r.is_vhost).stands 0 i (me seen script (Receives file t)) h.found
      (refl, ap (λ (o : Option Numbered). is_about vhost 0 o) h.now ∙ ap (λ (b : Bool). b && (0 == 0)) (itself vhost))

  stands_at : (st : RxStage) → t.stage ≡ st → RxStandsAt st t r.v.settings.rx.queue
  stands_at st is = subst (λ (q : RxStage). RxStandsAt q t r.v.settings.rx.queue) is stands.stage

  -- ---- the frame in hand

  frame_held : (st : RxStage) → t.stage ≡ st → has_in_hand st ≡ true → (frame : FrameValue) × (t.held ≡ Some frame)
  frame_held st is e = is_there t.held (r.ready.held ∙ ap (λ (q : RxStage). has_in_hand q) is ∙ e)

  with_hand : (st : RxStage) (frame : FrameValue) → t.stage ≡ st → t.held ≡ Some frame
      → rx_in_hand t.held S ≡ rx_with st frame S
  with_hand st frame is held = ap (λ (o : Option FrameValue). rx_in_hand o S) held
      ∙ ap (λ (q : RxStage). rx_with q frame S) is

  name_held : (frame : FrameValue) → t.held ≡ Some frame → is_some (found_by None (held_name t.held)) ≡ true
  name_held frame held = ap (λ (o : Option FrameValue). is_some (found_by None (held_name o))) held

  in_its_hand : (st : RxStage) → t.stage ≡ st → has_in_hand st ≡ true → is_in_hand_of vhost r.f ≡ true
  in_its_hand st is e = r.in_hand ∙ ap (λ (q : RxStage). has_in_hand q) is ∙ e

  leaves_done : (fate : Fate) (st : RxStage) → t.stage ≡ st → has_in_hand st ≡ true
      → is_some (files_after (OnFile file (Leaves (Some vhost) fate)) w.files) ≡ true
  leaves_done fate st is e =
      let frame = frame_held st is e in
      let front : front_frame s r.f ≡ Some frame.0 = r.front (ap (λ (q : RxStage). has_in_hand q) is ∙ e) ∙ frame.1 in
      let k = then_some (first_that in_batch r.f.line) (λ j. slice_get r.f.line j >>= (λ x. frame_at s x)) frame.0
      front in
      file_changes w file r.f (Leaves (Some vhost) fate) r.is_file
      ∙ ap (λ (b : Bool). is_some
      (if b then moves_to (Out fate) (record r.f { hand = None }) (first_that in_batch r.f.line) else None))
      (in_its_hand st is e)
      ∙ ap (λ (o : Option ℕ). is_some (moves_to (Out fate) (record r.f { hand = None }) o)) k.1

  puts_back_done : (st : RxStage) → t.stage ≡ st → has_in_hand st ≡ true
      → is_some (files_after (OnFile file (PutsBack vhost)) w.files) ≡ true
  puts_back_done st is e =
      file_changes w file r.f (PutsBack vhost) r.is_file
      ∙ some_only (is_in_hand_of vhost r.f) (record r.f { hand = None }) ∙ in_its_hand st is e

  -- ---- each stage

  noticed_done : (on : Bool) (st to : RxStage) → IsTold to → is_some (files_after (rx_change vhost file t st) w.files)
      ≡ true
      → does w i n (rx_done st (Some (rx_made (noticed on (rx_ring S) S.memory) to S))) ≡ true
  noticed_done on st to told files =
      let made : RxState × Act = rx_made (noticed on (rx_ring S) S.memory) to S in
      rx_event_done w i seen n vhost file r.v g guest_is (rx_change vhost file t st)
      (found_by (kind_of vhost 0 made.1) (held_name t.held)) made files refl told

  fetch_done : t.stage ≡ rx.Fetch → AtStage rx.Fetch
  fetch_done is =
      let frame = frame_held rx.Fetch is refl in
      let need = need_of t.header frame.0 in
      let made : RxState × Act = rx_fetches false need S in
      ap (λ (o : Option (RxState × Act)). does w i n (rx_done rx.Fetch o)) (with_hand rx.Fetch frame.0 is frame.1)
      ∙ rx_event_done w i seen n vhost file r.v g guest_is NoFile
      (found_by (kind_of vhost 0 made.1) (held_name t.held)) made refl
      (found_kind (kind_of vhost 0 made.1) (held_name t.held)
      (fetch_kind vhost 0 S.queue.positions.next (found (rx_ring S) S.memory).0)) (fetch_told (rx_way need S))

  again_done : t.stage ≡ rx.FetchAgain → AtStage rx.FetchAgain
  again_done is =
      let frame = frame_held rx.FetchAgain is refl in
      let need = need_of t.header frame.0 in
      let made : RxState × Act = rx_fetches true need S in
      ap (λ (o : Option (RxState × Act)). does w i n (rx_done rx.FetchAgain o))
      (with_hand rx.FetchAgain frame.0 is frame.1)
      ∙ rx_event_done w i seen n vhost file r.v g guest_is NoFile
      (found_by (kind_of vhost 0 made.1) (held_name t.held)) made refl
      (found_kind (kind_of vhost 0 made.1) (held_name t.held)
      (fetch_kind vhost 0 S.queue.positions.next (found (rx_ring S) S.memory).0))
      (second_told need t (rx_way need S))

  copy_done : t.stage ≡ rx.Copy → AtStage rx.Copy
  copy_done is =
      let frame = frame_held rx.Copy is refl in
      let enough : nat_le (need_of t.header frame.0) (room_in t.chains) ≡ true =
      is_le (need_of t.header frame.0) (room_in t.chains)
      (subst (λ (o : Option FrameValue). need_at t.header o ≤ room_in t.chains) frame.1
      (r.ready.enough (ap (λ (q : RxStage). copies_at q) is))) in
      let m : Made = copied_made t.header frame.0 (rx_ring S) S.memory in
      let next : RxState × Act = rx_made m rx.Out S in
      let made : RxState × Act =
      (record next.0 { turn = record next.0.turn { handled = S.turn.handled + length S.turn.chains } }, next.1) in
      ap (λ (o : Option (RxState × Act)). does w i n (rx_done rx.Copy o)) (with_hand rx.Copy frame.0 is frame.1)
      ∙ ap (λ (b : Bool). does w i n (rx_done rx.Copy (elim (if b then Some m else None) [
        | None ↦ None
        | Some x ↦ let k : RxState × Act = rx_made x rx.Out S in Some
            (record k.0 { turn = record k.0.turn { handled = S.turn.handled + length S.turn.chains } }, k.1)
      ]))) enough
      ∙ rx_event_done w i seen n vhost file r.v g guest_is NoFile
      (found_by (kind_of vhost 0 made.1) (held_name t.held)) made refl refl refl

  out_done : t.stage ≡ rx.Out → AtStage rx.Out
  out_done is =
      let frame = frame_held rx.Out is refl in
      let made : RxState × Act = rx_outs (need_of t.header frame.0) frame.0 S in
      ap (λ (o : Option (RxState × Act)). does w i n (rx_done rx.Out o)) (with_hand rx.Out frame.0 is frame.1)
      ∙ rx_event_done w i seen n vhost file r.v g guest_is (OnFile file (Leaves (Some vhost) fate.Guest))
      (found_by None (held_name t.held)) made
      (leaves_done fate.Guest rx.Out is refl) (name_held frame.0 frame.1)
      (packet_told (is_enough (t.packets + 1) (t.bytes + need_of t.header frame.0) t.handled) (done_in S.queue == 0)
      (nat_le publishes_at (done_in S.queue)))

  discard_done : (had : ℕ) → t.stage ≡ rx.Discard had → AtStage (rx.Discard had)
  discard_done had is =
      let frame = frame_held (rx.Discard had) is refl in
      let made : RxState × Act = rx_outs 0 frame.0 S in
      let fate : Fate = overrun t.mergeable (need_at t.header t.held) had in
      ap (λ (o : Option (RxState × Act)). does w i n (rx_done (rx.Discard had) o))
      (with_hand (rx.Discard had) frame.0 is frame.1)
      ∙ rx_event_done w i seen n vhost file r.v g guest_is (OnFile file (Leaves (Some vhost) fate))
      (found_by None (held_name t.held)) made
      (leaves_done fate (rx.Discard had) is refl) (name_held frame.0 frame.1)
      (packet_told (is_enough (t.packets + 1) (t.bytes + 0) t.handled) (done_in S.queue == 0)
      (nat_le publishes_at (done_in S.queue)))

  back_done : (e : End) → t.stage ≡ rx.PutBack e → AtStage (rx.PutBack e)
  back_done e is =
      let frame = frame_held (rx.PutBack e) is refl in
      let made : RxState × Act = rx_puts_back e S in
      let stand : RxStandsAt (rx.PutBack e) t r.v.settings.rx.queue = stands_at (rx.PutBack e) is in
      ap (λ (o : Option (RxState × Act)). does w i n (rx_done (rx.PutBack e) o))
      (with_hand (rx.PutBack e) frame.0 is frame.1)
      ∙ rx_event_done w i seen n vhost file r.v g guest_is (OnFile file (PutsBack vhost))
      (found_by None (held_name t.held)) made
      (puts_back_done (rx.PutBack e) is refl) (name_held frame.0 frame.1)
      (closing_told (done_in S.queue == 0) e (end_words e t r.v.settings.rx.queue stand.1))

  publish_end : (e : Option End) → t.stage ≡ rx.Publish e → (x : End) → e ≡ Some x → is_some (over_told (Some x)) ≡ true
  publish_end e is x same =
      let stand : RxStandsAt (rx.Publish (Some x)) t r.v.settings.rx.queue = stands_at (rx.Publish (Some x))
      (is ∙ ap (λ (q : Option End). rx.Publish q) same) in
      end_words x t r.v.settings.rx.queue stand.1

  publish_done : (e : Option End) → t.stage ≡ rx.Publish e → AtStage (rx.Publish e)
  publish_done e is =
      let some : (done_in S.queue == 0) ≡ false = not_zero (done_in S.queue)
      (r.ready.done (ap (λ (q : RxStage). rx_is_publishing q) is)) in
      let m : Made = published_made (rx_ring S) S.memory in
      let made : RxState × Act = rx_made m (elim e [ None ↦ rx.Hand | Some x ↦ rx.Ended x ]) S in
      ap (λ (b : Bool). does w i n (rx_done (rx.Publish e) (elim (if b then None else Some m) [
        | None ↦ None
        | Some x ↦ Some (rx_made x (elim e [ None ↦ rx.Hand | Some y ↦ rx.Ended y ]) S)
      ]))) some
      ∙ rx_event_done w i seen n vhost file r.v g guest_is NoFile
      (found_by (kind_of vhost 0 made.1) (held_name t.held)) made refl refl (published_told e (publish_end e is))

  -- ---- a frame is asked for

  hand_free : t.stage ≡ rx.Hand → is_none r.f.hand ≡ true
  hand_free is = go r.f.hand refl
    where
      go : (o : Option ℕ) → r.f.hand ≡ o → is_none r.f.hand ≡ true
      go None e = ap (λ o. is_none o) e
      go (Some other) e =
          let same : other ≡ vhost = some_same other vhost (sym (h.sound.hand file r.f r.is_file other e).0
          ∙ r.owner) in
          let yes_ : is_in_hand_of vhost r.f ≡ true =
          ap (λ (o : Option ℕ). option_map_or (λ (v : ℕ). v == vhost) o false) e ∙ ap (λ (k : ℕ). k == vhost) same
          ∙ itself vhost in
          absurd (true≢false (sym yes_ ∙ r.in_hand ∙ ap (λ (q : RxStage). has_in_hand q) is))

  sent : AllByRecursion (WasSent s) r.f.line
  sent = h.steady.sent file r.f r.is_file

  takes_done : t.stage ≡ rx.Hand → (has_batch r.f || is_some (ready_front r.f.line)) ≡ true
      → does w i n (takes s w i seen vhost file t r.v g.memory) ≡ true
  takes_done is ready =
      let taken = taken_is vhost r.f r.owner (hand_free is) ready in
      let frame = taken_frame s vhost r.f sent ready in
      let made : RxState × Act = (record S { turn = record t { held = Some frame.0; stage = rx.Fetch } }, act.Hand) in
      ap (λ (o : Option File). does w i n
      (o >>= (λ f. changed (Takes vhost) f
      >>= (λ x. front_frame s x
      >>= (λ y. rx_step (hand.Got y) S
      >>= (λ z. rx_event w i seen vhost file r.v (OnFile file (Takes vhost)) (Some (found_.Moved y.name)) z))))))
      r.is_file
      ∙ ap (λ (o : Option File). does w i n
      (o >>= (λ x. front_frame s x
      >>= (λ y. rx_step (hand.Got y) S
      >>= (λ z. rx_event w i seen vhost file r.v (OnFile file (Takes vhost)) (Some (found_.Moved y.name)) z)))))
      taken
      ∙ ap (λ (o : Option FrameValue). does w i n
      (o >>= (λ y. rx_step (hand.Got y) S
      >>= (λ z. rx_event w i seen vhost file r.v (OnFile file (Takes vhost)) (Some (found_.Moved y.name)) z))))
      frame.1
      ∙ ap (λ (q : RxStage). does w i n
      (rx_next q (hand.Got frame.0) S
      >>= (λ z. rx_event w i seen vhost file r.v (OnFile file (Takes vhost)) (Some (found_.Moved frame.0.name))
      z))) is
      ∙ rx_event_done w i seen n vhost file r.v g guest_is (OnFile file (Takes vhost))
      (Some (found_.Moved frame.0.name)) made
      (file_changes w file r.f (Takes vhost) r.is_file ∙ ap (λ (o : Option File). is_some o) taken) refl refl

  neither : (a b : Bool) → (a || b) ≡ false → (a ≡ false) × (b ≡ false)
  neither true b e = absurd (true≢false e)
  neither false b e = (refl, e)

  misses_done : t.stage ≡ rx.Hand → (has_batch r.f || is_some (ready_front r.f.line)) ≡ false
      → does w i n (finds_no_frame w i seen vhost file t r.v g.memory) ≡ true
  misses_done is ready =
      let none = neither (has_batch r.f) (is_some (ready_front r.f.line)) ready in
      let place = front_place r.f in
      let made : RxState × Act = (record S { turn = rx_at (rx_closing end.Idle S.queue) t }, act.NotReady) in
      ap (λ (o : Option File). does w i n (o >>= (λ f. rx_step (hand.NotReady (front_place f)) S >>= (λ z.
      if is_none (first_that in_batch f.line) && is_none (ready_front f.line) then rx_event w i seen vhost file r.v
      NoFile (Some (found_.NotReady (front_place f))) z else None)))) r.is_file
      ∙ ap (λ (q : RxStage). does w i n (rx_next q (hand.NotReady place) S >>= (λ z.
      if is_none (first_that in_batch r.f.line) && is_none (ready_front r.f.line) then rx_event w i seen vhost file r.v
      NoFile (Some (found_.NotReady place)) z else None))) is
      ∙ ap (λ (b : Bool). does w i n (if b then rx_event w i seen vhost file r.v NoFile (Some (found_.NotReady place))
      made else None))
      (and_both (is_none (first_that in_batch r.f.line)) (is_none (ready_front r.f.line))
      (none_of (first_that in_batch r.f.line) none.0) (none_of (ready_front r.f.line) none.1))
      ∙ rx_event_done w i seen n vhost file r.v g guest_is NoFile (Some (found_.NotReady place)) made refl refl
      (closing_told (done_in S.queue == 0) end.Idle refl)

  -- ---- rows

  on_its_ring : (e : ℕ → Vhost → Contents → Option Effect) → on_turn w (command.RxTurn vhost) e ≡ e vhost r.v g.memory
  on_its_ring e =
      ap (λ (o : Option Vhost). o >>= (λ v. at w.guests v.guest >>= (λ y. e vhost v y.memory))) r.is_vhost
      ∙ ap (λ (o : Option Guest). o >>= (λ y. e vhost r.v y.memory)) guest_is

  turns_done : (st : RxStage) → t.stage ≡ st → AtStage st
      → does w i n (turns w i n seen (Receives file t) (command.RxTurn vhost)) ≡ true
  turns_done st is e =
      ap (does w i n) (on_its_ring (goes_on w i seen (Receives file t)))
      ∙ ap (λ (q : RxStage). does w i n (rx_done q (rx_next q hand.Off S))) is ∙ e

  hand_next_is : (b : Bool) → t.stage ≡ rx.Hand → (has_batch r.f || is_some (ready_front r.f.line)) ≡ b
      → next_kind w (Receives file t) (command.RxTurn vhost) ≡ Some (if b then event.Hand else event.NotReady)
  hand_next_is b is e =
      ap (λ (q : RxStage). rx_next_kind w file q) is
      ∙ ap (λ (o : Option File). option_map_or (λ f. Some (hand_next f)) o None) r.is_file
      ∙ ap (λ (q : Bool). Some (if q then event.Hand else event.NotReady)) e

  hand_goes : (b : Bool) → t.stage ≡ rx.Hand → (has_batch r.f || is_some (ready_front r.f.line)) ≡ b
      → Goes s w i seen script n (command.RxTurn vhost) (Receives file t)
  hand_goes true is e = record {
    kind = event.Hand;
    is_next = hand_next_is true is e;
    done = ap (does w i n) (on_its_ring (λ vh v m. takes s w i seen vh file t v m)) ∙ takes_done is e;
  }
  hand_goes false is e = record {
    kind = event.NotReady;
    is_next = hand_next_is false is e;
    done = ap (does w i n) (on_its_ring (λ vh v m. finds_no_frame w i seen vh file t v m)) ∙ misses_done is e;
  }

  pub rx_goes : (st : RxStage) → t.stage ≡ st → Goes s w i seen script n (command.RxTurn vhost) (Receives file t)
  rx_goes rx.Begin is = record {
    kind = event.Notices;
    is_next = ap (λ (q : RxStage). rx_next_kind w file q) is;
    done =
        turns_done rx.Begin is (noticed_done false rx.Begin rx.Hand refl refl);
  }
  rx_goes rx.Hand is = hand_goes (has_batch r.f || is_some (ready_front r.f.line)) is refl
  rx_goes rx.Fetch is = record {
    kind = event.Fetch;
    is_next = ap (λ (q : RxStage). rx_next_kind w file q) is;
    done =
        turns_done rx.Fetch is (fetch_done is);
  }
  rx_goes rx.NoticesOn is = record {
    kind = event.Notices;
    is_next = ap (λ (q : RxStage). rx_next_kind w file q) is;
    done = turns_done rx.NoticesOn is (noticed_done true rx.NoticesOn rx.FetchAgain refl refl);
  }
  rx_goes rx.FetchAgain is = record {
    kind = event.Fetch;
    is_next = ap (λ (q : RxStage). rx_next_kind w file q) is;
    done = turns_done rx.FetchAgain is (again_done is);
  }
  rx_goes (rx.NoticesOff way) is = record {
    kind = event.Notices;
    is_next = ap (λ (q : RxStage). rx_next_kind w file q)
        is;
    done = turns_done (rx.NoticesOff way) is
        (noticed_done false (rx.NoticesOff way) (stage_of way) (way_told way) refl);
  }
  rx_goes rx.Copy is = record {
    kind = event.Copy;
    is_next = ap (λ (q : RxStage). rx_next_kind w file q) is;
    done =
        turns_done rx.Copy is (copy_done is);
  }
  rx_goes rx.Out is = record {
    kind = event.Out;
    is_next = ap (λ (q : RxStage). rx_next_kind w file q) is;
    done =
        turns_done rx.Out is (out_done is);
  }
  rx_goes (rx.Discard had) is = record {
    kind = event.Out;
    is_next = ap (λ (q : RxStage). rx_next_kind w file q) is;
    done = turns_done (rx.Discard had) is (discard_done had is);
  }
  rx_goes (rx.PutBack e) is = record {
    kind = event.PutBack;
    is_next = ap (λ (q : RxStage). rx_next_kind w file q) is;
    done = turns_done (rx.PutBack e) is (back_done e is);
  }
  rx_goes (rx.Publish e) is = record {
    kind = event.PublishUsed;
    is_next = ap (λ (q : RxStage). rx_next_kind w file q)
        is;
    done = turns_done (rx.Publish e) is (publish_done e is);
  }
  rx_goes (rx.Ended e) is = absurd (true≢false (ap (λ (q : RxStage). rx_is_over q) (sym is) ∙ r.goes_on))

module _ {s : Setup} {w : World} {i seen : ℕ} {script : List Numbered} {n : ℕ} where
  pub receives_goes : (c : Command) (file : ℕ) (t : RxTurn) → Here s w i seen script n c (Receives file t)
      → so.is_rx_turn c ≡ true → Goes s w i seen script n c (Receives file t)
  receives_goes (command.RxTurn vhost) file t h e =
      let r : IsReceiving s w vhost file t = h.steady.turns i (me seen script (Receives file t)) h.found
      (record { number = n; command = command.RxTurn vhost }) h.now in
      let g = guest_of_vhost h vhost r.v r.is_vhost in
      rx_goes s w i seen script n vhost file t h r g.0 g.1 t.stage refl
  receives_goes c file t h e = absurd (true≢false (sym e))
