-- This project's own: what every row says of the operation that it publishes, and of how its command goes on.
use Rattle.std.proofs.Common.{◌≡◌, ℕ, ◌+◌, List, [], Bool, true, false, Option, Some, None, inl, inr, refl, sym, ap, ◌∙◌}
use Rattle.std.specs.Prelude.{◌==◌, ◌&&◌, if◌then◌else◌, is_none, slice_get}
use Rattle.guest_mem.specs.Memory.{Contents}
use Rattle.tap_ledger.specs.declared.act.Act.{Act}
use Rattle.tap_ledger.specs.declared.fate.Cause.{Cause}
use Rattle.tap_ledger.specs.declared.error.TapErr.{TapErr}
use Rattle.tap_ledger.specs.declared.hand.Hand.TheVariants as hand
use Rattle.tap_ledger.specs.declared.side.Side.TheVariants.{Rx, Tx}
use Rattle.tap_steer.specs.Select as steer
use Rattle.vring_turns.specs.RxTurn.{RxState, RxTurn, rx_begun, rx_step}
use Rattle.vring_turns.specs.TxTurn.{TxTurn, tx_begun, tx_step}
use Rattle.vhost_dev.specs.Settings.{hdr_of, ring_at}
use Rattle.scen_words.specs.declared.command.Command.{Command}
use Rattle.scen_words.specs.declared.command.Command.TheVariants as command
use Rattle.tap_trace.specs.declared.answer.Answer.{Answer}
use Rattle.tap_trace.specs.declared.answer.Answer.TheVariants as answer
use Rattle.tap_trace.specs.declared.turn.ChainText.{ChainText}
use Rattle.tap_trace.specs.declared.turn.TurnText.{TurnText}
use Rattle.tap_world.specs.declared.event.EventKind.{EventKind}
use Rattle.tap_world.specs.declared.event.EventKind.TheVariants as event
use Rattle.tap_world.specs.declared.event.Found.{Found}
use Rattle.tap_world.specs.declared.event.Found.TheVariants as found
use Rattle.tap_world.specs.ByNumber.{at}
use Rattle.tap_world.specs.Setup.{Setup, frame_of}
use Rattle.tap_world.specs.Line.{File, first_that, front_place, in_batch, in_ring, last_that}
use Rattle.tap_world.specs.LineSteps.{changed, ready_front}
use Rattle.tap_world.specs.LineSteps.Change.{Takes}
use Rattle.tap_world.specs.Guests.{Vhost, is_free}
use Rattle.tap_world.specs.World.{Actor, Doing, World, name_of, table}
use Rattle.tap_world.specs.World.Doing.{Backed, Backs, Begun, Disowned, Given, Hosts, Learns, Opened, Opens, Owns, Placed, Purges, Reads, Receives, Released, Routed, Shrinks, Transmits, Unbacked, Withdrawn}
use Rattle.tap_world.specs.Effect.{OnFiles, only}
use Rattle.tap_world.specs.Effect.OnFiles.{NoFile, OnFile}
use Rattle.tap_world.specs.Effect.Onward.{Ends}
use Rattle.tap_world.specs.Step as rows
use Rattle.tap_world.specs.StepBackend as back
use Rattle.tap_world.specs.StepControl as control
use Rattle.tap_world.specs.StepRing as ring
use Rattle.tap_world.specs.StepTurns as rx_turns
use Rattle.tap_world.specs.StepTransmits as tx_turns
use Rattle.tap_world.specs.SoundActors.{can_be}
use Rattle.tap_world.specs.Steady.{version_in}
use Rattle.tap_sound.proofs.Kit.{either, where_if, where_only, where_then}
use Rattle.tap_sound.proofs.Steps.{held, or_else, owning, rx_missed, rx_stepped, rx_taken, setting, turning, tx_made, unsetting}
use Rattle.tap_sound.proofs.Writers.{unset_refusal}
use Rattle.tap_world.specs.Scripts.{is_kind, next_kind}
use Rattle.tap_world.specs.Sound.{holds}
use Rattle.vhost_dev.specs.Refusals.{ready_refusal}
use Rattle.tap_steady.proofs.Lawful.{unrefused}
use Rattle.tap_steady.proofs.OpsTold.{AllTold, FoundOn, IsAt, IsUnset, Told, ends, goes}
use Rattle.tap_steady.proofs.OpsLooks.{look_row, publish_row}

-- ---- frames

module _ (s : Setup) (w : World) (me seen : ℕ) (c : Command) where
  claims : (n : ℕ) (d : Doing) → AllTold s w seen d c (ring.claims w me n seen d)
  claims n (Routed file epoch len) = where_then (Told s w seen (Routed file epoch len) c) (at w.files file) _
      (λ f e1. goes s w seen (Routed file epoch len) c _ seen (Placed file _ epoch len) _ refl refl (inl (refl, refl))
      (refl, refl) (inl refl))
  claims n d = tt

  puts : (d : Doing) → AllTold s w seen d c (ring.puts w me seen d)
  puts (Placed file place epoch len) = ends s w seen (Placed file place epoch len) c _ refl tt
  puts d = tt

  drops : (why : ℕ → File → Option Cause) (n : ℕ) (d : Doing) → AllTold s w seen d c (ring.drops_for why w me n seen d)
  drops why n (Routed file epoch len) = let P = Told s w seen (Routed file epoch len) c in
      where_then P (at w.files file) _
      (λ f e1. where_then P (why epoch f) _ (λ x e2. ends s w seen (Routed file epoch len) c _ refl tt))
  drops why n d = tt

  shuts : (d : Doing) → AllTold s w seen d c (ring.shuts w seen d)
  shuts (Withdrawn file version) = where_then (Told s w seen (Withdrawn file version) c) (at w.files file) _
      (λ f e1. goes s w seen (Withdrawn file version) c _ seen (Purges file version) _ refl refl (inl (refl, refl))
      (refl, refl) (inr refl))
  shuts d = tt

  reopens : (d : Doing) → AllTold s w seen d c (ring.reopens w seen d)
  reopens (Opens file) = where_then (Told s w seen (Opens file) c) (at w.files file) _
      (λ f e1. goes s w seen (Opens file) c _ seen (Opened file) _ refl refl (inl (refl, refl)) tt (inl refl))
  reopens d = tt

  resizes : (d : Doing) → AllTold s w seen d c (ring.resizes w seen d)
  resizes (Doing.Resizes file capacity) = where_then (Told s w seen (Doing.Resizes file capacity) c) (at w.files file) _
      (λ f e1. goes s w seen (Doing.Resizes file capacity) c _ seen (Shrinks file _ 0) _ refl refl (inl (refl, refl)) tt
      (inl refl))
  resizes d = tt

  cuts : (d : Doing) → AllTold s w seen d c (ring.cuts w seen d)
  cuts (Shrinks file places n) = let P = Told s w seen (Shrinks file places n) c in
      where_then P (at w.files file) _ (λ f e1. where_then P (ring.name_at f.line (last_that in_ring f.line)) _
      (λ x e2. goes s w seen (Shrinks file places n) c _ seen (Shrinks file places (n + 1)) _ refl refl
      (inl (refl, refl)) tt (inl refl)))
  cuts d = tt

  moves_in : (d : Doing) (file : ℕ) → AllTold s w seen d c (ring.moves_in w file)
  moves_in d file = let P = Told s w seen d c in
      where_then P (at w.files file) _ (λ f e1. where_then P (ring.name_at f.line (ready_front f.line)) _
      (λ x e2. ends s w seen d c _ refl refl))

  moves : (d : Doing) → AllTold s w seen d c (ring.moves w d)
  moves (Reads file room front) = moves_in (Reads file room front) file
  moves (Purges file version) = moves_in (Purges file version) file
  moves d = tt

  leaves : (d : Doing) → AllTold s w seen d c (ring.leaves s w seen d)
  leaves (Reads file room front) = let P = Told s w seen (Reads file room front) c in
      where_then P (at w.files file) _ (λ f e1. where_then P (first_that in_batch f.line) _
      (λ i e2. where_then P (slice_get f.line i) _
      (λ x e3. where_then P (frame_of s x.name x.len) _ (λ y e4. ends s w seen (Reads file room front) c _ refl tt))))
  leaves (Purges file version) = let P = Told s w seen (Purges file version) c in
      where_then P (at w.files file) _ (λ f e1. where_then P (ring.name_at f.line (first_that in_batch f.line)) _
      (λ x e2. ends s w seen (Purges file version) c _ refl refl))
  leaves d = tt

  finds_none : (d : Doing) → AllTold s w seen d c (ring.finds_none w seen d)
  finds_none (Reads file room front) = let P = Told s w seen (Reads file room front) c in
      where_then P (at w.files file) _ (λ f e1. where_only P _ (only (Ends seen (answer.Again (front_place f))) w)
      (λ x. ends s w seen (Reads file room front) c _ refl tt))
  finds_none d = tt

  meets_worker : (d : Doing) → AllTold s w seen d c (ring.meets_worker w seen d)
  meets_worker (Reads file room front) = let P = Told s w seen (Reads file room front) c in
      where_then P (at w.files file) _ (λ f e1. where_only P _ (only (Ends seen answer.Busy) w)
      (λ x. ends s w seen (Reads file room front) c _ refl tt))
  meets_worker d = tt

  hosts : (n : ℕ) (d : Doing) → AllTold s w seen d c (ring.hosts w me n seen d)
  hosts n (Hosts file ether true) = goes s w seen (Hosts file ether true) c _ seen (Learns file ether) _ refl refl
      (inl (refl, refl)) (refl, refl) (inl refl)
  hosts n (Hosts file ether false) = ends s w seen (Hosts file ether false) c _ refl tt
  hosts n d = tt

  -- ---- guests

  calls : (d : Doing) → AllTold s w seen d c (control.calls w me seen c)
  calls d = let P = Told s w seen d c in
      where_then P (control.driven_vhost c) _
      (λ vhost e1. where_then P (at w.vhosts vhost) _ (λ v e2. where_then P (at w.guests v.guest) _
      (λ g e3. where_then P (control.call_of c v g.memory) _
      (λ x e4. where_only P _ (control.call_effect w seen vhost v.guest x)
      (λ y. ends s w seen d c _ refl tt)))))

  finds_off : (d : Doing) → AllTold s w seen d c (rx_turns.finds_off w seen d c)
  finds_off Begun = let P = Told s w seen Begun c in
      where_then P (rx_turns.turn_on c) _
      (λ t e1. where_then P (at w.vhosts t.0) _ (λ v e2. where_then P (at w.guests v.guest) _
      (λ g e3. where_then P (rx_turns.is_off t.0 t.1 v) _
      (λ told e4. where_only P _ (rx_turns.off_told w seen v g.memory told)
      (λ x. ends s w seen Begun c _ refl tt)))))
  finds_off d = tt

pokes : (s : Setup) (w : World) (seen : ℕ) (d : Doing) (c : Command) → AllTold s w seen d c (control.pokes w seen c)
pokes s w seen d (command.Poke guest addr bytes) = let c = command.Poke guest addr bytes in
    where_then (Told s w seen d c) (at w.guests guest) _ (λ g e1. ends s w seen d c _ refl tt)
pokes s w seen d (command.Peek guest addr len) = let c = command.Peek guest addr len in
    where_then (Told s w seen d c) (at w.guests guest) _ (λ g e1. ends s w seen d c _ refl tt)
pokes s w seen d c = tt

sets_back : (s : Setup) (w : World) (c : Command) (me seen vhost r file : ℕ) (x : Option TapErr) (v : Vhost)
    (m : Contents) (a : Option Answer)
    → (a ≡ None → x ≡ None) → Told s w seen (Backs x) c (back.sets_back w me seen vhost r file x v m a)
sets_back s w c me seen vhost r file x v m (Some a) h = ends s w seen (Backs x) c _ refl tt
sets_back s w c me seen vhost r file x v m None h =
    goes s w seen (Backs x) c _ seen (Backed file) _ refl refl
    (inl (refl, ap (λ (q : Option TapErr). holds (Backs q)) (sym (h refl)))) tt (inl refl)

unsets_back : (s : Setup) (w : World) (c : Command) (me seen vhost r : ℕ) (x : Option TapErr) (v : Vhost) (m : Contents)
    (a : Option Answer) (file : Option ℕ)
    → x ≡ None → c ≡ command.Backend vhost r None → at w.vhosts vhost ≡ Some v → (ring_at r v.settings).file ≡ file
    → Told s w seen (Backs x) c (back.unsets_back w me seen vhost r v m a file)
unsets_back s w c me seen vhost r x v m (Some a) file none cis is has = ends s w seen (Backs x) c _ refl tt
unsets_back s w c me seen vhost r x v m None None none cis is has = ends s w seen (Backs x) c _ refl tt
unsets_back s w c me seen vhost r x v m None (Some file) none cis is has =
    goes s w seen (Backs x) c _ seen (if r == 0 then Unbacked file else Released file) _ refl refl
    (inl (
      refl,
      either (λ (e : Doing). holds e ≡ true) (r == 0) (Unbacked file) (Released file) refl refl
          ∙ ap (λ (q : Option TapErr). holds (Backs q)) (sym none),
    ))
    (go (r == 0) refl) (inl refl)
  where
    unset : (b : Bool) → (r == 0) ≡ b → IsUnset w (Backs x) c b file
    unset b e = record {
      doing = ap (λ (q : Option TapErr). Backs q) none;
      vhost = vhost;
      ring = r;
      v = v;
      is_command = cis;
      is_vhost = is;
      backend = has;
      side = e;
    }

    go : (b : Bool) → (r == 0) ≡ b → FoundOn s w seen (Backs x) c seen (if b then Unbacked file else Released file)
    go true e = (refl, unset true e)
    go false e = (refl, unset false e)

backs : (s : Setup) (w : World) (me seen : ℕ) (d : Doing) (c : Command) → can_be d c ≡ true
    → AllTold s w seen d c (back.backs s w me seen d c)
backs s w me seen (Backs x)
    (command.Backend vhost r None) can = let c = command.Backend vhost r None in let P = Told s w seen (Backs x) c in
    where_then P (at w.vhosts vhost) _
    (λ v e1. where_then P (at w.guests v.guest) _ (λ g e2. unsetting P s w me seen x vhost r v g.memory
    (λ told e3. unsets_back s w c me seen vhost r x v g.memory told (ring_at r v.settings).file
    (unset_refusal (Backs x) x vhost r c refl refl can) refl e1 refl)))
backs s w me seen (Backs x) (command.Backend vhost r (Some file)) can = let c = command.Backend vhost r
    (Some file) in let P = Told s w seen (Backs x) c in
    where_then P (at w.vhosts vhost) _
    (λ v e1. where_then P (at w.guests v.guest) _ (λ g e2. setting P s w me seen x vhost r file v g.memory
    (λ told e3. sets_back s w c me seen vhost r file x v g.memory told
    (λ none. unrefused (ready_refusal r g.memory v.settings) x
    (back.unfit_for (steer.shape_of (table s w) file) v.settings) (e3 ∙ ap (λ (o : Option Answer). Some o) none)))))
backs s w me seen d c can = tt

drive_row : (s : Setup) (w : World) (me seen : ℕ) (d : Doing) (c : Command) → can_be d c ≡ true
    → AllTold s w seen d c (rows.drive_row s w me seen d c)
drive_row s w me seen Begun c can = calls s w me seen c Begun
drive_row s w me seen d c can = backs s w me seen d c can

owns : (s : Setup) (w : World) (seen : ℕ) (d : Doing) (c : Command) → AllTold s w seen d c (back.owns w seen d c)
owns s w seen (Owns file version) (command.Backend vhost r asked) = ends s w seen (Owns file version)
    (command.Backend vhost r asked) _ refl tt
owns s w seen (Unbacked file) (command.Backend vhost r asked) =
    goes s w seen (Unbacked file) (command.Backend vhost r asked) _ seen (Disowned file) _ refl refl (inl (refl, refl))
    (refl, refl) (inl refl)
owns s w seen d c = tt

-- ---- turns

-- a turn is under way or begins: it doesn't hold the writer, and has published nothing
abbrev IsTurn : Doing → Type 0
IsTurn d = (holds d ≡ false) × (version_in d ≡ None)

rx_event : (s : Setup) (w : World) (me seen : ℕ) (d : Doing) (c : Command) (vhost file : ℕ) (v : Vhost)
    (files : OnFiles) (f : Found) (over : Option TurnText) (made : RxState × Act)
    → IsAt w d file → IsTurn d → Told s w seen d c (rx_turns.rx_effect w me seen vhost file v files f over made)
rx_event s w me seen d c vhost file v files f None made is turn = goes s w seen d c _ seen
    (Receives file made.0.turn) _ refl refl (inl (refl, sym turn.0)) is (inl turn.1)
rx_event s w me seen d c vhost file v files f (Some x) made is turn = ends s w seen d c _ refl tt

rx_steps_on : (s : Setup) (w : World) (me seen : ℕ) (d : Doing) (c : Command) (vhost file : ℕ) (t : RxTurn) (v : Vhost)
    (m : Contents) → IsAt w d file → IsTurn d
    → AllTold s w seen d c (rx_turns.rx_steps_on w me seen vhost file t v m)
rx_steps_on s w me seen d c vhost file t v m is turn = where_then (Told s w seen d c)
    (rx_step hand.Off (rx_turns.rx_state t v m)) _
    (λ made e. rx_stepped (Told s w seen d c) w me seen vhost file t v made
    (λ f over e2 told. rx_event s w me seen d c vhost file v
    (rx_turns.rx_change vhost file t t.stage) f over made is turn))

tx_event : (s : Setup) (w : World) (me seen : ℕ) (d : Doing) (c : Command) (vhost file : ℕ) (told : List ChainText)
    (v : Vhost) (step : _) (over : Option TurnText) (made : _)
    → IsAt w d file → IsTurn d → Told s w seen d c (tx_turns.tx_effect w me seen vhost file told v step over made)
tx_event s w me seen d c vhost file told v step None made is turn = goes s w seen d c _ seen
    (Transmits file made.0.turn _) _ refl refl (inl (refl, sym turn.0)) is (inl turn.1)
tx_event s w me seen d c vhost file told v step (Some x) made is turn = ends s w seen d c _ refl tt

tx_steps_on : (s : Setup) (w : World) (me seen : ℕ) (d : Doing) (c : Command) (vhost file : ℕ) (t : TxTurn)
    (told : List ChainText) (v : Vhost) (m : Contents) → IsAt w d file → IsTurn d
    → AllTold s w seen d c (tx_turns.tx_steps_on w me seen vhost file t told v m)
tx_steps_on s w me seen d c vhost file t told v m is turn = where_then (Told s w seen d c)
    (tx_step (tx_turns.tx_state t v m)) _
    (λ made e. tx_made (Told s w seen d c) w me seen vhost file told v made
    (λ step over e2 end_. tx_event s w me seen d c vhost file told v step over made is turn))

begins : (s : Setup) (w : World) (me n seen : ℕ) (c : Command)
    → AllTold s w seen Begun c (tx_turns.turn_begins w me n seen c)
begins s w me n seen c = let P = Told s w seen Begun c in
    where_then P (rx_turns.turn_on c) _
    (λ t e1. where_then P (at w.vhosts t.0) _ (λ v e2. where_then P (at w.guests v.guest) _
    (λ g e3. either (AllTold s w seen Begun c) (t.1 == 0) (rx_turns.rx_begins w me seen t.0 v g.memory)
    (tx_turns.tx_begins w me n seen t.0 v g.memory)
    (where_then P v.settings.rx.file _ (λ file e4. where_if P (is_free 0 v && is_none v.settings.rx.queue.stopped)
    (rx_turns.rx_steps_on w me seen t.0 file (rx_begun v.settings.mrg (hdr_of v.settings)) v g.memory)
    (λ x. rx_steps_on s w me seen Begun c t.0 file (rx_begun v.settings.mrg (hdr_of v.settings)) v g.memory
    (inl (record { side = Rx; vhost = t.0; v = v; is_vhost = e2; backend = e4 })) (refl, refl))))
    (where_then P v.settings.tx.file _ (λ file e4. where_if P (is_free 1 v && is_none v.settings.tx.queue.stopped)
    (tx_turns.tx_steps_on w me seen t.0 file (tx_begun (hdr_of v.settings) (name_of me n)) [] v g.memory)
    (λ x. tx_steps_on s w me seen Begun c t.0 file (tx_begun (hdr_of v.settings) (name_of me n)) [] v g.memory
    (inl (record { side = Tx; vhost = t.0; v = v; is_vhost = e2; backend = e4 })) (refl, refl)))))))

goes_on : (s : Setup) (w : World) (me seen : ℕ) (d : Doing) (c : Command) (vhost : ℕ) (v : Vhost) (m : Contents)
    → AllTold s w seen d c (tx_turns.goes_on w me seen d vhost v m)
goes_on s w me seen (Receives file t) c vhost v m = rx_steps_on s w me seen (Receives file t) c vhost file t v m
    (inr refl) (refl, refl)
goes_on s w me seen (Transmits file t told) c vhost v m = tx_steps_on s w me seen
    (Transmits file t told) c vhost file t told v m (inr refl) (refl, refl)
goes_on s w me seen d c vhost v m = tt

turns : (s : Setup) (w : World) (me n seen : ℕ) (d : Doing) (c : Command)
    → AllTold s w seen d c (tx_turns.turns w me n seen d c)
turns s w me n seen Begun c = begins s w me n seen c
turns s w me n seen d c = turning (Told s w seen d c) w c (tx_turns.goes_on w me seen d)
    (λ vhost v m. goes_on s w me seen d c vhost v m)

hands : (s : Setup) (w : World) (me seen : ℕ) (d : Doing) (c : Command)
    → AllTold s w seen d c (tx_turns.hands s w me seen d c)
hands s w me seen (Receives file t) c = let P = Told s w seen (Receives file t) c in
    turning P w c _ (λ vhost v m. where_then P (at w.files file) _
    (λ f e1. where_then P (changed (Takes vhost) f) _ (λ g e2. where_then P (rx_turns.front_frame s g) _
    (λ frame e3. where_then P (rx_step (hand.Got frame) (rx_turns.rx_state t v m)) _
    (λ made e. rx_taken P w me seen vhost file v frame made
    (λ over told. rx_event s w me seen (Receives file t) c vhost file v (OnFile file (Takes vhost))
    (found.Moved frame.name) over made (inr refl) (refl, refl)))))))
hands s w me seen d c = tt

finds_nothing : (s : Setup) (w : World) (me seen : ℕ) (d : Doing) (c : Command)
    → AllTold s w seen d c (tx_turns.turn_finds_none w me seen d c)
finds_nothing s w me seen (Receives file t) c = let P = Told s w seen (Receives file t) c in
    turning P w c _ (λ vhost v m. where_then P (at w.files file) _
    (λ f e1. where_then P (rx_step (hand.NotReady (front_place f)) (rx_turns.rx_state t v m)) _
    (λ made e. rx_missed P w me seen vhost file v f made
    (λ over told. rx_event s w me seen (Receives file t) c vhost file v NoFile
    (found.NotReady (front_place f)) over made (inr refl) (refl, refl)))))
finds_nothing s w me seen d c = tt

gives : (s : Setup) (w : World) (me seen : ℕ) (d : Doing) (c : Command)
    → AllTold s w seen d c (tx_turns.hosts_of_turn w seen d c)
gives s w me seen (Transmits file t told) c = let P = Told s w seen (Transmits file t told) c in
    turning P w c _ (λ vhost v m. where_then P t.held _ (λ f e1. where_then P (tx_step (tx_turns.tx_state t v m)) _
    (λ made e2. goes s w seen (Transmits file t told) c _ seen
    (Given file made.0.turn told (tx_turns.with_host f)) _ refl refl (inl (refl, refl)) refl (inl refl))))
gives s w me seen d c = tt

-- ---- all rows

pub row_told : (s : Setup) (w : World) (k : EventKind) (me : ℕ) (a : Actor) (n : ℕ) (c : Command)
    → is_kind k (next_kind w a.doing c) ≡ true → can_be a.doing c ≡ true
    → AllTold s w a.seen a.doing c (rows.row s w k me a n c)
row_told s w event.Look me a n c next can = look_row s w me a n c next can
row_told s w event.Publish me a n c next can = publish_row s w me a.seen a.doing c can
row_told s w event.Claim me a n c next can = claims s w me a.seen c n a.doing
row_told s w event.Ready me a n c next can = puts s w me a.seen c a.doing
row_told s w event.Full me a n c next can = drops s w me a.seen c ring.full_now n a.doing
row_told s w event.Gone me a n c next can = drops s w me a.seen c ring.gone_now n a.doing
row_told s w event.Spent me a n c next can = drops s w me a.seen c ring.spent_now n a.doing
row_told s w event.Shut me a n c next can = held (Told s w a.seen a.doing c) w me (ring.shuts w a.seen a.doing)
    (shuts s w me a.seen c a.doing)
row_told s w event.Reopen me a n c next can = held (Told s w a.seen a.doing c) w me (ring.reopens w a.seen a.doing)
    (reopens s w me a.seen c a.doing)
row_told s w event.Resize me a n c next can = held (Told s w a.seen a.doing c) w me (ring.resizes w a.seen a.doing)
    (resizes s w me a.seen c a.doing)
row_told s w event.Cut me a n c next can = held (Told s w a.seen a.doing c) w me (ring.cuts w a.seen a.doing)
    (cuts s w me a.seen c a.doing)
row_told s w event.Move me a n c next can = moves s w me a.seen c a.doing
row_told s w event.Hand me a n c next can = hands s w me a.seen a.doing c
row_told s w event.PutBack me a n c next can = turns s w me n a.seen a.doing c
row_told s w event.Out me a n c next can = or_else (Told s w a.seen a.doing c) (ring.leaves s w a.seen a.doing)
    (tx_turns.turns w me n a.seen a.doing c)
    (leaves s w me a.seen c a.doing) (turns s w me n a.seen a.doing c)
row_told s w event.NotReady me a n c next can = or_else (Told s w a.seen a.doing c) (ring.finds_none w a.seen a.doing)
    (tx_turns.turn_finds_none w me a.seen a.doing c)
    (finds_none s w me a.seen c a.doing) (finds_nothing s w me a.seen a.doing c)
row_told s w event.Owner me a n c next can = owning (Told s w a.seen a.doing c) w me a.seen a.doing c
    (owns s w a.seen a.doing c)
    (meets_worker s w me a.seen c a.doing) (finds_off s w me a.seen c a.doing)
row_told s w event.HostIn me a n c next can = or_else (Told s w a.seen a.doing c) (ring.hosts w me n a.seen a.doing)
    (tx_turns.hosts_of_turn w a.seen a.doing c)
    (hosts s w me a.seen c n a.doing) (gives s w me a.seen a.doing c)
row_told s w event.Poke me a n c next can = pokes s w a.seen a.doing c
row_told s w event.Peek me a n c next can = pokes s w a.seen a.doing c
row_told s w event.Drive me a n c next can = drive_row s w me a.seen a.doing c can
row_told s w event.Fetch me a n c next can = turns s w me n a.seen a.doing c
row_told s w event.Copy me a n c next can = turns s w me n a.seen a.doing c
row_told s w event.PublishUsed me a n c next can = turns s w me n a.seen a.doing c
row_told s w event.Notices me a n c next can = turns s w me n a.seen a.doing c
