-- Each event that is allowed is one that is left to its command: all rows.
use Rattle.tap_world.specs.declared.event.Found.TheVariants as found
use Rattle.tap_world.specs.Line.{front_place, File, first_that, in_batch}
use Rattle.tap_trace.specs.declared.turn.TurnText.{TurnText}
use Rattle.std.proofs.Common.{◌≡◌, ℕ, List, [], ◌∷◌, Bool, true, false, Option, Some, None, inl, inr, refl, sym, subst}
use Rattle.guest_mem.specs.Memory.{Contents}
use Rattle.tap_frame.specs.Frame.{FrameValue}
use Rattle.tap_ledger.specs.declared.act.Act.{Act}
use Rattle.tap_ledger.specs.declared.hand.Hand.TheVariants as hand
use Rattle.tap_steer.specs.declared.operation.Op.{Op}
use Rattle.vring_turns.specs.declared.end.End.TheVariants.{Idle}
use Rattle.vring_turns.specs.declared.stage.RxStage.{RxStage}
use Rattle.vring_turns.specs.declared.stage.RxStage.TheVariants as rx
use Rattle.vring_turns.specs.declared.stage.TxStage.{TxStage}
use Rattle.vring_turns.specs.declared.stage.TxStage.TheVariants as tx
use Rattle.vring_turns.specs.RxTurn.{RxState, RxTurn, rx_next, rx_step}
use Rattle.vring_turns.specs.TxTurn.{TxState, TxTurn, tx_step}
use Rattle.scen_words.specs.declared.command.Command.{Command}
use Rattle.scen_words.specs.declared.command.Command.TheVariants as command
use Rattle.tap_trace.specs.declared.turn.ChainText.{ChainText}
use Rattle.tap_world.specs.declared.event.EventKind.{EventKind}
use Rattle.tap_world.specs.declared.event.EventKind.TheVariants as event
use Rattle.tap_world.specs.declared.event.Found.{Found}
use Rattle.tap_world.specs.ByNumber.{at}
use Rattle.tap_world.specs.Grammar.{HasForm, Perhaps}
use Rattle.tap_world.specs.Grammar.Grammar.{One, ◌⨾◌}
use Rattle.tap_world.specs.Setup.{Setup, op_of}
use Rattle.tap_world.specs.LineSteps.{changed, ready_front}
use Rattle.tap_world.specs.LineSteps.Change.{Takes}
use Rattle.tap_world.specs.Guests.{Vhost, vhost_answer, is_free_for}
use Rattle.tap_world.specs.World.{Doing, World, HostFrame, table}
use Rattle.tap_world.specs.World.Doing.{Given, Receives, Transmits}
use Rattle.tap_world.specs.Effect.{Effect, OnFiles}
use Rattle.tap_world.specs.Effect.Onward.{Goes}
use Rattle.tap_world.specs.Step as rows
use Rattle.tap_world.specs.StepBackend as back
use Rattle.tap_world.specs.StepRing as ring
use Rattle.tap_world.specs.StepTable as tables
use Rattle.tap_world.specs.StepTurns as rx_turns
use Rattle.tap_world.specs.StepTransmits as tx_turns
use Rattle.tap_sound.proofs.Kit.{WhereSome, where_if, where_some, where_then, some_same}
use Rattle.tap_sound.proofs.Left.{left_of, rx_closes, rx_left, rx_takes, tx_left}
use Rattle.tap_sound.proofs.Rows.{RxGoes, TxGives, TxGoes, rx_kind, rx_step_fits, tx_kind, tx_step_fits}
use Rattle.tap_sound.proofs.Follows.{AllFollow, Follows, Onto}
use Rattle.std.specs.Prelude.{option_map, if◌then◌else◌, ◌&&◌, is_none}
use Rattle.tap_trace.specs.declared.kind.Kind.{Kind}
use Rattle.vring_turns.specs.declared.end.End.{End}
use Rattle.vhost_dev.specs.declared.error.VhostErr.{VhostErr}
use Rattle.tap_ledger.specs.declared.error.TapErr.{TapErr}
use Rattle.tap_trace.specs.declared.answer.Answer.{Answer}
use Rattle.vhost_dev.specs.Refusals.{number_refusal, ready_refusal}
use Rattle.vhost_dev.specs.Settings.{ring_at}
use Rattle.tap_steer.specs.Select as steer
use Rattle.tap_world.specs.Effect.OnFiles.{NoFile, OnFile}

-- ---- rows that several kinds of commands have

pub or_else : (P : Effect → Type 0) (x y : Option Effect) → WhereSome P x → WhereSome P y → WhereSome P (rows.or_else x y)
or_else P None y h k = k
or_else P (Some r) y h k = h

pub held : (P : Effect → Type 0) (w : World) (actor : ℕ) (x : Option Effect) → WhereSome P x → WhereSome P (ring.if_held w actor x)
held P w actor None h = where_if P _ None (λ b. h)
held P w actor (Some r) h = where_if P _ (Some r) (λ b. h)

pub publication : (P : Effect → Type 0) (s : Setup) (w : World) (actor : ℕ) (d : Doing) (c : Command) → WhereSome P (back.publishes_back w d c)
    → WhereSome P (tx_turns.teaches w d) → WhereSome P (tables.publishes s w actor d c) → WhereSome P (rows.publish_row s w actor d c)
publication P s w actor d (command.Backend vhost r file) x y z = held P w actor _ x
publication P s w actor d (command.TxTurn vhost) x y z = y
publication P s w actor d c x y z = z

pub own : (P : Effect → Type 0) (s : Setup) (w : World) (actor : ℕ) (d : Doing) (c : Command) → ((x : Op) → WhereSome P (tables.publishes_own w x d))
    → WhereSome P (tables.publishes_op s w actor d c)
own P s w actor d c h = where_then P (op_of s c) _ (λ x e. where_if P _ _ (λ b. h x))

pub owning : (P : Effect → Type 0) (w : World) (actor seen : ℕ) (d : Doing) (c : Command) → WhereSome P (back.owns w seen d c)
    → WhereSome P (ring.meets_worker w seen d) → WhereSome P (rx_turns.finds_off w seen d c) → WhereSome P (rows.owner_row w actor seen d c)
owning P w actor seen d (command.Backend vhost r file) x y z = held P w actor _ x
owning P w actor seen d c x y z = or_else P _ _ y z

-- an event of a turn
pub turning : (P : Effect → Type 0) (w : World) (c : Command) (e : ℕ → Vhost → Contents → Option Effect)
    → ((vhost : ℕ) (v : Vhost) (m : Contents) → WhereSome P (e vhost v m)) → WhereSome P (tx_turns.on_turn w c e)
turning P w c e h =
    where_then P (rx_turns.turn_on c) _ (λ t a. where_then P (at w.vhosts t.0) _ (λ v b. where_then P (at w.guests v.guest) _ (λ g d. h t.0 v g.memory)))

-- the event of a turn's step, by what it found, its step on the guest, and how the turn's end is told
pub rx_made : (P : Effect → Type 0) (w : World) (actor seen vhost file : ℕ) (v : Vhost) (files : OnFiles) (o : Option Found) (made : RxState × Act)
    → ((f : Found) (over : Option TurnText) → o ≡ Some f → rx_turns.over_told (rx_turns.rx_over made.0.turn.stage) ≡ Some over
    → P (rx_turns.rx_effect w actor seen vhost file v files f over made))
    → WhereSome P (rx_turns.rx_event w actor seen vhost file v files o made)
rx_made P w actor seen vhost file v files o made h =
    where_then P o _ (λ f e. where_then P (rx_turns.over_told (rx_turns.rx_over made.0.turn.stage)) _ (λ over k. h f over e k))

pub rx_stepped : (P : Effect → Type 0) (w : World) (actor seen vhost file : ℕ) (t : RxTurn) (v : Vhost) (made : RxState × Act)
    → ((f : Found) (over : Option TurnText) → rx_turns.found_by (rx_turns.kind_of vhost 0 made.1) (rx_turns.held_name t.held) ≡ Some f
    → rx_turns.over_told (rx_turns.rx_over made.0.turn.stage) ≡ Some over
    → P (rx_turns.rx_effect w actor seen vhost file v (rx_turns.rx_change vhost file t t.stage) f over made))
    → WhereSome P (rx_turns.rx_event w actor seen vhost file v (rx_turns.rx_change vhost file t t.stage)
    (rx_turns.found_by (rx_turns.kind_of vhost 0 made.1) (rx_turns.held_name t.held)) made)
rx_stepped P w actor seen vhost file t v made h =
    rx_made P w actor seen vhost file v (rx_turns.rx_change vhost file t t.stage) (rx_turns.found_by (rx_turns.kind_of vhost 0 made.1) (rx_turns.held_name t.held)) made h

pub rx_taken : (P : Effect → Type 0) (w : World) (actor seen vhost file : ℕ) (v : Vhost) (frame : FrameValue) (made : RxState × Act)
    → ((over : Option TurnText) → rx_turns.over_told (rx_turns.rx_over made.0.turn.stage) ≡ Some over
    → P (rx_turns.rx_effect w actor seen vhost file v (OnFile file (Takes vhost)) (found.Moved frame.name) over made))
    → WhereSome P (rx_turns.rx_event w actor seen vhost file v (OnFile file (Takes vhost)) (Some (found.Moved frame.name)) made)
rx_taken P w actor seen vhost file v frame made h = where_then P (rx_turns.over_told (rx_turns.rx_over made.0.turn.stage)) _ (λ over k. h over k)

pub rx_missed : (P : Effect → Type 0) (w : World) (actor seen vhost file : ℕ) (v : Vhost) (f : File) (made : RxState × Act)
    → ((over : Option TurnText) → rx_turns.over_told (rx_turns.rx_over made.0.turn.stage) ≡ Some over
    → P (rx_turns.rx_effect w actor seen vhost file v NoFile (found.NotReady (front_place f)) over made))
    → WhereSome P (if is_none (first_that in_batch f.line) && is_none (ready_front f.line)
    then rx_turns.rx_event w actor seen vhost file v NoFile (Some (found.NotReady (front_place f))) made else None)
rx_missed P w actor seen vhost file v f made h =
    where_if P (is_none (first_that in_batch f.line) && is_none (ready_front f.line)) (rx_turns.rx_event w actor seen vhost file v NoFile (Some (found.NotReady (front_place f))) made)
    (λ b. where_then P (rx_turns.over_told (rx_turns.rx_over made.0.turn.stage)) _ (λ over k. h over k))

-- a backend's Drive, by what it is told
pub unsetting : (P : Effect → Type 0) (s : Setup) (w : World) (actor seen : ℕ) (x : Option TapErr) (vhost r : ℕ) (v : Vhost) (m : Contents)
    → ((told : Option Answer) → back.refused_by (number_refusal r) ≡ Some told → P (back.unsets_back w actor seen vhost r v m told (ring_at r v.settings).file))
    → WhereSome P (if is_free_for actor r v then back.back_call s w actor seen x vhost r None v m else None)
unsetting P s w actor seen x vhost r v m h = where_if P (is_free_for actor r v) (back.back_call s w actor seen x vhost r None v m)
    (λ b. where_then P (back.refused_by (number_refusal r)) _ (λ told e. h told e))

pub setting : (P : Effect → Type 0) (s : Setup) (w : World) (actor seen : ℕ) (x : Option TapErr) (vhost r file : ℕ) (v : Vhost) (m : Contents)
    → ((told : Option Answer) → back.back_answer (ready_refusal r m v.settings) x (back.unfit_for (steer.shape_of (table s w) file) v.settings) ≡ Some told
    → P (back.sets_back w actor seen vhost r file x v m told))
    → WhereSome P (if is_free_for actor r v then back.back_call s w actor seen x vhost r (Some file) v m else None)
setting P s w actor seen x vhost r file v m h = where_if P (is_free_for actor r v) (back.back_call s w actor seen x vhost r (Some file) v m)
    (λ b. where_then P (back.back_answer (ready_refusal r m v.settings) x (back.unfit_for (steer.shape_of (table s w) file) v.settings)) _ (λ told e. h told e))

pub tx_made : (P : Effect → Type 0) (w : World) (actor seen vhost file : ℕ) (told : List ChainText) (v : Vhost) (made : TxState × Act)
    → ((step : Kind) (over : Option TurnText) → rx_turns.kind_of vhost 1 made.1 ≡ Some step → rx_turns.over_told (tx_turns.tx_over made.0.turn.stage) ≡ Some over
    → P (tx_turns.tx_effect w actor seen vhost file told v step over made))
    → WhereSome P (tx_turns.tx_event w actor seen vhost file told v made)
tx_made P w actor seen vhost file told v made h =
    where_then P (rx_turns.kind_of vhost 1 made.1) _ (λ step e. where_then P (rx_turns.over_told (tx_turns.tx_over made.0.turn.stage)) _ (λ over k. h step over e k))

pub never_none : {A : Type 0} (k : Option A) → option_map (λ (y : A). Some y) k ≡ Some None → ⊥
never_none None q = cc (q)
never_none (Some y) q = cc (q)

-- a backend that has no answer yet isn't refused
pub not_refused : (o : Option VhostErr) → back.refused_by o ≡ Some None → o ≡ None
not_refused None h = refl
not_refused (Some e) h = absurd (never_none (vhost_answer e) (h))

-- a turn whose end is told is over, and one of which none is told isn't
pub is_over_told : (o : Option End) (x : TurnText) → rx_turns.over_told o ≡ Some (Some x) → (e : End) × (o ≡ Some e)
is_over_told None x h = absurd (cc (h))
is_over_told (Some e) x h = (e, refl)

pub over_none : (o : Option End) (over : Option TurnText) → rx_turns.over_told o ≡ Some over → o ≡ None → over ≡ None
over_none None over h is = sym (some_same None over h)
over_none (Some e) over h is = absurd (cc (is))

pub none_told : (o : Option End) → rx_turns.over_told o ≡ Some None → o ≡ None
none_told None h = refl
none_told (Some e) h = absurd (never_none (rx_turns.end_told e) h)

-- ---- turns

rx_onto : (file file' seen : ℕ) (t u : RxTurn) (c : Command) (k : EventKind) (f : Found) (st : RxStage) → u.stage ≡ st → RxGoes t.stage k u.stage
    → (over : Option TurnText) → rx_turns.over_told (rx_turns.rx_over st) ≡ Some over → Onto (left_of (Receives file t) c) c k (rx_turns.rx_onward seen file' u f over)
rx_onto file file' seen t u c k f st is h None told = h
rx_onto file file' seen t u c k f (rx.Ended e) is h (Some x) told = h [] (subst (λ (y : RxStage). HasForm (rx_left y) []) (sym is) refl)
rx_onto file file' seen t u c k f st is h (Some x) told = absurd (cc (told))

pub rx_follows : (w : World) (actor n seen file : ℕ) (t : RxTurn) (c : Command)
    → AllFollow (Receives file t) c (rx_kind t.stage) (tx_turns.turns w actor n seen (Receives file t) c)
rx_follows w actor n seen file t c =
    let P : Effect → Type 0 = Follows (Receives file t) c (rx_kind t.stage) in
    turning P w c (tx_turns.goes_on w actor seen (Receives file t))
    (λ vhost v m. where_then P (rx_step hand.Off (rx_turns.rx_state t v m)) _
    (λ made e. rx_stepped P w actor seen vhost file t v made (λ f over e2 told. rx_onto file file seen t made.0.turn c (rx_kind t.stage) f made.0.turn.stage refl
    (where_some (λ (x : RxState × Act). RxGoes t.stage (rx_kind t.stage) x.0.turn.stage) _ made (rx_step_fits (rx_turns.rx_state t v m)) e) over told)))

-- a turn that looks for a frame
rx_got : (frame : FrameValue) (s : RxState) (st : RxStage) → s.turn.stage ≡ st → st ≡ rx.Hand
    → WhereSome (λ (x : RxState × Act). RxGoes st event.Hand x.0.turn.stage) (rx_next st (hand.Got frame) s)
rx_got frame s st e is = subst (λ (q : RxStage). WhereSome (λ (x : RxState × Act). RxGoes q event.Hand x.0.turn.stage) (rx_next q (hand.Got frame) s))
    (sym is) (λ es h. rx_takes es h)

rx_none : (place : ℕ) (s : RxState) (st : RxStage) → st ≡ rx.Hand
    → WhereSome (λ (x : RxState × Act). RxGoes st event.NotReady x.0.turn.stage) (rx_next st (hand.NotReady place) s)
rx_none place s st is = subst (λ (q : RxStage). WhereSome (λ (x : RxState × Act). RxGoes q event.NotReady x.0.turn.stage) (rx_next q (hand.NotReady place) s))
    (sym is) (λ es h. (0, inr (inl (refl, rx_closes Idle s.queue es h))))

pub hand_follows : (s : Setup) (w : World) (actor seen file : ℕ) (t : RxTurn) (c : Command) → t.stage ≡ rx.Hand
    → AllFollow (Receives file t) c event.Hand (tx_turns.hands s w actor seen (Receives file t) c)
hand_follows s w actor seen file t c is =
    let P : Effect → Type 0 = Follows (Receives file t) c event.Hand in
    turning P w c _ (λ vhost v m. where_then P (at w.files file) _ (λ f e1. where_then P (changed (Takes vhost) f) _ (λ g e2. where_then P (rx_turns.front_frame s g) _
    (λ frame e3. where_then P (rx_step (hand.Got frame) (rx_turns.rx_state t v m)) _
    (λ made e. rx_taken P w actor seen vhost file v frame made (λ over told. rx_onto file file seen t made.0.turn c event.Hand _ made.0.turn.stage refl
    (where_some (λ (x : RxState × Act). RxGoes t.stage event.Hand x.0.turn.stage) _ made (rx_got frame (rx_turns.rx_state t v m) t.stage refl is) e) over told))))))

pub none_follows : (w : World) (actor seen file : ℕ) (t : RxTurn) (c : Command) → t.stage ≡ rx.Hand
    → AllFollow (Receives file t) c event.NotReady (tx_turns.turn_finds_none w actor seen (Receives file t) c)
none_follows w actor seen file t c is =
    let P : Effect → Type 0 = Follows (Receives file t) c event.NotReady in
    turning P w c _ (λ vhost v m. where_then P (at w.files file) _ (λ f e1. where_then P (rx_step (hand.NotReady _) (rx_turns.rx_state t v m)) _
    (λ made e. rx_missed P w actor seen vhost file v f made (λ over told. rx_onto file file seen t made.0.turn c event.NotReady _ made.0.turn.stage refl
    (where_some (λ (x : RxState × Act). RxGoes t.stage event.NotReady x.0.turn.stage) _ made (rx_none _ (rx_turns.rx_state t v m) t.stage is) e) over told))))

tx_onto : (file file' seen : ℕ) (t u : TxTurn) (told told' : List ChainText) (c : Command) (k : EventKind) (f : Found) (st : TxStage) → u.stage ≡ st
    → TxGoes t.stage k u.stage → (over : Option TurnText) → rx_turns.over_told (tx_turns.tx_over st) ≡ Some over
    → Onto (left_of (Transmits file t told) c) c k (tx_turns.tx_onward seen file' u told' f over)
tx_onto file file' seen t u told told' c k f st is h None end_ = h
tx_onto file file' seen t u told told' c k f (tx.Ended e) is h (Some x) end_ = h [] (subst (λ (y : TxStage). HasForm (tx_left y) []) (sym is) refl)
tx_onto file file' seen t u told told' c k f st is h (Some x) end_ = absurd (cc (end_))

-- every stage but Give
abbrev pub Gives : TxStage → Bool
Gives tx.Give = true
Gives st = false

tx_goes : (st next : TxStage) → Gives st ≡ false → TxGives st next → TxGoes st (tx_kind st) next
tx_goes tx.Give next e h = absurd (cc (e))
tx_goes tx.Begin next e h = h
tx_goes tx.Fetch next e h = h
tx_goes tx.NoticesOn next e h = h
tx_goes tx.FetchAgain next e h = h
tx_goes (tx.NoticesOff fault) next e h = h
tx_goes tx.Copy next e h = h
tx_goes (tx.Publish end) next e h = h
tx_goes (tx.Ended end) next e h = h

pub tx_follows : (w : World) (actor n seen file : ℕ) (t : TxTurn) (told : List ChainText) (c : Command) → Gives t.stage ≡ false
    → AllFollow (Transmits file t told) c (tx_kind t.stage) (tx_turns.turns w actor n seen (Transmits file t told) c)
tx_follows w actor n seen file t told c no_give =
    let P : Effect → Type 0 = Follows (Transmits file t told) c (tx_kind t.stage) in
    turning P w c (tx_turns.goes_on w actor seen (Transmits file t told))
    (λ vhost v m. where_then P (tx_step (tx_turns.tx_state t v m)) _
    (λ made e. tx_made P w actor seen vhost file told v made (λ step over e2 end_. tx_onto file file seen t made.0.turn told _ c (tx_kind t.stage) _ made.0.turn.stage refl
    (tx_goes t.stage made.0.turn.stage no_give
    (where_some (λ (x : TxState × Act). TxGives t.stage x.0.turn.stage) _ made (tx_step_fits (tx_turns.tx_state t v m)) e)) over end_)))

-- Give, of a transmit turn
give_turning : (w : World) (seen file vhost : ℕ) (t : TxTurn) (told : List ChainText) (v : Vhost) (m : Contents) (P : Effect → Type 0) → t.stage ≡ tx.Give
    → ((next : TxTurn) (f : HostFrame) (x : Found) (e : Effect) → ((es : List EventKind) → HasForm (One event.Look ⨾ Perhaps (One event.Publish) ⨾ tx_left next.stage) es → HasForm (tx_left t.stage) (event.HostIn ∷ es))
    → e.onward ≡ Goes seen (Given file next told f) x → P e)
    → WhereSome P (tx_turns.gives w seen file t told v m)
give_turning w seen file vhost t told v m P is h = where_then P t.held _ (λ f e1. where_then P (tx_step (tx_turns.tx_state t v m)) _
    (λ made e. h made.0.turn (tx_turns.with_host f) _ _ (λ es x. go t.stage is made.0.turn.stage
    (where_some (λ (y : TxState × Act). TxGives t.stage y.0.turn.stage) _ made (tx_step_fits (tx_turns.tx_state t v m)) e) es x) refl))
  where
    go : (st : TxStage) → st ≡ tx.Give → (next : TxStage) → TxGives st next → (es : List EventKind)
        → HasForm (One event.Look ⨾ Perhaps (One event.Publish) ⨾ tx_left next) es → HasForm (tx_left st) (event.HostIn ∷ es)
    go st same next x es y =
        subst (λ (q : TxStage). HasForm (tx_left q) (event.HostIn ∷ es)) (sym same)
        (subst (λ (q : TxStage). TxGives q next) same x es y)

pub give_follows : (w : World) (seen file : ℕ) (t : TxTurn) (told : List ChainText) (c : Command) → t.stage ≡ tx.Give
    → AllFollow (Transmits file t told) c event.HostIn (tx_turns.hosts_of_turn w seen (Transmits file t told) c)
give_follows w seen file t told (command.TxTurn vhost) is =
    let P : Effect → Type 0 = Follows (Transmits file t told) (command.TxTurn vhost) event.HostIn in
    turning P w (command.TxTurn vhost) _ (λ vh v m. give_turning w seen file vh t told v m P is
    (λ next f x e h same. subst (Onto (tx_left t.stage) (command.TxTurn vhost) event.HostIn) (sym same) h))
give_follows w seen file t told (command.RxTurn vhost) is =
    let P : Effect → Type 0 = Follows (Transmits file t told) (command.RxTurn vhost) event.HostIn in
    turning P w (command.RxTurn vhost) _ (λ vh v m. give_turning w seen file vh t told v m P is
    (λ next f x e h same. subst (Onto (tx_left t.stage) (command.RxTurn vhost) event.HostIn) (sym same) h))
give_follows w seen file t told c is = tt
