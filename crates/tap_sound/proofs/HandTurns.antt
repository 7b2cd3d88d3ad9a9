-- What the events of a receive turn do with the frame in hand.
use Rattle.std.proofs.Common.{◌≡◌, ◌⊎◌, ℕ, List, Bool, true, false, Option, Some, None, inl, inr, refl, sym, ap, ◌∙◌, subst, true≢false}
use Rattle.std.specs.Prelude.{◌+◌, length, option_map, slice_get, min}
use Rattle.tap_frame.specs.Frame.{FrameValue}
use Rattle.tap_ledger.specs.declared.act.Act.{Act}
use Rattle.tap_ledger.specs.declared.fate.Fate.{Fate}
use Rattle.tap_ledger.specs.declared.fate.Fate.TheVariants as fate
use Rattle.tap_ledger.specs.declared.hand.Hand.TheVariants as hand
use Rattle.vring_turns.specs.declared.stage.After.{After}
use Rattle.vring_turns.specs.declared.stage.After.TheVariants as after
use Rattle.vring_turns.specs.declared.stage.RxStage.{RxStage}
use Rattle.vring_turns.specs.declared.stage.RxStage.TheVariants as rx
use Rattle.vring_turns.specs.ReceiveImage.{copies_in}
use Rattle.vring_turns.specs.Ring.{Gathered, Made}
use Rattle.vring_turns.specs.RxTurn as turn
use Rattle.vring_turns.specs.RxTurn.{RxState, RxTurn}
use Rattle.scen_words.specs.declared.command.Command.{Command}
use Rattle.scen_words.specs.declared.command.Command.TheVariants as command
use Rattle.tap_world.specs.declared.event.EventKind.{EventKind}
use Rattle.tap_world.specs.declared.event.EventKind.TheVariants as event
use Rattle.tap_world.specs.declared.event.Found.{Found}
use Rattle.tap_world.specs.declared.event.Found.TheVariants as found
use Rattle.tap_world.specs.ByNumber.{at}
use Rattle.tap_ground.specs.Options.{◌>>=◌}
use Rattle.tap_world.specs.Frames.{FrameText}
use Rattle.tap_world.specs.Setup.{Numbered, Setup, frame_sent}
use Rattle.tap_world.specs.declared.line.Entry.{Entry}
use Rattle.tap_world.specs.Line.{File, first_that, in_batch}
use Rattle.tap_world.specs.LineSteps.{changed}
use Rattle.tap_world.specs.LineSteps.Change.{Leaves, PutsBack, Takes}
use Rattle.tap_world.specs.World.{Doing, World}
use Rattle.tap_world.specs.World.Doing.{Receives}
use Rattle.tap_world.specs.Effect.{Effect, OnFiles, Onward}
use Rattle.tap_world.specs.Effect.OnFiles.{OnFile}
use Rattle.tap_world.specs.Effect.Onward.{Goes}
use Rattle.tap_world.specs.Scripts.{is_kind, next_kind, rx_next_kind}
use Rattle.tap_world.specs.Step.{row}
use Rattle.tap_world.specs.StepTurns as rx_turns
use Rattle.tap_world.specs.StepTransmits as tx_turns
use Rattle.tap_world.specs.SoundActors.{can_be}
use Rattle.vring_turns.specs.Stage.{has_in_hand}
use Rattle.tap_world.specs.Sound.{front_name}
use Rattle.tap_sound.proofs.Kit.{WhereSome, some_same, some_then, then_some, where_some, where_then}
use Rattle.tap_sound.proofs.Steps.{turning, over_none, rx_stepped, rx_taken}
use Rattle.tap_sound.proofs.Follows.{at_kind}
use Rattle.tap_trace.specs.declared.turn.TurnText.{TurnText}

-- ---- steps with a frame in hand, after which it still is

-- neither out nor put back next
goes_on : RxStage → Bool
goes_on rx.Fetch = true
goes_on rx.NoticesOn = true
goes_on rx.FetchAgain = true
goes_on (rx.NoticesOff way) = true
goes_on rx.Copy = true
goes_on st = false

abbrev Held : Option FrameValue → RxState × Act → Type 0
Held held made = (has_in_hand made.0.turn.stage ≡ true) × (made.0.turn.held ≡ held)

way_held : (way : After) → has_in_hand (turn.stage_of way) ≡ true
way_held after.Fetch = refl
way_held after.Copy = refl
way_held (after.Discard had) = refl
way_held (after.PutBack e) = refl

first_held : (o : Option After) → has_in_hand (turn.rx_after_fetch o) ≡ true
first_held None = refl
first_held (Some way) = way_held way

second_held : (need : ℕ) (cs : List Gathered) (o : Option After) → has_in_hand (turn.rx_after_second need cs o) ≡ true
second_held need cs None = refl
second_held need cs (Some way) = refl

with_held : (st : RxStage) (frame : FrameValue) (s : RxState) → goes_on st ≡ true → WhereSome (Held s.turn.held) (turn.rx_with st frame s)
unfolding goes_on
with_held rx.Fetch frame s e = (first_held (turn.rx_way _ s), refl)
with_held rx.FetchAgain frame s e = (second_held _ s.turn.chains (turn.rx_way _ s), refl)
with_held rx.Copy frame s e = go (copies_in s.turn.header frame (turn.rx_ring s) s.memory)
  where
    go : (o : Option Made) → WhereSome (Held s.turn.held) (elim o [
      | None ↦ None
      | Some made ↦
          let next = turn.rx_made made rx.Out s in
          Some (record next.0 { turn = record next.0.turn { handled = s.turn.handled + length s.turn.chains } }, next.1)
    ])
    go None = tt
    go (Some made) = (refl, refl)
with_held rx.Out frame s e = absurd (true≢false (sym e))
with_held (rx.Discard had) frame s e = absurd (true≢false (sym e))
with_held (rx.PutBack x) frame s e = absurd (true≢false (sym e))
with_held st frame s e = tt

next_held : (st : RxStage) (s : RxState) → s.turn.stage ≡ st → goes_on st ≡ true → WhereSome (Held s.turn.held) (turn.rx_next st hand.Off s)
unfolding goes_on
next_held rx.Begin s is e = absurd (true≢false (sym e))
next_held rx.Hand s is e = absurd (true≢false (sym e))
next_held rx.NoticesOn s is e = (refl, refl)
next_held (rx.NoticesOff way) s is e = (way_held way, refl)
next_held (rx.Publish x) s is e = absurd (true≢false (sym e))
next_held (rx.Ended x) s is e = absurd (true≢false (sym e))
next_held st s is e = go s.turn.held
  where
    go : (o : Option FrameValue) → WhereSome (Held s.turn.held) (turn.rx_in_hand o s)
    go None = tt
    go (Some frame) = with_held s.turn.stage frame s (ap goes_on is ∙ e)

not_over : (st : RxStage) → has_in_hand st ≡ true → rx_turns.rx_over st ≡ None
not_over (rx.Ended x) e = absurd (true≢false (sym e))
not_over st e = refl

-- ---- an event of a turn that has a frame in hand: it keeps it, or the file has none in hand any more

abbrev pub Frees : ℕ → OnFiles → Type 0
Frees file o = ((worker : Option ℕ) × (f : Fate) × (o ≡ OnFile file (Leaves worker f))) ⊎ ((vhost : ℕ) × (o ≡ OnFile file (PutsBack vhost)))

abbrev pub GoesHeld : ℕ → Option FrameValue → Onward → Type 0
GoesHeld file held o = (seen : ℕ) × (u : RxTurn) × (f : Found) × (o ≡ Goes seen (Receives file u) f) × (has_in_hand u.stage ≡ true) × (u.held ≡ held)

abbrev pub Keeps : ℕ → Option FrameValue → Effect → Type 0
Keeps file held r = GoesHeld file held r.onward ⊎ Frees file r.files

onward_held : (seen file : ℕ) (held : Option FrameValue) (f : Found) (made : RxState × Act) → Held held made
    → (over : Option TurnText) → rx_turns.over_told (rx_turns.rx_over made.0.turn.stage) ≡ Some over → GoesHeld file held (rx_turns.rx_onward seen file made.0.turn f over)
onward_held seen file held f made h over told =
    (seen, made.0.turn, f, ap (rx_turns.rx_onward seen file made.0.turn f) (over_none _ over told (not_over made.0.turn.stage h.0)), h.0, h.1)

made_keeps : (st : RxStage) (seen vhost file : ℕ) (t : RxTurn) (f : Found) (made : RxState × Act) → t.stage ≡ st → has_in_hand st ≡ true → (goes_on st ≡ true → Held t.held made)
    → (over : Option TurnText) → rx_turns.over_told (rx_turns.rx_over made.0.turn.stage) ≡ Some over
    → GoesHeld file t.held (rx_turns.rx_onward seen file made.0.turn f over) ⊎ Frees file (rx_turns.rx_change vhost file t t.stage)
unfolding goes_on
made_keeps rx.Out seen vhost file t f made is h on over told = inr (inl (Some vhost, fate.Guest, ap (rx_turns.rx_change vhost file t) is))
made_keeps (rx.Discard had) seen vhost file t f made is h on over told = inr (inl (Some vhost, _, ap (rx_turns.rx_change vhost file t) is))
made_keeps (rx.PutBack x) seen vhost file t f made is h on over told = inr (inr (vhost, ap (rx_turns.rx_change vhost file t) is))
made_keeps rx.Begin seen vhost file t f made is h on over told = absurd (true≢false (sym h))
made_keeps rx.Hand seen vhost file t f made is h on over told = absurd (true≢false (sym h))
made_keeps (rx.Publish x) seen vhost file t f made is h on over told = absurd (true≢false (sym h))
made_keeps (rx.Ended x) seen vhost file t f made is h on over told = absurd (true≢false (sym h))
made_keeps st seen vhost file t f made is h on over told = inl (onward_held seen file t.held f made (on refl) over told)

turn_keeps : (w : World) (actor n seen file : ℕ) (t : RxTurn) (c : Command) → has_in_hand t.stage ≡ true
    → WhereSome (Keeps file t.held) (tx_turns.turns w actor n seen (Receives file t) c)
turn_keeps w actor n seen file t c h = turning (Keeps file t.held) w c (tx_turns.goes_on w actor seen (Receives file t))
    (λ vhost v m. where_then (Keeps file t.held) (turn.rx_step hand.Off (rx_turns.rx_state t v m)) _
    (λ made e. rx_stepped (Keeps file t.held) w actor seen vhost file t v made (λ f over e2 told. made_keeps t.stage seen vhost file t f made refl h
    (λ on. where_some (Held t.held) (turn.rx_step hand.Off (rx_turns.rx_state t v m)) made (next_held t.stage (rx_turns.rx_state t v m) refl on) e) over told)))

-- the row of the event that comes next in such a turn
pub row_keeps : (s : Setup) (w : World) (k : EventKind) (actor seen : ℕ) (script : List Numbered) (n file : ℕ) (t : RxTurn) (c : Command) (st : RxStage) → t.stage ≡ st
    → has_in_hand st ≡ true → is_kind k (rx_next_kind w file st) ≡ true
    → WhereSome (Keeps file t.held) (row s w k actor (record { seen = seen; script = script; doing = Receives file t }) n c)
row_keeps s w k actor seen script n file t c st is h e = go st h e (turn_keeps w actor n seen file t c (ap has_in_hand is ∙ h))
  where
    P : EventKind → Type 0
    P j = WhereSome (Keeps file t.held) (row s w j actor (record { seen = seen; script = script; doing = Receives file t }) n c)

    go : (st : RxStage) → has_in_hand st ≡ true → is_kind k (rx_next_kind w file st) ≡ true
        → WhereSome (Keeps file t.held) (tx_turns.turns w actor n seen (Receives file t) c) → P k
    go rx.Begin h e q = absurd (true≢false (sym h))
    go rx.Hand h e q = absurd (true≢false (sym h))
    go (rx.Publish x) h e q = absurd (true≢false (sym h))
    go (rx.Ended x) h e q = absurd (true≢false (sym h))
    go rx.Fetch h e q = at_kind P k event.Fetch e q
    go rx.NoticesOn h e q = at_kind P k event.Notices e q
    go rx.FetchAgain h e q = at_kind P k event.Fetch e q
    go (rx.NoticesOff way) h e q = at_kind P k event.Notices e q
    go rx.Copy h e q = at_kind P k event.Copy e q
    go rx.Out h e q = at_kind P k event.Out e q
    go (rx.Discard had) h e q = at_kind P k event.Out e q
    go (rx.PutBack x) h e q = at_kind P k event.PutBack e q

-- ---- the event that takes a frame in hand

hand_stage : (w : World) (file : ℕ) (st : RxStage) → is_kind event.Hand (rx_next_kind w file st) ≡ true → st ≡ rx.Hand
hand_stage w file rx.Hand e = refl
hand_stage w file st e = absurd (true≢false (sym e))

got_held : (st : RxStage) (frame : FrameValue) (s : RxState) → rx.Hand ≡ st → WhereSome (Held (Some frame)) (turn.rx_next st (hand.Got frame) s)
got_held st frame s is = subst (λ (x : RxStage). WhereSome (Held (Some frame)) (turn.rx_next x (hand.Got frame) s)) is (refl, refl)

-- the frame is the batch's front
abbrev frame_made : Entry → FrameText → FrameValue
frame_made e f = record { name = e.name; hdr = f.hdr; made = f.ether; mark = min e.len (length f.ether) }

frame_named : (s : Setup) (e : Entry) (frame : FrameValue) → rx_turns.frame_at s e ≡ Some frame → e.name ≡ frame.name
frame_named s e frame h = go (frame_sent s e.name) h
  where
    go : (o : Option FrameText) → option_map (frame_made e) o ≡ Some frame → e.name ≡ frame.name
    go None k = absurd (cc (k))
    go (Some f) k = ap (λ (x : FrameValue). x.name) (some_same (frame_made e f) frame k)

front_named : (s : Setup) (f : File) (frame : FrameValue) → rx_turns.front_frame s f ≡ Some frame → front_name f.line ≡ Some frame.name
front_named s f frame h =
    let i = then_some (first_that in_batch f.line) _ frame h in
    let e = then_some (slice_get f.line i.0) _ frame i.2 in
    some_then (first_that in_batch f.line) (λ j. slice_get f.line j >>= λ (x : Entry). Some x.name) i.0 frame.name i.1
    (some_then (slice_get f.line i.0) (λ (x : Entry). Some x.name) e.0 frame.name e.1 (ap Some (frame_named s e.0 frame e.2)))

pub record TakesBy (w : World) (c : Command) (r : Effect) : Type 0 where
  pub vhost : ℕ
  pub file : ℕ
  pub files : r.files ≡ OnFile file (Takes vhost)
  pub before : File
  pub now : File
  pub frame : FrameValue
  pub found : at w.files file ≡ Some before
  pub changes : changed (Takes vhost) before ≡ Some now
  pub front : front_name now.line ≡ Some frame.name
  pub goes : GoesHeld file (Some frame) r.onward
  pub asked : c ≡ command.RxTurn vhost

pub hands_take : (s : Setup) (w : World) (actor seen : ℕ) (d : Doing) (c : Command) → can_be d c ≡ true → is_kind event.Hand (next_kind w d c) ≡ true
    → WhereSome (TakesBy w c) (tx_turns.hands s w actor seen d c)
hands_take s w actor seen (Receives file t) (command.RxTurn vhost) can e =
    let c : Command = command.RxTurn vhost in
    where_then (TakesBy w c) (at w.vhosts vhost) _ (λ v e1. where_then (TakesBy w c) (at w.guests v.guest) _
    (λ g e2. where_then (TakesBy w c) (at w.files file) _ (λ f e3. where_then (TakesBy w c) (changed (Takes vhost) f) _
    (λ h e4. where_then (TakesBy w c) (rx_turns.front_frame s h) _ (λ frame e5. where_then (TakesBy w c) (turn.rx_step (hand.Got frame) (rx_turns.rx_state t v g.memory)) _
    (λ made e6. rx_taken (TakesBy w c) w actor seen vhost file v frame made (λ over told. record {
      vhost = vhost;
      file = file;
      files = refl;
      before = f;
      now = h;
      frame = frame;
      found = e3;
      changes = e4;
      front = front_named s h frame e5;
      goes = onward_held seen file (Some frame) (found.Moved frame.name) made
          (where_some (Held (Some frame)) (turn.rx_step (hand.Got frame) (rx_turns.rx_state t v g.memory)) made
          (got_held t.stage frame (rx_turns.rx_state t v g.memory) (sym (hand_stage w file t.stage e))) e6) over told;
      asked = refl;
    })))))))
hands_take s w actor seen (Receives file t) c can e = absurd (true≢false (sym can))
hands_take s w actor seen d c can e = tt
