-- A receive turn after a step of it.
use Rattle.std.proofs.Common.{◌≡◌, ℕ, ◌<◌, List, [], ◌∷◌, Bool, true, false, true≢false, Option, Some, None, refl, sym, ap, ◌∙◌, subst}
use Rattle.std.specs.Prelude.{◌==◌}
use Rattle.std.specs.Option.{option_map_or}
use Rattle.guest_mem.specs.Memory.{Contents}
use Rattle.tap_frame.specs.Frame.{FrameValue}
use Rattle.tap_ledger.specs.declared.act.Act.{Act}
use Rattle.tap_ledger.specs.declared.act.Act.TheVariants as act
use Rattle.tap_ledger.specs.declared.fate.Fate.{Fate}
use Rattle.tap_ledger.specs.declared.hand.Hand.{Hand}
use Rattle.tap_ledger.specs.declared.hand.Hand.TheVariants as hand
use Rattle.vhost_queue.specs.Queue.{Queue}
use Rattle.vring_turns.specs.declared.stage.After.TheVariants as after
use Rattle.vring_turns.specs.declared.stage.RxStage.{RxStage}
use Rattle.vring_turns.specs.declared.stage.RxStage.TheVariants as rx
use Rattle.vring_turns.specs.Ring.{room_in}
use Rattle.vring_turns.specs.RxTurn.{RxState, RxTurn, rx_next, rx_step}
use Rattle.vring_turns.specs.Stage.{gathers_at, has_in_hand, need_at, rx_is_over}
use Rattle.vring_turns.specs.Standing.{RxStands, RxStandsAt}
use Rattle.tap_world.specs.ByNumber.{at, with_at}
use Rattle.tap_world.specs.Setup.{Setup}
use Rattle.tap_world.specs.Line.{File, first_that, in_batch}
use Rattle.tap_world.specs.LineSteps.{Change, changed, is_in_hand_of, may_leave, moves_to}
use Rattle.tap_world.specs.LineSteps.Change.{Leaves, PutsBack, Takes}
use Rattle.tap_world.specs.declared.line.Standing.TheVariants.{Out}
use Rattle.tap_world.specs.declared.line.Standing.{Standing}
use Rattle.tap_world.specs.Guests.{Vhost}
use Rattle.tap_world.specs.Effect.{OnFiles, files_after, vhosts_after}
use Rattle.tap_world.specs.Effect.OnFiles.{NoFile, OnFile}
use Rattle.tap_world.specs.Effect.OnVhosts.{OnVhost}
use Rattle.tap_world.specs.StepTurns as rx_turns
use Rattle.tap_world.specs.StepTurns.{front_frame, left}
use Rattle.tap_sound.proofs.Kit.{only_some, some_same, then_some, where_some}
use Rattle.tap_sound.proofs.Taken.{if_some}
use Rattle.tap_sound.proofs.Turned.{itself}
use Rattle.tap_steady.proofs.Kit.{with_at_here}
use Rattle.tap_steady.proofs.TurnBegins.{RxBefore, TurnLaws}
use Rattle.tap_steady.proofs.TurnFacts.{RxFacts}
use Rattle.tap_steady.proofs.TurnSteps.{HandsNone, Overruns, RxOn, leaves_at, next_on}

-- ---- stages

-- chains are gathered while they are too short
short_of : (t : RxTurn) (q : Queue) → RxStands t q → (st : RxStage) → t.stage ≡ st → gathers_at st ≡ true → room_in t.chains < need_at t.header t.held
short_of t q h rx.Fetch is g = (subst (λ (st : RxStage). RxStandsAt st t q) is h.stage).short
short_of t q h rx.NoticesOn is g = (subst (λ (st : RxStage). RxStandsAt st t q) is h.stage).short
short_of t q h rx.FetchAgain is g = (subst (λ (st : RxStage). RxStandsAt st t q) is h.stage).short
short_of t q h (rx.NoticesOff after.Fetch) is g = (subst (λ (st : RxStage). RxStandsAt st t q) is h.stage).short
short_of t q h st is g = absurd (true≢false (sym g))

not_over : (st : RxStage) → rx_turns.rx_over st ≡ None → rx_is_over st ≡ false
not_over (rx.Ended e) h = absurd (cc (h))
not_over st h = refl

change_none : (vhost file : ℕ) (t : RxTurn) (st : RxStage) → leaves_at st ≡ false → rx_turns.rx_change vhost file t st ≡ NoFile
change_none vhost file t rx.Out h = absurd (true≢false h)
change_none vhost file t (rx.Discard had) h = absurd (true≢false h)
change_none vhost file t (rx.PutBack e) h = absurd (true≢false h)
change_none vhost file t st h = refl

-- a change after which nothing is in hand
record Frees (file : ℕ) (o : OnFiles) : Type 0 where
  change : Change
  is : o ≡ OnFile file change
  none : (f g : File) → changed change f ≡ Some g → g.hand ≡ None

left_none : (s : Standing) (f g : File) (o : Option ℕ) → moves_to s (record f { hand = None }) o ≡ Some g → g.hand ≡ None
left_none s f g None e = absurd (cc (e))
left_none s f g (Some i) e = ap (λ (o : Option File). hand_in o) (sym e)
  where
    hand_in : Option File → Option ℕ
    hand_in None = None
    hand_in (Some q) = q.hand

leaves_none : (worker : Option ℕ) (fate : Fate) (f g : File) → changed (Leaves worker fate) f ≡ Some g → g.hand ≡ None
leaves_none worker fate f g e = left_none (Out fate) f g (first_that in_batch f.line) (if_some (may_leave worker f) _ g e).1

change_frees : (vhost file : ℕ) (t : RxTurn) (st : RxStage) → leaves_at st ≡ true → Frees file (rx_turns.rx_change vhost file t st)
change_frees vhost file t rx.Out h = record { change = _; is = refl; none = leaves_none (Some vhost) _ }
change_frees vhost file t (rx.Discard had) h = record { change = _; is = refl; none = leaves_none (Some vhost) _ }
change_frees vhost file t (rx.PutBack e) h = record {
  change = PutsBack vhost;
  is = refl;
  none = λ f g c. ap (λ (q : File). q.hand) (sym (only_some (is_in_hand_of vhost f) (record f { hand = None }) g c).1);
}
change_frees vhost file t st h = absurd (true≢false (sym h))

-- ---- the file after it

pub record FileAfter (file : ℕ) (c : Change) (f : File) (files : List (Option File)) : Type 0 where
  pub g : File
  pub made : changed c f ≡ Some g
  pub is : at files file ≡ Some g

pub file_after : (file : ℕ) (c : Change) (f : File) (files new : List (Option File)) → at files file ≡ Some f → files_after (OnFile file c) files ≡ Some new
    → FileAfter file c f new
file_after file c f files new there e =
    let x = then_some (at files file) _ new e in
    let y = then_some (changed c x.0) _ new x.2 in
    let same : x.0 ≡ f = some_same x.0 f (sym x.1 ∙ there) in
    record {
      g = y.0;
      made = ap (changed c) (sym same) ∙ y.1;
      is = ap (λ (q : List (Option File)). at q file) (sym (some_same (with_at file y.0 files) new y.2)) ∙ with_at_here file y.0 x.0 files x.1;
    }

-- what the worker has in hand
record HandFacts (s : Setup) (files : List (Option File)) (vhost file : ℕ) (t : RxTurn) : Type 0 where
  f : File
  is_file : at files file ≡ Some f
  in_hand : is_in_hand_of vhost f ≡ has_in_hand t.stage
  front : has_in_hand t.stage ≡ true → front_frame s f ≡ t.held

module _ (s : Setup) (laws : TurnLaws) (files new : List (Option File)) (vhosts : List (Option Vhost)) (vhost file me : ℕ) (t : RxTurn) (v : Vhost) (m : Contents)
    (made : RxState × Act) (before : RxBefore s files vhost file t v) (at_v : at vhosts vhost ≡ Some v) (goes : rx_turns.rx_over made.0.turn.stage ≡ None) where
  -- with the ring and the file of now
  together : (h : Hand) → rx_step h (rx_turns.rx_state t v m) ≡ Some made → made.0.turn.mergeable ≡ t.mergeable → made.0.turn.header ≡ t.header
      → Overruns made.0.turn.stage (need_at made.0.turn.header made.0.turn.held) → HandFacts s new vhost file made.0.turn
      → RxFacts s new (vhosts_after (OnVhost vhost (left 0 me false made.0.queue v)) vhosts) vhost file made.0.turn
  together h step mergeable header overruns x = record {
    v = left 0 me false made.0.queue v;
    f = x.f;
    is_vhost = with_at_here vhost (left 0 me false made.0.queue v) v vhosts at_v;
    is_file = x.is_file;
    goes_on = not_over made.0.turn.stage goes;
    backend = before.backend;
    mergeable = mergeable ∙ before.mergeable;
    header = header ∙ before.header;
    ready = laws.rx_stay t made.0.turn v.settings.rx.queue made.0.queue
        (record { before = rx_turns.rx_state t v m; hand = h; told = made.1; after = made.0 } ∷ []) before.stands before.ready
        (refl, refl, step, (refl, refl));
    in_hand = x.in_hand;
    front = x.front;
    overruns = overruns;
  }

  -- no frame was handed out
  pub rx_went : (h : Hand) → HandsNone h → rx_step h (rx_turns.rx_state t v m) ≡ Some made → files_after (rx_turns.rx_change vhost file t t.stage) files ≡ Some new
      → RxFacts s new (vhosts_after (OnVhost vhost (left 0 me false made.0.queue v)) vhosts) vhost file made.0.turn
  rx_went h none step after = together h step on.mergeable on.header
      (subst (λ (n : ℕ). Overruns made.0.turn.stage (need_at n made.0.turn.held)) (sym on.header) on.overruns) (hands (leaves_at t.stage) refl)
    where
      on : RxOn t.stage t made
      on = where_some (RxOn t.stage t) _ made
          (next_on t.stage h (rx_turns.rx_state t v m) refl none (short_of t v.settings.rx.queue before.stands t.stage refl) before.overruns) step

      hands : (b : Bool) → leaves_at t.stage ≡ b → HandFacts s new vhost file made.0.turn
      hands false is =
          let same : files ≡ new = some_same files new (ap (λ (o : OnFiles). files_after o files) (sym (change_none vhost file t t.stage is)) ∙ after) in
          record {
            f = before.f;
            is_file = ap (λ (q : List (Option File)). at q file) (sym same) ∙ before.is_file;
            in_hand = before.in_hand ∙ sym (on.stays is);
            front = λ held. before.front (sym (on.stays is) ∙ held) ∙ sym (on.held is);
          }
      hands true is =
          let c = change_frees vhost file t t.stage is in
          let x = file_after file c.change before.f files new before.is_file (ap (λ (o : OnFiles). files_after o files) (sym c.is) ∙ after) in
          record {
            f = x.g;
            is_file = x.is;
            in_hand = ap (λ (o : Option ℕ). option_map_or (λ n. n == vhost) o false) (c.none before.f x.g x.made) ∙ sym (on.freed is);
            front = λ held. absurd (true≢false (sym held ∙ on.freed is));
          }

  -- the batch's front was handed out
  pub rx_took : (f0 g0 : File) (frame : FrameValue) → t.stage ≡ rx.Hand → at files file ≡ Some f0 → changed (Takes vhost) f0 ≡ Some g0 → front_frame s g0 ≡ Some frame
      → rx_step (hand.Got frame) (rx_turns.rx_state t v m) ≡ Some made → files_after (OnFile file (Takes vhost)) files ≡ Some new
      → RxFacts s new (vhosts_after (OnVhost vhost (left 0 me false made.0.queue v)) vhosts) vhost file made.0.turn
  rx_took f0 g0 frame stage there taken front step after =
      let st = rx_turns.rx_state t v m in
      let is : (record st { turn = record t { held = Some frame; stage = rx.Fetch } }, act.Hand) ≡ made =
      some_same _ made (ap (λ (q : RxStage). rx_next q (hand.Got frame) st) (sym stage) ∙ step) in
      let stage_is : made.0.turn.stage ≡ rx.Fetch = ap (λ (x : RxState × Act). x.0.turn.stage) (sym is) in
      let x = file_after file (Takes vhost) f0 files new there after in
      let same : x.g ≡ g0 = some_same x.g g0 (sym x.made ∙ taken) in
      together (hand.Got frame) step (ap (λ (y : RxState × Act). y.0.turn.mergeable) (sym is)) (ap (λ (y : RxState × Act). y.0.turn.header) (sym is))
      (subst (λ (q : RxStage). Overruns q (need_at made.0.turn.header made.0.turn.held)) (sym stage_is) tt) (record {
        f = x.g;
        is_file = x.is;
        in_hand = ap (λ (o : Option ℕ). option_map_or (λ n. n == vhost) o false) (taken_hand f0 x.g x.made) ∙ itself vhost ∙ ap has_in_hand (sym stage_is);
        front = λ held. ap (front_frame s) same ∙ front ∙ ap (λ (y : RxState × Act). y.0.turn.held) is;
      })
    where
      taken_hand : (f g : File) → changed (Takes vhost) f ≡ Some g → g.hand ≡ Some vhost
      taken_hand f g e = ap (λ (q : File). q.hand) (sym (only_some _ _ g e).1)
