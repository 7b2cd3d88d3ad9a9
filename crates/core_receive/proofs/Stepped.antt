-- The step of a receive turn that asks for no frame, as an event.
use Rattle.std.proofs.Common.{◌≡◌, ℕ, List, [], ◌∷◌, true, false, Option, Some, None, refl, sym, ap, ◌∙◌, subst, true≢false}
use Rattle.std.specs.Prelude.{IfSome, is_some}
use Rattle.std.specs.Option.{option_map_or}
use Rattle.tap_frame.specs.declared.name.Name.{Name}
use Rattle.tap_frame.specs.Frame.{FrameValue}
use Rattle.tap_guests.specs.Side.{Side}
use Rattle.tap_ledger.specs.declared.act.Act.{Act}
use Rattle.tap_ledger.specs.declared.hand.Hand.TheVariants as hand
use Rattle.tap_lines.specs.Files.{files_of}
use Rattle.tap_lines.specs.Placed.{MayChange, Placed}
use Rattle.tap_sound.proofs.Kit.{some_same}
use Rattle.tap_trace.specs.declared.kind.Kind.{Kind}
use Rattle.tap_trace.specs.declared.turn.TurnText.{TurnText}
use Rattle.scen_words.specs.declared.command.Command.{Command}
use Rattle.tap_world.specs.declared.event.EventKind.{EventKind}
use Rattle.tap_world.specs.declared.event.Found.{Found}
use Rattle.tap_world.specs.declared.told.Said.{Said}
use Rattle.tap_world.specs.ByNumber.{at}
use Rattle.tap_world.specs.Effect.{Effect, OnFiles, files_after}
use Rattle.tap_world.specs.Effect.OnFiles.{OnFile}
use Rattle.tap_world.specs.Line.{File}
use Rattle.tap_world.specs.Scripts.{next_kind, rx_next_kind}
use Rattle.tap_world.specs.Setup.{Numbered, Setup}
use Rattle.tap_world.specs.Step.{row}
use Rattle.tap_world.specs.StepTransmits.{goes_on}
use Rattle.tap_world.specs.StepTurns.{found_by, front_frame, held_name, kind_of, over_told, rx_change, rx_effect, rx_over, rx_state, rx_steps_on}
use Rattle.tap_world.specs.World as come
use Rattle.tap_world.specs.World.{Actor, World}
use Rattle.tap_world.specs.World.Doing.{Receives}
use Rattle.vhost_rx.specs.Worker.{Worker}
use Rattle.vhost_step.specs.Receive.{comes_back, rx_went}
use Rattle.vhost_step.specs.declared.went.Went.{Went}
use Rattle.vring_turns.specs.declared.end.TurnEnd.{TurnEnd}
use Rattle.vring_turns.specs.declared.stage.RxStage.{RxStage}
use Rattle.vring_turns.specs.declared.stage.RxStage.TheVariants as rx
use Rattle.vring_turns.specs.RxTurn.{RxState, RxTurn}
use Rattle.vring_turns.specs.Stage.{has_in_hand, is_asking}
use Rattle.core_shared.proofs.Kit.{placed_at, vhost_at}
use Rattle.core_shared.proofs.Knowing.{were_sent}
use Rattle.core_shared.proofs.Taking.{may_change}
use Rattle.core_shared.specs.Asking.{Asking, setup}
use Rattle.core_shared.specs.Coming.{come_of}
use Rattle.core_shared.specs.Did.{Did, HasEffect}
use Rattle.core_shared.specs.MayDo.{MayDo, actor_at}
use Rattle.core_shared.specs.Worlds.{world_in}
use Rattle.core_shared.specs.declared.doing.Doing.TheVariants as doing
use Rattle.core_shared.specs.declared.onward.Onward.{Onward}
use Rattle.core_shared.specs.declared.shared.Shared.{Shared}
use Rattle.core_receive.specs.Going.{AreSent, ComesSent, MayGoSo, file_change, turn_goes}
use Rattle.core_receive.specs.Moved.{Moved}
use Rattle.core_receive.proofs.Fronting.{HasFront, front_is}
use Rattle.core_receive.proofs.Known.{Known}
use Rattle.core_receive.proofs.Made.{made}
use Rattle.core_receive.proofs.Rows.{StepIs, next_any, on_turn_is, row_at, step_is, step_of}

-- ---- the file's change at a stage

held_at : (t : RxTurn) → is_some t.held ≡ true → (frame : FrameValue) × (t.held ≡ Some frame)
held_at t h = go t.held h
  where
    go : (o : Option FrameValue) → is_some o ≡ true → (x : FrameValue) × (o ≡ Some x)
    go None h = absurd (true≢false (sym h))
    go (Some x) h = (x, refl)

-- a stage that holds a frame where it says so
abbrev HoldsAt : RxStage → RxTurn → Type 0
HoldsAt st t = is_some t.held ≡ has_in_hand st

change_is : (vhost file : ℕ) (t : RxTurn) (st : RxStage) → HoldsAt st t
    → file_change vhost file (rx_went st t) ≡ rx_change vhost file t st
change_is vhost file t rx.Begin h = refl
change_is vhost file t rx.Hand h = refl
change_is vhost file t rx.Fetch h = refl
change_is vhost file t rx.NoticesOn h = refl
change_is vhost file t rx.FetchAgain h = refl
change_is vhost file t (rx.NoticesOff way) h = refl
change_is vhost file t rx.Copy h = refl
change_is vhost file t rx.Out h = refl
change_is vhost file t (rx.Discard had) h = refl
change_is vhost file t (rx.PutBack end) h =
    ap (λ (o : Option FrameValue). file_change vhost file (comes_back o)) (held_at t h).1
change_is vhost file t (rx.Publish end) h = refl
change_is vhost file t (rx.Ended end) h = refl

-- the frame that comes back is the front of the batch, and was sent
pub may_go : (s : Setup) (vhost file : ℕ) (t : RxTurn) (p : Placed) (st : RxStage) → HoldsAt st t
    → ((c : _) → rx_change vhost file t st ≡ OnFile file c → MayChange c p.file)
    → (has_in_hand st ≡ true → (frame : FrameValue) → t.held ≡ Some frame → HasFront s p.file frame)
    → MayGoSo vhost (rx_went st t) p × ComesSent s (rx_went st t)
may_go s vhost file t p rx.Begin h may front = (tt, tt)
may_go s vhost file t p rx.Hand h may front = (tt, tt)
may_go s vhost file t p rx.Fetch h may front = (tt, tt)
may_go s vhost file t p rx.NoticesOn h may front = (tt, tt)
may_go s vhost file t p rx.FetchAgain h may front = (tt, tt)
may_go s vhost file t p (rx.NoticesOff way) h may front = (tt, tt)
may_go s vhost file t p rx.Copy h may front = (tt, tt)
may_go s vhost file t p rx.Out h may front = (may _ refl, tt)
may_go s vhost file t p (rx.Discard had) h may front = (may _ refl, tt)
may_go s vhost file t p (rx.PutBack end) h may front =
    let held = held_at t h in
    let has : HasFront s p.file held.0 = front refl held.0 held.1 in
    subst (λ (o : Option FrameValue). MayGoSo vhost (comes_back o) p × ComesSent s (comes_back o)) (sym held.1)
    ((may _ refl, has.index, has.is_front, has.its), has.sent)
may_go s vhost file t p (rx.Publish end) h may front = (tt, tt)
may_go s vhost file t p (rx.Ended end) h may front = (tt, tt)

-- ---- the event

module _ (a : Asking) (vhost file : ℕ) (kind : EventKind) (x mid : Shared) (act : Act) (over : Option TurnEnd) (went : Went)
    (m : MayDo a (doing.Receives vhost file) kind x) (k : Known a vhost file kind x m)
    (v : Moved a hand.Off vhost k.worker.turn x act over mid)
    (goes_out : went ≡ rx_went k.worker.turn.stage k.worker.turn)
    (asks : is_asking k.worker.turn.stage ≡ false) where
  abbrev pub t : RxTurn
  t = k.worker.turn

  abbrev pub w : World
  w = world_in x m.actors m.said

  holds : HoldsAt t.stage t
  holds = k.receives.ready.held

  is_next : rx_next_kind w file t.stage ≡ Some kind
  is_next = sym (ap (λ (d : come.Doing). next_kind w d a.command) k.come) ∙ m.event.is_next

  -- the row, whoever the actors are
  row_is : (actors : List Actor) (said : List Said) (rest : List Numbered)
      → row (setup a) (world_in x actors said) kind a.actor
      (actor_at a (come_of x.vhosts (doing.Receives vhost file)) rest) a.number a.command
      ≡ rx_steps_on (world_in x actors said) a.actor a.seen vhost file t v.side.vhost v.guest.memory
  row_is actors said rest =
      ap (λ (d : come.Doing). row (setup a) (world_in x actors said) kind a.actor (actor_at a d rest) a.number a.command) k.come
      ∙ ap (λ (c : Command). row (setup a) (world_in x actors said) kind a.actor (actor_at a (Receives file t) rest) a.number c)
      k.command
      ∙ row_at (setup a) (world_in x actors said) kind a.actor a.seen a.number vhost file
      (record { number = a.number; command = a.command } ∷ rest) t t.stage asks
      (next_any x file actors m.actors said m.said t.stage ∙ is_next)
      ∙ on_turn_is (world_in x actors said) vhost v.side.vhost v.guest
      (goes_on (world_in x actors said) a.actor a.seen (Receives file t))
      (vhost_at vhost x.vhosts v.side v.is_side) v.is_guest

  -- the event's effect, taken apart
  pub s : StepIs w a.actor a.seen vhost file t v.side.vhost v.guest.memory m.event.effect
  s = step_is w a.actor a.seen vhost file t v.side.vhost v.guest.memory m.event.effect
      (sym (row_is m.actors m.said m.rest) ∙ m.event.is_row)

  same_made : s.made ≡ (rx_state v.steps.turn v.left.vhost v.memory, act)
  same_made = some_same s.made _ (sym s.step ∙ v.steps.step)

  pub is_found : found_by (kind_of vhost 0 act) (held_name t.held) ≡ Some s.event.found
  is_found = ap (λ (y : RxState × Act). found_by (kind_of vhost 0 y.1) (held_name t.held)) (sym same_made)
      ∙ s.event.is_found

  -- the name of the frame in hand, as the code reads it
  pub name_is : (side : Side) → at x.vhosts vhost ≡ Some side
      → option_map_or (λ (q : Worker). held_name q.turn.held) side.rx None ≡ held_name t.held
  name_is side is =
      let same : side ≡ k.side = some_same side k.side (sym is ∙ k.is_side) in
      ap (λ (o : Option Worker). option_map_or (λ (q : Worker). held_name q.turn.held) o None)
      (ap (λ (y : Side). y.rx) same ∙ k.is_worker)

  -- ---- the file

  pub placed : (p : Placed) × (at x.files file ≡ Some p) × (p.file ≡ k.receives.f)
  placed = placed_at file x.files k.receives.f k.receives.is_file

  pub same_files : mid.files ≡ x.files
  same_files = ap (λ (y : Shared). y.files) v.becomes

  pub is_there : at mid.files file ≡ Some placed.0
  is_there = ap (λ (l : List (Option Placed)). at l file) same_files ∙ placed.1

  may : (c : _) → rx_change vhost file t t.stage ≡ OnFile file c → MayChange c placed.0.file
  may c e = may_change m file c placed.0 placed.1 (ap (λ (r : Effect). r.files) (sym s.event.is) ∙ e)

  front : has_in_hand t.stage ≡ true → (frame : FrameValue) → t.held ≡ Some frame → HasFront (setup a) placed.0.file frame
  front has frame is = front_is (setup a) placed.0.file frame (were_sent m file placed.0 placed.1)
      (ap (λ (f : File). front_frame (setup a) f) placed.2 ∙ k.receives.front has ∙ is)

  goes : MayGoSo vhost went placed.0 × ComesSent (setup a) went
  goes = subst (λ (y : Went). MayGoSo vhost y placed.0 × ComesSent (setup a) y) (sym goes_out)
      (may_go (setup a) vhost file t placed.0 t.stage holds may front)

  pub may_go_so : IfSome (at mid.files file) (λ p. MayGoSo vhost went p)
  may_go_so = subst (λ (o : Option Placed). IfSome o (λ p. MayGoSo vhost went p)) (sym is_there) goes.0

  -- ---- the event was done

  pub did : (files : List (Option Placed)) (f : Found) (next : Onward)
      → files_after (file_change vhost file went) (files_of mid.files) ≡ Some (files_of files)
      → ((q : Setup) → AreSent q mid.files → ComesSent q went → AreSent q files)
      → found_by (kind_of vhost 0 act) (held_name t.held) ≡ Some f
      → turn_goes a.seen vhost file f over ≡ Some next
      → Did a (doing.Receives vhost file) kind x (record mid { files = files }) next
  did files f next changes sent is_f going =
      subst (λ (y : Shared). Did a (doing.Receives vhost file) kind x (record y { files = files }) next) (sym v.becomes)
      (made a (doing.Receives vhost file) kind hand.Off vhost file t act over files x next v.side v.left v.guest v.memory
      (rx_change vhost file t t.stage) f v.is_side v.is_guest v.steps v.within v.regions m.held
      (sym (ap (λ (c : OnFiles). files_after c (files_of x.files)) change)
      ∙ sym (ap (λ (l : List (Option Placed)). files_after (file_change vhost file went) (files_of l)) same_files) ∙ changes)
      (sent (setup a) (subst (λ (l : List (Option Placed)). AreSent (setup a) l) (sym same_files) m.held.frames) goes.1)
      going k.command own has)
    where
      change : file_change vhost file went ≡ rx_change vhost file t t.stage
      change = ap (λ (y : Went). file_change vhost file y) goes_out ∙ change_is vhost file t t.stage holds

      own : (other : ℕ) → v.side.vhost.rx_turn ≡ Some other → other ≡ a.actor
      own other e =
          let same : v.side ≡ k.side = some_same v.side k.side (sym v.is_side ∙ k.is_side) in
          some_same other a.actor (sym e ∙ ap (λ (y : Side). y.vhost.rx_turn) same ∙ k.holder)

      has : (told : Option TurnText) → over_told (rx_over v.steps.turn.stage) ≡ Some told
          → HasEffect a (come_of x.vhosts (doing.Receives vhost file)) kind x
          (rx_effect (world_in x [] []) a.actor a.seen vhost file v.side.vhost (rx_change vhost file t t.stage) f told
          (rx_state v.steps.turn v.left.vhost v.memory, act))
      has told is_told = record {
        is_next = λ actors said.
            ap (λ (d : come.Doing). next_kind (world_in x actors said) d a.command) k.come
            ∙ next_any x file actors m.actors said m.said t.stage ∙ is_next;
        is_row = λ actors said rest. row_is actors said rest
            ∙ step_of (world_in x actors said) a.actor a.seen vhost file t v.side.vhost v.guest.memory
            (rx_state v.steps.turn v.left.vhost v.memory, act) f told v.steps.step is_f is_told;
      }

  -- what the code found is what the event tells
  pub found_is : (f : Option Found) (step : Option Kind) (name : Option Name) (side : Side) → at x.vhosts vhost ≡ Some side
      → f ≡ found_by step name → step ≡ kind_of vhost 0 act
      → name ≡ option_map_or (λ (q : Worker). held_name q.turn.held) side.rx None
      → f ≡ found_by (kind_of vhost 0 act) (held_name t.held)
  found_is f step name side is e p q =
      e ∙ ap (λ (o : Option Kind). found_by o name) p
      ∙ ap (λ (o : Option Name). found_by (kind_of vhost 0 act) o) (q ∙ name_is side is)
