-- The first event of a receive turn.
use Rattle.std.proofs.Common.{◌≡◌, ℕ, List, [], Bool, true, false, Option, Some, None, refl, sym, ap, ◌∙◌, subst, true≢false}
use Rattle.std.specs.Prelude.{◌&&◌, if◌then◌else◌, is_none, is_some}
use Rattle.std.specs.Option.{option_map_or}
use Rattle.tap_guests.specs.Side.{Side}
use Rattle.tap_ground.specs.Options.{◌>>=◌, only_if}
use Rattle.tap_ledger.specs.declared.act.Act.{Act}
use Rattle.tap_ledger.specs.declared.hand.Hand.TheVariants as hand
use Rattle.tap_sound.proofs.Kit.{only_some, some_same, some_then, then_some}
use Rattle.tap_trace.specs.declared.answer.Answer.TheVariants as answer
use Rattle.tap_trace.specs.declared.kind.Kind.{Kind}
use Rattle.tap_trace.specs.declared.turn.TurnText.{TurnText}
use Rattle.scen_words.specs.declared.command.Command.{Command}
use Rattle.scen_words.specs.declared.command.Command.TheVariants as command
use Rattle.tap_world.specs.declared.event.EventKind.TheVariants as event
use Rattle.tap_world.specs.declared.event.Found.{Found}
use Rattle.tap_world.specs.declared.told.Said.{Said}
use Rattle.tap_world.specs.ByNumber.{at, with_at}
use Rattle.tap_world.specs.Effect as world
use Rattle.tap_world.specs.Effect.{Effect}
use Rattle.tap_world.specs.Effect.OnFiles.{NoFile}
use Rattle.tap_world.specs.Guests.{Guest, Vhost, is_free}
use Rattle.tap_world.specs.Scripts.{next_kind}
use Rattle.tap_world.specs.Setup.{Numbered}
use Rattle.tap_world.specs.Step.{row}
use Rattle.tap_world.specs.StepTurns.{found_by, is_off, kind_of, off_told, over_told, rx_begins, rx_effect, rx_over, rx_state, rx_steps_on}
use Rattle.tap_world.specs.World as come
use Rattle.tap_world.specs.World.{Actor, World}
use Rattle.vhost_dev.specs.Settings.{hdr_of}
use Rattle.vring_turns.specs.RxTurn.{rx_begun, rx_step}
use Rattle.core_shared.proofs.Kit.{there, vhost_at}
use Rattle.core_shared.proofs.Leaving.{guest_with, held_guest, on_guest_left, turns_same}
use Rattle.core_shared.proofs.Taking.{guest_of_there, lies_in}
use Rattle.core_shared.specs.Asking.{Asking, setup}
use Rattle.core_shared.specs.Coming.{come_of}
use Rattle.core_shared.specs.Did.{Did, HasEffect}
use Rattle.core_shared.specs.MayDo.{MayDo, actor_at}
use Rattle.core_shared.specs.Worlds.{world_in}
use Rattle.core_shared.specs.declared.doing.Doing.TheVariants as doing
use Rattle.core_shared.specs.declared.onward.Onward.{Onward}
use Rattle.core_shared.specs.declared.onward.Onward.TheVariants as on
use Rattle.core_shared.specs.declared.shared.Shared.{Shared}
use Rattle.core_receive.specs.Going.{turn_goes}
use Rattle.core_receive.specs.Moved.{Moved}
use Rattle.core_receive.specs.Ready.{CanBegin, begun_on, off_in}
use Rattle.core_receive.proofs.Made.{made}
use Rattle.core_receive.proofs.Rows.{step_of}

module _ (a : Asking) (vhost : ℕ) (x : Shared) (is_command : a.command ≡ command.RxTurn vhost) where
  -- which event is first
  pub first_is : (actors : List Actor) (said : List Said) (side : Side) → at x.vhosts vhost ≡ Some side
      → (off : Bool) → is_some (is_off vhost 0 side.vhost) ≡ off
      → next_kind (world_in x actors said) (come_of x.vhosts doing.Begun) a.command
      ≡ Some (if off then event.Owner else event.Notices)
  first_is actors said side is_side off e =
      ap (λ (c : Command). next_kind (world_in x actors said) come.Doing.Begun c) is_command
      ∙ ap (λ (o : Option Vhost). Some (if option_map_or (λ v. is_some (is_off vhost 0 v)) o false then event.Owner else event.Notices))
      (vhost_at vhost x.vhosts side is_side)
      ∙ ap (λ (b : Bool). Some (if b then event.Owner else event.Notices)) e

  -- ---- Owner

  module _ (m : MayDo a doing.Begun event.Owner x) (side : Side) (is_side : at x.vhosts vhost ≡ Some side) (guest : Guest)
      (is_guest : at x.guests side.vhost.guest ≡ Some guest) (told : TurnText × Kind) (off : off_in x.vhosts vhost ≡ Some told) where
    is_off_now : is_off vhost 0 side.vhost ≡ Some told
    is_off_now = sym (ap (λ (o : Option Side). o >>= (λ s. is_off vhost 0 s.vhost)) is_side) ∙ off

    off_row : (actors : List Actor) (said : List Said) (rest : List Numbered)
        → row (setup a) (world_in x actors said) event.Owner a.actor (actor_at a come.Doing.Begun rest) a.number a.command
        ≡ only_if (is_free 0 side.vhost) (off_told (world_in x actors said) a.seen side.vhost guest.memory told)
    off_row actors said rest =
        let w = world_in x actors said in
        ap (λ (c : Command). row (setup a) w event.Owner a.actor (actor_at a come.Doing.Begun rest) a.number c) is_command
        ∙ ap (λ (o : Option Vhost). o >>= (λ v. at w.guests v.guest >>= (λ g. is_off vhost 0 v >>= (λ t. only_if (is_free 0 v)
        (off_told w a.seen v g.memory t))))) (vhost_at vhost x.vhosts side is_side)
        ∙ ap (λ (o : Option Guest). o >>= (λ g. is_off vhost 0 side.vhost >>= (λ t. only_if (is_free 0 side.vhost)
        (off_told w a.seen side.vhost g.memory t)))) is_guest
        ∙ ap (λ (o : Option (TurnText × Kind)). o >>= (λ t. only_if (is_free 0 side.vhost) (off_told w a.seen side.vhost guest.memory t)))
        is_off_now

    free : is_free 0 side.vhost ≡ true
    free = (only_some (is_free 0 side.vhost) (off_told (world_in x m.actors m.said) a.seen side.vhost guest.memory told) m.event.effect
        (sym (off_row m.actors m.said m.rest) ∙ m.event.is_row)).0

    pub off_did : Did a doing.Begun event.Owner x
        (record x { guests = with_at side.vhost.guest (guest_with a.actor a.number guest.memory (Some told.1) guest) x.guests })
        (on.Ends a.seen (answer.Turn 0 0 told.0 []))
    off_did = record {
      effect = off_told (world_in x [] []) a.seen side.vhost guest.memory told;
      has = record {
        is_next = λ actors said. first_is actors said side is_side true (ap (λ (o : Option (TurnText × Kind)). is_some o) is_off_now);
        is_row = λ actors said rest. off_row actors said rest
            ∙ ap (λ (b : Bool). only_if b (off_told (world_in x actors said) a.seen side.vhost guest.memory told)) free;
      };
      left = on_guest_left side.vhost.guest guest.memory (Some told.1) guest (world.Onward.Ends a.seen (answer.Turn 0 0 told.0 []))
          x.writer a x [] [] is_guest;
      onward = refl;
      held = held_guest (setup a) x side.vhost.guest guest (guest_with a.actor a.number guest.memory (Some told.1) guest) m.held is_guest refl;
      suits = tt;
      stay = turns_same a.actor x.vhosts;
    }

  -- ---- Notices

  begins_row : (actors : List Actor) (said : List Said) (rest : List Numbered) (side : Side) (guest : Guest)
      → at x.vhosts vhost ≡ Some side → at x.guests side.vhost.guest ≡ Some guest
      → row (setup a) (world_in x actors said) event.Notices a.actor (actor_at a come.Doing.Begun rest) a.number a.command
      ≡ rx_begins (world_in x actors said) a.actor a.seen vhost side.vhost guest.memory
  begins_row actors said rest side guest is_side is_guest =
      let w = world_in x actors said in
      ap (λ (c : Command). row (setup a) w event.Notices a.actor (actor_at a come.Doing.Begun rest) a.number c) is_command
      ∙ ap (λ (o : Option Vhost). o >>= (λ v. at w.guests v.guest >>= (λ g. rx_begins w a.actor a.seen vhost v g.memory)))
      (vhost_at vhost x.vhosts side is_side)
      ∙ ap (λ (o : Option Guest). o >>= (λ g. rx_begins w a.actor a.seen vhost side.vhost g.memory)) is_guest

  if_so : (b : Bool) (o : Option Effect) (r : Effect) → (if b then o else None) ≡ Some r → b ≡ true
  if_so true o r h = refl
  if_so false o r h = absurd (cc (h))

  first_of : (b c : Bool) → (b && c) ≡ true → b ≡ true
  first_of true c h = refl
  first_of false c h = absurd (true≢false (sym h))

  module _ (m : MayDo a doing.Begun event.Notices x) where
    -- the ring is free
    free_now : (side : Side) (guest : Guest) → at x.vhosts vhost ≡ Some side → at x.guests side.vhost.guest ≡ Some guest
        → is_free 0 side.vhost ≡ true
    free_now side guest is_side is_guest =
        let w = world_in x m.actors m.said in
        let is = sym (begins_row m.actors m.said m.rest side guest is_side is_guest) ∙ m.event.is_row in
        let one = then_some side.vhost.settings.rx.file (λ f. if is_free 0 side.vhost && is_none side.vhost.settings.rx.queue.stopped
        then rx_steps_on w a.actor a.seen vhost f (rx_begun side.vhost.settings.mrg (hdr_of side.vhost.settings)) side.vhost guest.memory
        else None) m.event.effect is in
        first_of (is_free 0 side.vhost) (is_none side.vhost.settings.rx.queue.stopped)
        (if_so (is_free 0 side.vhost && is_none side.vhost.settings.rx.queue.stopped)
        (rx_steps_on w a.actor a.seen vhost one.0 (rx_begun side.vhost.settings.mrg (hdr_of side.vhost.settings)) side.vhost guest.memory)
        m.event.effect one.2)

    pub can_begin : (side : Side) → at x.vhosts vhost ≡ Some side → is_some side.vhost.settings.rx.file ≡ true
        → side.vhost.settings.rx.queue.stopped ≡ None → CanBegin vhost x
    can_begin side is_side backed running =
        let g = there (at x.guests side.vhost.guest) (guest_of_there m vhost side is_side) in
        record {
          side = side;
          is_side = is_side;
          backed = backed;
          running = running;
          free = free_now side g.0 is_side g.1;
          guest = g.0;
          is_guest = g.1;
          within = lies_in m vhost side g.0 is_side g.1;
        }

    none_holds : (o : Option ℕ) (other : ℕ) → is_none o ≡ true → o ≡ Some other → other ≡ a.actor
    none_holds None other h e = absurd (cc (e))
    none_holds (Some n) other h e = absurd (true≢false (sym h))

    pub began : (mid : Shared) (can : CanBegin vhost x) (side : Side) (file : ℕ) (act : Act) (f : Found) (next : Onward)
        → at x.vhosts vhost ≡ Some side
        → side.vhost.settings.rx.file ≡ Some file
        → Moved a hand.Off vhost (begun_on side) x act None mid
        → found_by (kind_of vhost 0 act) None ≡ Some f
        → turn_goes a.seen vhost file f None ≡ Some next
        → Did a doing.Begun event.Notices x mid next
    began mid can side file act f next is_side is_file v is_f going =
        subst (λ (y : Shared). Did a doing.Begun event.Notices x y next) (sym v.becomes)
        (made a doing.Begun event.Notices hand.Off vhost file (begun_on side) act None x.files x next v.side v.left v.guest v.memory
        NoFile f v.is_side v.is_guest v.steps v.within v.regions m.held refl m.held.frames going is_command
        (λ other e. none_holds v.side.vhost.rx_turn other (free_now v.side v.guest v.is_side v.is_guest) e) has)
      where
        same : side ≡ v.side
        same = some_same side v.side (sym is_side ∙ v.is_side)

        running : is_none v.side.vhost.settings.rx.queue.stopped ≡ true
        running =
            let its : can.side ≡ v.side = some_same can.side v.side (sym can.is_side ∙ v.is_side) in
            ap (λ (s : Side). is_none s.vhost.settings.rx.queue.stopped) (sym its) ∙ ap (λ o. is_none o) can.running

        tests : (is_free 0 v.side.vhost && is_none v.side.vhost.settings.rx.queue.stopped) ≡ true
        tests = ap (λ (b : Bool). b && is_none v.side.vhost.settings.rx.queue.stopped) (free_now v.side v.guest v.is_side v.is_guest) ∙ running

        has : (told : Option TurnText) → over_told (rx_over v.steps.turn.stage) ≡ Some told
            → HasEffect a (come_of x.vhosts doing.Begun) event.Notices x
            (rx_effect (world_in x [] []) a.actor a.seen vhost file v.side.vhost NoFile f told
            (rx_state v.steps.turn v.left.vhost v.memory, act))
        has told is_told = record {
          is_next = λ actors said.
              ap (λ (c : Command). next_kind (world_in x actors said) come.Doing.Begun c) is_command
              ∙ sym (ap (λ (c : Command). next_kind (world_in x m.actors m.said) come.Doing.Begun c) is_command) ∙ m.event.is_next;
          is_row = λ actors said rest. begins_row actors said rest v.side v.guest v.is_side v.is_guest
              ∙ some_then v.side.vhost.settings.rx.file (λ n. if is_free 0 v.side.vhost && is_none v.side.vhost.settings.rx.queue.stopped
              then rx_steps_on (world_in x actors said) a.actor a.seen vhost n
              (rx_begun v.side.vhost.settings.mrg (hdr_of v.side.vhost.settings)) v.side.vhost v.guest.memory
              else None) file _ (ap (λ (s : Side). s.vhost.settings.rx.file) (sym same) ∙ is_file)
              (ap (λ (b : Bool). if b
              then rx_steps_on (world_in x actors said) a.actor a.seen vhost file
              (rx_begun v.side.vhost.settings.mrg (hdr_of v.side.vhost.settings)) v.side.vhost v.guest.memory
              else None) tests
              ∙ step_of (world_in x actors said) a.actor a.seen vhost file (begun_on v.side) v.side.vhost v.guest.memory
              (rx_state v.steps.turn v.left.vhost v.memory, act) f told
              (ap (λ (s : Side). rx_step hand.Off (rx_state (begun_on s) v.side.vhost v.guest.memory)) (sym same) ∙ v.steps.step)
              is_f is_told);
        }
