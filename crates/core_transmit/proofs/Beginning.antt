-- This project's own: the first event of a transmit turn.
use Rattle.std.proofs.Common.{◌≡◌, ℕ, Bool, true, false, List, [], Option, Some, None, refl, sym, ap, ◌∙◌, subst, true≢false}
use Rattle.std.specs.Prelude.{if◌then◌else◌, ◌&&◌, is_none, is_some, IsSome}
use Rattle.std.specs.Option.{option_map_or}
use Rattle.scen_words.specs.Commands.{vhost_of}
use Rattle.scen_words.specs.declared.command.Command.{Command}
use Rattle.scen_words.specs.declared.command.Command.TheVariants as command
use Rattle.guest_mem.specs.Memory.{Contents}
use Rattle.tap_frame.specs.declared.name.Name.{Name}
use Rattle.tap_frame.specs.Frame.{FrameValue}
use Rattle.tap_ground.specs.Options.{◌>>=◌, only_if}
use Rattle.tap_guests.specs.Side.{Side}
use Rattle.tap_guests.specs.Turning.{TxSteps}
use Rattle.tap_ledger.specs.declared.act.Act.{Act}
use Rattle.tap_sound.proofs.Kit.{only_some, some_same, then_some}
use Rattle.tap_trace.specs.declared.answer.Answer.TheVariants as answer
use Rattle.tap_trace.specs.declared.kind.Kind.{Kind}
use Rattle.tap_trace.specs.declared.turn.TurnText.{TurnText}
use Rattle.tap_world.specs.declared.event.EventKind.{EventKind}
use Rattle.tap_world.specs.declared.event.EventKind.TheVariants as event
use Rattle.tap_world.specs.declared.told.Said.{Said}
use Rattle.tap_world.specs.ByNumber.{at}
use Rattle.tap_world.specs.Effect.{Effect}
use Rattle.tap_world.specs.Effect.Onward.{Ends}
use Rattle.tap_world.specs.Guests.{Guest, Vhost, is_free}
use Rattle.tap_world.specs.Scripts.{turn_first}
use Rattle.tap_world.specs.Setup.{Numbered}
use Rattle.tap_world.specs.Step.{row}
use Rattle.tap_world.specs.StepTransmits.{chains_after, tx_begins, tx_state, tx_steps_on}
use Rattle.tap_world.specs.StepTurns.{is_off, kind_of, off_told}
use Rattle.tap_world.specs.World as world
use Rattle.tap_world.specs.World.{Actor, World, name_of}
use Rattle.vhost_dev.specs.Settings.{hdr_of}
use Rattle.vring_turns.specs.declared.stage.TxStage.TheVariants as tx
use Rattle.vring_turns.specs.Ring.{noticed}
use Rattle.vring_turns.specs.TxTurn.{TxState, TxTurn, tx_begun, tx_made, tx_ring}
use Rattle.core_shared.specs.Asking.{Asking, setup}
use Rattle.core_shared.specs.Did.{Did}
use Rattle.core_shared.specs.MayDo.{MayDo, actor_at}
use Rattle.core_shared.specs.Worlds.{world_in}
use Rattle.core_shared.specs.declared.doing.Doing.TheVariants as doing
use Rattle.core_shared.specs.declared.onward.Onward as shared
use Rattle.core_shared.specs.declared.onward.Onward.TheVariants as on
use Rattle.core_shared.specs.declared.shared.Shared.{Shared}
use Rattle.core_shared.proofs.Kit.{there, vhost_at}
use Rattle.core_shared.proofs.Leaving.{free_tx_may, held_guest, on_guest_left, turns_same}
use Rattle.core_shared.proofs.Taking.{guest_of_there, lies_in, vhost_named}
use Rattle.core_transmit.proofs.Made.{is_told, step_did}
use Rattle.core_transmit.proofs.Rows.{has_effect, next_is, row_is}
use Rattle.core_transmit.specs.Stepping.{BeganSo, IsThere, MayBegin, Tells, with_step}

if_some : {A : Type 0} (b : Bool) (o : Option A) (r : A) → (if b then o else None) ≡ Some r → b ≡ true
if_some true o r e = refl
if_some false o r e = absurd (cc (e))

both : (b c : Bool) → (b && c) ≡ true → (b ≡ true) × (c ≡ true)
both true c e = (refl, e)
both false c e = absurd (true≢false (sym e))

none_of : {A : Type 0} (o : Option A) → is_none o ≡ true → o ≡ None
none_of None e = refl
none_of (Some x) e = absurd (true≢false (sym e))

-- ---- the first step

abbrev first_told : TxTurn → Vhost → Contents → Act
first_told t v m = (noticed false (tx_ring (tx_state t v m)) m).told

module _ (header holder : ℕ) (first : Name) (before after : Side) (m m' : Contents) (told : Act)
    (steps : TxSteps (tx_begun header first) holder before m told None None after m') where
  -- it is one of notices
  pub told_is : first_told (tx_begun header first) before.vhost m ≡ told
  told_is =
      let s = tx_state (tx_begun header first) before.vhost m in
      ap (λ (p : TxState × Act). p.1) (some_same (tx_made (noticed false (tx_ring s) m) tx.Fetch s) _ steps.step)

  pub has_kind : (vhost : ℕ) → is_some (kind_of vhost 1 told) ≡ true
  has_kind vhost = subst (λ (q : Act). is_some (kind_of vhost 1 q) ≡ true) told_is refl

  no_chain : (held : Option FrameValue) → chains_after told held [] ≡ []
  no_chain held = subst (λ (q : Act). chains_after q held [] ≡ []) told_is refl

  -- the vhost's guest and the ring's backend stay
  pub guest_stays : after.vhost.guest ≡ before.vhost.guest
  guest_stays = ap (λ (u : Vhost). u.guest) steps.vhost

  pub file_stays : after.vhost.settings.tx.file ≡ before.vhost.settings.tx.file
  file_stays = ap (λ (u : Vhost). u.settings.tx.file) steps.vhost

module _ {a : Asking} {kind : EventKind} {x : Shared} (m : MayDo a doing.Begun kind x) (vhost : ℕ)
    (asked : a.command ≡ command.TxTurn vhost) where
  pub side_there : IsSome (at x.vhosts vhost)
  side_there = vhost_named m vhost (ap (λ (c : Command). vhost_of c) asked)

  pub begun_there : IsThere vhost x
  begun_there =
      let s = there (at x.vhosts vhost) side_there in
      let g = there (at x.guests s.0.vhost.guest) (guest_of_there m vhost s.0 s.1) in
      record {
        side = s.0;
        guest = g.0;
        is_side = s.1;
        is_guest = g.1;
        within = lies_in m vhost s.0 g.0 s.1 g.1;
      }

  -- ---- which event it is

  abbrev first_by : Bool → EventKind
  first_by b = if b then event.Owner else event.Notices

  first_is : (s : Side) (o : Option (TurnText × Kind)) → at x.vhosts vhost ≡ Some s → is_off vhost 1 s.vhost ≡ o
      → (actors : List Actor) (said : List Said)
      → turn_first (world_in x actors said) vhost 1 ≡ first_by (is_some o)
  first_is s o is_side off actors said =
      ap (λ (q : Option Vhost). first_by (option_map_or (λ v. is_some (is_off vhost 1 v)) q false))
      (vhost_at vhost x.vhosts s is_side)
      ∙ ap (λ (q : Option (TurnText × Kind)). first_by (is_some q)) off

  kind_is : (s : Side) (o : Option (TurnText × Kind)) → at x.vhosts vhost ≡ Some s → is_off vhost 1 s.vhost ≡ o
      → kind ≡ first_by (is_some o)
  kind_is s o is_side off =
      sym (some_same (first_by (is_some o)) kind
      (ap Some (sym (first_is s o is_side off m.actors m.said))
      ∙ next_is m world.Doing.Begun (command.TxTurn vhost) refl asked))

  -- ---- Owner

  module _ {new : Shared} (words : TurnText) (k : Kind) (g : Tells a vhost k x new)
      (off : is_off vhost 1 g.side.vhost ≡ Some (words, k)) where
    abbrev off_effect : World → Effect
    off_effect w = off_told w a.seen g.side.vhost g.guest.memory (words, k)

    off_row : (actors : List Actor) (said : List Said) (rest : List Numbered)
        → row (setup a) (world_in x actors said) event.Owner a.actor (actor_at a world.Doing.Begun rest) a.number
        (command.TxTurn vhost)
        ≡ only_if (is_free 1 g.side.vhost) (off_effect (world_in x actors said))
    off_row actors said rest =
        let w = world_in x actors said in
        ap (λ (q : Option Vhost). q >>= λ v. at x.guests v.guest >>= λ h. is_off vhost 1 v >>= λ t.
        only_if (is_free 1 v) (off_told w a.seen v h.memory t)) (vhost_at vhost x.vhosts g.side g.is_side)
        ∙ ap (λ (q : Option Guest). q >>= λ h. is_off vhost 1 g.side.vhost >>= λ t.
        only_if (is_free 1 g.side.vhost) (off_told w a.seen g.side.vhost h.memory t)) g.is_guest
        ∙ ap (λ (q : Option (TurnText × Kind)). q >>= λ t.
        only_if (is_free 1 g.side.vhost) (off_told w a.seen g.side.vhost g.guest.memory t)) off

    is_owner : kind ≡ event.Owner
    is_owner = kind_is g.side (Some (words, k)) g.is_side off

    is_free_now : is_free 1 g.side.vhost ≡ true
    is_free_now =
        (only_some (is_free 1 g.side.vhost) (off_effect (world_in x m.actors m.said)) m.event.effect
        (sym (off_row m.actors m.said m.rest)
        ∙ row_is m world.Doing.Begun (command.TxTurn vhost) refl asked event.Owner is_owner)).0

    pub off_did : Did a doing.Begun kind x new (on.Ends a.seen (answer.Turn 0 0 words []))
    off_did = subst (λ (q : Shared). Did a doing.Begun kind x q (on.Ends a.seen (answer.Turn 0 0 words []))) (sym g.left)
        (record {
          effect = off_effect (world_in x [] []);
          has = has_effect m world.Doing.Begun (command.TxTurn vhost) refl asked event.Owner (off_effect (world_in x [] []))
              is_owner (λ actors said. ap Some (first_is g.side (Some (words, k)) g.is_side off actors said))
              (λ actors said rest. off_row actors said rest
              ∙ ap (λ (b : Bool). only_if b (off_effect (world_in x actors said))) is_free_now);
          left = on_guest_left g.side.vhost.guest g.guest.memory (Some k) g.guest
              (Ends a.seen (answer.Turn 0 0 words [])) x.writer a x [] [] g.is_guest;
          onward = refl;
          held = held_guest (setup a) x g.side.vhost.guest g.guest (with_step a k g.guest) m.held g.is_guest refl;
          suits = tt;
          stay = turns_same a.actor x.vhosts;
        })

  -- ---- Notices

  module _ (s : Side) (g : Guest) (is_side : at x.vhosts vhost ≡ Some s) (is_guest : at x.guests s.vhost.guest ≡ Some g)
      (off : is_off vhost 1 s.vhost ≡ None) where
    is_notices : kind ≡ event.Notices
    is_notices = kind_is s None is_side off

    begin_row : (actors : List Actor) (said : List Said) (rest : List Numbered)
        → row (setup a) (world_in x actors said) event.Notices a.actor (actor_at a world.Doing.Begun rest) a.number
        (command.TxTurn vhost)
        ≡ tx_begins (world_in x actors said) a.actor a.number a.seen vhost s.vhost g.memory
    begin_row actors said rest =
        let w = world_in x actors said in
        ap (λ (q : Option Vhost). q >>= λ v. at x.guests v.guest >>= λ h.
        tx_begins w a.actor a.number a.seen vhost v h.memory) (vhost_at vhost x.vhosts s is_side)
        ∙ ap (λ (q : Option Guest). q >>= λ h. tx_begins w a.actor a.number a.seen vhost s.vhost h.memory) is_guest

    begins_some : tx_begins (world_in x m.actors m.said) a.actor a.number a.seen vhost s.vhost g.memory ≡ Some m.event.effect
    begins_some =
        sym (begin_row m.actors m.said m.rest)
        ∙ row_is m world.Doing.Begun (command.TxTurn vhost) refl asked event.Notices is_notices

    abbrev may : Bool
    may = is_free 1 s.vhost && is_none s.vhost.settings.tx.queue.stopped

    abbrev steps_by : List Actor → List Said → ℕ → Option Effect
    steps_by actors said file =
        tx_steps_on (world_in x actors said) a.actor a.seen vhost file
        (tx_begun (hdr_of s.vhost.settings) (name_of a.actor a.number)) [] s.vhost g.memory

    file_then : (file : ℕ) × (s.vhost.settings.tx.file ≡ Some file)
        × ((if may then steps_by m.actors m.said file else None) ≡ Some m.event.effect)
    file_then = then_some s.vhost.settings.tx.file _ m.event.effect begins_some

    may_now : may ≡ true
    may_now = if_some may (steps_by m.actors m.said file_then.0) m.event.effect file_then.2

    pub free_now : is_free 1 s.vhost ≡ true
    free_now = (both (is_free 1 s.vhost) (is_none s.vhost.settings.tx.queue.stopped) may_now).0

    pub may_begin : MayBegin s
    may_begin = record {
      backed = ap (λ (o : Option ℕ). is_some o) file_then.1;
      running = none_of s.vhost.settings.tx.queue.stopped
          (both (is_free 1 s.vhost) (is_none s.vhost.settings.tx.queue.stopped) may_now).1;
      free = free_now;
    }

    pub steps_row : (file : ℕ) → s.vhost.settings.tx.file ≡ Some file
        → (actors : List Actor) (said : List Said) (rest : List Numbered)
        → row (setup a) (world_in x actors said) event.Notices a.actor (actor_at a world.Doing.Begun rest) a.number
        (command.TxTurn vhost) ≡ steps_by actors said file
    steps_row file is_file actors said rest =
        begin_row actors said rest
        ∙ ap (λ (o : Option ℕ). o >>= λ n. if may then steps_by actors said n else None) is_file
        ∙ ap (λ (b : Bool). if b then steps_by actors said file else None) may_now

    pub steps_some : (file : ℕ) → s.vhost.settings.tx.file ≡ Some file → steps_by m.actors m.said file ≡ Some m.event.effect
    steps_some file is_file =
        sym (steps_row file is_file m.actors m.said m.rest)
        ∙ row_is m world.Doing.Begun (command.TxTurn vhost) refl asked event.Notices is_notices

  module _ {new : Shared} (o : shared.Onward) (b : BeganSo a vhost x new o)
      (off : is_off vhost 1 b.begins.before.vhost ≡ None) where
    abbrev before : Side
    before = b.begins.before

    abbrev first : Name
    first = name_of a.actor a.number

    file_is : before.vhost.settings.tx.file ≡ Some b.file
    file_is =
        sym (file_stays (hdr_of before.vhost.settings) a.actor first before b.begins.after b.begins.guest.memory
        b.begins.memory b.told b.begins.way) ∙ b.is_file

    pub began_did : Did a doing.Begun kind x new o
    began_did =
        let v = b.begins in
        let told = is_told m vhost b.file (tx_begun (hdr_of before.vhost.settings) first) [] b.told None asked v v.way m.actors m.said m.event.effect
        (steps_some v.before v.guest v.is_before v.is_guest off b.file file_is) in
        step_did m vhost b.file (tx_begun (hdr_of before.vhost.settings) first) [] b.told None asked v v.way (b.kind, told.1, b.is_kind, told.3) b.tells b.chains o
        (b.none
        ∙ sym (no_chain (hdr_of before.vhost.settings) a.actor first before v.after v.guest.memory v.memory b.told v.way
        v.way.turn.held)) (ap Some (sym b.onward)) world.Doing.Begun refl event.Notices
        (is_notices v.before v.guest v.is_before v.is_guest off)
        (λ actors said. ap Some (first_is v.before None v.is_before off actors said))
        (λ actors said rest. steps_row v.before v.guest v.is_before v.is_guest off b.file file_is actors said rest)
        (free_tx_may a.actor v.before v.after
        (none_of v.before.vhost.tx_turn (free_now v.before v.guest v.is_before v.is_guest off)))
