-- This project's own: an event of a transmit turn that is under way.
use Rattle.std.proofs.Common.{◌≡◌, ℕ, true, false, List, length, Option, Some, None, refl, sym, ap, ◌∙◌, subst, true≢false}
use Rattle.std.specs.Prelude.{if◌then◌else◌, is_some, IfSome, option_map}
use Rattle.std.specs.Option.{option_map_or}
use Rattle.scen_words.specs.declared.command.Command.{Command}
use Rattle.scen_words.specs.declared.command.Command.TheVariants as command
use Rattle.tap_frame.specs.Frame.{FrameValue}
use Rattle.tap_ground.specs.Options.{◌>>=◌}
use Rattle.tap_guests.specs.Side.{Side}
use Rattle.tap_guests.specs.Turning.{TxSteps}
use Rattle.tap_ledger.specs.declared.act.Act.{Act}
use Rattle.tap_sound.proofs.Kit.{some_same, where_some}
use Rattle.tap_trace.specs.declared.turn.ChainText.{ChainText}
use Rattle.tap_world.specs.declared.event.EventKind.{EventKind}
use Rattle.tap_world.specs.declared.event.EventKind.TheVariants as event
use Rattle.tap_world.specs.declared.told.Said.{Said}
use Rattle.tap_world.specs.ByNumber.{at}
use Rattle.tap_world.specs.Guests.{Guest, Vhost}
use Rattle.tap_world.specs.Scripts.{tx_next_kind}
use Rattle.tap_world.specs.Setup.{Numbered, Setup}
use Rattle.tap_world.specs.Step.{row}
use Rattle.tap_world.specs.Steady.{IsAtTurn, IsSending}
use Rattle.tap_world.specs.StepTurns.{end_told, kind_of}
use Rattle.tap_world.specs.StepTransmits.{chains_after, turns, tx_over, tx_state, tx_steps_on}
use Rattle.tap_world.specs.World as world
use Rattle.tap_world.specs.World.{Actor, World, name_of}
use Rattle.vhost_step.specs.Transmit.{tx_given}
use Rattle.vhost_tx.specs.Worker.{Worker}
use Rattle.vring_turns.specs.declared.end.End.{End}
use Rattle.vring_turns.specs.declared.end.TurnEnd.{TurnEnd}
use Rattle.vring_turns.specs.declared.stage.TxStage.{TxStage}
use Rattle.vring_turns.specs.declared.stage.TxStage.TheVariants as tx
use Rattle.vring_turns.specs.Stage.{is_giving}
use Rattle.vring_turns.specs.TxTurn.{TxTurn, tx_report}
use Rattle.core_shared.specs.Asking.{Asking, setup}
use Rattle.core_shared.specs.Coming.{come_of, tx_turn_in}
use Rattle.core_shared.specs.Did.{Did}
use Rattle.core_shared.specs.MayDo.{MayDo, actor_at}
use Rattle.core_shared.specs.Worlds.{world_in}
use Rattle.core_shared.specs.declared.doing.Doing.TheVariants as doing
use Rattle.core_shared.specs.declared.onward.Onward as shared
use Rattle.core_shared.specs.declared.shared.Shared.{Shared}
use Rattle.core_shared.proofs.Kit.{if_any, if_there, made_from, there, vhost_at}
use Rattle.core_shared.proofs.Leaving.{own_tx}
use Rattle.core_shared.proofs.Taking.{guest_of_there, lies_in, transmits_holds, tx_at, tx_vhost}
use Rattle.core_transmit.proofs.Changed.{after_at}
use Rattle.core_transmit.proofs.Held.{HeldWhole, IsWhole, held_by, held_whole, none_held, over_holds_none}
use Rattle.core_transmit.proofs.Made.{IsTold, is_told, over_by, step_did, words_told}
use Rattle.core_transmit.proofs.Rows.{next_is, row_is}
use Rattle.core_transmit.specs.Stepping.{Chains, Goes, IsThere, OnVhost, WentOn, held_in}

-- the row of a step that gives nothing is that of a turn
abbrev IsTurns : Setup → World → ℕ → ℕ → Actor → ℕ → EventKind → Type 0
IsTurns s w actor n a vhost kind =
    row s w kind actor a n (command.TxTurn vhost) ≡ turns w actor n a.seen a.doing (command.TxTurn vhost)

by_stage : (st : TxStage) (kind : EventKind) (s : Setup) (w : World) (actor n : ℕ) (a : Actor) (vhost file : ℕ) (t : TxTurn)
    (chains : List ChainText) → is_giving st ≡ false → tx_next_kind st ≡ Some kind
    → a.doing ≡ world.Doing.Transmits file t chains
    → IsTurns s w actor n a vhost kind
by_stage tx.Begin kind s w actor n a vhost file t chains not e d =
    subst (IsTurns s w actor n a vhost) (some_same event.Notices kind e) refl
by_stage tx.Fetch kind s w actor n a vhost file t chains not e d =
    subst (IsTurns s w actor n a vhost) (some_same event.Fetch kind e) refl
by_stage tx.NoticesOn kind s w actor n a vhost file t chains not e d =
    subst (IsTurns s w actor n a vhost) (some_same event.Notices kind e) refl
by_stage tx.FetchAgain kind s w actor n a vhost file t chains not e d =
    subst (IsTurns s w actor n a vhost) (some_same event.Fetch kind e) refl
by_stage (tx.NoticesOff fault) kind s w actor n a vhost file t chains not e d =
    subst (IsTurns s w actor n a vhost) (some_same event.Notices kind e) refl
by_stage tx.Copy kind s w actor n a vhost file t chains not e d =
    subst (IsTurns s w actor n a vhost) (some_same event.Copy kind e) refl
by_stage tx.Give kind s w actor n a vhost file t chains not e d = absurd (true≢false not)
by_stage (tx.Publish end) kind s w actor n a vhost file t chains not e d =
    subst (IsTurns s w actor n a vhost) (some_same event.PublishUsed kind e) refl
by_stage (tx.Ended end) kind s w actor n a vhost file t chains not e d = absurd (cc (e))

module _ {a : Asking} {vhost file : ℕ} {chains : Chains} {kind : EventKind} {x : Shared}
    (m : MayDo a (doing.Transmits vhost file chains) kind x) where
  pub the_turn : (t : TxTurn) × (tx_turn_in x.vhosts vhost ≡ Some t)
  the_turn = there (tx_turn_in x.vhosts vhost) m.suits.1

  abbrev pub turn : TxTurn
  turn = the_turn.0

  abbrev pub so_far : world.Doing
  so_far = world.Doing.Transmits file turn chains.items

  pub come : come_of x.vhosts (doing.Transmits vhost file chains) ≡ so_far
  come = ap (λ (o : Option TxTurn). option_map_or (λ t. world.Doing.Transmits file t chains.items) o world.Doing.Begun)
      the_turn.1

  pub transmits_there : IsThere vhost x
  transmits_there =
      let s = there (at x.vhosts vhost) (tx_vhost x.vhosts vhost m.suits.1) in
      let g = there (at x.guests s.0.vhost.guest) (guest_of_there m vhost s.0 s.1) in
      record {
        side = s.0;
        guest = g.0;
        is_side = s.1;
        is_guest = g.1;
        within = lies_in m vhost s.0 g.0 s.1 g.1;
      }

  its_turn : (s : Side) → at x.vhosts vhost ≡ Some s → option_map (λ (w : Worker). w.turn) s.tx ≡ Some turn
  its_turn s e = sym (tx_at x.vhosts vhost s e) ∙ the_turn.1

  its_worker : (s : Side) → at x.vhosts vhost ≡ Some s → (w : Worker) × (s.tx ≡ Some w) × (w.turn ≡ turn)
  its_worker s e = made_from (λ (w : Worker). w.turn) s.tx turn (its_turn s e)

  pub served : IfSome (at x.vhosts vhost) (λ (s : Side). is_some s.tx ≡ true)
  served = if_any (at x.vhosts vhost) (λ (s : Side). is_some s.tx ≡ true)
      (λ s e. ap (λ (o : Option Worker). is_some o) (its_worker s e).1)

  -- what is steady of it
  pub sending : IsSending (world_in x m.actors m.said) vhost file turn (name_of a.actor a.number)
  sending =
      let w = world_in x m.actors m.said in
      let at_turn : IsAtTurn (setup a) w (name_of a.actor a.number) a.command
      (come_of x.vhosts (doing.Transmits vhost file chains)) =
      m.steady.turns a.actor (actor_at a (come_of x.vhosts (doing.Transmits vhost file chains)) m.rest) m.is_actor
      (record { number = a.number; command = a.command }) refl in
      subst (λ (p : Command × world.Doing). IsAtTurn (setup a) w (name_of a.actor a.number) p.0 p.1)
      (λ i. (m.suits.0 i, come i)) at_turn

  pub stage_next : tx_next_kind turn.stage ≡ Some kind
  stage_next = next_is m so_far (command.TxTurn vhost) come m.suits.0

  module _ {told : Act} {given : Option FrameValue} {over : Option TurnEnd} {mid : Shared}
      (v : OnVhost vhost (Goes told given over) x mid) where
    -- the step is this turn's
    pub steps : TxSteps turn a.actor v.before v.guest.memory told given over v.after v.memory
    steps =
        let w = its_worker v.before v.is_before in
        let on = if_there v.before.tx (λ (u : Worker). IfSome v.before.vhost.tx_turn (λ holder.
        TxSteps u.turn holder v.before v.guest.memory told given over v.after v.memory)) w.0 w.1 v.way.goes in
        let mine = if_there v.before.vhost.tx_turn (λ holder.
        TxSteps w.0.turn holder v.before v.guest.memory told given over v.after v.memory) a.actor
        (transmits_holds m v.before v.is_before) on in
        subst (λ (t : TxTurn). TxSteps t a.actor v.before v.guest.memory told given over v.after v.memory) w.2 mine

    pub given_is : given ≡ tx_given turn.stage turn
    given_is =
        let w = its_worker v.before v.is_before in
        subst (λ (t : TxTurn). given ≡ tx_given t.stage t) w.2
        (if_there v.before.tx (λ (u : Worker). given ≡ tx_given u.turn.stage u.turn) w.0 w.1 v.way.gives)

    pub sender_is : sending.v ≡ v.before.vhost
    sender_is = some_same sending.v v.before.vhost (sym sending.is_vhost ∙ vhost_at vhost x.vhosts v.before v.is_before)

    pub guest_same : v.after.vhost.guest ≡ v.before.vhost.guest
    guest_same = ap (λ (u : Vhost). u.guest) steps.vhost

    -- what the worker holds then
    abbrev Holds : Option TurnEnd → Type 0
    Holds o = held_in v.after ≡ ((if is_some o then None else Some steps.turn) >>= λ (u : TxTurn). u.held)

    holds : Holds over
    holds = held_by v.after (if is_some over then None else Some steps.turn) steps.worker

    pub over_now : over ≡ option_map (λ (e : End). tx_report steps.turn e) (tx_over steps.turn.stage)
    over_now = steps.did ∙ over_by steps.turn.stage steps.turn

    holds_by : (p : Option End) → tx_over steps.turn.stage ≡ p → IfSome steps.turn.held (IsWhole steps.turn.stage)
        → held_in v.after ≡ steps.turn.held
    holds_by None e whole =
        subst Holds (over_now ∙ ap (λ (q : Option End). option_map (λ (y : End). tx_report steps.turn y) q) e) holds
    holds_by (Some y) e whole =
        subst Holds (over_now ∙ ap (λ (q : Option End). option_map (λ (z : End). tx_report steps.turn z) q) e) holds
        ∙ sym (over_holds_none steps.turn.stage y steps.turn.held e whole)

  -- ---- a step that gives nothing

  module _ {told : Act} {over : Option TurnEnd} {mid : Shared} (v : OnVhost vhost (Goes told None over) x mid) where
    abbrev pub now : TxSteps turn a.actor v.before v.guest.memory told None over v.after v.memory
    now = steps v

    held_before : turn.held ≡ None
    held_before = none_held turn.stage turn (sym (given_is v)) sending.ready.held

    gives_none : is_giving turn.stage ≡ false
    gives_none = sym sending.ready.held ∙ ap (λ (o : Option FrameValue). is_some o) held_before

    whole_now : IfSome now.turn.held (IsWhole now.turn.stage)
    whole_now = where_some HeldWhole _ _
        (held_whole turn.stage (tx_state turn v.before.vhost v.guest.memory) held_before) now.step

    holds_now : held_in v.after ≡ now.turn.held
    holds_now = holds_by v (tx_over now.turn.stage) refl whole_now

    pub whole_then : IfSome (at mid.vhosts vhost) (λ (s : Side). IfSome (held_in s) (λ f. f.mark ≡ length f.made))
    whole_then = if_any (at mid.vhosts vhost) (λ (s : Side). IfSome (held_in s) (λ f. f.mark ≡ length f.made)) (λ s e.
        let same : v.after ≡ s = some_same v.after s (sym (after_at v) ∙ e) in
        if_any (held_in s) (λ f. f.mark ≡ length f.made) (λ f is.
        (if_there now.turn.held (IsWhole now.turn.stage) f
        (sym holds_now ∙ ap (λ (q : Side). held_in q) same ∙ is) whole_now).0))

    -- its row
    steps_row : (actors : List Actor) (said : List Said) (rest : List Numbered)
        → row (setup a) (world_in x actors said) kind a.actor (actor_at a so_far rest) a.number (command.TxTurn vhost)
        ≡ tx_steps_on (world_in x actors said) a.actor a.seen vhost file turn chains.items v.before.vhost v.guest.memory
    steps_row actors said rest =
        let w = world_in x actors said in
        by_stage turn.stage kind (setup a) w a.actor a.number (actor_at a so_far rest) vhost file turn chains.items
        gives_none stage_next refl
        ∙ ap (λ (q : Option Vhost). q >>= λ u. at x.guests u.guest >>= λ g.
        tx_steps_on w a.actor a.seen vhost file turn chains.items u g.memory)
        (vhost_at vhost x.vhosts v.before v.is_before)
        ∙ ap (λ (q : Option Guest). q >>= λ g.
        tx_steps_on w a.actor a.seen vhost file turn chains.items v.before.vhost g.memory) v.is_guest

    pub going_told : IsTold m vhost file turn chains.items told over m.suits.0 v now
    going_told = is_told m vhost file turn chains.items told over m.suits.0 v now m.actors m.said m.event.effect
        (sym (steps_row m.actors m.said m.rest) ∙ row_is m so_far (command.TxTurn vhost) come m.suits.0 kind refl)

    pub going_kind : is_some (kind_of vhost 1 told) ≡ true
    going_kind = ap (λ o. is_some o) going_told.2

    pub going_words : IfSome over (λ r. is_some (end_told r.end) ≡ true)
    going_words = words_told m vhost file turn chains.items told over m.suits.0 v now going_told

    pub going_did : {new : Shared} (o : shared.Onward) → WentOn a vhost file chains.items told over mid new o
        → Did a (doing.Transmits vhost file chains) kind x new o
    going_did o w =
        let side : w.tells.side ≡ v.after = some_same w.tells.side v.after (sym w.tells.is_side ∙ after_at v) in
        step_did m vhost file turn chains.items told over m.suits.0 v now
        (w.kind, going_told.1, w.is_kind, going_told.3) w.tells w.more o
        (w.is_more ∙ ap (λ (h : Option FrameValue). chains_after told h chains.items)
        (ap (λ (q : Side). held_in q) side ∙ holds_now))
        w.onward so_far come kind refl (λ actors said. stage_next) steps_row
        (own_tx a.actor v.before v.after (transmits_holds m v.before v.is_before))
