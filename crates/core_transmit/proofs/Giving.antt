-- This project's own: an event of a transmit turn that gives a frame to the host.
use Rattle.std.proofs.Common.{◌≡◌, ℕ, ◌<◌, true, List, [], ◌∷◌, ◌++◌, Option, Some, None, refl, sym, ap, ◌∙◌, subst}
use Rattle.std.specs.Prelude.{if◌then◌else◌, is_some, IfSome, option_map}
use Rattle.std.specs.Option.{option_map_or}
use Rattle.scen_words.specs.declared.command.Command.TheVariants as command
use Rattle.tap_flow_key.specs.FlowKey.{hash}
use Rattle.tap_frame.specs.Frame.{FrameValue}
use Rattle.tap_ground.specs.Options.{◌>>=◌}
use Rattle.tap_guests.specs.Lending.{with_memory}
use Rattle.tap_guests.specs.Side.{Side}
use Rattle.tap_guests.specs.Turning.{TxSteps, tx_left}
use Rattle.tap_guests.specs.Within.{IsIn}
use Rattle.tap_ledger.specs.declared.act.Act.{Act}
use Rattle.tap_sound.proofs.Kit.{some_same}
use Rattle.tap_world.specs.declared.event.EventKind.{EventKind}
use Rattle.tap_world.specs.declared.event.EventKind.TheVariants as event
use Rattle.tap_world.specs.declared.event.Found.TheVariants as found
use Rattle.tap_world.specs.declared.told.Said.{Said}
use Rattle.tap_world.specs.ByNumber.{at, with_at}
use Rattle.tap_world.specs.Effect.{Effect, only}
use Rattle.tap_world.specs.Effect.Onward.{Goes as GoesOn}
use Rattle.tap_world.specs.Guests.{Guest, Vhost, with_queue, with_turn}
use Rattle.tap_world.specs.Scripts.{tx_next_kind}
use Rattle.tap_world.specs.Setup.{Numbered}
use Rattle.tap_world.specs.Step.{row}
use Rattle.tap_world.specs.StepTransmits.{gives, tx_over, tx_state, with_host}
use Rattle.tap_world.specs.World as world
use Rattle.tap_world.specs.World.{Actor, World}
use Rattle.vhost_queue.specs.Queue.{Queue}
use Rattle.vhost_step.specs.Transmit.{Gives, GivesAlone}
use Rattle.vring_turns.specs.declared.end.End.{End}
use Rattle.vring_turns.specs.declared.end.TurnEnd.{TurnEnd}
use Rattle.vring_turns.specs.declared.stage.TxStage.TheVariants as tx
use Rattle.vring_turns.specs.Ring.{done_in}
use Rattle.vring_turns.specs.Stage.{is_giving}
use Rattle.vring_turns.specs.TxTurn.{TxState, TxTurn, tx_report, tx_step}
use Rattle.core_shared.specs.Asking.{Asking, setup}
use Rattle.core_shared.specs.Coming.{host_frame, tx_turn_in}
use Rattle.core_shared.specs.Did.{Did}
use Rattle.core_shared.specs.Held.{IsHeld}
use Rattle.core_shared.specs.MayDo.{MayDo, actor_at}
use Rattle.core_shared.specs.Worlds.{vhosts_of, world_in}
use Rattle.core_shared.specs.declared.doing.Doing.TheVariants as doing
use Rattle.core_shared.specs.declared.doing.GivenFrame.{GivenFrame}
use Rattle.core_shared.specs.declared.onward.Onward.TheVariants as on
use Rattle.core_shared.specs.declared.shared.Shared.{Shared}
use Rattle.core_shared.proofs.Kit.{if_any, is_there, vhost_at, vhosts_with, with_at_here, with_at_same}
use Rattle.core_shared.proofs.Leaving.{held_vhost, no_more, own_tx, same_rx, turns_of_one}
use Rattle.core_shared.proofs.Taking.{transmits_holds, tx_at}
use Rattle.core_transmit.proofs.Going.{come, given_is, guest_same, over_now, sender_is, sending, so_far, stage_next, steps, turn}
use Rattle.core_transmit.proofs.Held.{gave, not_over}
use Rattle.core_transmit.proofs.Rows.{has_effect}
use Rattle.core_transmit.specs.Stepping.{Chains, Goes, OnVhost}

module _ {a : Asking} {vhost file : ℕ} {chains : Chains} {kind : EventKind} {x : Shared}
    (m : MayDo a (doing.Transmits vhost file chains) kind x) (law : GivesAlone)
    {told : Act} {over : Option TurnEnd} {mid : Shared} {f : FrameValue}
    (v : OnVhost vhost (Goes told (Some f) over) x mid) where
  abbrev now : TxSteps (turn m) a.actor v.before v.guest.memory told (Some f) over v.after v.memory
  now = steps m v

  is_give : ((turn m).stage ≡ tx.Give) × ((turn m).held ≡ Some f)
  is_give = gave (turn m).stage (turn m) f (sym (given_is m v))

  giving : is_giving (turn m).stage ≡ true
  giving = ap is_giving is_give.0

  is_host_in : kind ≡ event.HostIn
  is_host_in = sym (some_same event.HostIn kind (ap tx_next_kind (sym is_give.0) ∙ stage_next m))

  is_done : 0 < done_in v.before.vhost.settings.tx.queue
  is_done = subst (λ (u : Vhost). 0 < done_in u.settings.tx.queue) (sender_is m v) ((sending m).done giving)

  alone : Gives (tx_state (turn m) v.before.vhost v.guest.memory) (tx_left now.turn v.after v.memory (Some f))
  alone = law (tx_state (turn m) v.before.vhost v.guest.memory) (tx_left now.turn v.after v.memory (Some f)) told giving
      is_done now.step

  -- the turn goes on, and vhost and memory are as they were
  goes : tx_over now.turn.stage ≡ None
  goes = not_over now.turn.stage alone.goes_on

  over_none : over ≡ None
  over_none = over_now m v ∙ ap (λ (o : Option End). option_map (λ (e : End). tx_report now.turn e) o) goes

  vhost_same : v.after.vhost ≡ v.before.vhost
  vhost_same =
      now.vhost
      ∙ ap (λ (p : Option ℕ × Queue). with_turn 1 p.0 (with_queue 1 p.1 v.before.vhost)) (λ i. (
        (ap (λ (o : Option End). if is_some o then None else Some a.actor) goes
            ∙ sym (transmits_holds m v.before v.is_before)) i,
        alone.queue i,
      ))

  works : tx_turn_in (with_at vhost v.after x.vhosts) vhost ≡ Some now.turn
  works =
      tx_at (with_at vhost v.after x.vhosts) vhost v.after
      (with_at_here vhost v.after v.before x.vhosts v.is_before)
      ∙ now.worker ∙ ap (λ (o : Option TurnEnd). if is_some o then None else Some now.turn) over_none

  guests_same : with_at v.before.vhost.guest (with_memory v.guest v.memory) x.guests ≡ x.guests
  guests_same =
      ap (λ c. with_at v.before.vhost.guest (with_memory v.guest c) x.guests) alone.memory
      ∙ with_at_same v.before.vhost.guest v.guest x.guests v.is_guest

  vhosts_same : vhosts_of x.vhosts ≡ vhosts_of (with_at vhost v.after x.vhosts)
  vhosts_same = sym (
      vhosts_with vhost v.after x.vhosts
      ∙ ap (λ (u : Vhost). with_at vhost u (vhosts_of x.vhosts)) vhost_same
      ∙ with_at_same vhost v.before.vhost (vhosts_of x.vhosts) (vhost_at vhost x.vhosts v.before v.is_before)
      )

  -- ---- the row

  abbrev kept : GivenFrame
  kept = record { name = f.name; flow = hash f.made }

  abbrev given_by : World → TxTurn → Effect
  given_by w t = record
      (only (GoesOn a.seen (world.Doing.Given file t chains.items (with_host f)) (found.Moved f.name)) w)
      { hosts = f.name ∷ [] }

  abbrev r : Effect
  r = given_by (world_in x [] []) now.turn

  gives_row : (actors : List Actor) (said : List Said) (rest : List Numbered)
      → row (setup a) (world_in x actors said) event.HostIn a.actor (actor_at a (so_far m) rest) a.number
      (command.TxTurn vhost) ≡ Some r
  gives_row actors said rest =
      let w = world_in x actors said in
      ap (λ (q : Option Vhost). q >>= λ u. at x.guests u.guest >>= λ g.
      gives w a.seen file (turn m) chains.items u g.memory) (vhost_at vhost x.vhosts v.before v.is_before)
      ∙ ap (λ (q : Option Guest). q >>= λ g.
      gives w a.seen file (turn m) chains.items v.before.vhost g.memory) v.is_guest
      ∙ ap (λ (q : Option FrameValue). q >>= λ h.
      tx_step (tx_state (turn m) v.before.vhost v.guest.memory) >>= λ made. Some (record
      (only (GoesOn a.seen (world.Doing.Given file made.0.turn chains.items (with_host h)) (found.Moved h.name)) w)
      { hosts = h.name ∷ [] })) is_give.1
      ∙ ap (λ (q : Option (TxState × Act)). q >>= λ made. Some (given_by w made.0.turn)) now.step

  -- ---- the event

  module _ {new : Shared} (hosted : new.hosted.items ≡ mid.hosted.items ++ f.name ∷ [])
      (is_left : new ≡ record mid { hosted = new.hosted }) where
    abbrev end_ : Shared
    end_ = record x { vhosts = with_at vhost v.after x.vhosts; hosted = new.hosted }

    new_is : new ≡ end_
    new_is =
        is_left ∙ ap (λ (q : Shared). record q { hosted = new.hosted }) v.left
        ∙ ap (λ (l : List (Option Guest)). record x {
          vhosts = with_at vhost v.after x.vhosts;
          guests = l;
          hosted = new.hosted;
        }) guests_same

    hosted_is : new.hosted.items ≡ x.hosted.items ++ f.name ∷ []
    hosted_is = hosted ∙ ap (λ (q : Shared). q.hosted.items ++ f.name ∷ []) v.left

    held_same : IsHeld (setup a) (record x { hosted = new.hosted })
    held_same = record { table = m.held.table; frames = m.held.frames; vhosts = m.held.vhosts }

    lies : IfSome (at x.guests v.after.vhost.guest) (λ (g : Guest). IsIn g.memory.regions v.after)
    lies = if_any (at x.guests v.after.vhost.guest) (λ (g : Guest). IsIn g.memory.regions v.after) (λ g is.
        let same : v.guest ≡ g = some_same v.guest g
        (sym v.is_guest ∙ ap (λ (n : ℕ). at x.guests n) (sym (guest_same m v)) ∙ is) in
        subst (λ (h : Guest). IsIn h.memory.regions v.after) same
        (subst (λ rs. IsIn rs v.after) v.regions v.within))

    pub gives_did : Did a (doing.Transmits vhost file chains) kind x new
        (on.Goes a.seen (doing.Given vhost file chains kept) (found.Moved f.name))
    gives_did = subst (λ (q : Shared). Did a (doing.Transmits vhost file chains) kind x q
        (on.Goes a.seen (doing.Given vhost file chains kept) (found.Moved f.name))) (sym new_is) (record {
          effect = r;
          has = has_effect m (so_far m) (command.TxTurn vhost) (come m) m.suits.0 event.HostIn r is_host_in
              (λ actors said. ap tx_next_kind is_give.0) gives_row;
          left = record {
            ops = no_more x.ops.ops;
            files = refl;
            guests = refl;
            vhosts = vhosts_same;
            hosted = hosted_is;
            dropped = no_more x.dropped.items;
            writer = refl;
            phase = refl;
          };
          onward = sym (ap (λ (o : Option TxTurn). GoesOn a.seen
              (option_map_or (λ t. world.Doing.Given file t chains.items (host_frame kept)) o world.Doing.Begun)
              (found.Moved f.name)) works);
          held = held_vhost (setup a) (record x { hosted = new.hosted }) vhost v.after held_same lies;
          suits = (m.suits.0, is_there (tx_turn_in (with_at vhost v.after x.vhosts) vhost) now.turn works);
          stay = turns_of_one a.actor vhost v.before v.after x.vhosts v.is_before
              (same_rx a.actor v.before v.after (ap (λ (s : Side). s.rx) now.only))
              (own_tx a.actor v.before v.after (transmits_holds m v.before v.is_before));
        })
