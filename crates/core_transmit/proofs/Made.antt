-- This project's own: a step of a transmit turn that the guest of its vhost is told.
use Rattle.std.proofs.Common.{◌≡◌, ℕ, Bool, true, List, [], Option, Some, None, refl, sym, ap, ◌∙◌, subst}
use Rattle.std.specs.Prelude.{if◌then◌else◌, is_some, IfSome, option_map}
use Rattle.std.specs.Option.{option_map_or}
use Rattle.guest_mem.specs.Memory.{Contents}
use Rattle.scen_words.specs.declared.command.Command.TheVariants as command
use Rattle.tap_ground.specs.Options.{◌>>=◌}
use Rattle.tap_guests.specs.Lending.{with_memory}
use Rattle.tap_guests.specs.Side.{Side}
use Rattle.tap_guests.specs.Within.{IsIn}
use Rattle.tap_guests.specs.Turning.{TxSteps, tx_left}
use Rattle.tap_ledger.specs.declared.act.Act.{Act}
use Rattle.tap_sound.proofs.Kit.{some_same, then_some}
use Rattle.tap_trace.specs.declared.answer.Answer.TheVariants as answer
use Rattle.tap_trace.specs.declared.kind.Kind.{Kind}
use Rattle.tap_trace.specs.declared.turn.ChainText.{ChainText}
use Rattle.tap_trace.specs.declared.turn.TurnText.{TurnText}
use Rattle.tap_world.specs.declared.event.EventKind.{EventKind}
use Rattle.tap_world.specs.declared.event.Found.TheVariants as found
use Rattle.tap_world.specs.declared.told.Said.{Said}
use Rattle.tap_world.specs.ByNumber.{at, with_at}
use Rattle.tap_world.specs.Effect.{Effect}
use Rattle.tap_world.specs.Effect.OnVhosts.{OnVhost}
use Rattle.tap_world.specs.Effect.Onward.{Ends, Goes}
use Rattle.tap_world.specs.Guests.{Guest, Vhost}
use Rattle.tap_world.specs.Scripts.{next_kind}
use Rattle.tap_world.specs.Setup.{Numbered}
use Rattle.tap_world.specs.Step.{row}
use Rattle.tap_world.specs.StepTransmits.{chains_after, tx_effect, tx_event, tx_onward, tx_over, tx_steps_on}
use Rattle.tap_world.specs.StepTurns.{end_told, kind_of, left, over_told}
use Rattle.tap_world.specs.World as world
use Rattle.tap_world.specs.World.{Actor, World}
use Rattle.vhost_step.specs.Transmit.{tx_did}
use Rattle.vring_turns.specs.declared.end.End.{End}
use Rattle.vring_turns.specs.declared.end.TurnEnd.{TurnEnd}
use Rattle.vring_turns.specs.declared.stage.TxStage.{TxStage}
use Rattle.vring_turns.specs.declared.stage.TxStage.TheVariants as tx
use Rattle.vring_turns.specs.TxTurn.{TxState, TxTurn, tx_report}
use Rattle.core_shared.specs.Asking.{Asking, setup}
use Rattle.core_shared.specs.Coming.{come_of, onward_of, tx_turn_in, written_out}
use Rattle.core_shared.specs.Did.{Did, IsLeft}
use Rattle.core_shared.specs.MayDo.{MayDo, actor_at}
use Rattle.core_shared.specs.Suiting.{SuitsOn}
use Rattle.core_shared.specs.Worlds.{world_in}
use Rattle.core_shared.specs.declared.doing.Doing.{Doing}
use Rattle.core_shared.specs.declared.doing.Doing.TheVariants as doing
use Rattle.core_shared.specs.declared.onward.Onward as shared
use Rattle.core_shared.specs.declared.onward.Onward.TheVariants as on
use Rattle.core_shared.specs.declared.shared.Shared.{Shared}
use Rattle.core_shared.proofs.Kit.{is_there, with_at_here, with_at_twice}
use Rattle.core_shared.proofs.Leaving.{TxMay, guest_with, held_both, on_both_left, same_rx, turns_of_one}
use Rattle.core_shared.proofs.Taking.{tx_at}
use Rattle.core_transmit.proofs.Rows.{has_effect}
use Rattle.core_transmit.specs.Stepping.{Chains, OnVhost as Changed, Tells, onward_by, with_step}

-- ---- ends

pub over_by : (st : TxStage) (t : TxTurn) → tx_did st t ≡ option_map (λ (e : End). tx_report t e) (tx_over st)
over_by tx.Begin t = refl
over_by tx.Fetch t = refl
over_by tx.NoticesOn t = refl
over_by tx.FetchAgain t = refl
over_by (tx.NoticesOff fault) t = refl
over_by tx.Copy t = refl
over_by tx.Give t = refl
over_by (tx.Publish end) t = refl
over_by (tx.Ended end) t = refl

-- an end that is told is one
told_some : (p : Option End) (o : Option TurnText) → over_told p ≡ Some o → is_some o ≡ is_some p
told_some None o e = ap (λ (q : Option TurnText). is_some q) (sym (some_same None o e))
told_some (Some e) o h = go (end_told e) h
  where
    go : (q : Option TurnText) → option_map (λ x. Some x) q ≡ Some o → is_some o ≡ true
    go None k = absurd (cc (k))
    go (Some x) k = ap (λ (q : Option TurnText). is_some q) (sym (some_same (Some x) o k))

-- an end that is told has words
pub told_words : (p : Option End) (t : TxTurn) (over : Option TurnEnd) (o : Option TurnText)
    → over ≡ option_map (λ (e : End). tx_report t e) p → over_told p ≡ Some o
    → IfSome over (λ r. is_some (end_told r.end) ≡ true)
told_words None t over o is e =
    subst (λ (q : Option TurnEnd). IfSome q (λ r. is_some (end_told r.end) ≡ true)) (sym is) tt
told_words (Some x) t over o is e =
    subst (λ (q : Option TurnEnd). IfSome q (λ r. is_some (end_told r.end) ≡ true)) (sym is) (go (end_told x) e)
  where
    go : (q : Option TurnText) → option_map (λ y. Some y) q ≡ Some o → is_some q ≡ true
    go None k = absurd (cc (k))
    go (Some y) k = refl

-- ---- how the turn goes on

-- the worker goes on with the turn, or is gone
abbrev pub Works : List (Option Side) → ℕ → TxTurn → Option TurnEnd → Type 0
Works vhosts vhost t over = tx_turn_in vhosts vhost ≡ (if is_some over then None else Some t)

module _ (a : Asking) (vhosts : List (Option Side)) (vhost file : ℕ) (t : TxTurn) (more : Chains) (k : Kind)
    (so_far : world.Doing) (asked : a.command ≡ command.TxTurn vhost) where
  goes_so : (o : shared.Onward) → onward_by a.seen vhost file more k None ≡ Some o → Works vhosts vhost t None
      → (Goes a.seen (world.Doing.Transmits file t more.items) (found.Step k) ≡ onward_of vhosts o)
      × SuitsOn vhosts a o
  goes_so o is works =
      let goes : shared.Onward = on.Goes a.seen (doing.Transmits vhost file more) (found.Step k) in
      let same : goes ≡ o = some_same goes o is in
      subst (λ (q : shared.Onward).
      (Goes a.seen (world.Doing.Transmits file t more.items) (found.Step k) ≡ onward_of vhosts q) × SuitsOn vhosts a q)
      same (
        ap (λ (w : Option TxTurn). Goes a.seen
            (option_map_or (λ u. world.Doing.Transmits file u more.items) w world.Doing.Begun) (found.Step k)) (sym works),
        (asked, is_there (tx_turn_in vhosts vhost) t works),
      )

  ends_so : (e : End) (o : shared.Onward) (x : TurnText) → end_told e ≡ Some x
      → onward_by a.seen vhost file more k (Some (tx_report t e)) ≡ Some o
      → (Ends a.seen (answer.Turn t.packets t.bytes x more.items) ≡ onward_of vhosts o) × SuitsOn vhosts a o
  ends_so e o x words is =
      let ends : shared.Onward = on.Ends a.seen (answer.Turn t.packets t.bytes x more.items) in
      let same : ends ≡ o = some_same ends o
      (sym (ap (λ (q : Option TurnText). q
      >>= λ y. Some (on.Ends a.seen (answer.Turn t.packets t.bytes y more.items))) words) ∙ is) in
      subst (λ (q : shared.Onward).
      (Ends a.seen (answer.Turn t.packets t.bytes x more.items) ≡ onward_of vhosts q) × SuitsOn vhosts a q)
      same (refl, tt)

  pub onward_so : (p : Option End) (over : Option TurnEnd) (words : Option TurnText) (o : shared.Onward)
      → over ≡ option_map (λ (e : End). tx_report t e) p → over_told p ≡ Some words
      → onward_by a.seen vhost file more k over ≡ Some o → Works vhosts vhost t over
      → (written_out a.seen so_far (tx_onward a.seen file t more.items (found.Step k) words) ≡ onward_of vhosts o)
      × SuitsOn vhosts a o
  onward_so None over words o is told on works =
      let r = goes_so o (ap (λ (q : Option TurnEnd). onward_by a.seen vhost file more k q) (sym is) ∙ on)
      (subst (λ (q : Option TurnEnd). Works vhosts vhost t q) is works) in (
        ap (λ (q : Option TurnText). written_out a.seen so_far (tx_onward a.seen file t more.items (found.Step k) q))
            (sym (some_same None words told)) ∙ r.0,
        r.1,
      )
  onward_so (Some e) over words o is told on works = go (end_told e) refl told
    where
      go : (q : Option TurnText) → end_told e ≡ q → option_map (λ x. Some x) q ≡ Some words
          → (written_out a.seen so_far (tx_onward a.seen file t more.items (found.Step k) words) ≡ onward_of vhosts o)
          × SuitsOn vhosts a o
      go None eq h = absurd (cc (h))
      go (Some x) eq h =
          let r = ends_so e o x eq (ap (λ (q : Option TurnEnd). onward_by a.seen vhost file more k q) (sym is) ∙ on) in (
            ap (λ (q : Option TurnText). written_out a.seen so_far
                (tx_onward a.seen file t more.items (found.Step k) q)) (sym (some_same (Some x) words h)) ∙ r.0,
            r.1,
          )

-- ---- what the step and its telling leave

abbrev pub mid_of : Shared → ℕ → Side → Side → Guest → Contents → Shared
mid_of x vhost before after guest memory = record x {
  vhosts = with_at vhost after x.vhosts;
  guests = with_at before.vhost.guest (with_memory guest memory) x.guests;
}

abbrev pub end_of : Asking → Kind → Shared → ℕ → Side → Side → Guest → Contents → Shared
end_of a k x vhost before after guest memory = record x {
  guests = with_at before.vhost.guest (guest_with a.actor a.number memory (Some k) guest) x.guests;
  vhosts = with_at vhost after x.vhosts;
}

module _ (a : Asking) (vhost : ℕ) (k : Kind) (x new : Shared) (before after : Side) (guest : Guest) (memory : Contents)
    (is_before : at x.vhosts vhost ≡ Some before) (is_guest : at x.guests before.vhost.guest ≡ Some guest)
    (same : after.vhost.guest ≡ before.vhost.guest)
    (g : Tells a vhost k (mid_of x vhost before after guest memory) new) where
  side_is : g.side ≡ after
  side_is = some_same g.side after (sym g.is_side ∙ with_at_here vhost after before x.vhosts is_before)

  its_guest : g.side.vhost.guest ≡ before.vhost.guest
  its_guest = ap (λ (s : Side). s.vhost.guest) side_is ∙ same

  abbrev between : List (Option Guest)
  between = with_at before.vhost.guest (with_memory guest memory) x.guests

  guest_is : g.guest ≡ with_memory guest memory
  guest_is = some_same g.guest (with_memory guest memory)
      (sym g.is_guest ∙ ap (λ (n : ℕ). at between n) its_guest
      ∙ with_at_here before.vhost.guest (with_memory guest memory) guest x.guests is_guest)

  pub new_is : new ≡ end_of a k x vhost before after guest memory
  new_is =
      g.left
      ∙ ap (λ (p : ℕ × Guest). record x {
        vhosts = with_at vhost after x.vhosts;
        guests = with_at p.0 (with_step a k p.1) between;
      }) (λ i. (its_guest i, guest_is i))
      ∙ ap (λ (l : List (Option Guest)). record x { vhosts = with_at vhost after x.vhosts; guests = l })
      (with_at_twice before.vhost.guest (with_memory guest memory) (with_step a k (with_memory guest memory)) x.guests)

-- ---- the event

module _ {a : Asking} {d : Doing} {kind : EventKind} {x mid : Shared} (m : MayDo a d kind x) (vhost file : ℕ)
    (t : TxTurn) (chains : List ChainText) (told : Act) (over : Option TurnEnd)
    (asked : a.command ≡ command.TxTurn vhost)
    {Way : Side → Contents → Side → Contents → Type 0} (v : Changed vhost Way x mid)
    (steps : TxSteps t a.actor v.before v.guest.memory told None over v.after v.memory) where
  abbrev pub Row : List Actor → List Said → Option Effect
  Row actors said =
      tx_steps_on (world_in x actors said) a.actor a.seen vhost file t chains v.before.vhost v.guest.memory

  abbrev pub made : TxState × Act
  made = (tx_left steps.turn v.after v.memory None, told)

  -- the row by what the step made
  by_made : (actors : List Actor) (said : List Said)
      → Row actors said ≡ tx_event (world_in x actors said) a.actor a.seen vhost file chains v.before.vhost made
  by_made actors said = ap (λ (o : Option (TxState × Act)). o
      >>= λ p. tx_event (world_in x actors said) a.actor a.seen vhost file chains v.before.vhost p) steps.step

  abbrev pub IsTold : Type 0
  IsTold = (k : Kind) × (words : Option TurnText) × (kind_of vhost 1 told ≡ Some k)
      × (over_told (tx_over steps.turn.stage) ≡ Some words)

  -- since the row has an effect, its step and its end are told
  pub is_told : (actors : List Actor) (said : List Said) (r : Effect) → Row actors said ≡ Some r → IsTold
  is_told actors said r e =
      let k = then_some (kind_of vhost 1 told) _ r (sym (by_made actors said) ∙ e) in
      let w = then_some (over_told (tx_over steps.turn.stage)) _ r k.2 in
      (k.0, w.0, k.1, w.1)

  over_is : over ≡ option_map (λ (e : End). tx_report steps.turn e) (tx_over steps.turn.stage)
  over_is = steps.did ∙ over_by steps.turn.stage steps.turn

  pub words_told : IsTold → IfSome over (λ r. is_some (end_told r.end) ≡ true)
  words_told h = told_words (tx_over steps.turn.stage) steps.turn over h.1 over_is h.3

  guest_same : v.after.vhost.guest ≡ v.before.vhost.guest
  guest_same = ap (λ (u : Vhost). u.guest) steps.vhost

  module _ {new : Shared} (h : IsTold) (g : Tells a vhost h.0 mid new) (more : Chains) (o : shared.Onward)
      (is_more : more.items ≡ chains_after told steps.turn.held chains)
      (on : onward_by a.seen vhost file more h.0 over ≡ Some o)
      (so_far : world.Doing) (come : come_of x.vhosts d ≡ so_far) (k : EventKind) (is_kind : kind ≡ k)
      (next : (actors : List Actor) (said : List Said)
      → next_kind (world_in x actors said) so_far (command.TxTurn vhost) ≡ Some k)
      (is_row : (actors : List Actor) (said : List Said) (rest : List Numbered)
      → row (setup a) (world_in x actors said) k a.actor (actor_at a so_far rest) a.number (command.TxTurn vhost)
      ≡ Row actors said)
      (stays : TxMay a.actor v.before v.after) where
    told_mid : Tells a vhost h.0
        (mid_of x vhost v.before v.after v.guest v.memory) new
    told_mid = subst (λ (q : Shared). Tells a vhost h.0 q new) v.left g

    abbrev r : Effect
    r = tx_effect (world_in x [] []) a.actor a.seen vhost file chains v.before.vhost h.0 h.1 made

    row_some : (actors : List Actor) (said : List Said) → Row actors said ≡ Some r
    row_some actors said =
        by_made actors said
        ∙ ap (λ (q : Option Kind). q >>= λ step. over_told (tx_over steps.turn.stage) >>= λ w.
        Some (tx_effect (world_in x actors said) a.actor a.seen vhost file chains v.before.vhost step w made)) h.2
        ∙ ap (λ (q : Option (Option TurnText)). q >>= λ w.
        Some (tx_effect (world_in x actors said) a.actor a.seen vhost file chains v.before.vhost h.0 w made)) h.3

    works : Works (with_at vhost v.after x.vhosts) vhost steps.turn over
    works =
        tx_at (with_at vhost v.after x.vhosts) vhost v.after
        (with_at_here vhost v.after v.before x.vhosts v.is_before) ∙ steps.worker

    goes : (written_out a.seen (come_of x.vhosts d) r.onward ≡ onward_of (with_at vhost v.after x.vhosts) o)
        × SuitsOn (with_at vhost v.after x.vhosts) a o
    goes = subst (λ (cs : List ChainText).
        (written_out a.seen (come_of x.vhosts d) (tx_onward a.seen file steps.turn cs (found.Step h.0) h.1)
        ≡ onward_of (with_at vhost v.after x.vhosts) o) × SuitsOn (with_at vhost v.after x.vhosts) a o) is_more
        (onward_so a (with_at vhost v.after x.vhosts) vhost file steps.turn more h.0 (come_of x.vhosts d) asked
        (tx_over steps.turn.stage) over h.1 o over_is h.3 on works)

    vhost_is : v.after.vhost ≡ left 1 a.actor (is_some h.1) v.after.vhost.settings.tx.queue v.before.vhost
    vhost_is = steps.vhost
        ∙ ap (λ (b : Bool). left 1 a.actor b v.after.vhost.settings.tx.queue v.before.vhost)
        (sym (told_some (tx_over steps.turn.stage) h.1 h.3))

    left_so : IsLeft r a x
        (end_of a h.0 x vhost v.before v.after v.guest v.memory)
    left_so = subst (λ (u : Vhost). IsLeft (record r { vhosts = OnVhost vhost u }) a x
        (end_of a h.0 x vhost v.before v.after v.guest v.memory))
        vhost_is
        (on_both_left v.before.vhost.guest v.memory (Some h.0) v.guest vhost v.after r.onward x.writer a x [] [] v.is_guest)

    pub step_did : Did a d kind x new o
    step_did = subst (λ (q : Shared). Did a d kind x q o)
        (sym (new_is a vhost h.0 x new v.before v.after v.guest v.memory v.is_before v.is_guest guest_same told_mid))
        (record {
          effect = r;
          has = has_effect m so_far (command.TxTurn vhost) come asked k r is_kind next
              (λ actors said rest. is_row actors said rest ∙ row_some actors said);
          left = left_so;
          onward = goes.0;
          held = held_both (setup a) x vhost v.before v.after v.guest
              (guest_with a.actor a.number v.memory (Some h.0) v.guest) m.held v.is_before v.is_guest guest_same v.regions
              (subst (λ rs. IsIn rs v.after) v.regions v.within);
          suits = goes.1;
          stay = turns_of_one a.actor vhost v.before v.after x.vhosts v.is_before
              (same_rx a.actor v.before v.after (ap (λ (s : Side). s.rx) steps.only)) stays;
        })
