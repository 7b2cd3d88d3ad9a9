-- A turn after an event of its own.
use Rattle.std.proofs.Common.{◌≡◌, ◌⊎◌, ℕ, List, true, false, Option, Some, None, inl, inr, refl, sym, ap, ◌∙◌, subst}
use Rattle.tap_frame.specs.declared.name.Name.{Name}
use Rattle.vring_turns.specs.RxTurn.{RxTurn}
use Rattle.vring_turns.specs.TxTurn.{TxTurn}
use Rattle.vring_turns.specs.Stage.{is_giving}
use Rattle.tap_trace.specs.declared.turn.ChainText.{ChainText}
use Rattle.scen_words.specs.declared.command.Command.{Command}
use Rattle.scen_words.specs.declared.command.Command.TheVariants as command
use Rattle.tap_world.specs.declared.event.Event.{Event}
use Rattle.tap_world.specs.ByNumber.{at}
use Rattle.tap_world.specs.Setup.{Setup}
use Rattle.tap_world.specs.Line.{File}
use Rattle.tap_world.specs.Guests.{Vhost}
use Rattle.tap_world.specs.World.{Doing, World, name_of}
use Rattle.tap_world.specs.World.Doing.{Given, Receives, Teaches, Transmits}
use Rattle.tap_world.specs.Effect.{Effect, OnFiles, OnVhosts, Onward, files_after, vhosts_after}
use Rattle.tap_world.specs.Effect.OnVhosts.{NoVhost}
use Rattle.tap_world.specs.Effect.Onward.{Ends, Goes, Stays}
use Rattle.tap_world.specs.Scripts.{is_kind, next_kind}
use Rattle.tap_world.specs.Step.{row}
use Rattle.tap_world.specs.StepTurns as rx_turns
use Rattle.tap_world.specs.StepTransmits as tx_turns
use Rattle.tap_world.specs.Sound.{IsSound}
use Rattle.tap_world.specs.SoundActors.{can_be}
use Rattle.tap_world.specs.Steady.{IsAtTurn, IsSteady}
use Rattle.tap_sound.proofs.Kit.{some_same, where_some}
use Rattle.tap_sound.proofs.Kept.{effect_files}
use Rattle.tap_sound.proofs.Shapes.{RxWay}
use Rattle.tap_sound.proofs.Steps.{none_told}
use Rattle.tap_sound.proofs.Taken.{IsStep}
use Rattle.tap_steady.proofs.TurnBegins.{RxBefore, TurnLaws, rx_begins, rx_goes}
use Rattle.tap_steady.proofs.TurnFacts.{Facts, RxFacts, TxFacts, facts_of}
use Rattle.tap_steady.proofs.TurnOthers.{effect_vhosts}
use Rattle.tap_steady.proofs.TurnReceives.{rx_took, rx_went}
use Rattle.tap_steady.proofs.TurnRows.{IsEnd, RxEvent, rx_row}
use Rattle.tap_steady.proofs.TurnRows.RxEvent.{RxOver, RxWent, Took}
use Rattle.tap_steady.proofs.TurnRowsSent.{TxEvent, TxFrom, given_in, sending_in, tx_row}
use Rattle.tap_steady.proofs.TurnRowsSent.TxEvent.{Gave, Rested, TxOver, TxWent}
use Rattle.tap_steady.proofs.TurnTransmits.{TxBefore, tx_begins, tx_gave, tx_goes, tx_went}

-- what is kept of a command's turn, as the command goes on
abbrev pub OnFacts : Setup → List (Option File) → List (Option Vhost) → Name → Command → Doing → Onward → Type 0
OnFacts s files vhosts first c d (Ends seen x) = Unit {0}
OnFacts s files vhosts first c d (Goes seen e f) = Facts s files vhosts first c e
OnFacts s files vhosts first c d (Stays f) = Facts s files vhosts first c d

end_on : (s : Setup) (files : List (Option File)) (vhosts : List (Option Vhost)) (first : Name) (c : Command) (d : Doing) (o : Onward) → IsEnd o
    → OnFacts s files vhosts first c d o
end_on s files vhosts first c d (Ends seen x) h = tt
end_on s files vhosts first c d o h = absurd h

-- a turn whose frame is with the host
given_facts : (s : Setup) (files : List (Option File)) (vhosts : List (Option Vhost)) (first : Name) (vhost file : ℕ) (t : TxTurn) (d e : Doing)
    → given_in d ≡ Some (file, t) → sending_in e ≡ Some (file, t) → Facts s files vhosts first (command.TxTurn vhost) d → Facts s files vhosts first (command.TxTurn vhost) e
given_facts s files vhosts first vhost file t d e was is h = to_next e is (of_last d was h)
  where
    Both : ℕ × TxTurn → Type 0
    Both p = TxFacts vhosts vhost p.0 p.1 first × (is_giving p.1.stage ≡ false)

    of_last : (d : Doing) → given_in d ≡ Some (file, t) → Facts s files vhosts first (command.TxTurn vhost) d → Both (file, t)
    of_last (Given n r told x) q k = subst Both (some_same (n, r) (file, t) q) k
    of_last (Teaches n r told x) q k = subst Both (some_same (n, r) (file, t) q) k
    of_last d q k = absurd (cc (q))

    to_next : (e : Doing) → sending_in e ≡ Some (file, t) → Both (file, t) → Facts s files vhosts first (command.TxTurn vhost) e
    to_next (Transmits n r told) q k = (subst Both (sym (some_same (n, r) (file, t) q)) k).0
    to_next (Teaches n r told x) q k = subst Both (sym (some_same (n, r) (file, t) q)) k
    to_next e q k = absurd (cc (q))

module _ (laws : TurnLaws) (s : Setup) (w : World) (x : Event) (u : World) (t : IsStep s w x u) (sound : IsSound s w) (steady : IsSteady s w)
    (can : can_be t.actor.doing t.now.command ≡ true) where
  abbrev first : Name
  first = name_of x.actor t.now.number

  abbrev Now : Command → Onward → Type 0
  Now c o = OnFacts s t.between.files t.between.vhosts first c t.actor.doing o

  vhosts_now : (o : OnVhosts) → t.effect.vhosts ≡ o → vhosts_after o w.vhosts ≡ t.between.vhosts
  vhosts_now o is = ap (λ (q : OnVhosts). vhosts_after q w.vhosts) (sym is) ∙ sym (effect_vhosts t.effect x.actor t.actor x.command w t.between t.made)

  files_now : (o : OnFiles) → t.effect.files ≡ o → files_after o w.files ≡ Some t.between.files
  files_now o is = ap (λ (q : OnFiles). files_after q w.files) (sym is) ∙ effect_files t.effect x.actor t.actor x.command w t.between t.made

  turn_now : (c : Command) (d : Doing) → t.now.command ≡ c → t.actor.doing ≡ d → IsAtTurn s w first c d
  turn_now c d is doing = subst (λ (q : Command). IsAtTurn s w first q d) is
      (subst (λ (q : Doing). IsAtTurn s w first t.now.command q) doing (steady.turns x.actor t.actor t.found t.now t.current_is))

  -- ---- receive

  rx_before : (vhost file : ℕ) (r : RxTurn) (v : Vhost) → t.now.command ≡ command.RxTurn vhost → at w.vhosts vhost ≡ Some v → RxWay x.actor t.actor.doing file r v
      → RxBefore s w.files vhost file r v
  rx_before vhost file r v is at_v (inl doing) =
      rx_goes s w sound steady x.actor t.actor t.now vhost file r v t.found t.current_is is doing at_v (turn_now (command.RxTurn vhost) (Receives file r) is doing)
  rx_before vhost file r v is at_v (inr begins) =
      subst (λ (q : RxTurn). RxBefore s w.files vhost file q v) (sym begins.3) (rx_begins s w sound steady laws vhost file v at_v begins.1 begins.2)

  rx_on : (vhost : ℕ) → t.now.command ≡ command.RxTurn vhost → RxEvent s w x.actor t.actor.seen vhost t.actor.doing t.effect → Now (command.RxTurn vhost) t.effect.onward
  rx_on vhost is (RxOver h) = end_on s t.between.files t.between.vhosts first (command.RxTurn vhost) t.actor.doing t.effect.onward h
  rx_on vhost is (RxWent file r v g h made files f None at_v at_g way none step changes told e) =
      subst (λ (q : Effect). Now (command.RxTurn vhost) q.onward) e
      (subst (λ (q : List (Option Vhost)). RxFacts s t.between.files q vhost file made.0.turn) (vhosts_now _ (ap (λ (q : Effect). q.vhosts) (sym e)))
      (rx_went s laws w.files t.between.files w.vhosts vhost file x.actor r v g.memory made (rx_before vhost file r v is at_v way) at_v
      (none_told (rx_turns.rx_over made.0.turn.stage) told) h none step (files_now _ (ap (λ (q : Effect). q.files) (sym e) ∙ changes))))
  rx_on vhost is (RxWent file r v g h made files f (Some y) at_v at_g way none step changes told e) =
      subst (λ (q : Effect). Now (command.RxTurn vhost) q.onward) e tt
  rx_on vhost is (Took file r v g before now frame made f None at_v at_g doing stage there taken front step told e) =
      subst (λ (q : Effect). Now (command.RxTurn vhost) q.onward) e
      (subst (λ (q : List (Option Vhost)). RxFacts s t.between.files q vhost file made.0.turn) (vhosts_now _ (ap (λ (q : Effect). q.vhosts) (sym e)))
      (rx_took s laws w.files t.between.files w.vhosts vhost file x.actor r v g.memory made (rx_before vhost file r v is at_v (inl doing)) at_v
      (none_told (rx_turns.rx_over made.0.turn.stage) told) before now frame stage there taken front step (files_now _ (ap (λ (q : Effect). q.files) (sym e)))))
  rx_on vhost is (Took file r v g before now frame made f (Some y) at_v at_g doing stage there taken front step told e) =
      subst (λ (q : Effect). Now (command.RxTurn vhost) q.onward) e tt

  -- ---- transmit

  tx_before : (vhost file : ℕ) (r : TxTurn) (told : List ChainText) (v : Vhost) → t.now.command ≡ command.TxTurn vhost → at w.vhosts vhost ≡ Some v
      → TxFrom x.actor t.now.number t.actor.doing file r told v → TxBefore vhost file r first v
  tx_before vhost file r told v is at_v (inl doing) =
      tx_goes w.vhosts vhost file r first v at_v
      (facts_of s w first (command.TxTurn vhost) (Transmits file r told) (turn_now (command.TxTurn vhost) (Transmits file r told) is doing))
  tx_before vhost file r told v is at_v (inr begins) =
      subst (λ (q : TxTurn). TxBefore vhost file q first v) (sym begins.3) (tx_begins laws vhost file first v begins.1)

  tx_on : (vhost : ℕ) → t.now.command ≡ command.TxTurn vhost → TxEvent s w x.actor t.now.number t.actor.seen vhost t.actor.doing t.effect
      → Now (command.TxTurn vhost) t.effect.onward
  tx_on vhost is (TxOver h) = end_on s t.between.files t.between.vhosts first (command.TxTurn vhost) t.actor.doing t.effect.onward h
  tx_on vhost is (TxWent file r told v g made step None at_v at_g way stepped over e) =
      subst (λ (q : Effect). Now (command.TxTurn vhost) q.onward) e
      (subst (λ (q : List (Option Vhost)). TxFacts q vhost file made.0.turn first) (vhosts_now _ (ap (λ (q : Effect). q.vhosts) (sym e)))
      (tx_went laws w.vhosts vhost file x.actor r first v g.memory made (tx_before vhost file r told v is at_v way) at_v stepped
      (none_told (tx_turns.tx_over made.0.turn.stage) over)))
  tx_on vhost is (TxWent file r told v g made step (Some y) at_v at_g way stepped over e) =
      subst (λ (q : Effect). Now (command.TxTurn vhost) q.onward) e tt
  tx_on vhost is (Gave file r told v g made frame f at_v at_g doing stage stepped none goes) =
      subst (λ (q : Onward). Now (command.TxTurn vhost) q) (sym goes)
      (subst (λ (q : List (Option Vhost)). TxFacts q vhost file made.0.turn first × (is_giving made.0.turn.stage ≡ false)) (vhosts_now NoVhost none)
      (tx_gave laws w.vhosts vhost file x.actor r first v g.memory made (tx_before vhost file r told v is at_v (inl doing)) at_v stepped stage))
  tx_on vhost is (Rested file r e m f was now none goes) =
      subst (λ (q : Onward). Now (command.TxTurn vhost) q) (sym goes)
      (given_facts s t.between.files t.between.vhosts first vhost file r t.actor.doing e was now
      (tx_kept (vhosts_now NoVhost none)
      (facts_of s w first (command.TxTurn vhost) t.actor.doing (turn_now (command.TxTurn vhost) t.actor.doing is refl))))
    where
      -- facts of transmit turns are of vhosts alone
      tx_kept : w.vhosts ≡ t.between.vhosts → Facts s w.files w.vhosts first (command.TxTurn vhost) t.actor.doing
          → Facts s t.between.files t.between.vhosts first (command.TxTurn vhost) t.actor.doing
      tx_kept same h = subst (λ (q : List (Option Vhost)). Facts s t.between.files q first (command.TxTurn vhost) t.actor.doing) same (go t.actor.doing h)
        where
          go : (d : Doing) → Facts s w.files w.vhosts first (command.TxTurn vhost) d → Facts s t.between.files w.vhosts first (command.TxTurn vhost) d
          go (Transmits n k told) h = h
          go (Given n k told y) h = h
          go (Teaches n k told y) h = h
          go d h = tt

  -- ---- any command

  other_on : (c : Command) → t.now.command ≡ c → (o : Onward) → Now c o ⊎ ((vhost : ℕ) × (c ≡ command.RxTurn vhost)) ⊎ ((vhost : ℕ) × (c ≡ command.TxTurn vhost))
  other_on (command.RxTurn vhost) is o = inr (inl (vhost, refl))
  other_on (command.TxTurn vhost) is o = inr (inr (vhost, refl))
  other_on c is (Ends seen y) = inl tt
  other_on c is (Goes seen e f) = inl tt
  other_on c is (Stays f) = inl tt

  pub own_on : Now t.now.command t.effect.onward
  own_on = go (other_on t.now.command refl t.effect.onward)
    where
      go : Now t.now.command t.effect.onward ⊎ ((vhost : ℕ) × (t.now.command ≡ command.RxTurn vhost)) ⊎ ((vhost : ℕ) × (t.now.command ≡ command.TxTurn vhost))
          → Now t.now.command t.effect.onward
      go (inl h) = h
      go (inr (inl r)) = subst (λ (q : Command). Now q t.effect.onward) (sym r.1) (rx_on r.0 r.1
          (where_some (RxEvent s w x.actor t.actor.seen r.0 t.actor.doing) _ t.effect
          (rx_row s w x.kind x.actor t.actor.seen t.actor.script t.now.number r.0 t.actor.doing
          (subst (λ (q : Command). can_be t.actor.doing q ≡ true) r.1 can) (subst (λ (q : Command). is_kind x.kind (next_kind w t.actor.doing q) ≡ true) r.1 t.next))
          (subst (λ (q : Command). row s w x.kind x.actor t.actor t.now.number q ≡ Some t.effect) r.1 t.is_row)))
      go (inr (inr r)) = subst (λ (q : Command). Now q t.effect.onward) (sym r.1) (tx_on r.0 r.1
          (where_some (TxEvent s w x.actor t.now.number t.actor.seen r.0 t.actor.doing) _ t.effect
          (tx_row s w x.kind x.actor t.actor.seen t.actor.script t.now.number r.0 t.actor.doing
          (subst (λ (q : Command). can_be t.actor.doing q ≡ true) r.1 can) (subst (λ (q : Command). is_kind x.kind (next_kind w t.actor.doing q) ≡ true) r.1 t.next))
          (subst (λ (q : Command). row s w x.kind x.actor t.actor t.now.number q ≡ Some t.effect) r.1 t.is_row)))
