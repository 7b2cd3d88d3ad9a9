-- The events of turns keep rings in order, and served.
use Rattle.std.proofs.Common.{true≢false, true, false, sym, ap, ◌∙◌, subst, refl, Some, None, Option, ⊎_elim, ◌<◌, arith, ◌≢◌, inl, inr, ◌≡◌, ◌⊎◌, ℕ, List, [], ◌∷◌, Bool}
use Rattle.std.specs.Prelude.{slice_get, ◌==◌, ◌&&◌, is_some}
use Rattle.tap_trace.specs.declared.turn.ChainText.{ChainText}
use Rattle.tap_world.specs.World.{Actor, World}
use Rattle.tap_ledger.specs.declared.hand.Hand.{Hand}
use Rattle.tap_ledger.specs.declared.act.Act.{Act}
use Rattle.tap_world.specs.declared.event.Found.{Found}
use Rattle.tap_world.specs.Setup.{Numbered, Setup}
use Rattle.guest_mem.specs.Memory.{Contents, covers}
use Rattle.vring_turns.specs.RxTurn.{RxState, RxTurn, rx_step}
use Rattle.vring_turns.specs.TxTurn.{TxState, TxTurn, tx_step}
use Rattle.vhost_queue.specs.Queue.{Queue, IsQueueSize}
use Rattle.vhost_queue.specs.Positions.{IsInOrder}
use Rattle.tap_sound.proofs.Kit.{where_some}
use Rattle.tap_sound.proofs.RingEvents.{free_none}
use Rattle.tap_sound.proofs.Serving.{rx_idle, rx_stands_on, tx_idle, tx_stands_on, unserved, TurnLaws, held_by}
use Rattle.vring_turns.specs.Standing.{RxStands, TxStands, ReceiveTurnsKeepOrder, TransmitTurnsKeepOrder}
use Rattle.tap_world.specs.Effect.OnVhosts.{OnVhost}
use Rattle.tap_world.specs.Effect.{Onward, actor_after}
use Rattle.tap_world.specs.Effect.Onward.{Ends, Goes, Stays}
use Rattle.tap_sound.proofs.Shapes.{RxWay, TxWay}
use Rattle.tap_world.specs.Each.{EachActor, EachVhost}
use Rattle.tap_world.specs.SoundRings.{HaveRings, IsRing, Serves, StandsWith, TurnsAreHeld, is_about, serves}
use Rattle.tap_world.specs.Guests.{Guest, Vhost, turn_of}
use Rattle.vhost_dev.specs.Settings.{RingSettings}
use Rattle.tap_world.specs.declared.event.Event.{Event}
use Rattle.tap_world.specs.ByNumber.{at}
use Rattle.tap_world.specs.SoundActors.{CanBe}
use Rattle.tap_sound.proofs.ServedOn.{OldGuests}
use Rattle.tap_sound.proofs.Taken.{IsStep}
use Rattle.tap_sound.proofs.Turned.{at_is, itself, is_at, others}
use Rattle.tap_sound.proofs.Turns.{about, and_false, two_rings}
use Rattle.tap_world.specs.Step.{step}
use Rattle.vring_split.specs.declared.layout.Layout.{Layout}
use Rattle.vring_split.specs.Good.{IsGoodFor}
use Rattle.tap_world.specs.World.Doing.{Receives, Transmits}
use Rattle.tap_sound.proofs.CallRings.{DevLaws}
use Rattle.tap_sound.proofs.RingsKept.{mine_of, rx_stands, rx_was, tx_stands, tx_was, vhosts_on}
use Rattle.tap_sound.proofs.ServedMoved.{Elsewhere, Outcome, RingMove, rings_moved, served_moved}
use Rattle.tap_sound.proofs.ServedMoved.Outcome.{Over, Serving}
use Rattle.tap_sound.proofs.ServedMoved.RingMove.{Redone, Still}
use Rattle.tap_sound.proofs.StepFacts.{Does, RxDoes, TxDoes, lists_on, rx_does, tx_does}
use Rattle.scen_words.specs.declared.command.Command.TheVariants as command
use Rattle.tap_world.specs.StepTurns as rx_turns
use Rattle.tap_world.specs.StepTransmits as tx_turns
use Rattle.tap_trace.specs.declared.turn.TurnText.{TurnText}
use Rattle.tap_sound.proofs.Steps.{is_over_told}

pub record RingLaws : Type 0 where
  pub turn : TurnLaws
  pub rx_order : ReceiveTurnsKeepOrder
  pub tx_order : TransmitTurnsKeepOrder
  pub dev : DevLaws

-- nobody else serves a ring whose turn is free, or the actor's own
pub others_free : (w : World) (me vhost r : ℕ) (v : Vhost) → TurnsAreHeld w vhost v → r < 2 → (turn_of r v ≡ None) ⊎ (turn_of r v ≡ Some me)
    → (i : ℕ) (a : Actor) → me ≢ i → slice_get w.actors i ≡ Some a → Serves vhost r a → ⊥
others_free w me vhost r v turns below (inl none) i a no_ at_ sv = unserved w vhost r v turns below none i a at_ sv
others_free w me vhost r v turns below (inr mine) i a no_ at_ sv =
    true≢false (sym (held_by vhost r a sv) ∙ turns r i a below at_ ∙ ap (is_at i) mine ∙ others me i no_)

-- the actor holds its turn, or takes a free one
held_turn : (w : World) (me vhost r : ℕ) (v : Vhost) (a : Actor) → TurnsAreHeld w vhost v → r < 2 → slice_get w.actors me ≡ Some a → Serves vhost r a → turn_of r v ≡ Some me
held_turn w me vhost r v a turns below at_ sv = at_is me (turn_of r v) (sym (turns r me a below at_) ∙ held_by vhost r a sv)

pub about_after : (n r : ℕ) (a : Actor) (c : Numbered) (o : Onward) → slice_get a.script 0 ≡ Some c → Serves n r (actor_after o a) → about n r c.command ≡ true
about_after n r a c (Goes seen e f) at_ sv = sym (ap (is_about n r) at_) ∙ sv.1
about_after n r a c (Ends seen y) at_ sv = absurd (true≢false (sym sv.0))
about_after n r a c (Stays f) at_ sv = sym (ap (is_about n r) at_) ∙ sv.1

pub about_before : (n r : ℕ) (a : Actor) (c : Numbered) → slice_get a.script 0 ≡ Some c → Serves n r a → about n r c.command ≡ true
about_before n r a c at_ sv = sym (ap (is_about n r) at_) ∙ sv.1

ring_does : (g : Guest) (r : RingSettings) (q : Queue) (m n : Contents) → Does r.queue m q n → ((base start : ℕ) → IsInOrder base start r.queue.positions → IsInOrder base start q.positions)
    → IsRing g r → IsRing g (record r { queue = q })
ring_does g r q m n does order h = record {
  lists = lists_on r.lists r.queue.positions q.positions does.1 order h.lists;
  begun = h.begun;
  size = subst (λ (l : Layout). IsQueueSize l.num) (sym does.0) h.size;
  good = λ backed. subst (λ (l : Layout). IsGoodFor l (covers g.memory.regions)) (sym does.0) (h.good backed);
}

module _ (s : Setup) (w : World) (x : Event) (u : World) (t : IsStep s w x u) where
  -- a receive turn
  pub rx_kept : RingLaws → EachActor w (λ actor a. CanBe a) → EachVhost w (TurnsAreHeld w) → HaveRings w → (vhost file : ℕ) (q : RxTurn) (v : Vhost) (g : Guest) (h : Hand) (made : RxState × Act) (f : Found) (over : Option TurnText)
      → t.now.command ≡ command.RxTurn vhost → at w.vhosts vhost ≡ Some v → at w.guests v.guest ≡ Some g → RxWay x.actor t.actor.doing file q v
      → rx_step h (rx_turns.rx_state q v g.memory) ≡ Some made
      → rx_turns.over_told (rx_turns.rx_over made.0.turn.stage) ≡ Some over → rx_turns.rx_onward t.actor.seen file made.0.turn f over ≡ t.effect.onward
      → t.effect.vhosts ≡ OnVhost vhost (rx_turns.left 0 x.actor (is_some over) made.0.queue v)
      → OldGuests w t.between.guests → HaveRings t.between
  rx_kept laws can turns each vhost file q v g h made f over cis at_ got way step end_ on vh guests = record {
    rings = rings_moved s w x u t vhost v new at_ (vhosts_on s w x u t (OnVhost vhost new) vh) guests refl
        (λ k is rxr txr. (
          ring_does k v.settings.rx made.0.queue g.memory made.0.memory does
              (λ base start order. laws.rx_order q made.0.turn v.settings.rx.queue made.0.queue
              (record { before = rx_turns.rx_state q v g.memory; hand = h; told = made.1; after = made.0 } ∷ []) base start stands order (refl, refl, step, (refl, refl))) rxr,
          txr,
        )) each.rings;
    served = served_moved s w x u t vhost v new at_ (vhosts_on s w x u t (OnVhost vhost new) vh) can moves elsewhere each.served;
  }
    where
      new : Vhost
      new = rx_turns.left 0 x.actor (is_some over) made.0.queue v

      does : RxDoes (rx_turns.rx_state q v g.memory) made
      does = where_some (RxDoes (rx_turns.rx_state q v g.memory)) _ made (rx_does h (rx_turns.rx_state q v g.memory)) step

      stands : RxStands q v.settings.rx.queue
      stands = rx_stands laws.turn s w x u t turns each.served vhost file q v cis at_ way

      stood : RxStands made.0.turn made.0.queue
      stood = rx_stands_on laws.turn q v h g.memory made step stands

      not_one : about vhost 1 t.now.command ≡ true → ⊥
      not_one e = true≢false (sym e ∙ ap (about vhost 1) cis ∙ and_false (vhost == vhost))

      its : about vhost 0 t.now.command ≡ true
      its = ap (about vhost 0) cis ∙ ap (λ (b : Bool). b && true) (itself vhost)

      only_here : (n r : ℕ) → vhost ≢ n → about n r t.now.command ≡ true → ⊥
      only_here n r no_ e = true≢false (sym e ∙ ap (about n r) cis ∙ ap (λ (b : Bool). b && 0 == r) (others vhost n no_))

      elsewhere : Elsewhere s w x u t vhost v new
      elsewhere n r no_ = ((λ sv. only_here n r no_ (about_before n r t.actor t.now t.current_is sv)), (λ sv. only_here n r no_ (about_after n r t.actor t.now t.effect.onward t.current_is sv)))

      holder : (turn_of 0 v ≡ None) ⊎ (turn_of 0 v ≡ Some x.actor)
      holder = go way
        where
          go : RxWay x.actor t.actor.doing file q v → (turn_of 0 v ≡ None) ⊎ (turn_of 0 v ≡ Some x.actor)
          go (inl is) = inr (held_turn w x.actor vhost 0 v t.actor (turns vhost v at_) (omega arith) t.found (mine_of s w x u t vhost 0 (ap serves is) its))
          go (inr is) = inl (free_none 0 v is.2)

      has_file : ((serves t.actor.doing ≡ true) × (t.actor.doing ≡ t.actor.doing)) ⊎ ((serves t.actor.doing ≡ false) × (v.settings.rx.file ≡ Some file)) → is_some v.settings.rx.file ≡ true
      has_file (inl was) = (each.served vhost v at_).backed 0 x.actor t.actor t.found (mine_of s w x u t vhost 0 was.0 its)
      has_file (inr was) = ap (λ (o : Option ℕ). is_some o) was.1

      outcome : (o : Option TurnText) → over ≡ o → Outcome s w x u t vhost v new 0
      outcome None is =
          let goes : Goes t.actor.seen (Receives file made.0.turn) f ≡ t.effect.onward =
          sym (ap (rx_turns.rx_onward t.actor.seen file made.0.turn f) is) ∙ on in
          Serving
          (subst (λ (o : Onward). Serves vhost 0 (actor_after o t.actor)) goes (refl, ap (is_about vhost 0) t.current_is ∙ its))
          (has_file (rx_was x.actor t.actor.doing file q v way))
          (subst (λ (o : Onward). StandsWith (actor_after o t.actor).doing new) goes stood)
      outcome (Some e) is = Over
          (λ sv. true≢false (sym sv.0 ∙ ap (λ (o : Onward). serves (actor_after o t.actor).doing)
          (sym on ∙ ap (rx_turns.rx_onward t.actor.seen file made.0.turn f) is)))
          (let q = is_over_told (rx_turns.rx_over made.0.turn.stage) e (end_ ∙ ap (λ (o : Option TurnText). Some o) is) in rx_idle made.0.turn made.0.queue made.0.turn.stage q.0 refl q.1 stood)

      moves : (r : ℕ) → r < 2 → RingMove s w x u t vhost v new r
      moves r below = ⊎_elim
          (λ zero_. subst (RingMove s w x u t vhost v new) (sym zero_)
          (Redone (others_free w x.actor vhost 0 v (turns vhost v at_) (omega arith) holder) (outcome over refl)))
          (λ one_. subst (RingMove s w x u t vhost v new) (sym one_)
          (Still refl (λ sv. not_one (about_before vhost 1 t.actor t.now t.current_is sv)) (λ sv. not_one (about_after vhost 1 t.actor t.now t.effect.onward t.current_is sv))))
          (two_rings r below)

  -- a transmit turn
  pub tx_kept : RingLaws → EachActor w (λ actor a. CanBe a) → EachVhost w (TurnsAreHeld w) → HaveRings w → (vhost file : ℕ) (q : TxTurn) (told after : List ChainText) (v : Vhost) (g : Guest) (made : TxState × Act) (f : Found) (over : Option TurnText)
      → t.now.command ≡ command.TxTurn vhost → at w.vhosts vhost ≡ Some v → at w.guests v.guest ≡ Some g → TxWay t.actor.doing file q told v
      → tx_step (tx_turns.tx_state q v g.memory) ≡ Some made
      → rx_turns.over_told (tx_turns.tx_over made.0.turn.stage) ≡ Some over → tx_turns.tx_onward t.actor.seen file made.0.turn after f over ≡ t.effect.onward
      → t.effect.vhosts ≡ OnVhost vhost (rx_turns.left 1 x.actor (is_some over) made.0.queue v)
      → OldGuests w t.between.guests → HaveRings t.between
  tx_kept laws can turns each vhost file q told after v g made f over cis at_ got way step end_ on vh guests = record {
    rings = rings_moved s w x u t vhost v new at_ (vhosts_on s w x u t (OnVhost vhost new) vh) guests refl
        (λ k is rxr txr. (
          rxr,
          ring_does k v.settings.tx made.0.queue g.memory made.0.memory does
              (λ base start order. laws.tx_order q made.0.turn v.settings.tx.queue made.0.queue
              (record { before = tx_turns.tx_state q v g.memory; told = made.1; after = made.0 } ∷ []) base start stands order (refl, refl, step, (refl, refl))) txr,
        )) each.rings;
    served = served_moved s w x u t vhost v new at_ (vhosts_on s w x u t (OnVhost vhost new) vh) can moves elsewhere each.served;
  }
    where
      new : Vhost
      new = rx_turns.left 1 x.actor (is_some over) made.0.queue v

      does : TxDoes (tx_turns.tx_state q v g.memory) made
      does = where_some (TxDoes (tx_turns.tx_state q v g.memory)) _ made (tx_does (tx_turns.tx_state q v g.memory)) step

      stands : TxStands q v.settings.tx.queue
      stands = tx_stands laws.turn s w x u t turns each.served vhost file q told v cis at_ way

      stood : TxStands made.0.turn made.0.queue
      stood = tx_stands_on laws.turn q v g.memory made step stands

      not_one : about vhost 0 t.now.command ≡ true → ⊥
      not_one e = true≢false (sym e ∙ ap (about vhost 0) cis ∙ and_false (vhost == vhost))

      its : about vhost 1 t.now.command ≡ true
      its = ap (about vhost 1) cis ∙ ap (λ (b : Bool). b && true) (itself vhost)

      only_here : (n r : ℕ) → vhost ≢ n → about n r t.now.command ≡ true → ⊥
      only_here n r no_ e = true≢false (sym e ∙ ap (about n r) cis ∙ ap (λ (b : Bool). b && 1 == r) (others vhost n no_))

      elsewhere : Elsewhere s w x u t vhost v new
      elsewhere n r no_ = ((λ sv. only_here n r no_ (about_before n r t.actor t.now t.current_is sv)), (λ sv. only_here n r no_ (about_after n r t.actor t.now t.effect.onward t.current_is sv)))

      holder : (turn_of 1 v ≡ None) ⊎ (turn_of 1 v ≡ Some x.actor)
      holder = go way
        where
          go : TxWay t.actor.doing file q told v → (turn_of 1 v ≡ None) ⊎ (turn_of 1 v ≡ Some x.actor)
          go (inl is) = inr (held_turn w x.actor vhost 1 v t.actor (turns vhost v at_) (omega arith) t.found (mine_of s w x u t vhost 1 (ap serves is) its))
          go (inr is) = inl (free_none 1 v is.2)

      has_file : ((serves t.actor.doing ≡ true) × (t.actor.doing ≡ t.actor.doing)) ⊎ ((serves t.actor.doing ≡ false) × (v.settings.tx.file ≡ Some file)) → is_some v.settings.tx.file ≡ true
      has_file (inl was) = (each.served vhost v at_).backed 1 x.actor t.actor t.found (mine_of s w x u t vhost 1 was.0 its)
      has_file (inr was) = ap (λ (o : Option ℕ). is_some o) was.1

      outcome : (o : Option TurnText) → over ≡ o → Outcome s w x u t vhost v new 1
      outcome None is =
          let goes : Goes t.actor.seen (Transmits file made.0.turn after) f ≡ t.effect.onward =
          sym (ap (tx_turns.tx_onward t.actor.seen file made.0.turn after f) is) ∙ on in
          Serving
          (subst (λ (o : Onward). Serves vhost 1 (actor_after o t.actor)) goes (refl, ap (is_about vhost 1) t.current_is ∙ its))
          (has_file (tx_was t.actor.doing file q told v way))
          (subst (λ (o : Onward). StandsWith (actor_after o t.actor).doing new) goes stood)
      outcome (Some e) is = Over
          (λ sv. true≢false (sym sv.0 ∙ ap (λ (o : Onward). serves (actor_after o t.actor).doing)
          (sym on ∙ ap (tx_turns.tx_onward t.actor.seen file made.0.turn after f) is)))
          (let q = is_over_told (tx_turns.tx_over made.0.turn.stage) e (end_ ∙ ap (λ (o : Option TurnText). Some o) is) in tx_idle made.0.turn made.0.queue made.0.turn.stage q.0 refl q.1 stood)

      moves : (r : ℕ) → r < 2 → RingMove s w x u t vhost v new r
      moves r below = ⊎_elim
          (λ zero_. subst (RingMove s w x u t vhost v new) (sym zero_)
          (Still refl (λ sv. not_one (about_before vhost 0 t.actor t.now t.current_is sv)) (λ sv. not_one (about_after vhost 0 t.actor t.now t.effect.onward t.current_is sv))))
          (λ one_. subst (RingMove s w x u t vhost v new) (sym one_)
          (Redone (others_free w x.actor vhost 1 v (turns vhost v at_) (omega arith) holder) (outcome over refl)))
          (two_rings r below)
