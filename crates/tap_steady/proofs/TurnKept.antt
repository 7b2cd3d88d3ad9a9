-- Each turn under way has its ring, its file and its frame.
use Rattle.std.proofs.Common.{◌≡◌, ◌≢◌, ℕ, ◌<◌, List, Bool, true, false, Option, Some, ⊎_elim, refl, sym, ap, ◌∙◌, subst, arith}
use Rattle.std.specs.Prelude.{drop, is_some, slice_get}
use Rattle.std.proofs.lemmas.Bool.Decides.{eqb_tells}
use Rattle.tap_frame.specs.declared.name.Name.{Name}
use Rattle.tap_ground.specs.Options.{◌>>=◌}
use Rattle.vhost_dev.specs.Settings.{RingSettings, ring_of}
use Rattle.vring_turns.specs.Ready.{RxReady, TxReady}
use Rattle.vring_turns.specs.Ring.{done_in}
use Rattle.vring_turns.specs.RxTurn.{RxTurn}
use Rattle.vring_turns.specs.TxTurn.{TxTurn}
use Rattle.vring_turns.specs.Stage.{is_giving}
use Rattle.scen_words.specs.declared.command.Command.{Command}
use Rattle.scen_words.specs.declared.command.Command.TheVariants as command
use Rattle.tap_world.specs.declared.event.Event.{Event}
use Rattle.tap_world.specs.ByNumber.{at, with_at}
use Rattle.tap_world.specs.Setup.{Numbered, Setup, setup_of}
use Rattle.tap_world.specs.declared.line.Entry.{Entry}
use Rattle.tap_world.specs.Line.{File}
use Rattle.tap_world.specs.LineSteps.{Change, changed}
use Rattle.tap_world.specs.LineSteps.Change.{Leaves, PutsBack, Takes}
use Rattle.tap_world.specs.Guests.{Vhost, turn_of}
use Rattle.tap_world.specs.World.{Actor, Doing, World, current, name_of, newest}
use Rattle.tap_world.specs.World.Doing.{Begun, Given, Receives, Teaches, Transmits}
use Rattle.tap_world.specs.Effect.{OnFiles, Onward, actor_after, files_after}
use Rattle.tap_world.specs.Effect.OnFiles.{NoFile, OnFile}
use Rattle.tap_world.specs.Effect.Onward.{Ends, Goes, Stays}
use Rattle.tap_world.specs.Runs.{begins}
use Rattle.tap_world.specs.Each.{EachActor}
use Rattle.tap_world.specs.StepTurns.{frame_at}
use Rattle.tap_world.specs.Sound.{IsSound}
use Rattle.tap_world.specs.SoundActors.{can_be}
use Rattle.tap_world.specs.SoundRings.{holds_turn, ring_in}
use Rattle.tap_world.specs.Steady.{HasItsTurn, IsAtTurn, IsSteady}
use Rattle.tap_sound.proofs.Held.{can_here, shape_here}
use Rattle.tap_sound.proofs.Kit.{some_same, then_some, where_some}
use Rattle.tap_sound.proofs.Kept.{effect_files}
use Rattle.tap_sound.proofs.Scripts.{effect_actors}
use Rattle.tap_sound.proofs.Taken.{IsStep, step_is, when_settled}
use Rattle.tap_sound.proofs.Turned.{at_is, with_nth_inv}
use Rattle.tap_steady.specs.Part.{IsPart}
use Rattle.tap_steady.proofs.Kit.{begun_all, with_at_else}
use Rattle.tap_steady.proofs.PlacedChanges.{IsOf, Makes, row_makes, who}
use Rattle.tap_steady.proofs.PlacedKept.{no_actor}
use Rattle.tap_steady.proofs.TurnBegins.{TurnLaws}
use Rattle.tap_steady.proofs.TurnFacts.{Facts, HaveFacts, RxFacts, TxFacts, begun_facts, facts_of, to_sending}
use Rattle.tap_steady.proofs.TurnFiles.{IsApart, KeepsHand, frame_by, front_named, hand_stays}
use Rattle.tap_steady.proofs.TurnOthers.{effect_vhosts, holder, leaves_ring, ring_there, two_hold}
use Rattle.tap_steady.proofs.TurnOwn.{OnFacts, own_on}
use Rattle.tap_steady.proofs.TurnOwner.{owner_is}
use Rattle.tap_steady.proofs.TurnReceives.{file_after}
use Rattle.tap_steady.proofs.TurnRings.{SameIn, turn_in}

module _ (laws : TurnLaws) (s : Setup) (w : World) (x : Event) (u : World) (t : IsStep s w x u) (sound : IsSound s w) (steady : IsSteady s w) where
  can : can_be t.actor.doing t.now.command ≡ true
  can = can_here s w x u t sound.actors.stand

  -- ---- another actor's turn

  module _ (i : ℕ) (a : Actor) (c : Numbered) (apart : i ≢ x.actor) (at_i : slice_get w.actors i ≡ Some a) (now : current a.script ≡ Some c) where
    -- what is of its ring stays
    ring_stays : (b : Bool) (vhost ring : ℕ) (v : Vhost) → ring < 2 → ring_in c.command ≡ Some (vhost, ring) → holds_turn a.doing ≡ true → at w.vhosts vhost ≡ Some v
        → ((o : Option ℕ) → turn_of ring v ≡ o → turn_in b v ≡ o) → is_some (ring_of b v.settings).file ≡ true
        → (y : Vhost) × (at t.between.vhosts vhost ≡ Some y) × SameIn b v.settings y.settings
    ring_stays b vhost ring v below in_ holds at_v side backed =
        let turns = sound.actors.turns vhost v at_v in
        let its : turn_in b v ≡ Some i = side (Some i) (holder w vhost ring i v a c turns below at_i now in_ holds) in
        let on = leaves_ring s w x.actor i t.actor.seen vhost t.actor.doing t.now.command b v at_v backed its apart t.effect
        (shape_here s w x u t sound.actors.stand)
        (λ r lt is k. holder w vhost r x.actor v t.actor t.now turns lt t.found t.current_is is k) in
        let y = ring_there b vhost v t.effect.vhosts w.vhosts at_v on.keeps in
        (y.0, ap (λ (q : List (Option Vhost)). at q vhost) (effect_vhosts t.effect x.actor t.actor x.command w t.between t.made) ∙ y.1, y.2)

    tx_other : (vhost file : ℕ) (r : TxTurn) (first : Name) → c.command ≡ command.TxTurn vhost → holds_turn a.doing ≡ true → TxFacts w.vhosts vhost file r first
        → TxFacts t.between.vhosts vhost file r first
    tx_other vhost file r first is holds h =
        let y = ring_stays false vhost 1 h.v (omega arith) (ap ring_in is) holds h.is_vhost (λ o q. q) (ap (λ (o : Option ℕ). is_some o) h.backend) in
        record {
          v = y.0;
          is_vhost = y.1;
          goes_on = h.goes_on;
          backend = ap (λ (q : RingSettings). q.file) y.2.ring ∙ h.backend;
          header = h.header ∙ sym y.2.hdr;
          names = h.names;
          ready = subst (λ (q : RingSettings). TxReady r q.queue) (sym y.2.ring) h.ready;
          done = subst (λ (q : RingSettings). is_giving r.stage ≡ true → 0 < done_in q.queue) (sym y.2.ring) h.done;
        }

    -- the event's actor is at no receive turn of this vhost
    is_apart : (vhost file n : ℕ) (v : Vhost) (change : Change) → at w.vhosts vhost ≡ Some v → turn_of 0 v ≡ Some i → t.effect.files ≡ OnFile n change → IsApart vhost change
    is_apart vhost file n v change at_v its is = go change
        (subst (IsOf (who x.actor t.now.number t.actor.doing t.now.command)) is (where_some (Makes (who x.actor t.now.number t.actor.doing t.now.command)) _ t.effect (row_makes s w x.kind x.actor t.actor t.now.number t.now.command can) t.is_row))
      where
        clash : (other : ℕ) → (r : RxTurn) × (t.actor.doing ≡ Receives n r) × (t.now.command ≡ command.RxTurn other) → other ≡ vhost → ⊥
        clash other r same = two_hold i x.actor (turn_of 0 v) its
            (holder w vhost 0 x.actor v t.actor t.now (sound.actors.turns vhost v at_v) (omega arith) t.found t.current_is
            (ap ring_in r.2 ∙ ap (λ (m : ℕ). Some (m, 0)) same) (ap holds_turn r.1)) apart

        go : (change : Change) → IsOf (who x.actor t.now.number t.actor.doing t.now.command) (OnFile n change) → IsApart vhost change
        go (Takes other) h = clash other h
        go (PutsBack other) h = clash other h
        go (Leaves (Some other) fate) h = clash other h
        go change h = tt

    -- its frame in hand stays
    file_stays : (vhost file : ℕ) (v : Vhost) (f : File) → at w.vhosts vhost ≡ Some v → turn_of 0 v ≡ Some i → at w.files file ≡ Some f
        → (g : File) × (at t.between.files file ≡ Some g) × KeepsHand vhost f g
    file_stays vhost file v f at_v its at_f = go t.effect.files refl (effect_files t.effect x.actor t.actor x.command w t.between t.made)
      where
        go : (o : OnFiles) → t.effect.files ≡ o → files_after o w.files ≡ Some t.between.files → (g : File) × (at t.between.files file ≡ Some g) × KeepsHand vhost f g
        go NoFile is after = (
          f,
          ap (λ (q : List (Option File)). at q file) (sym (some_same w.files t.between.files after)) ∙ at_f,
          record { hand = refl; front = λ h. refl },
        )
        go (OnFile n change) is after = ⊎_elim
            (λ same.
            let g = file_after file change f w.files t.between.files at_f (subst (λ (m : ℕ). files_after (OnFile m change) w.files ≡ Some t.between.files) same.1 after) in (
              g.g,
              g.is,
              hand_stays vhost change f g.g (is_apart vhost file n v change at_v its is) (sound.lines file f at_f).ordered.parts
                  (λ held. let h = sound.hand file f at_f vhost held in front_named f.line h.1 h.2) g.made,
            ))
            (λ differ.
            let y = then_some (at w.files n) _ t.between.files after in
            let z = then_some (changed change y.0) _ t.between.files y.2 in (
              f,
              ap (λ (q : List (Option File)). at q file) (sym (some_same (with_at n z.0 w.files) t.between.files z.2)) ∙ with_at_else n z.0 w.files file differ.1 ∙ at_f,
              record { hand = refl; front = λ h. refl },
            ))
            (eqb_tells n file)

    rx_other : (vhost file : ℕ) (r : RxTurn) → c.command ≡ command.RxTurn vhost → holds_turn a.doing ≡ true → RxFacts s w.files w.vhosts vhost file r
        → RxFacts s t.between.files t.between.vhosts vhost file r
    rx_other vhost file r is holds h =
        let y = ring_stays true vhost 0 h.v (omega arith) (ap ring_in is) holds h.is_vhost (λ o q. q) (ap (λ (o : Option ℕ). is_some o) h.backend) in
        let its = holder w vhost 0 i h.v a c (sound.actors.turns vhost h.v h.is_vhost) (omega arith) at_i now (ap ring_in is) holds in
        let g = file_stays vhost file h.v h.f h.is_vhost its h.is_file in
        record {
          v = y.0;
          f = g.0;
          is_vhost = y.1;
          is_file = g.1;
          goes_on = h.goes_on;
          backend = ap (λ (q : RingSettings). q.file) y.2.ring ∙ h.backend;
          mergeable = h.mergeable ∙ sym y.2.mrg;
          header = h.header ∙ sym y.2.hdr;
          ready = subst (λ (q : RingSettings). RxReady r q.queue) (sym y.2.ring) h.ready;
          in_hand = g.2.hand ∙ h.in_hand;
          front = λ held.
              frame_by s g.0 ∙ ap (λ (o : Option Entry). o >>= λ (e : Entry). frame_at s e) (g.2.front (at_is vhost h.f.hand (h.in_hand ∙ held)))
              ∙ sym (frame_by s h.f) ∙ h.front held;
          overruns = h.overruns;
        }

    other_on : (cmd : Command) (d : Doing) (first : Name) → c.command ≡ cmd → a.doing ≡ d → Facts s w.files w.vhosts first cmd d
        → Facts s t.between.files t.between.vhosts first cmd d
    other_on (command.RxTurn vhost) (Receives file r) first is doing h = rx_other vhost file r is (ap holds_turn doing) h
    other_on (command.TxTurn vhost) (Transmits file r told) first is doing h = tx_other vhost file r first is (ap holds_turn doing) h
    other_on (command.TxTurn vhost) (Given file r told y) first is doing h = (tx_other vhost file r first is (ap holds_turn doing) h.0, h.1)
    other_on (command.TxTurn vhost) (Teaches file r told y) first is doing h = (tx_other vhost file r first is (ap holds_turn doing) h.0, h.1)
    other_on cmd d first is doing h = tt

  -- ---- all actors

  own : (o : Onward) → t.effect.onward ≡ o → (c : Numbered) → current (actor_after o t.actor).script ≡ Some c
      → Facts s t.between.files t.between.vhosts (name_of x.actor c.number) c.command (actor_after o t.actor).doing
  own (Ends seen y) is c now = begun_facts s t.between.files t.between.vhosts (name_of x.actor c.number) c.command
  own (Goes seen e f) is c now =
      subst (λ (q : Numbered). Facts s t.between.files t.between.vhosts (name_of x.actor q.number) q.command e) (some_same t.now c (sym t.current_is ∙ now))
      (subst (λ (q : Onward). OnFacts s t.between.files t.between.vhosts (name_of x.actor t.now.number) t.now.command t.actor.doing q) is
      (own_on laws s w x u t sound steady can))
  own (Stays f) is c now =
      subst (λ (q : Numbered). Facts s t.between.files t.between.vhosts (name_of x.actor q.number) q.command t.actor.doing) (some_same t.now c (sym t.current_is ∙ now))
      (subst (λ (q : Onward). OnFacts s t.between.files t.between.vhosts (name_of x.actor t.now.number) t.now.command t.actor.doing q) is
      (own_on laws s w x u t sound steady can))

  between_facts : HaveFacts s t.between
  between_facts = record {
    each = λ i a at_ c now. ⊎_elim
        (λ same.
        let mine : actor_after t.effect.onward t.actor ≡ a = same.1 in
        subst (λ (n : ℕ). Facts s t.between.files t.between.vhosts (name_of n c.number) c.command a.doing) same.0
        (subst (λ (q : Actor). Facts s t.between.files t.between.vhosts (name_of x.actor c.number) c.command q.doing) mine
        (own t.effect.onward refl c (ap (λ (q : Actor). current q.script) mine ∙ now))))
        (λ other. other_on i a c (λ h. other.0 (sym h)) other.1 now c.command a.doing (name_of i c.number) refl refl
        (facts_of s w (name_of i c.number) c.command a.doing (steady.turns i a other.1 c now)))
        (with_nth_inv x.actor (actor_after t.effect.onward t.actor) w.actors i a
        (ap (λ (q : List Actor). slice_get q i) (sym (effect_actors t.effect x.actor t.actor x.command w t.between t.made)) ∙ at_));
  }

  pub after_facts : HaveFacts s u
  after_facts = subst (HaveFacts s) t.is (when_settled (HaveFacts s) t.between between_facts (λ e end. record {
    each = λ i a at_ c now. ⊎_elim
        (λ same. subst (λ (q : Actor). Facts s t.between.files t.between.vhosts (name_of i c.number) c.command q.doing) same.1
        (begun_facts s t.between.files t.between.vhosts (name_of i c.number) c.command))
        (λ other. between_facts.each i a other.1 c now)
        (with_nth_inv e.actor (record e.state { script = drop 1 e.state.script; doing = Begun }) t.between.actors i a at_);
  }))

-- ---- what is steady again

at_turn : (s : Setup) (w : World) (sound : IsSound s w) (i : ℕ) (a : Actor) (c : Numbered) → slice_get w.actors i ≡ Some a → current a.script ≡ Some c
    → (cmd : Command) (d : Doing) (first : Name) → c.command ≡ cmd → a.doing ≡ d → Facts s w.files w.vhosts first cmd d → IsAtTurn s w first cmd d
at_turn s w sound i a c at_i now (command.RxTurn vhost) (Receives file r) first is doing h = record {
  v = h.v;
  f = h.f;
  is_vhost = h.is_vhost;
  is_file = h.is_file;
  goes_on = h.goes_on;
  backend = h.backend;
  owner = owner_is s w sound i a c vhost file r h.v at_i now is doing h.is_vhost h.f h.is_file h.backend;
  mergeable = h.mergeable;
  header = h.header;
  ready = h.ready;
  in_hand = h.in_hand;
  front = h.front;
  overruns = h.overruns;
}
at_turn s w sound i a c at_i now (command.TxTurn vhost) (Transmits file r told) first is doing h = to_sending w vhost file r first h
at_turn s w sound i a c at_i now (command.TxTurn vhost) (Given file r told y) first is doing h = (to_sending w vhost file r first h.0, h.1)
at_turn s w sound i a c at_i now (command.TxTurn vhost) (Teaches file r told y) first is doing h = (to_sending w vhost file r first h.0, h.1)
at_turn s w sound i a c at_i now cmd d first is doing h = tt

begun_turn : (s : Setup) (w : World) (first : Name) (c : Command) (d : Doing) → d ≡ Begun → IsAtTurn s w first c d
begun_turn s w first c d is = subst (IsAtTurn s w first c) (sym is) (go c)
  where
    go : (c : Command) → IsAtTurn s w first c Begun
    go (command.RxTurn vhost) = tt
    go (command.TxTurn vhost) = tt
    go c = tt

pub turns : TurnLaws → IsPart (λ s w. EachActor w (HasItsTurn s w))
turns laws = record {
  first = λ s laid i a at_. absurd (no_actor i a at_);
  begin = λ s ended p w laid between is sound steady i a at_ c now.
      begun_turn (setup_of s) (begins ended p w) (name_of i c.number) c.command a.doing (begun_all p (newest w) 0 p.actors i a at_);
  event = λ s w e u laid world is sound steady after.
      let t = step_is (setup_of s) w e u is in
      let h = after_facts laws (setup_of s) w e u.0 t sound.sound steady in
      λ i a at_ c now. at_turn (setup_of s) u.0 after.sound i a c at_ now c.command a.doing (name_of i c.number) refl refl (h.each i a at_ c now);
}
