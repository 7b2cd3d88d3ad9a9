-- A Drive keeps rings in order, and served.
use Rattle.std.proofs.Common.{true≢false, true, false, sym, ap, ◌∙◌, subst, refl, Some, None, Option, ⊎_elim, ◌<◌, arith, ◌≢◌, inl, inr, ◌≡◌, ◌⊎◌, ℕ, Bool}
use Rattle.std.specs.Prelude.{slice_get, if◌then◌else◌, ◌==◌, ◌&&◌, ◌||◌, is_none, not}
use Rattle.tap_world.specs.World.{Actor, Doing, World, table}
use Rattle.tap_world.specs.Setup.{Setup}
use Rattle.guest_mem.specs.Memory.{Contents}
use Rattle.vhost_queue.specs.Positions.{IsIdle}
use Rattle.tap_sound.proofs.Kit.{either, some_same, then_some}
use Rattle.tap_world.specs.Effect.OnVhosts.{OnVhost}
use Rattle.tap_world.specs.Effect.{Effect}
use Rattle.tap_world.specs.Each.{EachActor, EachVhost}
use Rattle.tap_world.specs.SoundRings.{HaveRings, Serves, TurnsAreHeld, serves}
use Rattle.tap_world.specs.Guests.{Guest, Vhost, turn_of, is_ring, with_turn, is_free_for}
use Rattle.std.specs.Option.{option_map_or}
use Rattle.vhost_dev.specs.Settings.{RingSettings, Settings, ring_at, with_ring}
use Rattle.scen_words.specs.declared.command.Command.{Command}
use Rattle.tap_trace.specs.declared.kind.Kind.{Kind}
use Rattle.tap_world.specs.declared.event.Event.{Event}
use Rattle.tap_world.specs.ByNumber.{at}
use Rattle.tap_world.specs.Effect.OnGuests.{NoGuest, OnGuest}
use Rattle.tap_world.specs.SoundActors.{CanBe}
use Rattle.tap_sound.proofs.ServedOn.{OldGuests, A}
use Rattle.tap_sound.proofs.Taken.{IsStep, both}
use Rattle.tap_sound.proofs.Turns.{two_rings, is_below}
use Rattle.tap_sound.proofs.Writers.{doing_after, is_doing_after}
use Rattle.tap_world.specs.World.Doing.{Begun, Released, Unbacked}
use Rattle.tap_sound.proofs.RingsKept.{a_guest, vhosts_on, same_guests}
use Rattle.tap_sound.proofs.ServedMoved.{RingMove, rings_moved, served_moved}
use Rattle.tap_sound.proofs.ServedMoved.Outcome.{Rest}
use Rattle.tap_sound.proofs.ServedMoved.RingMove.{Redone, Still}
use Rattle.vhost_dev.specs.Laws.Call.{SetAddr, SetBackend, SetBase, SetFeatures, SetNum, UnsetBackend}
use Rattle.vhost_dev.specs.Refusals.{number_refusal, ready_refusal}
use Rattle.std.proofs.lemmas.Bool.Decides.{eqb_tells}
use Rattle.tap_trace.specs.declared.answer.Answer.{Answer}
use Rattle.tap_ledger.specs.declared.error.TapErr.{TapErr as TapText}
use Rattle.tap_sound.proofs.CallRings.{BothRings, DevLaws, call_keeps, call_regions}
use Rattle.tap_sound.proofs.Calls.{Called, called_is}
use Rattle.tap_sound.proofs.Calls.Called.{Addr, Base, Features, Num, Untouched}
use Rattle.tap_sound.proofs.Standing.{answered, first_passed, ring_there}
use Rattle.tap_sound.proofs.TurnRings.{others_free}
use Rattle.tap_trace.specs.declared.kind.Kind.TheVariants as kind
use Rattle.tap_world.specs.StepBackend as back_steps
use Rattle.vhost_dev.specs.Calls as dev
use Rattle.tap_steer.specs.Select as steer
use Rattle.tap_world.specs.StepControl as control
use Rattle.tap_sound.proofs.Steps.{not_refused}

holder_of : (me ring : ℕ) (v : Vhost) → is_free_for me ring v ≡ true → is_ring ring ≡ true → (turn_of ring v ≡ None) ⊎ (turn_of ring v ≡ Some me)
holder_of me ring v free there = go (turn_of ring v) refl (ap (λ (b : Bool). not b || option_map_or (λ a. a == me) (turn_of ring v) true) (sym there) ∙ free)
  where
    go : (o : Option ℕ) → turn_of ring v ≡ o → option_map_or (λ (a : ℕ). a == me) (turn_of ring v) true ≡ true → (turn_of ring v ≡ None) ⊎ (turn_of ring v ≡ Some me)
    go None is h = inl is
    go (Some a) is h = inr (is ∙ ap (λ (n : ℕ). Some n) (equal a me (ap (λ (o : Option ℕ). option_map_or (λ (k : ℕ). k == me) o true) (sym is) ∙ h)))
      where
        equal : (a b : ℕ) → (a == b) ≡ true → a ≡ b
        equal a b e = ⊎_elim (λ t. t.1) (λ t. absurd (true≢false (sym e ∙ t.0))) (eqb_tells a b)

-- a ring that changes, and the other one
at_same : (ring : ℕ) (r : RingSettings) (s : Settings) → ring_at ring (with_ring (ring == 0) r s) ≡ r
at_same ring r s = go (ring == 0)
  where
    go : (b : Bool) → (if b then (if b then record s { rx = r } else record s { tx = r }).rx else (if b then record s { rx = r } else record s { tx = r }).tx) ≡ r
    go true = refl
    go false = refl

at_other : (ring n : ℕ) (r : RingSettings) (s : Settings) → ring < 2 → n < 2 → ring ≢ n → ring_at n (with_ring (ring == 0) r s) ≡ ring_at n s
at_other ring n r s a b no_ = ⊎_elim
    (λ x. ⊎_elim (λ y. absurd (no_ (x ∙ sym y)))
    (λ y. subst (λ (k : ℕ). ring_at n (with_ring (k == 0) r s) ≡ ring_at n s) (sym x) (subst (λ (m : ℕ). ring_at m (with_ring (0 == 0) r s) ≡ ring_at m s) (sym y) refl)) (two_rings n b))
    (λ x. ⊎_elim
    (λ y. subst (λ (k : ℕ). ring_at n (with_ring (k == 0) r s) ≡ ring_at n s) (sym x) (subst (λ (m : ℕ). ring_at m (with_ring (1 == 0) r s) ≡ ring_at m s) (sym y) refl))
    (λ y. absurd (no_ (x ∙ sym y))) (two_rings n b))
    (two_rings ring a)

module _ (s : Setup) (w : World) (x : Event) (u : World) (t : IsStep s w x u) where
  -- the command serves nothing, before and after
  free_before : serves t.actor.doing ≡ false → (n r : ℕ) → Serves n r t.actor → ⊥
  free_before is n r sv = true≢false (sym sv.0 ∙ is)

  free_after : serves (doing_after t.effect.onward t.actor.doing) ≡ false → (n r : ℕ) → Serves n r (A s w x u t) → ⊥
  free_after is n r sv = true≢false (sym sv.0 ∙ ap serves (is_doing_after t.effect.onward t.actor) ∙ is)

  -- one ring changes, of which nothing begins or ends to be served
  ring_moves : (vhost ring : ℕ) (v new : Vhost) (r0 : RingSettings) → TurnsAreHeld w vhost v → new.settings ≡ with_ring (ring == 0) r0 v.settings → ring < 2
      → (turn_of ring v ≡ None) ⊎ (turn_of ring v ≡ Some x.actor) → serves t.actor.doing ≡ false → serves (doing_after t.effect.onward t.actor.doing) ≡ false
      → (IsIdle (ring_at ring v.settings).queue.positions → IsIdle r0.queue.positions) → (r : ℕ) → r < 2 → RingMove s w x u t vhost v new r
  ring_moves vhost ring v new r0 turns is below holder before after keep r fits = ⊎_elim
      (λ e. subst (RingMove s w x u t vhost v new) e.1
      (Redone (others_free w x.actor vhost ring v turns below holder)
      (Rest (free_before before vhost ring) (free_after after vhost ring)
      (λ idle. subst (λ (k : RingSettings). IsIdle k.queue.positions) (sym (ap (ring_at ring) is ∙ at_same ring r0 v.settings)) (keep idle)))))
      (λ e. Still (ap (ring_at r) is ∙ at_other ring r r0 v.settings below fits e.1) (free_before before vhost r) (free_after after vhost r))
      (eqb_tells ring r)

  still_moves : (vhost : ℕ) (v new : Vhost) → new.settings ≡ v.settings → serves t.actor.doing ≡ false → serves (doing_after t.effect.onward t.actor.doing) ≡ false
      → (r : ℕ) → r < 2 → RingMove s w x u t vhost v new r
  still_moves vhost v new is before after r fits = Still (ap (ring_at r) is) (free_before before vhost r) (free_after after vhost r)

  -- what follows
  kept_by : (vhost : ℕ) (v new : Vhost) → EachActor w (λ actor a. CanBe a) → at w.vhosts vhost ≡ Some v → t.effect.vhosts ≡ OnVhost vhost new → OldGuests w t.between.guests → new.guest ≡ v.guest
      → serves t.actor.doing ≡ false → serves (doing_after t.effect.onward t.actor.doing) ≡ false
      → ((r : ℕ) → r < 2 → RingMove s w x u t vhost v new r) → ((g : Guest) → at w.guests v.guest ≡ Some g → BothRings g v.settings → BothRings g new.settings) → HaveRings w → HaveRings t.between
  kept_by vhost v new can found vh guests same before after moves rings h = record {
    rings = rings_moved s w x u t vhost v new found (vhosts_on s w x u t (OnVhost vhost new) vh) guests same (λ g is a b. rings g is (a, b)) h.rings;
    served = served_moved s w x u t vhost v new found (vhosts_on s w x u t (OnVhost vhost new) vh) can moves
        (λ n r no_. (free_before before n r, free_after after n r)) h.served;
  }

  step_guests : (guest : ℕ) (m : Contents) (g : Guest) (o : Option Kind) → at w.guests guest ≡ Some g → m.regions ≡ g.memory.regions
      → t.effect.guests ≡ option_map_or (λ k. OnGuest guest m (Some k)) o NoGuest → OldGuests w t.between.guests
  step_guests guest m g None found same is = same_guests s w x u t is
  step_guests guest m g (Some k) found same is = a_guest s w x u t guest m (Some k) g is found same

  serves_on : (r : Effect) → r ≡ t.effect → serves (doing_after r.onward t.actor.doing) ≡ false → serves (doing_after t.effect.onward t.actor.doing) ≡ false
  serves_on r eq is = ap (λ (q : Effect). serves (doing_after q.onward t.actor.doing)) (sym eq) ∙ is

  vhosts_of : (r : Effect) → r ≡ t.effect → t.effect.vhosts ≡ r.vhosts
  vhosts_of r eq = ap (λ (q : Effect). q.vhosts) (sym eq)

  guests_of : (r : Effect) → r ≡ t.effect → t.effect.guests ≡ r.guests
  guests_of r eq = ap (λ (q : Effect). q.guests) (sym eq)

  -- a backend ends at its Drive
  back_ended : (vhost ring : ℕ) (b : Bool) (v : Vhost) (g : Guest) (k : Option Kind) → EachActor w (λ actor a. CanBe a) → at w.vhosts vhost ≡ Some v → at w.guests v.guest ≡ Some g
      → t.effect.vhosts ≡ OnVhost vhost (if b then with_turn ring None v else v) → t.effect.guests ≡ option_map_or (λ q. OnGuest v.guest g.memory (Some q)) k NoGuest
      → serves t.actor.doing ≡ false → serves (doing_after t.effect.onward t.actor.doing) ≡ false → HaveRings w → HaveRings t.between
  back_ended vhost ring true v g k can found got vh gs before after h =
      let same = turn_settings (ring == 0) in
      kept_by vhost v (with_turn ring None v) can found vh (step_guests v.guest g.memory g k got refl gs) same.1 before after
      (still_moves vhost v (with_turn ring None v) same.0 before after) (λ y is both. subst (BothRings y) (sym same.0) both) h
    where
      turn_settings : (b : Bool) → ((if b then record v { rx_turn = None } else record v { tx_turn = None }).settings ≡ v.settings)
          × ((if b then record v { rx_turn = None } else record v { tx_turn = None }).guest ≡ v.guest)
      turn_settings true = (refl, refl)
      turn_settings false = (refl, refl)
  back_ended vhost ring false v g k can found got vh gs before after h =
      kept_by vhost v v can found vh (step_guests v.guest g.memory g k got refl gs) refl before after (still_moves vhost v v refl before after) (λ y is both. both) h

  -- it is unset
  unsets_kept : DevLaws → (vhost ring : ℕ) (v : Vhost) (g : Guest) (a : Option Answer) (o : Option ℕ) → (a ≡ None → number_refusal ring ≡ None) → EachActor w (λ actor a. CanBe a) → EachVhost w (TurnsAreHeld w)
      → at w.vhosts vhost ≡ Some v → at w.guests v.guest ≡ Some g → is_free_for x.actor ring v ≡ true → serves t.actor.doing ≡ false
      → back_steps.unsets_back w x.actor t.actor.seen vhost ring v g.memory a o ≡ t.effect → HaveRings w → HaveRings t.between
  unsets_kept laws vhost ring v g (Some e) o no_ can turns found got free before eq h =
      back_ended vhost ring (is_ring ring && true) v g None can found got (vhosts_of _ eq) (guests_of _ eq) before (serves_on _ eq refl) h
  unsets_kept laws vhost ring v g None None no_ can turns found got free before eq h =
      back_ended vhost ring (is_ring ring && true) v g (Some (kind.Backend vhost ring false)) can found got (vhosts_of _ eq) (guests_of _ eq) before (serves_on _ eq refl) h
  unsets_kept laws vhost ring v g None (Some file) no_ can turns found got free before eq h =
      let there = ring_there ring (first_passed _ _ _ (no_ refl)) in
      let after = serves_on _ eq (either (λ (q : Doing). serves q ≡ false) (ring == 0) (Unbacked file) (Released file) refl refl) in
      kept_by vhost v (record v { settings = dev.without_backend ring v.settings }) can found (vhosts_of _ eq) (a_guest s w x u t v.guest g.memory _ g (guests_of _ eq) got refl) refl before after
      (ring_moves vhost ring v _ (dev.unbacked (ring_at ring v.settings)) (turns vhost v found) refl (is_below ring there) (holder_of x.actor ring v free there) before after (λ k. k))
      (λ y is both. call_keeps laws y v.settings (dev.without_backend ring v.settings) (UnsetBackend ring) tt (no_ refl) refl both) h

  -- it is set
  sets_kept : DevLaws → (vhost ring file : ℕ) (refusal : Option TapText) (v : Vhost) (g : Guest) (a : Option Answer) → (a ≡ None → ready_refusal ring g.memory v.settings ≡ None)
      → EachActor w (λ actor a. CanBe a) → EachVhost w (TurnsAreHeld w)
      → at w.vhosts vhost ≡ Some v → at w.guests v.guest ≡ Some g → is_free_for x.actor ring v ≡ true → serves t.actor.doing ≡ false
      → back_steps.sets_back w x.actor t.actor.seen vhost ring file refusal v g.memory a ≡ t.effect → HaveRings w → HaveRings t.between
  sets_kept laws vhost ring file refusal v g (Some y) no_ can turns found got free before eq h =
      back_ended vhost ring (is_ring ring && is_none refusal) v g _ can found got (vhosts_of _ eq) (guests_of _ eq) before (serves_on _ eq refl) h
  sets_kept laws vhost ring file refusal v g None no_ can turns found got free before eq h =
      let there = ring_there ring (first_passed _ _ _ (no_ refl)) in
      let after = serves_on _ eq refl in
      kept_by vhost v (record v { settings = dev.with_backend ring file g.memory v.settings }) can found (vhosts_of _ eq) (a_guest s w x u t v.guest g.memory _ g (guests_of _ eq) got refl) refl before after
      (ring_moves vhost ring v _ (dev.backed file g.memory (ring_at ring v.settings)) (turns vhost v found) refl (is_below ring there) (holder_of x.actor ring v free there) before after (λ k. k))
      (λ y is both. let it : g ≡ y = some_same g y (sym got ∙ is) in
      subst (λ (z : Guest). BothRings z (dev.with_backend ring file g.memory v.settings)) it
      (call_keeps laws g v.settings (dev.with_backend ring file g.memory v.settings) (SetBackend ring file) tt (no_ refl) refl (subst (λ (z : Guest). BothRings z v.settings) (sym it) both))) h

  pub back_kept : DevLaws → (refusal : Option TapText) (vhost ring : ℕ) (file : Option ℕ) (v : Vhost) (g : Guest) → EachActor w (λ actor a. CanBe a) → EachVhost w (TurnsAreHeld w)
      → at w.vhosts vhost ≡ Some v → at w.guests v.guest ≡ Some g → is_free_for x.actor ring v ≡ true → serves t.actor.doing ≡ false
      → back_steps.back_call s w x.actor t.actor.seen refusal vhost ring file v g.memory ≡ Some t.effect → HaveRings w → HaveRings t.between
  back_kept laws refusal vhost ring None v g can turns found got free before eq h =
      let b = then_some (back_steps.refused_by (number_refusal ring)) _ t.effect eq in
      unsets_kept laws vhost ring v g b.0 (ring_at ring v.settings).file (λ e. not_refused _ (b.1 ∙ ap (λ (o : Option Answer). Some o) e)) can turns found got free before (some_same _ t.effect b.2) h
  back_kept laws refusal vhost ring (Some file) v g can turns found got free before eq h =
      let b = then_some (back_steps.back_answer (ready_refusal ring g.memory v.settings) refusal (back_steps.unfit_for (steer.shape_of (table s w) file) v.settings)) _ t.effect eq in
      sets_kept laws vhost ring file refusal v g b.0
      (λ e. (answered _ _ _ (b.1 ∙ ap (λ (o : Option Answer). Some o) e)).0) can turns found got free before (some_same _ t.effect b.2) h

  -- a call
  nobody_serves : (vhost ring : ℕ) (v : Vhost) → TurnsAreHeld w vhost v → ring < 2 → (turn_of ring v ≡ None) ⊎ (turn_of ring v ≡ Some x.actor) → serves t.actor.doing ≡ false
      → (i : ℕ) (a : Actor) → slice_get w.actors i ≡ Some a → Serves vhost ring a → ⊥
  nobody_serves vhost ring v turns below holder before i a at_ sv = ⊎_elim
      (λ e. free_before before vhost ring (subst (Serves vhost ring) (some_same a t.actor (sym (subst (λ (k : ℕ). slice_get w.actors k ≡ Some a) (sym e.1) at_) ∙ t.found)) sv))
      (λ e. others_free w x.actor vhost ring v turns below holder i a e.1 at_ sv)
      (eqb_tells x.actor i)

  features_moves : (vhost bits : ℕ) (v new : Vhost) → TurnsAreHeld w vhost v → new.settings ≡ dev.with_features bits v.settings
      → is_free_for x.actor 0 v ≡ true → is_free_for x.actor 1 v ≡ true → serves t.actor.doing ≡ false → serves (doing_after t.effect.onward t.actor.doing) ≡ false
      → (r : ℕ) → r < 2 → RingMove s w x u t vhost v new r
  features_moves vhost bits v new turns is free0 free1 before after r fits = ⊎_elim
      (λ e. subst (RingMove s w x u t vhost v new) (sym e) (Redone (others_free w x.actor vhost 0 v turns (omega arith) (holder_of x.actor 0 v free0 refl))
      (Rest (free_before before vhost 0) (free_after after vhost 0) (λ idle. subst (λ (k : Settings). IsIdle k.rx.queue.positions) (sym is) idle))))
      (λ e. subst (RingMove s w x u t vhost v new) (sym e) (Redone (others_free w x.actor vhost 1 v turns (omega arith) (holder_of x.actor 1 v free1 refl))
      (Rest (free_before before vhost 1) (free_after after vhost 1) (λ idle. subst (λ (k : Settings). IsIdle k.tx.queue.positions) (sym is) idle))))
      (two_rings r fits)

  called_kept : DevLaws → (vhost : ℕ) (v : Vhost) (g : Guest) (y : control.Call) → EachActor w (λ actor a. CanBe a) → EachVhost w (TurnsAreHeld w)
      → at w.vhosts vhost ≡ Some v → at w.guests v.guest ≡ Some g → control.may_call x.actor t.now.command v ≡ true → serves t.actor.doing ≡ false
      → serves (doing_after t.effect.onward t.actor.doing) ≡ false → t.effect.vhosts ≡ OnVhost vhost y.vhost → OldGuests w t.between.guests
      → Called t.now.command v g.memory y → HaveRings w → HaveRings t.between
  called_kept laws vhost v g y can turns found got may before after vh gs (Untouched st gu a b) h =
      kept_by vhost v y.vhost can found vh gs gu before after (still_moves vhost v y.vhost st before after) (λ k is both. subst (BothRings k) (sym st) both) h
  called_kept laws vhost v g y can turns found got may before after vh gs (Features n bits cis no_ same) h =
      let free = both _ _ (subst (λ (c : Command). control.may_call x.actor c v ≡ true) cis may) in
      kept_by vhost v y.vhost can found vh gs (ap (λ (q : Vhost). q.guest) same) before after
      (features_moves vhost bits v y.vhost (turns vhost v found) (ap (λ (q : Vhost). q.settings) same) free.0 free.1 before after)
      (λ k is both_. call_keeps laws k v.settings y.vhost.settings (SetFeatures bits) tt no_ (ap (λ (q : Vhost). q.settings) same) both_) h
  called_kept laws vhost v g y can turns found got may before after vh gs (Num n ring m cis no_ same) h =
      let there = ring_there ring (first_passed _ _ _ no_) in
      let free = subst (λ (c : Command). control.may_call x.actor c v ≡ true) cis may in
      kept_by vhost v y.vhost can found vh gs (ap (λ (q : Vhost). q.guest) same) before after
      (ring_moves vhost ring v y.vhost (dev.resized m (ring_at ring v.settings)) (turns vhost v found) (ap (λ (q : Vhost). q.settings) same) (is_below ring there) (holder_of x.actor ring v free there) before after (λ k. k))
      (λ k is both_. call_keeps laws k v.settings y.vhost.settings (SetNum ring m) tt no_ (ap (λ (q : Vhost). q.settings) same) both_) h
  called_kept laws vhost v g y can turns found got may before after vh gs (Base n ring m cis no_ same) h =
      let there = ring_there ring (first_passed _ _ _ no_) in
      let free = subst (λ (c : Command). control.may_call x.actor c v ≡ true) cis may in
      let holder = holder_of x.actor ring v free there in
      kept_by vhost v y.vhost can found vh gs (ap (λ (q : Vhost). q.guest) same) before after
      (ring_moves vhost ring v y.vhost (dev.begun m (ring_at ring v.settings)) (turns vhost v found) (ap (λ (q : Vhost). q.settings) same) (is_below ring there) holder before after (λ k. k))
      (λ k is both_. call_keeps laws k v.settings y.vhost.settings (SetBase ring m)
      ((h.served vhost v found).idle ring (is_below ring there) (nobody_serves vhost ring v (turns vhost v found) (is_below ring there) holder before)) no_ (ap (λ (q : Vhost). q.settings) same) both_) h
  called_kept laws vhost v g y can turns found got may before after vh gs (Addr n ring desc avail used cis no_ same) h =
      let there = ring_there ring (first_passed _ _ _ no_) in
      let free = subst (λ (c : Command). control.may_call x.actor c v ≡ true) cis may in
      kept_by vhost v y.vhost can found vh gs (ap (λ (q : Vhost). q.guest) same) before after
      (ring_moves vhost ring v y.vhost (dev.placed desc avail used (ring_at ring v.settings)) (turns vhost v found) (ap (λ (q : Vhost). q.settings) same) (is_below ring there)
      (holder_of x.actor ring v free there) before after (λ k. k))
      (λ k is both_. let it : g ≡ k = some_same g k (sym got ∙ is) in
      subst (λ (z : Guest). BothRings z y.vhost.settings) it
      (call_keeps laws g v.settings y.vhost.settings (SetAddr ring desc avail used) tt no_ (ap (λ (q : Vhost). q.settings) same) (subst (λ (z : Guest). BothRings z v.settings) (sym it) both_))) h

  pub call_kept : DevLaws → (vhost : ℕ) (v : Vhost) (g : Guest) (y : control.Call) → EachActor w (λ actor a. CanBe a) → EachVhost w (TurnsAreHeld w) → t.actor.doing ≡ Begun
      → at w.vhosts vhost ≡ Some v → at w.guests v.guest ≡ Some g → control.call_of t.now.command v g.memory ≡ Some y → control.may_call x.actor t.now.command v ≡ true
      → control.call_effect w t.actor.seen vhost v.guest y ≡ t.effect → HaveRings w → HaveRings t.between
  call_kept laws vhost v g y can turns is found got call may eq h =
      called_kept laws vhost v g y can turns found got may (ap serves is) (serves_on _ eq refl) (vhosts_of _ eq)
      (step_guests v.guest y.memory g y.step got (call_regions t.now.command v g.memory y call) (guests_of _ eq)) (called_is t.now.command v g.memory y call) h
