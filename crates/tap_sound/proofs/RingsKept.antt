-- The events that leave rings keep them in order, and served as before.
use Rattle.std.proofs.Common.{◌≡◌, ◌⊎◌, ℕ, ◌+◌, List, [], ◌∷◌, Bool, true, false, Option, Some, None, inl, inr, refl, sym, ap, ◌∙◌, subst, arith}
use Rattle.std.specs.Prelude.{if◌then◌else◌, ◌==◌, ◌&&◌}
use Rattle.std.specs.Option.{option_map_or}
use Rattle.guest_mem.specs.Memory.{Contents}
use Rattle.vhost_dev.specs.Settings.{hdr_of}
use Rattle.vring_turns.specs.RxTurn.{RxTurn}
use Rattle.vring_turns.specs.TxTurn.{TxTurn}
use Rattle.vring_turns.specs.Standing.{RxStands, TxStands}
use Rattle.scen_words.specs.declared.command.Command.{Command}
use Rattle.tap_trace.specs.declared.turn.ChainText.{ChainText}
use Rattle.tap_trace.specs.declared.kind.Kind.{Kind}
use Rattle.tap_world.specs.declared.event.Event.{Event}
use Rattle.tap_world.specs.ByNumber.{at}
use Rattle.tap_world.specs.Guests.{Guest, Vhost, is_ring, with_turn}
use Rattle.tap_world.specs.Setup.{Setup}
use Rattle.tap_world.specs.World.{Doing, World, table, newest}
use Rattle.tap_world.specs.World.Doing.{Backed, Disowned, Owns, Released, Unbacked}
use Rattle.tap_world.specs.Effect.{Effect, OnGuests, OnVhosts, Onward, guests_after, vhosts_after, only}
use Rattle.tap_world.specs.Effect.OnGuests.{NoGuest, OnGuest}
use Rattle.tap_world.specs.Effect.OnVhosts.{NoVhost, OnVhost}
use Rattle.tap_world.specs.Effect.Onward.{Goes}
use Rattle.tap_world.specs.Each.{EachVhost}
use Rattle.tap_world.specs.SoundRings.{IsServed, Serves, StandsWith, TurnsAreHeld, is_about, serves}
use Rattle.tap_sound.proofs.Kit.{some_same, where_some}
use Rattle.tap_sound.proofs.RingSteps.{TxLeaves, tx_changes, tx_leaves}
use Rattle.tap_sound.proofs.ServedOn.{Course, OldGuests, OldRings, SameRings}
use Rattle.tap_sound.proofs.ServedOn.Course.{Free, On}
use Rattle.tap_sound.proofs.Serving.{TurnLaws, hdr_more, tx_stands_on, unserved}
use Rattle.tap_sound.proofs.Shapes.{Gives, RxWay, Shape, TxWay}
use Rattle.tap_sound.proofs.Shapes.Shape.{Approves, BackApproves, BackDrives, BackPublishes, Calling, Giving, Learning, Owning, Publishing, Quiet, Reopening, RxTurning, Shutting, Sizing, Touching, Trims, TxTurning, Withdrawing}
use Rattle.tap_sound.proofs.Taken.{IsStep}
use Rattle.tap_sound.proofs.Turned.{itself}
use Rattle.tap_sound.proofs.Turns.{about, effect_vhosts}
use Rattle.tap_sound.proofs.Writers.{course_is}
use Rattle.tap_world.specs.Step.{step}
use Rattle.tap_sound.proofs.RingEvents.{alike_course, back_course, effect_guests, last_serves, no_guests, none_rings, one_guest, one_rings, own_course, this_one, turn_rings, tx_only, free_none}
use Rattle.scen_words.specs.declared.command.Command.TheVariants as command
use Rattle.tap_world.specs.StepBackend as back_steps
use Rattle.tap_world.specs.StepTransmits as tx_turns
use Rattle.tap_steer.specs.declared.operation.Op.TheVariants as op
use Rattle.tap_world.specs.declared.event.Found.TheVariants as found

-- what such an event leaves
pub record Left (s : Setup) (w : World) (x : Event) (u : World) (t : IsStep s w x u) : Type 0 where
  pub course : Course w t.actor.doing t.effect.onward t.now.command
  pub rings : OldRings w t.between.vhosts
  pub guests : OldGuests w t.between.guests

module _ (s : Setup) (w : World) (x : Event) (u : World) (t : IsStep s w x u) where
  pub vhosts_on : (o : OnVhosts) → t.effect.vhosts ≡ o → t.between.vhosts ≡ vhosts_after o w.vhosts
  vhosts_on o is = effect_vhosts t.effect x.actor t.actor x.command w t.between t.made ∙ ap (λ (q : OnVhosts). vhosts_after q w.vhosts) is

  no_rings : t.effect.vhosts ≡ NoVhost → OldRings w t.between.vhosts
  no_rings is = subst (OldRings w) (sym (vhosts_on NoVhost is)) (none_rings w)

  a_ring : (vhost : ℕ) (v new : Vhost) → t.effect.vhosts ≡ OnVhost vhost new → at w.vhosts vhost ≡ Some v → SameRings v new → OldRings w t.between.vhosts
  a_ring vhost v new is at_ same = subst (OldRings w) (sym (vhosts_on (OnVhost vhost new) is)) (one_rings w vhost v new at_ same)

  over_rings : (vhost ring : ℕ) → t.effect.vhosts ≡ option_map_or (λ v. OnVhost vhost (with_turn ring None v)) (at w.vhosts vhost) NoVhost → OldRings w t.between.vhosts
  over_rings vhost ring is = go (at w.vhosts vhost) refl is
    where
      go : (o : Option Vhost) → at w.vhosts vhost ≡ o → t.effect.vhosts ≡ option_map_or (λ v. OnVhost vhost (with_turn ring None v)) o NoVhost → OldRings w t.between.vhosts
      go None at_ same = no_rings same
      go (Some v) at_ same = a_ring vhost v (with_turn ring None v) same at_ (turn_rings ring None v)

  guests_on : (o : OnGuests) → t.effect.guests ≡ o → guests_after x.actor x.command o w.guests ≡ Some t.between.guests
  guests_on o is = subst (λ (q : OnGuests). guests_after x.actor x.command q w.guests ≡ Some t.between.guests) is (effect_guests t.effect x.actor t.actor x.command w t.between t.made)

  pub same_guests : t.effect.guests ≡ NoGuest → OldGuests w t.between.guests
  same_guests is = no_guests w x.actor x.command t.between.guests (guests_on NoGuest is)

  pub a_guest : (guest : ℕ) (m : Contents) (step : Option Kind) (g : Guest) → t.effect.guests ≡ OnGuest guest m step → at w.guests guest ≡ Some g → m.regions ≡ g.memory.regions → OldGuests w t.between.guests
  a_guest guest m step g is at_ same = one_guest w x.actor x.command guest m step g t.between.guests at_ same (guests_on (OnGuest guest m step) is)

  -- an event of a command that doesn't serve
  plain : (r : Effect) → r ≡ t.effect → Course w t.actor.doing r.onward t.now.command → OldRings w t.between.vhosts → r.guests ≡ NoGuest → Left s w x u t
  plain r eq course rings none = record {
    course = subst (λ (q : Effect). Course w t.actor.doing q.onward t.now.command) eq course;
    rings = rings;
    guests = same_guests (ap (λ (q : Effect). q.guests) (sym eq) ∙ none);
  }

  pub on_vhosts : (r : Effect) → r ≡ t.effect → t.effect.vhosts ≡ r.vhosts
  on_vhosts r is = ap (λ (q : Effect). q.vhosts) (sym is)

  -- the command serves its vhost's ring
  pub mine_of : (vhost ring : ℕ) → serves t.actor.doing ≡ true → about vhost ring t.now.command ≡ true → Serves vhost ring t.actor
  mine_of vhost ring sv ab = (sv, ap (is_about vhost ring) t.current_is ∙ ab)

  back_publishes : (d : Doing) (vhost ring : ℕ) (asked : Option ℕ) (r : Effect) → r ≡ t.effect → back_steps.publishes_back w d (command.Backend vhost ring asked) ≡ Some r
      → OldRings w t.between.vhosts × (r.guests ≡ NoGuest)
  back_publishes (Backed file) vhost ring asked r eq e = go (ring == 0) (some_same _ r e ∙ eq) (some_same _ r e)
    where
      go : (b : Bool) → (if b then record
          (only (Goes (newest w + 1) (Owns file (newest w + 1)) (found.Version (newest w + 1))) w) { ops = op.Back file (back_steps.side_of ring) (Some vhost) ∷ [] }
          else record (back_steps.back_over w (newest w + 1) vhost ring (newest w + 1)) { ops = op.Back file (back_steps.side_of ring) (Some vhost) ∷ [] }) ≡ t.effect
          → (if b then record
          (only (Goes (newest w + 1) (Owns file (newest w + 1)) (found.Version (newest w + 1))) w) { ops = op.Back file (back_steps.side_of ring) (Some vhost) ∷ [] }
          else record (back_steps.back_over w (newest w + 1) vhost ring (newest w + 1)) { ops = op.Back file (back_steps.side_of ring) (Some vhost) ∷ [] }) ≡ r
          → OldRings w t.between.vhosts × (r.guests ≡ NoGuest)
      go true is it = (no_rings (on_vhosts _ is), ap (λ (q : Effect). q.guests) (sym it))
      go false is it = (over_rings vhost ring (on_vhosts _ is), ap (λ (q : Effect). q.guests) (sym it))
  back_publishes (Disowned file) vhost ring asked r eq e =
      (over_rings vhost ring (on_vhosts _ (some_same _ r e ∙ eq)), ap (λ (q : Effect). q.guests) (sym (some_same _ r e)))
  back_publishes (Released file) vhost ring asked r eq e =
      (over_rings vhost ring (on_vhosts _ (some_same _ r e ∙ eq)), ap (λ (q : Effect). q.guests) (sym (some_same _ r e)))
  back_publishes d vhost ring asked r eq e = absurd (cc (e))

  owns : (d : Doing) (vhost ring : ℕ) (asked : Option ℕ) → back_steps.owns w t.actor.seen d (command.Backend vhost ring asked) ≡ Some t.effect
      → OldRings w t.between.vhosts × (t.effect.guests ≡ NoGuest)
  owns (Owns file version) vhost ring asked e = (over_rings vhost ring (on_vhosts _ (some_same _ t.effect e)), ap (λ (q : Effect). q.guests) (sym (some_same _ t.effect e)))
  owns (Unbacked file) vhost ring asked e = (no_rings (on_vhosts _ (some_same _ t.effect e)), ap (λ (q : Effect). q.guests) (sym (some_same _ t.effect e)))
  owns d vhost ring asked e = absurd (cc (e))

  giving : TurnLaws → EachVhost w (IsServed w) → (vhost file : ℕ) (q : TxTurn) (told : List ChainText) (k : Gives w vhost file q told t.actor.doing t.now.command t.effect.onward)
      → Course w t.actor.doing t.effect.onward t.now.command
  giving laws served vhost file q told k = subst (λ (o : Onward). Course w t.actor.doing o t.now.command) (sym k.goes)
      (On (sym (ap serves k.doing)) tt (λ n ring y got ab h.
      let only_ = tx_only vhost n ring (ap (about n ring) (sym k.command) ∙ ab) in
      let it = this_one w vhost n k.v y only_.0 k.at_vhost got in
      let stands : TxStands q k.v.settings.tx.queue =
      subst (λ (d : Doing). StandsWith d k.v) k.doing (subst (λ (z : Vhost). StandsWith t.actor.doing z) (sym it) h) in
      let leaves = where_some (TxLeaves (tx_turns.tx_state q k.v k.g.memory)) _ k.made
      (tx_leaves (tx_turns.tx_state q k.v k.g.memory) (ap tx_changes k.stage)) k.step in
      subst (λ (z : Vhost). TxStands k.made.0.turn z.settings.tx.queue) it
      (subst (TxStands k.made.0.turn) leaves.0 (tx_stands_on laws q k.v k.g.memory k.made k.step stands))))

-- how a turn stands with its ring before the event
pub rx_stands : TurnLaws → (s : Setup) (w : World) (x : Event) (u : World) (t : IsStep s w x u) → EachVhost w (TurnsAreHeld w) → EachVhost w (IsServed w)
    → (vhost file : ℕ) (q : RxTurn) (v : Vhost) → t.now.command ≡ command.RxTurn vhost → at w.vhosts vhost ≡ Some v → RxWay x.actor t.actor.doing file q v → RxStands q v.settings.rx.queue
rx_stands laws s w x u t turns served vhost file q v cis at_ (inl is) =
    subst (λ (d : Doing). StandsWith d v) is
    ((served vhost v at_).stands 0 x.actor t.actor t.found (mine_of s w x u t vhost 0 (ap serves is)
    (ap (about vhost 0) cis ∙ ap (λ (b : Bool). b && true) (itself vhost))))
rx_stands laws s w x u t turns served vhost file q v cis at_ (inr is) =
    subst (λ (y : RxTurn). RxStands y v.settings.rx.queue) (sym is.3)
    (laws.rx_begin v.settings.mrg (hdr_of v.settings) v.settings.rx.queue (hdr_more v.settings)
    ((served vhost v at_).idle 0 (omega arith) (unserved w vhost 0 v (turns vhost v at_) (omega arith) (free_none 0 v is.2))))

pub tx_stands : TurnLaws → (s : Setup) (w : World) (x : Event) (u : World) (t : IsStep s w x u) → EachVhost w (TurnsAreHeld w) → EachVhost w (IsServed w)
    → (vhost file : ℕ) (q : TxTurn) (told : List ChainText) (v : Vhost) → t.now.command ≡ command.TxTurn vhost → at w.vhosts vhost ≡ Some v → TxWay t.actor.doing file q told v
    → TxStands q v.settings.tx.queue
tx_stands laws s w x u t turns served vhost file q told v cis at_ (inl is) =
    subst (λ (d : Doing). StandsWith d v) is
    ((served vhost v at_).stands 1 x.actor t.actor t.found (mine_of s w x u t vhost 1 (ap serves is)
    (ap (about vhost 1) cis ∙ ap (λ (b : Bool). b && true) (itself vhost))))
tx_stands laws s w x u t turns served vhost file q told v cis at_ (inr is) =
    subst (λ (y : TxTurn). TxStands y v.settings.tx.queue) (sym is.4)
    (laws.tx_begin (hdr_of v.settings) is.3 v.settings.tx.queue
    ((served vhost v at_).idle 1 (omega arith) (unserved w vhost 1 v (turns vhost v at_) (omega arith) (free_none 1 v is.2))))

pub rx_was : (me : ℕ) (d : Doing) (file : ℕ) (q : RxTurn) (v : Vhost) → RxWay me d file q v → ((serves d ≡ true) × (d ≡ d)) ⊎ ((serves d ≡ false) × (v.settings.rx.file ≡ Some file))
rx_was me d file q v (inl is) = inl (ap serves is, refl)
rx_was me d file q v (inr is) = inr (ap serves is.0, is.1)

pub tx_was : (d : Doing) (file : ℕ) (q : TxTurn) (told : List ChainText) (v : Vhost) → TxWay d file q told v → ((serves d ≡ true) × (d ≡ d)) ⊎ ((serves d ≡ false) × (v.settings.tx.file ≡ Some file))
tx_was d file q told v (inl is) = inl (ap serves is, refl)
tx_was d file q told v (inr is) = inr (ap serves is.0, is.1)

-- an event on a ring
abbrev pub IsOnRing : (s : Setup) (w : World) (me seen : ℕ) (d : Doing) (c : Command) (r : Effect) → Shape s w me seen d c r → Type 0
IsOnRing s w me seen d c r (RxTurning vhost file q v g h made files f over cis a b way step lv told_ eq) = Unit {0}
IsOnRing s w me seen d c r (TxTurning vhost file q told v g made st over cis a b way step end_ eq) = Unit {0}
IsOnRing s w me seen d c r (BackDrives refusal vhost ring file v g is cis a b free eq) = Unit {0}
IsOnRing s w me seen d c r (Calling vhost v g y is of a b call may eq) = Unit {0}
IsOnRing s w me seen d c r shape = ⊥

pub left : TurnLaws → (s : Setup) (w : World) (x : Event) (u : World) (t : IsStep s w x u) → EachVhost w (TurnsAreHeld w) → EachVhost w (IsServed w)
    → (shape : Shape s w x.actor t.actor.seen t.actor.doing t.now.command t.effect) → (IsOnRing s w x.actor t.actor.seen t.actor.doing t.now.command t.effect shape → ⊥) → Left s w x u t
left laws s w x u t turns served (Quiet o f g v wr alike) nt = record {
  course = alike_course w t.actor.doing t.effect.onward t.now.command alike;
  rings = no_rings s w x u t v;
  guests = same_guests s w x u t g;
}
left laws s w x u t turns served (Giving vhost file q told o f g v wr k) nt = record {
  course = giving s w x u t laws served vhost file q told k;
  rings = no_rings s w x u t v;
  guests = same_guests s w x u t g;
}
left laws s w x u t turns served (Trims file n m k f is eq) nt = plain s w x u t _ eq (Free (ap serves is) refl) (no_rings s w x u t (on_vhosts s w x u t _ eq)) refl
left laws s w x u t turns served (Approves y is of free no_ eq) nt = plain s w x u t _ eq
    (Free (ap serves is) (course_is (λ (q : Doing). serves q ≡ false) (table s w) y (λ file. refl) (λ file. refl) (λ file k. refl) refl)) (no_rings s w x u t (on_vhosts s w x u t _ eq)) refl
left laws s w x u t turns served (BackApproves vhost ring file v is cis at_ free turn no_ eq) nt =
    plain s w x u t _ eq (Free (ap serves is) refl) (go (is_ring ring) (on_vhosts s w x u t _ eq)) refl
  where
    go : (b : Bool) → t.effect.vhosts ≡ OnVhost vhost (if b then with_turn ring (Some x.actor) v else v) → OldRings w t.between.vhosts
    go true same = a_ring s w x u t vhost v (with_turn ring (Some x.actor) v) same at_ (turn_rings ring (Some x.actor) v)
    go false same = a_ring s w x u t vhost v v same at_ (refl, refl, refl)
left laws s w x u t turns served (Reopening file f is at_ eq) nt = plain s w x u t _ eq (Free (ap serves is) refl) (no_rings s w x u t (on_vhosts s w x u t _ eq)) refl
left laws s w x u t turns served (Shutting file version f is at_ eq) nt = plain s w x u t _ eq (Free (ap serves is) refl) (no_rings s w x u t (on_vhosts s w x u t _ eq)) refl
left laws s w x u t turns served (Sizing file capacity f is at_ eq) nt = plain s w x u t _ eq (Free (ap serves is) refl) (no_rings s w x u t (on_vhosts s w x u t _ eq)) refl
left laws s w x u t turns served (Publishing y n ans last of no_ eq) nt =
    plain s w x u t _ eq (Free (last_serves t.actor.doing last) refl) (no_rings s w x u t (on_vhosts s w x u t _ eq)) refl
left laws s w x u t turns served (Withdrawing y file is of no_ eq) nt = plain s w x u t _ eq (Free (ap serves is) refl) (no_rings s w x u t (on_vhosts s w x u t _ eq)) refl
left laws s w x u t turns served (Learning file hash o f g v wr free alike) nt = record {
  course = alike_course w t.actor.doing t.effect.onward t.now.command alike;
  rings = no_rings s w x u t v;
  guests = same_guests s w x u t g;
}
left laws s w x u t turns served (BackPublishes vhost ring asked cis eq) nt =
    let b = back_publishes s w x u t t.actor.doing vhost ring asked t.effect refl eq in
    plain s w x u t t.effect refl (back_course w t.actor.doing vhost ring asked t.effect t.now.command eq) b.0 b.1
left laws s w x u t turns served (Owning vhost ring asked cis eq) nt =
    let b = owns s w x u t t.actor.doing vhost ring asked eq in
    plain s w x u t t.effect refl (own_course w t.actor.seen t.actor.doing vhost ring asked t.effect t.now.command eq) b.0 b.1
left laws s w x u t turns served (BackDrives refusal vhost ring file v g is cis a b free eq) nt = absurd (nt tt)
left laws s w x u t turns served (Calling vhost v g y is of a b call may eq) nt = absurd (nt tt)
left laws s w x u t turns served (Touching guest g m step v y at_ same is o f gs vs wr on) nt = record {
  course = subst (λ (q : Onward). Course w t.actor.doing q t.now.command) (sym on) (Free (ap serves is) refl);
  rings = no_rings s w x u t vs;
  guests = a_guest s w x u t guest m step g gs at_ same;
}
left laws s w x u t turns served (RxTurning vhost file q v g h made files f over cis a b way step lv told_ eq) nt = absurd (nt tt)
left laws s w x u t turns served (TxTurning vhost file q told v g made st over cis a b way step end_ eq) nt = absurd (nt tt)
