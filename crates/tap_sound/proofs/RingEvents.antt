-- The events that leave rings, shape by shape.
use Rattle.std.proofs.Common.{◌≡◌, ◌≢◌, ◌⊎◌, ℕ, zero, suc, List, [], ◌∷◌, Bool, true, false, Option, Some, None, inl, inr, ⊎_elim, refl, sym, ap, ◌∙◌, subst, true≢false, arith}
use Rattle.std.specs.Prelude.{if◌then◌else◌, ◌==◌, is_none}
use Rattle.std.proofs.lemmas.Bool.Decides.{eqb_tells}
use Rattle.guest_mem.specs.Memory.{Contents}
use Rattle.scen_words.specs.declared.command.Command.{Command}
use Rattle.scen_words.specs.declared.command.Command.TheVariants as command
use Rattle.tap_trace.specs.declared.kind.Kind.{Kind}
use Rattle.tap_world.specs.ByNumber.{at, with_at}
use Rattle.tap_world.specs.Guests.{Guest, Vhost, is_free, turn_of, with_turn}
use Rattle.tap_world.specs.World.{Actor, Doing, World}
use Rattle.tap_world.specs.World.Doing.{Backed, Changes, Disowned, Opened, Owns, Released, Shrinks, Unbacked}
use Rattle.tap_world.specs.Effect.{Effect, Onward, files_after, guests_after, with_effect}
use Rattle.tap_world.specs.Effect.OnGuests.{NoGuest, OnGuest}
use Rattle.tap_world.specs.Effect.Onward.{Ends, Goes, Stays}
use Rattle.tap_world.specs.StepBackend as back_steps
use Rattle.tap_world.specs.SoundRings.{holds_turn, serves}
use Rattle.tap_sound.proofs.Kit.{either, some_same, then_some}
use Rattle.tap_sound.proofs.Claims.{with_at_inv}
use Rattle.tap_sound.proofs.ServedOn.{Course, OldGuests, OldRings, SameRings}
use Rattle.tap_sound.proofs.ServedOn.Course.{Free, On}
use Rattle.tap_sound.proofs.Serving.{serves_holds}
use Rattle.tap_sound.proofs.Shapes.{Alike, IsLast}
use Rattle.tap_sound.proofs.Taken.{both}
use Rattle.tap_sound.proofs.Turns.{about}

-- ---- small things

equal : (a b : ℕ) → (a == b) ≡ true → a ≡ b
equal a b e = ⊎_elim (λ t. t.1) (λ t. absurd (true≢false (sym e ∙ t.0))) (eqb_tells a b)

none_of : (o : Option ℕ) → is_none o ≡ true → o ≡ None
none_of None h = refl
none_of (Some x) h = absurd (true≢false (sym h))

not_serving : (d : Doing) → holds_turn d ≡ false → serves d ≡ false
not_serving d h = go (serves d) refl
  where
    go : (b : Bool) → serves d ≡ b → serves d ≡ false
    go true is = absurd (true≢false (sym (serves_holds d is) ∙ h))
    go false is = is

-- ---- the command that acts

pub alike_course : (w : World) (d : Doing) (o : Onward) (c : Command) → Alike d o → Course w d o c
alike_course w d (Stays f) c h = On refl tt (λ vhost ring v at_ ab k. k)
alike_course w d (Ends seen x) c h = Free (not_serving d h.1) refl
alike_course w d (Goes seen e f) c h = On h.3 tt (λ vhost ring v at_ ab k. h.4 v k)

pub last_serves : (d : Doing) → IsLast d → serves d ≡ false
last_serves Changes h = refl
last_serves (Opened file) h = refl
last_serves (Shrinks file n m) h = refl
last_serves d h = absurd h

pub back_course : (w : World) (d : Doing) (vhost ring : ℕ) (asked : Option ℕ) (r : Effect) (c : Command) → back_steps.publishes_back w d (command.Backend vhost ring asked) ≡ Some r → Course w d r.onward c
back_course w (Backed file) vhost ring asked r c e = subst (λ (q : Effect). Course w (Backed file) q.onward c) (some_same _ r e)
    (either (λ (q : Effect). Course w (Backed file) q.onward c) (ring == 0) _ _ (Free refl refl) (Free refl refl))
back_course w (Disowned file) vhost ring asked r c e = subst (λ (q : Effect). Course w (Disowned file) q.onward c) (some_same _ r e) (Free refl refl)
back_course w (Released file) vhost ring asked r c e = subst (λ (q : Effect). Course w (Released file) q.onward c) (some_same _ r e) (Free refl refl)
back_course w d vhost ring asked r c e = absurd (cc (e))

pub own_course : (w : World) (seen : ℕ) (d : Doing) (vhost ring : ℕ) (asked : Option ℕ) (r : Effect) (c : Command) → back_steps.owns w seen d (command.Backend vhost ring asked) ≡ Some r → Course w d r.onward c
own_course w seen (Owns file version) vhost ring asked r c e = subst (λ (q : Effect). Course w (Owns file version) q.onward c) (some_same _ r e) (Free refl refl)
own_course w seen (Unbacked file) vhost ring asked r c e = subst (λ (q : Effect). Course w (Unbacked file) q.onward c) (some_same _ r e) (Free refl refl)
own_course w seen d vhost ring asked r c e = absurd (cc (e))

-- a transmit turn is about its ring alone
pub tx_only : (vhost n ring : ℕ) → about n ring (command.TxTurn vhost) ≡ true → (vhost ≡ n) × (1 ≡ ring)
tx_only vhost n ring e = let b = both (vhost == n) (1 == ring) e in (equal vhost n b.0, equal 1 ring b.1)

-- the vhost of a turn
pub this_one : (w : World) (vhost n : ℕ) (v u : Vhost) → vhost ≡ n → at w.vhosts vhost ≡ Some v → at w.vhosts n ≡ Some u → v ≡ u
this_one w vhost n v u same a b = some_same v u (sym a ∙ ap (at w.vhosts) same ∙ b)

-- ---- vhosts and guests

pub with_at_get : {A : Type 0} (n : ℕ) (new : A) (xs : List (Option A)) (k : ℕ) (a : A) → at xs k ≡ Some a
    → ((n ≡ k) × (at (with_at n new xs) k ≡ Some new)) ⊎ ((n ≢ k) × (at (with_at n new xs) k ≡ Some a))
with_at_get n new [] k a e = absurd (cc (e))
with_at_get zero new (x ∷ xs) zero a e = inl (refl, refl)
with_at_get zero new (x ∷ xs) (suc k) a e = inr (λ h. omega (arith, h), e)
with_at_get (suc n) new (x ∷ xs) zero a e = inr (λ h. omega (arith, h), e)
with_at_get (suc n) new (x ∷ xs) (suc k) a e = ⊎_elim (λ t. inl (ap suc t.0, t.1)) (λ t. inr (λ h. t.0 (omega (arith, h)), t.1)) (with_at_get n new xs k a e)

pub effect_guests : (r : Effect) (actor : ℕ) (a : Actor) (n : ℕ) (w v : World) → with_effect r actor a n w ≡ Some v → guests_after actor n r.guests w.guests ≡ Some v.guests
effect_guests r actor a n w v e =
    let f = then_some (files_after r.files w.files) _ v e in
    let g = then_some (guests_after actor n r.guests w.guests) _ v f.2 in
    g.1 ∙ ap (λ (x : World). Some x.guests) (some_same _ v g.2)

pub no_guests : (w : World) (actor n : ℕ) (after_ : List (Option Guest)) → guests_after actor n NoGuest w.guests ≡ Some after_ → OldGuests w after_
no_guests w actor n after_ e k g at_ = (g, ap (λ (q : List (Option Guest)). at q k) (sym (some_same w.guests after_ e)) ∙ at_, refl)

pub one_guest : (w : World) (actor n guest : ℕ) (m : Contents) (step : Option Kind) (g : Guest) (after_ : List (Option Guest)) → at w.guests guest ≡ Some g → m.regions ≡ g.memory.regions
    → guests_after actor n (OnGuest guest m step) w.guests ≡ Some after_ → OldGuests w after_
one_guest w actor n guest m step g after_ found same e k y at_ =
    let h = then_some (at w.guests guest) _ after_ e in
    let is = some_same _ after_ h.2 in
    ⊎_elim
    (λ here. (_, ap (λ (q : List (Option Guest)). at q k) (sym is) ∙ here.1, same ∙ ap (λ (z : Guest). z.memory.regions) (some_same g y (sym found ∙ ap (at w.guests) here.0 ∙ at_))))
    (λ there. (y, ap (λ (q : List (Option Guest)). at q k) (sym is) ∙ there.1, refl))
    (with_at_get guest _ w.guests k y at_)

pub none_rings : (w : World) → OldRings w w.vhosts
none_rings w n new e = (new, e, (refl, refl, refl))

pub one_rings : (w : World) (vhost : ℕ) (v new : Vhost) → at w.vhosts vhost ≡ Some v → SameRings v new → OldRings w (with_at vhost new w.vhosts)
one_rings w vhost v new found same n it e = ⊎_elim
    (λ here. (
      v,
      ap (at w.vhosts) (sym here.0) ∙ found,
      (ap (λ (q : Vhost). q.guest) (sym here.1) ∙ same.0, ap (λ (q : Vhost). q.settings.rx) (sym here.1) ∙ same.1, ap (λ (q : Vhost). q.settings.tx) (sym here.1) ∙ same.2),
    ))
    (λ there. (it, there.1, (refl, refl, refl)))
    (with_at_inv vhost new w.vhosts n it e)

pub turn_rings : (ring : ℕ) (o : Option ℕ) (v : Vhost) → SameRings v (with_turn ring o v)
turn_rings ring o v = go (ring == 0)
  where
    go : (b : Bool) → SameRings v (if b then record v { rx_turn = o } else record v { tx_turn = o })
    go true = (refl, refl, refl)
    go false = (refl, refl, refl)

-- a turn that is free
pub free_none : (ring : ℕ) (v : Vhost) → is_free ring v ≡ true → turn_of ring v ≡ None
free_none ring v h = none_of (turn_of ring v) h
