-- What is known of a command whose next event may be done.
use Rattle.std.proofs.Common.{◌≡◌, ℕ, zero, suc, ◌<◌, List, true, false, Option, Some, None, refl, sym, ap, ◌∙◌, subst, true≢false, option_map, arith}
use Rattle.std.proofs.lemmas.Bool.Decides.{nat_tests}
use Rattle.std.specs.Prelude.{◌==◌, IfSome, is_some}
use Rattle.std.specs.Option.{option_map_or}
use Rattle.scen_words.specs.declared.command.Command.TheVariants as command
use Rattle.scen_words.specs.Commands.{vhost_of}
use Rattle.tap_ground.specs.Options.{◌>>=◌}
use Rattle.tap_guests.specs.Calls.{IsUnserved}
use Rattle.tap_guests.specs.Side.{Side, is_served}
use Rattle.tap_sound.proofs.Kit.{some_same}
use Rattle.tap_world.specs.declared.event.EventKind.{EventKind}
use Rattle.tap_world.specs.ByNumber.{at}
use Rattle.tap_world.specs.Effect.{Effect}
use Rattle.tap_world.specs.Guests.{is_ring}
use Rattle.tap_world.specs.Scripts.{next_kind}
use Rattle.tap_world.specs.Sound.{holds}
use Rattle.tap_world.specs.Step.{row}
use Rattle.core_shared.specs.Asking.{Asking, setup}
use Rattle.core_shared.specs.Coming.{come_of}
use Rattle.core_shared.specs.Did.{HasEffect}
use Rattle.core_shared.specs.MayDo.{MayDo, actor_at}
use Rattle.core_shared.specs.Suiting.{HasNoWorker}
use Rattle.core_shared.specs.Worlds.{world_in}
use Rattle.core_shared.specs.declared.doing.Doing.{Doing}
use Rattle.core_shared.specs.declared.shared.Shared.{Shared}
use Rattle.core_shared.proofs.Kit.{there}
use Rattle.core_shared.proofs.Taking.{vhost_named}

module _ {a : Asking} {d : Doing} {kind : EventKind} {x : Shared} where
  -- the vhost of a backend's command
  pub back_vhost : MayDo a d kind x → (vhost ring : ℕ) (file : Option ℕ) → a.command ≡ command.Backend vhost ring file
      → (v : Side) × (at x.vhosts vhost ≡ Some v)
  back_vhost m vhost ring file is = there (at x.vhosts vhost) (vhost_named m vhost (ap vhost_of is))

  -- the row of the event that is next
  pub row_at : (m : MayDo a d kind x) (k : EventKind)
      → next_kind (world_in x m.actors m.said) (come_of x.vhosts d) a.command ≡ Some k
      → row (setup a) (world_in x m.actors m.said) k a.actor (actor_at a (come_of x.vhosts d) m.rest) a.number a.command
      ≡ Some m.event.effect
  row_at m k is =
      subst (λ (j : EventKind). row (setup a) (world_in x m.actors m.said) j a.actor
      (actor_at a (come_of x.vhosts d) m.rest) a.number a.command ≡ Some m.event.effect)
      (some_same kind k (sym m.event.is_next ∙ is)) m.event.is_row

  -- its effect is what the row of the next event says
  pub effect_is : (m : MayDo a d kind x) (k : EventKind) (r : Effect) → HasEffect a (come_of x.vhosts d) k x r
      → m.event.effect ≡ r
  effect_is m k r h =
      some_same m.event.effect r (sym (row_at m k (h.is_next m.actors m.said)) ∙ h.is_row m.actors m.said m.rest)

  -- it holds the writer
  pub held : MayDo a d kind x → holds (come_of x.vhosts d) ≡ true
      → option_map_or (λ (k : ℕ). k == a.actor) x.writer false ≡ true
  held m h = sym (m.sound.actors.writer a.actor (actor_at a (come_of x.vhosts d) m.rest) m.is_actor) ∙ h

-- ---- workers

none_of : {A B : Type 0} (f : A → B) (o : Option A) → option_map f o ≡ None → is_some o ≡ false
none_of f None e = refl
none_of f (Some y) e = absurd (cc (e))

of_none : {A B : Type 0} (f : A → B) (o : Option A) → is_some o ≡ false → option_map f o ≡ None
of_none f None e = refl
of_none f (Some y) e = absurd (true≢false e)

below : (ring : ℕ) → is_ring ring ≡ true → ring < 2
below ring h = grind (arith, nat_tests)

below_two : (ring : ℕ) → is_ring ring ≡ true → (P : ℕ → Type 0) → P 0 → P 1 → P ring
below_two zero h P p q = p
below_two (suc zero) h P p q = q
below_two (suc (suc n)) h P p q = absurd (omega (arith, below (suc (suc n)) h))

pub unserved : (vhosts : List (Option Side)) (vhost ring : ℕ) (v : Side) → at vhosts vhost ≡ Some v
    → HasNoWorker vhosts vhost ring → IsUnserved ring v
unserved vhosts vhost ring v is h there = below_two ring there (λ k. HasNoWorker vhosts vhost k → is_served k v ≡ false)
    (λ n. none_of (λ w. w.turn) v.rx (sym (ap (λ (o : Option Side). o >>= (λ s. option_map (λ w. w.turn) s.rx)) is) ∙ n.rx refl))
    (λ n. none_of (λ w. w.turn) v.tx (sym (ap (λ (o : Option Side). o >>= (λ s. option_map (λ w. w.turn) s.tx)) is) ∙ n.tx refl))
    h

pub no_worker : (vhosts : List (Option Side)) (vhost ring : ℕ) (v : Side) → at vhosts vhost ≡ Some v
    → IsUnserved ring v → HasNoWorker vhosts vhost ring
no_worker vhosts vhost ring v is h = record {
  rx = λ e. ap (λ (o : Option Side). o >>= (λ s. option_map (λ w. w.turn) s.rx)) is
      ∙ of_none (λ w. w.turn) v.rx (subst (λ k. IsUnserved k v) e h refl);
  tx = λ e. ap (λ (o : Option Side). o >>= (λ s. option_map (λ w. w.turn) s.tx)) is
      ∙ of_none (λ w. w.turn) v.tx (subst (λ k. IsUnserved k v) e h refl);
}

pub ring_unserved : (vhosts : List (Option Side)) (vhost ring : ℕ) → HasNoWorker vhosts vhost ring
    → is_ring ring ≡ true → IfSome (at vhosts vhost) (λ v. is_served ring v ≡ false)
ring_unserved vhosts vhost ring h there = go (at vhosts vhost) refl where
  go : (o : Option Side) → at vhosts vhost ≡ o → IfSome o (λ v. is_served ring v ≡ false)
  go None is = tt
  go (Some v) is = unserved vhosts vhost ring v is h there
