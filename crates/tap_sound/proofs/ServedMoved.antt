-- Rings that an event changes, in one vhost, and those that serve them.
use Rattle.std.proofs.Common.{inl, inr, sym, ap, refl, subst, true, false, Some, arith, None, ◌≡◌, ◌≢◌, ◌⊎◌, ℕ, ◌<◌, List, Bool, Option, ⊎_elim, ◌∙◌, true≢false}
use Rattle.std.specs.Prelude.{◌&&◌, ◌==◌, is_some, slice_get}
use Rattle.std.proofs.lemmas.Bool.Decides.{eqb_tells}
use Rattle.vhost_queue.specs.Positions.{IsIdle}
use Rattle.vhost_dev.specs.Settings.{RingSettings, ring_at}
use Rattle.vring_turns.specs.Standing.{RxStands, TxStands}
use Rattle.scen_words.specs.declared.command.Command.{Command}
use Rattle.tap_world.specs.declared.event.Event.{Event}
use Rattle.tap_world.specs.ByNumber.{at, with_at}
use Rattle.tap_world.specs.Guests.{Guest, Vhost, is_ring}
use Rattle.tap_world.specs.Setup.{Numbered, Setup}
use Rattle.tap_world.specs.World.{Actor, Doing, World, current}
use Rattle.tap_world.specs.World.Doing.{Given, Receives, Teaches, Transmits}
use Rattle.tap_world.specs.Each.{EachActor, EachVhost}
use Rattle.tap_world.specs.SoundRings.{HasRings, IsRing, IsServed, Serves, StandsWith, is_about}
use Rattle.tap_sound.proofs.Taken.{IsStep, both}
use Rattle.tap_sound.proofs.Turns.{about, is_below}
use Rattle.tap_sound.proofs.Views.{acted}
use Rattle.std.specs.Option.{option_map_or}
use Rattle.tap_ground.specs.Options.{only_if}
use Rattle.tap_world.specs.SoundActors.{CanBe, can_be}
use Rattle.tap_sound.proofs.Claims.{with_at_inv}
use Rattle.tap_sound.proofs.Stand.{stands_at}
use Rattle.tap_sound.proofs.ServedOn.{A, OldGuests, actor_of, nobody, ring_on}
use Rattle.scen_words.specs.declared.command.Command.TheVariants as command

equal : (a b : ℕ) → (a == b) ≡ true → a ≡ b
equal a b e = ⊎_elim (λ t. t.1) (λ t. absurd (true≢false (sym e ∙ t.0))) (eqb_tells a b)

-- a command is about a ring that there is
about_below : (n r : ℕ) (c : Command) → about n r c ≡ true → r < 2
about_below n r (command.RxTurn vhost) e = subst (λ (k : ℕ). k < 2) (equal 0 r (both (vhost == n) (0 == r) e).1) (omega arith)
about_below n r (command.TxTurn vhost) e = subst (λ (k : ℕ). k < 2) (equal 1 r (both (vhost == n) (1 == r) e).1) (omega arith)
about_below n r (command.Backend vhost ring file) e = go (is_ring ring) refl e
  where
    go : (b : Bool) → is_ring ring ≡ b → option_map_or (λ (k : ℕ × ℕ). k.0 == n && k.1 == r) (only_if b (vhost, ring)) false ≡ true → r < 2
    go true there h = subst (λ (k : ℕ). k < 2) (equal ring r (both (vhost == n) (ring == r) h).1) (is_below ring there)
    go false there h = absurd (true≢false (sym h))
about_below n r c e = absurd (true≢false (sym e))

current_about : (n r : ℕ) (a : Actor) → is_about n r (current a.script) ≡ true → (c : Numbered) × (slice_get a.script 0 ≡ Some c) × (about n r c.command ≡ true)
current_about n r a e = go (current a.script) refl e
  where
    go : (o : Option Numbered) → current a.script ≡ o → is_about n r o ≡ true → (c : Numbered) × (slice_get a.script 0 ≡ Some c) × (about n r c.command ≡ true)
    go None is h = absurd (true≢false (sym h))
    go (Some c) is h = (c, is, h)

pub serves_below : (n r : ℕ) (a : Actor) → Serves n r a → r < 2
serves_below n r a h = let c = current_about n r a h.1 in about_below n r c.0.command c.2

-- how a command stands depends on its own ring alone
stands_kind : (v new : Vhost) (n r : ℕ) (d : Doing) (c : Command) → can_be d c ≡ true → about n r c ≡ true → ring_at r new.settings ≡ ring_at r v.settings → StandsWith d v → StandsWith d new
stands_kind v new n r (Receives file t) (command.RxTurn m) can e same h =
    subst (λ (q : RingSettings). RxStands t q.queue) (sym (subst (λ (k : ℕ). ring_at k new.settings ≡ ring_at k v.settings) (sym (equal 0 r (both (m == n) (0 == r) e).1)) same)) h
stands_kind v new n r (Transmits file t told) (command.TxTurn m) can e same h =
    subst (λ (q : RingSettings). TxStands t q.queue) (sym (subst (λ (k : ℕ). ring_at k new.settings ≡ ring_at k v.settings) (sym (equal 1 r (both (m == n) (1 == r) e).1)) same)) h
stands_kind v new n r (Given file t told f) (command.TxTurn m) can e same h =
    subst (λ (q : RingSettings). TxStands t q.queue) (sym (subst (λ (k : ℕ). ring_at k new.settings ≡ ring_at k v.settings) (sym (equal 1 r (both (m == n) (1 == r) e).1)) same)) h
stands_kind v new n r (Teaches file t told f) (command.TxTurn m) can e same h =
    subst (λ (q : RingSettings). TxStands t q.queue) (sym (subst (λ (k : ℕ). ring_at k new.settings ≡ ring_at k v.settings) (sym (equal 1 r (both (m == n) (1 == r) e).1)) same)) h
stands_kind v new n r (Receives file t) c can e same h = absurd (true≢false (sym can))
stands_kind v new n r (Transmits file t told) c can e same h = absurd (true≢false (sym can))
stands_kind v new n r (Given file t told f) c can e same h = absurd (true≢false (sym can))
stands_kind v new n r (Teaches file t told f) c can e same h = absurd (true≢false (sym can))
stands_kind v new n r d c can e same h = tt

stands_ring : (v new : Vhost) (n r : ℕ) (b : Actor) → CanBe b → Serves n r b → ring_at r new.settings ≡ ring_at r v.settings → StandsWith b.doing v → StandsWith b.doing new
stands_ring v new n r b can sv same h =
    let c = current_about n r b sv.1 in stands_kind v new n r b.doing c.0.command (stands_at b c.0 c.1 can) c.2 same h

module _ (s : Setup) (w : World) (x : Event) (u : World) (t : IsStep s w x u) (V : ℕ) (v new : Vhost) where
  -- a ring that changes: its command doesn't serve it, serves it from now on, or is over
  pub data Outcome (r : ℕ) : Type 0 where
    Rest : (Serves V r t.actor → ⊥) → (Serves V r (A s w x u t) → ⊥)
        → (IsIdle (ring_at r v.settings).queue.positions → IsIdle (ring_at r new.settings).queue.positions) → Outcome r
    Serving : Serves V r (A s w x u t) → is_some (ring_at r new.settings).file ≡ true → StandsWith (A s w x u t).doing new → Outcome r
    Over : (Serves V r (A s w x u t) → ⊥) → IsIdle (ring_at r new.settings).queue.positions → Outcome r

  pub data RingMove (r : ℕ) : Type 0 where
    Still : ring_at r new.settings ≡ ring_at r v.settings → (Serves V r t.actor → ⊥) → (Serves V r (A s w x u t) → ⊥) → RingMove r
    Redone : ((i : ℕ) (a : Actor) → x.actor ≢ i → slice_get w.actors i ≡ Some a → Serves V r a → ⊥) → Outcome r → RingMove r

  -- another vhost's rings aren't the command's
  abbrev pub Elsewhere : Type 0
  Elsewhere = (n r : ℕ) → V ≢ n → (Serves n r t.actor → ⊥) × (Serves n r (A s w x u t) → ⊥)

  pub served_moved : at w.vhosts V ≡ Some v → t.between.vhosts ≡ with_at V new w.vhosts → EachActor w (λ actor a. CanBe a) → ((r : ℕ) → r < 2 → RingMove r) → Elsewhere
      → EachVhost w (IsServed w) → EachVhost t.between (IsServed t.between)
  served_moved found is can moves elsewhere each n q at_ = ⊎_elim
      (λ here. subst (λ (m : ℕ). IsServed t.between m q) here.0 (subst (IsServed t.between V) here.1 moved))
      (λ there. other there.0 (each n q there.1))
      (with_at_inv V new w.vhosts n q (ap (λ (vs : List (Option Vhost)). at vs n) (sym is) ∙ at_))
    where
      h : IsServed w V v
      h = each V v found

      other : V ≢ n → IsServed w n q → IsServed t.between n q
      other no_ k = record {
        idle = λ r below none. k.idle r below (nobody s w x u t n r (elsewhere n r no_).0 none);
        backed = λ r i b got sv. ⊎_elim
            (λ mine. absurd ((elsewhere n r no_).1 (subst (Serves n r) (sym mine.1) sv)))
            (λ far. k.backed r i b far.1 sv)
            (actor_of s w x u t i b got);
        stands = λ r i b got sv. ⊎_elim
            (λ mine. absurd ((elsewhere n r no_).1 (subst (Serves n r) (sym mine.1) sv)))
            (λ far. k.stands r i b far.1 sv)
            (actor_of s w x u t i b got);
      }

      idle_of : (r : ℕ) → r < 2 → ((i : ℕ) (a : Actor) → slice_get t.between.actors i ≡ Some a → Serves V r a → ⊥) → RingMove r → IsIdle (ring_at r new.settings).queue.positions
      idle_of r below none (Still same before after) =
          subst (λ (k : RingSettings). IsIdle k.queue.positions) (sym same) (h.idle r below (nobody s w x u t V r before none))
      idle_of r below none (Redone others (Rest before after keep)) = keep (h.idle r below (nobody s w x u t V r before none))
      idle_of r below none (Redone others (Serving sv backed stands)) = absurd (none x.actor (A s w x u t) (acted s w x u t) sv)
      idle_of r below none (Redone others (Over after idle)) = idle

      backed_of : (r i : ℕ) (b : Actor) → Serves V r b → ((x.actor ≡ i) × (A s w x u t ≡ b)) ⊎ ((x.actor ≢ i) × (slice_get w.actors i ≡ Some b)) → RingMove r
          → is_some (ring_at r new.settings).file ≡ true
      backed_of r i b sv (inl mine) (Still same before after) = absurd (after (subst (Serves V r) (sym mine.1) sv))
      backed_of r i b sv (inr far) (Still same before after) = subst (λ (k : RingSettings). is_some k.file ≡ true) (sym same) (h.backed r i b far.1 sv)
      backed_of r i b sv (inl mine) (Redone others (Rest before after keep)) = absurd (after (subst (Serves V r) (sym mine.1) sv))
      backed_of r i b sv (inl mine) (Redone others (Serving mine_ backed stands)) = backed
      backed_of r i b sv (inl mine) (Redone others (Over after idle)) = absurd (after (subst (Serves V r) (sym mine.1) sv))
      backed_of r i b sv (inr far) (Redone others o) = absurd (others i b far.0 far.1 sv)

      stands_of : (r i : ℕ) (b : Actor) → Serves V r b → ((x.actor ≡ i) × (A s w x u t ≡ b)) ⊎ ((x.actor ≢ i) × (slice_get w.actors i ≡ Some b)) → RingMove r → StandsWith b.doing new
      stands_of r i b sv (inl mine) (Still same before after) = absurd (after (subst (Serves V r) (sym mine.1) sv))
      stands_of r i b sv (inr far) (Still same before after) = stands_ring v new V r b (can i b far.1) sv same (h.stands r i b far.1 sv)
      stands_of r i b sv (inl mine) (Redone others (Rest before after keep)) = absurd (after (subst (Serves V r) (sym mine.1) sv))
      stands_of r i b sv (inl mine) (Redone others (Serving mine_ backed stands)) = subst (λ (k : Actor). StandsWith k.doing new) mine.1 stands
      stands_of r i b sv (inl mine) (Redone others (Over after idle)) = absurd (after (subst (Serves V r) (sym mine.1) sv))
      stands_of r i b sv (inr far) (Redone others o) = absurd (others i b far.0 far.1 sv)

      moved : IsServed t.between V new
      moved = record {
        idle = λ r below none. idle_of r below none (moves r below);
        backed = λ r i b got sv. backed_of r i b sv (actor_of s w x u t i b got) (moves r (serves_below V r b sv));
        stands = λ r i b got sv. stands_of r i b sv (actor_of s w x u t i b got) (moves r (serves_below V r b sv));
      }

  -- and the rings are in order
  pub rings_moved : at w.vhosts V ≡ Some v → t.between.vhosts ≡ with_at V new w.vhosts → OldGuests w t.between.guests → new.guest ≡ v.guest
      → ((g : Guest) → at w.guests v.guest ≡ Some g → IsRing g v.settings.rx → IsRing g v.settings.tx → IsRing g new.settings.rx × IsRing g new.settings.tx)
      → EachVhost w (HasRings w) → EachVhost t.between (HasRings t.between)
  rings_moved found is guests same rings each n q at_ = ⊎_elim
      (λ here.
      let old = each V v found in
      let g = guests v.guest old.0 old.1 in
      let r = rings old.0 old.1 old.2 old.3 in
      subst (HasRings t.between n) here.1 (
        g.0,
        ap (at t.between.guests) same ∙ g.1,
        ring_on old.0 g.0 new.settings.rx g.2 r.0,
        ring_on old.0 g.0 new.settings.tx g.2 r.1,
      ))
      (λ there.
      let old = each n q there.1 in
      let g = guests q.guest old.0 old.1 in
      (g.0, g.1, ring_on old.0 g.0 q.settings.rx g.2 old.2, ring_on old.0 g.0 q.settings.tx g.2 old.3))
      (with_at_inv V new w.vhosts n q (ap (λ (vs : List (Option Vhost)). at vs n) (sym is) ∙ at_))
