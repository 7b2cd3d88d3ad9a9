-- Rings that an event leaves are in order and served as before.
use Rattle.std.proofs.Common.{◌≡◌, ◌≢◌, ◌⊎◌, ℕ, ◌<◌, List, Bool, true, false, Option, Some, ⊎_elim, refl, sym, ap, ◌∙◌, subst, true≢false}
use Rattle.std.specs.Prelude.{if◌then◌else◌, ◌==◌, drop, is_some, slice_get}
use Rattle.std.proofs.lemmas.Bool.Decides.{eqb_tells}
use Rattle.guest_mem.specs.Memory.{covers}
use Rattle.guest_mem.specs.declared.region.Region.{Region}
use Rattle.vring_split.specs.Good.{IsGoodFor}
use Rattle.vhost_queue.specs.Positions.{IsIdle}
use Rattle.vhost_dev.specs.Settings.{RingSettings, ring_at}
use Rattle.vring_turns.specs.Standing.{RxStands, TxStands}
use Rattle.scen_words.specs.declared.command.Command.{Command}
use Rattle.tap_world.specs.declared.event.Event.{Event}
use Rattle.tap_world.specs.ByNumber.{at}
use Rattle.tap_world.specs.Guests.{Guest, Vhost}
use Rattle.tap_world.specs.Setup.{Numbered, Setup}
use Rattle.tap_world.specs.World.{Actor, Doing, World, current}
use Rattle.tap_world.specs.World.Doing.{Begun, Given, Receives, Teaches, Transmits}
use Rattle.tap_world.specs.Effect.{Ending, Onward, actor_after, ended}
use Rattle.tap_world.specs.Effect.Onward.{Ends, Goes, Stays}
use Rattle.tap_world.specs.Each.{EachVhost}
use Rattle.tap_world.specs.SoundRings.{HasRings, IsRing, IsServed, Serves, StandsWith, is_about, serves}
use Rattle.tap_sound.proofs.Kit.{some_same}
use Rattle.tap_sound.proofs.Scripts.{effect_actors}
use Rattle.tap_sound.proofs.Taken.{IsEnding, IsStep}
use Rattle.tap_sound.proofs.Turned.{with_nth_inv}
use Rattle.tap_sound.proofs.Turns.{about}
use Rattle.tap_sound.proofs.Views.{acted, other_still}
use Rattle.tap_sound.proofs.Writers.{doing_after, is_doing_after}

-- ---- rings as they were

abbrev pub SameRings : Vhost → Vhost → Type 0
SameRings v new = (new.guest ≡ v.guest) × (new.settings.rx ≡ v.settings.rx) × (new.settings.tx ≡ v.settings.tx)

abbrev pub OldRings : World → List (Option Vhost) → Type 0
OldRings w after_ = (n : ℕ) (new : Vhost) → at after_ n ≡ Some new → (v : Vhost) × (at w.vhosts n ≡ Some v) × SameRings v new

-- each guest is there, with its regions
abbrev pub OldGuests : World → List (Option Guest) → Type 0
OldGuests w after_ = (n : ℕ) (g : Guest) → at w.guests n ≡ Some g → (new : Guest) × (at after_ n ≡ Some new) × (new.memory.regions ≡ g.memory.regions)

pub ring_still : (v new : Vhost) → SameRings v new → (ring : ℕ) → ring_at ring new.settings ≡ ring_at ring v.settings
ring_still v new same ring = go (ring == 0)
  where
    go : (b : Bool) → (if b then new.settings.rx else new.settings.tx) ≡ (if b then v.settings.rx else v.settings.tx)
    go true = same.1
    go false = same.2

pub stands_still : (v new : Vhost) → SameRings v new → (d : Doing) → StandsWith d v → StandsWith d new
stands_still v new same (Receives file t) h = subst (λ (r : RingSettings). RxStands t r.queue) (sym same.1) h
stands_still v new same (Transmits file t told) h = subst (λ (r : RingSettings). TxStands t r.queue) (sym same.2) h
stands_still v new same (Given file t told f) h = subst (λ (r : RingSettings). TxStands t r.queue) (sym same.2) h
stands_still v new same (Teaches file t told f) h = subst (λ (r : RingSettings). TxStands t r.queue) (sym same.2) h
stands_still v new same d h = tt

pub ring_on : (g new : Guest) (r : RingSettings) → new.memory.regions ≡ g.memory.regions → IsRing g r → IsRing new r
ring_on g new r same h = record {
  lists = h.lists;
  begun = h.begun;
  size = h.size;
  good = λ backed. subst (λ (rs : List Region). IsGoodFor r.queue.layout (covers rs)) (sym same) (h.good backed);
}

pub rings_on : (w v : World) → OldRings w v.vhosts → OldGuests w v.guests → EachVhost w (HasRings w) → EachVhost v (HasRings v)
rings_on w v rings guests each n new at_ =
    let old = rings n new at_ in
    let h = each n old.0 old.1 in
    let g = guests old.0.guest h.0 h.1 in (
      g.0,
      ap (at v.guests) old.2.0 ∙ g.1,
      subst (IsRing g.0) (sym old.2.1) (ring_on h.0 g.0 old.0.settings.rx g.2 h.2),
      subst (IsRing g.0) (sym old.2.2) (ring_on h.0 g.0 old.0.settings.tx g.2 h.3),
    )

-- ---- the command that acts

abbrev pub IsOn : Onward → Type 0
IsOn (Ends seen x) = ⊥
IsOn o = Unit {0}

-- it doesn't serve; it goes on serving its ring; it begins to; or it is over
pub data Course (w : World) (d : Doing) (o : Onward) (c : Command) : Type 0 where
  Free : serves d ≡ false → serves (doing_after o d) ≡ false → Course w d o c
  On : serves (doing_after o d) ≡ serves d → IsOn o
      → ((vhost ring : ℕ) (v : Vhost) → at w.vhosts vhost ≡ Some v → about vhost ring c ≡ true → StandsWith d v → StandsWith (doing_after o d) v) → Course w d o c
  Starts : serves d ≡ false → IsOn o
      → ((vhost ring : ℕ) (v : Vhost) → at w.vhosts vhost ≡ Some v → about vhost ring c ≡ true
      → (is_some (ring_at ring v.settings).file ≡ true) × StandsWith (doing_after o d) v) → Course w d o c
  Over : serves (doing_after o d) ≡ false
      → ((vhost ring : ℕ) (v : Vhost) → at w.vhosts vhost ≡ Some v → ring < 2 → about vhost ring c ≡ true → IsIdle (ring_at ring v.settings).queue.positions) → Course w d o c

before_about : (vhost ring : ℕ) (a : Actor) (n : Numbered) → slice_get a.script 0 ≡ Some n → is_about vhost ring (current a.script) ≡ about vhost ring n.command
before_about vhost ring a n at_ = ap (is_about vhost ring) at_

after_about : (vhost ring : ℕ) (a : Actor) (n : Numbered) (o : Onward) → IsOn o → slice_get a.script 0 ≡ Some n
    → is_about vhost ring (current (actor_after o a).script) ≡ about vhost ring n.command
after_about vhost ring a n (Goes seen e f) on at_ = ap (is_about vhost ring) at_
after_about vhost ring a n (Stays f) on at_ = ap (is_about vhost ring) at_
after_about vhost ring a n (Ends seen x) on at_ = absurd on

serves_after : (o : Onward) (a : Actor) → serves (actor_after o a).doing ≡ serves (doing_after o a.doing)
serves_after o a = ap serves (is_doing_after o a)

module _ (s : Setup) (w : World) (x : Event) (u : World) (t : IsStep s w x u) where
  abbrev pub A : Actor
  A = actor_after t.effect.onward t.actor

  -- who is there after the event
  pub actor_of : (i : ℕ) (b : Actor) → slice_get t.between.actors i ≡ Some b → ((x.actor ≡ i) × (A ≡ b)) ⊎ ((x.actor ≢ i) × (slice_get w.actors i ≡ Some b))
  actor_of i b at_ = with_nth_inv x.actor A w.actors i b
      (ap (λ (q : List Actor). slice_get q i) (sym (effect_actors t.effect x.actor t.actor x.command w t.between t.made)) ∙ at_)

  pub other_of : (i : ℕ) (b : Actor) → x.actor ≢ i → slice_get w.actors i ≡ Some b → slice_get t.between.actors i ≡ Some b
  other_of i b no_ at_ =
      ap (λ (q : List Actor). slice_get q i) (effect_actors t.effect x.actor t.actor x.command w t.between t.made) ∙ other_still x.actor i A w.actors no_ ∙ at_

  abbrev Nobody : World → ℕ → ℕ → Type 0
  Nobody q vhost ring = (actor : ℕ) (a : Actor) → slice_get q.actors actor ≡ Some a → Serves vhost ring a → ⊥

  -- where nobody serves a ring after it, nobody did before but the command that acts
  pub nobody : (vhost ring : ℕ) → (Serves vhost ring t.actor → ⊥) → Nobody t.between vhost ring → Nobody w vhost ring
  nobody vhost ring mine none i a at_ sv = ⊎_elim
      (λ same. mine (subst (Serves vhost ring) (some_same a t.actor (sym (subst (λ (k : ℕ). slice_get w.actors k ≡ Some a) (sym same.1) at_) ∙ t.found)) sv))
      (λ other. none i a (other_of i a other.1 at_) sv)
      (eqb_tells x.actor i)

  pub served_between : Course w t.actor.doing t.effect.onward t.now.command → OldRings w t.between.vhosts → EachVhost w (IsServed w) → EachVhost t.between (IsServed t.between)
  served_between course rings each vhost new at_ =
      let old = rings vhost new at_ in
      let h = each vhost old.0 old.1 in
      record {
        idle = λ ring below none. subst (λ (r : RingSettings). IsIdle r.queue.positions) (sym (ring_still old.0 new old.2 ring)) (idle_of course old.0 old.1 h ring below none);
        backed = λ ring i b got sv. subst (λ (r : RingSettings). is_some r.file ≡ true) (sym (ring_still old.0 new old.2 ring)) (⊎_elim
            (λ mine. backed_of course old.0 old.1 h ring (subst (Serves vhost ring) (sym mine.1) sv))
            (λ other. h.backed ring i b other.1 sv)
            (actor_of i b got));
        stands = λ ring i b got sv. stands_still old.0 new old.2 b.doing (⊎_elim
            (λ mine. subst (λ (q : Actor). StandsWith q.doing old.0) mine.1
            (subst (λ (d : Doing). StandsWith d old.0) (sym (is_doing_after t.effect.onward t.actor))
            (stands_of course old.0 old.1 h ring (subst (Serves vhost ring) (sym mine.1) sv))))
            (λ other. h.stands ring i b other.1 sv)
            (actor_of i b got));
      }
    where
      C : Type 0
      C = Course w t.actor.doing t.effect.onward t.now.command

      mine_before : (ring : ℕ) → serves t.actor.doing ≡ true → about vhost ring t.now.command ≡ true → Serves vhost ring t.actor
      mine_before ring sv ab = (sv, before_about vhost ring t.actor t.now t.current_is ∙ ab)

      idle_of : C → (v : Vhost) → at w.vhosts vhost ≡ Some v → IsServed w vhost v → (ring : ℕ) → ring < 2 → Nobody t.between vhost ring → IsIdle (ring_at ring v.settings).queue.positions
      idle_of (Free a b) v found h ring below none = h.idle ring below (nobody vhost ring (λ sv. true≢false (sym sv.0 ∙ a)) none)
      idle_of (On same on stands) v found h ring below none = h.idle ring below (nobody vhost ring
          (λ sv. none x.actor A (acted s w x u t) (
            serves_after t.effect.onward t.actor ∙ same ∙ sv.0,
            after_about vhost ring t.actor t.now t.effect.onward on t.current_is ∙ sym (before_about vhost ring t.actor t.now t.current_is) ∙ sv.1,
          )) none)
      idle_of (Starts a on stands) v found h ring below none = h.idle ring below (nobody vhost ring (λ sv. true≢false (sym sv.0 ∙ a)) none)
      idle_of (Over b over) v found h ring below none = go (about vhost ring t.now.command) refl
        where
          go : (q : Bool) → about vhost ring t.now.command ≡ q → IsIdle (ring_at ring v.settings).queue.positions
          go true is = over vhost ring v found below is
          go false is = h.idle ring below (nobody vhost ring (λ sv. true≢false (sym sv.1 ∙ before_about vhost ring t.actor t.now t.current_is ∙ is)) none)

      backed_of : C → (v : Vhost) → at w.vhosts vhost ≡ Some v → IsServed w vhost v → (ring : ℕ) → Serves vhost ring A → is_some (ring_at ring v.settings).file ≡ true
      backed_of (Free a b) v found h ring sv = absurd (true≢false (sym sv.0 ∙ serves_after t.effect.onward t.actor ∙ b))
      backed_of (On same on stands) v found h ring sv =
          h.backed ring x.actor t.actor t.found (mine_before ring (sym same ∙ sym (serves_after t.effect.onward t.actor) ∙ sv.0) (sym (after_about vhost ring t.actor t.now t.effect.onward on t.current_is) ∙ sv.1))
      backed_of (Starts a on stands) v found h ring sv = (stands vhost ring v found (sym (after_about vhost ring t.actor t.now t.effect.onward on t.current_is) ∙ sv.1)).0
      backed_of (Over b over) v found h ring sv = absurd (true≢false (sym sv.0 ∙ serves_after t.effect.onward t.actor ∙ b))

      stands_of : C → (v : Vhost) → at w.vhosts vhost ≡ Some v → IsServed w vhost v → (ring : ℕ) → Serves vhost ring A → StandsWith (doing_after t.effect.onward t.actor.doing) v
      stands_of (Free a b) v found h ring sv = absurd (true≢false (sym sv.0 ∙ serves_after t.effect.onward t.actor ∙ b))
      stands_of (On same on stands) v found h ring sv =
          let ab : about vhost ring t.now.command ≡ true = sym (after_about vhost ring t.actor t.now t.effect.onward on t.current_is) ∙ sv.1 in
          stands vhost ring v found ab
          (h.stands ring x.actor t.actor t.found (mine_before ring (sym same ∙ sym (serves_after t.effect.onward t.actor) ∙ sv.0) ab))
      stands_of (Starts a on stands) v found h ring sv = (stands vhost ring v found (sym (after_about vhost ring t.actor t.now t.effect.onward on t.current_is) ∙ sv.1)).1
      stands_of (Over b over) v found h ring sv = absurd (true≢false (sym sv.0 ∙ serves_after t.effect.onward t.actor ∙ b))

-- the end of a purge leaves who serves
pub served_ended : (v : World) (f : Ending) (end : IsEnding v f) → EachVhost v (IsServed v) → EachVhost (ended f v) (IsServed (ended f v))
served_ended v f end each vhost r at_ =
    let h = each vhost r at_ in
    record {
      idle = λ ring below none. h.idle ring below (λ i a got sv. ⊎_elim
          (λ same. not_mine i a got same.1 ring sv)
          (λ other. none i a (other_still f.actor i (record f.state { script = drop 1 f.state.script; doing = Begun }) v.actors other.1 ∙ got) sv)
          (eqb_tells f.actor i));
      backed = λ ring i b got sv. ⊎_elim
          (λ mine. absurd (true≢false (sym sv.0 ∙ ap (λ (q : Actor). serves q.doing) (sym mine.1))))
          (λ other. h.backed ring i b other.1 sv)
          (with_nth_inv f.actor (record f.state { script = drop 1 f.state.script; doing = Begun }) v.actors i b got);
      stands = λ ring i b got sv. ⊎_elim
          (λ mine. absurd (true≢false (sym sv.0 ∙ ap (λ (q : Actor). serves q.doing) (sym mine.1))))
          (λ other. h.stands ring i b other.1 sv)
          (with_nth_inv f.actor (record f.state { script = drop 1 f.state.script; doing = Begun }) v.actors i b got);
    }
  where
    not_mine : (i : ℕ) (a : Actor) → slice_get v.actors i ≡ Some a → f.actor ≡ i → (ring : ℕ) → Serves vhost ring a → ⊥
    not_mine i a got same ring sv =
        let it : f.state ≡ a = some_same f.state a (sym end.found ∙ ap (slice_get v.actors) same ∙ got) in
        true≢false (sym sv.0 ∙ ap (λ (q : Actor). serves q.doing) (sym it) ∙ ap serves end.doing)
