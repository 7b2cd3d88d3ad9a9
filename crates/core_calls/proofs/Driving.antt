-- The call of a backend's command.
use Rattle.std.proofs.Common.{◌≡◌, ℕ, List, Bool, true, false, Option, Some, None, refl, sym, ap, ◌∙◌, subst, true≢false, option_map, arith}
use Rattle.std.proofs.lemmas.Bool.Decides.{nat_tests}
use Rattle.std.specs.Prelude.{if◌then◌else◌, ◌==◌, ◌&&◌, ◌||◌, nat_le, IfSome, is_none, is_some}
use Rattle.std.specs.Option.{option_map_or}
use Rattle.guest_mem.specs.Memory.{Contents}
use Rattle.scen_words.specs.declared.command.Command.{Command}
use Rattle.scen_words.specs.declared.command.Command.TheVariants as command
use Rattle.tap_ground.specs.Options.{◌>>=◌}
use Rattle.tap_guests.specs.Backs.{Driven, set_call, sets_back, unsets_back}
use Rattle.tap_guests.specs.Calls.{IsUnserved}
use Rattle.tap_guests.specs.Laws.{CallersMeetNone, SetsInWorld, UnsetsInWorld, back_effect, unset_doing}
use Rattle.tap_guests.specs.Side.{IsSide, Side}
use Rattle.tap_guests.specs.Within.{IsIn}
use Rattle.tap_guests.specs.declared.backs.Backed.{Backed}
use Rattle.tap_guests.specs.declared.backs.Backed.TheVariants as how
use Rattle.tap_ledger.specs.declared.error.TapErr.{TapErr}
use Rattle.tap_sound.proofs.Kit.{some_same, then_some}
use Rattle.tap_sound.proofs.Taken.{if_some}
use Rattle.tap_steer.specs.Select.{shape_of}
use Rattle.tap_steer.specs.Table.{Table}
use Rattle.tap_trace.specs.declared.answer.Answer.{Answer}
use Rattle.tap_trace.specs.declared.kind.Kind.{Kind}
use Rattle.tap_trace.specs.declared.trace.StepLine.{StepLine}
use Rattle.tap_world.specs.declared.event.EventKind.{EventKind}
use Rattle.tap_world.specs.declared.event.EventKind.TheVariants as event
use Rattle.tap_world.specs.declared.event.Found.TheVariants as found
use Rattle.tap_world.specs.ByNumber.{at, with_at}
use Rattle.tap_world.specs.Effect as world
use Rattle.tap_world.specs.Effect.{Effect, guests_after}
use Rattle.tap_world.specs.Effect.OnGuests.{NoGuest, OnGuest}
use Rattle.tap_world.specs.Guests.{Guest, Vhost, is_free_for, is_ring, vhost_answer, with_turn}
use Rattle.tap_world.specs.Setup.{Setup}
use Rattle.tap_world.specs.SoundActors.{can_be}
use Rattle.tap_world.specs.SoundRings.{holds_turn}
use Rattle.tap_world.specs.Step.{row}
use Rattle.tap_world.specs.StepBackend.{back_answer, back_call, refused_by}
use Rattle.tap_world.specs.World as come
use Rattle.tap_world.specs.World.{World, table}
use Rattle.vhost_dev.specs.declared.error.VhostErr.{VhostErr}
use Rattle.vhost_dev.specs.declared.error.VhostErr.TheVariants as err
use Rattle.vhost_dev.specs.Refusals.{is_no_ring, number_refusal}
use Rattle.core_shared.specs.Asking.{Asking, setup}
use Rattle.core_shared.specs.Coming.{come_of}
use Rattle.core_shared.specs.Did.{Did, HasEffect}
use Rattle.core_shared.specs.MayDo.{MayDo, actor_at}
use Rattle.core_shared.specs.Suiting.{HasNoWorker, Suits}
use Rattle.core_shared.specs.Worlds.{vhosts_of, world_in}
use Rattle.core_shared.specs.declared.doing.Doing.TheVariants as doing
use Rattle.core_shared.specs.declared.onward.Onward.TheVariants as on
use Rattle.core_shared.specs.declared.shared.Shared.{Shared}
use Rattle.core_calls.specs.Driven.{HasDriven, MayDrive, back_made, come_to, told}
use Rattle.core_shared.proofs.Kit.{made_from, side_at, vhost_at, with_at_same}
use Rattle.core_shared.proofs.Knowing.{can_be_now, holds_none}
use Rattle.core_shared.proofs.Leaving.{VhostsLie, guests_lie_with, no_more, vhost_left, vhosts_lie_with}
use Rattle.core_calls.proofs.Facts.{row_at, unserved}
use Rattle.core_calls.proofs.Holding.{none_still, turn_guest, turns_stay}
use Rattle.core_calls.proofs.Poking.{bare, stepped}

-- ---- what the call makes

-- how it goes on: to the file that it was to set, or where there is such a ring; and the table didn't refuse it
abbrev GoesOn : ℕ → Option ℕ → Option TapErr → Backed → Type 0
GoesOn ring file refusal (how.Ends x step) = Unit {0}
GoesOn ring (Some f) refusal (how.Goes file step) = (refusal ≡ None) × (file ≡ f)
GoesOn ring None refusal (how.Goes file step) = is_ring ring ≡ true

-- the vhost has its guest, and the command goes on so
pub record IsMade (ring : ℕ) (file : Option ℕ) (refusal : Option TapErr) (v : Vhost) (d : Driven) : Type 0 where
  pub guest : d.0.guest ≡ v.guest
  pub goes : GoesOn ring file refusal d.1

ends_guest : (b : Bool) (ring : ℕ) (v : Vhost) → (if b then with_turn ring None v else v).guest ≡ v.guest
ends_guest true ring v = turn_guest ring None v
ends_guest false ring v = refl

refused_none : (o : Option VhostErr) → refused_by o ≡ Some None → o ≡ None
refused_none None e = refl
refused_none (Some x) e = go (vhost_answer x) e where
  go : (q : Option Answer) → option_map (λ (y : Answer). Some y) q ≡ Some None → Some x ≡ None
  go None h = absurd (cc (h))
  go (Some y) h = absurd (cc (h))

answer_none : (ready : Option VhostErr) (refusal : Option TapErr) (unfit : Option VhostErr)
    → back_answer ready refusal unfit ≡ Some None → refusal ≡ None
answer_none (Some e) refusal unfit h = absurd (some_none (Some e) (refused_none (Some e) h) refl) where
  some_none : (o : Option VhostErr) → o ≡ None → is_some o ≡ true → ⊥
  some_none None a b = absurd (true≢false (sym b))
  some_none (Some y) a b = absurd (cc (a))
answer_none None (Some r) unfit h = absurd (cc (h))
answer_none None None unfit h = refl

set_made : (vhost ring file : ℕ) (refusal : Option TapErr) (v : Vhost) (m : Contents) (x : Option Answer)
    → (x ≡ None → refusal ≡ None) → IsMade ring (Some file) refusal v (sets_back vhost ring file refusal v m x)
set_made vhost ring file refusal v m (Some x) h =
    record { guest = ends_guest (is_ring ring && is_none refusal) ring v; goes = tt }
set_made vhost ring file refusal v m None h = record { guest = refl; goes = (h refl, refl) }

unset_made : (vhost ring : ℕ) (refusal : Option TapErr) (v : Vhost) (x : Option Answer) (file : Option ℕ)
    → (x ≡ None → is_ring ring ≡ true) → IsMade ring None refusal v (unsets_back vhost ring v x file)
unset_made vhost ring refusal v (Some x) file h =
    record { guest = ends_guest (is_ring ring && true) ring v; goes = tt }
unset_made vhost ring refusal v None None h = record { guest = ends_guest (is_ring ring && true) ring v; goes = tt }
unset_made vhost ring refusal v None (Some file) h = record { guest = refl; goes = h refl }

below_two : (ring : ℕ) → nat_le 2 ring ≡ false → is_ring ring ≡ true
below_two ring h = grind (arith, nat_tests)

no_refusal : (ring : ℕ) → number_refusal ring ≡ None → is_ring ring ≡ true
no_refusal ring h = below_two ring (go (is_no_ring ring) h) where
  go : (b : Bool) → (if b then Some err.ENOBUFS else None) ≡ None → b ≡ false
  go true e = absurd (cc (e))
  go false e = refl

pub is_made : (t : Table) (vhost ring : ℕ) (file : Option ℕ) (refusal : Option TapErr) (v : Vhost) (m : Contents) (d : Driven)
    → back_made t vhost ring file refusal v m ≡ Some d → IsMade ring file refusal v d
is_made t vhost ring (Some file) refusal v m d e =
    let r = made_from (sets_back vhost ring file refusal v m) _ d e in
    subst (IsMade ring (Some file) refusal v) r.2
    (set_made vhost ring file refusal v m r.0 (λ is. answer_none _ refusal _ (r.1 ∙ ap (λ (o : Option Answer). Some o) is)))
is_made t vhost ring None refusal v m d e =
    let r = made_from (λ (x : Option Answer). unsets_back vhost ring v x _) (refused_by (number_refusal ring)) d e in
    subst (IsMade ring None refusal v) r.2
    (unset_made vhost ring refusal v r.0 _ (λ is. no_refusal ring (refused_none (number_refusal ring) (r.1 ∙ ap (λ (o : Option Answer). Some o) is))))

abbrev doing_by : ℕ → Option ℕ → ℕ → come.Doing
doing_by ring (Some asked) file = come.Doing.Backed file
doing_by ring None file = unset_doing ring file

-- ---- how far it has come then

one_of_two : (ring : ℕ) → is_ring ring ≡ true → (ring == 0) ≡ false → ring ≡ 1
one_of_two ring h e = grind (arith, nat_tests)

is_zero : (ring : ℕ) → (ring == 0) ≡ true → ring ≡ 0
is_zero ring e = grind (arith, nat_tests)

come_is : (vhosts : List (Option Side)) (vhost ring : ℕ) (file : Option ℕ) (backend : ℕ)
    → doing_by ring file backend ≡ come_of vhosts (come_to vhost ring file backend)
come_is vhosts vhost ring (Some asked) backend = refl
come_is vhosts vhost ring None backend = go (ring == 0) where
  go : (b : Bool) → (if b then come.Doing.Unbacked backend else come.Doing.Released backend)
      ≡ come_of vhosts (if b then doing.Unbacked vhost backend else doing.Released vhost backend)
  go true = refl
  go false = refl

suits_then : (a : Asking) (vhosts : List (Option Side)) (vhost ring : ℕ) (file : Option ℕ) (refusal : Option TapErr)
    (backend : ℕ) (step : Kind) → a.command ≡ command.Backend vhost ring file
    → (refusal ≡ None → HasNoWorker vhosts vhost ring) → (file ≡ None → refusal ≡ None)
    → GoesOn ring file refusal (how.Goes backend step) → Suits vhosts a (come_to vhost ring file backend)
suits_then a vhosts vhost ring (Some asked) refusal backend step cmd none unset g =
    (cmd ∙ ap (λ (k : ℕ). command.Backend vhost ring (Some k)) (sym g.1), none g.0)
suits_then a vhosts vhost ring None refusal backend step cmd none unset g = go (ring == 0) refl where
  go : (b : Bool) → (ring == 0) ≡ b
      → Suits vhosts a (if b then doing.Unbacked vhost backend else doing.Released vhost backend)
  go true e = (
    cmd ∙ ap (λ (r : ℕ). command.Backend vhost r None) (is_zero ring e),
    subst (λ (r : ℕ). HasNoWorker vhosts vhost r) (is_zero ring e) (none (unset refl)),
  )
  go false e = (
    cmd ∙ ap (λ (r : ℕ). command.Backend vhost r None) (one_of_two ring g e),
    subst (λ (r : ℕ). HasNoWorker vhosts vhost r) (one_of_two ring g e) (none (unset refl)),
  )

-- ---- the row

abbrev drove : World → ℕ → ℕ → ℕ → Option ℕ → Option TapErr → Vhost → Contents → Driven → Effect
drove w seen vhost ring file refusal v m d = back_effect (doing_by ring file) w seen vhost refusal v m d

row_made : SetsInWorld → UnsetsInWorld → (s : Setup) (w : World) (actor seen vhost ring : ℕ) (file : Option ℕ)
    (refusal : Option TapErr) (t : Table) (v : Vhost) (m : Contents) (d : Driven) → t ≡ table s w
    → (file ≡ None → refusal ≡ None) → back_made t vhost ring file refusal v m ≡ Some d
    → back_call s w actor seen refusal vhost ring file v m ≡ Some (drove w seen vhost ring file refusal v m d)
row_made sets unsets s w actor seen vhost ring (Some file) refusal t v m d is none e =
    sets s w actor seen vhost ring file refusal v m
    ∙ ap (λ (u : Table). option_map (back_effect come.Doing.Backed w seen vhost refusal v m)
    (set_call vhost ring file refusal (shape_of u file) v m)) (sym is)
    ∙ ap (λ (o : Option Driven). option_map (back_effect come.Doing.Backed w seen vhost refusal v m) o) e
row_made sets unsets s w actor seen vhost ring None refusal t v m d is none e =
    unsets s w actor seen vhost ring refusal v m
    ∙ ap (λ (o : Option Driven). option_map (back_effect (unset_doing ring) w seen vhost None v m) o) e
    ∙ ap (λ (q : Option TapErr). Some (back_effect (unset_doing ring) w seen vhost q v m d)) (sym (none refl))

-- ---- when it may be made

-- the vhost and its guest are there, and the ring's turn is free or this actor's own
pub record IsFree (x : Shared) (actor vhost ring : ℕ) : Type 0 where
  pub side : Side
  pub guest : Guest
  pub is_vhost : at x.vhosts vhost ≡ Some side
  pub is_guest : at x.guests side.vhost.guest ≡ Some guest
  pub free : is_free_for actor ring side.vhost ≡ true

is_none_none : (r : Option TapErr) → (is_none r || is_some {T = ℕ} None) ≡ true → r ≡ None
is_none_none None h = refl
is_none_none (Some r) h = absurd (true≢false (sym h))

module _ {a : Asking} {kind₀ : EventKind} {x : Shared} (vhost ring : ℕ) (file : Option ℕ) (refusal : Option TapErr)
    (m : MayDo a (doing.Backs vhost ring file refusal) kind₀ x)
  where
    if_unset : file ≡ None → refusal ≡ None
    if_unset e = is_none_none refusal
        (sym (ap (λ (f : Option ℕ). can_be (come.Doing.Backs refusal) (command.Backend vhost ring f)) e)
        ∙ sym (ap (λ (c : Command). can_be (come.Doing.Backs refusal) c) m.suits.0) ∙ can_be_now m)

    abbrev call_in : World → Vhost → Guest → Option Effect
    call_in w v g =
        if is_free_for a.actor ring v then back_call (setup a) w a.actor a.seen refusal vhost ring file v g.memory else None

    pub is_free : IsFree x a.actor vhost ring
    is_free =
        let w = world_in x m.actors m.said in
        let r = sym (ap (λ (c : Command). row (setup a) w event.Drive a.actor (actor_at a (come.Doing.Backs refusal) m.rest) a.number c) m.suits.0)
        ∙ row_at m event.Drive refl in
        let v = then_some (at (vhosts_of x.vhosts) vhost) (λ (y : Vhost). at x.guests y.guest >>= (λ (g : Guest). call_in w y g)) m.event.effect r in
        let s = side_at vhost x.vhosts v.0 v.1 in
        let g = then_some (at x.guests v.0.guest) (λ (g : Guest). call_in w v.0 g) m.event.effect v.2 in
        let free = if_some (is_free_for a.actor ring v.0) (back_call (setup a) w a.actor a.seen refusal vhost ring file v.0 g.0.memory) m.event.effect g.2 in
        record {
          side = s.0;
          guest = g.0;
          is_vhost = s.1;
          is_guest = ap (λ (y : Vhost). at x.guests y.guest) s.2 ∙ g.1;
          free = ap (λ (y : Vhost). is_free_for a.actor ring y) s.2 ∙ free.0;
        }

    by_refusal : CallersMeetNone → (v : Side) → IsSide v → at x.vhosts vhost ≡ Some v
        → is_free_for a.actor ring v.vhost ≡ true → (r : Option TapErr) → refusal ≡ r → IsUnserved ring v
    by_refusal law v side is free None e = unserved x.vhosts vhost ring v is (m.suits.1 e)
    by_refusal law v side is free (Some r) e =
        law a.actor (command.VNum vhost ring 0) v side
        (holds_none m (ap (λ (q : Option TapErr). holds_turn (come.Doing.Backs q)) e) vhost v is) free

    pub may_drive : CallersMeetNone → (v : Side) → IsSide v → at x.vhosts vhost ≡ Some v → MayDrive vhost ring x
    may_drive law v side is =
        let f = is_free in
        let same = some_same v f.side (sym is ∙ f.is_vhost) in
        record {
          side = f.side;
          guest = f.guest;
          is_vhost = f.is_vhost;
          is_guest = f.is_guest;
          unserved = by_refusal law f.side (subst IsSide same side) f.is_vhost f.free refusal refl;
          within = subst (λ (o : Option Guest). IfSome o (λ (g : Guest). IsIn g.memory.regions f.side)) f.is_guest
              (m.held.vhosts vhost f.side f.is_vhost);
        }

    -- ---- the row of a call that was made

    has_driven : SetsInWorld → UnsetsInWorld → (v : Side) (g : Guest) (d : Driven) → at x.vhosts vhost ≡ Some v
        → at x.guests v.vhost.guest ≡ Some g → back_made x.ops.table vhost ring file refusal v.vhost g.memory ≡ Some d
        → HasEffect a (come.Doing.Backs refusal) event.Drive x
        (drove (bare x) a.seen vhost ring file refusal v.vhost g.memory d)
    has_driven sets unsets v g d is_v is_g call =
        let f = is_free in
        let free = ap (λ (y : Side). is_free_for a.actor ring y.vhost) (some_same v f.side (sym is_v ∙ f.is_vhost)) ∙ f.free in
        record {
          is_next = λ actors said. refl;
          is_row = λ actors said rest.
              let w = world_in x actors said in
              ap (λ (c : Command). row (setup a) w event.Drive a.actor (actor_at a (come.Doing.Backs refusal) rest) a.number c) m.suits.0
              ∙ ap (λ (o : Option Vhost). o >>= (λ (y : Vhost). at x.guests y.guest >>= (λ (h : Guest). call_in w y h)))
              (vhost_at vhost x.vhosts v is_v)
              ∙ ap (λ (o : Option Guest). o >>= (λ (h : Guest). call_in w v.vhost h)) is_g
              ∙ ap (λ (b : Bool). if b then back_call (setup a) w a.actor a.seen refusal vhost ring file v.vhost g.memory else None) free
              ∙ row_made sets unsets (setup a) w a.actor a.seen vhost ring file refusal x.ops.table v.vhost g.memory d
              m.held.table if_unset call;
        }

    -- ---- done

    module _ (y : Shared) (b : Backed) (sets : SetsInWorld) (unsets : UnsetsInWorld)
        (h : HasDriven vhost ring file refusal x y b)
      where
        abbrev made : Driven
        made = (h.after.vhost, b)

        its : IsMade ring file refusal h.before.vhost made
        its = is_made x.ops.table vhost ring file refusal h.before.vhost h.guest.memory made h.call

        has : HasEffect a (come.Doing.Backs refusal) event.Drive x
            (drove (bare x) a.seen vhost ring file refusal h.before.vhost h.guest.memory made)
        has = has_driven sets unsets h.before h.guest made h.is_vhost h.is_guest h.call

        told_is : (step : Option Kind) → told h.before.vhost.guest a.actor a.number step x.guests
            ≡ with_at h.before.vhost.guest (stepped h.guest a.actor a.number h.guest.memory step) x.guests
        told_is step = ap (λ (o : Option Guest). option_map_or (λ (g : Guest). with_at h.before.vhost.guest
            (stepped g a.actor a.number g.memory step) x.guests) o x.guests) h.is_guest

        -- the guest with a step or without one, as it is told
        tells : (step : Option Kind)
            → guests_after a.actor a.number (option_map_or (λ (k : Kind). OnGuest h.before.vhost.guest h.guest.memory (Some k)) step NoGuest) x.guests
            ≡ Some (told h.before.vhost.guest a.actor a.number step x.guests)
        tells (Some k) =
            ap (λ (o : Option Guest). o >>= (λ (g : Guest). Some (with_at h.before.vhost.guest (stepped g a.actor a.number h.guest.memory (Some k)) x.guests))) h.is_guest
            ∙ ap (λ (gs : List (Option Guest)). Some gs) (sym (told_is (Some k)))
        tells None = ap (λ (gs : List (Option Guest)). Some gs)
            (sym (told_is None ∙ with_at_same h.before.vhost.guest (stepped h.guest a.actor a.number h.guest.memory None) x.guests
            (h.is_guest ∙ ap (λ (ss : List StepLine). Some (record h.guest { steps = ss })) (no_more h.guest.steps))))

        lie : (step : Option Kind)
            → VhostsLie (told h.before.vhost.guest a.actor a.number step x.guests) (with_at vhost h.after x.vhosts)
        lie step =
            subst (λ (gs : List (Option Guest)). VhostsLie gs (with_at vhost h.after x.vhosts)) (sym (told_is step))
            (guests_lie_with x.guests (with_at vhost h.after x.vhosts) h.before.vhost.guest h.guest
            (stepped h.guest a.actor a.number h.guest.memory step)
            (vhosts_lie_with x.guests x.vhosts vhost h.after m.held.vhosts
            (subst (λ (o : Option Guest). IfSome o (λ (g : Guest). IsIn g.memory.regions h.after))
            (sym (ap (λ (n : ℕ). at x.guests n) its.guest ∙ h.is_guest)) h.within)) h.is_guest refl)

        same_rx : h.after.rx ≡ h.before.rx
        same_rx = ap (λ (s : Side). s.rx) h.only

        same_tx : h.after.tx ≡ h.before.tx
        same_tx = ap (λ (s : Side). s.tx) h.only

-- ---- done

module _ {a : Asking} {kind₀ : EventKind} {x : Shared} (vhost ring : ℕ) (file : Option ℕ) (refusal : Option TapErr)
    (m : MayDo a (doing.Backs vhost ring file refusal) kind₀ x) (y : Shared) (sets : SetsInWorld)
    (unsets : UnsetsInWorld)
  where
    pub ends_did : (answer : Answer) (step : Option Kind)
        (h : HasDriven vhost ring file refusal x y (how.Ends answer step))
        → Did a (doing.Backs vhost ring file refusal) event.Drive x (record x {
          guests = told h.before.vhost.guest a.actor a.number step x.guests;
          vhosts = with_at vhost h.after x.vhosts;
          writer = if is_none refusal then None else x.writer;
        }) (on.Ends a.seen answer)
    ends_did answer step h =
        let b = how.Ends answer step in
        record {
          effect = drove (bare x) a.seen vhost ring file refusal h.before.vhost h.guest.memory (h.after.vhost, b);
          has = has vhost ring file refusal m y b sets unsets h;
          left = record {
            ops = no_more x.ops.ops;
            files = refl;
            guests = tells vhost ring file refusal m y b sets unsets h step;
            vhosts = vhost_left vhost h.after x.vhosts;
            hosted = no_more x.hosted.items;
            dropped = no_more x.dropped.items;
            writer = refl;
            phase = refl;
          };
          onward = refl;
          held = record {
            table = m.held.table;
            frames = m.held.frames;
            vhosts = lie vhost ring file refusal m y b sets unsets h step;
          };
          suits = tt;
          stay = turns_stay a.actor vhost h.before h.after x.vhosts h.is_vhost
              (same_rx vhost ring file refusal m y b sets unsets h) (same_tx vhost ring file refusal m y b sets unsets h);
        }

    pub goes_did : (backend : ℕ) (step : Kind)
        (h : HasDriven vhost ring file refusal x y (how.Goes backend step))
        → Did a (doing.Backs vhost ring file refusal) event.Drive x (record x {
          guests = told h.before.vhost.guest a.actor a.number (Some step) x.guests;
          vhosts = with_at vhost h.after x.vhosts;
        }) (on.Goes a.seen (come_to vhost ring file backend) (found.Step step))
    goes_did backend step h =
        let b = how.Goes backend step in
        let vs = with_at vhost h.after x.vhosts in
        let rx = same_rx vhost ring file refusal m y b sets unsets h in
        let tx = same_tx vhost ring file refusal m y b sets unsets h in
        record {
          effect = drove (bare x) a.seen vhost ring file refusal h.before.vhost h.guest.memory (h.after.vhost, b);
          has = has vhost ring file refusal m y b sets unsets h;
          left = record {
            ops = no_more x.ops.ops;
            files = refl;
            guests = tells vhost ring file refusal m y b sets unsets h (Some step);
            vhosts = vhost_left vhost h.after x.vhosts;
            hosted = no_more x.hosted.items;
            dropped = no_more x.dropped.items;
            writer = refl;
            phase = refl;
          };
          onward = ap (λ (q : come.Doing). world.Onward.Goes a.seen q (found.Step step)) (come_is vs vhost ring file backend);
          held = record {
            table = m.held.table;
            frames = m.held.frames;
            vhosts = lie vhost ring file refusal m y b sets unsets h (Some step);
          };
          suits = suits_then a vs vhost ring file refusal backend step m.suits.0
              (λ e. none_still vhost h.before h.after x.vhosts vhost ring h.is_vhost rx tx (m.suits.1 e))
              (if_unset vhost ring file refusal m) (its vhost ring file refusal m y b sets unsets h).goes;
          stay = turns_stay a.actor vhost h.before h.after x.vhosts h.is_vhost rx tx;
        }
