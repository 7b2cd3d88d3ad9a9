-- Every event, and the beginning of a phase, makes a world grow.
use Rattle.std.proofs.Common.{◌≡◌, ℕ, zero, suc, ◌+◌, ◌≤◌, List, [], ◌∷◌, ◌++◌, map, true, Option, Some, None, refl, sym, ap, ◌∙◌, subst, arith}
use Rattle.std.specs.Prelude.{option_map, slice_get}
use Rattle.std.specs.Option.{option_map_or}
use Rattle.std.proofs.lemmas.List.{append-nil}
use Rattle.scen_text.specs.declared.scenario.Phase.{Phase}
use Rattle.tap_world.specs.declared.event.Event.{Event}
use Rattle.tap_world.specs.declared.event.Heard.{Heard}
use Rattle.tap_world.specs.declared.told.Published.{Published}
use Rattle.tap_world.specs.ByNumber.{at}
use Rattle.tap_world.specs.Guests.{Guest, Vhost}
use Rattle.tap_world.specs.Setup.{Numbered, Setup}
use Rattle.tap_world.specs.World.{Actor, World, current, newest}
use Rattle.tap_world.specs.World.Doing.{Begun}
use Rattle.tap_world.specs.Effect.{Ending, OnGuests, ended, guests_after}
use Rattle.tap_world.specs.Effect.OnGuests.{NoGuest, OnGuest}
use Rattle.tap_world.specs.Runs.{actors_from, begins, has_ended}
use Rattle.tap_world.specs.Sound.{IsSound}
use Rattle.tap_world.specs.Steady.{IsThere}
use Rattle.tap_world.specs.Step.{step}
use Rattle.tap_sound.proofs.Kept.{effect_files, effect_ops}
use Rattle.tap_sound.proofs.Kit.{some_same, then_some}
use Rattle.tap_sound.proofs.Scripts.{ended_each}
use Rattle.tap_sound.proofs.Taken.{IsStep, step_is, when_settled}
use Rattle.tap_grows.specs.Coming.{coming, pending_in, pending_of}
use Rattle.tap_grows.specs.Grows.{Continues, FileGrows, Grows, GuestGrows, IsOfSameGuest, Stay}
use Rattle.tap_grows.proofs.Coming.{begun_pending, coming_grows}
use Rattle.tap_grows.proofs.Effects.{effect_rest}
use Rattle.tap_grows.proofs.Files.{files_grow}
use Rattle.tap_grows.proofs.Lines.{stay_with_at}
use Rattle.tap_grows.proofs.Orders.{continues_itself, continues_on, file_itself, guest_itself, stay_themselves}

-- ---- guests and vhosts

-- what two lists say of what has a number is the same
abbrev first_of : {B : Type 0} → List (Option B) → Option B
first_of [] = None
first_of (x ∷ xs) = x

abbrev rest_of : {B : Type 0} → List (Option B) → List (Option B)
rest_of [] = []
rest_of (x ∷ xs) = xs

says_here : {A B : Type 0} (h : A → B) (x : A) (o : Option A) → option_map h o ≡ Some (h x)
    → (y : A) × (o ≡ Some y) × (h y ≡ h x)
says_here h x None e = absurd (cc (e))
says_here h x (Some y) e = (y, refl, some_same (h y) (h x) e)

says_same : {A B : Type 0} (h : A → B) (xs ys : List (Option A))
    → map (λ (x : Option A). option_map h x) ys ≡ map (λ (x : Option A). option_map h x) xs
    → (n : ℕ) (x : A) → at xs n ≡ Some x → (y : A) × (at ys n ≡ Some y) × (h y ≡ h x)
says_same h [] ys e n x is = absurd (cc (is))
says_same h (a ∷ xs) [] e n x is = absurd (cc (e))
says_same h (a ∷ xs) (b ∷ ys) e zero x is =
    says_here h x b (ap first_of e ∙ ap (λ (o : Option _). option_map h o) is)
says_same h (a ∷ xs) (b ∷ ys) e (suc n) x is = says_same h xs ys (ap rest_of e) n x is

abbrev HasSteps : Guest → Guest → Type 0
HasSteps g h = Continues g.steps h.steps

steps_stay : (actor n : ℕ) (o : OnGuests) (gs after : List (Option Guest)) → guests_after actor n o gs ≡ Some after
    → Stay HasSteps gs after
steps_stay actor n NoGuest gs after e =
    subst (Stay HasSteps gs) (some_same gs after e) (stay_themselves HasSteps (λ g. continues_itself g.steps) gs)
steps_stay actor n (OnGuest guest m step) gs after e =
    let g = then_some (at gs guest) _ after e in
    subst (Stay HasSteps gs) (some_same _ after g.2)
    (stay_with_at HasSteps (λ x. continues_itself x.steps) guest g.0 _ gs g.1 (_, refl))

guests_grow : (xs ys : List (Option Guest))
    → map (λ (g : Option Guest). option_map (λ (x : Guest). x.memory.regions) g) ys
    ≡ map (λ (g : Option Guest). option_map (λ (x : Guest). x.memory.regions) g) xs
    → Stay HasSteps xs ys → Stay GuestGrows xs ys
guests_grow xs ys same h n g is =
    let k = h n g is in
    let r = says_same (λ (x : Guest). x.memory.regions) xs ys same n g is in
    let it : r.0 ≡ k.0 = some_same r.0 k.0 (sym r.1 ∙ k.1) in
    (k.0, k.1, record { regions = ap (λ (x : Guest). x.memory.regions) (sym it) ∙ r.2; steps = k.2 })

-- ---- events

-- what grows by an effect, and by the end of a purge
record Mostly (w u : World) : Type 0 where
  ops : Continues w.ops u.ops
  files : Stay FileGrows w.files u.files
  steps : Stay HasSteps w.guests u.guests
  hosted : Continues w.hosted u.hosted
  dropped : Continues w.dropped u.dropped
  said : Continues w.said u.said
  phase : u.phase ≡ w.phase

between_mostly : (s : Setup) (w : World) (x : Event) (u : World) (t : IsStep s w x u) → Mostly w t.between
between_mostly s w x u t =
    let rest = effect_rest t.effect x.actor t.actor x.command w t.between t.made in
    record {
      ops = (_, effect_ops t.effect x.actor t.actor x.command w t.between t.made);
      files = files_grow t.effect.files w.files t.between.files
          (effect_files t.effect x.actor t.actor x.command w t.between t.made);
      steps = steps_stay x.actor x.command t.effect.guests w.guests t.between.guests rest.guests;
      hosted = (_, rest.hosted);
      dropped = (_, rest.dropped);
      said = (_, rest.said);
      phase = rest.phase;
    }

ended_mostly : (w v : World) (f : Ending) → Mostly w v → Mostly w (ended f v)
ended_mostly w v f h = record {
  ops = h.ops;
  files = h.files;
  steps = h.steps;
  hosted = h.hosted;
  dropped = h.dropped;
  said = continues_on w.said v.said (ended f v).said h.said (_, refl);
  phase = h.phase;
}

step_mostly : (s : Setup) (w : World) (x : Event) (u : World) → IsStep s w x u → Mostly w u
step_mostly s w x u t =
    let b = between_mostly s w x u t in
    subst (Mostly w) t.is (when_settled (Mostly w) t.between b (λ f end. ended_mostly w t.between f b))

pub phase_stays : (s : Setup) (w : World) (x : Event) (u : World × Heard) → step s w x ≡ Some u → u.0.phase ≡ w.phase
phase_stays s w x u e = (step_mostly s w x u.0 (step_is s w x u e)).phase

pub event_grows : (s : Setup) (w : World) (x : Event) (u : World × Heard) → step s w x ≡ Some u → IsSound s w
    → IsThere s w → IsThere s u.0 → Grows s w u.0
event_grows s w x u e sound was is =
    let m = step_mostly s w x u.0 (step_is s w x u e) in
    record {
      ops = m.ops;
      coming = coming_grows s w x u e sound.actors.stand sound.actors.writer;
      files = m.files;
      guests = guests_grow w.guests u.0.guests (is.guests ∙ sym was.guests) m.steps;
      vhosts = says_same (λ (v : Vhost). v.guest) w.vhosts u.0.vhosts (is.vhosts ∙ sym was.vhosts);
      hosted = m.hosted;
      dropped = m.dropped;
      said = m.said;
      phase = let same = m.phase in omega (arith, same);
    }

-- ---- as a phase begins

pub begun_all : (p : Phase) (seen from n i : ℕ) (a : Actor) → slice_get (actors_from p seen from n) i ≡ Some a
    → a.doing ≡ Begun
begun_all p seen from zero i a e = absurd (cc (e))
begun_all p seen from (suc n) zero a e = ap (λ (q : Actor). q.doing) (sym (some_same _ a e))
begun_all p seen from (suc n) (suc i) a e = begun_all p seen (from + 1) n i a e

pub begun_seen : (p : Phase) (seen from n i : ℕ) (a : Actor) → slice_get (actors_from p seen from n) i ≡ Some a
    → a.seen ≡ seen
begun_seen p seen from zero i a e = absurd (cc (e))
begun_seen p seen from (suc n) zero a e = ap (λ (q : Actor). q.seen) (sym (some_same _ a e))
begun_seen p seen from (suc n) (suc i) a e = begun_seen p seen (from + 1) n i a e

-- nothing is to be published where no actor is to publish anything
none_comes : (s : Setup) (phase : ℕ) (actors : List Actor) (writer : Option ℕ)
    → ((i : ℕ) (a : Actor) → slice_get actors i ≡ Some a → pending_of s phase i a.doing (current a.script) ≡ [])
    → pending_in s phase actors writer ≡ []
none_comes s phase actors None none = refl
none_comes s phase actors (Some n) none = go (slice_get actors n) refl
  where
    go : (o : Option Actor) → slice_get actors n ≡ o
        → option_map_or (λ (a : Actor). pending_of s phase n a.doing (current a.script)) o [] ≡ []
    go None is = refl
    go (Some a) is = none n a is

none_in : (s : Setup) (w : World) → pending_in s w.phase w.actors w.writer ≡ [] → coming s w ≡ w.ops
none_in s w is = ap (λ (l : List Published). w.ops ++ l) is ∙ append-nil w.ops

pub all_is_published : (s : Setup) (w : World) → has_ended w ≡ true → coming s w ≡ w.ops
all_is_published s w all = none_in s w (none_comes s w.phase w.actors w.writer (λ i a is.
    ap (λ (l : List Numbered). pending_of s w.phase i a.doing (current l)) (ended_each w.actors i a all is)))

pub beginning_grows : (s : Setup) (number : ℕ) (p : Phase) (w : World) → has_ended w ≡ true → w.phase ≤ number
    → Grows s w (begins number p w)
beginning_grows s number p w all less =
    let was = all_is_published s w all in
    let is = none_in s (begins number p w) (none_comes s number (actors_from p (newest w) 0 p.actors) w.writer
    (λ i a at_. begun_pending s number i a.doing (current a.script) (begun_all p (newest w) 0 p.actors i a at_))) in
    record {
      ops = continues_itself w.ops;
      coming = ([], is ∙ sym was ∙ sym (append-nil (coming s w)));
      files = stay_themselves FileGrows file_itself w.files;
      guests = stay_themselves GuestGrows guest_itself w.guests;
      vhosts = stay_themselves IsOfSameGuest (λ v. refl) w.vhosts;
      hosted = continues_itself w.hosted;
      dropped = continues_itself w.dropped;
      said = continues_itself w.said;
      phase = less;
    }
