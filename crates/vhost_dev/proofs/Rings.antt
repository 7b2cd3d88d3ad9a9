-- What the calls keep of the rings.
use Rattle.std.proofs.Common.{◌≡◌, ℕ, Bool, true, false, not, ◌&&◌, ◌||◌, nat_lt, IsTrue, List, [], ◌∷◌, Option, None, Some, refl, arith, if◌then◌else◌}
use Rattle.std.proofs.lemmas.Bool.{both_ways, not-false, eqb-true, ltb-false}
use Rattle.std.specs.Int.{is_power_of_two}
use Rattle.guest_mem.specs.Memory.{Contents, covers}
use Rattle.vring_split.specs.Split.{desc_len, avail_len, used_len}
use Rattle.vring_split.specs.declared.fault.RingFault.{RingFault}
use Rattle.vhost_queue.specs.Queue.{IsGood, IsQueueSize}
use Rattle.vhost_dev.specs.declared.error.VhostErr.{VhostErr}
use Rattle.vhost_dev.specs.declared.error.VhostErr.TheVariants.{EINVAL, EBUSY, EFAULT, ENOBUFS, ENOTSUP}
use Rattle.vhost_dev.specs.Settings.{RingSettings, Settings, ring_of, with_ring, ring_at, is_rx, asks_more}
use Rattle.tap_ground.specs.Options.{first_that_holds as first_reason}
use Rattle.vhost_dev.specs.Refusals.{is_no_ring, is_backed, is_bad_size, is_unaligned, is_outside, is_astray, features_refusal, ready_refusal}
use Rattle.vhost_dev.specs.Calls.{chosen, resized, begun, placed, backed, unbacked, with_features}
use Rattle.vhost_dev.specs.Laws.{Call, HaveSizes, BackedAreGood, after, refusal_of, made_by, sets_backend}
use Rattle.vhost_dev.specs.Laws.Call.{SetFeatures, SetNum, SetBase, SetAddr, SetBackend, UnsetBackend}
use Rattle.vhost_dev.proofs.Sizes.{size_below}

-- what holds of a value and, where nothing is refused, of another one, holds of the one that is chosen
pub chosen_has :
    {A : Type 0} (P : A → Type 0) (r : Option VhostErr) (old new : A)
    → P old → (r ≡ None → P new) → P (chosen r old new)
chosen_has P None old new h g = g refl
chosen_has P (Some e) old new h g = h

-- where nothing is refused no reason holds
pub none_of_two :
    (a b : Bool) (e f : VhostErr)
    → first_reason ((a, e) ∷ (b, f) ∷ []) ≡ None → (a ≡ false) × (b ≡ false)
none_of_two true b e f h = absurd (cc)
none_of_two false true e f h = absurd (cc)
none_of_two false false e f h = (refl, refl)

pub none_of_three :
    (a b c : Bool) (e f g : VhostErr)
    → first_reason ((a, e) ∷ (b, f) ∷ (c, g) ∷ []) ≡ None → (a ≡ false) × (b ≡ false) × (c ≡ false)
none_of_three true b c e f g h = absurd (cc)
none_of_three false true c e f g h = absurd (cc)
none_of_three false false true e f g h = absurd (cc)
none_of_three false false false e f g h = (refl, refl, refl)

-- a ring whose next reasons are others has no backend where nothing is refused
pub none_backed :
    (a b : Bool) (e f : VhostErr) (rest : List (Bool × VhostErr))
    → first_reason ((a, e) ∷ (b, f) ∷ rest) ≡ None → b ≡ false
none_backed true b e f rest h = absurd (cc)
none_backed false true e f rest h = absurd (cc)
none_backed false false e f rest h = refl

-- a fact of each ring stays, where it holds of the one that changes
pub each_ring :
    (P : Bool → RingSettings → Type 0) (b : Bool) (r : RingSettings) (s : Settings)
    → ((rx : Bool) → P rx (ring_of rx s)) → P b r → (rx : Bool) → P rx (ring_of rx (with_ring b r s))
each_ring P true r s h g true = g
each_ring P true r s h g false = h false
each_ring P false r s h g true = h true
each_ring P false r s h g false = g

pub or_none : (a b : Bool) → (a || b) ≡ false → (a ≡ false) × (b ≡ false)
or_none true b h = absurd (cc)
or_none false b h = (refl, h)

pub all_of_three : (a b c : Bool) → not (a && b && c) ≡ false → (a ≡ true) × (b ≡ true) × (c ≡ true)
all_of_three true true true h = (refl, refl, refl)
all_of_three true true false h = absurd (cc)
all_of_three true false c h = absurd (cc)
all_of_three false b c h = absurd (cc)

-- a number that isn't bad is a queue size
pub good_size : (n : ℕ) → is_bad_size n ≡ false → IsQueueSize n
good_size n h =
    let parts = or_none (not (is_power_of_two n)) (nat_lt 65535 n) h in
    let power = not-false (is_power_of_two n) parts.0 in
    let most = ltb-false 65535 n parts.1 in
    record { power = power; most = size_below n (eqb-true _ _ power) (omega arith) }

-- a ring that is ready lies in the memory
pub ready_good :
    (m : Contents) (s : Settings) (ring : ℕ)
    → HaveSizes s → ready_refusal ring m s ≡ None → IsGood (ring_at ring s).queue m
ready_good m s ring sizes h =
    let l = (ring_at ring s).queue.layout in
    let told = none_of_three (is_no_ring ring) (is_backed (ring_at ring s)) (is_astray l m) ENOBUFS EBUSY EFAULT h in
    let parts =
    all_of_three (covers m.regions l.desc (desc_len l.num)) (covers m.regions l.avail (avail_len l.num))
    (covers m.regions l.used (used_len l.num)) told.2 in
    record {
      power = (sizes (is_rx ring)).power;
      most = (sizes (is_rx ring)).most;
      desc = parts.0;
      avail = parts.1;
      used = parts.2;
    }

-- the rings of a device whose features are set have no backend
pub features_backed :
    (bits : ℕ) (s : Settings) → features_refusal bits s ≡ None → (rx : Bool) → is_backed (ring_of rx s) ≡ false
features_backed bits s h rx =
    let told = none_of_two (is_backed s.rx || is_backed s.tx) (asks_more bits) EBUSY ENOTSUP h in
    let both = or_none (is_backed s.rx) (is_backed s.tx) told.0 in
    elim rx as (λ v. is_backed (ring_of v s) ≡ false) [ true ↦ both.0 | false ↦ both.1 ]

-- Sizes.

pub sizes_made :
    (m : Contents) (s : Settings) (call : Call)
    → HaveSizes s → refusal_of m s call ≡ None → HaveSizes (made_by m s call)
sizes_made m s (SetFeatures bits) h n = λ rx.
    elim rx as (λ v. IsQueueSize (ring_of v (with_features bits s)).queue.layout.num) [ true ↦ h true | false ↦ h false ]
sizes_made m s (SetNum ring num) h n =
    let told = none_of_three (is_no_ring ring) (is_backed (ring_at ring s)) (is_bad_size num) ENOBUFS EBUSY EINVAL n in
    each_ring (λ rx r. IsQueueSize r.queue.layout.num) (is_rx ring) (resized num (ring_at ring s)) s h (good_size num told.2)
sizes_made m s (SetBase ring base) h n =
    each_ring (λ rx r. IsQueueSize r.queue.layout.num) (is_rx ring) (begun base (ring_at ring s)) s h (h (is_rx ring))
sizes_made m s (SetAddr ring desc avail used) h n =
    each_ring (λ rx r. IsQueueSize r.queue.layout.num) (is_rx ring) (placed desc avail used (ring_at ring s)) s h
    (h (is_rx ring))
sizes_made m s (SetBackend ring file) h n =
    each_ring (λ rx r. IsQueueSize r.queue.layout.num) (is_rx ring) (backed file m (ring_at ring s)) s h (h (is_rx ring))
sizes_made m s (UnsetBackend ring) h n =
    each_ring (λ rx r. IsQueueSize r.queue.layout.num) (is_rx ring) (unbacked (ring_at ring s)) s h (h (is_rx ring))

pub sizes_stay : (m : Contents) (s : Settings) (call : Call) → HaveSizes s → HaveSizes (after m s call)
sizes_stay m s call h = chosen_has HaveSizes (refusal_of m s call) s (made_by m s call) h (sizes_made m s call h)

-- Layouts.

-- a ring's layout is the one before, if it has a backend
KeepsIfBacked : Settings → Bool → RingSettings → Type 0
KeepsIfBacked s rx r = IsTrue (is_backed (ring_of rx s)) → r.queue.layout ≡ (ring_of rx s).queue.layout

layouts_made :
    (m : Contents) (s : Settings) (call : Call)
    → refusal_of m s call ≡ None → (rx : Bool) → KeepsIfBacked s rx (ring_of rx (made_by m s call))
unfolding KeepsIfBacked
layouts_made m s (SetFeatures bits) n = λ rx has. absurd (both_ways (is_backed (ring_of rx s)) (features_backed bits s n rx) has)
layouts_made m s (SetNum ring num) n =
    let free =
    none_backed (is_no_ring ring) (is_backed (ring_at ring s)) ENOBUFS EBUSY ((is_bad_size num, EINVAL) ∷ []) n in
    each_ring (KeepsIfBacked s) (is_rx ring) (resized num (ring_at ring s)) s (λ rx has. refl)
    (λ has. absurd (both_ways (is_backed (ring_at ring s)) free has))
layouts_made m s (SetBase ring base) n =
    each_ring (KeepsIfBacked s) (is_rx ring) (begun base (ring_at ring s)) s (λ rx has. refl) (λ has. refl)
layouts_made m s (SetAddr ring desc avail used) n =
    let free =
    none_backed (is_no_ring ring) (is_backed (ring_at ring s)) ENOBUFS EBUSY
    ((is_unaligned desc avail used, EINVAL)
    ∷ (is_outside (ring_at ring s).queue.layout.num desc avail used m, EFAULT) ∷ []) n in
    each_ring (KeepsIfBacked s) (is_rx ring) (placed desc avail used (ring_at ring s)) s (λ rx has. refl)
    (λ has. absurd (both_ways (is_backed (ring_at ring s)) free has))
layouts_made m s (SetBackend ring file) n =
    each_ring (KeepsIfBacked s) (is_rx ring) (backed file m (ring_at ring s)) s (λ rx has. refl) (λ has. refl)
layouts_made m s (UnsetBackend ring) n =
    each_ring (KeepsIfBacked s) (is_rx ring) (unbacked (ring_at ring s)) s (λ rx has. refl) (λ has. refl)

pub layouts_stay :
    (m : Contents) (s : Settings) (call : Call) (rx : Bool)
    → IsTrue (is_backed (ring_of rx s))
    → (ring_of rx (after m s call)).queue.layout ≡ (ring_of rx s).queue.layout
unfolding KeepsIfBacked
layouts_stay m s call rx has =
    chosen_has (λ (t : Settings). (ring_of rx t).queue.layout ≡ (ring_of rx s).queue.layout) (refusal_of m s call) s
    (made_by m s call) refl (λ n. layouts_made m s call n rx has)

-- Goodness.

GoodIfBacked : Contents → Bool → RingSettings → Type 0
GoodIfBacked m rx r = IsTrue (is_backed r) → IsGood r.queue m

good_made :
    (m : Contents) (s : Settings) (call : Call)
    → HaveSizes s → BackedAreGood m s → refusal_of m s call ≡ None → BackedAreGood m (made_by m s call)
unfolding GoodIfBacked
good_made m s (SetFeatures bits) sizes h n = λ rx.
    elim rx as (λ v. IsTrue (is_backed (ring_of v (with_features bits s))) → IsGood (ring_of v (with_features bits s)).queue m) [
      | true ↦ λ has. absurd (both_ways (is_backed s.rx) (features_backed bits s n true) has)
      | false ↦ λ has. absurd (both_ways (is_backed s.tx) (features_backed bits s n false) has)
    ]
good_made m s (SetNum ring num) sizes h n =
    let free =
    none_backed (is_no_ring ring) (is_backed (ring_at ring s)) ENOBUFS EBUSY ((is_bad_size num, EINVAL) ∷ []) n in
    each_ring (GoodIfBacked m) (is_rx ring) (resized num (ring_at ring s)) s h
    (λ has. absurd (both_ways (is_backed (ring_at ring s)) free has))
good_made m s (SetBase ring base) sizes h n =
    each_ring (GoodIfBacked m) (is_rx ring) (begun base (ring_at ring s)) s h (h (is_rx ring))
good_made m s (SetAddr ring desc avail used) sizes h n =
    let free =
    none_backed (is_no_ring ring) (is_backed (ring_at ring s)) ENOBUFS EBUSY
    ((is_unaligned desc avail used, EINVAL)
    ∷ (is_outside (ring_at ring s).queue.layout.num desc avail used m, EFAULT) ∷ []) n in
    each_ring (GoodIfBacked m) (is_rx ring) (placed desc avail used (ring_at ring s)) s h
    (λ has. absurd (both_ways (is_backed (ring_at ring s)) free has))
good_made m s (SetBackend ring file) sizes h n =
    each_ring (GoodIfBacked m) (is_rx ring) (backed file m (ring_at ring s)) s h
    (λ has. ready_good m s ring sizes n)
good_made m s (UnsetBackend ring) sizes h n =
    each_ring (GoodIfBacked m) (is_rx ring) (unbacked (ring_at ring s)) s h (λ has. absurd (cc))

pub good_stays :
    (m : Contents) (s : Settings) (call : Call)
    → HaveSizes s → BackedAreGood m s → BackedAreGood m (after m s call)
good_stays m s call sizes h =
    chosen_has (BackedAreGood m) (refusal_of m s call) s (made_by m s call) h (good_made m s call sizes h)

-- Stopped rings.

StaysStopped : RingFault → Settings → Bool → RingSettings → Type 0
StaysStopped fault s rx r = (ring_of rx s).queue.stopped ≡ Some fault → r.queue.stopped ≡ Some fault

-- of the two rings one is changed, and the other isn't the one of which a fact is wanted
another_ring :
    (P : RingSettings → Type 0) (b rx : Bool) (r : RingSettings) (s : Settings)
    → (if b then rx else not rx) ≡ false → P (ring_of rx s) → P (ring_of rx (with_ring b r s))
another_ring P true true r s e h = absurd (cc)
another_ring P true false r s e h = h
another_ring P false true r s e h = h
another_ring P false false r s e h = absurd (cc)

stopped_made :
    (m : Contents) (s : Settings) (call : Call) (rx : Bool) (fault : RingFault)
    → (ring_of rx s).queue.stopped ≡ Some fault → sets_backend rx call ≡ false
    → (ring_of rx (made_by m s call)).queue.stopped ≡ Some fault
unfolding StaysStopped
stopped_made m s (SetFeatures bits) true fault h e = h
stopped_made m s (SetFeatures bits) false fault h e = h
stopped_made m s (SetNum ring num) rx fault h e =
    each_ring (StaysStopped fault s) (is_rx ring) (resized num (ring_at ring s)) s (λ v k. k) (λ k. k) rx h
stopped_made m s (SetBase ring base) rx fault h e =
    each_ring (StaysStopped fault s) (is_rx ring) (begun base (ring_at ring s)) s (λ v k. k) (λ k. k) rx h
stopped_made m s (SetAddr ring desc avail used) rx fault h e =
    each_ring (StaysStopped fault s) (is_rx ring) (placed desc avail used (ring_at ring s)) s (λ v k. k) (λ k. k) rx h
stopped_made m s (SetBackend ring file) rx fault h e =
    another_ring (λ (r : RingSettings). r.queue.stopped ≡ Some fault) (is_rx ring) rx (backed file m (ring_at ring s)) s e h
stopped_made m s (UnsetBackend ring) rx fault h e =
    each_ring (StaysStopped fault s) (is_rx ring) (unbacked (ring_at ring s)) s (λ v k. k) (λ k. k) rx h

pub stopped_stays :
    (m : Contents) (s : Settings) (call : Call) (rx : Bool) (fault : RingFault)
    → (ring_of rx s).queue.stopped ≡ Some fault
    → (refusal_of m s call ≡ None → sets_backend rx call ≡ false)
    → (ring_of rx (after m s call)).queue.stopped ≡ Some fault
stopped_stays m s call rx fault h e =
    chosen_has (λ (t : Settings). (ring_of rx t).queue.stopped ≡ Some fault) (refusal_of m s call) s (made_by m s call) h
    (λ n. stopped_made m s call rx fault h (e n))
