-- What of a vhost lies in its guest's regions, where its settings or a driver change.
use Rattle.std.proofs.Common.{◌≡◌, MatchOption, IsOkUnless, IsErrOf, OnOk, OnErr, Ok, Err, Result, subst, sym, ℕ, ◌==◌, Bool, true, false, ◌||◌, List, [], ◌∷◌, Option, Some, None, refl}
use Rattle.std.proofs.lemmas.Bool.{both_ways}
use Rattle.guest_mem.specs.Memory.{Contents}
use Rattle.guest_mem.specs.declared.region.Region.{Region}
use Rattle.vhost_queue.specs.Queue.{IsGood}
use Rattle.vhost_dev.specs.declared.error.VhostErr.{VhostErr}
use Rattle.vhost_dev.specs.declared.error.VhostErr.TheVariants.{EBUSY, ENOTSUP, NoMemory}
use Rattle.vhost_dev.specs.Calls.{backed, begun as begins, chosen, with_backend, with_base, with_features}
use Rattle.vhost_dev.specs.Laws.{BackedAreGood}
use Rattle.vhost_dev.specs.Refusals.{base_refusal, is_backed, features_refusal}
use Rattle.vhost_dev.specs.Settings.{RingSettings, Settings, asks_more, ring_at, ring_of, with_ring}
use Rattle.tap_ground.specs.Options.{first_that_holds as first_reason}
use Rattle.vhost_dev.specs.Device.{Device}
use Rattle.tap_guests.proofs.Answered.{base_free}
use Rattle.tap_guests.specs.Side.{Side, device_in, with_device}
use Rattle.vring_drive.specs.Books.{Books}
use Rattle.tap_guests.specs.Within.{HasArea, IsIn, blank}
use Rattle.tap_guests.proofs.Rings.{with_settings}

-- other settings, whose rings with a backend lie in the regions
pub in_with :
    (rs : List Region) (t : Settings) (s : Side)
    → BackedAreGood (blank rs) t → IsIn rs s → IsIn rs (with_settings t s)
in_with rs t s good h = record {
  good = good;
  rx_driver = h.rx_driver;
  tx_driver = h.tx_driver;
  rx = h.rx;
  tx = h.tx;
}

-- one ring without a backend changes, and gets none
pub good_stays :
    (refusal : Option VhostErr) (b : Bool) (f : RingSettings → RingSettings) (m : Contents) (s : Settings)
    → is_backed (f (ring_of b s)) ≡ is_backed (ring_of b s)
    → (refusal ≡ None → is_backed (ring_of b s) ≡ false)
    → BackedAreGood m s → BackedAreGood m (chosen refusal s (with_ring b (f (ring_of b s)) s))
good_stays (Some e) b f m s same free h rx has = h rx has
good_stays None true f m s same free h true has = absurd (both_ways (is_backed s.rx) (free refl) (rw (← same) has))
good_stays None true f m s same free h false has = h false has
good_stays None false f m s same free h true has = h true has
good_stays None false f m s same free h false has = absurd (both_ways (is_backed s.tx) (free refl) (rw (← same) has))

-- both without a backend change
or_none : (a b : Bool) → (a || b) ≡ false → (a ≡ false) × (b ≡ false)
or_none true b h = absurd (cc)
or_none false b h = (refl, h)

pub features_good :
    (bits : ℕ) (m : Contents) (s : Settings)
    → BackedAreGood m s → BackedAreGood m (chosen (features_refusal bits s) s (with_features bits s))
features_good bits m s h = by_refusal (features_refusal bits s) refl where
  free : features_refusal bits s ≡ None → (is_backed s.rx ≡ false) × (is_backed s.tx ≡ false)
  free n = or_none _ _ (none (is_backed s.rx || is_backed s.tx) (asks_more bits) n) where
    none : (a b : Bool) → first_reason ((a, EBUSY) ∷ (b, ENOTSUP) ∷ []) ≡ None → a ≡ false
    none true b h = absurd (cc)
    none false b h = refl

  by_refusal : (refusal : Option VhostErr)
      → features_refusal bits s ≡ refusal → BackedAreGood m (chosen refusal s (with_features bits s))
  by_refusal (Some e) is rx has = h rx has
  by_refusal None is true has = absurd (both_ways (is_backed s.rx) (free is).0 has)
  by_refusal None is false has = absurd (both_ways (is_backed s.tx) (free is).1 has)

-- another driver of a ring, whose area lies in the regions
pub in_rx_driver :
    (rs : List Region) (d : Option Books) (s : Side)
    → HasArea rs d → IsIn rs s → IsIn rs (record s { vhost = record s.vhost { rx_driver = d } })
in_rx_driver rs d s area h =
    record { good = h.good; rx_driver = area; tx_driver = h.tx_driver; rx = h.rx; tx = h.tx }

pub in_tx_driver :
    (rs : List Region) (d : Option Books) (s : Side)
    → HasArea rs d → IsIn rs s → IsIn rs (record s { vhost = record s.vhost { tx_driver = d } })
in_tx_driver rs d s area h =
    record { good = h.good; rx_driver = h.rx_driver; tx_driver = area; rx = h.rx; tx = h.tx }

-- a base that is set, or not
none_if_ok :
    (r : Option VhostErr) (made : Result (Unit {0}) VhostErr) (done : Unit {0})
    → made ≡ Ok done → MatchOption r (IsOkUnless made NoMemory) (IsErrOf made) → r ≡ None
none_if_ok None made done is h = refl
none_if_ok (Some e) made done is h = absurd (cc)

pub in_base :
    (rs : List Region) (ring base : ℕ) (s : Side) (new : Device) (made : Result (Unit {0}) VhostErr)
    → MatchOption (base_refusal ring base s.vhost.settings) (IsOkUnless made NoMemory) (IsErrOf made)
    → OnOk made (new ≡ record (device_in s) { settings = with_base ring base s.vhost.settings })
    → OnErr made (new ≡ device_in s)
    → IsIn rs s → IsIn rs (with_device new s)
in_base rs ring base s new (Err e) refused begun unchanged h =
    subst (λ (d : Device). IsIn rs (with_device d s)) (sym unchanged)
    (record { good = h.good; rx_driver = h.rx_driver; tx_driver = h.tx_driver; rx = h.rx; tx = h.tx })
in_base rs ring base s new (Ok done) refused begun unchanged h =
    let none = none_if_ok (base_refusal ring base s.vhost.settings) (Ok done) done refl refused in
    let free = base_free ring base s.vhost.settings none in
    let good = good_stays None (ring == 0) (begins base) (blank rs) s.vhost.settings refl (λ n. free.unbacked) h.good in
    subst (λ (d : Device). IsIn rs (with_device d s)) (sym begun)
    (record { good = good; rx_driver = h.rx_driver; tx_driver = h.tx_driver; rx = h.rx; tx = h.tx })

-- a ring that lies in the regions gets a backend
pub in_backed :
    (ring file : ℕ) (m : Contents) (s : Side)
    → IsGood (ring_at ring s.vhost.settings).queue m
    → IsIn m.regions s → IsIn m.regions (with_settings (with_backend ring file m s.vhost.settings) s)
in_backed ring file m s good h = in_with m.regions _ s (by_side (ring == 0) good h.good) h where
  by_side : (b : Bool)
      → IsGood (ring_of b s.vhost.settings).queue m → BackedAreGood (blank m.regions) s.vhost.settings
      → BackedAreGood (blank m.regions) (with_ring b (backed file m (ring_of b s.vhost.settings)) s.vhost.settings)
  by_side true good all true has = good
  by_side true good all false has = all false has
  by_side false good all true has = all true has
  by_side false good all false has = good
