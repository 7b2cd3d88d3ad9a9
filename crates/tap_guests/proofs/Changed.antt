-- What a queue size or addresses that are set leave of a vhost.
use Rattle.std.proofs.Common.{ℕ, ◌==◌, List, refl}
use Rattle.guest_mem.specs.Memory.{Contents}
use Rattle.guest_mem.specs.declared.region.Region.{Region}
use Rattle.vhost_dev.specs.Calls.{placed, resized, set_addr, set_num}
use Rattle.vhost_dev.specs.Refusals.{addr_refusal, num_refusal}
use Rattle.tap_guests.specs.Calls.{IsUnserved}
use Rattle.tap_guests.specs.Side.{IsSide, Side}
use Rattle.tap_guests.specs.Within.{IsIn, blank}
use Rattle.tap_guests.proofs.Answered.{addr_free, num_free}
use Rattle.tap_guests.proofs.Area.{good_stays, in_with}
use Rattle.tap_guests.proofs.Rings.{one_ring, with_settings}

pub num_side :
    (ring num : ℕ) (s : Side)
    → IsUnserved ring s → IsSide s → IsSide (with_settings (set_num ring num s.vhost.settings).settings s)
num_side ring num s free h =
    one_ring (num_refusal ring num s.vhost.settings) (ring == 0) (resized num) s
    (λ n. free (num_free ring num s.vhost.settings n).there) (λ i. i) h

pub num_in :
    (ring num : ℕ) (rs : List Region) (s : Side)
    → IsIn rs s → IsIn rs (with_settings (set_num ring num s.vhost.settings).settings s)
num_in ring num rs s h =
    in_with rs _ s
    (good_stays (num_refusal ring num s.vhost.settings) (ring == 0) (resized num) (blank rs) s.vhost.settings refl
    (λ n. (num_free ring num s.vhost.settings n).unbacked) h.good) h

pub addr_side :
    (ring desc avail used : ℕ) (m : Contents) (s : Side)
    → IsUnserved ring s → IsSide s
    → IsSide (with_settings (set_addr ring desc avail used m s.vhost.settings).settings s)
addr_side ring desc avail used m s free h =
    one_ring (addr_refusal ring desc avail used m s.vhost.settings) (ring == 0) (placed desc avail used) s
    (λ n. free (addr_free ring desc avail used m s.vhost.settings n).there) (λ i. i) h

pub addr_in :
    (ring desc avail used : ℕ) (m : Contents) (rs : List Region) (s : Side)
    → IsIn rs s → IsIn rs (with_settings (set_addr ring desc avail used m s.vhost.settings).settings s)
addr_in ring desc avail used m rs s h =
    in_with rs _ s
    (good_stays (addr_refusal ring desc avail used m s.vhost.settings) (ring == 0) (placed desc avail used) (blank rs)
    s.vhost.settings refl (λ n. (addr_free ring desc avail used m s.vhost.settings n).unbacked) h.good) h
