-- This project's own, after Linux's vhost: why a control call is refused, the first reason first.
use Rattle.std.specs.Prelude.{ℕ, ◌%◌, Bool, not, ◌&&◌, ◌||◌, ◌==◌, nat_lt, nat_le, [], ◌∷◌, Option, is_some, unwrap_or}
use Rattle.std.specs.Int.{is_power_of_two}
use Rattle.guest_mem.specs.Memory.{Contents, covers}
use Rattle.vring_split.specs.declared.layout.Layout.{Layout}
use Rattle.vring_split.specs.Split.{desc_len, avail_len, used_len}
use Rattle.vhost_dev.specs.declared.error.VhostErr.{VhostErr}
use Rattle.vhost_dev.specs.declared.error.VhostErr.TheVariants.{EINVAL, EBUSY, EFAULT, ENOBUFS, EHDR, ENOTSUP}
use Rattle.vhost_dev.specs.Settings.{RingSettings, Settings, ring_at, asks_more, hdr_of}
use Rattle.tap_ground.specs.Options.{first_that_holds as first_reason}

-- Reasons.

-- there is no ring of a number
abbrev pub is_no_ring : ℕ → Bool
is_no_ring ring = nat_le 2 ring

-- a ring has a backend
abbrev pub is_backed : RingSettings → Bool
is_backed r = is_some r.file

-- 2.7: a number is no queue size
abbrev pub is_bad_size : ℕ → Bool
is_bad_size num = not (is_power_of_two num) || nat_lt 65535 num

-- a number is no position
abbrev pub is_bad_position : ℕ → Bool
is_bad_position base = nat_lt 65535 base

-- 2.7: the parts of a ring don't start at multiples of 16, 2 and 4
abbrev pub is_unaligned : ℕ → ℕ → ℕ → Bool
is_unaligned desc avail used = not (desc % 16 == 0 && avail % 2 == 0 && used % 4 == 0)

-- a part of a ring, with this queue size and these addresses, isn't in the memory
abbrev pub is_outside : ℕ → ℕ → ℕ → ℕ → Contents → Bool
is_outside num desc avail used m =
    not (covers m.regions desc (desc_len num) && covers m.regions avail (avail_len num)
    && covers m.regions used (used_len num))

-- a part of a ring, as it is laid out, isn't in the memory
abbrev pub is_astray : Layout → Contents → Bool
is_astray l m = is_outside l.num l.desc l.avail l.used m

-- Refusals of the calls.

-- of features: a backend of either ring, or a bit that isn't offered
abbrev pub features_refusal : ℕ → Settings → Option VhostErr
features_refusal bits s = first_reason
    ((is_backed s.rx || is_backed s.tx, EBUSY) ∷ (asks_more bits, ENOTSUP) ∷ [])

-- of a queue size
abbrev pub num_refusal : ℕ → ℕ → Settings → Option VhostErr
num_refusal ring num s = first_reason
    ((is_no_ring ring, ENOBUFS) ∷ (is_backed (ring_at ring s), EBUSY) ∷ (is_bad_size num, EINVAL) ∷ [])

-- of a base
abbrev pub base_refusal : ℕ → ℕ → Settings → Option VhostErr
base_refusal ring base s = first_reason
    ((is_no_ring ring, ENOBUFS) ∷ (is_backed (ring_at ring s), EBUSY) ∷ (is_bad_position base, EINVAL) ∷ [])

-- of addresses, which are looked at with the queue size of the moment
abbrev pub addr_refusal : ℕ → ℕ → ℕ → ℕ → Contents → Settings → Option VhostErr
addr_refusal ring desc avail used m s = first_reason
    ((is_no_ring ring, ENOBUFS) ∷ (is_backed (ring_at ring s), EBUSY) ∷ (is_unaligned desc avail used, EINVAL)
    ∷ (is_outside (ring_at ring s).queue.layout.num desc avail used m, EFAULT) ∷ [])

-- of a backend
abbrev pub ready_refusal : ℕ → Contents → Settings → Option VhostErr
ready_refusal ring m s = first_reason
    ((is_no_ring ring, ENOBUFS) ∷ (is_backed (ring_at ring s), EBUSY)
    ∷ (is_astray (ring_at ring s).queue.layout m, EFAULT) ∷ [])

-- of a call that needs a ring and nothing else
abbrev pub number_refusal : ℕ → Option VhostErr
number_refusal ring = first_reason ((is_no_ring ring, ENOBUFS) ∷ [])

-- a file whose frames have packet information in front, or a header of another size; one without a header counts as
-- one of size 0
abbrev pub fits_refusal : Bool × Option ℕ → Settings → Option VhostErr
fits_refusal shape s =
    let have = unwrap_or shape.1 0 in
    first_reason ((shape.0 || not (have == hdr_of s), EHDR (hdr_of s) have) ∷ [])
