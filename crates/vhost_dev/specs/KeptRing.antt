-- This project's own: how a ring of a device is kept, and what is asked of it.
use Rattle.std.specs.Prelude.{ℕ, [], ◌∷◌, Option}
use Rattle.guest_mem.specs.Memory.{Contents}
use Rattle.vhost_queue.specs.Queue.{Reserved}
use Rattle.vhost_dev.specs.declared.error.VhostErr.{VhostErr}
use Rattle.vhost_dev.specs.declared.error.VhostErr.TheVariants.{EINVAL, EBUSY, EFAULT}
use Rattle.vhost_dev.specs.Settings.{RingSettings}
use Rattle.tap_ground.specs.Options.{first_that_holds as first_reason}
use Rattle.vhost_dev.specs.Refusals.{is_backed, is_bad_size, is_bad_position, is_unaligned, is_outside, is_astray}

-- a ring's settings, and how many places for published chains are reserved
pub record KeptRing : Type 0 where
  pub ring : RingSettings
  pub reserved : ℕ

-- its queue
abbrev pub vq_of : KeptRing → Reserved
vq_of k = record { queue = k.ring.queue; reserved = k.reserved }

-- the ring with another queue
abbrev pub with_vq : KeptRing → Reserved → KeptRing
with_vq k q = record { ring = record k.ring { queue = q.queue }; reserved = q.reserved }

-- The refusals of calls on a ring that there is.

-- of another queue size
abbrev pub resize_refusal : ℕ → RingSettings → Option VhostErr
resize_refusal num r = first_reason ((is_backed r, EBUSY) ∷ (is_bad_size num, EINVAL) ∷ [])

-- of a list of positions that begins
abbrev pub begin_refusal : ℕ → RingSettings → Option VhostErr
begin_refusal base r = first_reason ((is_backed r, EBUSY) ∷ (is_bad_position base, EINVAL) ∷ [])

-- of other addresses
abbrev pub place_refusal : ℕ → ℕ → ℕ → Contents → RingSettings → Option VhostErr
place_refusal desc avail used m r = first_reason
    ((is_backed r, EBUSY) ∷ (is_unaligned desc avail used, EINVAL)
    ∷ (is_outside r.queue.layout.num desc avail used m, EFAULT) ∷ [])

-- of a backend
abbrev pub back_refusal : Contents → RingSettings → Option VhostErr
back_refusal m r = first_reason ((is_backed r, EBUSY) ∷ (is_astray r.queue.layout m, EFAULT) ∷ [])
