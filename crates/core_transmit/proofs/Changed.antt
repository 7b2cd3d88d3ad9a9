-- This project's own: what is there after a vhost and the memory of its guest changed.
use Rattle.std.proofs.Common.{◌≡◌, ℕ, Some, ap, ◌∙◌}
use Rattle.guest_mem.specs.Memory.{Contents}
use Rattle.tap_guests.specs.Lending.{with_memory}
use Rattle.tap_guests.specs.Side.{Side}
use Rattle.tap_world.specs.ByNumber.{at, with_at}
use Rattle.core_shared.specs.declared.shared.Shared.{Shared}
use Rattle.core_shared.proofs.Kit.{with_at_here}
use Rattle.core_transmit.specs.Stepping.{IsThere, OnVhost}

module _ {vhost : ℕ} {Way : Side → Contents → Side → Contents → Type 0} {x mid : Shared} (v : OnVhost vhost Way x mid) where
  pub after_at : at mid.vhosts vhost ≡ Some v.after
  after_at = ap (λ (s : Shared). at s.vhosts vhost) v.left ∙ with_at_here vhost v.after v.before x.vhosts v.is_before

  guest_at : v.after.vhost.guest ≡ v.before.vhost.guest
      → at mid.guests v.after.vhost.guest ≡ Some (with_memory v.guest v.memory)
  guest_at same =
      ap (λ (s : Shared). at s.guests v.after.vhost.guest) v.left
      ∙ ap (λ (n : ℕ). at (with_at v.before.vhost.guest (with_memory v.guest v.memory) x.guests) n) same
      ∙ with_at_here v.before.vhost.guest (with_memory v.guest v.memory) v.guest x.guests v.is_guest

  pub after_there : v.after.vhost.guest ≡ v.before.vhost.guest → IsThere vhost mid
  after_there same = record {
    side = v.after;
    guest = with_memory v.guest v.memory;
    is_side = after_at;
    is_guest = guest_at same;
    within = v.within;
  }
