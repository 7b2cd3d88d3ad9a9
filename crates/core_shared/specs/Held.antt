-- This project's own: what always holds of what actors share.
use Rattle.std.specs.Prelude.{◌≡◌, ℕ, Some, IfSome, slice_get}
use Rattle.tap_frame.specs.Frame.{FrameValue}
use Rattle.tap_guests.specs.Side.{Side}
use Rattle.tap_guests.specs.Within.{IsIn}
use Rattle.tap_lines.specs.Placed.{Placed}
use Rattle.tap_lines.specs.Told.{BeganAt}
use Rattle.tap_world.specs.ByNumber.{at}
use Rattle.tap_world.specs.Setup.{Setup, opening_table}
use Rattle.core_shared.specs.Suiting.{IsSent}
use Rattle.core_shared.specs.declared.shared.Shared.{Shared}

-- The table is that of the operations; each frame of a file is the one that was sent under its name; and each vhost lies
-- in the regions of its guest's memory.
pub record IsHeld (s : Setup) (x : Shared) : Type 0 where
  pub table : BeganAt (opening_table s) x.ops
  pub frames : (file i : ℕ) (p : Placed) (frame : FrameValue) → at x.files file ≡ Some p
      → slice_get p.frames i ≡ Some (Some frame) → IsSent s frame
  pub vhosts : (vhost : ℕ) (v : Side) → at x.vhosts vhost ≡ Some v
      → IfSome (at x.guests v.vhost.guest) (λ g. IsIn g.memory.regions v)
