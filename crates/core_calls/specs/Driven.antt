-- This project's own: a command on a backend holds what it needs, and its call.
use Rattle.std.specs.Prelude.{◌≡◌, ℕ, ◌==◌, ◌++◌, List, Option, Some, None, if◌then◌else◌, option_map, option_to_list}
use Rattle.std.specs.Option.{option_map_or}
use Rattle.guest_mem.specs.Memory.{Contents}
use Rattle.tap_guests.specs.Backs.{Driven, set_call, unset_call}
use Rattle.tap_guests.specs.Calls.{IsUnserved, with_vhost}
use Rattle.tap_guests.specs.Side.{Side}
use Rattle.tap_guests.specs.Steps.{step_by}
use Rattle.tap_guests.specs.Within.{IsIn}
use Rattle.tap_guests.specs.declared.backs.Backed.{Backed}
use Rattle.tap_ledger.specs.declared.error.TapErr.{TapErr}
use Rattle.tap_steer.specs.Select.{shape_of}
use Rattle.tap_steer.specs.Table.{Table}
use Rattle.tap_trace.specs.declared.kind.Kind.{Kind}
use Rattle.tap_world.specs.ByNumber.{at, with_at}
use Rattle.tap_world.specs.Guests.{Guest, Vhost, is_ring}
use Rattle.core_shared.specs.declared.doing.Doing.{Doing}
use Rattle.core_shared.specs.declared.doing.Doing.TheVariants as doing
use Rattle.core_shared.specs.declared.shared.Shared.{Shared}
use Rattle.core_calls.specs.Turned.{turned}

-- ---- the look

-- an actor holds the writer and a ring's turn, where there is such a ring, unless the table refused it so
abbrev pub holding : Option TapErr → ℕ → ℕ → ℕ → Shared → Shared
holding (Some refusal) actor vhost ring x = x
holding None actor vhost ring x = record x {
  vhosts = if is_ring ring then turned vhost ring (Some actor) x.vhosts else x.vhosts;
  writer = Some actor;
}

-- ---- the call

-- the call of a command that sets a file, or unsets one
abbrev pub back_made : Table → ℕ → ℕ → Option ℕ → Option TapErr → Vhost → Contents → Option Driven
back_made t vhost ring (Some file) refusal v m = set_call vhost ring file refusal (shape_of t file) v m
back_made t vhost ring None refusal v m = unset_call vhost ring v

-- The vhost is there, and its guest, whose memory it lies in; and no worker serves the ring.
pub record MayDrive (vhost ring : ℕ) (x : Shared) : Type 0 where
  pub side : Side
  pub guest : Guest
  pub is_vhost : at x.vhosts vhost ≡ Some side
  pub is_guest : at x.guests side.vhost.guest ≡ Some guest
  pub unserved : IsUnserved ring side
  pub within : IsIn guest.memory.regions side

-- The call was made, and answered so: of all that is shared, the vhost alone changed, and not its workers.
pub record HasDriven (vhost ring : ℕ) (file : Option ℕ) (refusal : Option TapErr) (old new : Shared) (b : Backed) : Type 0
  where
    pub before : Side
    pub after : Side
    pub guest : Guest
    pub is_vhost : at old.vhosts vhost ≡ Some before
    pub is_guest : at old.guests before.vhost.guest ≡ Some guest
    pub call : back_made old.ops.table vhost ring file refusal before.vhost guest.memory ≡ Some (after.vhost, b)
    pub only : after ≡ with_vhost after.vhost before
    pub within : IsIn guest.memory.regions after
    pub shared : new ≡ record old { vhosts = with_at vhost after old.vhosts }

-- ---- behind the call

-- the step of a command on a guest is told, if it made one
abbrev pub told : ℕ → ℕ → ℕ → Option Kind → List (Option Guest) → List (Option Guest)
told guest actor command step guests =
    option_map_or
    (λ (g : Guest). with_at guest
    (record g { steps = g.steps ++ option_to_list (option_map (step_by actor command) step) }) guests)
    (at guests guest) guests

-- how far a command has come that set this file as a backend, or unset it
abbrev pub come_to : ℕ → ℕ → Option ℕ → ℕ → Doing
come_to vhost ring (Some asked) file = doing.Backed vhost ring file
come_to vhost ring None file = if ring == 0 then doing.Unbacked vhost file else doing.Released vhost file
