-- This project's own: Drive of a backend, without the world around it.
use Rattle.std.specs.Prelude.{ℕ, ◌&&◌, true, false, Option, Some, None, is_none, option_map, if◌then◌else◌}
use Rattle.guest_mem.specs.Memory.{Contents}
use Rattle.tap_frame.specs.declared.shape.Shape.{Shape}
use Rattle.tap_ledger.specs.declared.error.TapErr.{TapErr as TapText}
use Rattle.tap_trace.specs.declared.answer.Answer.{Answer}
use Rattle.tap_trace.specs.declared.answer.Answer.TheVariants as answer
use Rattle.tap_trace.specs.declared.kind.Kind.TheVariants as kind
use Rattle.vhost_dev.specs.Calls.{with_backend, without_backend}
use Rattle.vhost_dev.specs.Refusals.{number_refusal, ready_refusal}
use Rattle.vhost_dev.specs.Settings.{ring_at}
use Rattle.tap_world.specs.Frames.{Front}
use Rattle.tap_world.specs.Guests.{Vhost, is_ring, with_turn}
use Rattle.tap_world.specs.StepBackend.{back_answer, refused_by, unfit_for}
use Rattle.tap_world.specs.StepControl.{on_ring}
use Rattle.tap_guests.specs.declared.backs.Backed.{Backed}
use Rattle.tap_guests.specs.declared.backs.Backed.TheVariants.{Ends, Goes}

-- what Drive of a backend makes: the vhost, and how the command goes on
abbrev pub Driven : Type 0
Driven = Vhost × Backed

-- it ends, and gives back the ring's turn, which it holds where the table didn't refuse it
abbrev pub back_ends : ℕ → Option TapText → Vhost → Backed → Driven
back_ends ring refusal v how = (if is_ring ring && is_none refusal then with_turn ring None v else v, how)

-- a backend is set, or the command ends with this answer
abbrev pub sets_back : ℕ → ℕ → ℕ → Option TapText → Vhost → Contents → Option Answer → Driven
sets_back vhost ring file refusal v m (Some x) =
    back_ends ring refusal v (Ends x (on_ring ring (kind.Backend vhost ring false)))
sets_back vhost ring file refusal v m None =
    (record v { settings = with_backend ring file m v.settings }, Goes file (kind.Backend vhost ring true))

-- a backend is unset, if the ring has one; else the command ends
abbrev pub unsets_back : ℕ → ℕ → Vhost → Option Answer → Option ℕ → Driven
unsets_back vhost ring v (Some x) file = back_ends ring None v (Ends x None)
unsets_back vhost ring v None None =
    back_ends ring None v (Ends answer.Done (Some (kind.Backend vhost ring false)))
unsets_back vhost ring v None (Some file) =
    (record v { settings = without_backend ring v.settings }, Goes file (kind.Backend vhost ring true))

-- Drive of a backend that is set, where the table refused it so or not, and the frames of its file have this in front;
-- and of one that is unset. None where a refusal has no words.
abbrev pub set_call : ℕ → ℕ → ℕ → Option TapText → Option Front → Vhost → Contents → Option Driven
set_call vhost ring file refusal front v m = option_map (sets_back vhost ring file refusal v m)
    (back_answer (ready_refusal ring m v.settings) refusal (unfit_for front v.settings))

abbrev pub unset_call : ℕ → ℕ → Vhost → Option Driven
unset_call vhost ring v =
    option_map (λ told. unsets_back vhost ring v told (ring_at ring v.settings).file) (refused_by (number_refusal ring))

-- what stands in front of frames of a shape
abbrev pub front_of : Shape → Front
front_of shape = (shape.pi, shape.hdr)
