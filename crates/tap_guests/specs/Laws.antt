-- This project's own: what a caller needs of a vhost with its workers, and what Drive of a backend is in a world.
use Rattle.std.specs.Prelude.{◌≡◌, ℕ, ◌<◌, ◌==◌, true, false, Option, Some, None, is_none, option_map, if◌then◌else◌}
use Rattle.std.specs.Option.{option_map_or}
use Rattle.guest_mem.specs.Memory.{Contents}
use Rattle.scen_words.specs.declared.command.Command.{Command}
use Rattle.tap_ledger.specs.declared.error.TapErr.{TapErr as TapText}
use Rattle.tap_steer.specs.Select.{shape_of}
use Rattle.tap_world.specs.declared.event.Found.TheVariants as found
use Rattle.tap_world.specs.Effect.{Effect, only}
use Rattle.tap_world.specs.Effect.OnGuests.{NoGuest, OnGuest}
use Rattle.tap_world.specs.Effect.OnVhosts.{OnVhost}
use Rattle.tap_world.specs.Effect.Onward.{Ends, Goes}
use Rattle.tap_world.specs.Guests.{Vhost, is_free, turn_of}
use Rattle.tap_world.specs.Setup.{Setup}
use Rattle.tap_world.specs.StepBackend.{back_call}
use Rattle.tap_world.specs.StepControl.{may_call}
use Rattle.tap_world.specs.World.{Doing, World, table}
use Rattle.tap_world.specs.World.Doing.{Backed, Released, Unbacked}
use Rattle.tap_guests.specs.Backs.{Driven, set_call, unset_call}
use Rattle.tap_guests.specs.Calls.{AskUnserved}
use Rattle.tap_guests.specs.Side.{IsSide, Side, is_served}
use Rattle.tap_guests.specs.declared.backs.Backed.TheVariants as how

-- ---- who meets a worker

-- a ring whose turn is free has no worker
abbrev pub FreeIsUnserved : Type 0
FreeIsUnserved =
    (ring : ℕ) (s : Side) → IsSide s → is_free ring s.vhost ≡ true → is_served ring s ≡ false

-- this one holds no turn of the vhost
abbrev pub HoldsNone : ℕ → Vhost → Type 0
HoldsNone holder v =
    (ring : ℕ) → ring < 2 → option_map_or (λ other. other == holder) (turn_of ring v) false ≡ false

-- so one that holds no turn itself, and may call, meets no worker
abbrev pub CallersMeetNone : Type 0
CallersMeetNone =
    (holder : ℕ) (c : Command) (s : Side)
    → IsSide s → HoldsNone holder s.vhost → may_call holder c s.vhost ≡ true → AskUnserved c s

-- ---- Drive of a backend in a world

-- what it makes of a world: the step, the vhost, and how the command goes on; one that ends gives back the writer,
-- which it holds where the table didn't refuse it
abbrev pub back_effect :
    (ℕ → Doing) → World → ℕ → ℕ → Option TapText → Vhost → Contents → Driven → Effect
back_effect doing w seen vhost refusal v m (v', how.Ends x step) = record (only (Ends seen x) w) {
  guests = option_map_or (λ k. OnGuest v.guest m (Some k)) step NoGuest;
  vhosts = OnVhost vhost v';
  writer = if is_none refusal then None else w.writer;
}
back_effect doing w seen vhost refusal v m (v', how.Goes file step) =
    record (only (Goes seen (doing file) (found.Step step)) w) {
      guests = OnGuest v.guest m (Some step);
      vhosts = OnVhost vhost v';
    }

-- how a command goes on that unset a backend: one of a ring that receives gives its file back
abbrev pub unset_doing : ℕ → ℕ → Doing
unset_doing ring file = if ring == 0 then Unbacked file else Released file

abbrev pub SetsInWorld : Type 0
SetsInWorld =
    (s : Setup) (w : World) (actor seen vhost ring file : ℕ) (refusal : Option TapText) (v : Vhost) (m : Contents)
    → back_call s w actor seen refusal vhost ring (Some file) v m
    ≡ option_map (back_effect Backed w seen vhost refusal v m)
    (set_call vhost ring file refusal (shape_of (table s w) file) v m)

abbrev pub UnsetsInWorld : Type 0
UnsetsInWorld =
    (s : Setup) (w : World) (actor seen vhost ring : ℕ) (refusal : Option TapText) (v : Vhost) (m : Contents)
    → back_call s w actor seen refusal vhost ring None v m
    ≡ option_map (back_effect (unset_doing ring) w seen vhost None v m) (unset_call vhost ring v)
