-- This project's own: the file that a turn serves, by the acts.
use Rattle.std.specs.Prelude.{◌≡◌, ℕ, true, is_some, List, Option, None, option_and_then}
use Rattle.vhost_dev.specs.Settings.{ring_at}
use Rattle.tap_world.specs.ByNumber.{at}
use Rattle.tap_world.specs.Guests.{Vhost}
use Rattle.tap_sights.specs.Acts.{Act, Done}
use Rattle.tap_sights.specs.Sight.{In}

-- the file that a ring has
abbrev pub file_on : ℕ × ℕ → List (Option Vhost) → Option ℕ
file_on ring vs = option_and_then (λ (v : Vhost). (ring_at ring.1 v.settings).file) (at vs ring.0)

-- an act prints the first step of its command
pub record IsFirstStep (before : List (Act × Done)) (d : Act × Done) : Type 0 where
  pub prints : is_some d.1.step ≡ true
  pub first : (e : Act × Done) → In e before → e.0.told.command ≡ d.0.told.command → e.1.step ≡ None
