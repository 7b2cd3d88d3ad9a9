-- This project's own: vhosts with the turn of one ring held or free.
use Rattle.std.specs.Prelude.{ℕ, List, Option}
use Rattle.std.specs.Option.{option_map_or}
use Rattle.tap_guests.specs.Calls.{with_vhost}
use Rattle.tap_guests.specs.Side.{Side}
use Rattle.tap_world.specs.ByNumber.{at, with_at}
use Rattle.tap_world.specs.Guests.{with_turn}

-- somebody holds the turn of a ring of a vhost, or nobody does
abbrev pub turned : ℕ → ℕ → Option ℕ → List (Option Side) → List (Option Side)
turned vhost ring holder vhosts =
    option_map_or (λ v. with_at vhost (with_vhost (with_turn ring holder v.vhost) v) vhosts) (at vhosts vhost) vhosts
