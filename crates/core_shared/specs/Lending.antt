-- This project's own: a guest and a vhost that are lent out of all of them.
use Rattle.std.specs.Prelude.{ℕ, List, Option}
use Rattle.std.specs.Borrow.{Fml, Lends, MutBor}
use Rattle.tap_guests.specs.contracts.guest.GuestMem as guest
use Rattle.tap_guests.specs.contracts.side.VhostSide as side
use Rattle.tap_guests.specs.Side.{Side}
use Rattle.tap_world.specs.ByNumber.{with_at}
use Rattle.tap_world.specs.Guests.{Guest}
use Rattle.core_shared.specs.contracts.guests.Guests as guests
use Rattle.core_shared.specs.contracts.vhosts.Vhosts as vhosts

-- r lends the guest of a number: what is last left there stands in its place, and all else stays
abbrev pub LendsGuest : MutBor (List (Option Guest)) → ℕ → MutBor Guest → Fml
LendsGuest s number r = Lends guests.the_row guest.the_row s r (λ g. with_at number g s.now)

-- r lends the vhost of a number
abbrev pub LendsVhost : MutBor (List (Option Side)) → ℕ → MutBor Side → Fml
LendsVhost s number r = Lends vhosts.the_row side.the_row s r (λ v. with_at number v s.now)
