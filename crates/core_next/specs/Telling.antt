-- This project's own: what a command does next, in any world that has what actors share.
use Rattle.std.specs.Prelude.{◌≡◌, ℕ, List, Option, Bool, IsSome}
use Rattle.scen_words.specs.declared.command.Command.{Command}
use Rattle.tap_ground.specs.Options.{◌>>=◌}
use Rattle.tap_world.specs.declared.event.EventKind.{EventKind}
use Rattle.tap_world.specs.Scripts.{first_kind, next_kind, rx_next_kind, tx_next_kind}
use Rattle.tap_world.specs.Waiting.{may_begin, may_drive, may_go_from}
use Rattle.tap_world.specs.World.{Actor, Doing}
use Rattle.tap_world.specs.declared.told.Said.{Said}
use Rattle.core_shared.specs.Coming.{rx_turn_in, tx_turn_in}
use Rattle.core_shared.specs.Worlds.{world_in}
use Rattle.core_shared.specs.declared.doing.Doing as code
use Rattle.core_shared.specs.declared.doing.Doing.TheVariants as doing
use Rattle.tap_guests.specs.Side.{Side}
use Rattle.core_shared.specs.declared.shared.Shared.{Shared}

-- this is the kind of the next event, whoever the actors are and whatever was answered
abbrev pub IsNextKind : Shared → Doing → Command → Option EventKind → Type 0
IsNextKind x so_far c kind =
    (actors : List Actor) (said : List Said) → next_kind (world_in x actors said) so_far c ≡ kind

-- and so it is told whether the actor may go on
abbrev pub TellsWhoMayGo : Shared → ℕ → Doing → Command → Bool → Type 0
TellsWhoMayGo x actor so_far c may =
    (actors : List Actor) (said : List Said) → may_go_from (world_in x actors said) actor c so_far ≡ may

-- a turn under way has its worker
abbrev pub HasWorker : List (Option Side) → code.Doing → Type 0
HasWorker vhosts (doing.Receives vhost file) = IsSome (rx_turn_in vhosts vhost)
HasWorker vhosts (doing.Transmits vhost file chains) = IsSome (tx_turn_in vhosts vhost)
HasWorker vhosts (doing.Given vhost file chains frame) = IsSome (tx_turn_in vhosts vhost)
HasWorker vhosts (doing.Teaches vhost file chains frame) = IsSome (tx_turn_in vhosts vhost)
HasWorker vhosts other = Unit {0}

-- ---- parts of them

-- this is the kind of a command's first event
abbrev pub IsFirstKind : Shared → Command → EventKind → Type 0
IsFirstKind x c kind = (actors : List Actor) (said : List Said) → first_kind (world_in x actors said) c ≡ kind

-- this is the kind of the next event of a vhost's receive turn on a file; there is none where no worker is there
abbrev pub IsRxNext : Shared → ℕ → ℕ → Option EventKind → Type 0
IsRxNext x vhost file kind =
    (actors : List Actor) (said : List Said)
    → (rx_turn_in x.vhosts vhost >>= λ t. rx_next_kind (world_in x actors said) file t.stage) ≡ kind

-- the kind of the next event of a vhost's transmit turn
abbrev pub tx_next_in : List (Option Side) → ℕ → Option EventKind
tx_next_in vhosts vhost = tx_turn_in vhosts vhost >>= λ t. tx_next_kind t.stage

-- so it is told whether an actor may begin with a command, and whether it may make the call of a backend
abbrev pub TellsWhoMayBegin : Shared → ℕ → Command → Bool → Type 0
TellsWhoMayBegin x actor c may =
    (actors : List Actor) (said : List Said) → may_begin (world_in x actors said) actor c ≡ may

abbrev pub TellsWhoMayDrive : Shared → ℕ → Command → Bool → Type 0
TellsWhoMayDrive x actor c may =
    (actors : List Actor) (said : List Said) → may_drive (world_in x actors said) actor c ≡ may
