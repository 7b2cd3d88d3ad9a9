-- This project's own: what is next of a turn that has its worker.
use Rattle.std.proofs.Common.{◌≡◌, ℕ, List, Option, Some, None, true≢false, sym}
use Rattle.std.specs.Prelude.{IsSome}
use Rattle.std.specs.Option.{option_map_or}
use Rattle.scen_words.specs.declared.command.Command.{Command}
use Rattle.tap_ground.specs.Options.{◌>>=◌}
use Rattle.tap_world.specs.declared.event.EventKind.{EventKind}
use Rattle.tap_world.specs.declared.told.Said.{Said}
use Rattle.tap_world.specs.Scripts.{next_kind, rx_next_kind}
use Rattle.tap_world.specs.World as come
use Rattle.tap_world.specs.World.{Actor}
use Rattle.vring_turns.specs.RxTurn.{RxTurn}
use Rattle.core_shared.specs.Coming.{come_of, rx_turn_in}
use Rattle.core_shared.specs.Worlds.{world_in}
use Rattle.core_shared.specs.declared.doing.Doing.TheVariants as doing
use Rattle.core_shared.specs.declared.shared.Shared.{Shared}
use Rattle.core_next.specs.Telling.{IsNextKind, IsRxNext}

at_turn : (x : Shared) (file : ℕ) (c : Command) (kind : Option EventKind) (actors : List Actor) (said : List Said) (o : Option RxTurn) → IsSome o
    → (o >>= λ t. rx_next_kind (world_in x actors said) file t.stage) ≡ kind
    → next_kind (world_in x actors said) (option_map_or (come.Doing.Receives file) o come.Doing.Begun) c ≡ kind
at_turn x file c kind actors said None there next = absurd (true≢false (sym there))
at_turn x file c kind actors said (Some t) there next = next

pub receives : (x : Shared) (vhost file : ℕ) (c : Command) (kind : Option EventKind) → IsSome (rx_turn_in x.vhosts vhost) → IsRxNext x vhost file kind
    → IsNextKind x (come_of x.vhosts (doing.Receives vhost file)) c kind
receives x vhost file c kind there next actors said =
    at_turn x file c kind actors said (rx_turn_in x.vhosts vhost) there (next actors said)
