-- This project's own: how far a command has come, in the words of the world. A turn under way is that of its ring's
-- worker.
use Rattle.std.specs.Prelude.{ℕ, List, Option, option_map}
use Rattle.std.specs.Option.{option_map_or}
use Rattle.tap_guests.specs.Backs.{front_of}
use Rattle.tap_guests.specs.Side.{Side}
use Rattle.tap_ground.specs.Options.{◌>>=◌}
use Rattle.tap_world.specs.ByNumber.{at}
use Rattle.tap_world.specs.Effect as world
use Rattle.tap_world.specs.World as come
use Rattle.tap_world.specs.World.{HostFrame}
use Rattle.vring_turns.specs.RxTurn.{RxTurn}
use Rattle.vring_turns.specs.TxTurn.{TxTurn}
use Rattle.core_shared.specs.declared.doing.Doing.{Doing}
use Rattle.core_shared.specs.declared.doing.Doing.TheVariants as doing
use Rattle.core_shared.specs.declared.doing.GivenFrame.{GivenFrame}
use Rattle.core_shared.specs.declared.onward.Onward.{Onward}
use Rattle.core_shared.specs.declared.onward.Onward.TheVariants as on

-- the turn under way on a vhost's receive ring, and on its transmit ring
abbrev pub rx_turn_in : List (Option Side) → ℕ → Option RxTurn
rx_turn_in vhosts vhost = do
  v ← at vhosts vhost
  option_map (λ w. w.turn) v.rx

abbrev pub tx_turn_in : List (Option Side) → ℕ → Option TxTurn
tx_turn_in vhosts vhost = do
  v ← at vhosts vhost
  option_map (λ w. w.turn) v.tx

-- a frame that the host has
abbrev pub host_frame : GivenFrame → HostFrame
host_frame f = record { name = f.name; flow = f.flow }

-- a command at a turn; where no worker is there it has come nowhere
abbrev pub at_rx : List (Option Side) → ℕ → (RxTurn → come.Doing) → come.Doing
at_rx vhosts vhost so_far = option_map_or so_far (rx_turn_in vhosts vhost) come.Doing.Begun

abbrev pub at_tx : List (Option Side) → ℕ → (TxTurn → come.Doing) → come.Doing
at_tx vhosts vhost so_far = option_map_or so_far (tx_turn_in vhosts vhost) come.Doing.Begun

-- how far a command has come
abbrev pub come_of : List (Option Side) → Doing → come.Doing
come_of vhosts doing.Begun = come.Doing.Begun
come_of vhosts (doing.Changes op) = come.Doing.Changes
come_of vhosts (doing.Opens file op) = come.Doing.Opens file
come_of vhosts (doing.Opened file op) = come.Doing.Opened file
come_of vhosts (doing.Withdraws file op) = come.Doing.Withdraws file
come_of vhosts (doing.Withdrawn file version) = come.Doing.Withdrawn file version
come_of vhosts (doing.Purges file version) = come.Doing.Purges file version
come_of vhosts (doing.Resizes file capacity) = come.Doing.Resizes file capacity
come_of vhosts (doing.Shrinks file capacity places cuts) = come.Doing.Shrinks file places cuts
come_of vhosts (doing.Routed file epoch frame) = come.Doing.Routed file epoch frame.mark
come_of vhosts (doing.Placed file place epoch frame) = come.Doing.Placed file place epoch frame.mark
come_of vhosts (doing.Reads file room shape) = come.Doing.Reads file room (front_of shape)
come_of vhosts (doing.Hosts file frame learns) = come.Doing.Hosts file frame.made learns
come_of vhosts (doing.Learns file frame) = come.Doing.Learns file frame.made
come_of vhosts (doing.Backs vhost ring file refusal) = come.Doing.Backs refusal
come_of vhosts (doing.Backed vhost ring file) = come.Doing.Backed file
come_of vhosts (doing.Owns vhost file version) = come.Doing.Owns file version
come_of vhosts (doing.Unbacked vhost file) = come.Doing.Unbacked file
come_of vhosts (doing.Disowned vhost file) = come.Doing.Disowned file
come_of vhosts (doing.Released vhost file) = come.Doing.Released file
come_of vhosts (doing.Receives vhost file) = at_rx vhosts vhost (come.Doing.Receives file)
come_of vhosts (doing.Transmits vhost file chains) = at_tx vhosts vhost (λ t. come.Doing.Transmits file t chains.items)
come_of vhosts (doing.Given vhost file chains frame) =
    at_tx vhosts vhost (λ t. come.Doing.Given file t chains.items (host_frame frame))
come_of vhosts (doing.Teaches vhost file chains frame) =
    at_tx vhosts vhost (λ t. come.Doing.Teaches file t chains.items (host_frame frame))

-- how a command goes on
abbrev pub onward_of : List (Option Side) → Onward → world.Onward
onward_of vhosts (on.Goes seen d found) = world.Onward.Goes seen (come_of vhosts d) found
onward_of vhosts (on.Ends seen answer) = world.Onward.Ends seen answer

-- a command that stays as it was goes on as far as it had come, having seen what it had seen
abbrev pub written_out : ℕ → come.Doing → world.Onward → world.Onward
written_out seen so_far (world.Onward.Goes now d found) = world.Onward.Goes now d found
written_out seen so_far (world.Onward.Ends now answer) = world.Onward.Ends now answer
written_out seen so_far (world.Onward.Stays found) = world.Onward.Goes seen so_far found
