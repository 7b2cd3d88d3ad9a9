-- This project's own: what commands found, in which cases there is something to find.
use Rattle.std.proofs.Common.{◌≡◌, ℕ, List, Bool, true, false, Some, None, sym, true≢false}
use Rattle.scen_words.specs.declared.command.Command.{Command}
use Rattle.scen_words.specs.declared.command.Command.TheVariants as command
use Rattle.tap_steer.specs.Table.{Table}
use Rattle.tap_steer.specs.Select as steer
use Rattle.tap_world.specs.World.{Doing}
use Rattle.tap_world.specs.World.Doing.{Backs, Disowned, Hosts, Learns, Placed, Reads, Released, Routed, Teaches, Unbacked}
use Rattle.tap_world.specs.Steady.{FoundIn}

-- nothing is to be found
abbrev pub finds_nothing : Doing → Bool
finds_nothing (Routed file epoch len) = false
finds_nothing (Placed file place epoch len) = false
finds_nothing (Reads file room front) = false
finds_nothing (Hosts file ether learns) = false
finds_nothing (Learns file ether) = false
finds_nothing (Backs refusal) = false
finds_nothing (Unbacked file) = false
finds_nothing (Disowned file) = false
finds_nothing (Released file) = false
finds_nothing (Teaches file t chains f) = false
finds_nothing e = true

pub nothing_found : (t : Table) (c : Command) (e : Doing) → finds_nothing e ≡ true → FoundIn t c e
nothing_found t (command.Send device hdr bytes) (Routed file epoch len) h = absurd (true≢false (sym h))
nothing_found t (command.Send device hdr bytes) (Placed file place epoch len) h = absurd (true≢false (sym h))
nothing_found t (command.Send device hdr bytes) e h = tt
nothing_found t (command.Read other asked) (Reads file room front) h = absurd (true≢false (sym h))
nothing_found t (command.Read other asked) e h = tt
nothing_found t (command.Write other bytes) (Hosts file ether learns) h = absurd (true≢false (sym h))
nothing_found t (command.Write other bytes) (Learns file ether) h = absurd (true≢false (sym h))
nothing_found t (command.Write other bytes) e h = tt
nothing_found t (command.Backend vhost ring (Some file)) (Backs refusal) h = absurd (true≢false (sym h))
nothing_found t (command.Backend vhost ring (Some file)) e h = tt
nothing_found t (command.Backend vhost ring None) (Backs refusal) h = absurd (true≢false (sym h))
nothing_found t (command.Backend vhost ring None) (Unbacked file) h = absurd (true≢false (sym h))
nothing_found t (command.Backend vhost ring None) (Disowned file) h = absurd (true≢false (sym h))
nothing_found t (command.Backend vhost ring None) (Released file) h = absurd (true≢false (sym h))
nothing_found t (command.Backend vhost ring None) e h = tt
nothing_found t (command.TxTurn vhost) (Teaches file turn chains f) h = absurd (true≢false (sym h))
nothing_found t (command.TxTurn vhost) e h = tt
nothing_found t c e h = tt

-- what was found for a row is so of its place
pub placed_found : (t : Table) (c : Command) (file place epoch len : ℕ) → FoundIn t c (Routed file epoch len)
    → FoundIn t c (Placed file place epoch len)
placed_found t (command.Send device hdr bytes) file place epoch len h = h
placed_found t (command.Backend vhost ring (Some other)) file place epoch len h = tt
placed_found t (command.Backend vhost ring None) file place epoch len h = tt
placed_found t c file place epoch len h = tt

pub learns_found : (t : Table) (c : Command) (file : ℕ) (ether : List ℕ) → FoundIn t c (Hosts file ether true)
    → FoundIn t c (Learns file ether)
learns_found t (command.Write other bytes) file ether h = h
learns_found t (command.Backend vhost ring (Some other)) file ether h = tt
learns_found t (command.Backend vhost ring None) file ether h = tt
learns_found t c file ether h = tt

pub disowned_found : (t : Table) (c : Command) (file : ℕ) → FoundIn t c (Unbacked file) → FoundIn t c (Disowned file)
disowned_found t (command.Backend vhost ring (Some other)) file h = tt
disowned_found t (command.Backend vhost ring None) file h = h
disowned_found t c file h = tt

pub teaches_found : (t : Table) (c : Command) (file : ℕ) (turn : _) (chains : _) (f : _) → steer.learns t file ≡ true
    → FoundIn t c (Teaches file turn chains f)
teaches_found t (command.TxTurn vhost) file turn chains f h = h
teaches_found t (command.Backend vhost ring (Some other)) file turn chains f h = tt
teaches_found t (command.Backend vhost ring None) file turn chains f h = tt
teaches_found t c file turn chains f h = tt
