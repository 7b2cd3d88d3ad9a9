-- This project's own: the replays of all guests, and what the clauses read off them.
use Rattle.std.specs.Prelude.{ℕ, ◌==◌, not, if◌then◌else◌, Bool, false, List, [], ◌∷◌, map, filter, flat_map, Option, Some, None}
use Rattle.std.specs.List.{list_any}
use Rattle.std.specs.Option.{option_map_or}
use Rattle.guest_mem.specs.Regions.{zeroed}
use Rattle.guest_mem.specs.declared.region.Region.{Region}
use Rattle.tap_world.specs.ByNumber.{numbered}
use Rattle.tap_world.specs.Guests.{Vhost, new_vhost}
use Rattle.tap_legal.specs.Numbered.{Asked, OpAt, StepAt}
use Rattle.tap_legal.specs.Case.{Case}
use Rattle.tap_legal.specs.Replay.{Accepted, Began, Packet, Replay, Unset}
use Rattle.tap_legal.specs.ReplayTurns.{replay}
use Rattle.tap_legal.specs.Served.{makes_worker, setter_of}

-- ---- the replays

-- the vhosts of a guest, as they begin
abbrev pub vhosts_on : ℕ → List (Option ℕ) → List (Option Vhost)
vhosts_on guest [] = []
vhosts_on guest (g ∷ gs) =
    option_map_or (λ x. if x == guest then Some (new_vhost x) else None) g None ∷ vhosts_on guest gs

abbrev pub fresh : Case → ℕ → List Region → Replay
fresh c guest regions = record {
  memory = zeroed regions;
  vhosts = vhosts_on guest c.setup.vhosts;
  under = [];
  packets = [];
  accepted = [];
  turns = [];
  unsets = [];
  finished = [];
  fails = [];
  broken = false;
}

-- the replay of each guest
abbrev pub Replays : Type 0
Replays = List (ℕ × Replay)

abbrev pub replay_of : Case → ℕ × List Region → ℕ × Replay
replay_of c g = (g.0, replay c (filter (λ (s : StepAt). s.guest == g.0) c.steps) (fresh c g.0 g.1))

abbrev pub replays : Case → Replays
replays c = map (replay_of c) (numbered 0 c.setup.guests)

-- no step broke a replay
abbrev pub is_whole : Replays → Bool
is_whole rs = not (list_any (λ (r : ℕ × Replay). r.1.broken) rs)

-- the turn of a command, as it began, and the header's size of its vhost
abbrev pub begun_by : ℕ → Replays → List Began
begun_by command rs = flat_map (λ (r : ℕ × Replay). filter (λ (t : Began). t.command == command) r.1.turns) rs

abbrev pub headers_of : ℕ → Replays → List ℕ
headers_of command rs = map (λ (t : Began). t.header) (begun_by command rs)

-- the unset of a command
abbrev pub unset_by : ℕ → Replays → List Unset
unset_by command rs = flat_map (λ (r : ℕ × Replay). filter (λ (u : Unset). u.command == command) r.1.unsets) rs

-- the turn was replayed to its end
abbrev pub was_replayed : ℕ → Replays → Bool
was_replayed command rs = list_any (λ (r : ℕ × Replay). list_any (λ n. n == command) r.1.finished) rs

-- the hashes of the flows of the frames that it accepted, in order
abbrev pub flows_of : ℕ → Replays → List ℕ
flows_of command rs =
    flat_map (λ (r : ℕ × Replay). map (λ (a : Accepted). a.flow)
    (filter (λ (a : Accepted). a.command == command) r.1.accepted)) rs

-- the packets of the turns that serve what a `backend` command set
abbrev pub is_set_by : Case → ℕ → Packet → Bool
is_set_by c command p = option_map_or (λ (a : Asked). a.told.command == command) (setter_of c p.command) false

abbrev pub packets_under : Case → Replays → ℕ → List Packet
packets_under c rs command = flat_map (λ (r : ℕ × Replay). filter (is_set_by c command) r.1.packets) rs

-- the packets on a file: it has one worker at a time, so they follow the operations that made one of a vhost
abbrev pub packets_of : Case → ℕ → Replays → List Packet
packets_of c file rs =
    flat_map (λ (o : OpAt). packets_under c rs o.at.command) (filter (λ (o : OpAt). makes_worker file o.op) c.ops)
