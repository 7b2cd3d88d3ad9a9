-- This project's own: the world that actors share.
use Rattle.std.specs.Prelude.{List, Option, map, option_map}
use Rattle.tap_guests.specs.Side.{Side}
use Rattle.tap_lines.specs.Files.{files_of}
use Rattle.tap_world.specs.Guests.{Vhost}
use Rattle.tap_world.specs.World.{Actor, World}
use Rattle.tap_world.specs.declared.told.Said.{Said}
use Rattle.core_shared.specs.declared.shared.Shared.{Shared}

-- vhosts without their workers
abbrev pub vhosts_of : List (Option Side) → List (Option Vhost)
vhosts_of vhosts = map (λ (v : Option Side). option_map (λ (x : Side). x.vhost) v) vhosts

-- the world of these actors and answers
abbrev pub world_in : Shared → List Actor → List Said → World
world_in x actors said = record {
  ops = x.ops.ops;
  files = files_of x.files;
  guests = x.guests;
  vhosts = vhosts_of x.vhosts;
  hosted = x.hosted.items;
  dropped = x.dropped.items;
  writer = x.writer;
  phase = x.phase;
  actors = actors;
  said = said;
}
