-- This project's own: the world that the parts of a finished world make.
use Rattle.std.specs.Prelude.{List, [], Option, None}
use Rattle.tap_world.specs.Guests.{Guest, Vhost}
use Rattle.tap_world.specs.Line.{File}
use Rattle.tap_world.specs.World.{World}
use Rattle.tap_world.specs.declared.told.Published.{Published}
use Rattle.tap_world.specs.declared.told.Said.{Said}

-- A world that has these operations, answers, files, guests and vhosts. The other parts of a world aren't told, so they
-- are empty.
abbrev pub told_world :
    List Published → List Said → List (Option File) → List (Option Guest) → List (Option Vhost) → World
told_world ops said files guests vhosts = record {
  ops = ops;
  files = files;
  guests = guests;
  vhosts = vhosts;
  hosted = [];
  dropped = [];
  writer = None;
  phase = 0;
  actors = [];
  said = said;
}
