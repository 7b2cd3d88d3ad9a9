use Rattle.std.proofs.Common.{◌≡◌, take}
use Rattle.std.specs.List.{flat_map}
use Rattle.tap_world.specs.ByNumber.{numbered}
use Rattle.tap_world.specs.Project.{ring_parts}
use Rattle.tap_told.specs.Needs.{vhosts_of}
use Rattle.tap_told.proofs.rings.ring_parts.Given as goal

abbrev pub invariant-loop-vhost : goal.invariant-loop-vhost
invariant-loop-vhost l = l.parts ≡ flat_map ring_parts (numbered 0 (vhosts_of (take l.vhost l.sides)))
