use Rattle.std.proofs.Common.{Option}
use Rattle.std.specs.Prelude.{option_map}
use Rattle.tap_guests.specs.Side.{Side}
use Rattle.tap_world.specs.Project.{ring_parts}
use Rattle.tap_told.proofs.Lists.{flat_told_more}
use Rattle.tap_told.proofs.rings.ring_parts.Goals as goal

pub loop-vhost-preserved : goal.loop-vhost-preserved
loop-vhost-preserved c =
    flat_told_more (λ (s : Option Side). option_map (λ (x : Side). x.vhost) s) ring_parts _ _ c.args.sides.now c.loop-vhost.vhost
    c.index-sides-vhost.result _ c.loop-vhost-test.true c.index-sides-vhost.is c.loop-vhost.invariant c.in_ok-push_rings.ensures
