use Rattle.std.proofs.Common.{◌≡◌, List, None}
use Rattle.guest_mem.specs.declared.region.Region.{Region}
use Rattle.guest_mem.specs.Regions.{refusal}
use Rattle.core_open.proofs.Folding.{each_here}
use Rattle.core_open.proofs.opening.all_guests.Goals as goal

pub guest_of-requires : goal.guest_of-requires
guest_of-requires c =
    each_here (λ (rs : List Region). refusal rs ≡ None) c.args.declared.now c.loop-regions.regions-index _ c.loop-regions-test.true
    c.regions-item.is c.requires
