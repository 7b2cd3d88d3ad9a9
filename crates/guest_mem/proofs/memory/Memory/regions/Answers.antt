use Rattle.std.proofs.Common.{subst}
use Rattle.guest_mem.specs.Memory.{Contents}
use Rattle.guest_mem.specs.Regions.{IsSound}
use Rattle.guest_mem.proofs.Bytes.{stored_blocks}
use Rattle.guest_mem.proofs.memory.Memory.regions.Goals as goal

pub returns-clause-sound : goal.returns-clause-sound
returns-clause-sound c =
    let kept = c.self.invariant in
    subst (λ (m : Contents). IsSound m) c.self.view_is (record {
      regions = kept.regions;
      bytes = stored_blocks c.self.inside.regions.items c.self.inside.blocks.items kept;
    })
