use Rattle.std.proofs.Common.{rules}
use Rattle.vring_packed.specs.Publication.{used_bytes}
use Rattle.vring_packed.proofs.publish.used_bytes.Goals as goal

pub returns : goal.returns
unfolding used_bytes
returns c = search rules
