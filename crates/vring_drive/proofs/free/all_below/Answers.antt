use Rattle.std.proofs.Common.{ap, ◌∙◌, arith}
use Rattle.std.specs.Prelude.{List, ℕ}
use Rattle.std.specs.Ordering.{nat_cmp}
use Rattle.std.specs.BTreeSet.{insert_key}
use Rattle.vring_drive.proofs.Freed.{insert_last}
use Rattle.vring_drive.proofs.free.all_below.Goals as goal

pub loop-i-preserved : goal.loop-i-preserved
loop-i-preserved c =
    c.in_ok-insert.ensures.keys
    ∙ ap (λ (ks : List ℕ). insert_key nat_cmp ks c.loop-i.i) c.loop-i.invariant
    ∙ insert_last 0 c.loop-i.i c.loop-i.i (omega arith)
