use Rattle.std.proofs.Common.{ℕ, ◌<◌, ◌∙◌}
use Rattle.std.specs.Ordering.{nat_cmp}
use Rattle.std.proofs.lemmas.List.Elements.{All-get_or}
use Rattle.std.proofs.lemmas.Map.Views.{All-insert_key}
use Rattle.vring_drive.proofs.Freed.{freed_more}
use Rattle.vring_drive.proofs.free.add_all.Goals as goal

pub loop-index-preserved : goal.loop-index-preserved
loop-index-preserved c = record {
  freed = rw c.in_ok-insert.ensures.keys
      (freed_more c.loop-index.free.keys c.args.chain.now c.loop-index.index-index _ c.loop-index-test.true ∙ c.loop-index.invariant.freed);
  inside = λ n old chain. rw c.in_ok-insert.ensures.keys
      (All-insert_key nat_cmp _ (λ (i : ℕ). i < n) c.loop-index.free.keys (c.loop-index.invariant.inside n old chain)
      (All-get_or (λ (i : ℕ). i < n) c.args.chain.now c.loop-index.index-index _ c.loop-index-test.true chain));
}
