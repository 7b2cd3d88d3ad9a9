use Rattle.std.proofs.Common.{◌≡◌, ℕ, ◌<◌, drop}
use Rattle.std.specs.Prelude.{All}
use Rattle.vring_drive.specs.Books.{freed_into}
use Rattle.vring_drive.proofs.free.add_all.Given as goal

-- what is left to add makes of the set what all of it makes of the set as it was
abbrev pub invariant-loop-index : goal.invariant-loop-index
invariant-loop-index l = record {
  freed : freed_into l.free.keys (drop l.index-index l.chain) ≡ freed_into l.fn.free.keys l.chain;
  inside : (n : ℕ) → All (λ i. i < n) l.fn.free.keys → All (λ i. i < n) l.chain → All (λ i. i < n) l.free.keys;
}
