-- A fetch into an empty room.
use Rattle.std.proofs.Common.{ℕ, ◌+◌, ◌<◌, List, [], ◌++◌, length, subst, arith}
use Rattle.vring_split.specs.declared.layout.Layout.{Layout}
use Rattle.vring_split.specs.declared.segment.Segment.{Segment}
use Rattle.vring_walk.specs.declared.walk.Fetched.{Fetched}
use Rattle.vring_walk.specs.declared.walk.Fetched.TheVariants.{Crowded}
use Rattle.vring_walk.specs.Chain.{Look, Cover}
use Rattle.vring_walk.specs.Fetch.{Fetches}
use Rattle.vring_walk.specs.Fetched.{fetched}
use Rattle.vring_walk.specs.Laws.{EmptyIsNotCrowded}
use Rattle.vring_walk.proofs.Functions.{fetched_so}
use Rattle.vring_walk.proofs.Usable.{usable_chain}

module _ (look : Look) (covers : Cover) (l : Layout) where
  -- each chain fits
  fits : (position : ℕ) (new : List Segment) → Fetches look covers l position [] Crowded new → ⊥
  fits position new x =
      let found = x.0 in
      let few = (usable_chain look covers l found.0 found.1 found.2.chain).few in
      let over : 1024 < length {A = Segment} [] + length found.1 = found.3 in
      omega (arith, few, over)

pub empty_is_not_crowded : EmptyIsNotCrowded
empty_is_not_crowded look covers l position is =
    let new : List Segment = [] ++ (fetched look covers l position 1024).1 in
    fits look covers l position new
    (subst (λ (a : Fetched). Fetches look covers l position [] a new) is (fetched_so look covers l position 1024 [] (omega arith)))
