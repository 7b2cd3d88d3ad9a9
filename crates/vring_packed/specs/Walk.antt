-- This project's own: what a walk along a chain finds.
use Rattle.std.specs.Prelude.{◌≡◌, ℕ, List, Result, Ok, Err}
use Rattle.vring_split.specs.declared.fault.RingFault.{RingFault}
use Rattle.vring_split.specs.declared.segment.Segment.{Segment}
use Rattle.vring_walk.specs.Chain.{Look, Cover}
use Rattle.vring_packed.specs.declared.layout.PackedLayout.{PackedLayout}
use Rattle.vring_packed.specs.declared.walk.Found.{Found}
use Rattle.vring_packed.specs.Fetched.{ChainEnd, Breaks, Gives, chain_from}

-- the end that was found, with the segments that were met
abbrev pub end_found : Result Found RingFault → List Segment → ChainEnd
end_found (Ok found) met = Gives found.id found.count met
end_found (Err fault) met = Breaks fault

-- the chain from an entry ends as it was found
abbrev pub Finds : Look → Cover → PackedLayout → ℕ → Result Found RingFault → List Segment → Type 0
Finds look covers l at result met = chain_from look covers l at ≡ end_found result met
