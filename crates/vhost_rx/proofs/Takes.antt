-- What a fetch leaves where it finds no chain.
use Rattle.std.proofs.Common.{◌≡◌, ℕ, List, refl}
use Rattle.vring_split.specs.declared.layout.Layout.{Layout}
use Rattle.vring_split.specs.declared.segment.Segment.{Segment}
use Rattle.vring_walk.specs.declared.walk.Fetched.{Fetched}
use Rattle.vring_walk.specs.declared.walk.Fetched.TheVariants.{Chain, Nothing, Bad, Crowded}
use Rattle.vring_walk.specs.Chain.{Look, Cover}
use Rattle.vring_walk.specs.Fetch.{Fetches}
use Rattle.vring_turns.specs.Ring.{Gathered, with_found}

-- the room stays
pub room_stays :
    (look : Look) (covers : Cover) (l : Layout) (position : ℕ) (old new : List Segment) (f : Fetched)
    → ((head : ℕ) → f ≡ Chain head → ⊥) → Fetches look covers l position old f new → new ≡ old
room_stays look covers l position old new (Chain head) other h = absurd (other head refl)
room_stays look covers l position old new Nothing other h = h.1
room_stays look covers l position old new (Bad fault) other h = h.1
room_stays look covers l position old new Crowded other h = h.1

-- the chains stay
pub chains_stay :
    (segments : List Segment) (chains : List Gathered) (f : Fetched)
    → ((head : ℕ) → f ≡ Chain head → ⊥) → with_found f segments chains ≡ chains
chains_stay segments chains (Chain head) other = absurd (other head refl)
chains_stay segments chains Nothing other = refl
chains_stay segments chains (Bad fault) other = refl
chains_stay segments chains Crowded other = refl
