-- VIRTIO 1.2, 2.8.6 to 2.8.8 and 2.8.14: a packed ring's descriptor chains, and what a fetch finds, as relations.
use Rattle.std.specs.Prelude.{◌≡◌, ℕ, ◌+◌, ◌<◌, ◌≤◌, ◌↔◌, ◌≢◌, IsTrue, All, true, false, List, [], ◌∷◌, ◌++◌, length, Ok, Err}
use Rattle.vring_split.specs.declared.fault.RingFault.{RingFault}
use Rattle.vring_split.specs.declared.fault.RingFault.TheVariants.{TooLong}
use Rattle.vring_split.specs.declared.segment.Segment.{Segment}
use Rattle.vring_walk.specs.Chain.{Look, Cover}
use Rattle.vring_packed.specs.declared.desc.PackedDesc.{PackedDesc}
use Rattle.vring_packed.specs.declared.fetched.PackedFetched.{PackedFetched}
use Rattle.vring_packed.specs.declared.fetched.PackedFetched.TheVariants.{Chain, Nothing, Bad, Crowded}
use Rattle.vring_packed.specs.declared.layout.PackedLayout.{PackedLayout}
use Rattle.vring_packed.specs.declared.place.Place.{Place}
use Rattle.vring_packed.specs.Packed.{is_available, has_next}
use Rattle.vring_packed.specs.Chain.{desc_at, descs_along, with_desc}
use Rattle.vring_packed.specs.Fetched.{AppendsFetched}

-- each of these descriptors has NEXT and breaks no rule, and they lead from the segments met to those met then
abbrev pub GoOn : Look → Cover → PackedLayout → List PackedDesc → List Segment → List Segment → Type 0
GoOn look covers l [] met now = met ≡ now
GoOn look covers l (d ∷ ds) met now =
    (next : List Segment) × (with_desc look covers l d met ≡ Ok next) × (has_next d ≡ true)
    × GoOn look covers l ds next now

-- the chain at the front of these descriptors, after the segments met: the descriptors up to the first without NEXT,
-- none of which breaks a rule; its id is the last one's
pub record IsChainIn
    (look : Look) (covers : Cover) (l : PackedLayout) (ds : List PackedDesc) (met : List Segment)
    (id count : ℕ) (segments : List Segment) : Type 0 where
  pub front : List PackedDesc
  pub last : PackedDesc
  pub behind : List PackedDesc
  pub before : List Segment
  pub along : ds ≡ front ++ last ∷ behind
  pub on : GoOn look covers l front met before
  pub good : with_desc look covers l last before ≡ Ok segments
  pub ends : has_next last ≡ false
  pub id_is : id ≡ last.id
  pub count_is : count ≡ length front + 1

-- what breaks a rule: the next of these descriptors, or that there is none, where the chain has all of the ring
abbrev pub IsBroken : Look → Cover → PackedLayout → List PackedDesc → List Segment → RingFault → Type 0
IsBroken look covers l [] met fault = fault ≡ TooLong
IsBroken look covers l (d ∷ ds) met fault = with_desc look covers l d met ≡ Err fault

-- the first rule that the chain at the front of these descriptors breaks
pub record IsFaultIn
    (look : Look) (covers : Cover) (l : PackedLayout) (ds : List PackedDesc) (met : List Segment)
    (fault : RingFault) : Type 0 where
  pub front : List PackedDesc
  pub rest : List PackedDesc
  pub before : List Segment
  pub along : ds ≡ front ++ rest
  pub on : GoOn look covers l front met before
  pub broken : IsBroken look covers l rest before fault

-- the chain from an entry of the ring, and the first rule that it breaks
abbrev pub IsChain : Look → Cover → PackedLayout → ℕ → ℕ → ℕ → List Segment → Type 0
IsChain look covers l at id count segments =
    IsChainIn look covers l (descs_along look l at l.num) [] id count segments

abbrev pub IsFirstFault : Look → Cover → PackedLayout → ℕ → RingFault → Type 0
IsFirstFault look covers l at fault = IsFaultIn look covers l (descs_along look l at l.num) [] fault

-- the descriptor at a place is available
abbrev pub IsAvailable : Look → PackedLayout → Place → Type 0
IsAvailable look l p = is_available p.wrap (desc_at look l.ring p.at) ≡ true

-- what a fetch at a place answers, and what it makes of a room of 1,024 places
abbrev pub Fetches : Look → Cover → PackedLayout → Place → List Segment → PackedFetched → List Segment → Type 0
-- a chain that fits is appended
Fetches look covers l p old (Chain id count) new =
    (segments : List Segment) × IsAvailable look l p × IsChain look covers l p.at id count segments
    × (length old + length segments ≤ 1024) × (new ≡ old ++ segments)
-- nothing new is available
Fetches look covers l p old Nothing new = (is_available p.wrap (desc_at look l.ring p.at) ≡ false) × (new ≡ old)
-- the ring is broken
Fetches look covers l p old (Bad fault) new =
    IsAvailable look l p × IsFirstFault look covers l p.at fault × (new ≡ old)
-- a chain that does not fit
Fetches look covers l p old Crowded new =
    ((id : ℕ) × (count : ℕ) × (segments : List Segment) × IsAvailable look l p
    × IsChain look covers l p.at id count segments × (1024 < length old + length segments))
    × (new ≡ old)

-- what a device may do with the segments of a chain: there are few, each lies in the memory, and each is written on a
-- receive ring and read on a transmit ring
pub record IsUsable (covers : Cover) (l : PackedLayout) (segments : List Segment) : Type 0 where
  pub few : length segments ≤ 1024
  pub lies : All (λ s. IsTrue (covers s.addr s.len)) segments
  pub directed : All (λ s. s.write ≡ l.rx) segments

-- What holds of them.

-- the segments of every chain are usable
abbrev pub ChainsAreUsable : Type 0
ChainsAreUsable =
    (look : Look) (covers : Cover) (l : PackedLayout) (at id count : ℕ) (segments : List Segment)
    → IsChain look covers l at id count segments → IsUsable covers l segments

-- a fetch into an empty room is never crowded
abbrev pub EmptyIsNotCrowded : Type 0
EmptyIsNotCrowded =
    (look : Look) (covers : Cover) (l : PackedLayout) (p : Place) (new : List Segment) (answer : PackedFetched)
    → AppendsFetched look covers l p [] answer new → answer ≢ Crowded

-- a fetch answers and appends what the function gives, and nothing else
abbrev pub FetchesAsFunction : Type 0
FetchesAsFunction =
    (look : Look) (covers : Cover) (l : PackedLayout) (p : Place) (old new : List Segment) (answer : PackedFetched)
    → length old ≤ 1024
    → Fetches look covers l p old answer new ↔ AppendsFetched look covers l p old answer new
