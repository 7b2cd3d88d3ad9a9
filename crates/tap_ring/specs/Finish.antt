-- This project's own: what is so at the end of a ring, when all its tokens are back.
use Rattle.std.specs.Prelude.{◌≡◌, ℕ, ◌+◌, ◌<◌, ◌≤◌, true, List, [], ◌∷◌, ◌++◌, length, slice_get, Contains, Some}
use Rattle.atomic_table.specs.Seated.{TableId}
use Rattle.tap_frame.specs.Frame.{FrameValue}
use Rattle.tap_ring.specs.declared.gate.TheConstants.{CLAIMS_END}
use Rattle.tap_ring.specs.declared.rule.Claim.{Claim}
use Rattle.tap_ring.specs.declared.rule.Produced.{Produced}
use Rattle.tap_ring.specs.declared.rule.Consumed.{Consumed}
use Rattle.tap_ring.specs.declared.rule.Kept.{Kept}
use Rattle.tap_ring.specs.declared.rule.Plan.{Plan}
use Rattle.tap_ring.specs.declared.rule.Moment.{Moment}
use Rattle.tap_ring.specs.Moments.{KeepsRoom, IsBefore}
use Rattle.tap_ring.specs.Turns.{turns_to, IsGiven, EachGiven}
use Rattle.tap_ring.specs.Standing.{EachClaim, times, within}
use Rattle.tap_ring.specs.Tokens.{Token}

-- how many claims of these producers are to the place
abbrev pub claims_to : ℕ → List (Token Produced) → ℕ
claims_to p [] = 0
claims_to p (t ∷ ts) = times p t.view.mine + claims_to p ts

-- each of the tokens is of this ring
abbrev pub AllOfRing : TableId → List (Token Produced) → Type 0
AllOfRing ring [] = Unit {0}
AllOfRing ring (t ∷ ts) = (t.ring ≡ ring) × AllOfRing ring ts

-- this claim's frame stands in the line at its place
abbrev pub StandsIn : ℕ → List FrameValue → Claim → Type 0
StandsIn first line c = (k : ℕ) × (c.place ≡ first + k) × (slice_get line k ≡ Some c.frame)

-- each of these producers' claims has this
abbrev pub AllClaims : (Claim → Type 0) → List (Token Produced) → Type 0
AllClaims P [] = Unit {0}
AllClaims P (t ∷ ts) = EachClaim P t.view.mine × AllClaims P ts

-- each capacity that these producers loaded was the ring's under its number of resizes
abbrev pub AllGiven : ℕ → List ℕ → List (Token Produced) → Type 0
AllGiven first resized [] = Unit {0}
AllGiven first resized (t ∷ ts) = EachGiven first resized t.view.loaded × AllGiven first resized ts

-- all claims of these producers
abbrev pub claims_of : List (Token Produced) → List Claim
claims_of [] = []
claims_of (t ∷ ts) = t.view.mine ++ claims_of ts

-- what these producers saw last lies before the end
abbrev pub AllBefore : ℕ → ℕ → Moment → List (Token Produced) → Type 0
AllBefore claimed freed last [] = Unit {0}
AllBefore claimed freed last (t ∷ ts) =
    (IsBefore claimed freed last t.view.gate × IsBefore claimed freed last t.view.asked
    × IsBefore claimed freed last t.view.room)
    × AllBefore claimed freed last ts

-- along the places epochs never fall: of two claims the one of the lower place has no higher epoch
abbrev pub EpochsNeverFall : List Claim → Type 0
EpochsNeverFall claims =
    (c d : Claim) → Contains claims c → Contains claims d → c.place ≤ d.place → c.epoch ≤ d.epoch

-- What was lifted and what is left are the frames of all places, in order; each place is one producer's claim, once,
-- with the frame that it put, under the epoch that the keeper's reopenings gave the place. Each capacity that a
-- producer loaded is the ring's of its number of resizes. What each saw last lies before. No place is above the last one
-- that there is. The places that are claimed and
-- not freed have room under the last capacity, or no place was given out since the last resize; and none was given out
-- since the gate was shut, where it is.
pub record IsEnd (plan : Plan) (all : List (Token Produced)) (c : Consumed) (k : Kept)
    (claimed freed lifted : ℕ) (left : List FrameValue) : Type 0 where
  pub lifted_is : lifted ≡ plan.first + length c.lifted
  pub freed_is : freed ≡ c.freed
  pub claimed_is : claimed ≡ plan.first + length (c.lifted ++ left)
  pub once : (p : ℕ) → claims_to p all ≡ within plan.first claimed p
  pub stand : AllClaims (StandsIn plan.first (c.lifted ++ left)) all
  pub epochs : AllClaims (λ x. x.epoch ≡ turns_to x.place k.opened) all
  pub rising : EpochsNeverFall (claims_of all)
  pub capacities : AllGiven plan.capacity k.resized all
  pub seen : AllBefore claimed freed k.gate all
  pub last_capacity : IsGiven plan.capacity k.resized k.gate.resizes k.gate.capacity
  pub room : KeepsRoom claimed freed k.gate.capacity k.resized_from
  pub order : (plan.first ≤ freed) × (freed ≤ lifted) × (lifted ≤ claimed)
  pub bound : claimed < CLAIMS_END
  pub turns : (k.gate.epoch ≡ length k.opened) × (k.gate.resizes ≡ length k.resized)
  pub later : k.gate.claimed ≤ claimed
  pub still : k.gate.shut ≡ true → claimed ≡ k.gate.claimed
