-- This project's own: what each call of a ring promises.
use Rattle.std.specs.Prelude.{◌≡◌, ◌≢◌, ℕ, ◌+◌, ◌<◌, ◌≤◌, ◌⊎◌, Bool, true, false, List, [], ◌∷◌, ◌++◌}
use Rattle.atomic_table.specs.Seated.{TableId}
use Rattle.tap_frame.specs.Frame.{FrameValue}
use Rattle.tap_ring.specs.declared.rule.Moment.{Moment}
use Rattle.tap_ring.specs.declared.rule.Loaded.{Loaded}
use Rattle.tap_ring.specs.declared.rule.Produced.{Produced}
use Rattle.tap_ring.specs.declared.rule.Consumed.{Consumed}
use Rattle.tap_ring.specs.declared.rule.Kept.{Kept}
use Rattle.tap_ring.specs.declared.rule.Plan.{Plan}
use Rattle.tap_ring.specs.declared.producer.Why.{Why}
use Rattle.tap_ring.specs.declared.producer.Why.TheVariants.{Gone, Spent, Full, Contended}
use Rattle.tap_ring.specs.declared.keeper.StaysShut.{StaysShut}
use Rattle.tap_ring.specs.declared.keeper.StaysShut.TheVariants.{NotDrained, EpochsSpent}
use Rattle.tap_ring.specs.declared.gate.TheConstants.{CLAIMS_END, EPOCHS_END, RESIZES_END}
use Rattle.tap_ring.specs.GateWord.{claimed_of, is_shut, epoch_of}
use Rattle.tap_ring.specs.Moments.{IsLater, IsGone, IsOpen, IsSpent, IsFull, HasRoom, gate_of}
use Rattle.tap_ring.specs.Turns.{loaded}
use Rattle.tap_ring.specs.Standing.{EachClaim}
use Rattle.tap_ring.specs.Steps.{claim}

-- what a ring is to a contract: which one it is, what it was told, and how many slots it has
pub record RingValue : Type 0 where
  pub ring : TableId
  pub plan : Plan
  pub most : ℕ

-- ---- to put a frame

-- nothing that the producer saw has fallen, and the claim count is above each place that it had claimed
pub record SawMore (v w : Produced) : Type 0 where
  pub gate : IsLater v.gate w.gate
  pub room : IsLater v.room w.room
  pub mine : EachClaim (λ c. c.place < w.gate.claimed) v.mine

-- what the producer had loaded stands first in what it has loaded
abbrev pub LoadedMore : Produced → Produced → Type 0
LoadedMore v w = (more : List Loaded) × (w.loaded ≡ v.loaded ++ more)

-- the gate was met again: the producer had met it so often before, and so often then
abbrev pub MetAgain : ℕ → ℕ → Type 0
MetAgain before then = before < then

-- a gate that this call loaded was open and not spent; the capacity and the freed count were loaded after it
pub record Asked (epoch : ℕ) (v w : Produced) : Type 0 where
  pub open_then : IsOpen epoch w.asked
  pub unspent : ¬ IsSpent w.asked
  pub later : IsLater v.gate w.asked
  pub mine : EachClaim (λ c. c.place < w.asked.claimed) v.mine
  pub again : MetAgain v.gate_loads w.asked_loads
  pub order : IsLater w.asked w.room × (w.asked_loads ≤ w.room_loads)
  pub loaded_is : w.loaded ≡ v.loaded ++ loaded w.asked.resizes w.asked.capacity ∷ []

-- the claim count that was loaded is by the capacity or more above the freed count that was loaded after it
abbrev pub FoundFull : Produced → Type 0
FoundFull w = w.room.freed + w.asked.capacity ≤ w.asked.claimed

-- There was room by the numbers loaded, and the exchange met the gate that was loaded. The place is this producer's,
-- above all its earlier ones: at the exchange the gate was open and there was room.
pub record Placed (epoch : ℕ) (frame : FrameValue) (place : ℕ) (v w : Produced) : Type 0 where
  pub asked : Asked epoch v w
  pub found : ¬ FoundFull w
  pub same_gate : gate_of w.gate ≡ gate_of w.asked
  pub order : IsLater w.room w.gate × MetAgain w.room_loads w.gate_loads
  pub open_then : IsOpen epoch w.gate
  pub same_resizes : w.gate.resizes ≡ w.asked.resizes
  pub same_capacity : w.gate.capacity ≡ w.asked.capacity
  pub room : HasRoom w.gate
  pub place_is : place ≡ w.gate.claimed
  pub bound : place + 1 < CLAIMS_END
  pub above : EachClaim (λ c. c.place < place) v.mine
  pub mine : w.mine ≡ v.mine ++ claim place epoch frame ∷ []

-- the gate that this call loaded was shut, or had another epoch
pub record IsGoneThen (epoch found : ℕ) (shut : Bool) (resizes : ℕ) (v w : Produced) : Type 0 where
  pub gone : IsGone epoch w.gate
  pub found_is : found ≡ w.gate.epoch
  pub shut_is : shut ≡ w.gate.shut
  pub resizes_is : resizes ≡ w.gate.resizes
  pub loaded_is : w.loaded ≡ v.loaded
  pub again : MetAgain v.gate_loads w.gate_loads

-- else, its claim count was at its end
pub record IsSpentThen (epoch claimed resizes : ℕ) (v w : Produced) : Type 0 where
  pub open_then : IsOpen epoch w.gate
  pub spent : IsSpent w.gate
  pub claimed_is : claimed ≡ w.gate.claimed
  pub resizes_is : resizes ≡ w.gate.resizes
  pub loaded_is : w.loaded ≡ v.loaded
  pub again : MetAgain v.gate_loads w.gate_loads

-- else, there was no room by the numbers loaded, and at the load of the freed count the ring was full
pub record IsFullThen (epoch claimed freed resizes : ℕ) (v w : Produced) : Type 0 where
  pub asked : Asked epoch v w
  pub found : FoundFull w
  pub full : IsFull w.room
  pub claimed_is : claimed ≡ w.asked.claimed
  pub freed_is : freed ≡ w.room.freed
  pub resizes_is : (resizes ≡ w.asked.resizes) × (w.gate.resizes ≡ resizes)
  pub order : IsLater w.room w.gate × MetAgain w.room_loads w.gate_loads

-- the gate was another at the exchange; or, where there was no room, it was resized since
pub record IsContended (epoch expected found resizes : ℕ) (v w : Produced) : Type 0 where
  pub asked : Asked epoch v w
  pub expected_is : expected ≡ gate_of w.asked
  pub found_is : found ≡ gate_of w.gate
  pub order : IsLater w.room w.gate × MetAgain w.room_loads w.gate_loads
  pub differ : expected ≢ found
  pub resizes_is : resizes ≡ w.asked.resizes
  pub cause : (¬ FoundFull w) ⊎ (FoundFull w × (w.gate.resizes ≢ w.asked.resizes))

-- why a frame comes back
abbrev pub IsCause : ℕ → Why → ℕ → Produced → Produced → Type 0
IsCause epoch (Gone found shut) resizes v w = IsGoneThen epoch found shut resizes v w
IsCause epoch (Spent claimed) resizes v w = IsSpentThen epoch claimed resizes v w
IsCause epoch (Full claimed freed) resizes v w = IsFullThen epoch claimed freed resizes v w
IsCause epoch (Contended expected found) resizes v w = IsContended epoch expected found resizes v w

-- ---- a gate word, as a producer looks at it

-- it is open at this epoch, and not spent
abbrev pub IsOpenWord : ℕ → ℕ → Type 0
IsOpenWord epoch gate = (is_shut gate ≡ false) × (epoch_of gate ≡ epoch) × (claimed_of gate + 1 < CLAIMS_END)

-- the first cause that holds of it
abbrev pub RefusesWord : ℕ → ℕ → Why → Type 0
RefusesWord epoch gate (Gone found shut) =
    (found ≡ epoch_of gate) × (shut ≡ is_shut gate) × ((is_shut gate ≡ true) ⊎ (epoch_of gate ≢ epoch))
RefusesWord epoch gate (Spent claimed) =
    (is_shut gate ≡ false) × (epoch_of gate ≡ epoch) × (claimed_of gate + 1 ≡ CLAIMS_END) × (claimed ≡ claimed_of gate)
RefusesWord epoch gate (Full claimed freed) = ⊥
RefusesWord epoch gate (Contended expected found) = ⊥

-- the second look at the gate, where there was no room
abbrev pub IsSecondLook : ℕ → ℕ → Moment → Moment → Why → Type 0
IsSecondLook gate freed asked m (Gone found shut) = ⊥
IsSecondLook gate freed asked m (Spent claimed) = ⊥
IsSecondLook gate freed asked m (Full claimed freed_then) =
    (claimed ≡ asked.claimed) × (freed_then ≡ freed) × (m.resizes ≡ asked.resizes)
IsSecondLook gate freed asked m (Contended expected found) =
    (expected ≡ gate) × (found ≡ gate_of m) × (m.resizes ≢ asked.resizes)

-- ---- to take a frame

-- one more frame is lifted: the front place's number was there
abbrev pub lifted_one : FrameValue → Consumed → Consumed
lifted_one frame v = record v {
  next = v.next + 1;
  lifted = v.lifted ++ frame ∷ [];
  front = v.next + 1;
  front_loads = v.front_loads + 1;
}

-- one more place is free
abbrev pub freed_one : Consumed → Consumed
freed_one v = record v { freed = v.freed + 1 }

-- the front frame was lifted
abbrev pub IsLifted : FrameValue → Consumed → Consumed → Type 0
IsLifted frame v w = w ≡ lifted_one frame v

-- the front frame was lifted, and one place freed
abbrev pub IsTaken : FrameValue → Consumed → Consumed → Type 0
IsTaken frame v w = w ≡ freed_one (lifted_one frame v)

-- the front place's word wasn't its number at a load of this call
pub record IsNotReady (place : ℕ) (v w : Consumed) : Type 0 where
  pub place_is : place ≡ v.next
  pub front : w.front ≢ place + 1
  pub seen : w ≡ record v { front = w.front; front_loads = v.front_loads + 1 }

-- ---- the gate

-- the gate is shut now; the claim count is the answer
pub record IsShutNow (claimed : ℕ) (v w : Kept) : Type 0 where
  pub later : IsLater v.gate w.gate
  pub shut : w.gate.shut ≡ true
  pub claimed_is : claimed ≡ w.gate.claimed
  pub epoch : w.gate.epoch ≡ v.gate.epoch
  pub opened : w.opened ≡ v.opened
  pub resizes : w.gate.resizes ≡ v.gate.resizes
  pub resized : (w.resized ≡ v.resized) × (w.resized_from ≡ v.resized_from)

-- the gate is open at the next epoch; no place was given out since the shut
pub record IsReopened (epoch : ℕ) (v w : Kept) : Type 0 where
  pub later : IsLater v.gate w.gate
  pub shut : w.gate.shut ≡ false
  pub epoch_is : (epoch ≡ v.gate.epoch + 1) × (w.gate.epoch ≡ epoch)
  pub claimed : w.gate.claimed ≡ v.gate.claimed
  pub opened : w.opened ≡ v.opened ++ v.gate.claimed ∷ []
  pub resizes : w.gate.resizes ≡ v.gate.resizes
  pub resized : (w.resized ≡ v.resized) × (w.resized_from ≡ v.resized_from)

-- why the gate stays shut: the two counts that the tokens keep differ; or else there is no further epoch
abbrev pub KeepsShut : Kept → ℕ → StaysShut → Type 0
KeepsShut v freed (NotDrained claimed freed_then) =
    (claimed ≡ v.gate.claimed) × (freed_then ≡ freed) × (claimed ≢ freed_then)
KeepsShut v freed EpochsSpent = (v.gate.claimed ≡ freed) × (v.gate.epoch + 1 ≡ EPOCHS_END)

-- the next number of resizes has this capacity; the claim count is the answer, and of a shut gate it stays
pub record IsResized (capacity claimed : ℕ) (v w : Kept) : Type 0 where
  pub few : v.gate.resizes + 1 < RESIZES_END
  pub later : IsLater v.gate w.gate
  pub capacity_is : w.gate.capacity ≡ capacity
  pub resizes : w.gate.resizes ≡ v.gate.resizes + 1
  pub resized : (w.resized ≡ v.resized ++ capacity ∷ []) × (w.resized_from ≡ claimed)
  pub claimed_is : claimed ≡ w.gate.claimed
  pub still : v.gate.shut ≡ true → w.gate.claimed ≡ v.gate.claimed
  pub shut : w.gate.shut ≡ v.gate.shut
  pub epoch : w.gate.epoch ≡ v.gate.epoch
  pub opened : w.opened ≡ v.opened
