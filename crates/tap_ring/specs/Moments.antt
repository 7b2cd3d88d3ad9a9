-- This project's own: what a ring is at one step, and how it goes on.
use Rattle.std.specs.Prelude.{◌≡◌, ℕ, [], ◌∷◌, ◌+◌, ◌<◌, ◌≤◌, ◌≢◌, ◌⊎◌, true, false, List, slice_index}
use Rattle.tap_ring.specs.declared.rule.Moment.{Moment}
use Rattle.tap_ring.specs.declared.gate.TheConstants.{CLAIMS_END, EPOCHS_END, RESIZES_END}
use Rattle.tap_ring.specs.declared.steps.TheConstants.{CAPACITIES}
use Rattle.tap_ring.specs.GateWord.{gate_word}

-- the ring's gate word at this moment
abbrev pub gate_of : Moment → ℕ
gate_of m = gate_word m.claimed m.shut m.epoch m.resizes

-- each part of the gate word stays within its bits
pub record Fits (m : Moment) : Type 0 where
  pub claimed : m.claimed < CLAIMS_END
  pub epoch : m.epoch < EPOCHS_END
  pub resizes : m.resizes < RESIZES_END

-- nothing that is counted has fallen, and the capacity is the same as long as the number of resizes is
pub record IsLater (before now : Moment) : Type 0 where
  pub claimed : before.claimed ≤ now.claimed
  pub freed : before.freed ≤ now.freed
  pub epoch : before.epoch ≤ now.epoch
  pub resizes : before.resizes ≤ now.resizes
  pub capacity : before.resizes ≡ now.resizes → before.capacity ≡ now.capacity

-- ---- conditions on a ring

-- the gate is shut, or has another epoch than the wanted one
abbrev pub IsGone : ℕ → Moment → Type 0
IsGone epoch m = (m.shut ≡ true) ⊎ (m.epoch ≢ epoch)

-- the gate is unshut, at the wanted epoch
abbrev pub IsOpen : ℕ → Moment → Type 0
IsOpen epoch m = (m.shut ≡ false) × (m.epoch ≡ epoch)

-- the claim count is at its end
abbrev pub IsSpent : Moment → Type 0
IsSpent m = m.claimed + 1 ≡ CLAIMS_END

-- as many places are claimed and not freed as the capacity allows
abbrev pub IsFull : Moment → Type 0
IsFull m = m.freed + m.capacity ≤ m.claimed

-- there is room for one more
abbrev pub HasRoom : Moment → Type 0
HasRoom m = m.claimed < m.freed + m.capacity

-- no more places are claimed and not freed than the capacity allows; or else none was claimed since the last resize
abbrev pub KeepsRoom : ℕ → ℕ → ℕ → ℕ → Type 0
KeepsRoom claimed freed capacity resized_from = (claimed ≤ freed + capacity) ⊎ (claimed ≡ resized_from)

-- every place that was given out is free again
abbrev pub IsDrained : Moment → Type 0
IsDrained m = m.claimed ≡ m.freed

-- ---- moments as they lie behind

-- the capacity of the k-th number of resizes
abbrev pub capacity_at : List ℕ → ℕ → ℕ
capacity_at words k = slice_index words (CAPACITIES + k)

-- the ring was so at a step before now; the words still have the capacity of then
pub record IsPast (words : List ℕ) (now m : Moment) : Type 0 where
  pub fits : Fits m
  pub claimed : m.claimed ≤ now.claimed
  pub freed : m.freed ≤ now.freed
  pub epoch : m.epoch ≤ now.epoch
  pub resizes : m.resizes ≤ now.resizes
  pub capacity : capacity_at words m.resizes ≡ m.capacity
  pub shut : m.epoch ≡ now.epoch → m.shut ≡ true → now.shut ≡ true

-- each of these moments lies behind
abbrev pub EachPast : List ℕ → Moment → List Moment → Type 0
EachPast words now [] = Unit {0}
EachPast words now (m ∷ ms) = IsPast words now m × EachPast words now ms

-- What a token saw lies before the ring's end: no count was above its last one, and a gate that was shut is shut still,
-- or was reopened.
pub record IsBefore (claims_end freed_end : ℕ) (last : Moment) (m : Moment) : Type 0 where
  pub claimed : m.claimed ≤ claims_end
  pub freed : m.freed ≤ freed_end
  pub epoch : m.epoch ≤ last.epoch
  pub resizes : m.resizes ≤ last.resizes
  pub shut : m.epoch ≡ last.epoch → m.shut ≡ true → last.shut ≡ true
