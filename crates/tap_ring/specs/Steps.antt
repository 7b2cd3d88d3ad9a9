-- This project's own: what each kind of step tells the seat that takes it.
use Rattle.std.specs.Prelude.{◌≡◌, ◌≢◌, ℕ, ◌+◌, ◌-◌, ◌%◌, ◌<◌, ◌==◌, true, false, [], ◌∷◌, ◌++◌, MatchBool, Option, Some, None}
use mathlib.Core.Option.{some}
use Rattle.atomic_table.specs.Table.{Me, Step, rest}
use Rattle.tap_frame.specs.Frame.{FrameValue}
use Rattle.tap_ring.specs.declared.rule.Moment.{Moment}
use Rattle.tap_ring.specs.declared.rule.Claim.{Claim}
use Rattle.tap_ring.specs.declared.rule.Produced.{Produced}
use Rattle.tap_ring.specs.declared.rule.Kept.{Kept}
use Rattle.tap_ring.specs.declared.rule.View.{View}
use Rattle.tap_ring.specs.declared.rule.Plan.{Plan}
use Rattle.tap_ring.specs.declared.gate.TheConstants.{CLAIMS_END}
use Rattle.tap_ring.specs.declared.steps.TheConstants.{PLACES}
use Rattle.tap_ring.specs.Moments.{Fits, IsLater, HasRoom, gate_of}
use Rattle.tap_ring.specs.Turns.{loaded}
use Rattle.tap_ring.specs.Standing.{EachClaim, new_producers}

-- a seat's view, and the slots that it has
abbrev pub Seated : Type 0
Seated = Me (Option FrameValue) View

abbrev pub RingStep : Type 0
RingStep = Step (Option FrameValue)

-- this moment is behind none that the view has, nor behind its claims
pub record IsNew (v : View) (m : Moment) : Type 0 where
  pub fits : Fits m
  pub mine : EachClaim (λ c. c.place < m.claimed) v.mine
  pub gate : IsLater v.gate m
  pub asked : IsLater v.asked m
  pub room : IsLater v.room m

-- ---- loads

abbrev pub seen_gate : Moment → View → View
seen_gate m v = record v { gate = m; gate_loads = v.gate_loads + 1 }

abbrev pub seen_capacity : View → View
seen_capacity v = record v {
  asked = v.gate;
  asked_loads = v.gate_loads;
  loaded = v.loaded ++ loaded v.gate.resizes v.gate.capacity ∷ [];
}

abbrev pub seen_freed : Moment → View → View
seen_freed m v = record v { room = m; room_loads = v.gate_loads }

abbrev pub seen_front : ℕ → View → View
seen_front found v = record v { front = found; front_loads = v.front_loads + 1 }

-- a load of the gate: what the ring is
abbrev pub LoadsGate : RingStep → Seated → ℕ → Seated → Type 0
LoadsGate st v found w =
    (m : Moment) × (found ≡ gate_of m) × IsNew v.0 m × (w.0 ≡ seen_gate m v.0) × (w.1 ≡ v.1)

-- a load of the capacity of the number of resizes that the gate had: it was the capacity then
abbrev pub LoadsCapacity : RingStep → Seated → ℕ → Seated → Type 0
LoadsCapacity st v found w = (found ≡ v.0.gate.capacity) × (w.0 ≡ seen_capacity v.0) × (w.1 ≡ v.1)

-- a load of the freed count: what the ring is
abbrev pub LoadsFreed : RingStep → Seated → ℕ → Seated → Type 0
LoadsFreed st v found w =
    (m : Moment) × (found ≡ m.freed) × IsNew v.0 m × (w.0 ≡ seen_freed m v.0) × (w.1 ≡ v.1)

-- ---- a producer's steps

abbrev pub claim : ℕ → ℕ → FrameValue → Claim
claim place epoch frame = record { place = place; epoch = epoch; frame = frame }

abbrev pub with_claim : Moment → FrameValue → View → View
with_claim m frame v = record (seen_gate m v) {
  mine = v.mine ++ claim m.claimed m.epoch frame ∷ [];
  putting = Some (claim m.claimed m.epoch frame);
}

-- an exchange of the gate: on a match one more claim, of the place that the claim count had
abbrev pub Exchanges : RingStep → Seated → ℕ → Seated → Type 0
Exchanges st v found w =
    (m : Moment) × (found ≡ gate_of m) × IsNew v.0 m
    × MatchBool (found == st.first)
    (HasRoom m × ((frame : FrameValue) × (st.said ≡ some (Some frame)) × (w.0 ≡ with_claim m frame v.0))
    × (w.1 ≡ (m.claimed % st.slots, None) ∷ v.1))
    ((w.0 ≡ seen_gate m v.0) × (w.1 ≡ v.1))

-- a store of the place's number: the frame is put
abbrev pub Puts : RingStep → Seated → ℕ → Seated → Type 0
Puts st v found w = (w.0 ≡ record v.0 { putting = None }) × (w.1 ≡ rest v.1)

-- ---- the consumer's steps

-- a load of the front place's word: it is the place's number, and the slot is in hand, or it isn't
abbrev pub LoadsFront : RingStep → Seated → ℕ → Seated → Type 0
LoadsFront st v found w =
    (st.word ≡ PLACES + v.0.next % st.slots)
    × MatchBool (found == v.0.next + 1)
    ((frame : FrameValue) × (w.0 ≡ record (seen_front found v.0) { in_hand = Some frame })
    × (w.1 ≡ (v.0.next % st.slots, Some frame) ∷ v.1))
    ((w.0 ≡ seen_front found v.0) × (w.1 ≡ v.1))

abbrev pub with_lifted : FrameValue → View → View
with_lifted frame v = record v { next = v.next + 1; lifted = v.lifted ++ frame ∷ []; in_hand = None }

-- the load by which the slot goes back, empty: the frame is lifted
abbrev pub Lifts : RingStep → Seated → ℕ → Seated → Type 0
Lifts st v found w =
    (frame : FrameValue) × (v.0.in_hand ≡ Some frame) × (v.0.next + 1 < CLAIMS_END)
    × (w.0 ≡ with_lifted frame v.0) × (w.1 ≡ rest v.1)

-- one is added to the freed count
abbrev pub Frees : RingStep → Seated → ℕ → Seated → Type 0
Frees st v found w = (found ≡ v.0.freed) × (w.0 ≡ record v.0 { freed = v.0.freed + 1 }) × (w.1 ≡ v.1)

-- ---- the keeper's steps

-- the gate as the keeper knows it, with any claim count
pub record IsKept (v : View) (m : Moment) : Type 0 where
  pub is_new : IsNew v m
  pub shut : m.shut ≡ v.gate.shut
  pub epoch : m.epoch ≡ v.gate.epoch
  pub resizes : m.resizes ≡ v.gate.resizes
  pub claimed : v.gate.shut ≡ true → m.claimed ≡ v.gate.claimed

abbrev pub shut_at : Moment → Moment
shut_at m = record m { shut = true }

abbrev pub reopened_at : Moment → Moment
reopened_at m = record m { shut = false; epoch = m.epoch + 1 }

abbrev pub resized_at : ℕ → Moment → Moment
resized_at capacity m = record m { resizes = m.resizes + 1; capacity = capacity }

-- the keeper's list of reopenings has one more
abbrev pub with_turn : Moment → View → View
with_turn m v = record (seen_gate (reopened_at m) v) { opened = v.opened ++ m.claimed ∷ [] }

-- its list of resizes has one more
abbrev pub with_resize : ℕ → Moment → View → View
with_resize capacity m v = record (seen_gate (resized_at capacity m) v) {
  resized = v.resized ++ capacity ∷ [];
  resized_from = m.claimed;
  stored = None;
}

-- the gate is shut: the claim count
abbrev pub Shuts : RingStep → Seated → ℕ → Seated → Type 0
Shuts st v found w =
    (m : Moment) × (found ≡ gate_of m) × IsKept v.0 m × (w.0 ≡ seen_gate (shut_at m) v.0) × (w.1 ≡ v.1)

-- the gate is reopened: the new epoch
abbrev pub Reopens : RingStep → Seated → ℕ → Seated → Type 0
Reopens st v found w =
    (m : Moment) × (found ≡ gate_of m) × IsKept v.0 m × (w.0 ≡ with_turn m v.0) × (w.1 ≡ v.1)

-- a store of the capacity of the next number of resizes
abbrev pub Stores : RingStep → Seated → ℕ → Seated → Type 0
Stores st v found w = (w.0 ≡ record v.0 { stored = Some st.first }) × (w.1 ≡ v.1)

-- one is added to the number of resizes: the new capacity counts, and the claim count
abbrev pub Resizes : RingStep → Seated → ℕ → Seated → Type 0
Resizes st v found w =
    (m : Moment) × (found ≡ gate_of m) × IsKept v.0 m
    × ((c : ℕ) × (v.0.stored ≡ Some c) × (w.0 ≡ with_resize c m v.0))
    × (w.1 ≡ v.1)

-- ---- tokens leave the first seat, and come to one again

-- one producer leaves the first seat
abbrev pub without_producer : View → View
without_producer v = record v { parts = v.parts - 1 }

abbrev pub one_producer : View → View
one_producer v = record v { parts = 1; takes = false; keeps = false }

-- the consumer leaves the first seat
abbrev pub without_consumer : View → View
without_consumer v = record v { takes = false }

abbrev pub the_consumer : View → View
the_consumer v = record v { parts = 0; keeps = false }

-- a producer's claims and loads come to another seat
abbrev pub with_producer : View → Produced → View
with_producer v w = record v {
  parts = v.parts + 1;
  mine = v.mine ++ w.mine;
  loaded = v.loaded ++ w.loaded;
  met = v.met ++ w.gate ∷ w.asked ∷ w.room ∷ [];
}

-- the keeper's part comes to another seat
abbrev pub with_keeper : View → Kept → View
with_keeper v w = record v {
  keeps = true;
  opened = w.opened;
  resized = w.resized;
  resized_from = w.resized_from;
  stored = None;
  gate = w.gate;
}

abbrev pub no_plan : Plan
no_plan = record { first = 0; capacity = 0; producers = 0 }

-- who knows nothing any more
abbrev pub spent_view : View
spent_view = record (new_producers no_plan 0) { spent = true }

-- ---- several steps

-- the place was claimed at this moment, at which the gate was the expected one, and the frame was put there
abbrev pub ClaimedThen : FrameValue → ℕ → View → View → Type 0
ClaimedThen frame place v w =
    (m : Moment) × (gate_of m ≡ gate_of v.gate) × IsNew v m × HasRoom m × (place ≡ m.claimed)
    × (w ≡ record (with_claim m frame v) { putting = None })

-- the exchange met another gate word
abbrev pub MissedThen : ℕ → ℕ → View → View → Type 0
MissedThen gate found v w = (m : Moment) × (found ≡ gate_of m) × (gate ≢ found) × IsNew v m × (w ≡ seen_gate m v)

-- the front place's number was there: its frame is lifted
abbrev pub LiftedThen : FrameValue → View → View → Type 0
LiftedThen frame v w = w ≡ with_lifted frame (seen_front (v.next + 1) v)

-- it wasn't
abbrev pub NotReadyThen : ℕ → View → View → Type 0
NotReadyThen place v w = (place ≡ v.next) × (w.front ≢ place + 1) × (w ≡ seen_front w.front v)
