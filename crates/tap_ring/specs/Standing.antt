-- This project's own: the rule of a ring, which holds between any two steps.
-- The words are the gate, the freed count, the capacity of each number of resizes, and one word a slot. The place p has
-- the slot p % slots, whose word is p + 1 once its frame was put.
use Rattle.std.specs.Prelude.{◌≡◌, ℕ, ◌+◌, ◌%◌, ◌<◌, ◌≤◌, ◌==◌, ◌⊎◌, nat_lt, if◌then◌else◌, true, false, List, [], ◌∷◌, map, take, length, replicate, slice_index, slice_set, Option, Some, None}
use mathlib.Core.Option.{some, none}
use mathlib.Core.Option as maybe
use lib.ListN.{get_elem?}
use Rattle.atomic_table.specs.Table.{State}
use Rattle.tap_frame.specs.Frame.{FrameValue}
use Rattle.tap_ring.specs.declared.rule.Moment.{Moment}
use Rattle.tap_ring.specs.declared.rule.Claim.{Claim}
use Rattle.tap_ring.specs.declared.rule.View.{View}
use Rattle.tap_ring.specs.declared.rule.Plan.{Plan}
use Rattle.tap_ring.specs.declared.gate.TheConstants.{RESIZES_END, TURN}
use Rattle.tap_ring.specs.declared.steps.TheConstants.{GATE, FREED, CAPACITIES, PLACES}
use Rattle.tap_ring.specs.Moments.{Fits, KeepsRoom, IsPast, EachPast, gate_of, capacity_at}
use Rattle.tap_ring.specs.Turns.{turns_to, IsGiven, EachGiven}

-- a ring's words, slots and views as plain data
abbrev pub RingState : Type 0
RingState = State (Option FrameValue) View

-- a claim with the seat that made it
pub record Placing : Type 0 where
  pub by : ℕ
  pub claim : Claim

-- what the words and slots don't show by themselves
pub record Standing : Type 0 where
  pub now : Moment
  -- the first place that wasn't lifted
  pub lifted : ℕ
  -- each claim, in the order of places
  pub log : List Placing
  -- the claim count at each reopening, and the capacity of each resize
  pub opened : List ℕ
  pub resized : List ℕ
  -- the claim count at the last resize
  pub resized_from : ℕ
  -- the seats of the consumer and of the keeper
  pub consumer : ℕ
  pub keeper : ℕ

abbrev pub slots_of : RingState → ℕ
slots_of s = length s.homes

-- the number of a place's slot
abbrev pub slot_at : RingState → ℕ → ℕ
slot_at s p = p % slots_of s

-- the word of a place
abbrev pub word_at : RingState → ℕ → ℕ
word_at s p = slice_index s.words (PLACES + slot_at s p)

-- what lies in the slot of a place, if it is at home
abbrev pub home_at : RingState → ℕ → maybe.Option (maybe.Option (Option FrameValue))
home_at s p = get_elem? s.homes (slot_at s p)

-- this claim was given this place
abbrev pub IsEntered : ℕ → List Placing → ℕ → Placing → Type 0
IsEntered first log place x = (k : ℕ) × (place ≡ first + k) × (x.claim.place ≡ place) × (get_elem? log k ≡ some x)

-- ---- places

module _ (first : ℕ) (s : RingState) (h : Standing) (p : ℕ) where
  -- the frame of the claim lies in the slot, and the word says so
  abbrev pub IsReady : Type 0
  IsReady = (word_at s p ≡ p + 1)
      × ((x : Placing) × IsEntered first h.log p x × (home_at s p ≡ some (some (Some x.claim.frame))))

  -- the seat that claimed the place has its slot, and hasn't put the frame yet
  abbrev pub IsClaimed : Type 0
  IsClaimed = (word_at s p ≤ p)
      × ((x : Placing) × (v : View) × IsEntered first h.log p x
      × (get_elem? s.views x.by ≡ some v) × (v.putting ≡ Some x.claim))

  -- the consumer has the slot of the front place
  abbrev pub IsInHand : Type 0
  IsInHand = (p ≡ h.lifted)
      × ((v : View) × (f : FrameValue) × (get_elem? s.views h.consumer ≡ some v) × (v.in_hand ≡ Some f))

  -- how one of the places from the freed count on stands, as many as there are slots
  pub record IsPlace : Type 0 where
    pub word : word_at s p ≤ p + 1
    pub lifted : p < h.lifted → home_at s p ≡ some (some None)
    pub spare : h.now.claimed ≤ p → home_at s p ≡ some (some None)
    pub unput : h.now.claimed ≤ p → word_at s p ≤ p
    pub waits : h.lifted ≤ p → p < h.now.claimed → IsReady ⊎ IsClaimed ⊎ IsInHand

-- ---- views

-- each of the claims has this
abbrev pub EachClaim : (Claim → Type 0) → List Claim → Type 0
EachClaim P [] = Unit {0}
EachClaim P (c ∷ cs) = P c × EachClaim P cs

-- the frames of the claims, in the order of places
abbrev pub frames_of : List Placing → List FrameValue
frames_of log = map (λ x. x.claim.frame) log

module _ (plan : Plan) (s : RingState) (h : Standing) (j : ℕ) (v : View) where
  -- what a producer claimed stands in the order of places, and what it is putting is its own
  pub record KnowsClaims : Type 0 where
    pub mine : EachClaim (λ c. (x : Placing) × IsEntered plan.first h.log c.place x × (x.claim ≡ c)) v.mine
    pub idle : v.parts ≡ 0 → (v.mine ≡ []) × (v.putting ≡ None)
    pub putting : (c : Claim) → v.putting ≡ Some c
        → IsEntered plan.first h.log c.place record { by = j; claim = c }
        × (h.lifted ≤ c.place) × (word_at s c.place ≤ c.place)

  -- the consumer has lifted the first frames, and alone lifts and frees
  pub record KnowsFront : Type 0 where
    pub own : j ≡ h.consumer
    pub next : v.next ≡ h.lifted
    pub freed : v.freed ≡ h.now.freed
    pub count : h.lifted ≡ plan.first + length v.lifted
    pub frames : v.lifted ≡ take (length v.lifted) (frames_of h.log)
    pub hand : (f : FrameValue) → v.in_hand ≡ Some f
        → (word_at s h.lifted ≡ h.lifted + 1)
        × ((x : Placing) × IsEntered plan.first h.log h.lifted x × (x.claim.frame ≡ f))

  -- the keeper alone shuts, reopens and resizes; of a shut gate it knows the claim count
  pub record KnowsGate : Type 0 where
    pub own : j ≡ h.keeper
    pub shut : v.gate.shut ≡ h.now.shut
    pub epoch : v.gate.epoch ≡ h.now.epoch
    pub resizes : v.gate.resizes ≡ h.now.resizes
    pub claimed : v.gate.shut ≡ true → v.gate.claimed ≡ h.now.claimed
    pub stored : (c : ℕ) → v.stored ≡ Some c
        → (h.now.resizes + 1 < RESIZES_END) × (capacity_at s.words (h.now.resizes + 1) ≡ c) × (c ≤ slots_of s)

  -- the keeper knows each reopening and each resize
  abbrev pub KnowsTurns : Type 0
  KnowsTurns = (v.opened ≡ h.opened) × (v.resized ≡ h.resized) × (v.resized_from ≡ h.resized_from)

  -- what a seat knows
  pub record Knows : Type 0 where
    pub claims : KnowsClaims
    pub front : v.takes ≡ true → KnowsFront
    pub keeps : v.keeps ≡ true → KnowsGate
    pub turns : v.keeps ≡ true → KnowsTurns
    pub sizes : EachGiven plan.capacity h.resized v.loaded
    pub gate : v.spent ≡ false → IsPast s.words h.now v.gate
    pub asked : v.spent ≡ false → IsPast s.words h.now v.asked
    pub room : v.spent ≡ false → IsPast s.words h.now v.room
    pub met : EachPast s.words h.now v.met

-- ---- reopenings and resizes

-- The epoch is the number of reopenings, and each claim has the one of its place: the number of reopenings at or before
-- it. None is above the claim count.
pub record CountsTurns (first claimed epoch : ℕ) (log : List Placing) (opened : List ℕ) : Type 0 where
  pub count : epoch ≡ length opened
  pub ahead : (p : ℕ) → claimed ≤ p → turns_to p opened ≡ epoch
  pub claims : (p : ℕ) (x : Placing) → IsEntered first log p x → x.claim.epoch ≡ turns_to p opened

-- the words of the capacities have the first one and those of the resizes, as many as there were
pub record CountsSizes (first : ℕ) (words : List ℕ) (resizes : ℕ) (resized : List ℕ) : Type 0 where
  pub count : resizes ≡ length resized
  pub given : (n : ℕ) → n ≤ resizes → IsGiven first resized n (capacity_at words n)

-- ---- the rule

-- how many of these claims are to the place
abbrev pub times : ℕ → List Claim → ℕ
times p [] = 0
times p (c ∷ cs) = (if c.place == p then 1 else 0) + times p cs

-- a number of each view, added up
abbrev pub total : (View → ℕ) → List View → ℕ
total f [] = 0
total f (v ∷ vs) = f v + total f vs

-- 1 for each place from first to the end, else 0
abbrev pub within : ℕ → ℕ → ℕ → ℕ
within first end p = if nat_lt p first then 0 else if nat_lt p end then 1 else 0

pub record Ring (plan : Plan) (s : RingState) : Type 0 where
  pub h : Standing
  pub some_slot : 0 < slots_of s
  pub wide : length s.words ≡ PLACES + slots_of s
  -- the words
  pub gate : slice_index s.words GATE ≡ gate_of h.now
  pub freed : slice_index s.words FREED ≡ h.now.freed
  pub capacity : capacity_at s.words h.now.resizes ≡ h.now.capacity
  pub fits : Fits h.now
  pub small : h.now.capacity ≤ slots_of s
  -- freed, lifted, claimed
  pub start : plan.first ≤ h.now.freed
  pub below : h.now.freed ≤ h.lifted
  pub behind : h.lifted ≤ h.now.claimed
  pub ahead : h.now.claimed ≤ h.now.freed + slots_of s
  pub long : h.now.claimed ≡ plan.first + length h.log
  pub room : KeepsRoom h.now.claimed h.now.freed h.now.capacity h.resized_from
  -- the places from the freed count on, as many as there are slots
  pub places : (p : ℕ) → h.now.freed ≤ p → p < h.now.freed + slots_of s → IsPlace plan.first s h p
  -- reopenings and resizes
  pub turns : CountsTurns plan.first h.now.claimed h.now.epoch h.log h.opened
  pub sizes : CountsSizes plan.capacity s.words h.now.resizes h.resized
  -- the seats
  pub seats : (j : ℕ) (v : View) → get_elem? s.views j ≡ some v → Knows plan s h j v
  pub parts : total (λ v. v.parts) s.views ≡ plan.producers
  pub once : (p : ℕ) → total (λ v. times p v.mine) s.views ≡ within plan.first h.now.claimed p

-- ---- the first seat, from which the tokens come

-- a ring that has just been made
abbrev pub opening_moment : ℕ → ℕ → Moment
opening_moment first capacity =
    record { claimed = first; freed = first; shut = true; epoch = 0; resizes = 0; capacity = capacity }

-- a seat that is so many producers, and saw the ring being made
abbrev pub new_producers : Plan → ℕ → View
new_producers plan parts = record {
  parts = parts;
  mine = [];
  putting = None;
  takes = false;
  next = plan.first;
  lifted = [];
  in_hand = None;
  freed = plan.first;
  keeps = false;
  opened = [];
  resized = [];
  resized_from = plan.first;
  stored = None;
  met = [];
  spent = false;
  gate = opening_moment plan.first plan.capacity;
  gate_loads = 0;
  asked = opening_moment plan.first plan.capacity;
  asked_loads = 0;
  loaded = [];
  room = opening_moment plan.first plan.capacity;
  room_loads = 0;
  front = 0;
  front_loads = 0;
}

-- the first seat, when it is so many producers still, and the consumer and the keeper
abbrev pub maker_of : Plan → ℕ → View
maker_of plan parts = record (new_producers plan parts) { takes = true; keeps = true }

abbrev pub maker : Plan → View
maker plan = maker_of plan plan.producers

-- the words of a ring that has just been made
abbrev pub first_words : ℕ → ℕ → ℕ → List ℕ
first_words most first capacity =
    slice_set (slice_set (slice_set (replicate (PLACES + most) 0) GATE (first + TURN)) FREED first) CAPACITIES capacity
