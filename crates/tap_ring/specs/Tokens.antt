-- This project's own: what a token of a ring is to a contract, and what its seat knows between two calls.
use Rattle.std.specs.Prelude.{◌≡◌, ◌<◌, ◌≤◌, true, false, [], length, None}
use Rattle.atomic_table.specs.Seated.{TableId}
use Rattle.tap_ring.specs.declared.rule.Produced.{Produced}
use Rattle.tap_ring.specs.declared.rule.Consumed.{Consumed}
use Rattle.tap_ring.specs.declared.rule.Kept.{Kept}
use Rattle.tap_ring.specs.declared.rule.View.{View}
use Rattle.tap_ring.specs.declared.rule.Plan.{Plan}
use Rattle.tap_ring.specs.declared.gate.TheConstants.{CLAIMS_END, RESIZES_END}
use Rattle.tap_ring.specs.Standing.{new_producers}

-- the ring that a token is of, and what it knows
pub record Token (V : Type 0) : Type 0 where
  pub ring : TableId
  pub view : V

abbrev pub token : {V : Type 0} → TableId → V → Token V
token ring view = record { ring = ring; view = view }

-- ---- what a seat knows as a producer, as the consumer and as the keeper

abbrev pub produced : View → Produced
produced v = record {
  mine = v.mine;
  gate = v.gate;
  gate_loads = v.gate_loads;
  asked = v.asked;
  asked_loads = v.asked_loads;
  loaded = v.loaded;
  room = v.room;
  room_loads = v.room_loads;
}

abbrev pub consumed : View → Consumed
consumed v =
    record { next = v.next; lifted = v.lifted; freed = v.freed; front = v.front; front_loads = v.front_loads }

abbrev pub kept : View → Kept
kept v = record { gate = v.gate; opened = v.opened; resized = v.resized; resized_from = v.resized_from }

-- as each of them begins
abbrev pub new_producer : Plan → Produced
new_producer plan = produced (new_producers plan 1)

abbrev pub new_consumer : Plan → Consumed
new_consumer plan = consumed (new_producers plan 0)

abbrev pub new_keeper : Plan → Kept
new_keeper plan = kept (new_producers plan 0)

-- ---- seats between two calls

-- a producer's
pub record IsProducer (v : View) : Type 0 where
  pub parts : v.parts ≡ 1
  pub putting : v.putting ≡ None
  pub spent : v.spent ≡ false

-- the consumer's
pub record IsConsumer (v : View) : Type 0 where
  pub takes : v.takes ≡ true
  pub in_hand : v.in_hand ≡ None
  pub order : v.freed ≤ v.next
  pub bound : v.next < CLAIMS_END
  pub parts : v.parts ≡ 0
  pub mine : v.mine ≡ []
  pub putting : v.putting ≡ None
  pub spent : v.spent ≡ false

-- the keeper's
pub record IsKeeper (v : View) : Type 0 where
  pub keeps : v.keeps ≡ true
  pub resizes : v.gate.resizes < RESIZES_END
  pub opened : v.gate.epoch ≡ length v.opened
  pub resized : v.gate.resizes ≡ length v.resized
  pub parts : v.parts ≡ 0
  pub mine : v.mine ≡ []
  pub putting : v.putting ≡ None
  pub spent : v.spent ≡ false
