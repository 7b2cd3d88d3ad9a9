-- This project's own: the line of a file, which has each frame that ever got a place of its ring, in the order placed,
-- and where each of them stands; and the conditions on the ring.
use Rattle.std.specs.Prelude.{ℕ, ◌+◌, ◌-◌, ◌^◌, ◌==◌, ◌||◌, not, nat_le, if◌then◌else◌, List, [], ◌∷◌, length, Bool, true, false, Option, Some, None, is_some, is_none, option_map}
use Rattle.std.specs.Option.{option_map_or}
use Rattle.tap_ledger.specs.declared.fate.Fate.{Fate}
use Rattle.tap_ledger.specs.declared.fate.Fate.TheVariants.{Waiting, Discarded}
use Rattle.tap_ledger.specs.declared.fate.Cause.TheVariants as cause
use Rattle.tap_world.specs.declared.line.Standing.TheVariants.{Batched, Claimed, Cut, Out, Ready}
use Rattle.tap_ground.specs.Options.{only_if}
pub use Rattle.tap_world.specs.declared.line.Entry.{Entry}
pub use Rattle.tap_world.specs.declared.line.Standing.{Standing}

-- ---- the line

-- A file: the place of the line's first entry, the capacity of its ring and how often it was resized, the line, the
-- gate with its epoch, the worker that owns it, and the vhost that has its front frame in hand.
pub record File : Type 0 where
  pub first : ℕ
  pub capacity : ℕ
  pub resizes : ℕ
  pub line : List Entry
  pub epoch : ℕ
  pub shut : Bool
  pub owner : Option ℕ
  pub hand : Option ℕ

-- ---- the parts of the line

abbrev pub in_ring : Standing → Bool
in_ring (Claimed actor) = true
in_ring Ready = true
in_ring other = false

abbrev pub is_ready : Standing → Bool
is_ready Ready = true
is_ready other = false

abbrev pub is_claimed : Standing → Bool
is_claimed (Claimed actor) = true
is_claimed other = false

abbrev pub in_batch : Standing → Bool
in_batch Batched = true
in_batch other = false

-- it waits: in the batch or in the ring
abbrev pub is_kept : Standing → Bool
is_kept (Out fate) = false
is_kept Cut = false
is_kept other = true

-- what has become of the frame
abbrev pub fate_of : Standing → Fate
fate_of (Out fate) = fate
fate_of Cut = Discarded cause.Cut
fate_of other = Waiting

-- how many entries stand so
abbrev pub count : (Standing → Bool) → List Entry → ℕ
count test [] = 0
count test (e ∷ es) = (if test e.stands then 1 else 0) + count test es

-- the place in the list of the first, and of the last, that stands so
abbrev pub first_that : (Standing → Bool) → List Entry → Option ℕ
first_that test [] = None
first_that test (e ∷ es) = if test e.stands then Some 0 else option_map (λ i. i + 1) (first_that test es)

abbrev pub or_here : Bool → Option ℕ → Option ℕ
or_here here (Some i) = Some (i + 1)
or_here here None = only_if here 0

abbrev pub last_that : (Standing → Bool) → List Entry → Option ℕ
last_that test [] = None
last_that test (e ∷ es) = or_here (test e.stands) (last_that test es)

-- ---- the numbers of a file

-- the first place that was never given out
abbrev pub claimed : File → ℕ
claimed f = f.first + length f.line

-- the first place, and as many more as there are entries whose place is free again: out, in the batch, or cut
abbrev pub freed : File → ℕ
freed f = f.first + count (λ s. not (in_ring s)) f.line

-- the least place in the ring, and the next place to be given out where none is in the ring
abbrev pub front_place : File → ℕ
front_place f = option_map_or (λ i. f.first + i) (first_that in_ring f.line) (claimed f)

-- this place in the list, where the entry there is ready
abbrev pub entry_ready : Option Entry → ℕ → Option ℕ
entry_ready e i = only_if (option_map_or (λ (x : Entry). is_ready x.stands) e false) i

-- batch and ring are empty
abbrev pub is_empty : File → Bool
is_empty f = is_none (first_that is_kept f.line)

abbrev pub has_batch : File → Bool
has_batch f = is_some (first_that in_batch f.line)

-- ---- conditions on the ring

-- claimed - freed is at least the capacity
abbrev pub is_full : File → Bool
is_full f = nat_le (freed f + f.capacity) (claimed f)

-- the gate is shut, or under another epoch than the wanted one
abbrev pub is_gone : ℕ → File → Bool
is_gone want f = f.shut || not (f.epoch == want)

-- all 2 ^ 40 - 1 places are given out
abbrev pub is_spent : File → Bool
is_spent f = claimed f == 2 ^ 40 - 1

-- claimed - freed is above the capacity, as after a resize
abbrev pub is_over : File → Bool
is_over f = nat_le (freed f + f.capacity + 1) (claimed f)

-- a place is claimed and not yet put
abbrev pub has_claim : File → Bool
has_claim f = is_some (first_that is_claimed f.line)
