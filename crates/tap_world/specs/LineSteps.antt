-- This project's own: what one step changes of one file, as data; none where the step isn't allowed.
use Rattle.std.specs.Prelude.{ℕ, zero, suc, ◌+◌, ◌-◌, ◌==◌, ◌&&◌, ◌||◌, not, nat_lt, if◌then◌else◌, List, [], ◌∷◌, ◌++◌, Bool, true, false, Option, Some, None, is_some, is_none, slice_get}
use Rattle.std.specs.Option.{option_map_or}
use Rattle.tap_frame.specs.declared.name.Name.{Name}
use Rattle.tap_ledger.specs.declared.fate.Fate.{Fate}
use Rattle.tap_ground.specs.Options.{◌>>=◌, only_if}
use Rattle.tap_world.specs.Line.{Entry, File, Standing, count, entry_ready, first_that, has_batch, has_claim, in_batch, in_ring, is_empty, is_full, is_gone, is_over, is_spent, last_that}
use Rattle.tap_world.specs.declared.line.Standing.TheVariants.{Batched, Claimed, Cut, Out, Ready}

-- the changes of a file
pub data Change : Type 0 where
  Claims : ℕ → Name → ℕ → ℕ → Change  -- an actor gets a place for a frame, under an epoch, for so many bytes
  Puts : ℕ → ℕ → Change  -- an actor puts the frame at the place that it has claimed
  Moves : Change  -- the ring's front becomes the batch's last
  Takes : ℕ → Change  -- a vhost's worker takes the front in hand
  PutsBack : ℕ → Change  -- it puts it back
  Leaves : Option ℕ → Fate → Change  -- the batch's front leaves with a fate, as it is or from a worker's hand
  Shuts : Change  -- the gate is shut
  Reopens : Change  -- and opened under the next epoch
  Sizes : ℕ → Change  -- the ring has another capacity
  Cuts : Change  -- the ring's last entry is cut
  Owned : Option ℕ → Change  -- a vhost's worker owns the file, or none does

-- ---- the line

-- the entry at a place of the list stands elsewhere now
abbrev pub restand : ℕ → Standing → List Entry → List Entry
restand i s [] = []
restand zero s (e ∷ es) = record e { stands = s } ∷ es
restand (suc i) s (e ∷ es) = e ∷ restand i s es

-- an entry that is found stands elsewhere now
abbrev pub moves_to : Standing → File → Option ℕ → Option File
moves_to s f None = None
moves_to s f (Some i) = Some (record f { line = restand i s f.line })

-- the ring's front, where it is ready
abbrev pub ready_front : List Entry → Option ℕ
ready_front line = do
  i ← first_that in_ring line
  entry_ready (slice_get line i) i

-- up to so many ready fronts go to the batch, one after another
abbrev pub filled : ℕ → List Entry → List Entry
filled zero line = line
filled (suc more) line = option_map_or (λ i. filled more (restand i Batched line)) (ready_front line) line

-- ---- the changes

-- a frame gets the next place, not yet put, where the ring is open to it and neither spent nor full
abbrev pub claimed_by : ℕ → Name → ℕ → ℕ → File → Option File
claimed_by actor name epoch len f =
    only_if (not (is_gone epoch f || is_spent f || is_full f))
    (record f { line = f.line ++ record { name = name; epoch = epoch; len = len; stands = Claimed actor } ∷ [] })

-- the entry is a place that this actor has claimed
abbrev pub is_claim_of : ℕ → Standing → Bool
is_claim_of actor (Claimed other) = other == actor
is_claim_of actor other = false

-- the actor puts its frame
abbrev pub put_by : ℕ → ℕ → File → Option File
put_by actor place f = do
  e ← slice_get f.line (place - f.first)
  only_if (is_claim_of actor e.stands) (record f { line = restand (place - f.first) Ready f.line })

-- the ring's front, which is ready, becomes the batch's last, where the batch has room
abbrev pub moved : File → Option File
moved f = if nat_lt (count in_batch f.line) 64 then moves_to Batched f (ready_front f.line) else None

-- with an empty batch up to 64 ready fronts move to it; then the front is in hand
abbrev pub taken_by : ℕ → File → Option File
taken_by vhost f =
    let line : List Entry = if has_batch f then f.line else filled 64 f.line in
    only_if (option_map_or (λ v. v == vhost) f.owner false && is_none f.hand && is_some (first_that in_batch line))
    (record f { line = line; hand = Some vhost })

abbrev pub is_in_hand_of : ℕ → File → Bool
is_in_hand_of vhost f = option_map_or (λ v. v == vhost) f.hand false

abbrev pub put_back_by : ℕ → File → Option File
put_back_by vhost f = only_if (is_in_hand_of vhost f) (record f { hand = None })

-- nothing is in hand, or this worker has the front in hand
abbrev pub may_leave : Option ℕ → File → Bool
may_leave None f = is_none f.hand
may_leave (Some vhost) f = is_in_hand_of vhost f

-- the batch's front leaves with its fate, and nothing is in hand
abbrev pub left_by : Option ℕ → Fate → File → Option File
left_by worker fate f =
    if may_leave worker f then moves_to (Out fate) (record f { hand = None }) (first_that in_batch f.line) else None

abbrev pub shut_now : File → Option File
shut_now f = only_if (not f.shut) (record f { shut = true })

-- a gate is opened where batch and ring are empty and an epoch is left
abbrev pub reopened : File → Option File
reopened f =
    only_if (f.shut && is_empty f && nat_lt f.epoch 65535) (record f { shut = false; epoch = f.epoch + 1 })

abbrev pub resized : ℕ → File → Option File
resized capacity f = only_if (nat_lt f.resizes 127) (record f { capacity = capacity; resizes = f.resizes + 1 })

-- the ring's last entry is cut, where more wait than it has places and each of its places is put
abbrev pub cut_last : File → Option File
cut_last f = if is_over f && not (has_claim f) then moves_to Cut f (last_that in_ring f.line) else None

-- what a change makes of a file
abbrev pub changed : Change → File → Option File
changed (Claims actor name epoch len) f = claimed_by actor name epoch len f
changed (Puts actor place) f = put_by actor place f
changed Moves f = moved f
changed (Takes vhost) f = taken_by vhost f
changed (PutsBack vhost) f = put_back_by vhost f
changed (Leaves worker fate) f = left_by worker fate f
changed Shuts f = shut_now f
changed Reopens f = reopened f
changed (Sizes capacity) f = resized capacity f
changed Cuts f = cut_last f
changed (Owned owner) f = only_if (is_none f.hand) (record f { owner = owner })
