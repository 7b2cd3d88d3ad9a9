-- This project's own, clause d of a legal trace: frames that found their ring full, or its places spent.
use Rattle.std.specs.Prelude.{ℕ, ◌+◌, ◌-◌, ◌^◌, ◌==◌, ◌&&◌, ◌||◌, not, nat_lt, nat_le, Bool, true, false, List, Option, Some}
use Rattle.std.specs.List.{list_any}
use Rattle.std.specs.Option.{option_map_or}
use Rattle.tap_ledger.specs.declared.fate.Cause.TheVariants as cause
use Rattle.tap_steer.specs.declared.operation.Op.{Op}
use Rattle.tap_steer.specs.declared.operation.Op.TheVariants as op
use Rattle.tap_steer.specs.Select.{capacity_of}
use Rattle.tap_trace.specs.declared.answer.Answer.{Answer}
use Rattle.tap_trace.specs.declared.answer.Answer.TheVariants as answer
use Rattle.tap_legal.specs.Numbered.{AnswerAt, Asked, EntryAt, OpAt, Told}
use Rattle.tap_legal.specs.Case.{Case, fails_each, of_answer}
use Rattle.tap_legal.specs.Lookups.{asked_at, claimed_of, freed_of, is_above_before, is_at_most_later, put_in, some_now, table_at}
use Rattle.tap_legal.specs.Takes.{was_taken_before}

-- Either k - d is the capacity of the file at a version from SEEN on, of the phase, and below the next one that this
-- actor publishes;
abbrev pub had_capacity : Case → AnswerAt → ℕ → ℕ → ℕ → Bool
had_capacity c a file k d = some_now c a (λ t. k == d + capacity_of t file)

-- or another actor of the phase resizes the file above SEEN, and k - d is above the new capacity and at most the one
-- before it.
abbrev pub is_resize_of : ℕ → ℕ → ℕ → ℕ → Option Op → Bool
is_resize_of file k d before (Some (op.Resize f capacity)) =
    f == file && nat_lt (d + capacity) k && nat_le k (d + before)
is_resize_of file k d before other = false

abbrev pub is_other_actor : Case → Told → OpAt → Bool
is_other_actor c t o = option_map_or (λ (b : Asked). not (b.told.actor == t.actor)) (asked_at c o.at.command) false

abbrev pub is_resized_above : Case → AnswerAt → ℕ → ℕ → ℕ → OpAt → Bool
is_resized_above c a file k d o =
    o.phase == a.told.phase && nat_lt a.seen o.at.version && is_other_actor c a.told o
    && is_resize_of file k d (capacity_of (table_at c (o.at.version - 1)) file) o.op

-- k is at most CLAIMED, above each place that this actor or an earlier phase had placed before, and at most each place
-- that this actor places later.
abbrev pub fits_claimed : Case → AnswerAt → ℕ → ℕ → Bool
fits_claimed c a file k =
    nat_le k (claimed_of c file)
    && is_above_before (put_in file) a.told k c.answers
    && is_at_most_later (put_in file) a.told k c.answers

-- d is at most FREED, and above the place of each entry that a command before this one read, copied to a guest or
-- purged.
abbrev pub fits_freed : Case → AnswerAt → ℕ → ℕ → Bool
fits_freed c a file d =
    nat_le d (freed_of c file)
    && not (list_any (λ (e : EntryAt). e.file == file && nat_le d e.at.place && was_taken_before c a.told e) c.entries)

abbrev pub fits_full : Case → AnswerAt → ℕ → ℕ → ℕ → Bool
fits_full c a file k d =
    (had_capacity c a file k d || list_any (is_resized_above c a file k d) c.ops)
    && fits_claimed c a file k && fits_freed c a file d

-- A Spent names 2 ^ 40 - 1, which is CLAIMED.
abbrev pub fits_spent : Case → ℕ → ℕ → Bool
fits_spent c file k = k == 2 ^ 40 - 1 && claimed_of c file == k

abbrev pub fits_drop : Case → AnswerAt → Answer → Bool
fits_drop c a (answer.Dropped (Some file) (cause.Full k d)) = fits_full c a file k d
fits_drop c a (answer.Dropped (Some file) (cause.Spent k)) = fits_spent c file k
fits_drop c a other = true

abbrev pub d_fails : Case → List ℕ
d_fails c = fails_each of_answer (λ a. fits_drop c a a.answer) c.answers
