-- This project's own: the numbers of fates of each kind over the frames, and the sum of the frames' lengths.
use Rattle.std.specs.Prelude.{◌≡◌, ℕ, ◌+◌, ◌<◌, ◌==◌, Bool, true, false, if◌then◌else◌, List, length, sum_by, slice_index}
use Rattle.tap_ledger.specs.declared.counters.Counters.{Counters}
use Rattle.tap_ledger.specs.declared.fate.Fate.{Fate}
use Rattle.tap_ledger.specs.declared.fate.Fate.TheVariants.{Waiting, Read, Guest, Host, Discarded}
use Rattle.tap_ledger.specs.Fate.{number}

-- the kinds of fates
abbrev pub is_waiting : Fate → Bool
is_waiting Waiting = true
is_waiting fate = false

abbrev pub is_read : Fate → Bool
is_read Read = true
is_read fate = false

abbrev pub is_guest : Fate → Bool
is_guest Guest = true
is_guest fate = false

abbrev pub is_host : Fate → Bool
is_host Host = true
is_host fate = false

-- discarded for the cause of this number
abbrev pub has_cause : ℕ → Fate → Bool
has_cause k (Discarded cause) = number cause == k
has_cause k fate = false

-- 1 where the test holds
abbrev pub one_if : Bool → ℕ
one_if test = if test then 1 else 0

-- how many of the frames have a fate of which a test holds
abbrev pub how_many : (Fate → Bool) → List (Fate × ℕ) → ℕ
how_many test fates = sum_by (λ f. one_if (test f.0)) fates

-- these are the counts of frames with these fates and lengths
pub record Counts (counters : Counters) (fates : List (Fate × ℕ)) : Type 0 where
  pub accepted : counters.accepted ≡ length fates
  pub waiting : counters.waiting ≡ how_many is_waiting fates
  pub read : counters.read ≡ how_many is_read fates
  pub guest : counters.guest ≡ how_many is_guest fates
  pub host : counters.host ≡ how_many is_host fates
  pub by_cause : (k : ℕ) → k < 9 → slice_index counters.by_cause k ≡ how_many (has_cause k) fates
  pub bytes : counters.bytes ≡ sum_by (λ f. f.1) fates

-- the new counts have one more frame, with this fate and this length
pub record IsCounted (fate : Fate) (len : ℕ) (old new : Counters) : Type 0 where
  pub accepted : new.accepted ≡ old.accepted + 1
  pub waiting : new.waiting ≡ old.waiting + one_if (is_waiting fate)
  pub read : new.read ≡ old.read + one_if (is_read fate)
  pub guest : new.guest ≡ old.guest + one_if (is_guest fate)
  pub host : new.host ≡ old.host + one_if (is_host fate)
  pub by_cause : (k : ℕ) → k < 9 → slice_index new.by_cause k ≡ slice_index old.by_cause k + one_if (has_cause k fate)
  pub bytes : new.bytes ≡ old.bytes + len
