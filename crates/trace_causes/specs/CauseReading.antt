-- This project's own: what the fields say that tell why commands are refused, what became of frames, and how turns
-- ended.
use Rattle.std.specs.Prelude.{ℕ, List, [], ◌∷◌, Option, Some, None}
use Rattle.std.specs.Option.{option_map}
use Rattle.tap_ledger.specs.declared.fate.Cause.{Cause}
use Rattle.tap_ledger.specs.declared.fate.Cause.TheVariants as cause
use Rattle.tap_ledger.specs.declared.fate.Fate.{Fate}
use Rattle.tap_ledger.specs.declared.fate.Fate.TheVariants as fate
use Rattle.tap_trace.specs.declared.causes.DriveText.{DriveText}
use Rattle.tap_trace.specs.declared.causes.DriveText.TheVariants as drive
use Rattle.tap_ledger.specs.declared.error.TapErr.TheVariants as tap
use Rattle.tap_trace.specs.declared.causes.VhostText.{VhostText}
use Rattle.tap_trace.specs.declared.causes.VhostText.TheVariants as vhost
use Rattle.tap_trace.specs.declared.turn.TurnText.{TurnText}
use Rattle.tap_trace.specs.declared.turn.TurnText.TheVariants as ends
use Rattle.trace_causes.specs.declared.err_text.ErrText.{ErrText}
use Rattle.trace_causes.specs.declared.err_text.ErrText.TheVariants as err
use Rattle.trace_causes.specs.declared.words.DriveWord.{DriveWord}
use Rattle.trace_causes.specs.declared.words.DriveWord.TheVariants as drive_word
use Rattle.trace_causes.specs.declared.words.DropWord.{DropWord}
use Rattle.trace_causes.specs.declared.words.DropWord.TheVariants as drop_word
use Rattle.trace_causes.specs.declared.words.EndWord.{EndWord}
use Rattle.trace_causes.specs.declared.words.EndWord.TheVariants as end_word
use Rattle.trace_causes.specs.declared.words.ErrWord.{ErrWord}
use Rattle.trace_causes.specs.declared.words.ErrWord.TheVariants as err_word
use Rattle.trace_causes.specs.declared.words.FateWord.{FateWord}
use Rattle.trace_causes.specs.declared.words.FateWord.TheVariants as fate_word
use Rattle.trace_causes.specs.declared.words.VhostWord.{VhostWord}
use Rattle.trace_causes.specs.declared.words.VhostWord.TheVariants as vhost_word
use Rattle.trace_causes.specs.Words.{big_of, busy_of, drive_word as drive_word_of, drop_word as drop_word_of, end_word as end_word_of, err_word as err_word_of, fate_word as fate_word_of, invalid_of, vhost_word as vhost_word_of}
use Rattle.tap_ground.specs.Options.{◌>>=◌}
use Rattle.trace_causes.specs.Reading.{ended, first_by, flag_first, number16, number32, number64, number8, number_to}

-- ---- `err`

-- behind `EINVAL`: the least room, or what makes no sense
abbrev pub room_or_word : Option ℕ → List ℕ → Option ErrText
room_or_word (Some least) field = Some (err.Room least)
room_or_word None field = option_map (λ why. err.Tap (tap.EINVAL why)) (invalid_of field)

abbrev pub room_or_invalid : List ℕ → Option ErrText
room_or_invalid field = room_or_word (number_to 18446744073709551615 field) field

unfoldable pub einval_in : List (List ℕ) → Option ErrText
einval_in fields = do
  a ← first_by room_or_invalid fields
  end ← ended a.1
  Some a.0

-- behind `EBUSY`: nothing, or what is taken
unfoldable pub ebusy_in : List (List ℕ) → Option ErrText
ebusy_in [] = Some err.Busy
ebusy_in (field ∷ behind) = do
  why ← busy_of field
  end ← ended behind
  Some (err.Tap (tap.EBUSY why))

unfoldable pub e2big_in : List (List ℕ) → Option ErrText
e2big_in fields = do
  why ← first_by big_of fields
  end ← ended why.1
  Some (err.Tap (tap.E2BIG why.0))

unfoldable pub eagain_in : List (List ℕ) → Option ErrText
eagain_in fields = do
  place ← number64 fields
  end ← ended place.1
  Some (err.Again place.0)

unfoldable pub err_behind : ErrWord → List (List ℕ) → Option ErrText
err_behind err_word.EEXIST fields = ended fields >>= λ end. Some (err.Tap tap.EEXIST)
err_behind err_word.EINVAL fields = einval_in fields
err_behind err_word.EBUSY fields = ebusy_in fields
err_behind err_word.E2BIG fields = e2big_in fields
err_behind err_word.EBADFD fields = ended fields >>= λ end. Some (err.Tap tap.EBADFD)
err_behind err_word.ENOTSUP fields = ended fields >>= λ end. Some (err.Tap tap.ENOTSUP)
err_behind err_word.ENFILE fields = ended fields >>= λ end. Some (err.Tap tap.ENFILE)
err_behind err_word.EAGAIN fields = eagain_in fields

unfoldable pub err_in : List (List ℕ) → Option ErrText
err_in fields = first_by err_word_of fields >>= λ w. err_behind w.0 w.1

-- ---- `verr`

unfoldable pub ehdr_in : List (List ℕ) → Option VhostText
ehdr_in fields = do
  want ← number16 fields
  have ← number16 want.1
  end ← ended have.1
  Some (vhost.EHDR want.0 have.0)

unfoldable pub verr_behind : VhostWord → List (List ℕ) → Option VhostText
verr_behind vhost_word.EINVAL fields = ended fields >>= λ end. Some vhost.EINVAL
verr_behind vhost_word.EBUSY fields = ended fields >>= λ end. Some vhost.EBUSY
verr_behind vhost_word.EFAULT fields = ended fields >>= λ end. Some vhost.EFAULT
verr_behind vhost_word.ENOBUFS fields = ended fields >>= λ end. Some vhost.ENOBUFS
verr_behind vhost_word.EHDR fields = ehdr_in fields
verr_behind vhost_word.ENOTSUP fields = ended fields >>= λ end. Some vhost.ENOTSUP

unfoldable pub verr_in : List (List ℕ) → Option VhostText
verr_in fields = first_by vhost_word_of fields >>= λ w. verr_behind w.0 w.1

-- ---- `derr`

unfoldable pub outside_in : List (List ℕ) → Option DriveText
outside_in fields = do
  first_bad ← number64 fields
  end ← ended first_bad.1
  Some (drive.Outside first_bad.0)

unfoldable pub too_long_in : List (List ℕ) → Option DriveText
too_long_in fields = do
  len ← number32 fields
  end ← ended len.1
  Some (drive.TooLong len.0)

unfoldable pub ring_full_in : List (List ℕ) → Option DriveText
ring_full_in fields = do
  need ← number16 fields
  free ← number16 need.1
  end ← ended free.1
  Some (drive.Full need.0 free.0)

unfoldable pub stray_in : List (List ℕ) → Option DriveText
stray_in fields = do
  id ← number32 fields
  end ← ended id.1
  Some (drive.Stray id.0)

unfoldable pub derr_behind : DriveWord → List (List ℕ) → Option DriveText
derr_behind drive_word.Unaligned fields = ended fields >>= λ end. Some drive.Unaligned
derr_behind drive_word.Outside fields = outside_in fields
derr_behind drive_word.TooLong fields = too_long_in fields
derr_behind drive_word.Full fields = ring_full_in fields
derr_behind drive_word.Stray fields = stray_in fields

unfoldable pub derr_in : List (List ℕ) → Option DriveText
derr_in fields = first_by drive_word_of fields >>= λ w. derr_behind w.0 w.1

-- ---- `drop`

unfoldable pub gone_in : List (List ℕ) → Option (Option ℕ × Cause)
gone_in fields = do
  file ← number16 fields
  want ← number16 file.1
  found ← number16 want.1
  shut ← flag_first found.1
  end ← ended shut.1
  Some (Some file.0, cause.Gone want.0 found.0 shut.0)

unfoldable pub full_in : List (List ℕ) → Option (Option ℕ × Cause)
full_in fields = do
  file ← number16 fields
  claimed ← number64 file.1
  freed ← number64 claimed.1
  end ← ended freed.1
  Some (Some file.0, cause.Full claimed.0 freed.0)

unfoldable pub spent_in : List (List ℕ) → Option (Option ℕ × Cause)
spent_in fields = do
  file ← number16 fields
  claimed ← number64 file.1
  end ← ended claimed.1
  Some (Some file.0, cause.Spent claimed.0)

unfoldable pub drop_behind : DropWord → List (List ℕ) → Option (Option ℕ × Cause)
drop_behind drop_word.NoQueue fields = ended fields >>= λ end. Some (None, cause.NoQueue)
drop_behind drop_word.Filtered fields = ended fields >>= λ end. Some (None, cause.Filtered)
drop_behind drop_word.Gone fields = gone_in fields
drop_behind drop_word.Full fields = full_in fields
drop_behind drop_word.Spent fields = spent_in fields

unfoldable pub drop_in : List (List ℕ) → Option (Option ℕ × Cause)
drop_in fields = first_by drop_word_of fields >>= λ w. drop_behind w.0 w.1

-- ---- fates

unfoldable pub overrun_in : List (List ℕ) → Option Fate
overrun_in fields = do
  need ← number32 fields
  quota ← number16 need.1
  had ← number64 quota.1
  end ← ended had.1
  Some (fate.Discarded (cause.Overrun need.0 quota.0 had.0))

unfoldable pub fate_behind : FateWord → List (List ℕ) → Option Fate
fate_behind fate_word.Waiting fields = ended fields >>= λ end. Some fate.Waiting
fate_behind fate_word.Read fields = ended fields >>= λ end. Some fate.Read
fate_behind fate_word.Guest fields = ended fields >>= λ end. Some fate.Guest
fate_behind fate_word.Purged fields = ended fields >>= λ end. Some (fate.Discarded cause.Purged)
fate_behind fate_word.Overrun fields = overrun_in fields
fate_behind fate_word.Cut fields = ended fields >>= λ end. Some (fate.Discarded cause.Cut)

unfoldable pub fate_in : List (List ℕ) → Option Fate
fate_in fields = first_by fate_word_of fields >>= λ w. fate_behind w.0 w.1

-- ---- ends of turns

unfoldable pub short_in : List (List ℕ) → Option TurnText
short_in fields = do
  need ← number32 fields
  had ← number64 need.1
  end ← ended had.1
  Some (ends.Short need.0 had.0)

unfoldable pub stopped_in : List (List ℕ) → Option TurnText
stopped_in fields = do
  fault ← number8 fields
  end ← ended fault.1
  Some (ends.Stopped fault.0)

unfoldable pub end_behind : EndWord → List (List ℕ) → Option TurnText
end_behind end_word.Idle fields = ended fields >>= λ end. Some ends.Idle
end_behind end_word.Short fields = short_in fields
end_behind end_word.Again fields = ended fields >>= λ end. Some ends.Again
end_behind end_word.Stopped fields = stopped_in fields
end_behind end_word.Off fields = ended fields >>= λ end. Some ends.Off

-- how a turn ended
unfoldable pub end_in : List (List ℕ) → Option TurnText
end_in fields = first_by end_word_of fields >>= λ w. end_behind w.0 w.1
