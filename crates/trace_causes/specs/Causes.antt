-- This project's own: how the causes are written for which commands are refused and frames are discarded, and how turns
-- ended.
use Rattle.std.specs.Prelude.{ℕ, List, [], ◌∷◌, ◌++◌, codes, Option, Some, None}
use Rattle.std.specs.Fmt.{decimal}
use Rattle.tap_ledger.specs.declared.fate.Cause.{Cause}
use Rattle.tap_ledger.specs.declared.fate.Cause.TheVariants as cause
use Rattle.tap_ledger.specs.declared.fate.Fate.{Fate}
use Rattle.tap_ledger.specs.declared.fate.Fate.TheVariants as fate
use Rattle.tap_trace.specs.declared.causes.DriveText.{DriveText}
use Rattle.tap_trace.specs.declared.causes.DriveText.TheVariants as drive
use Rattle.tap_ledger.specs.declared.error.TapErr.{TapErr as TapText}
use Rattle.tap_ledger.specs.declared.error.TapErr.TheVariants as tap
use Rattle.tap_trace.specs.declared.causes.VhostText.{VhostText}
use Rattle.tap_trace.specs.declared.causes.VhostText.TheVariants as vhost
use Rattle.tap_trace.specs.declared.turn.TurnText.{TurnText}
use Rattle.tap_trace.specs.declared.turn.TurnText.TheVariants as ends
use Rattle.trace_causes.specs.declared.err_text.ErrText.{ErrText}
use Rattle.trace_causes.specs.declared.err_text.ErrText.TheVariants as err
use Rattle.trace_causes.specs.declared.words.DriveWord.TheVariants as drive_word
use Rattle.trace_causes.specs.declared.words.DropWord.TheVariants as drop_word
use Rattle.trace_causes.specs.declared.words.EndWord.TheVariants as end_word
use Rattle.trace_causes.specs.declared.words.ErrWord.TheVariants as err_word
use Rattle.trace_causes.specs.declared.words.FateWord.TheVariants as fate_word
use Rattle.trace_causes.specs.declared.words.VhostWord.TheVariants as vhost_word
use Rattle.trace_causes.specs.Words.{big_spelling, busy_spelling, drive_spelling, drop_spelling, end_spelling, err_spelling, fate_spelling, flag_spelling, invalid_spelling, vhost_spelling}

-- why the table refuses an operation
abbrev pub tap_fields : TapText → List (List ℕ)
tap_fields tap.EEXIST = err_spelling err_word.EEXIST ∷ []
tap_fields (tap.EINVAL why) = err_spelling err_word.EINVAL ∷ invalid_spelling why ∷ []
tap_fields (tap.EBUSY why) = err_spelling err_word.EBUSY ∷ busy_spelling why ∷ []
tap_fields (tap.E2BIG why) = err_spelling err_word.E2BIG ∷ big_spelling why ∷ []
tap_fields tap.EBADFD = err_spelling err_word.EBADFD ∷ []
tap_fields tap.ENOTSUP = err_spelling err_word.ENOTSUP ∷ []
tap_fields tap.ENFILE = err_spelling err_word.ENFILE ∷ []

-- what stands behind `err`: the least room of a read, that nothing can be read or which place isn't ready, or why the
-- table refuses an operation
abbrev pub err_fields : ErrText → List (List ℕ)
err_fields (err.Room least) = err_spelling err_word.EINVAL ∷ decimal least ∷ []
err_fields err.Busy = err_spelling err_word.EBUSY ∷ []
err_fields (err.Again place) = err_spelling err_word.EAGAIN ∷ decimal place ∷ []
err_fields (err.Tap why) = tap_fields why

-- why a vhost refuses a command
abbrev pub vhost_fields : VhostText → List (List ℕ)
vhost_fields vhost.EINVAL = vhost_spelling vhost_word.EINVAL ∷ []
vhost_fields vhost.EBUSY = vhost_spelling vhost_word.EBUSY ∷ []
vhost_fields vhost.EFAULT = vhost_spelling vhost_word.EFAULT ∷ []
vhost_fields vhost.ENOBUFS = vhost_spelling vhost_word.ENOBUFS ∷ []
vhost_fields (vhost.EHDR want have) = vhost_spelling vhost_word.EHDR ∷ decimal want ∷ decimal have ∷ []
vhost_fields vhost.ENOTSUP = vhost_spelling vhost_word.ENOTSUP ∷ []

-- why a driver refuses a command
abbrev pub drive_fields : DriveText → List (List ℕ)
drive_fields drive.Unaligned = drive_spelling drive_word.Unaligned ∷ []
drive_fields (drive.Outside first_bad) = drive_spelling drive_word.Outside ∷ decimal first_bad ∷ []
drive_fields (drive.TooLong len) = drive_spelling drive_word.TooLong ∷ decimal len ∷ []
drive_fields (drive.Full need free) = drive_spelling drive_word.Full ∷ decimal need ∷ decimal free ∷ []
drive_fields (drive.Stray id) = drive_spelling drive_word.Stray ∷ decimal id ∷ []

-- the file that had been chosen, where one had
abbrev pub file_fields : Option ℕ → List (List ℕ)
file_fields None = []
file_fields (Some file) = decimal file ∷ []

-- why a frame was dropped; no trace has a drop that is Purged, Overrun or Cut, which get words so that each has some
abbrev pub cause_fields : Option ℕ → Cause → List (List ℕ)
cause_fields file cause.NoQueue = drop_spelling drop_word.NoQueue ∷ []
cause_fields file cause.Filtered = drop_spelling drop_word.Filtered ∷ []
cause_fields file (cause.Gone want found shut) =
    drop_spelling drop_word.Gone ∷ (file_fields file ++ decimal want ∷ decimal found ∷ flag_spelling shut ∷ [])
cause_fields file (cause.Full claimed freed) =
    drop_spelling drop_word.Full ∷ (file_fields file ++ decimal claimed ∷ decimal freed ∷ [])
cause_fields file cause.Purged = codes "Purged" ∷ []
cause_fields file (cause.Overrun need quota had) =
    codes "Overrun" ∷ (file_fields file ++ decimal need ∷ decimal quota ∷ decimal had ∷ [])
cause_fields file cause.Cut = codes "Cut" ∷ []
cause_fields file (cause.Spent claimed) = drop_spelling drop_word.Spent ∷ (file_fields file ++ decimal claimed ∷ [])

-- what discarded a frame that had a place; no line has another than Purged, Overrun and Cut
abbrev pub discard_fields : Cause → List (List ℕ)
discard_fields cause.NoQueue = drop_spelling drop_word.NoQueue ∷ []
discard_fields cause.Filtered = drop_spelling drop_word.Filtered ∷ []
discard_fields (cause.Gone want found shut) =
    drop_spelling drop_word.Gone ∷ decimal want ∷ decimal found ∷ flag_spelling shut ∷ []
discard_fields (cause.Full claimed freed) = drop_spelling drop_word.Full ∷ decimal claimed ∷ decimal freed ∷ []
discard_fields cause.Purged = fate_spelling fate_word.Purged ∷ []
discard_fields (cause.Overrun need quota had) =
    fate_spelling fate_word.Overrun ∷ decimal need ∷ decimal quota ∷ decimal had ∷ []
discard_fields cause.Cut = fate_spelling fate_word.Cut ∷ []
discard_fields (cause.Spent claimed) = drop_spelling drop_word.Spent ∷ decimal claimed ∷ []

-- what became of a frame that had a place; no line has Host
abbrev pub fate_fields : Fate → List (List ℕ)
fate_fields fate.Waiting = fate_spelling fate_word.Waiting ∷ []
fate_fields fate.Read = fate_spelling fate_word.Read ∷ []
fate_fields fate.Guest = fate_spelling fate_word.Guest ∷ []
fate_fields fate.Host = codes "host" ∷ []
fate_fields (fate.Discarded cause) = discard_fields cause

-- how a turn ended
abbrev pub end_fields : TurnText → List (List ℕ)
end_fields ends.Idle = end_spelling end_word.Idle ∷ []
end_fields (ends.Short need had) = end_spelling end_word.Short ∷ decimal need ∷ decimal had ∷ []
end_fields ends.Again = end_spelling end_word.Again ∷ []
end_fields (ends.Stopped fault) = end_spelling end_word.Stopped ∷ decimal fault ∷ []
end_fields ends.Off = end_spelling end_word.Off ∷ []
