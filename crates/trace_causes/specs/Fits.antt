-- This project's own: which causes, fates, ends of turns and operations a text can stand for. Numbers are held to the
-- types of the fields.
use Rattle.std.specs.Prelude.{ℕ, ◌^◌, ◌<◌, Bool, true, false, IsTrue, [], ◌∷◌, Option, Some, None}
use Rattle.tap_frame.specs.declared.name.Name.{Name}
use Rattle.tap_frame.specs.declared.reading.BadFrame.{BadFrame}
use Rattle.tap_frame.specs.declared.reading.BadFrame.TheVariants.{NoMemory}
use Rattle.tap_ledger.specs.declared.fate.Cause.{Cause}
use Rattle.tap_ledger.specs.declared.fate.Cause.TheVariants as cause
use Rattle.tap_ledger.specs.declared.fate.Fate.{Fate}
use Rattle.tap_ledger.specs.declared.fate.Fate.TheVariants as fate
use Rattle.scen_words.specs.declared.command.Command.{Command}
use Rattle.scen_words.specs.declared.command.Command.TheVariants.{SetQueue, Close, Persist, HdrSize, Steer, Filter, Tick, Resize}
use Rattle.scen_words.specs.declared.word.CommandWord.TheVariants as word
use Rattle.scen_words.specs.Commands.{command_values, command_word}
use Rattle.scen_words.specs.Words.{command_form}
use Rattle.tap_trace.specs.declared.causes.DriveText.{DriveText}
use Rattle.tap_trace.specs.declared.causes.DriveText.TheVariants as drive
use Rattle.tap_trace.specs.declared.causes.VhostText.{VhostText}
use Rattle.tap_trace.specs.declared.causes.VhostText.TheVariants.{EHDR}
use Rattle.tap_trace.specs.declared.trace.OpText.{OpText}
use Rattle.tap_trace.specs.declared.trace.OpText.TheVariants as op
use Rattle.tap_trace.specs.declared.turn.TurnText.{TurnText}
use Rattle.tap_trace.specs.declared.turn.TurnText.TheVariants.{Short, Stopped}
use Rattle.text_fields.specs.declared.value.Value.TheVariants as value
use Rattle.text_fields.specs.Forms.{FitForm}
use Rattle.trace_causes.specs.declared.err_text.ErrText.{ErrText}
use Rattle.trace_causes.specs.declared.err_text.ErrText.TheVariants as err

-- ---- numbers and names

abbrev pub Is16 : ℕ → Type 0
Is16 n = n < 2 ^ 16

abbrev pub Is32 : ℕ → Type 0
Is32 n = n < 2 ^ 32

abbrev pub Is64 : ℕ → Type 0
Is64 n = n < 2 ^ 64

-- a number of 16 bits, or none
abbrev pub IsOption16 : Option ℕ → Type 0
IsOption16 None = Unit {0}
IsOption16 (Some n) = Is16 n

-- a vhost's number and a ring's
abbrev pub IsRing : ℕ → ℕ → Type 0
IsRing vhost ring = Is16 vhost × Is16 ring

abbrev pub FitName : Name → Type 0
FitName n = Is16 n.actor × Is32 n.turn × Is16 n.part

abbrev pub FitSomeName : Option Name → Type 0
FitSomeName None = Unit {0}
FitSomeName (Some n) = FitName n

-- a case of a frame that is none
abbrev pub FitBad : BadFrame → Type 0
FitBad NoMemory = ⊥
FitBad bad = Unit {0}

-- ---- operations

-- a command of the table without a name in it
abbrev pub is_table : Command → Bool
is_table (SetQueue file flags) = true
is_table (Close file) = true
is_table (Persist file on) = true
is_table (HdrSize file size) = true
is_table (Steer file program) = true
is_table (Filter file program) = true
is_table (Tick now) = true
is_table (Resize file capacity) = true
is_table c = false

-- a command's own words have the ranges that they have in a scenario
abbrev pub FitOp : OpText → Type 0
FitOp (op.SetIff file name flags) =
    FitForm (command_form word.SetIff) (value.Number file ∷ value.Name name ∷ value.Number flags ∷ [])
FitOp (op.Words c) = IsTrue (is_table c) × FitForm (command_form (command_word c)) (command_values [] c)
FitOp (op.Learn file hash) = Is16 file × Is32 hash
FitOp (op.Back file side vhost) = Is16 file × IsOption16 vhost

-- ---- causes

-- a drop names the file that had been chosen, where one had
abbrev pub FitDrop : Option ℕ → Cause → Type 0
FitDrop None cause.NoQueue = Unit {0}
FitDrop None cause.Filtered = Unit {0}
FitDrop (Some file) (cause.Gone want found shut) = Is16 file × Is16 want × Is16 found
FitDrop (Some file) (cause.Full claimed freed) = Is16 file × Is64 claimed × Is64 freed
FitDrop (Some file) (cause.Spent claimed) = Is16 file × Is64 claimed
FitDrop file cause = ⊥

abbrev pub FitVhost : VhostText → Type 0
FitVhost (EHDR want have) = Is16 want × Is16 have
FitVhost why = Unit {0}

abbrev pub FitDrive : DriveText → Type 0
FitDrive drive.Unaligned = Unit {0}
FitDrive (drive.Outside first_bad) = Is64 first_bad
FitDrive (drive.TooLong len) = Is32 len
FitDrive (drive.Full need free) = Is16 need × Is16 free
FitDrive (drive.Stray id) = Is32 id

abbrev pub FitErr : ErrText → Type 0
FitErr (err.Room least) = Is64 least
FitErr err.Busy = Unit {0}
FitErr (err.Again place) = Is64 place
FitErr (err.Tap why) = Unit {0}

-- ---- fates and ends of turns

-- a frame that had a place isn't given to the host, and is discarded for one of three causes
abbrev pub FitFate : Fate → Type 0
FitFate fate.Waiting = Unit {0}
FitFate fate.Read = Unit {0}
FitFate fate.Guest = Unit {0}
FitFate (fate.Discarded cause.Purged) = Unit {0}
FitFate (fate.Discarded (cause.Overrun need quota had)) = Is32 need × Is16 quota × Is64 had
FitFate (fate.Discarded cause.Cut) = Unit {0}
FitFate fate = ⊥

abbrev pub FitEnd : TurnText → Type 0
FitEnd (Short need had) = Is32 need × Is64 had
FitEnd (Stopped fault) = fault < 256
FitEnd end = Unit {0}

-- a chain that came back
abbrev pub FitHarvested : ℕ × ℕ → Type 0
FitHarvested e = Is32 e.0 × Is32 e.1
