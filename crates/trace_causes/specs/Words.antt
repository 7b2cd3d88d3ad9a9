-- This project's own: the words of causes, fates, ends of turns and operations, how each is spelled, and which word a
-- field is. They serve reading and printing.
use Rattle.std.specs.Prelude.{ℕ, Bool, true, false, List, [], ◌∷◌, codes, Option}
use Rattle.tap_frame.specs.declared.reading.BadFrame.{BadFrame}
use Rattle.tap_frame.specs.declared.reading.BadFrame.TheVariants as bad
use Rattle.tap_ledger.specs.declared.side.Side.{Side}
use Rattle.tap_ledger.specs.declared.side.Side.TheVariants as side
use Rattle.tap_ledger.specs.declared.error.Busy.{Busy}
use Rattle.tap_ledger.specs.declared.error.Busy.TheVariants as busy
use Rattle.tap_ledger.specs.declared.error.Invalid.{Invalid}
use Rattle.tap_ledger.specs.declared.error.Invalid.TheVariants as invalid
use Rattle.tap_ledger.specs.declared.error.TooBig.{TooBig}
use Rattle.tap_ledger.specs.declared.error.TooBig.TheVariants as big
use Rattle.scen_words.specs.declared.word.CommandWord.{CommandWord}
use Rattle.scen_words.specs.declared.word.CommandWord.TheVariants as command
use Rattle.scen_words.specs.Words.{command_spelling}
use Rattle.trace_causes.specs.Table.{word_in}
use Rattle.trace_causes.specs.declared.words.ErrWord.{ErrWord}
use Rattle.trace_causes.specs.declared.words.ErrWord.TheVariants as err
use Rattle.trace_causes.specs.declared.words.VhostWord.{VhostWord}
use Rattle.trace_causes.specs.declared.words.VhostWord.TheVariants as vhost
use Rattle.trace_causes.specs.declared.words.DriveWord.{DriveWord}
use Rattle.trace_causes.specs.declared.words.DriveWord.TheVariants as drive
use Rattle.trace_causes.specs.declared.words.DropWord.{DropWord}
use Rattle.trace_causes.specs.declared.words.DropWord.TheVariants as drop
use Rattle.trace_causes.specs.declared.words.FateWord.{FateWord}
use Rattle.trace_causes.specs.declared.words.FateWord.TheVariants as fate
use Rattle.trace_causes.specs.declared.words.EndWord.{EndWord}
use Rattle.trace_causes.specs.declared.words.EndWord.TheVariants as end
use Rattle.trace_causes.specs.declared.words.TableWord.{TableWord}
use Rattle.trace_causes.specs.declared.words.TableWord.TheVariants as table
use Rattle.trace_causes.specs.declared.words.OpWord.{OpWord}
use Rattle.trace_causes.specs.declared.words.OpWord.TheVariants as op

-- the word behind `err`
abbrev pub err_spelling : ErrWord → List ℕ
err_spelling err.EEXIST = codes "EEXIST"
err_spelling err.EINVAL = codes "EINVAL"
err_spelling err.EBUSY = codes "EBUSY"
err_spelling err.E2BIG = codes "E2BIG"
err_spelling err.EBADFD = codes "EBADFD"
err_spelling err.ENOTSUP = codes "ENOTSUP"
err_spelling err.ENFILE = codes "ENFILE"
err_spelling err.EAGAIN = codes "EAGAIN"

abbrev pub err_words : List ErrWord
err_words =
    err.EEXIST ∷ err.EINVAL ∷ err.EBUSY ∷ err.E2BIG ∷ err.EBADFD ∷ err.ENOTSUP ∷ err.ENFILE ∷ err.EAGAIN ∷ []

abbrev pub err_word : List ℕ → Option ErrWord
err_word field = word_in err_spelling err_words field

-- the word behind `verr`
abbrev pub vhost_spelling : VhostWord → List ℕ
vhost_spelling vhost.EINVAL = codes "EINVAL"
vhost_spelling vhost.EBUSY = codes "EBUSY"
vhost_spelling vhost.EFAULT = codes "EFAULT"
vhost_spelling vhost.ENOBUFS = codes "ENOBUFS"
vhost_spelling vhost.EHDR = codes "EHDR"
vhost_spelling vhost.ENOTSUP = codes "ENOTSUP"

abbrev pub vhost_words : List VhostWord
vhost_words =
    vhost.EINVAL ∷ vhost.EBUSY ∷ vhost.EFAULT ∷ vhost.ENOBUFS ∷ vhost.EHDR ∷ vhost.ENOTSUP ∷ []

abbrev pub vhost_word : List ℕ → Option VhostWord
vhost_word field = word_in vhost_spelling vhost_words field

-- the word behind `derr`
abbrev pub drive_spelling : DriveWord → List ℕ
drive_spelling drive.Unaligned = codes "Unaligned"
drive_spelling drive.Outside = codes "Outside"
drive_spelling drive.TooLong = codes "TooLong"
drive_spelling drive.Full = codes "Full"
drive_spelling drive.Stray = codes "Stray"

abbrev pub drive_words : List DriveWord
drive_words =
    drive.Unaligned ∷ drive.Outside ∷ drive.TooLong ∷ drive.Full ∷ drive.Stray ∷ []

abbrev pub drive_word : List ℕ → Option DriveWord
drive_word field = word_in drive_spelling drive_words field

-- the word behind `drop`
abbrev pub drop_spelling : DropWord → List ℕ
drop_spelling drop.NoQueue = codes "NoQueue"
drop_spelling drop.Filtered = codes "Filtered"
drop_spelling drop.Gone = codes "Gone"
drop_spelling drop.Full = codes "Full"
drop_spelling drop.Spent = codes "Spent"

abbrev pub drop_words : List DropWord
drop_words =
    drop.NoQueue ∷ drop.Filtered ∷ drop.Gone ∷ drop.Full ∷ drop.Spent ∷ []

abbrev pub drop_word : List ℕ → Option DropWord
drop_word field = word_in drop_spelling drop_words field

-- what became of a frame that had a place
abbrev pub fate_spelling : FateWord → List ℕ
fate_spelling fate.Waiting = codes "waiting"
fate_spelling fate.Read = codes "read"
fate_spelling fate.Guest = codes "guest"
fate_spelling fate.Purged = codes "purged"
fate_spelling fate.Overrun = codes "overrun"
fate_spelling fate.Cut = codes "cut"

abbrev pub fate_words : List FateWord
fate_words =
    fate.Waiting ∷ fate.Read ∷ fate.Guest ∷ fate.Purged ∷ fate.Overrun ∷ fate.Cut ∷ []

abbrev pub fate_word : List ℕ → Option FateWord
fate_word field = word_in fate_spelling fate_words field

-- what makes no sense
abbrev pub invalid_spelling : Invalid → List ℕ
invalid_spelling invalid.Kind = codes "Kind"
invalid_spelling invalid.Multi = codes "Multi"
invalid_spelling invalid.NotDetached = codes "NotDetached"
invalid_spelling invalid.NoDevice = codes "NoDevice"
invalid_spelling invalid.NotMulti = codes "NotMulti"
invalid_spelling invalid.Detached = codes "Detached"
invalid_spelling invalid.NoFlag = codes "NoFlag"
invalid_spelling invalid.HdrSize = codes "HdrSize"
invalid_spelling invalid.Clock = codes "Clock"

abbrev pub invalids : List Invalid
invalids =
    invalid.Kind ∷ invalid.Multi ∷ invalid.NotDetached ∷ invalid.NoDevice ∷ invalid.NotMulti ∷
    invalid.Detached ∷ invalid.NoFlag ∷ invalid.HdrSize ∷ invalid.Clock ∷ []

abbrev pub invalid_of : List ℕ → Option Invalid
invalid_of field = word_in invalid_spelling invalids field

-- what is taken
abbrev pub busy_spelling : Busy → List ℕ
busy_spelling busy.Exclusive = codes "Exclusive"
busy_spelling busy.OneQueue = codes "OneQueue"
busy_spelling busy.Backed = codes "Backed"

abbrev pub busys : List Busy
busys =
    busy.Exclusive ∷ busy.OneQueue ∷ busy.Backed ∷ []

abbrev pub busy_of : List ℕ → Option Busy
busy_of field = word_in busy_spelling busys field

-- what there is no room for
abbrev pub big_spelling : TooBig → List ℕ
big_spelling big.Queues = codes "Queues"
big_spelling big.Epochs = codes "Epochs"
big_spelling big.Resizes = codes "Resizes"

abbrev pub bigs : List TooBig
bigs =
    big.Queues ∷ big.Epochs ∷ big.Resizes ∷ []

abbrev pub big_of : List ℕ → Option TooBig
big_of field = word_in big_spelling bigs field

-- a side of a file
abbrev pub side_spelling : Side → List ℕ
side_spelling side.Rx = codes "rx"
side_spelling side.Tx = codes "tx"

abbrev pub sides : List Side
sides =
    side.Rx ∷ side.Tx ∷ []

abbrev pub side_of : List ℕ → Option Side
side_of field = word_in side_spelling sides field

-- how the case of a frame that is none is written
abbrev pub bad_spelling : BadFrame → List ℕ
bad_spelling bad.ShortPi = codes "1"
bad_spelling bad.ShortHdr = codes "2"
bad_spelling bad.HdrBeyond = codes "3"
bad_spelling bad.ShortEther = codes "4"
bad_spelling bad.HdrShort = codes "5"
bad_spelling bad.TooLong = codes "6"
bad_spelling bad.NoMemory = codes "0"

abbrev pub bads : List BadFrame
bads =
    bad.ShortPi ∷ bad.ShortHdr ∷ bad.HdrBeyond ∷ bad.ShortEther ∷ bad.HdrShort ∷ bad.TooLong ∷ []

-- the case of a frame that is none
abbrev pub bad_of : List ℕ → Option BadFrame
bad_of field = word_in bad_spelling bads field

-- 1 for what holds, 0 for what doesn't
abbrev pub flag_spelling : Bool → List ℕ
flag_spelling true = codes "1"
flag_spelling false = codes "0"

abbrev pub flags : List Bool
flags =
    true ∷ false ∷ []

-- whether something holds
abbrev pub flag_of : List ℕ → Option Bool
flag_of field = word_in flag_spelling flags field

-- how a turn ended
abbrev pub end_spelling : EndWord → List ℕ
end_spelling end.Idle = codes "idle"
end_spelling end.Short = codes "short"
end_spelling end.Again = codes "again"
end_spelling end.Stopped = codes "stopped"
end_spelling end.Off = codes "off"

abbrev pub end_words : List EndWord
end_words =
    end.Idle ∷ end.Short ∷ end.Again ∷ end.Stopped ∷ end.Off ∷ []

abbrev pub end_word : List ℕ → Option EndWord
end_word field = word_in end_spelling end_words field

-- the word of a scenario
abbrev pub table_word : TableWord → CommandWord
table_word table.SetQueue = command.SetQueue
table_word table.Close = command.Close
table_word table.Persist = command.Persist
table_word table.HdrSize = command.HdrSize
table_word table.Steer = command.Steer
table_word table.Filter = command.Filter
table_word table.Tick = command.Tick
table_word table.Resize = command.Resize

-- the word of an operation
abbrev pub op_spelling : OpWord → List ℕ
op_spelling op.SetIff = codes "setiff"
op_spelling op.Learn = codes "learn"
op_spelling op.Back = codes "back"
op_spelling (op.Words w) = command_spelling (table_word w)

abbrev pub op_words : List OpWord
op_words =
    op.SetIff ∷ op.Learn ∷ op.Back ∷ op.Words table.SetQueue ∷ op.Words table.Close ∷ op.Words table.Persist ∷
    op.Words table.HdrSize ∷ op.Words table.Steer ∷ op.Words table.Filter ∷ op.Words table.Tick ∷
    op.Words table.Resize ∷ []

abbrev pub op_word : List ℕ → Option OpWord
op_word field = word_in op_spelling op_words field
