-- A word is the field that it is spelled as.
use Rattle.std.proofs.Common.{◌≡◌, Bool, true, false, Some, refl}
use Rattle.tap_ledger.specs.declared.side.Side.{Side}
use Rattle.tap_ledger.specs.declared.side.Side.TheVariants as side
use Rattle.tap_ledger.specs.declared.error.Busy.{Busy}
use Rattle.tap_ledger.specs.declared.error.Busy.TheVariants as busy
use Rattle.tap_ledger.specs.declared.error.Invalid.{Invalid}
use Rattle.tap_ledger.specs.declared.error.Invalid.TheVariants as invalid
use Rattle.tap_ledger.specs.declared.error.TooBig.{TooBig}
use Rattle.tap_ledger.specs.declared.error.TooBig.TheVariants as big
use Rattle.trace_causes.specs.Laws.{IsField}
use Rattle.trace_causes.specs.Table.{word_in}
use Rattle.trace_causes.specs.declared.words.ErrWord.{ErrWord}
use Rattle.trace_causes.specs.declared.words.ErrWord.TheVariants as err
use Rattle.trace_causes.specs.declared.words.VhostWord.{VhostWord}
use Rattle.trace_causes.specs.declared.words.VhostWord.TheVariants as vhost
use Rattle.trace_causes.specs.declared.words.DriveWord.{DriveWord}
use Rattle.trace_causes.specs.declared.words.DriveWord.TheVariants as drive
use Rattle.trace_causes.specs.declared.words.DropWord.{DropWord}
use Rattle.trace_causes.specs.declared.words.DropWord.TheVariants as drop
use Rattle.trace_causes.specs.declared.words.FateWord.{FateWord}
use Rattle.trace_causes.specs.declared.words.FateWord.TheVariants as fate
use Rattle.trace_causes.specs.declared.words.EndWord.{EndWord}
use Rattle.trace_causes.specs.declared.words.EndWord.TheVariants as end
use Rattle.trace_causes.specs.declared.words.TableWord.TheVariants as table
use Rattle.trace_causes.specs.declared.words.OpWord.{OpWord}
use Rattle.trace_causes.specs.declared.words.OpWord.TheVariants as op
use Rattle.trace_causes.specs.Words.{big_of, big_spelling, bigs, busy_of, busy_spelling, busys, drive_spelling, drive_word, drive_words, drop_spelling, drop_word, drop_words, end_spelling, end_word, end_words, err_spelling, err_word, err_words, fate_spelling, fate_word, fate_words, flag_of, flag_spelling, flags, invalid_of, invalid_spelling, invalids, op_spelling, op_word, op_words, side_of, side_spelling, sides, vhost_spelling, vhost_word, vhost_words}
use Rattle.trace_causes.proofs.Chains.{words_field}

err_again : (w : ErrWord) → err_word (err_spelling w) ≡ Some w
unfolding word_in
err_again err.EEXIST = refl
err_again err.EINVAL = refl
err_again err.EBUSY = refl
err_again err.E2BIG = refl
err_again err.EBADFD = refl
err_again err.ENOTSUP = refl
err_again err.ENFILE = refl
err_again err.EAGAIN = refl

pub err_field : IsField err_word err_spelling (λ w. Unit {0})
err_field = words_field err_spelling err_words refl err_again

vhost_again : (w : VhostWord) → vhost_word (vhost_spelling w) ≡ Some w
unfolding word_in
vhost_again vhost.EINVAL = refl
vhost_again vhost.EBUSY = refl
vhost_again vhost.EFAULT = refl
vhost_again vhost.ENOBUFS = refl
vhost_again vhost.EHDR = refl
vhost_again vhost.ENOTSUP = refl

pub vhost_field : IsField vhost_word vhost_spelling (λ w. Unit {0})
vhost_field = words_field vhost_spelling vhost_words refl vhost_again

drive_again : (w : DriveWord) → drive_word (drive_spelling w) ≡ Some w
unfolding word_in
drive_again drive.Unaligned = refl
drive_again drive.Outside = refl
drive_again drive.TooLong = refl
drive_again drive.Full = refl
drive_again drive.Stray = refl

pub drive_field : IsField drive_word drive_spelling (λ w. Unit {0})
drive_field = words_field drive_spelling drive_words refl drive_again

drop_again : (w : DropWord) → drop_word (drop_spelling w) ≡ Some w
unfolding word_in
drop_again drop.NoQueue = refl
drop_again drop.Filtered = refl
drop_again drop.Gone = refl
drop_again drop.Full = refl
drop_again drop.Spent = refl

pub drop_field : IsField drop_word drop_spelling (λ w. Unit {0})
drop_field = words_field drop_spelling drop_words refl drop_again

fate_again : (w : FateWord) → fate_word (fate_spelling w) ≡ Some w
unfolding word_in
fate_again fate.Waiting = refl
fate_again fate.Read = refl
fate_again fate.Guest = refl
fate_again fate.Purged = refl
fate_again fate.Overrun = refl
fate_again fate.Cut = refl

pub fate_field : IsField fate_word fate_spelling (λ w. Unit {0})
fate_field = words_field fate_spelling fate_words refl fate_again

invalid_again : (w : Invalid) → invalid_of (invalid_spelling w) ≡ Some w
unfolding word_in
invalid_again invalid.Kind = refl
invalid_again invalid.Multi = refl
invalid_again invalid.NotDetached = refl
invalid_again invalid.NoDevice = refl
invalid_again invalid.NotMulti = refl
invalid_again invalid.Detached = refl
invalid_again invalid.NoFlag = refl
invalid_again invalid.HdrSize = refl
invalid_again invalid.Clock = refl

pub invalid_field : IsField invalid_of invalid_spelling (λ w. Unit {0})
invalid_field = words_field invalid_spelling invalids refl invalid_again

busy_again : (w : Busy) → busy_of (busy_spelling w) ≡ Some w
unfolding word_in
busy_again busy.Exclusive = refl
busy_again busy.OneQueue = refl
busy_again busy.Backed = refl

pub busy_field : IsField busy_of busy_spelling (λ w. Unit {0})
busy_field = words_field busy_spelling busys refl busy_again

big_again : (w : TooBig) → big_of (big_spelling w) ≡ Some w
unfolding word_in
big_again big.Queues = refl
big_again big.Epochs = refl
big_again big.Resizes = refl

pub big_field : IsField big_of big_spelling (λ w. Unit {0})
big_field = words_field big_spelling bigs refl big_again

side_again : (w : Side) → side_of (side_spelling w) ≡ Some w
unfolding word_in
side_again side.Rx = refl
side_again side.Tx = refl

pub side_field : IsField side_of side_spelling (λ w. Unit {0})
side_field = words_field side_spelling sides refl side_again

flag_again : (w : Bool) → flag_of (flag_spelling w) ≡ Some w
unfolding word_in
flag_again true = refl
flag_again false = refl

pub flag_field : IsField flag_of flag_spelling (λ w. Unit {0})
flag_field = words_field flag_spelling flags refl flag_again

end_again : (w : EndWord) → end_word (end_spelling w) ≡ Some w
unfolding word_in
end_again end.Idle = refl
end_again end.Short = refl
end_again end.Again = refl
end_again end.Stopped = refl
end_again end.Off = refl

pub end_field : IsField end_word end_spelling (λ w. Unit {0})
end_field = words_field end_spelling end_words refl end_again

op_again : (w : OpWord) → op_word (op_spelling w) ≡ Some w
unfolding word_in
op_again op.SetIff = refl
op_again op.Learn = refl
op_again op.Back = refl
op_again (op.Words table.SetQueue) = refl
op_again (op.Words table.Close) = refl
op_again (op.Words table.Persist) = refl
op_again (op.Words table.HdrSize) = refl
op_again (op.Words table.Steer) = refl
op_again (op.Words table.Filter) = refl
op_again (op.Words table.Tick) = refl
op_again (op.Words table.Resize) = refl

pub op_field : IsField op_word op_spelling (λ w. Unit {0})
op_field = words_field op_spelling op_words refl op_again
