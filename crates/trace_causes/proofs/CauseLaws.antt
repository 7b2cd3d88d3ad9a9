-- Causes, fates and ends of turns: what is written is read again, and what was read is written so.
use Rattle.std.proofs.Common.{◌≡◌, ℕ, List, [], ◌∷◌, Option, Some, None, refl, subst, ◌∙◌}
use Rattle.std.specs.Prelude.{codes}
use Rattle.std.specs.Fmt.{decimal}
use Rattle.std.specs.Option.{option_map}
use Rattle.tap_ledger.specs.declared.fate.Cause.{Cause}
use Rattle.tap_ledger.specs.declared.fate.Cause.TheVariants as cause
use Rattle.tap_ledger.specs.declared.fate.Fate.{Fate}
use Rattle.tap_ledger.specs.declared.fate.Fate.TheVariants as fate
use Rattle.tap_trace.specs.declared.causes.DriveText.{DriveText}
use Rattle.tap_trace.specs.declared.causes.DriveText.TheVariants as drive
use Rattle.tap_ledger.specs.declared.error.Invalid.{Invalid}
use Rattle.tap_ledger.specs.declared.error.Invalid.TheVariants as invalid
use Rattle.tap_ledger.specs.declared.error.TapErr.TheVariants as tap
use Rattle.tap_trace.specs.declared.causes.VhostText.{VhostText}
use Rattle.tap_trace.specs.declared.causes.VhostText.TheVariants as vhost
use Rattle.tap_trace.specs.declared.turn.TurnText.{TurnText}
use Rattle.tap_trace.specs.declared.turn.TurnText.TheVariants as ends
use Rattle.text_fields.specs.Numbers.{number_of}
use Rattle.trace_causes.specs.declared.err_text.ErrText.{ErrText}
use Rattle.trace_causes.specs.declared.err_text.ErrText.TheVariants as err
use Rattle.trace_causes.specs.declared.words.DriveWord.{DriveWord}
use Rattle.trace_causes.specs.declared.words.DriveWord.TheVariants as drive_word
use Rattle.trace_causes.specs.declared.words.DropWord.{DropWord}
use Rattle.trace_causes.specs.declared.words.DropWord.TheVariants as drop_word
use Rattle.trace_causes.specs.declared.words.EndWord.{EndWord}
use Rattle.trace_causes.specs.declared.words.EndWord.TheVariants as end_word
use Rattle.trace_causes.specs.declared.words.ErrWord.{ErrWord}
use Rattle.trace_causes.specs.declared.words.ErrWord.TheVariants as err_word
use Rattle.trace_causes.specs.declared.words.FateWord.{FateWord}
use Rattle.trace_causes.specs.declared.words.FateWord.TheVariants as fate_word
use Rattle.trace_causes.specs.declared.words.VhostWord.{VhostWord}
use Rattle.trace_causes.specs.declared.words.VhostWord.TheVariants as vhost_word
use Rattle.trace_causes.specs.Causes.{cause_fields, drive_fields, end_fields, err_fields, fate_fields, vhost_fields}
use Rattle.trace_causes.specs.CauseReading.{derr_behind, derr_in, drop_behind, drop_in, e2big_in, eagain_in, ebusy_in, ehdr_in, einval_in, end_behind, end_in, err_behind, err_in, fate_behind, fate_in, full_in, gone_in, outside_in, overrun_in, ring_full_in, room_or_invalid, room_or_word, short_in, spent_in, stopped_in, stray_in, too_long_in, verr_behind, verr_in}
use Rattle.trace_causes.specs.Fits.{FitDrive, FitDrop, FitEnd, FitErr, FitFate, FitOp, FitVhost, Is64}
use Rattle.trace_causes.specs.Laws.{AreClean, CauseLaws, IsClean, IsField, IsPart}
use Rattle.trace_causes.specs.OpReading.{op_text_in}
use Rattle.trace_causes.specs.Operations.{op_fields}
use Rattle.tap_ground.specs.Options.{◌>>=◌}
use Rattle.trace_causes.specs.Reading.{ended, number_to}
use Rattle.trace_causes.specs.Words.{busy_of, drive_spelling, drop_spelling, end_spelling, err_spelling, fate_spelling, invalid_of, invalid_spelling, vhost_spelling}
use Rattle.trace_causes.proofs.Chains.{IsWritten, as_first, takes_end, takes_first, word_again}
use Rattle.trace_causes.proofs.FieldLaws.{Laws, numbers16, numbers32, numbers64, numbers8}
use Rattle.trace_causes.proofs.WordLaws.{big_field, busy_field, drive_field, drop_field, end_field, err_field, fate_field, flag_field, invalid_field, vhost_field}

-- ---- a room or a word

no_number : (why : Invalid) → number_to 18446744073709551615 (invalid_spelling why) ≡ None
unfolding number_to number_of
no_number invalid.Kind = refl
no_number invalid.Multi = refl
no_number invalid.NotDetached = refl
no_number invalid.NoDevice = refl
no_number invalid.NotMulti = refl
no_number invalid.Detached = refl
no_number invalid.NoFlag = refl
no_number invalid.HdrSize = refl
no_number invalid.Clock = refl

abbrev room_field : ErrText → List ℕ
room_field (err.Room n) = decimal n
room_field (err.Tap (tap.EINVAL why)) = invalid_spelling why
room_field a = []

abbrev FitRoom : ErrText → Type 0
FitRoom (err.Room n) = Is64 n
FitRoom (err.Tap (tap.EINVAL why)) = Unit {0}
FitRoom a = ⊥

room_again : Laws → (a : ErrText) → FitRoom a → room_or_invalid (room_field a) ≡ Some a
room_again laws (err.Room n) h = rw ((numbers64 laws).again n h) refl
room_again laws (err.Tap (tap.EINVAL why)) h = rw (no_number why, invalid_field.again why tt) refl
room_again laws a h = absurd h

word_takes : (o : Option Invalid) (field : List ℕ) (a : ErrText) → invalid_of field ≡ o → option_map (λ why. err.Tap (tap.EINVAL why)) o ≡ Some a
    → FitRoom a × (room_field a ≡ field) × IsClean field
word_takes None field a is e = absurd cc
word_takes (Some why) field a is e =
    let same : err.Tap (tap.EINVAL why) ≡ a = cc in
    let t = invalid_field.takes field why is in
    subst (λ (x : ErrText). FitRoom x × (room_field x ≡ field) × IsClean field) same (tt, t.1, t.2)

room_takes : Laws → (o : Option ℕ) (field : List ℕ) (a : ErrText) → number_to 18446744073709551615 field ≡ o → room_or_word o field ≡ Some a
    → FitRoom a × (room_field a ≡ field) × IsClean field
room_takes laws None field a is e = word_takes (invalid_of field) field a refl e
room_takes laws (Some n) field a is e =
    let same : err.Room n ≡ a = cc in
    let t = (numbers64 laws).takes field n is in
    subst (λ (x : ErrText). FitRoom x × (room_field x ≡ field) × IsClean field) same t

rooms : Laws → IsField room_or_invalid room_field FitRoom
rooms laws = record { again = room_again laws; takes = λ field a e. room_takes laws (number_to 18446744073709551615 field) field a refl e }

room_good : (a : ErrText) → FitRoom a → IsWritten FitErr err_fields a (codes "EINVAL" ∷ room_field a ∷ [])
room_good (err.Room n) h = (h, refl)
room_good (err.Tap (tap.EINVAL why)) h = (tt, refl)
room_good a h = absurd h

-- ---- `err`

errs_again : Laws → (t : ErrText) → FitErr t → err_in (err_fields t) ≡ Some t
unfolding err_in err_behind einval_in ebusy_in e2big_in eagain_in
errs_again laws (err.Room n) h = word_again err_field err_word.EINVAL _ err_behind _ (rw ((numbers64 laws).again n h) refl)
errs_again laws err.Busy h = word_again err_field err_word.EBUSY _ err_behind _ refl
errs_again laws (err.Again n) h = word_again err_field err_word.EAGAIN _ err_behind _ (rw ((numbers64 laws).again n h) refl)
errs_again laws (err.Tap tap.EEXIST) h = word_again err_field err_word.EEXIST _ err_behind _ refl
errs_again laws (err.Tap (tap.EINVAL why)) h = word_again err_field err_word.EINVAL _ err_behind _ (rw (no_number why, invalid_field.again why tt) refl)
errs_again laws (err.Tap (tap.EBUSY why)) h = word_again err_field err_word.EBUSY _ err_behind _ (rw (busy_field.again why tt) refl)
errs_again laws (err.Tap (tap.E2BIG why)) h = word_again err_field err_word.E2BIG _ err_behind _ (rw (big_field.again why tt) refl)
errs_again laws (err.Tap tap.EBADFD) h = word_again err_field err_word.EBADFD _ err_behind _ refl
errs_again laws (err.Tap tap.ENOTSUP) h = word_again err_field err_word.ENOTSUP _ err_behind _ refl
errs_again laws (err.Tap tap.ENFILE) h = word_again err_field err_word.ENFILE _ err_behind _ refl

ebusy_takes : (fields : List (List ℕ)) (a : ErrText) → ebusy_in fields ≡ Some a → IsWritten FitErr err_fields a (codes "EBUSY" ∷ fields) × AreClean fields
unfolding ebusy_in
ebusy_takes [] a e =
    let same : err.Busy ≡ a = cc in
    (subst (λ (x : ErrText). IsWritten FitErr err_fields x (codes "EBUSY" ∷ [])) same (tt, refl), refl)
ebusy_takes (field ∷ behind) a e =
    takes_first busy_field (λ why. ended why.1 >>= λ end. Some (err.Tap (tap.EBUSY why.0))) (λ x fields. IsWritten FitErr err_fields x (codes "EBUSY" ∷ fields))
    (λ why h. takes_end (err.Tap (tap.EBUSY why)) _ (tt, refl)) (field ∷ behind) a (as_first (busy_of field) behind _ ∙ e)

err_takes : Laws → (w : ErrWord) (fields : List (List ℕ)) (a : ErrText) → err_behind w fields ≡ Some a → IsWritten FitErr err_fields a (err_spelling w ∷ fields) × AreClean fields
unfolding err_behind einval_in e2big_in eagain_in
err_takes laws err_word.EEXIST = takes_end (err.Tap tap.EEXIST) _ (tt, refl)
err_takes laws err_word.EINVAL = takes_first (rooms laws) _ _ (λ a h. takes_end a _ (room_good a h))
err_takes laws err_word.EBUSY = ebusy_takes
err_takes laws err_word.E2BIG = takes_first big_field _ _ (λ why h. takes_end (err.Tap (tap.E2BIG why)) _ (tt, refl))
err_takes laws err_word.EBADFD = takes_end (err.Tap tap.EBADFD) _ (tt, refl)
err_takes laws err_word.ENOTSUP = takes_end (err.Tap tap.ENOTSUP) _ (tt, refl)
err_takes laws err_word.ENFILE = takes_end (err.Tap tap.ENFILE) _ (tt, refl)
err_takes laws err_word.EAGAIN = takes_first (numbers64 laws) _ _ (λ n h. takes_end (err.Again n) _ (h, refl))

pub errs_take : Laws → (fields : List (List ℕ)) (a : ErrText) → err_in fields ≡ Some a → IsWritten FitErr err_fields a fields × AreClean fields
unfolding err_in
errs_take laws = takes_first err_field _ _ (λ w h. err_takes laws w)

-- ---- `verr`

pub vhost_again : Laws → (why : VhostText) → FitVhost why → verr_in (vhost_fields why) ≡ Some why
unfolding verr_in verr_behind ehdr_in
vhost_again laws vhost.EINVAL h = word_again vhost_field vhost_word.EINVAL _ verr_behind _ refl
vhost_again laws vhost.EBUSY h = word_again vhost_field vhost_word.EBUSY _ verr_behind _ refl
vhost_again laws vhost.EFAULT h = word_again vhost_field vhost_word.EFAULT _ verr_behind _ refl
vhost_again laws vhost.ENOBUFS h = word_again vhost_field vhost_word.ENOBUFS _ verr_behind _ refl
vhost_again laws (vhost.EHDR want have) h = word_again vhost_field vhost_word.EHDR _ verr_behind _ (rw ((numbers16 laws).again want h.0, (numbers16 laws).again have h.1) refl)
vhost_again laws vhost.ENOTSUP h = word_again vhost_field vhost_word.ENOTSUP _ verr_behind _ refl

verr_takes : Laws → (w : VhostWord) (fields : List (List ℕ)) (a : VhostText) → verr_behind w fields ≡ Some a → IsWritten FitVhost vhost_fields a (vhost_spelling w ∷ fields) × AreClean fields
unfolding verr_behind ehdr_in
verr_takes laws vhost_word.EINVAL = takes_end vhost.EINVAL _ (tt, refl)
verr_takes laws vhost_word.EBUSY = takes_end vhost.EBUSY _ (tt, refl)
verr_takes laws vhost_word.EFAULT = takes_end vhost.EFAULT _ (tt, refl)
verr_takes laws vhost_word.ENOBUFS = takes_end vhost.ENOBUFS _ (tt, refl)
verr_takes laws vhost_word.EHDR = takes_first (numbers16 laws) _ _ (λ want hw. takes_first (numbers16 laws) _ _ (λ have hh. takes_end (vhost.EHDR want have) _ ((hw, hh), refl)))
verr_takes laws vhost_word.ENOTSUP = takes_end vhost.ENOTSUP _ (tt, refl)

pub verrs_take : Laws → (fields : List (List ℕ)) (a : VhostText) → verr_in fields ≡ Some a → IsWritten FitVhost vhost_fields a fields × AreClean fields
unfolding verr_in
verrs_take laws = takes_first vhost_field _ _ (λ w h. verr_takes laws w)

-- ---- `derr`

pub drive_again : Laws → (why : DriveText) → FitDrive why → derr_in (drive_fields why) ≡ Some why
unfolding derr_in derr_behind outside_in too_long_in ring_full_in stray_in
drive_again laws drive.Unaligned h = word_again drive_field drive_word.Unaligned _ derr_behind _ refl
drive_again laws (drive.Outside n) h = word_again drive_field drive_word.Outside _ derr_behind _ (rw ((numbers64 laws).again n h) refl)
drive_again laws (drive.TooLong n) h = word_again drive_field drive_word.TooLong _ derr_behind _ (rw ((numbers32 laws).again n h) refl)
drive_again laws (drive.Full m n) h = word_again drive_field drive_word.Full _ derr_behind _ (rw ((numbers16 laws).again m h.0, (numbers16 laws).again n h.1) refl)
drive_again laws (drive.Stray n) h = word_again drive_field drive_word.Stray _ derr_behind _ (rw ((numbers32 laws).again n h) refl)

derr_takes : Laws → (w : DriveWord) (fields : List (List ℕ)) (a : DriveText) → derr_behind w fields ≡ Some a → IsWritten FitDrive drive_fields a (drive_spelling w ∷ fields) × AreClean fields
unfolding derr_behind outside_in too_long_in ring_full_in stray_in
derr_takes laws drive_word.Unaligned = takes_end drive.Unaligned _ (tt, refl)
derr_takes laws drive_word.Outside = takes_first (numbers64 laws) _ _ (λ n h. takes_end (drive.Outside n) _ (h, refl))
derr_takes laws drive_word.TooLong = takes_first (numbers32 laws) _ _ (λ n h. takes_end (drive.TooLong n) _ (h, refl))
derr_takes laws drive_word.Full = takes_first (numbers16 laws) _ _ (λ m hm. takes_first (numbers16 laws) _ _ (λ n hn. takes_end (drive.Full m n) _ ((hm, hn), refl)))
derr_takes laws drive_word.Stray = takes_first (numbers32 laws) _ _ (λ n h. takes_end (drive.Stray n) _ (h, refl))

pub derrs_take : Laws → (fields : List (List ℕ)) (a : DriveText) → derr_in fields ≡ Some a → IsWritten FitDrive drive_fields a fields × AreClean fields
unfolding derr_in
derrs_take laws = takes_first drive_field _ _ (λ w h. derr_takes laws w)

-- ---- `drop`

abbrev pub drop_fields : Option ℕ × Cause → List (List ℕ)
drop_fields d = cause_fields d.0 d.1

abbrev pub FitDropped : Option ℕ × Cause → Type 0
FitDropped d = FitDrop d.0 d.1

pub drop_again : Laws → (file : Option ℕ) (c : Cause) → FitDrop file c → drop_in (cause_fields file c) ≡ Some (file, c)
unfolding drop_in drop_behind gone_in full_in spent_in
drop_again laws None cause.NoQueue h = word_again drop_field drop_word.NoQueue _ drop_behind _ refl
drop_again laws None cause.Filtered h = word_again drop_field drop_word.Filtered _ drop_behind _ refl
drop_again laws (Some f) (cause.Gone w d b) h = word_again drop_field drop_word.Gone _ drop_behind _ (rw ((numbers16 laws).again f h.0, (numbers16 laws).again w h.1, (numbers16 laws).again d h.2, flag_field.again b tt) refl)
drop_again laws (Some f) (cause.Full m n) h = word_again drop_field drop_word.Full _ drop_behind _ (rw ((numbers16 laws).again f h.0, (numbers64 laws).again m h.1, (numbers64 laws).again n h.2) refl)
drop_again laws (Some f) (cause.Spent n) h = word_again drop_field drop_word.Spent _ drop_behind _ (rw ((numbers16 laws).again f h.0, (numbers64 laws).again n h.1) refl)
drop_again laws file c h = absurd h

drop_takes : Laws → (w : DropWord) (fields : List (List ℕ)) (a : Option ℕ × Cause) → drop_behind w fields ≡ Some a → IsWritten FitDropped drop_fields a (drop_spelling w ∷ fields) × AreClean fields
unfolding drop_behind gone_in full_in spent_in
drop_takes laws drop_word.NoQueue = takes_end (None, cause.NoQueue) _ (tt, refl)
drop_takes laws drop_word.Filtered = takes_end (None, cause.Filtered) _ (tt, refl)
drop_takes laws drop_word.Gone = takes_first (numbers16 laws) _ _ (λ f hf. takes_first (numbers16 laws) _ _ (λ w hw. takes_first (numbers16 laws) _ _ (λ d hd. takes_first flag_field _ _ (λ b hb. takes_end (Some f, cause.Gone w d b) _ ((hf, hw, hd), refl)))))
drop_takes laws drop_word.Full = takes_first (numbers16 laws) _ _ (λ f hf. takes_first (numbers64 laws) _ _ (λ m hm. takes_first (numbers64 laws) _ _ (λ n hn. takes_end (Some f, cause.Full m n) _ ((hf, hm, hn), refl))))
drop_takes laws drop_word.Spent = takes_first (numbers16 laws) _ _ (λ f hf. takes_first (numbers64 laws) _ _ (λ n hn. takes_end (Some f, cause.Spent n) _ ((hf, hn), refl)))

pub drops_take : Laws → (fields : List (List ℕ)) (a : Option ℕ × Cause) → drop_in fields ≡ Some a → IsWritten FitDropped drop_fields a fields × AreClean fields
unfolding drop_in
drops_take laws = takes_first drop_field _ _ (λ w h. drop_takes laws w)

-- ---- fates

fate_again : Laws → (f : Fate) → FitFate f → fate_in (fate_fields f) ≡ Some f
unfolding fate_in fate_behind overrun_in
fate_again laws fate.Waiting h = word_again fate_field fate_word.Waiting _ fate_behind _ refl
fate_again laws fate.Read h = word_again fate_field fate_word.Read _ fate_behind _ refl
fate_again laws fate.Guest h = word_again fate_field fate_word.Guest _ fate_behind _ refl
fate_again laws (fate.Discarded cause.Purged) h = word_again fate_field fate_word.Purged _ fate_behind _ refl
fate_again laws (fate.Discarded (cause.Overrun m q n)) h = word_again fate_field fate_word.Overrun _ fate_behind _ (rw ((numbers32 laws).again m h.0, (numbers16 laws).again q h.1, (numbers64 laws).again n h.2) refl)
fate_again laws (fate.Discarded cause.Cut) h = word_again fate_field fate_word.Cut _ fate_behind _ refl
fate_again laws f h = absurd h

fate_takes : Laws → (w : FateWord) (fields : List (List ℕ)) (f : Fate) → fate_behind w fields ≡ Some f → IsWritten FitFate fate_fields f (fate_spelling w ∷ fields) × AreClean fields
unfolding fate_behind overrun_in
fate_takes laws fate_word.Waiting = takes_end fate.Waiting _ (tt, refl)
fate_takes laws fate_word.Read = takes_end fate.Read _ (tt, refl)
fate_takes laws fate_word.Guest = takes_end fate.Guest _ (tt, refl)
fate_takes laws fate_word.Purged = takes_end (fate.Discarded cause.Purged) _ (tt, refl)
fate_takes laws fate_word.Overrun = takes_first (numbers32 laws) _ _ (λ m hm. takes_first (numbers16 laws) _ _ (λ q hq. takes_first (numbers64 laws) _ _ (λ n hn. takes_end (fate.Discarded (cause.Overrun m q n)) _ ((hm, hq, hn), refl))))
fate_takes laws fate_word.Cut = takes_end (fate.Discarded cause.Cut) _ (tt, refl)

fates_take : Laws → (fields : List (List ℕ)) (f : Fate) → fate_in fields ≡ Some f → IsWritten FitFate fate_fields f fields × AreClean fields
unfolding fate_in
fates_take laws = takes_first fate_field _ _ (λ w h. fate_takes laws w)

-- ---- ends of turns

end_again : Laws → (t : TurnText) → FitEnd t → end_in (end_fields t) ≡ Some t
unfolding end_in end_behind short_in stopped_in
end_again laws ends.Idle h = word_again end_field end_word.Idle _ end_behind _ refl
end_again laws (ends.Short m n) h = word_again end_field end_word.Short _ end_behind _ (rw ((numbers32 laws).again m h.0, (numbers64 laws).again n h.1) refl)
end_again laws ends.Again h = word_again end_field end_word.Again _ end_behind _ refl
end_again laws (ends.Stopped n) h = word_again end_field end_word.Stopped _ end_behind _ (rw ((numbers8 laws).again n h) refl)
end_again laws ends.Off h = word_again end_field end_word.Off _ end_behind _ refl

end_takes : Laws → (w : EndWord) (fields : List (List ℕ)) (t : TurnText) → end_behind w fields ≡ Some t → IsWritten FitEnd end_fields t (end_spelling w ∷ fields) × AreClean fields
unfolding end_behind short_in stopped_in
end_takes laws end_word.Idle = takes_end ends.Idle _ (tt, refl)
end_takes laws end_word.Short = takes_first (numbers32 laws) _ _ (λ m hm. takes_first (numbers64 laws) _ _ (λ n hn. takes_end (ends.Short m n) _ ((hm, hn), refl)))
end_takes laws end_word.Again = takes_end ends.Again _ (tt, refl)
end_takes laws end_word.Stopped = takes_first (numbers8 laws) _ _ (λ n h. takes_end (ends.Stopped n) _ (h, refl))
end_takes laws end_word.Off = takes_end ends.Off _ (tt, refl)

ends_take : Laws → (fields : List (List ℕ)) (t : TurnText) → end_in fields ≡ Some t → IsWritten FitEnd end_fields t fields × AreClean fields
unfolding end_in
ends_take laws = takes_first end_field _ _ (λ w h. end_takes laws w)

-- ---- all of them

part : {A : Type 0} (read : List (List ℕ) → Option A) (write : A → List (List ℕ)) (Fit : A → Type 0) → ((a : A) → Fit a → read (write a) ≡ Some a)
    → ((fields : List (List ℕ)) (a : A) → read fields ≡ Some a → IsWritten Fit write a fields × AreClean fields) → IsPart read write Fit
part read write Fit again takes = record { again = again; takes = λ fields a e. let t = takes fields a e in (t.0.0, t.0.1, t.1) }

pub all_causes : Laws → IsPart op_text_in op_fields FitOp → CauseLaws
all_causes laws op = record {
  err = part err_in err_fields FitErr (errs_again laws) (errs_take laws);
  verr = part verr_in vhost_fields FitVhost (vhost_again laws) (verrs_take laws);
  derr = part derr_in drive_fields FitDrive (drive_again laws) (derrs_take laws);
  drop = part drop_in drop_fields FitDropped (λ d h. drop_again laws d.0 d.1 h) (drops_take laws);
  fate = part fate_in fate_fields FitFate (fate_again laws) (fates_take laws);
  end = part end_in end_fields FitEnd (end_again laws) (ends_take laws);
  op = op;
}
