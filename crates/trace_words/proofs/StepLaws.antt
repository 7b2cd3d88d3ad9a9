-- The lines of steps: what is written is read again, and what was read is written so.
use Rattle.std.proofs.Common.{◌≡◌, ℕ, List, [], ◌∷◌, Some, refl, ap}
use Rattle.std.specs.Prelude.{codes}
use Rattle.std.specs.Fmt.{decimal}
use Rattle.tap_trace.specs.declared.kind.Kind.{Kind}
use Rattle.tap_trace.specs.declared.kind.Kind.TheVariants as kind
use Rattle.tap_trace.specs.declared.trace.StepLine.{StepLine}
use Rattle.trace_words.specs.declared.words.KindWord.{KindWord}
use Rattle.trace_words.specs.declared.words.KindWord.TheVariants as word
use Rattle.trace_words.specs.declared.words.PlainWord.{PlainWord}
use Rattle.trace_words.specs.declared.words.PlainWord.TheVariants as plain
use Rattle.trace_causes.specs.Fits.{IsRing}
use Rattle.trace_causes.specs.Laws.{AreClean, FieldLaws}
use Rattle.trace_words.specs.Fits.{FitKind, FitStep}
use Rattle.tap_ground.specs.Options.{◌>>=◌}
use Rattle.trace_causes.specs.Reading.{first_by}
use Rattle.trace_words.specs.StepReading.{backend_in, copy_in, features_in, fetch_in, halt_in, kind_behind, notices_in, plain_in, plain_kind, publish_in, step_in}
use Rattle.trace_words.specs.Steps.{kind_fields, step_line}
use Rattle.trace_words.specs.Words.{kind_spelling, kind_word}
use Rattle.trace_words.proofs.Chains.{IsWritten, again_part, takes_end, takes_first, takes_part, word_again}
use Rattle.trace_words.proofs.WordLaws.{kind_field}

-- ---- what is written is read

plain_again : FieldLaws → (w : PlainWord) (v r : ℕ) → IsRing v r → plain_in w (decimal v ∷ decimal r ∷ []) ≡ Some (plain_kind w v r)
unfolding plain_in
plain_again laws w v r h = rw (laws.number16.again v h.0, laws.number16.again r h.1) refl

pub kind_again : FieldLaws → (k : Kind) → FitKind k → (first_by kind_word (kind_fields k) >>= λ w. kind_behind w.0 w.1) ≡ Some k
unfolding kind_behind fetch_in halt_in copy_in publish_in notices_in backend_in features_in
kind_again laws (kind.Fetch v r p d) h = word_again kind_field word.Fetch _ kind_behind _ (rw (laws.number16.again v h.0.0, laws.number16.again r h.0.1, laws.number16.again p h.1, laws.number16.again d h.2) refl)
kind_again laws (kind.Halt v r n) h = word_again kind_field word.Halt _ kind_behind _ (rw (laws.number16.again v h.0.0, laws.number16.again r h.0.1, laws.number8.again n h.1) refl)
kind_again laws (kind.Copy v r p n) h = word_again kind_field word.Copy _ kind_behind _ (rw (laws.number16.again v h.0.0, laws.number16.again r h.0.1, laws.number16.again p h.1, laws.name_or_dash.again n h.2) refl)
kind_again laws (kind.Publish v r n b) h = word_again kind_field word.Publish _ kind_behind _ (rw (laws.number16.again v h.0.0, laws.number16.again r h.0.1, laws.number16.again n h.1, laws.flag.again b tt) refl)
kind_again laws (kind.Notices v r b) h = word_again kind_field word.Notices _ kind_behind _ (rw (laws.number16.again v h.0, laws.number16.again r h.1, laws.flag.again b tt) refl)
kind_again laws (kind.Backend v r b) h = word_again kind_field word.Backend _ kind_behind _ (rw (laws.number16.again v h.0, laws.number16.again r h.1, laws.flag.again b tt) refl)
kind_again laws (kind.Features v) h = word_again kind_field word.Features _ kind_behind _ (rw (laws.number16.again v h) refl)
kind_again laws kind.Poke h = word_again kind_field word.Poke _ kind_behind _ refl
kind_again laws kind.Peek h = word_again kind_field word.Peek _ kind_behind _ refl
kind_again laws (kind.None v r) h = word_again kind_field (word.Plain plain.None) _ kind_behind _ (plain_again laws plain.None v r h)
kind_again laws (kind.Crowded v r) h = word_again kind_field (word.Plain plain.Crowded) _ kind_behind _ (plain_again laws plain.Crowded v r h)
kind_again laws (kind.Off v r) h = word_again kind_field (word.Plain plain.Off) _ kind_behind _ (plain_again laws plain.Off v r h)
kind_again laws (kind.Stopped v r) h = word_again kind_field (word.Plain plain.Stopped) _ kind_behind _ (plain_again laws plain.Stopped v r h)
kind_again laws (kind.Num v r) h = word_again kind_field (word.Plain plain.Num) _ kind_behind _ (plain_again laws plain.Num v r h)
kind_again laws (kind.Base v r) h = word_again kind_field (word.Plain plain.Base) _ kind_behind _ (plain_again laws plain.Base v r h)
kind_again laws (kind.Addr v r) h = word_again kind_field (word.Plain plain.Addr) _ kind_behind _ (plain_again laws plain.Addr v r h)
kind_again laws (kind.GetBase v r) h = word_again kind_field (word.Plain plain.GetBase) _ kind_behind _ (plain_again laws plain.GetBase v r h)
kind_again laws (kind.Drive v r) h = word_again kind_field (word.Plain plain.Drive) _ kind_behind _ (plain_again laws plain.Drive v r h)
kind_again laws (kind.Post v r) h = word_again kind_field (word.Plain plain.Post) _ kind_behind _ (plain_again laws plain.Post v r h)
kind_again laws (kind.Harvest v r) h = word_again kind_field (word.Plain plain.Harvest) _ kind_behind _ (plain_again laws plain.Harvest v r h)

pub step_again : FieldLaws → (s : StepLine) → FitStep s → step_in (decimal s.actor ∷ decimal s.command ∷ kind_fields s.kind) ≡ Some s
unfolding step_in
step_again laws s h =
    rw (laws.number16.again s.actor h.0, laws.number32.again s.command h.1)
    (again_part (first_by kind_word (kind_fields s.kind)) (λ w. kind_behind w.0 w.1) (λ k. record { actor = s.actor; command = s.command; kind = k }) s.kind (kind_again laws s.kind h.2))

-- ---- what is read is written so

plain_good : (w : PlainWord) (v r : ℕ) → IsRing v r → IsWritten FitKind kind_fields (plain_kind w v r) (kind_spelling (word.Plain w) ∷ decimal v ∷ decimal r ∷ [])
plain_good plain.None v r h = (h, refl)
plain_good plain.Crowded v r h = (h, refl)
plain_good plain.Off v r h = (h, refl)
plain_good plain.Stopped v r h = (h, refl)
plain_good plain.Num v r h = (h, refl)
plain_good plain.Base v r h = (h, refl)
plain_good plain.Addr v r h = (h, refl)
plain_good plain.GetBase v r h = (h, refl)
plain_good plain.Drive v r h = (h, refl)
plain_good plain.Post v r h = (h, refl)
plain_good plain.Harvest v r h = (h, refl)

kind_takes : FieldLaws → (w : KindWord) (fields : List (List ℕ)) (k : Kind) → kind_behind w fields ≡ Some k → IsWritten FitKind kind_fields k (kind_spelling w ∷ fields) × AreClean fields
unfolding kind_behind fetch_in halt_in copy_in publish_in notices_in backend_in features_in plain_in
kind_takes laws word.Fetch = takes_first laws.number16 _ _ (λ v hv. takes_first laws.number16 _ _ (λ r hr. takes_first laws.number16 _ _ (λ p hp. takes_first laws.number16 _ _ (λ d hd. takes_end (kind.Fetch v r p d) _ (((hv, hr), hp, hd), refl)))))
kind_takes laws word.Halt = takes_first laws.number16 _ _ (λ v hv. takes_first laws.number16 _ _ (λ r hr. takes_first laws.number8 _ _ (λ n hn. takes_end (kind.Halt v r n) _ (((hv, hr), hn), refl))))
kind_takes laws word.Copy = takes_first laws.number16 _ _ (λ v hv. takes_first laws.number16 _ _ (λ r hr. takes_first laws.number16 _ _ (λ p hp. takes_first laws.name_or_dash _ _ (λ n hn. takes_end (kind.Copy v r p n) _ (((hv, hr), hp, hn), refl)))))
kind_takes laws word.Publish = takes_first laws.number16 _ _ (λ v hv. takes_first laws.number16 _ _ (λ r hr. takes_first laws.number16 _ _ (λ n hn. takes_first laws.flag _ _ (λ b hb. takes_end (kind.Publish v r n b) _ (((hv, hr), hn), refl)))))
kind_takes laws word.Notices = takes_first laws.number16 _ _ (λ v hv. takes_first laws.number16 _ _ (λ r hr. takes_first laws.flag _ _ (λ b hb. takes_end (kind.Notices v r b) _ ((hv, hr), refl))))
kind_takes laws word.Backend = takes_first laws.number16 _ _ (λ v hv. takes_first laws.number16 _ _ (λ r hr. takes_first laws.flag _ _ (λ b hb. takes_end (kind.Backend v r b) _ ((hv, hr), refl))))
kind_takes laws word.Features = takes_first laws.number16 _ _ (λ v hv. takes_end (kind.Features v) _ (hv, refl))
kind_takes laws word.Poke = takes_end kind.Poke _ (tt, refl)
kind_takes laws word.Peek = takes_end kind.Peek _ (tt, refl)
kind_takes laws (word.Plain w) = takes_first laws.number16 _ _ (λ v hv. takes_first laws.number16 _ _ (λ r hr. takes_end (plain_kind w v r) _ (plain_good w v r (hv, hr))))

pub step_takes : FieldLaws → (fields : List (List ℕ)) (s : StepLine) → step_in fields ≡ Some s → IsWritten FitStep step_line s (codes "step" ∷ fields) × AreClean fields
unfolding step_in
step_takes laws = takes_first laws.number16 _ _ (λ a ha. takes_first laws.number32 _ _ (λ c hc. takes_first kind_field _ _ (λ w hw.
    takes_part (kind_behind w) (λ k. record { actor = a; command = c; kind = k }) (λ k fields. IsWritten FitKind kind_fields k (kind_spelling w ∷ fields)) _ (kind_takes laws w)
    (λ fields k g. ((ha, hc, g.0), ap (λ (more : List (List ℕ)). codes "step" ∷ decimal a ∷ decimal c ∷ more) g.1)))))
