-- The lines of answers: what is written is read again, and what was read is written so.
use Rattle.std.proofs.Common.{◌≡◌, ℕ, List, [], ◌∷◌, Option, Some, map, refl, ap, subst, sym, ◌∙◌}
use Rattle.std.specs.Prelude.{codes}
use Rattle.std.specs.Fmt.{decimal}
use Rattle.std.specs.List.{AllByRecursion, list_all}
use Rattle.std.proofs.lemmas.Bool.{and_from}
use Rattle.tap_trace.specs.declared.answer.Answer.{Answer}
use Rattle.tap_trace.specs.declared.answer.Answer.TheVariants as answer
use Rattle.tap_trace.specs.declared.trace.AnswerLine.{AnswerLine}
use Rattle.tap_trace.specs.declared.turn.TurnText.{TurnText}
use Rattle.text_fields.specs.Lines.{is_field_byte}
use Rattle.trace_causes.specs.declared.err_text.ErrText.{ErrText}
use Rattle.trace_causes.specs.declared.err_text.ErrText.TheVariants as err
use Rattle.trace_causes.specs.CauseReading.{end_in}
use Rattle.trace_causes.specs.Causes.{end_fields, err_fields}
use Rattle.trace_causes.specs.Fits.{FitEnd, FitErr, FitHarvested}
use Rattle.trace_causes.specs.Laws.{AreClean, CauseLaws, FieldLaws, IsPart}
use Rattle.tap_ground.specs.Options.{◌>>=◌}
use Rattle.trace_causes.specs.Reading.{ended, first_by, harvested_of, number_to}
use Rattle.trace_causes.specs.Values.{harvested}
use Rattle.trace_words.specs.declared.words.AnswerWord.{AnswerWord}
use Rattle.trace_words.specs.declared.words.AnswerWord.TheVariants as word
use Rattle.trace_words.specs.AnswerReading.{answer_behind, answer_in, bad_in, base_in, chains_of, done_in, fault_in, harvested_in, host_in, peeked_in, placed_in, posted_in, read_in, refusal, turn_in}
use Rattle.trace_words.specs.Answers.{answer_fields, answer_line}
use Rattle.trace_words.specs.Fits.{FitAnswer, FitAnswerLine}
use Rattle.trace_words.specs.Said.{IsBare}
use Rattle.trace_words.specs.Words.{answer_spelling, answer_word}
use Rattle.trace_words.proofs.Chains.{IsWritten, again_part, as_first, bind_some, takes_end, takes_first, takes_part, word_again}
use Rattle.trace_words.proofs.WordLaws.{answer_field}

-- ---- the chains that came back

chains_again : FieldLaws → (chains : List (ℕ × ℕ)) → AllByRecursion FitHarvested chains → chains_of (map harvested chains) ≡ Some chains
unfolding chains_of
chains_again laws [] h = refl
chains_again laws (e ∷ es) h = rw (laws.chain.again e h.0, chains_again laws es h.1) refl

pub record AreHarvested (chains : List (ℕ × ℕ)) (fields : List (List ℕ)) : Type 0 where
  pub fit : AllByRecursion FitHarvested chains
  pub written : map harvested chains ≡ fields
  pub clean : AreClean fields

chains_take : FieldLaws → (fields : List (List ℕ)) (chains : List (ℕ × ℕ)) → chains_of fields ≡ Some chains → AreHarvested chains fields
unfolding chains_of
chains_take laws [] chains e =
    let same : [] ≡ chains = cc in
    subst (λ (x : List (ℕ × ℕ)). AreHarvested x []) same (record { fit = tt; written = refl; clean = refl })
chains_take laws (field ∷ behind) chains e =
    let s0 = bind_some (harvested_of field) _ chains e in
    let s1 = bind_some (chains_of behind) _ chains s0.2 in
    let same : s0.0 ∷ s1.0 ≡ chains = (let last : Some (s0.0 ∷ s1.0) ≡ Some chains = s1.2 in cc) in
    let t = laws.chain.takes field s0.0 s0.1 in
    let u = chains_take laws behind s1.0 s1.1 in
    subst (λ (x : List (ℕ × ℕ)). AreHarvested x (field ∷ behind)) same
    (record {
      fit = (t.0, u.fit);
      written = ap (λ (x : List ℕ). x ∷ map harvested s1.0) t.1 ∙ ap (λ (xs : List (List ℕ)). field ∷ xs) u.written;
      clean = and_from (list_all is_field_byte field) (list_all (list_all is_field_byte) behind) t.2 u.clean;
    })

-- ---- what is written is read

turn_again : FieldLaws → CauseLaws → (p b : ℕ) (t : TurnText) → FitAnswer (answer.Turn p b t []) → turn_in (decimal p ∷ decimal b ∷ end_fields t) ≡ Some (answer.Turn p b t [])
unfolding turn_in
turn_again laws causes p b t h = rw (laws.number32.again p h.0, laws.number64.again b h.1, causes.end.again t h.2) refl

pub text_again : FieldLaws → CauseLaws → (a : Answer) → FitAnswer a → IsBare a → (first_by answer_word (answer_fields a) >>= λ w. answer_behind w.0 w.1) ≡ Some a
unfolding answer_behind done_in host_in base_in peeked_in posted_in harvested_in fault_in bad_in placed_in read_in
text_again laws causes answer.Done h b = word_again answer_field word.Done _ answer_behind _ refl
text_again laws causes (answer.Version v) h b = word_again answer_field word.Done _ answer_behind _ (rw (laws.number64.again v h) refl)
text_again laws causes (answer.Resized version claimed freed cut) h b = absurd b
text_again laws causes (answer.Host n f) h b = word_again answer_field word.Host _ answer_behind _ (rw (laws.number32.again n h.0, laws.hash.again f h.1) refl)
text_again laws causes (answer.Base n) h b = word_again answer_field word.Base _ answer_behind _ (rw (laws.number16.again n h) refl)
text_again laws causes (answer.Peeked bytes) h b = word_again answer_field word.Peeked _ answer_behind _ (rw (laws.bytes.again bytes h) refl)
text_again laws causes (answer.Posted n) h b = word_again answer_field word.Posted _ answer_behind _ (rw (laws.number16.again n h) refl)
text_again laws causes (answer.Harvested chains) h b = word_again answer_field word.Harvested _ answer_behind _ (rw (chains_again laws chains h) refl)
text_again laws causes answer.NoDriver h b = word_again answer_field word.NoDriver _ answer_behind _ refl
text_again laws causes (answer.Fault n) h b = word_again answer_field word.Fault _ answer_behind _ (rw (laws.number64.again n h) refl)
text_again laws causes (answer.Turn p n t chains) h b =
    word_again answer_field word.Turn _ answer_behind _ (turn_again laws causes p n t (h.0, h.1, h.2, tt) ∙ ap (λ cs. Some (answer.Turn p n t cs)) (sym b))
text_again laws causes (answer.Bad c) h b = word_again answer_field word.Bad _ answer_behind _ (rw (laws.bad.again c h) refl)
text_again laws causes (answer.Placed f p e n) h b =
    word_again answer_field word.Placed _ answer_behind _ (rw (laws.number16.again f h.0, laws.number64.again p h.1, laws.number16.again e h.2, laws.number32.again n h.3) refl)
text_again laws causes (answer.Dropped file c) h b = word_again answer_field word.Dropped _ answer_behind _ (rw (causes.drop.again (file, c) h) refl)
text_again laws causes (answer.Read n p bytes) h b =
    word_again answer_field word.Read _ answer_behind _ (rw (laws.name.again n h.0, laws.number64.again p h.1, laws.bytes_or_none.again bytes h.2) refl)
text_again laws causes (answer.Room n) h b = word_again answer_field word.Refused _ answer_behind _ (rw (causes.err.again (err.Room n) h) refl)
text_again laws causes answer.Busy h b = word_again answer_field word.Refused _ answer_behind _ (rw (causes.err.again err.Busy tt) refl)
text_again laws causes (answer.Again n) h b = word_again answer_field word.Refused _ answer_behind _ (rw (causes.err.again (err.Again n) h) refl)
text_again laws causes (answer.Tap why) h b = word_again answer_field word.Refused _ answer_behind _ (rw (causes.err.again (err.Tap why) tt) refl)
text_again laws causes (answer.Vhost why) h b = word_again answer_field word.Vhost _ answer_behind _ (rw (causes.verr.again why h) refl)
text_again laws causes (answer.Drive why) h b = word_again answer_field word.Drive _ answer_behind _ (rw (causes.derr.again why h) refl)

pub answer_again : FieldLaws → CauseLaws → (a : AnswerLine) → FitAnswerLine a → IsBare a.answer → answer_in (decimal a.actor ∷ decimal a.command ∷ decimal a.seen ∷ answer_fields a.answer) ≡ Some a
unfolding answer_in
answer_again laws causes a h b =
    rw (laws.number16.again a.actor h.0, laws.number32.again a.command h.1, laws.number64.again a.seen h.2)
    (again_part (first_by answer_word (answer_fields a.answer)) (λ w. answer_behind w.0 w.1) (λ x. record { actor = a.actor; command = a.command; seen = a.seen; answer = x }) a.answer (text_again laws causes a.answer h.3 b))

-- ---- what is read is written so

-- an answer that fits, without the lines behind it
abbrev pub FitBare : Answer → Type 0
FitBare a = FitAnswer a × IsBare a

done_takes : FieldLaws → (fields : List (List ℕ)) (a : Answer) → done_in fields ≡ Some a → IsWritten FitBare answer_fields a (codes "ok" ∷ fields) × AreClean fields
unfolding done_in
done_takes laws [] a e =
    let same : answer.Done ≡ a = cc in
    (subst (λ (x : Answer). IsWritten FitBare answer_fields x (codes "ok" ∷ [])) same ((tt, tt), refl), refl)
done_takes laws (field ∷ behind) a e =
    takes_first laws.number64 (λ v. ended v.1 >>= λ end. Some (answer.Version v.0)) (λ x fields. IsWritten FitBare answer_fields x (codes "ok" ∷ fields))
    (λ v h. takes_end (answer.Version v) _ ((h, tt), refl)) (field ∷ behind) a (as_first (number_to 18446744073709551615 field) behind _ ∙ e)

-- a part that reads to the end of the line, behind the word of an answer
behind_word : {Y : Type 0} {read : List (List ℕ) → Option Y} {write : Y → List (List ℕ)} {Fit : Y → Type 0} → IsPart read write Fit → (f : Y → Answer) (word : List ℕ)
    → ((y : Y) → Fit y → FitBare (f y)) → ((y : Y) → answer_fields (f y) ≡ word ∷ write y)
    → (fields : List (List ℕ)) (a : Answer) → (read fields >>= λ y. Some (f y)) ≡ Some a → IsWritten FitBare answer_fields a (word ∷ fields) × AreClean fields
behind_word {read} {write} {Fit} is f word fit written =
    takes_part read f (IsWritten Fit write) (λ x fields. IsWritten FitBare answer_fields x (word ∷ fields)) (λ fields y e. let t = is.takes fields y e in ((t.0, t.1), t.2))
    (λ fields y g. (fit y g.0, written y ∙ ap (λ (more : List (List ℕ)). word ∷ more) g.1))

fit_refusal : (t : ErrText) → FitErr t → FitBare (refusal t)
fit_refusal (err.Room n) h = (h, tt)
fit_refusal err.Busy h = (tt, tt)
fit_refusal (err.Again n) h = (h, tt)
fit_refusal (err.Tap why) h = (tt, tt)

written_refusal : (t : ErrText) → answer_fields (refusal t) ≡ codes "err" ∷ err_fields t
written_refusal (err.Room n) = refl
written_refusal err.Busy = refl
written_refusal (err.Again n) = refl
written_refusal (err.Tap why) = refl

turn_takes : FieldLaws → CauseLaws → (fields : List (List ℕ)) (a : Answer) → turn_in fields ≡ Some a → IsWritten FitBare answer_fields a (codes "turn" ∷ fields) × AreClean fields
unfolding turn_in
turn_takes laws causes = takes_first laws.number32 _ _ (λ p hp. takes_first laws.number64 _ _ (λ b hb.
    takes_part end_in (λ t. answer.Turn p b t []) (IsWritten FitEnd end_fields) _ (λ fields t e. let g = causes.end.takes fields t e in ((g.0, g.1), g.2))
    (λ fields t g. (((hp, hb, g.0, tt), refl), ap (λ (more : List (List ℕ)). codes "turn" ∷ decimal p ∷ decimal b ∷ more) g.1))))

harvest_takes : FieldLaws → (fields : List (List ℕ)) (a : Answer) → harvested_in fields ≡ Some a → IsWritten FitBare answer_fields a (codes "harvest" ∷ fields) × AreClean fields
unfolding harvested_in
harvest_takes laws fields a e =
    let s = bind_some (chains_of fields) _ a e in
    let same : answer.Harvested s.0 ≡ a = (let last : Some (answer.Harvested s.0) ≡ Some a = s.2 in cc) in
    let t = chains_take laws fields s.0 s.1 in
    (subst (λ (x : Answer). IsWritten FitBare answer_fields x (codes "harvest" ∷ fields)) same ((t.fit, tt), ap (λ (more : List (List ℕ)). codes "harvest" ∷ more) t.written), t.clean)

text_takes : FieldLaws → CauseLaws → (w : AnswerWord) (fields : List (List ℕ)) (a : Answer) → answer_behind w fields ≡ Some a → IsWritten FitBare answer_fields a (answer_spelling w ∷ fields) × AreClean fields
unfolding answer_behind host_in base_in peeked_in posted_in fault_in bad_in placed_in read_in
text_takes laws causes word.Done = done_takes laws
text_takes laws causes word.Host = takes_first laws.number32 _ _ (λ n hn. takes_first laws.hash _ _ (λ f hf. takes_end (answer.Host n f) _ (((hn, hf), tt), refl)))
text_takes laws causes word.Base = takes_first laws.number16 _ _ (λ n h. takes_end (answer.Base n) _ ((h, tt), refl))
text_takes laws causes word.Peeked = takes_first laws.bytes _ _ (λ bytes h. takes_end (answer.Peeked bytes) _ ((h, tt), refl))
text_takes laws causes word.Posted = takes_first laws.number16 _ _ (λ n h. takes_end (answer.Posted n) _ ((h, tt), refl))
text_takes laws causes word.Harvested = harvest_takes laws
text_takes laws causes word.NoDriver = takes_end answer.NoDriver _ ((tt, tt), refl)
text_takes laws causes word.Fault = takes_first laws.number64 _ _ (λ n h. takes_end (answer.Fault n) _ ((h, tt), refl))
text_takes laws causes word.Turn = turn_takes laws causes
text_takes laws causes word.Bad = takes_first laws.bad _ _ (λ c h. takes_end (answer.Bad c) _ ((h, tt), refl))
text_takes laws causes word.Placed = takes_first laws.number16 _ _ (λ f hf. takes_first laws.number64 _ _ (λ p hp. takes_first laws.number16 _ _ (λ e he. takes_first laws.number32 _ _ (λ n hn. takes_end (answer.Placed f p e n) _ (((hf, hp, he, hn), tt), refl)))))
text_takes laws causes word.Dropped = behind_word causes.drop (λ d. answer.Dropped d.0 d.1) (codes "drop") (λ d h. (h, tt)) (λ d. refl)
text_takes laws causes word.Read = takes_first laws.name _ _ (λ n hn. takes_first laws.number64 _ _ (λ p hp. takes_first laws.bytes_or_none _ _ (λ bytes hb. takes_end (answer.Read n p bytes) _ (((hn, hp, hb), tt), refl))))
text_takes laws causes word.Refused = behind_word causes.err refusal (codes "err") fit_refusal written_refusal
text_takes laws causes word.Vhost = behind_word causes.verr answer.Vhost (codes "verr") (λ why h. (h, tt)) (λ why. refl)
text_takes laws causes word.Drive = behind_word causes.derr answer.Drive (codes "derr") (λ why h. (h, tt)) (λ why. refl)

-- the line of an answer that fits, without the lines behind it
abbrev pub FitBareLine : AnswerLine → Type 0
FitBareLine a = FitAnswerLine a × IsBare a.answer

pub answer_takes : FieldLaws → CauseLaws → (fields : List (List ℕ)) (a : AnswerLine) → answer_in fields ≡ Some a → IsWritten FitBareLine answer_line a (codes "ans" ∷ fields) × AreClean fields
unfolding answer_in
answer_takes laws causes = takes_first laws.number16 _ _ (λ k hk. takes_first laws.number32 _ _ (λ c hc. takes_first laws.number64 _ _ (λ s hs. takes_first answer_field _ _ (λ w hw.
    takes_part (answer_behind w) (λ a. record { actor = k; command = c; seen = s; answer = a }) (λ a fields. IsWritten FitBare answer_fields a (answer_spelling w ∷ fields)) _ (text_takes laws causes w)
    (λ fields a g. (((hk, hc, hs, g.0.0), g.0.1), ap (λ (more : List (List ℕ)). codes "ans" ∷ decimal k ∷ decimal c ∷ decimal s ∷ more) g.1))))))
