-- Operations: what is written is read again, and what was read is written so.
use Rattle.std.proofs.Common.{◌≡◌, ℕ, ◌%◌, ◌^◌, ◌<◌, Bool, true, false, eqb, not, List, [], ◌∷◌, length, Option, Some, None, Result, Ok, Err, refl, ap, subst, sym, ◌∙◌, arith}
use Rattle.std.specs.List.{list_all}
use Rattle.std.proofs.lemmas.Bool.{and_from, and_parts}
use Rattle.tap_trace.specs.declared.trace.OpText.{OpText}
use Rattle.tap_trace.specs.declared.trace.OpText.TheVariants as op
use Rattle.text_fields.specs.declared.fault.FieldFault.{FieldFault}
use Rattle.text_fields.specs.declared.value.Value.{Value}
use Rattle.text_fields.specs.Forms.{FitForm, fields_for, values_of}
use Rattle.text_fields.specs.Laws.{FormsAreReadAgain, FormsAreWrittenAgain, FormsMakeFields}
use Rattle.text_fields.specs.Lines.{is_field, is_field_byte}
use Rattle.scen_words.specs.declared.command.Command.{Command}
use Rattle.scen_words.specs.declared.command.Command.TheVariants.{SetQueue, Close, Persist, HdrSize, Steer, Filter, Tick, Resize}
use Rattle.scen_words.specs.declared.word.CommandWord.TheVariants as command
use Rattle.scen_words.specs.Commands.{command_of, command_values}
use Rattle.scen_words.specs.Laws.{ValuesAreKept}
use Rattle.scen_words.specs.Words.{command_form, command_spelling}
use Rattle.trace_causes.specs.declared.words.OpWord.{OpWord}
use Rattle.trace_causes.specs.declared.words.OpWord.TheVariants as word
use Rattle.trace_causes.specs.declared.words.TableWord.{TableWord}
use Rattle.trace_causes.specs.declared.words.TableWord.TheVariants as table
use Rattle.trace_causes.specs.Fits.{FitOp}
use Rattle.trace_causes.specs.OpReading.{back_in, learn_in, op_behind, op_text_in, setiff_in, words_from, words_in}
use Rattle.trace_causes.specs.Laws.{AreClean, IsPart}
use Rattle.trace_causes.specs.Operations.{op_fields}
use Rattle.trace_causes.specs.Words.{op_spelling, table_word}
use Rattle.trace_causes.proofs.Chains.{IsWritten, takes_end, takes_first, word_again}
use Rattle.trace_causes.proofs.FieldLaws.{Laws, device_names, eight_digits, four_digits, numbers16, numbers_or_dash, numbers_to}
use Rattle.trace_causes.proofs.WordLaws.{op_field, side_field}

-- what the crates below say of forms and commands
pub record Rules : Type 0 where
  pub read : FormsAreReadAgain
  pub written : FormsAreWrittenAgain
  pub made : FormsMakeFields
  pub values : ValuesAreKept

-- ---- a command's own words

abbrev IsMade : (w : TableWord) (c : Command) → Type 0
IsMade w c = FitForm (command_form (table_word w)) (command_values [] c) → command_of 0 (table_word w) (command_values [] c) ≡ c

setqueue_made : (file flags : ℕ) → IsMade table.SetQueue (SetQueue file flags)
unfolding command_of command_values
setqueue_made file flags h =
    let small : file % 2 ^ 16 ≡ file = let high = h.each.0.1 in omega arith in
    let few : flags < 2 ^ 16 = h.each.1.0 in
    let also : flags % 2 ^ 16 ≡ flags = omega arith in
    rw (small, also) refl

close_made : (file : ℕ) → IsMade table.Close (Close file)
unfolding command_of command_values
close_made file h =
    let small : file % 2 ^ 16 ≡ file = let high = h.each.0.1 in omega arith in
    rw small refl

persist_made : (file : ℕ) (on : Bool) → IsMade table.Persist (Persist file on)
unfolding command_of command_values
persist_made file true h =
    let small : file % 2 ^ 16 ≡ file = let high = h.each.0.1 in omega arith in
    rw small refl
persist_made file false h =
    let small : file % 2 ^ 16 ≡ file = let high = h.each.0.1 in omega arith in
    rw small refl

hdrsize_made : (file size : ℕ) → IsMade table.HdrSize (HdrSize file size)
unfolding command_of command_values
hdrsize_made file size h =
    let small : file % 2 ^ 16 ≡ file = let high = h.each.0.1 in omega arith in
    let also : size % 2 ^ 32 ≡ size = let high = h.each.1.0.1 in omega arith in
    rw (small, also) refl

steer_made : (file : ℕ) (program : Option ℕ) → IsMade table.Steer (Steer file program)
unfolding command_of command_values
steer_made file None h =
    let small : file % 2 ^ 16 ≡ file = let high = h.each.0.1 in omega arith in
    rw small refl
steer_made file (Some p) h =
    let small : file % 2 ^ 16 ≡ file = let high = h.each.0.1 in omega arith in
    let also : p % 2 ^ 16 ≡ p = let high = h.each.1.0.1 in omega arith in
    rw (small, also) refl

filter_made : (file : ℕ) (program : Option ℕ) → IsMade table.Filter (Filter file program)
unfolding command_of command_values
filter_made file None h =
    let small : file % 2 ^ 16 ≡ file = let high = h.each.0.1 in omega arith in
    rw small refl
filter_made file (Some p) h =
    let small : file % 2 ^ 16 ≡ file = let high = h.each.0.1 in omega arith in
    let also : p % 2 ^ 16 ≡ p = let high = h.each.1.0.1 in omega arith in
    rw (small, also) refl

tick_made : (now : ℕ) → IsMade table.Tick (Tick now)
unfolding command_of command_values
tick_made now h = refl

resize_made : (file capacity : ℕ) → IsMade table.Resize (Resize file capacity)
unfolding command_of command_values
resize_made file capacity h =
    let small : file % 2 ^ 16 ≡ file = let high = h.each.0.1 in omega arith in
    let also : capacity % 2 ^ 16 ≡ capacity = let high = h.each.1.0.1 in omega arith in
    rw (small, also) refl

words_back : Rules → (w : TableWord) (c : Command) → IsMade w c → FitForm (command_form (table_word w)) (command_values [] c)
    → words_in w (fields_for (command_form (table_word w)) (command_values [] c)) ≡ Some (op.Words c)
unfolding words_in
words_back rules w c made fit =
    ap (words_from w) (rules.read (command_form (table_word w)) (command_values [] c) fit) ∙ ap (λ (x : Command). Some (op.Words x)) (made fit)

words_good : Rules → (w : TableWord) (vs : List Value) → FitForm (command_form (table_word w)) vs
    → IsWritten FitOp op_fields (op.Words (command_of 0 (table_word w) vs)) (command_spelling (table_word w) ∷ fields_for (command_form (table_word w)) vs)
unfolding command_of
words_good rules table.SetQueue vs fit =
    let kept = rules.values [] 0 command.SetQueue vs fit tt in
    ((refl, subst (λ (xs : List Value). FitForm (command_form command.SetQueue) xs) (sym kept) fit), ap (λ (xs : List Value). command_spelling command.SetQueue ∷ fields_for (command_form command.SetQueue) xs) kept)
words_good rules table.Close vs fit =
    let kept = rules.values [] 0 command.Close vs fit tt in
    ((refl, subst (λ (xs : List Value). FitForm (command_form command.Close) xs) (sym kept) fit), ap (λ (xs : List Value). command_spelling command.Close ∷ fields_for (command_form command.Close) xs) kept)
words_good rules table.Persist vs fit =
    let kept = rules.values [] 0 command.Persist vs fit tt in
    ((refl, subst (λ (xs : List Value). FitForm (command_form command.Persist) xs) (sym kept) fit), ap (λ (xs : List Value). command_spelling command.Persist ∷ fields_for (command_form command.Persist) xs) kept)
words_good rules table.HdrSize vs fit =
    let kept = rules.values [] 0 command.HdrSize vs fit tt in
    ((refl, subst (λ (xs : List Value). FitForm (command_form command.HdrSize) xs) (sym kept) fit), ap (λ (xs : List Value). command_spelling command.HdrSize ∷ fields_for (command_form command.HdrSize) xs) kept)
words_good rules table.Steer vs fit =
    let kept = rules.values [] 0 command.Steer vs fit tt in
    ((refl, subst (λ (xs : List Value). FitForm (command_form command.Steer) xs) (sym kept) fit), ap (λ (xs : List Value). command_spelling command.Steer ∷ fields_for (command_form command.Steer) xs) kept)
words_good rules table.Filter vs fit =
    let kept = rules.values [] 0 command.Filter vs fit tt in
    ((refl, subst (λ (xs : List Value). FitForm (command_form command.Filter) xs) (sym kept) fit), ap (λ (xs : List Value). command_spelling command.Filter ∷ fields_for (command_form command.Filter) xs) kept)
words_good rules table.Tick vs fit =
    let kept = rules.values [] 0 command.Tick vs fit tt in
    ((refl, subst (λ (xs : List Value). FitForm (command_form command.Tick) xs) (sym kept) fit), ap (λ (xs : List Value). command_spelling command.Tick ∷ fields_for (command_form command.Tick) xs) kept)
words_good rules table.Resize vs fit =
    let kept = rules.values [] 0 command.Resize vs fit tt in
    ((refl, subst (λ (xs : List Value). FitForm (command_form command.Resize) xs) (sym kept) fit), ap (λ (xs : List Value). command_spelling command.Resize ∷ fields_for (command_form command.Resize) xs) kept)

fields_clean : (fields : List (List ℕ)) → list_all is_field fields ≡ true → AreClean fields
fields_clean [] h = refl
fields_clean (field ∷ fields) h =
    let parts = and_parts (is_field field) (list_all is_field fields) h in
    let first = and_parts (list_all is_field_byte field) (not (eqb (length field) 0)) parts.0 in
    and_from (list_all is_field_byte field) (list_all (list_all is_field_byte) fields) first.0 (fields_clean fields parts.1)

values_take : Rules → (w : TableWord) (fields : List (List ℕ)) (t : OpText) (r : Result (List Value) FieldFault) → values_of (command_form (table_word w)) fields ≡ r → words_from w r ≡ Some t
    → IsWritten FitOp op_fields t (op_spelling (word.Words w) ∷ fields) × AreClean fields
values_take rules w fields t (Err why) is e = absurd cc
values_take rules w fields t (Ok vs) is e =
    let same : op.Words (command_of 0 (table_word w) vs) ≡ t = cc in
    let k = rules.written (command_form (table_word w)) fields vs is in
    let good = words_good rules w vs k.0 in
    let whole : op_fields (op.Words (command_of 0 (table_word w) vs)) ≡ command_spelling (table_word w) ∷ fields =
    good.1 ∙ ap (λ (more : List (List ℕ)). command_spelling (table_word w) ∷ more) k.1 in (
      subst (λ (x : OpText). IsWritten FitOp op_fields x (command_spelling (table_word w) ∷ fields)) same (good.0, whole),
      subst (λ (xs : List (List ℕ)). AreClean xs) k.1 (fields_clean (fields_for (command_form (table_word w)) vs) (rules.made (command_form (table_word w)) vs k.0)),
    )

words_take : Rules → (w : TableWord) (fields : List (List ℕ)) (t : OpText) → words_in w fields ≡ Some t → IsWritten FitOp op_fields t (op_spelling (word.Words w) ∷ fields) × AreClean fields
unfolding words_in
words_take rules w fields t e = values_take rules w fields t (values_of (command_form (table_word w)) fields) refl e

-- ---- what is written is read

text_again : Laws → Rules → (t : OpText) → FitOp t → op_text_in (op_fields t) ≡ Some t
unfolding op_text_in op_behind setiff_in learn_in back_in
text_again laws rules (op.SetIff f n g) h =
    word_again op_field word.SetIff _ op_behind _ (rw ((numbers_to laws 319 (omega arith)).again f h.each.0.1, (device_names laws).again n h.each.1.0, (four_digits laws).again g h.each.1.1.0) refl)
text_again laws rules (op.Learn f n) h = word_again op_field word.Learn _ op_behind _ (rw ((numbers16 laws).again f h.0, (eight_digits laws).again n h.1) refl)
text_again laws rules (op.Back f s v) h = word_again op_field word.Back _ op_behind _ (rw ((numbers16 laws).again f h.0, side_field.again s tt, (numbers_or_dash laws).again v h.1) refl)
text_again laws rules (op.Words (SetQueue f n)) h = word_again op_field (word.Words table.SetQueue) _ op_behind _ (words_back rules table.SetQueue (SetQueue f n) (setqueue_made f n) h.1)
text_again laws rules (op.Words (Close f)) h = word_again op_field (word.Words table.Close) _ op_behind _ (words_back rules table.Close (Close f) (close_made f) h.1)
text_again laws rules (op.Words (Persist f b)) h = word_again op_field (word.Words table.Persist) _ op_behind _ (words_back rules table.Persist (Persist f b) (persist_made f b) h.1)
text_again laws rules (op.Words (HdrSize f n)) h = word_again op_field (word.Words table.HdrSize) _ op_behind _ (words_back rules table.HdrSize (HdrSize f n) (hdrsize_made f n) h.1)
text_again laws rules (op.Words (Steer f p)) h = word_again op_field (word.Words table.Steer) _ op_behind _ (words_back rules table.Steer (Steer f p) (steer_made f p) h.1)
text_again laws rules (op.Words (Filter f p)) h = word_again op_field (word.Words table.Filter) _ op_behind _ (words_back rules table.Filter (Filter f p) (filter_made f p) h.1)
text_again laws rules (op.Words (Tick n)) h = word_again op_field (word.Words table.Tick) _ op_behind _ (words_back rules table.Tick (Tick n) (tick_made n) h.1)
text_again laws rules (op.Words (Resize f n)) h = word_again op_field (word.Words table.Resize) _ op_behind _ (words_back rules table.Resize (Resize f n) (resize_made f n) h.1)
text_again laws rules (op.Words c) h = let no = h.0 in absurd cc

-- ---- what is read is written so

text_takes : Laws → Rules → (w : OpWord) (fields : List (List ℕ)) (t : OpText) → op_behind w fields ≡ Some t → IsWritten FitOp op_fields t (op_spelling w ∷ fields) × AreClean fields
unfolding op_behind setiff_in learn_in back_in
text_takes laws rules word.SetIff = takes_first (numbers_to laws 319 (omega arith)) _ _ (λ f hf. takes_first (device_names laws) _ _ (λ n hn. takes_first (four_digits laws) _ _ (λ g hg.
    takes_end (op.SetIff f n g) _ (record { count = refl; each = ((omega arith, hf, omega arith), (hn, (hg, tt))) }, refl))))
text_takes laws rules word.Learn = takes_first (numbers16 laws) _ _ (λ f hf. takes_first (eight_digits laws) _ _ (λ n hn. takes_end (op.Learn f n) _ ((hf, hn), refl)))
text_takes laws rules word.Back = takes_first (numbers16 laws) _ _ (λ f hf. takes_first side_field _ _ (λ s hs. takes_first (numbers_or_dash laws) _ _ (λ v hv. takes_end (op.Back f s v) _ ((hf, hv), refl))))
text_takes laws rules (word.Words w) = words_take rules w

texts_take : Laws → Rules → (fields : List (List ℕ)) (t : OpText) → op_text_in fields ≡ Some t → IsWritten FitOp op_fields t fields × AreClean fields
unfolding op_text_in
texts_take laws rules = takes_first op_field _ _ (λ w h. text_takes laws rules w)

pub ops : Laws → Rules → IsPart op_text_in op_fields FitOp
ops laws rules = record { again = text_again laws rules; takes = λ fields t e. let g = texts_take laws rules fields t e in (g.0.0, g.0.1, g.1) }
