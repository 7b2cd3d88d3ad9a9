-- What a line says fits the forms of its words.
use Rattle.std.proofs.Common.{◌≡◌, ℕ, Bool, true, false, cond, ◌&&◌, not, eqb, List, [], ◌∷◌, Option, Some, None, Result, Ok, Err, refl, subst, arith}
use Rattle.std.specs.Prelude.{find}
use Rattle.std.specs.Str.{bytes_eq}
use Rattle.std.proofs.lemmas.Bool.{and_parts}
use Rattle.text_fields.specs.declared.fault.FieldFault.{FieldFault}
use Rattle.text_fields.specs.declared.fault.FieldFault.TheVariants as fault
use Rattle.text_fields.specs.declared.value.Value.{Value}
use Rattle.text_fields.specs.declared.value.Value.TheVariants as value
use Rattle.text_fields.specs.Forms.{FitForm, FitKinds, values_of}
use Rattle.text_fields.specs.Laws.{FormsAreWrittenAgain}
use Rattle.text_fields.specs.Lines.{fields_of, is_text_line}
use Rattle.text_fields.specs.Numbers.{number_of}
use Rattle.scen_words.specs.declared.fault.Why.{Why}
use Rattle.scen_words.specs.declared.fault.Why.TheVariants as why
use Rattle.scen_words.specs.declared.sentence.Sentence.{Sentence}
use Rattle.scen_words.specs.declared.sentence.Sentence.TheVariants.{Skipped, Orders, Opens}
use Rattle.scen_words.specs.declared.word.CommandWord.{CommandWord}
use Rattle.scen_words.specs.declared.word.Word.{Word}
use Rattle.scen_words.specs.declared.word.Word.TheVariants as word
use Rattle.scen_words.specs.Commands.{u16_at}
use Rattle.scen_words.specs.Kinds.{actors}
use Rattle.scen_words.specs.Laws.{FitSentence}
use Rattle.scen_words.specs.Sentences.{actor_sentence, fields_sentence, is_skipped, ordered, ordered_by_word, plain_sentence, said_by, said_by_word, sentence, sentence_of}
use Rattle.scen_words.specs.Words.{command_form, form, is_in_version, spelling, word_of, words}

abbrev Says : Type 0
Says = Result Sentence Why

fit_along : (version : ℕ) (s t : Sentence) → s ≡ t → FitSentence version s → FitSentence version t
fit_along version s t e h = subst (FitSentence version) e h

by_first : {X : Type 0} (p : X → Bool) (o : Option X) (x y : X) (b : Bool) → p y ≡ b → (o ≡ Some x → p x ≡ true) → cond b (Some y) o ≡ Some x → p x ≡ true
by_first {X} p o x y true is rest e = let same : y ≡ x = cc in subst (λ (z : X). p z ≡ true) same is
by_first p o x y false is rest e = rest e

first_passes : {X : Type 0} (p : X → Bool) (xs : List X) (x : X) → find p xs ≡ Some x → p x ≡ true
first_passes p [] x e = absurd cc
first_passes p (y ∷ ys) x e = by_first p (find p ys) x y (p y) refl (first_passes p ys x) e

ordered_fits : FormsAreWrittenAgain → (version : ℕ) (w : CommandWord) (fields : List (List ℕ)) (actor : Option ℕ) (r : Result (List Value) FieldFault) (s : Sentence)
    → values_of (command_form w) fields ≡ r → ordered w actor r ≡ Ok s → FitSentence version s
ordered_fits law version w fields (Some a) (Ok vs) s is e = fit_along version (Orders (Some a) w vs) s (cc) (law (command_form w) fields vs is).0
ordered_fits law version w fields (Some a) (Err fault.Fields) s is e = absurd cc
ordered_fits law version w fields (Some a) (Err fault.Number) s is e = absurd cc
ordered_fits law version w fields (Some a) (Err fault.Hex) s is e = absurd cc
ordered_fits law version w fields None (Ok vs) s is e = absurd cc
ordered_fits law version w fields None (Err fault.Fields) s is e = absurd cc
ordered_fits law version w fields None (Err fault.Number) s is e = absurd cc
ordered_fits law version w fields None (Err fault.Hex) s is e = absurd cc

by_word_fits : FormsAreWrittenAgain → (version : ℕ) (actor : Option ℕ) (fields : List (List ℕ)) (o : Option Word) (s : Sentence) → ordered_by_word actor fields o ≡ Ok s → FitSentence version s
by_word_fits law version actor fields None s e = absurd cc
by_word_fits law version actor fields (Some (word.Declares w)) s e = absurd cc
by_word_fits law version actor fields (Some (word.Orders w)) s e = ordered_fits law version w fields actor (values_of (command_form w) fields) s refl e
by_word_fits law version actor fields (Some word.Phase) s e = absurd cc
by_word_fits law version actor fields (Some word.End) s e = absurd cc

actor_fits : FormsAreWrittenAgain → (version : ℕ) (actor : List ℕ) (fields : List (List ℕ)) (s : Sentence) → actor_sentence version actor fields ≡ Ok s → FitSentence version s
unfolding actor_sentence
actor_fits law version actor [] s e = absurd cc
actor_fits law version actor (second ∷ fields) s e = by_word_fits law version (number_of actor) fields (word_of version second) s e

phase_values : (version : ℕ) (vs : List Value) → FitKinds (actors ∷ []) vs → FitSentence version (Opens (u16_at vs 0))
phase_values version [] h = absurd h
phase_values version (value.None ∷ vs) h = absurd h.0
phase_values version (value.Number n ∷ vs) h =
    let low = h.0.0 in
    let high = h.0.1 in
    (omega arith, omega arith)
phase_values version (value.Name name ∷ vs) h = absurd h.0
phase_values version (value.Bytes bytes ∷ vs) h = absurd h.0

phase_fits : (version : ℕ) (vs : List Value) → FitForm (form word.Phase) vs → FitSentence version (sentence word.Phase vs)
unfolding sentence
phase_fits version vs h = phase_values version vs h.each

sentence_fits : (version : ℕ) (w : Word) (vs : List Value) → is_in_version version w ≡ true → FitForm (form w) vs → FitSentence version (sentence w vs)
unfolding sentence
sentence_fits version (word.Declares w) vs known h = (known, h)
sentence_fits version (word.Orders w) vs known h = h
sentence_fits version word.Phase vs known h = phase_fits version vs h
sentence_fits version word.End vs known h = tt

said_fits : FormsAreWrittenAgain → (version : ℕ) (w : Word) (fields : List (List ℕ)) (r : Result (List Value) FieldFault) (s : Sentence) → is_in_version version w ≡ true
    → values_of (form w) fields ≡ r → said_by w r ≡ Ok s → FitSentence version s
said_fits law version w fields (Ok vs) s known is e = fit_along version (sentence w vs) s (cc) (sentence_fits version w vs known (law (form w) fields vs is).0)
said_fits law version w fields (Err why) s known is e = absurd cc

plain_fits : FormsAreWrittenAgain → (version : ℕ) (fields : List (List ℕ)) (o : Option Word) (s : Sentence) → ((w : Word) → o ≡ Some w → is_in_version version w ≡ true)
    → said_by_word fields o ≡ Ok s → FitSentence version s
plain_fits law version fields None s known e = absurd cc
plain_fits law version fields (Some w) s known e = said_fits law version w fields (values_of (form w) fields) s (known w refl) refl e

known_word : (version : ℕ) (field : List ℕ) (w : Word) → word_of version field ≡ Some w → is_in_version version w ≡ true
unfolding word_of
known_word version field w e = (and_parts (is_in_version version w) (bytes_eq (spelling w) field) (first_passes (λ (x : Word). is_in_version version x && bytes_eq (spelling x) field) words w e)).0

choose_fits : (version : ℕ) (c : Bool) (r t : Says) (s : Sentence) → (r ≡ Ok s → FitSentence version s) → (t ≡ Ok s → FitSentence version s) → cond c r t ≡ Ok s → FitSentence version s
choose_fits version true r t s a b e = a e
choose_fits version false r t s a b e = b e

fields_fits : FormsAreWrittenAgain → (version : ℕ) (fields : List (List ℕ)) (s : Sentence) → fields_sentence version fields ≡ Ok s → FitSentence version s
unfolding fields_sentence plain_sentence
fields_fits law version [] s e = absurd cc
fields_fits law version ([] ∷ fields) s e = absurd cc
fields_fits law version ((b ∷ bs) ∷ fields) s e =
    choose_fits version (eqb b 64) (actor_sentence version bs fields) (plain_sentence version (b ∷ bs) fields) s (actor_fits law version bs fields s)
    (plain_fits law version fields (word_of version (b ∷ bs)) s (known_word version (b ∷ bs))) e

pub line_fits : FormsAreWrittenAgain → (version : ℕ) (line : List ℕ) (s : Sentence) → sentence_of version line ≡ Ok s → FitSentence version s
unfolding sentence_of
line_fits law version line s e =
    choose_fits version (not (is_text_line line)) (Err why.NotText) (cond (is_skipped line) (Ok Skipped) (fields_sentence version (fields_of line))) s (λ bad. absurd cc)
    (choose_fits version (is_skipped line) (Ok Skipped) (fields_sentence version (fields_of line)) s (λ skipped. fit_along version Skipped s (cc) tt) (fields_fits law version (fields_of line) s)) e
