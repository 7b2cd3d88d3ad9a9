-- The lines of a printed scenario are read as what they were written for.
use Rattle.std.proofs.Common.{◌≡◌, ℕ, suc, ◌%◌, ◌^◌, ◌<◌, Bool, true, false, cond, ◌&&◌, not, eqb, leb, List, [], ◌∷◌, length, Option, Some, None, Ok, refl, ap, ◌∙◌, arith}
use Rattle.std.specs.Prelude.{codes}
use Rattle.std.specs.Fmt.{decimal}
use Rattle.std.specs.List.{list_all}
use Rattle.std.proofs.lemmas.Bool.{and_from, and_parts}
use Rattle.std.specs.Option.{option_map}
use Rattle.text_fields.specs.declared.fault.FieldFault.TheVariants as fault
use Rattle.text_fields.specs.Fields.{or_fault}
use Rattle.text_fields.specs.declared.kind.Kind.TheVariants.{Plain}
use Rattle.text_fields.specs.declared.kind.Shape.TheVariants.{Number}
use Rattle.text_fields.specs.declared.value.Value.{Value}
use Rattle.text_fields.specs.declared.value.Value.TheVariants as value
use Rattle.text_fields.specs.Forms.{FitForm, fields_for}
use Rattle.text_fields.specs.Laws.{FieldsAreCutAgain, FieldsMakeLines, FormsAreReadAgain, FormsMakeFields, ValuesAreReadAgain, ValuesMakeFields}
use Rattle.text_fields.specs.Lines.{is_field, is_field_byte, line_of}
use Rattle.text_fields.specs.Numbers.{in_range, number_of}
use Rattle.scen_words.specs.declared.sentence.Sentence.TheVariants.{Opens}
use Rattle.scen_words.specs.declared.word.CommandWord.{CommandWord}
use Rattle.scen_words.specs.declared.word.CommandWord.TheVariants as command
use Rattle.scen_words.specs.declared.word.DeclarationWord.{DeclarationWord}
use Rattle.scen_words.specs.declared.word.DeclarationWord.TheVariants as declaration
use Rattle.scen_words.specs.declared.word.Word.{Word}
use Rattle.scen_words.specs.declared.word.Word.TheVariants as word
use Rattle.scen_words.specs.Laws.{ActorsAreReadAgain, CommandsAreReadAgain, DeclarationsAreReadAgain, EndingsAreReadAgain, OpeningsAreReadAgain}
use Rattle.scen_words.specs.Sentences.{actor_sentence, fields_sentence, is_skipped, plain_sentence, sentence, sentence_of}
use Rattle.scen_words.specs.Words.{command_form, command_spelling, declaration_spelling, form, is_in_version, word_of}

-- what the crate below says of lines and forms
pub record Laws : Type 0 where
  pub fields : FieldsAreCutAgain
  pub line : FieldsMakeLines
  pub read : FormsAreReadAgain
  pub made : FormsMakeFields
  pub values : ValuesAreReadAgain
  pub value_made : ValuesMakeFields

not_skipped : (b : ℕ) (bs : List ℕ) (fields : List (List ℕ)) → is_skipped (line_of ((b ∷ bs) ∷ fields)) ≡ eqb b 35
not_skipped b bs [] = refl
not_skipped b bs (f ∷ fs) = refl

-- a line that isn't skipped says what its fields say
of_fields : Laws → (version b : ℕ) (bs : List ℕ) (fields : List (List ℕ)) → eqb b 35 ≡ false → list_all is_field ((b ∷ bs) ∷ fields) ≡ true
    → sentence_of version (line_of ((b ∷ bs) ∷ fields)) ≡ fields_sentence version ((b ∷ bs) ∷ fields)
unfolding sentence_of
of_fields laws version b bs fields other good =
    let line = line_of ((b ∷ bs) ∷ fields) in
    rw (laws.line ((b ∷ bs) ∷ fields) good, not_skipped b bs fields ∙ other, laws.fields (b ∷ bs) fields good) refl

-- a word and the fields behind it
pub plain_line : Laws → (version b : ℕ) (bs : List ℕ) (w : Word) (values : List Value) → eqb b 35 ≡ false → eqb b 64 ≡ false → is_field (b ∷ bs) ≡ true → word_of version (b ∷ bs) ≡ Some w
    → FitForm (form w) values → sentence_of version (line_of ((b ∷ bs) ∷ fields_for (form w) values)) ≡ Ok (sentence w values)
unfolding fields_sentence plain_sentence
plain_line laws version b bs w values other plain good is fits =
    let fields = fields_for (form w) values in
    of_fields laws version b bs fields other (and_from (is_field (b ∷ bs)) (list_all is_field fields) good (laws.made (form w) values fits))
    ∙ rw (plain, is, laws.read (form w) values fits) refl

chosen : (b : Bool) (m n : ℕ) → or_fault fault.Number (option_map value.Number (cond b (Some m) None)) ≡ Ok (value.Number n) → Some m ≡ Some n
chosen true m n e = cc
chosen false m n e = absurd cc

-- ---- which word a spelling is

and_false : (b : Bool) → (b && false) ≡ false
and_false true = refl
and_false false = refl

word_is : (version : ℕ) (w : CommandWord) → word_of version (command_spelling w) ≡ Some (word.Orders w)
unfolding word_of
word_is version command.SetIff = rw (and_false (leb 2 version)) refl
word_is version command.SetQueue = rw (and_false (leb 2 version)) refl
word_is version command.Close = rw (and_false (leb 2 version)) refl
word_is version command.Persist = rw (and_false (leb 2 version)) refl
word_is version command.HdrSize = rw (and_false (leb 2 version)) refl
word_is version command.Steer = rw (and_false (leb 2 version)) refl
word_is version command.Filter = rw (and_false (leb 2 version)) refl
word_is version command.Tick = rw (and_false (leb 2 version)) refl
word_is version command.Resize = rw (and_false (leb 2 version)) refl
word_is version command.Send = rw (and_false (leb 2 version)) refl
word_is version command.Read = rw (and_false (leb 2 version)) refl
word_is version command.Write = rw (and_false (leb 2 version)) refl
word_is version command.Features = rw (and_false (leb 2 version)) refl
word_is version command.VNum = rw (and_false (leb 2 version)) refl
word_is version command.VBase = rw (and_false (leb 2 version)) refl
word_is version command.VAddr = rw (and_false (leb 2 version)) refl
word_is version command.GetBase = rw (and_false (leb 2 version)) refl
word_is version command.Backend = rw (and_false (leb 2 version)) refl
word_is version command.RxTurn = rw (and_false (leb 2 version)) refl
word_is version command.TxTurn = rw (and_false (leb 2 version)) refl
word_is version command.Poke = rw (and_false (leb 2 version)) refl
word_is version command.Peek = rw (and_false (leb 2 version)) refl
word_is version command.Drive = rw (and_false (leb 2 version)) refl
word_is version command.PostIn = rw (and_false (leb 2 version)) refl
word_is version command.PostOut = rw (and_false (leb 2 version)) refl
word_is version command.Harvest = rw (and_false (leb 2 version)) refl

-- ---- commands

pub commands_again : Laws → CommandsAreReadAgain
unfolding sentence
commands_again laws version command.SetIff values fits = plain_line laws version 115 (codes "etiff") (word.Orders command.SetIff) values refl refl refl (word_is version command.SetIff) fits
commands_again laws version command.SetQueue values fits = plain_line laws version 115 (codes "etqueue") (word.Orders command.SetQueue) values refl refl refl (word_is version command.SetQueue) fits
commands_again laws version command.Close values fits = plain_line laws version 99 (codes "lose") (word.Orders command.Close) values refl refl refl (word_is version command.Close) fits
commands_again laws version command.Persist values fits = plain_line laws version 112 (codes "ersist") (word.Orders command.Persist) values refl refl refl (word_is version command.Persist) fits
commands_again laws version command.HdrSize values fits = plain_line laws version 104 (codes "drsize") (word.Orders command.HdrSize) values refl refl refl (word_is version command.HdrSize) fits
commands_again laws version command.Steer values fits = plain_line laws version 115 (codes "teer") (word.Orders command.Steer) values refl refl refl (word_is version command.Steer) fits
commands_again laws version command.Filter values fits = plain_line laws version 102 (codes "ilter") (word.Orders command.Filter) values refl refl refl (word_is version command.Filter) fits
commands_again laws version command.Tick values fits = plain_line laws version 116 (codes "ick") (word.Orders command.Tick) values refl refl refl (word_is version command.Tick) fits
commands_again laws version command.Resize values fits = plain_line laws version 114 (codes "esize") (word.Orders command.Resize) values refl refl refl (word_is version command.Resize) fits
commands_again laws version command.Send values fits = plain_line laws version 115 (codes "end") (word.Orders command.Send) values refl refl refl (word_is version command.Send) fits
commands_again laws version command.Read values fits = plain_line laws version 114 (codes "ead") (word.Orders command.Read) values refl refl refl (word_is version command.Read) fits
commands_again laws version command.Write values fits = plain_line laws version 119 (codes "rite") (word.Orders command.Write) values refl refl refl (word_is version command.Write) fits
commands_again laws version command.Features values fits = plain_line laws version 102 (codes "eatures") (word.Orders command.Features) values refl refl refl (word_is version command.Features) fits
commands_again laws version command.VNum values fits = plain_line laws version 118 (codes "num") (word.Orders command.VNum) values refl refl refl (word_is version command.VNum) fits
commands_again laws version command.VBase values fits = plain_line laws version 118 (codes "base") (word.Orders command.VBase) values refl refl refl (word_is version command.VBase) fits
commands_again laws version command.VAddr values fits = plain_line laws version 118 (codes "addr") (word.Orders command.VAddr) values refl refl refl (word_is version command.VAddr) fits
commands_again laws version command.GetBase values fits = plain_line laws version 103 (codes "etbase") (word.Orders command.GetBase) values refl refl refl (word_is version command.GetBase) fits
commands_again laws version command.Backend values fits = plain_line laws version 98 (codes "ackend") (word.Orders command.Backend) values refl refl refl (word_is version command.Backend) fits
commands_again laws version command.RxTurn values fits = plain_line laws version 114 (codes "xturn") (word.Orders command.RxTurn) values refl refl refl (word_is version command.RxTurn) fits
commands_again laws version command.TxTurn values fits = plain_line laws version 116 (codes "xturn") (word.Orders command.TxTurn) values refl refl refl (word_is version command.TxTurn) fits
commands_again laws version command.Poke values fits = plain_line laws version 112 (codes "oke") (word.Orders command.Poke) values refl refl refl (word_is version command.Poke) fits
commands_again laws version command.Peek values fits = plain_line laws version 112 (codes "eek") (word.Orders command.Peek) values refl refl refl (word_is version command.Peek) fits
commands_again laws version command.Drive values fits = plain_line laws version 100 (codes "rive") (word.Orders command.Drive) values refl refl refl (word_is version command.Drive) fits
commands_again laws version command.PostIn values fits = plain_line laws version 112 (codes "ostin") (word.Orders command.PostIn) values refl refl refl (word_is version command.PostIn) fits
commands_again laws version command.PostOut values fits = plain_line laws version 112 (codes "ostout") (word.Orders command.PostOut) values refl refl refl (word_is version command.PostOut) fits
commands_again laws version command.Harvest values fits = plain_line laws version 104 (codes "arvest") (word.Orders command.Harvest) values refl refl refl (word_is version command.Harvest) fits

spelled : (w : CommandWord) → is_field (command_spelling w) ≡ true
spelled command.SetIff = refl
spelled command.SetQueue = refl
spelled command.Close = refl
spelled command.Persist = refl
spelled command.HdrSize = refl
spelled command.Steer = refl
spelled command.Filter = refl
spelled command.Tick = refl
spelled command.Resize = refl
spelled command.Send = refl
spelled command.Read = refl
spelled command.Write = refl
spelled command.Features = refl
spelled command.VNum = refl
spelled command.VBase = refl
spelled command.VAddr = refl
spelled command.GetBase = refl
spelled command.Backend = refl
spelled command.RxTurn = refl
spelled command.TxTurn = refl
spelled command.Poke = refl
spelled command.Peek = refl
spelled command.Drive = refl
spelled command.PostIn = refl
spelled command.PostOut = refl
spelled command.Harvest = refl

-- ---- commands of actors

not_none : (n : ℕ) → not (eqb (suc n) 0) ≡ true
not_none n = grind arith

number_in : (o : Option ℕ) (least most n : ℕ) → or_fault fault.Number (option_map value.Number (in_range least most o)) ≡ Ok (value.Number n) → o ≡ Some n
number_in None least most n e = absurd cc
number_in (Some m) least most n e = chosen (leb least m && leb m most) m n e

number_is : Laws → (k : ℕ) → k < 2 ^ 64 → number_of (decimal k) ≡ Some k
number_is laws k small = number_in (number_of (decimal k)) 0 k k (laws.values (Plain (Number 0 k)) (value.Number k) (omega arith, omega arith, small))

at_field : (bytes : List ℕ) → is_field bytes ≡ true → is_field (64 ∷ bytes) ≡ true
at_field bytes h =
    and_from (list_all is_field_byte (64 ∷ bytes)) (not (eqb (length (64 ∷ bytes)) 0)) (and_parts (list_all is_field_byte bytes) (not (eqb (length bytes) 0)) h).0 (not_none (length bytes))

pub actors_again : Laws → ActorsAreReadAgain
unfolding fields_sentence actor_sentence
actors_again laws version k w values small fits =
    let fields = fields_for (command_form w) values in
    let good = and_from (is_field (64 ∷ decimal k)) (list_all is_field (command_spelling w ∷ fields))
    (at_field (decimal k) (laws.value_made (Plain (Number 0 k)) (value.Number k) (omega arith, omega arith, small)))
    (and_from (is_field (command_spelling w)) (list_all is_field fields) (spelled w) (laws.made (command_form w) values fits)) in
    of_fields laws version 64 (decimal k) (command_spelling w ∷ fields) refl good
    ∙ rw (number_is laws k small, word_is version w, laws.read (command_form w) values fits) refl

-- ---- declarations

declared : (version : ℕ) (w : DeclarationWord) → is_in_version version (word.Declares w) ≡ true → word_of version (declaration_spelling w) ≡ Some (word.Declares w)
unfolding word_of
declared version declaration.File h = refl
declared version declaration.Region h = refl
declared version declaration.Vhost h = refl
declared version declaration.Prog h = refl
declared version declaration.Flows h = rw h refl

pub declarations_again : Laws → DeclarationsAreReadAgain
unfolding sentence
declarations_again laws version declaration.File values h fits = plain_line laws version 102 (codes "ile") (word.Declares declaration.File) values refl refl refl (declared version declaration.File h) fits
declarations_again laws version declaration.Region values h fits = plain_line laws version 114 (codes "egion") (word.Declares declaration.Region) values refl refl refl (declared version declaration.Region h) fits
declarations_again laws version declaration.Vhost values h fits = plain_line laws version 118 (codes "host") (word.Declares declaration.Vhost) values refl refl refl (declared version declaration.Vhost h) fits
declarations_again laws version declaration.Prog values h fits = plain_line laws version 112 (codes "rog") (word.Declares declaration.Prog) values refl refl refl (declared version declaration.Prog h) fits
declarations_again laws version declaration.Flows values h fits = plain_line laws version 102 (codes "lows") (word.Declares declaration.Flows) values refl refl refl (declared version declaration.Flows h) fits

-- ---- the lines around a block

phase_word : (version : ℕ) → word_of version (codes "phase") ≡ Some word.Phase
unfolding word_of
phase_word version = rw (and_false (leb 2 version)) refl

end_word : (version : ℕ) → word_of version (codes "end") ≡ Some word.End
unfolding word_of
end_word version = rw (and_false (leb 2 version)) refl

pub openings_again : Laws → OpeningsAreReadAgain
unfolding sentence
openings_again laws version n some few =
    let small : n % 2 ^ 16 ≡ n = omega arith in
    plain_line laws version 112 (codes "hase") word.Phase (value.Number n ∷ []) refl refl refl (phase_word version) (record { count = refl; each = ((some, few, omega arith), tt) })
    ∙ ap (λ (k : ℕ). Ok (Opens k)) small

pub endings_again : Laws → EndingsAreReadAgain
unfolding sentence
endings_again laws version = plain_line laws version 101 (codes "nd") word.End [] refl refl refl (end_word version) (record { count = refl; each = tt })
