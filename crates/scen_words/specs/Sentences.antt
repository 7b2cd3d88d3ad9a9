-- This project's own: what a line of a scenario says by itself, or the least of the refusals that the line shows by
-- itself. It depends on the line and on the version alone.
use Rattle.std.specs.Prelude.{ℕ, Bool, true, not, ◌==◌, if◌then◌else◌, List, [], ◌∷◌, codes, Option, Some, None, Result, Ok, Err}
use Rattle.std.specs.Str.{bytes_eq}
use Rattle.text_fields.specs.declared.fault.FieldFault.{FieldFault}
use Rattle.text_fields.specs.declared.fault.FieldFault.TheVariants as fault
use Rattle.text_fields.specs.declared.value.Value.{Value}
use Rattle.text_fields.specs.Forms.{values_of}
use Rattle.text_fields.specs.Lines.{fields_of, is_text_line}
use Rattle.text_fields.specs.Numbers.{number_of}
use Rattle.scen_words.specs.declared.fault.Why.{Why}
use Rattle.scen_words.specs.declared.fault.Why.TheVariants.{NotText, Version, Word, Fields, Number, Hex}
use Rattle.scen_words.specs.declared.sentence.Sentence.{Sentence}
use Rattle.scen_words.specs.declared.sentence.Sentence.TheVariants.{Skipped, Declares, Orders, Opens, Ends}
use Rattle.scen_words.specs.declared.word.CommandWord.{CommandWord}
use Rattle.scen_words.specs.declared.word.Word.{Word as AWord}
use Rattle.scen_words.specs.declared.word.Word.TheVariants as word
use Rattle.scen_words.specs.Commands.{u16_at}
use Rattle.scen_words.specs.Words.{command_form, form, word_of}

-- ---- the first line

-- the version that the first line gives: it is `tapscen 1` or `tapscen 2`
unfoldable pub version_of : List ℕ → Result ℕ Why
version_of line =
    if not (is_text_line line) then Err NotText
    else (if bytes_eq line (codes "tapscen 1") then Ok 1
    else (if bytes_eq line (codes "tapscen 2") then Ok 2
    else Err Version))

-- ---- a later line

-- how a line's fields are refused
abbrev pub why_of : FieldFault → Why
why_of fault.Fields = Fields
why_of fault.Number = Number
why_of fault.Hex = Hex

-- what a word without `@K` and its values say
unfoldable pub sentence : AWord → List Value → Sentence
sentence (word.Declares w) values = Declares w values
sentence (word.Orders w) values = Orders None w values
sentence word.Phase values = Opens (u16_at values 0)
sentence word.End values = Ends

abbrev pub said_by : AWord → Result (List Value) FieldFault → Result Sentence Why
said_by w (Ok values) = Ok (sentence w values)
said_by w (Err why) = Err (why_of why)

abbrev pub said_by_word : List (List ℕ) → Option AWord → Result Sentence Why
said_by_word fields None = Err Word
said_by_word fields (Some w) = said_by w (values_of (form w) fields)

-- a line without `@K`: its first field is a word, and the others are of the word's form
unfoldable pub plain_sentence : ℕ → List ℕ → List (List ℕ) → Result Sentence Why
plain_sentence version first fields = said_by_word fields (word_of version first)

-- a command of an actor; the form of `@K` is looked at with the numbers, behind the count of fields and before all
-- digits
abbrev pub ordered : CommandWord → Option ℕ → Result (List Value) FieldFault → Result Sentence Why
ordered w actor (Err fault.Fields) = Err Fields
ordered w None values = Err Number
ordered w (Some actor) (Ok values) = Ok (Orders (Some actor) w values)
ordered w (Some actor) (Err why) = Err (why_of why)

abbrev pub ordered_by_word : Option ℕ → List (List ℕ) → Option AWord → Result Sentence Why
ordered_by_word actor fields (Some (word.Orders w)) = ordered w actor (values_of (command_form w) fields)
ordered_by_word actor fields w = Err Word

-- a line with `@K`: the word of a command and its fields stand behind it
unfoldable pub actor_sentence : ℕ → List ℕ → List (List ℕ) → Result Sentence Why
actor_sentence version actor [] = Err Fields
actor_sentence version actor (second ∷ fields) = ordered_by_word (number_of actor) fields (word_of version second)

-- a first field that begins with `@` is the form `@K`
unfoldable pub fields_sentence : ℕ → List (List ℕ) → Result Sentence Why
fields_sentence version [] = Err Word
fields_sentence version ([] ∷ fields) = Err Word
fields_sentence version ((b ∷ bs) ∷ fields) =
    if b == 64 then actor_sentence version bs fields else plain_sentence version (b ∷ bs) fields

-- an empty line, or one that begins with `#`
abbrev pub is_skipped : List ℕ → Bool
is_skipped [] = true
is_skipped (b ∷ bs) = b == 35

-- what a line says, or its first refusal
unfoldable pub sentence_of : ℕ → List ℕ → Result Sentence Why
sentence_of version line =
    if not (is_text_line line) then Err NotText
    else (if is_skipped line then Ok Skipped else fields_sentence version (fields_of line))
