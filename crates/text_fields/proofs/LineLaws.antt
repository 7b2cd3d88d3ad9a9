-- Lines and fields: what was joined is cut apart again.
use Rattle.std.proofs.Common.{◌≡◌, ℕ, Bool, true, false, not, eqb, List, [], ◌∷◌, ◌++◌, All, length, refl, sym, ap, ◌∙◌, append_assoc, arith}
use Rattle.std.specs.List.{slice_split, list_all}
use Rattle.std.proofs.lemmas.Bool.{and_parts, and_from}
use Rattle.std.proofs.lemmas.List.{append-nil}
use Rattle.std.proofs.lemmas.List.Elements.{All-cons, All-nil}
use Rattle.std.proofs.lemmas.List.Splits.{join_with_byte-slice_split, slice_split_at, slice_split_none}
use Rattle.text_fields.specs.Laws.{FieldsAreCutAgain, FieldsMakeLines, LinesAreCutAgain, LinesAreJoinedAgain, WordsAreSpaced}
use Rattle.text_fields.specs.Lines.{is_field, is_field_byte, is_text_byte, is_text_line, line_of, text_of}
use Rattle.text_fields.proofs.Cuts.{line_cut}
use Rattle.text_fields.proofs.DigitLemmas.{weaken}

abbrev IsFree : ℕ → List ℕ → Type 0
IsFree c xs = All (λ b. eqb b c ≡ false) xs

free_by_test : (p : ℕ → Bool) (c : ℕ) → ((b : ℕ) → p b ≡ true → eqb b c ≡ false) → (xs : List ℕ) → list_all p xs ≡ true → IsFree c xs
free_by_test p c other [] h = All-nil (λ b. eqb b c ≡ false)
free_by_test p c other (b ∷ xs) h =
    let parts = and_parts (p b) (list_all p xs) h in
    All-cons (λ b. eqb b c ≡ false) b xs (other b parts.0) (free_by_test p c other xs parts.1)

no_lf : (b : ℕ) → is_text_byte b ≡ true → eqb b 10 ≡ false
no_lf b h = grind arith

no_space : (b : ℕ) → is_field_byte b ≡ true → eqb b 32 ≡ false
no_space b h = grind arith

text_byte : (b : ℕ) → is_field_byte b ≡ true → is_text_byte b ≡ true
text_byte b h = grind arith

-- ---- lines

pub lines_again : LinesAreCutAgain
lines_again [] h = refl
lines_again (line ∷ lines) h =
    let parts = and_parts (is_text_line line) (list_all is_text_line lines) h in
    let whole : text_of (line ∷ lines) ≡ line ++ 10 ∷ text_of lines = append_assoc line (10 ∷ []) (text_of lines) in
    let split : slice_split (λ b. eqb b 10) (text_of (line ∷ lines)) ≡ line ∷ slice_split (λ b. eqb b 10) (text_of lines) =
    ap (slice_split (λ b. eqb b 10)) whole ∙ slice_split_at (λ b. eqb b 10) line 10 (text_of lines) (free_by_test is_text_byte 10 no_lf line parts.0) refl in
    line_cut (text_of (line ∷ lines)) line (text_of lines) split ∙ ap (λ (rest : List (List ℕ)). line ∷ rest) (lines_again lines parts.1)

-- ---- fields

pub fields_again : FieldsAreCutAgain
fields_again field [] h =
    let parts = and_parts (is_field field) true h in
    slice_split_none (λ b. eqb b 32) field (free_by_test is_field_byte 32 no_space field (and_parts (list_all is_field_byte field) (not (eqb (length field) 0)) parts.0).0)
fields_again field (next ∷ others) h =
    let parts = and_parts (is_field field) (list_all is_field (next ∷ others)) h in
    slice_split_at (λ b. eqb b 32) field 32 (line_of (next ∷ others)) (free_by_test is_field_byte 32 no_space field (and_parts (list_all is_field_byte field) (not (eqb (length field) 0)) parts.0).0) refl
    ∙ ap (λ (rest : List (List ℕ)). field ∷ rest) (fields_again next others parts.1)

pub joined_again : LinesAreJoinedAgain
joined_again line = join_with_byte-slice_split 32 line

all_append : (p : ℕ → Bool) (xs ys : List ℕ) → list_all p xs ≡ true → list_all p ys ≡ true → list_all p (xs ++ ys) ≡ true
all_append p [] ys h k = k
all_append p (x ∷ xs) ys h k =
    let parts = and_parts (p x) (list_all p xs) h in
    and_from (p x) (list_all p (xs ++ ys)) parts.0 (all_append p xs ys parts.1 k)

text_field : (field : List ℕ) → is_field field ≡ true → is_text_line field ≡ true
text_field field h = weaken is_field_byte is_text_byte text_byte field (and_parts (list_all is_field_byte field) (not (eqb (length field) 0)) h).0

pub line_of_fields : FieldsMakeLines
line_of_fields [] h = refl
line_of_fields (field ∷ []) h = text_field field (and_parts (is_field field) true h).0
line_of_fields (field ∷ next ∷ others) h =
    let parts = and_parts (is_field field) (list_all is_field (next ∷ others)) h in
    all_append is_text_byte field (32 ∷ line_of (next ∷ others)) (text_field field parts.0) (line_of_fields (next ∷ others) parts.1)

pub word_spaced : WordsAreSpaced
word_spaced word [] = sym (append-nil word)
word_spaced word (field ∷ fields) = ap (λ (rest : List ℕ). word ++ 32 ∷ rest) (word_spaced field fields)
