-- A line is its word, and its fields behind a space each.
use Rattle.std.proofs.Common.{◌≡◌, ℕ, suc, ◌-◌, arith, length, replicate, map, List, [], ◌∷◌, ◌++◌, refl, sym, ap, ◌∙◌, append_assoc}
use Rattle.std.specs.List.{join_with_byte, flat_map}
use Rattle.std.specs.Fmt.{decimal}
use Rattle.std.proofs.lemmas.List.{append-nil, length-map}
use Rattle.text_fields.specs.Lines.{spaced}
use Rattle.text_fields.specs.declared.value.Value.TheVariants as value
use Rattle.text_fields.specs.Forms.{fields_under}
use Rattle.scen_words.specs.declared.command.Command.{Command}
use Rattle.scen_words.specs.declared.command.Command.TheVariants.{PostIn}
use Rattle.scen_words.specs.Commands.{command_values}
use Rattle.scen_words.specs.Field.{line}
use Rattle.scen_words.specs.Kinds.{below_32_bits}
use Rattle.scen_words.specs.Rows.{command_fields}

pub word_spaced : (word : List ℕ) (fields : List (List ℕ)) → join_with_byte 32 (word ∷ fields) ≡ word ++ spaced fields
word_spaced word [] = sym (append-nil word)
word_spaced word (field ∷ fields) = ap (λ (rest : List ℕ). word ++ 32 ∷ rest) (word_spaced field fields)

-- a word, its fields and LF were written
pub line_written : (old first second new word : List ℕ) (fields : List (List ℕ)) → first ≡ old ++ word → second ≡ first ++ spaced fields → new ≡ second ++ 10 ∷ []
    → new ≡ old ++ line (word ∷ fields)
line_written old first second new word fields a b c =
    c ∙ ap (λ (t : List ℕ). t ++ 10 ∷ []) (b ∙ ap (λ (t : List ℕ). t ++ spaced fields) a ∙ append_assoc old word (spaced fields) ∙ ap (λ (t : List ℕ). old ++ t) (sym (word_spaced word fields)))
    ∙ append_assoc old (join_with_byte 32 (word ∷ fields)) (10 ∷ [])

-- ---- a command of lengths

lens_under : (lens : List ℕ) → spaced (fields_under (replicate (length lens) below_32_bits) (map value.Number lens)) ≡ flat_map (λ n. 32 ∷ decimal n) lens
lens_under [] = refl
lens_under (n ∷ lens) = ap (λ (t : List ℕ). 32 ∷ (decimal n ++ t)) (lens_under lens)

count_is : (n : ℕ) → suc (suc n) - 2 ≡ n
count_is n = omega arith

count_map : (lens : List ℕ) → length (map value.Number lens) ≡ length lens
count_map lens = simp length-map

pub lengths_fields : (names : List (List ℕ)) (vhost ring : ℕ) (lens : List ℕ)
    → spaced (command_fields names (PostIn vhost ring lens)) ≡ (32 ∷ decimal vhost) ++ ((32 ∷ decimal ring) ++ flat_map (λ n. 32 ∷ decimal n) lens)
unfolding command_values
lengths_fields names vhost ring lens =
    ap (λ (n : ℕ). (32 ∷ decimal vhost) ++ ((32 ∷ decimal ring) ++ spaced (fields_under (replicate n below_32_bits) (map value.Number lens))))
    (count_is (length (map value.Number lens)) ∙ count_map lens)
    ∙ ap (λ (t : List ℕ). (32 ∷ decimal vhost) ++ ((32 ∷ decimal ring) ++ t)) (lens_under lens)

-- the two numbers and then the lengths were written
pub lengths_written : (out mid : List ℕ) (names : List (List ℕ)) (command : Command) (vhost ring : ℕ) (lens shown : List ℕ) → command ≡ PostIn vhost ring lens → shown ≡ lens
    → mid ≡ out ++ 32 ∷ (decimal vhost ++ 32 ∷ decimal ring) → mid ++ flat_map (λ n. 32 ∷ decimal n) shown ≡ out ++ spaced (command_fields names command)
lengths_written out mid names command vhost ring lens shown is same first =
    ap (λ (t : List ℕ). mid ++ flat_map (λ n. 32 ∷ decimal n) t) same ∙ ap (λ (t : List ℕ). t ++ flat_map (λ n. 32 ∷ decimal n) lens) first
    ∙ append_assoc out (32 ∷ (decimal vhost ++ 32 ∷ decimal ring)) (flat_map (λ n. 32 ∷ decimal n) lens)
    ∙ ap (λ (t : List ℕ). out ++ 32 ∷ t) (append_assoc (decimal vhost) (32 ∷ decimal ring) (flat_map (λ n. 32 ∷ decimal n) lens))
    ∙ ap (λ (t : List ℕ). out ++ t) (sym (ap (λ (c : Command). spaced (command_fields names c)) is ∙ lengths_fields names vhost ring lens))
