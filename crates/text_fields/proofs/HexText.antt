-- Hexadecimal digits are a text, and are written piece by piece.
use Rattle.std.proofs.Common.{◌≡◌, ℕ, ◌+◌, ◌≤◌, ◌-◌, arith, List, [], ◌∷◌, ◌++◌, length, take, drop, get_or, ◌/◌, ◌%◌, sym, ◌∙◌, ltb, true, Result, Ok, Err, refl, ap}
use Rattle.std.specs.List.{list_all}
use Rattle.std.specs.Result.{IsOk, OnOk}
use Rattle.std.specs.Str.{IsAscii, IsUtf8}
use Rattle.std.proofs.lemmas.Bool.{and_parts, ltb-true}
use Rattle.std.proofs.lemmas.Str.Ascii.{IsAscii-nil, IsAscii-cons}
use Rattle.std.proofs.lemmas.Str.{IsUtf8-from_ascii}
use Rattle.std.proofs.lemmas.List.{take_all}
use Rattle.std.proofs.Math.Seq.{take-add}
use Rattle.hex.specs.Hex.{encode_lower, encode_with, lower_digits}
use Rattle.hex.proofs.HexLemmas.{IsAscii-encode_with}

pub ok_gives : {T E : Type 0} (r : Result T E) (P : Type 0) → IsOk r → OnOk r P → P
ok_gives (Ok x) P ok h = h
ok_gives (Err e) P ok h = absurd cc

ascii_by_test : (bs : List ℕ) → list_all (λ b. ltb b 128) bs ≡ true → IsAscii bs
ascii_by_test [] h = IsAscii-nil
ascii_by_test (b ∷ bs) h =
    let p = and_parts (ltb b 128) (list_all (λ b. ltb b 128) bs) h in
    IsAscii-cons b bs (ltb-true b 128 p.0) (ascii_by_test bs p.1)

pub hex_is_text : (bytes : List ℕ) → IsUtf8 (encode_lower bytes)
hex_is_text bytes = IsUtf8-from_ascii (encode_lower bytes) (IsAscii-encode_with lower_digits bytes (ascii_by_test lower_digits refl))

pub encode_with-append : (t xs ys : List ℕ) → encode_with t (xs ++ ys) ≡ encode_with t xs ++ encode_with t ys
unfolding encode_with
encode_with-append t [] ys = refl
encode_with-append t (x ∷ xs) ys = ap (λ (rest : List ℕ). get_or t (x / 16) 0 ∷ get_or t (x % 16) 0 ∷ rest) (encode_with-append t xs ys)

-- a piece is added to what is written
pub next_piece : (bytes : List ℕ) (i n : ℕ) → encode_lower (take i bytes) ++ encode_lower (take n (drop i bytes)) ≡ encode_lower (take (i + n) bytes)
next_piece bytes i n = sym (encode_with-append lower_digits (take i bytes) (take n (drop i bytes))) ∙ ap encode_lower (sym (take-add i n bytes))

pub piece_written : (bytes shown : List ℕ) (i n m : ℕ) → m ≡ n → shown ≡ encode_lower (take m (drop i bytes)) → encode_lower (take i bytes) ++ shown ≡ encode_lower (take (i + n) bytes)
piece_written bytes shown i n m same is =
    ap (λ (t : List ℕ). encode_lower (take i bytes) ++ t) (is ∙ ap (λ (k : ℕ). encode_lower (take k (drop i bytes))) same) ∙ next_piece bytes i n

pub last_written : (bytes shown : List ℕ) (i : ℕ) → i ≤ length bytes → shown ≡ encode_lower (take (length bytes - i) (drop i bytes)) → encode_lower (take i bytes) ++ shown ≡ encode_lower bytes
last_written bytes shown i le is =
    piece_written bytes shown i (length bytes - i) (length bytes - i) refl is ∙ ap encode_lower (take_all (i + (length bytes - i)) bytes (omega arith))
