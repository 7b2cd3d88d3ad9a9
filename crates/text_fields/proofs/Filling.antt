-- Digits that fill a room.
use Rattle.std.proofs.Common.{◌≡◌, ℕ, ◌*◌, ◌/◌, ◌%◌, Bool, true, false, cond, not, ◌&&◌, eqb, List, length, Option, None, Result, Ok, Err, refl, sym, ap, ◌∙◌, arith}
use Rattle.std.specs.List.{list_all}
use Rattle.std.specs.Option.{MatchOption}
use Rattle.std.specs.Result.{MatchResult, is_ok, result_ok}
use Rattle.hex.specs.Hex.{decode_of, decode_sized}
use Rattle.hex.specs.declared.error.FromHexError.{FromHexError}
use Rattle.text_fields.specs.Hexadecimal.{bytes_of, is_lower_digit, so_many_of}

other_count : (n d : ℕ) → (n ≡ d → ⊥) → eqb n d ≡ false
other_count n d h = grind arith

same_count : (n d : ℕ) → n ≡ d → eqb n d ≡ true
same_count n d h = grind arith

pub wrong_count : (d : ℕ) (field : List ℕ) → (length field ≡ d → ⊥) → so_many_of d field ≡ None
wrong_count d field h = rw (other_count (length field) d h) refl

chosen_none : {A : Type 0} (b c : Bool) (o : Option A) → c ≡ false → cond b (cond c o None) None ≡ None
chosen_none true c o e = rw e refl
chosen_none false c o e = refl

pub wrong_digits : (d : ℕ) (field : List ℕ) → list_all is_lower_digit field ≡ false → so_many_of d field ≡ None
unfolding bytes_of
wrong_digits d field h = chosen_none (eqb (length field) d) (list_all is_lower_digit field && not (eqb (length field) 0)) (result_ok (decode_of field)) (rw h refl)

and_false : (b : Bool) → (b && false) ≡ false
and_false true = refl
and_false false = refl

pub no_digits : (d : ℕ) (field : List ℕ) → length field ≡ 0 → so_many_of d field ≡ None
unfolding bytes_of
no_digits d field h =
    let none : (list_all is_lower_digit field && not (eqb (length field) 0)) ≡ false = rw h (and_false (list_all is_lower_digit field)) in
    chosen_none (eqb (length field) d) (list_all is_lower_digit field && not (eqb (length field) 0)) (result_ok (decode_of field)) none

abbrev Filled : Option (List ℕ) → Bool → List ℕ → Type 0
Filled o r room = MatchOption o (r ≡ false) (λ bytes. (r ≡ true) × (room ≡ bytes))

pub filled_none : (o : Option (List ℕ)) (room : List ℕ) → o ≡ None → Filled o false room
filled_none o room e = rw e refl

by_cases : (read : Result (List ℕ) FromHexError) (r : Result (Unit {0}) FromHexError) (b : Bool) (room : List ℕ)
    → MatchResult read (λ bytes. (r ≡ Ok tt) × (room ≡ bytes)) (λ e. r ≡ Err e) → b ≡ is_ok r → Filled (result_ok read) b room
by_cases (Ok bytes) r b room h e = (e ∙ ap (λ (x : Result (Unit {0}) FromHexError). is_ok x) h.0, h.1)
by_cases (Err d) r b room h e = e ∙ ap (λ (x : Result (Unit {0}) FromHexError). is_ok x) h

sized : (n : ℕ) (field : List ℕ) → length field ≡ 2 * n → decode_sized field n ≡ decode_of field
sized n field e =
    let even : eqb (length field % 2) 1 ≡ false = other_count (length field % 2) 1 (λ h. omega arith) in
    let half : eqb (length field / 2) n ≡ true = same_count (length field / 2) n (omega arith) in
    rw (even, half) refl

read_all : (d : ℕ) (field : List ℕ) → length field ≡ d → list_all is_lower_digit field ≡ true → (length field ≡ 0 → ⊥) → so_many_of d field ≡ result_ok (decode_of field)
unfolding bytes_of
read_all d field e lower some = rw (same_count (length field) d e, lower, other_count (length field) 0 some) refl

pub fills : (n : ℕ) (field room : List ℕ) (r : Result (Unit {0}) FromHexError) (b : Bool) → length field ≡ 2 * n → list_all is_lower_digit field ≡ true → (length field ≡ 0 → ⊥)
    → MatchResult (decode_sized field n) (λ bytes. (r ≡ Ok tt) × (room ≡ bytes)) (λ e. r ≡ Err e) → b ≡ is_ok r → Filled (so_many_of (2 * n) field) b room
fills n field room r b e lower some h is =
    rw (read_all (2 * n) field e lower some) (by_cases (decode_of field) r b room (rw (sized n field e) at h) is)

same_left : (b : Bool) → b ≡ false → b ≡ true → ⊥
same_left b wrong right = cc

pub some_left : (n : ℕ) (b : Bool) → b ≡ eqb n 0 → b ≡ false → n ≡ 0 → ⊥
some_left n b e wrong h = same_left (eqb n 0) (sym e ∙ wrong) (same_count n 0 h)
