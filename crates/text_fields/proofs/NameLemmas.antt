-- A name is a text.
use Rattle.std.proofs.Common.{◌≡◌, ℕ, ◌<◌, Bool, true, false, refl, not, ◌&&◌, eqb, leb, List, [], ◌∷◌, length, arith}
use Rattle.std.specs.Prelude.{codes}
use Rattle.std.specs.List.{list_all}
use Rattle.std.specs.Str.{IsAscii, IsUtf8, bytes_eq}
use Rattle.std.proofs.lemmas.Bool.{and_parts}
use Rattle.std.proofs.lemmas.Str.{IsUtf8-from_ascii}
use Rattle.std.proofs.lemmas.Str.Ascii.{IsAscii-nil, IsAscii-cons}
use Rattle.text_fields.specs.Names.{is_name, is_name_byte}

name_byte_below : (b : ℕ) → is_name_byte b ≡ true → b < 128
name_byte_below b h = grind arith

name_bytes_are_ascii : (bytes : List ℕ) → list_all is_name_byte bytes ≡ true → IsAscii bytes
name_bytes_are_ascii [] h = IsAscii-nil
name_bytes_are_ascii (b ∷ bytes) h =
    let p = and_parts (is_name_byte b) (list_all is_name_byte bytes) h in
    IsAscii-cons b bytes (name_byte_below b p.0) (name_bytes_are_ascii bytes p.1)

not_true : (b : Bool) → not b ≡ true → b ≡ false
not_true true h = absurd cc
not_true false h = refl

-- the bytes of a name, and that there are some
pub name_parts : (name : List ℕ) → is_name name ≡ true → (list_all is_name_byte name ≡ true) × (not (eqb (length name) 0) ≡ true) × (bytes_eq name (codes "-") ≡ false)
name_parts name h =
    let most = and_parts (list_all is_name_byte name && not (eqb (length name) 0) && leb (length name) 15) (not (bytes_eq name (codes "-"))) h in
    let more = and_parts (list_all is_name_byte name && not (eqb (length name) 0)) (leb (length name) 15) most.0 in
    let all = and_parts (list_all is_name_byte name) (not (eqb (length name) 0)) more.0 in
    (all.0, all.1, not_true (bytes_eq name (codes "-")) most.1)

pub name_is_text : (name : List ℕ) → is_name name ≡ true → IsUtf8 name
name_is_text name h = IsUtf8-from_ascii name (name_bytes_are_ascii name (name_parts name h).0)
