-- The single fields of a line: what is written for a value is read as this value, and what was read is written so.
use Rattle.std.proofs.Common.{◌≡◌, ℕ, ◌^◌, ◌<◌, ◌≤◌, Bool, true, false, cond, eqb, not, List, [], ◌∷◌, ◌++◌, length, Option, Some, None, Ok, refl, ap, append_assoc, subst, sym, ◌∙◌, arith, rules}
use Rattle.std.specs.Char.{is_ascii_digit}
use Rattle.std.specs.Fmt.{decimal}
use Rattle.std.specs.Int.{w16, w32}
use Rattle.std.specs.List.{AllByRecursion, list_all}
use Rattle.std.specs.Option.{option_map}
use Rattle.std.specs.Prelude.{IsTrue, codes}
use Rattle.std.specs.Str.{bytes_eq}
use Rattle.std.specs.Str.Parse.{digits_value}
use Rattle.std.proofs.lemmas.Bool.{and_parts, and_from}
use Rattle.std.proofs.lemmas.Fmt.{digits_decimal}
use Rattle.std.proofs.lemmas.List.Elements.{All-cons, All-nil}
use Rattle.std.proofs.lemmas.Slice.Eq.{bytes_eq-Decides}
use Rattle.std.proofs.lemmas.Str.Parse.{IsNumeralModel, IsDigitsTest, numerals_by_value}
use Rattle.hex.specs.Hex.{encode_lower, encode_with}
use Rattle.tap_frame.specs.declared.name.Name.{Name}
use Rattle.tap_frame.specs.declared.reading.BadFrame.{BadFrame}
use Rattle.tap_frame.specs.declared.reading.BadFrame.TheVariants as bad
use Rattle.text_fields.specs.declared.fault.FieldFault.TheVariants as fault
use Rattle.text_fields.specs.declared.kind.Digits.TheVariants.{Four, Eight}
use Rattle.text_fields.specs.declared.kind.Kind.TheVariants.{Plain}
use Rattle.text_fields.specs.declared.kind.Shape.TheVariants as shape
use Rattle.text_fields.specs.declared.value.Value.TheVariants as value
use Rattle.text_fields.specs.Fields.{dash, or_fault}
use Rattle.text_fields.specs.Hexadecimal.{AreBytes, bytes_of, hex_number_of}
use Rattle.text_fields.specs.Laws.{FieldsAreWrittenAgain, ValuesAreReadAgain, ValuesMakeFields}
use Rattle.text_fields.specs.Lines.{is_field, is_field_byte}
use Rattle.text_fields.specs.Names as names
use Rattle.text_fields.specs.Numbers.{in_range, number_of}
use Rattle.scen_words.specs.Field.{frame_name, hex4}
use Rattle.trace_causes.specs.Fits.{FitBad, FitHarvested, FitName, FitSomeName, Is16, Is32, Is64, IsOption16}
use Rattle.trace_causes.specs.Laws.{FieldLaws, IsClean, IsField}
use Rattle.trace_causes.specs.Reading.{bytes_or_none, cut, harvested_of, name_of, name_or_dash_of, number_or_dash_of, number_to}
use Rattle.trace_causes.specs.Table.{word_in}
use Rattle.trace_causes.specs.Values.{harvested, hex8, name_or_dash, number_or_dash}
use Rattle.trace_causes.specs.Words.{bad_of, bad_spelling, bads}
use Rattle.trace_causes.proofs.WordLaws.{flag_field}
use Rattle.trace_causes.proofs.Chains.{bind_some, found_word}
use Rattle.trace_causes.proofs.Cuts.{IsFree, cut_again, cut_takes}

-- what the crate below says of fields
pub record Laws : Type 0 where
  pub read : ValuesAreReadAgain
  pub written : FieldsAreWrittenAgain
  pub made : ValuesMakeFields

clean : (field : List ℕ) → is_field field ≡ true → IsClean field
clean field h = (and_parts (list_all is_field_byte field) (not (eqb (length field) 0)) h).0

clean_of : (xs ys : List ℕ) → xs ≡ ys → is_field xs ≡ true → IsClean ys
clean_of xs ys e h = subst (λ (bytes : List ℕ). IsClean bytes) e (clean xs h)

-- ---- numbers

number_is : (o : Option ℕ) (n : ℕ) → or_fault fault.Number (option_map value.Number o) ≡ Ok (value.Number n) → o ≡ Some n
number_is None n e = absurd cc
number_is (Some m) n e = cc

pub numbers_to : Laws → (most : ℕ) → most < 2 ^ 64 → IsField (number_to most) decimal (λ n. n ≤ most)
unfolding number_to
numbers_to laws most small = record {
  again = λ n le. number_is (in_range 0 most (number_of (decimal n))) n (laws.read (Plain (shape.Number 0 most)) (value.Number n) (omega arith, le, omega arith));
  takes = λ field n e.
      let w = laws.written (Plain (shape.Number 0 most)) field (value.Number n) (ap (λ (o : Option ℕ). or_fault fault.Number (option_map value.Number o)) e) in
      (w.0.1, w.1, clean_of (decimal n) field w.1 (laws.made (Plain (shape.Number 0 most)) (value.Number n) w.0));
}

pub numbers8 : Laws → IsField (number_to 255) decimal (λ n. n < 256)
numbers8 laws =
    let s = numbers_to laws 255 (omega arith) in
    record { again = λ n h. s.again n (omega arith); takes = λ field n e. let t = s.takes field n e in let le = t.0 in (omega arith, t.1, t.2) }

pub numbers16 : Laws → IsField (number_to 65535) decimal Is16
numbers16 laws =
    let s = numbers_to laws 65535 (omega arith) in
    record { again = λ n h. s.again n (omega arith); takes = λ field n e. let t = s.takes field n e in let le = t.0 in (omega arith, t.1, t.2) }

pub numbers32 : Laws → IsField (number_to 4294967295) decimal Is32
numbers32 laws =
    let s = numbers_to laws 4294967295 (omega arith) in
    record { again = λ n h. s.again n (omega arith); takes = λ field n e. let t = s.takes field n e in let le = t.0 in (omega arith, t.1, t.2) }

pub numbers64 : Laws → IsField (number_to 18446744073709551615) decimal Is64
numbers64 laws =
    let s = numbers_to laws 18446744073709551615 (omega arith) in
    record { again = λ n h. s.again n (omega arith); takes = λ field n e. let t = s.takes field n e in let le = t.0 in (omega arith, t.1, t.2) }

-- ---- cases

bad_spelled : (b : BadFrame) → FitBad b → bad_of (bad_spelling b) ≡ Some b
unfolding word_in
bad_spelled bad.ShortPi fit = refl
bad_spelled bad.ShortHdr fit = refl
bad_spelled bad.HdrBeyond fit = refl
bad_spelled bad.ShortEther fit = refl
bad_spelled bad.HdrShort fit = refl
bad_spelled bad.TooLong fit = refl
bad_spelled bad.NoMemory fit = absurd fit

none_is : bad_of (codes "0") ≡ None
unfolding word_in
none_is = refl

fit_bad : (b : BadFrame) → bad_of (bad_spelling b) ≡ Some b → FitBad b
fit_bad bad.NoMemory e = let no = sym none_is ∙ e in absurd cc
fit_bad bad.ShortPi e = tt
fit_bad bad.ShortHdr e = tt
fit_bad bad.HdrBeyond e = tt
fit_bad bad.ShortEther e = tt
fit_bad bad.HdrShort e = tt
fit_bad bad.TooLong e = tt

bad_found : (field : List ℕ) (b : BadFrame) → bad_of field ≡ Some b → (bad_spelling b ≡ field) × IsClean field
unfolding word_in
bad_found field b e = found_word bad_spelling bads refl field b e

pub bad_cases : IsField bad_of bad_spelling FitBad
bad_cases = record {
  again = bad_spelled;
  takes = λ field b e. let t = bad_found field b e in (fit_bad b (ap bad_of t.0 ∙ e), t.0, t.1);
}

-- ---- digits and bytes

digits_are : (o : Option ℕ) (n : ℕ) → or_fault fault.Hex (option_map value.Number o) ≡ Ok (value.Number n) → o ≡ Some n
digits_are None n e = absurd cc
digits_are (Some m) n e = cc

pub four_digits : Laws → IsField (hex_number_of w16) hex4 Is16
four_digits laws = record {
  again = λ n h. digits_are (hex_number_of w16 (hex4 n)) n (laws.read (Plain (shape.HexNumber Four)) (value.Number n) h);
  takes = λ field n e.
      let w = laws.written (Plain (shape.HexNumber Four)) field (value.Number n) (ap (λ (o : Option ℕ). or_fault fault.Hex (option_map value.Number o)) e) in
      (w.0, w.1, clean_of (hex4 n) field w.1 (laws.made (Plain (shape.HexNumber Four)) (value.Number n) w.0));
}

pub eight_digits : Laws → IsField (hex_number_of w32) hex8 Is32
eight_digits laws = record {
  again = λ n h. digits_are (hex_number_of w32 (hex8 n)) n (laws.read (Plain (shape.HexNumber Eight)) (value.Number n) h);
  takes = λ field n e.
      let w = laws.written (Plain (shape.HexNumber Eight)) field (value.Number n) (ap (λ (o : Option ℕ). or_fault fault.Hex (option_map value.Number o)) e) in
      (w.0, w.1, clean_of (hex8 n) field w.1 (laws.made (Plain (shape.HexNumber Eight)) (value.Number n) w.0));
}

bytes_are : (o : Option (List ℕ)) (bs : List ℕ) → or_fault fault.Hex (option_map value.Bytes o) ≡ Ok (value.Bytes bs) → o ≡ Some bs
bytes_are None bs e = absurd cc
bytes_are (Some cs) bs e = cc

pub some_bytes : Laws → IsField bytes_of encode_lower AreBytes
some_bytes laws = record {
  again = λ bs h. bytes_are (bytes_of (encode_lower bs)) bs (laws.read (Plain shape.Hex) (value.Bytes bs) h);
  takes = λ field bs e.
      let w = laws.written (Plain shape.Hex) field (value.Bytes bs) (ap (λ (o : Option (List ℕ)). or_fault fault.Hex (option_map value.Bytes o)) e) in
      (w.0, w.1, clean_of (encode_lower bs) field w.1 (laws.made (Plain shape.Hex) (value.Bytes bs) w.0));
}

abbrev pub AreSmall : List ℕ → Type 0
AreSmall bytes = AllByRecursion (λ b. b < 256) bytes

any_again : Laws → (bs : List ℕ) → AreSmall bs → bytes_or_none (encode_lower bs) ≡ Some bs
unfolding encode_with
any_again laws [] h = refl
any_again laws (b ∷ bs) h = (some_bytes laws).again (b ∷ bs) (omega arith, h)

any_takes : Laws → (field bs : List ℕ) → bytes_or_none field ≡ Some bs → AreSmall bs × (encode_lower bs ≡ field) × IsClean field
unfolding encode_with
any_takes laws [] [] e = (tt, refl, refl)
any_takes laws [] (b ∷ bs) e = absurd cc
any_takes laws (d ∷ ds) bs e = let t = (some_bytes laws).takes (d ∷ ds) bs e in (t.0.1, t.1, t.2)

pub any_bytes : Laws → IsField bytes_or_none encode_lower AreSmall
any_bytes laws = record { again = any_again laws; takes = any_takes laws }

name_is : (o : Option (List ℕ)) (bs : List ℕ) → or_fault fault.Number (option_map value.Name o) ≡ Ok (value.Name bs) → o ≡ Some bs
name_is None bs e = absurd cc
name_is (Some cs) bs e = cc

pub device_names : Laws → IsField names.name_of (λ name. name) (λ name. IsTrue (names.is_name name))
device_names laws = record {
  again = λ name h. name_is (names.name_of name) name (laws.read (Plain shape.Name) (value.Name name) h);
  takes = λ field name e.
      let w = laws.written (Plain shape.Name) field (value.Name name) (ap (λ (o : Option (List ℕ)). or_fault fault.Number (option_map value.Name o)) e) in
      (w.0, w.1, clean_of name field w.1 (laws.made (Plain shape.Name) (value.Name name) w.0));
}

-- ---- parts of a field

pub free_by_test : (p : ℕ → Bool) (c : ℕ) → ((b : ℕ) → p b ≡ true → eqb b c ≡ false) → (xs : List ℕ) → list_all p xs ≡ true → IsFree c xs
free_by_test p c other [] h = All-nil (λ b. eqb b c ≡ false)
free_by_test p c other (b ∷ xs) h =
    let parts = and_parts (p b) (list_all p xs) h in
    All-cons (λ b. eqb b c ≡ false) b xs (other b parts.0) (free_by_test p c other xs parts.1)

abbrev AreDigits : List ℕ → Type 0
AreDigits ds = list_all is_ascii_digit ds ≡ true

tells : IsDigitsTest AreDigits
tells = search rules

own : IsNumeralModel AreDigits (digits_value 10)
own = numerals_by_value AreDigits tells

no_dot : (b : ℕ) → is_ascii_digit b ≡ true → eqb b 46 ≡ false
no_dot b h = grind arith

no_colon : (b : ℕ) → is_ascii_digit b ≡ true → eqb b 58 ≡ false
no_colon b h = grind arith

no_dots : (n : ℕ) → n < 2 ^ 64 → IsFree 46 (decimal n)
no_dots n small = free_by_test is_ascii_digit 46 no_dot (decimal n) (digits_decimal own n small)

no_colons : (n : ℕ) → n < 2 ^ 64 → IsFree 58 (decimal n)
no_colons n small = free_by_test is_ascii_digit 58 no_colon (decimal n) (digits_decimal own n small)

all_append : (p : ℕ → Bool) (xs ys : List ℕ) → list_all p xs ≡ true → list_all p ys ≡ true → list_all p (xs ++ ys) ≡ true
all_append p [] ys h k = k
all_append p (x ∷ xs) ys h k =
    let parts = and_parts (p x) (list_all p xs) h in
    and_from (p x) (list_all p (xs ++ ys)) parts.0 (all_append p xs ys parts.1 k)

-- two fields with such a byte between them
joined_clean : (c : ℕ) (xs ys : List ℕ) → is_field_byte c ≡ true → IsClean xs → IsClean ys → IsClean (xs ++ c ∷ ys)
joined_clean c xs ys good h k = all_append is_field_byte xs (c ∷ ys) h (and_from (is_field_byte c) (list_all is_field_byte ys) good k)

-- ---- names

-- the name of a frame, with what stands behind its first dot as one
regrouped : (a t p : ℕ) → frame_name (record { actor = a; turn = t; part = p }) ≡ decimal a ++ (46 ∷ (decimal t ++ (46 ∷ decimal p)))
regrouped a t p = append_assoc (decimal a) (46 ∷ decimal t) (46 ∷ decimal p)

name_again : Laws → (n : Name) → FitName n → name_of (frame_name n) ≡ Some n
unfolding name_of
name_again laws n h =
    let small_a : n.actor < 2 ^ 64 = let s = h.0 in omega arith in
    let small_t : n.turn < 2 ^ 64 = let s = h.1 in omega arith in
    ap name_of (regrouped n.actor n.turn n.part)
    ∙ rw (cut_again 46 (decimal n.actor) (decimal n.turn ++ (46 ∷ decimal n.part)) (no_dots n.actor small_a) refl, cut_again 46 (decimal n.turn) (decimal n.part) (no_dots n.turn small_t) refl, (numbers16 laws).again n.actor h.0, (numbers32 laws).again n.turn h.1, (numbers16 laws).again n.part h.2) refl

name_takes : Laws → (field : List ℕ) (n : Name) → name_of field ≡ Some n → FitName n × (frame_name n ≡ field) × IsClean field
unfolding name_of
name_takes laws field n e =
    let s0 = bind_some (cut 46 field) _ n e in
    let s1 = bind_some (cut 46 s0.0.1) _ n s0.2 in
    let s2 = bind_some (number_to 65535 s0.0.0) _ n s1.2 in
    let s3 = bind_some (number_to 4294967295 s1.0.0) _ n s2.2 in
    let s4 = bind_some (number_to 65535 s1.0.1) _ n s3.2 in
    let made : Name = record { actor = s2.0; turn = s3.0; part = s4.0 } in
    let same : made ≡ n = (let last : Some made ≡ Some n = s4.2 in cc) in
    let a = (numbers16 laws).takes s0.0.0 s2.0 s2.1 in
    let t = (numbers32 laws).takes s1.0.0 s3.0 s3.1 in
    let p = (numbers16 laws).takes s1.0.1 s4.0 s4.1 in
    let behind : decimal s3.0 ++ 46 ∷ decimal s4.0 ≡ s0.0.1 =
    ap (λ (x : List ℕ). x ++ 46 ∷ decimal s4.0) t.1 ∙ ap (λ (x : List ℕ). s1.0.0 ++ 46 ∷ x) p.1 ∙ cut_takes 46 s0.0.1 s1.0 s1.1 in
    let whole : frame_name made ≡ field =
    regrouped s2.0 s3.0 s4.0 ∙ ap (λ (x : List ℕ). x ++ (46 ∷ (decimal s3.0 ++ (46 ∷ decimal s4.0)))) a.1 ∙ ap (λ (x : List ℕ). s0.0.0 ++ 46 ∷ x) behind ∙ cut_takes 46 field s0.0 s0.1 in
    let clean_behind : IsClean s0.0.1 = subst (λ (x : List ℕ). IsClean x) (cut_takes 46 s0.0.1 s1.0 s1.1) (joined_clean 46 s1.0.0 s1.0.1 refl t.2 p.2) in
    let clean_whole : IsClean field = subst (λ (x : List ℕ). IsClean x) (cut_takes 46 field s0.0 s0.1) (joined_clean 46 s0.0.0 s0.0.1 refl a.2 clean_behind) in
    subst (λ (m : Name). FitName m × (frame_name m ≡ field) × IsClean field) same ((a.0, t.0, p.0), whole, clean_whole)

pub frame_names : Laws → IsField name_of frame_name FitName
frame_names laws = record { again = name_again laws; takes = name_takes laws }

-- ---- ID:LEN

chain_again : Laws → (e : ℕ × ℕ) → FitHarvested e → harvested_of (harvested e) ≡ Some e
unfolding harvested_of
chain_again laws e h =
    let id = e.0 in
    let small : id < 2 ^ 64 = let s = h.0 in omega arith in
    rw (cut_again 58 (decimal e.0) (decimal e.1) (no_colons e.0 small) refl, (numbers32 laws).again e.0 h.0, (numbers32 laws).again e.1 h.1) refl

chain_takes : Laws → (field : List ℕ) (x : ℕ × ℕ) → harvested_of field ≡ Some x → FitHarvested x × (harvested x ≡ field) × IsClean field
unfolding harvested_of
chain_takes laws field x e =
    let s0 = bind_some (cut 58 field) _ x e in
    let s1 = bind_some (number_to 4294967295 s0.0.0) _ x s0.2 in
    let s2 = bind_some (number_to 4294967295 s0.0.1) _ x s1.2 in
    let made : ℕ × ℕ = (s1.0, s2.0) in
    let same : made ≡ x = (let last : Some made ≡ Some x = s2.2 in cc) in
    let a = (numbers32 laws).takes s0.0.0 s1.0 s1.1 in
    let b = (numbers32 laws).takes s0.0.1 s2.0 s2.1 in
    let whole : harvested made ≡ field =
    ap (λ (y : List ℕ). y ++ 58 ∷ decimal s2.0) a.1 ∙ ap (λ (y : List ℕ). s0.0.0 ++ 58 ∷ y) b.1 ∙ cut_takes 58 field s0.0 s0.1 in
    let clean_whole : IsClean field = subst (λ (y : List ℕ). IsClean y) (cut_takes 58 field s0.0 s0.1) (joined_clean 58 s0.0.0 s0.0.1 refl a.2 b.2) in
    subst (λ (m : ℕ × ℕ). FitHarvested m × (harvested m ≡ field) × IsClean field) same ((a.0, b.0), whole, clean_whole)

pub back_chains : Laws → IsField harvested_of harvested FitHarvested
back_chains laws = record { again = chain_again laws; takes = chain_takes laws }

-- ---- `-` for nothing

not_dash : {A : Type 0} (b : Bool) (field : List ℕ) (read : List ℕ → Option A) (a : A) → bytes_eq field dash ≡ b → read dash ≡ None → read field ≡ Some a
    → cond b (Some None) (option_map Some (read field)) ≡ Some (Some a)
not_dash true field read a t none is =
    let same : field ≡ dash = (bytes_eq-Decides field dash).0 t in
    let no = sym is ∙ ap read same ∙ none in
    absurd cc
not_dash false field read a t none is = ap (λ o. option_map Some o) is

-- what such a field says: `-`, or what was read
dash_or : {A : Type 0} (b : Bool) (field : List ℕ) (o : Option A) (x : Option A) → bytes_eq field dash ≡ b → cond b (Some None) (option_map Some o) ≡ Some x
    → (Good : Option A → Type 0) → (field ≡ dash → Good None) → ((a : A) → o ≡ Some a → Good (Some a)) → Good x
dash_or true field o x t e Good at_dash other =
    let same : field ≡ dash = (bytes_eq-Decides field dash).0 t in
    let is : None ≡ x = cc in
    subst Good is (at_dash same)
dash_or false field None x t e Good at_dash other = absurd cc
dash_or false field (Some a) x t e Good at_dash other = let is : Some a ≡ x = cc in subst Good is (other a refl)

no_name : name_of dash ≡ None
unfolding name_of cut
no_name = refl

no_number : number_to 65535 dash ≡ None
unfolding number_to number_of
no_number = refl

names_dash_again : Laws → (o : Option Name) → FitSomeName o → name_or_dash_of (name_or_dash o) ≡ Some o
unfolding name_or_dash_of
names_dash_again laws None h = refl
names_dash_again laws (Some n) h = not_dash (bytes_eq (frame_name n) dash) (frame_name n) name_of n refl no_name ((frame_names laws).again n h)

names_dash_takes : Laws → (field : List ℕ) (o : Option Name) → name_or_dash_of field ≡ Some o → FitSomeName o × (name_or_dash o ≡ field) × IsClean field
unfolding name_or_dash_of
names_dash_takes laws field o e =
    dash_or (bytes_eq field dash) field (name_of field) o refl e (λ x. FitSomeName x × (name_or_dash x ≡ field) × IsClean field)
    (λ is. (tt, sym is, subst (λ (y : List ℕ). IsClean y) (sym is) refl))
    (λ n is. (frame_names laws).takes field n is)

pub names_or_dash : Laws → IsField name_or_dash_of name_or_dash FitSomeName
names_or_dash laws = record { again = names_dash_again laws; takes = names_dash_takes laws }

numbers_dash_again : Laws → (o : Option ℕ) → IsOption16 o → number_or_dash_of (number_or_dash o) ≡ Some o
unfolding number_or_dash_of
numbers_dash_again laws None h = refl
numbers_dash_again laws (Some n) h = not_dash (bytes_eq (decimal n) dash) (decimal n) (number_to 65535) n refl no_number ((numbers16 laws).again n h)

numbers_dash_takes : Laws → (field : List ℕ) (o : Option ℕ) → number_or_dash_of field ≡ Some o → IsOption16 o × (number_or_dash o ≡ field) × IsClean field
unfolding number_or_dash_of
numbers_dash_takes laws field o e =
    dash_or (bytes_eq field dash) field (number_to 65535 field) o refl e (λ x. IsOption16 x × (number_or_dash x ≡ field) × IsClean field)
    (λ is. (tt, sym is, subst (λ (y : List ℕ). IsClean y) (sym is) refl))
    (λ n is. (numbers16 laws).takes field n is)

pub numbers_or_dash : Laws → IsField number_or_dash_of number_or_dash IsOption16
numbers_or_dash laws = record { again = numbers_dash_again laws; takes = numbers_dash_takes laws }

pub all_fields : Laws → FieldLaws
all_fields laws = record {
  number8 = numbers8 laws;
  number16 = numbers16 laws;
  number32 = numbers32 laws;
  number64 = numbers64 laws;
  flag = flag_field;
  bad = bad_cases;
  name = frame_names laws;
  name_or_dash = names_or_dash laws;
  chain = back_chains laws;
  hash = eight_digits laws;
  bytes = some_bytes laws;
  bytes_or_none = any_bytes laws;
}
