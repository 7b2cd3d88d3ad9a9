-- The values of which a command was made are the command's values.
use Rattle.std.proofs.Common.{◌≡◌, ℕ, zero, suc, lit<, ◌-◌, ◌*◌, ◌%◌, ◌^◌, ◌<◌, ◌≤◌, Bool, true, false, eqb, List, [], ◌∷◌, length, map, replicate, Some, refl, sym, ap, subst, ◌∙◌, arith}
use Rattle.std.specs.Option.{IfSome}
use Rattle.std.proofs.lemmas.Bool.{eqb-true}
use Rattle.text_fields.specs.declared.kind.Digits.TheVariants.{Four, Sixteen}
use Rattle.text_fields.specs.declared.kind.Kind.{Kind}
use Rattle.text_fields.specs.declared.kind.Kind.TheVariants.{Plain, OrDash}
use Rattle.text_fields.specs.declared.kind.Shape.TheVariants.{Number, Name, HexNumber, HexBytes, Hex}
use Rattle.text_fields.specs.declared.value.Value.{Value}
use Rattle.text_fields.specs.declared.value.Value.TheVariants as value
use Rattle.text_fields.specs.Fields.{Fits, FitsShape}
use Rattle.text_fields.specs.Forms.{FitForm, FitKinds}
use Rattle.scen_words.specs.declared.word.CommandWord.{CommandWord}
use Rattle.scen_words.specs.declared.word.CommandWord.TheVariants as command
use Rattle.scen_words.specs.Commands.{bytes_in, command_of, command_values, commanded_name, flag_value, header_in, header_value, name_in, name_of, number_in, option_value, some_number_in}
use Rattle.scen_words.specs.Kinds.{below_32_bits}
use Rattle.scen_words.specs.Laws.{ValuesAreKept, WordsAreKept}
use Rattle.scen_words.specs.Words.{command_form}

-- ---- value by value

cons : (a b : Value) (xs ys : List Value) → a ≡ b → xs ≡ ys → a ∷ xs ≡ b ∷ ys
cons a b xs ys p q = ap (λ (x : Value). x ∷ xs) p ∙ ap (λ (zs : List Value). b ∷ zs) q

not_one : (n : ℕ) → n ≤ 1 → eqb n 1 ≡ false → n ≡ 0
not_one n le e = grind arith

ten_is : (n : ℕ) → n ≡ 10 → eqb n 10 ≡ true
ten_is n e = grind arith

pub number16 : (least most : ℕ) (v : Value) → most < 2 ^ 16 → FitsShape (Number least most) v → value.Number (number_in (Some v) % 2 ^ 16) ≡ v
number16 least most value.None le h = absurd h
number16 least most (value.Number n) le h = let high = h.1 in ap value.Number (omega arith)
number16 least most (value.Name name) le h = absurd h
number16 least most (value.Bytes bytes) le h = absurd h

pub number32 : (least most : ℕ) (v : Value) → most < 2 ^ 32 → FitsShape (Number least most) v → value.Number (number_in (Some v) % 2 ^ 32) ≡ v
number32 least most value.None le h = absurd h
number32 least most (value.Number n) le h = let high = h.1 in ap value.Number (omega arith)
number32 least most (value.Name name) le h = absurd h
number32 least most (value.Bytes bytes) le h = absurd h

pub number64 : (least most : ℕ) (v : Value) → FitsShape (Number least most) v → value.Number (number_in (Some v)) ≡ v
number64 least most value.None h = absurd h
number64 least most (value.Number n) h = refl
number64 least most (value.Name name) h = absurd h
number64 least most (value.Bytes bytes) h = absurd h

four_digits : (v : Value) → FitsShape (HexNumber Four) v → value.Number (number_in (Some v) % 2 ^ 16) ≡ v
four_digits value.None h = absurd h
four_digits (value.Number n) h = let small : n < 65536 = h in ap value.Number (omega arith)
four_digits (value.Name name) h = absurd h
four_digits (value.Bytes bytes) h = absurd h

sixteen_digits : (v : Value) → FitsShape (HexNumber Sixteen) v → value.Number (number_in (Some v)) ≡ v
sixteen_digits value.None h = absurd h
sixteen_digits (value.Number n) h = refl
sixteen_digits (value.Name name) h = absurd h
sixteen_digits (value.Bytes bytes) h = absurd h

pub some_bytes : (v : Value) → FitsShape Hex v → value.Bytes (bytes_in (Some v)) ≡ v
some_bytes value.None h = absurd h
some_bytes (value.Number n) h = absurd h
some_bytes (value.Name name) h = absurd h
some_bytes (value.Bytes bytes) h = refl

number_or_dash : (least most : ℕ) (v : Value) → most < 2 ^ 16 → Fits (OrDash (Number least most)) v → option_value (some_number_in (Some v)) ≡ v
number_or_dash least most value.None le h = refl
number_or_dash least most (value.Number n) le h = let high = h.1 in ap value.Number (omega arith)
number_or_dash least most (value.Name name) le h = absurd h
number_or_dash least most (value.Bytes bytes) le h = absurd h

switch_number : (n : ℕ) (on : Bool) → n ≤ 1 → on ≡ eqb n 1 → flag_value on ≡ value.Number n
switch_number n true le e = let one : n ≡ 1 = eqb-true n 1 (sym e) in ap value.Number (sym one)
switch_number n false le e = let none : n ≡ 0 = not_one n le (sym e) in ap value.Number (sym none)

switch_value : (v : Value) → FitsShape (Number 0 1) v → flag_value (eqb (number_in (Some v)) 1) ≡ v
switch_value value.None h = absurd h
switch_value (value.Number n) h = switch_number n (eqb n 1) h.1 refl
switch_value (value.Name name) h = absurd h
switch_value (value.Bytes bytes) h = absurd h

ten : (bytes : List ℕ) → 2 * length bytes ≡ 20 → eqb (length bytes) 10 ≡ true
ten bytes h = ten_is (length bytes) (omega arith)

header : (v : Value) → Fits (OrDash (HexBytes 20)) v → header_value (header_in (Some v)) ≡ v
header value.None h = refl
header (value.Number n) h = absurd h
header (value.Name name) h = absurd h
header (value.Bytes bytes) h = rw (ten bytes h.0) refl

pub a_name : (names : List (List ℕ)) (n : ℕ) (v : Value) → FitsShape Name v → IfSome (name_in (Some v)) (λ name. name_of names n ≡ name) → value.Name (name_of names n) ≡ v
a_name names n value.None h e = absurd h
a_name names n (value.Number m) h e = absurd h
a_name names n (value.Name name) h e = ap value.Name e
a_name names n (value.Bytes bytes) h e = absurd h

lengths_kept : (least most n : ℕ) (vs : List Value) → most < 2 ^ 32 → FitKinds (replicate n (Plain (Number least most))) vs → map value.Number (map (λ v. number_in (Some v) % 2 ^ 32) vs) ≡ vs
lengths_kept least most zero [] le h = refl
lengths_kept least most zero (v ∷ vs) le h = absurd h
lengths_kept least most (suc n) [] le h = absurd h
lengths_kept least most (suc n) (v ∷ vs) le h = cons _ _ _ _ (number32 least most v le h.0) (lengths_kept least most n vs le h.1)

-- ---- so many values

no_values : (vs : List Value) → FitKinds [] vs → [] ≡ vs
no_values [] h = refl
no_values (v ∷ vs) h = absurd h

pub record Front (k : Kind) (ks : List Kind) (vs : List Value) : Type 0 where
  pub first : Value
  pub rest : List Value
  pub is : first ∷ rest ≡ vs
  pub fits : Fits k first
  pub others : FitKinds ks rest

front : (k : Kind) (ks : List Kind) (vs : List Value) → FitKinds (k ∷ ks) vs → Front k ks vs
front k ks [] h = absurd h
front k ks (v ∷ vs) h = record { first = v; rest = vs; is = refl; fits = h.0; others = h.1 }

-- a fact on lists of one to five values
by_one : (P : List Value → Type 0) (a : Kind) → ((x : Value) → Fits a x → P (x ∷ [])) → (vs : List Value) → FitKinds (a ∷ []) vs → P vs
by_one P a each vs h =
    let f = front a [] vs h in
    subst P f.is (subst (λ (r : List Value). P (f.first ∷ r)) (no_values f.rest f.others) (each f.first f.fits))

pub by_two : (P : List Value → Type 0) (a b : Kind) → ((x y : Value) → Fits a x → Fits b y → P (x ∷ y ∷ [])) → (vs : List Value) → FitKinds (a ∷ b ∷ []) vs → P vs
by_two P a b each vs h =
    let f = front a (b ∷ []) vs h in
    subst P f.is (by_one (λ (r : List Value). P (f.first ∷ r)) b (λ y hy. each f.first y f.fits hy) f.rest f.others)

pub by_three : (P : List Value → Type 0) (a b c : Kind) → ((x y z : Value) → Fits a x → Fits b y → Fits c z → P (x ∷ y ∷ z ∷ [])) → (vs : List Value) → FitKinds (a ∷ b ∷ c ∷ []) vs → P vs
by_three P a b c each vs h =
    let f = front a (b ∷ c ∷ []) vs h in
    subst P f.is (by_two (λ (r : List Value). P (f.first ∷ r)) b c (λ y z hy hz. each f.first y z f.fits hy hz) f.rest f.others)

by_five : (P : List Value → Type 0) (a b c d e : Kind) → ((x y z u w : Value) → Fits a x → Fits b y → Fits c z → Fits d u → Fits e w → P (x ∷ y ∷ z ∷ u ∷ w ∷ [])) → (vs : List Value)
    → FitKinds (a ∷ b ∷ c ∷ d ∷ e ∷ []) vs → P vs
by_five P a b c d e each vs h =
    let f = front a (b ∷ c ∷ d ∷ e ∷ []) vs h in
    let g = front b (c ∷ d ∷ e ∷ []) f.rest f.others in
    subst P f.is (subst (λ (r : List Value). P (f.first ∷ r)) g.is
    (by_three (λ (r : List Value). P (f.first ∷ g.first ∷ r)) c d e (λ z u w hz hu hw. each f.first g.first z u w f.fits g.fits hz hu hw) g.rest g.others))

same1 : (a b : Value) → a ≡ b → a ∷ [] ≡ b ∷ []
same1 a b p = cons a b [] [] p refl

pub same2 : (a b c d : Value) → a ≡ b → c ≡ d → a ∷ c ∷ [] ≡ b ∷ d ∷ []
same2 a b c d p q = cons a b (c ∷ []) (d ∷ []) p (same1 c d q)

pub same3 : (a b c d e f : Value) → a ≡ b → c ≡ d → e ≡ f → a ∷ c ∷ e ∷ [] ≡ b ∷ d ∷ f ∷ []
same3 a b c d e f p q r = cons a b (c ∷ e ∷ []) (d ∷ f ∷ []) p (same2 c d e f q r)

-- ---- word by word

abbrev Kept : List (List ℕ) → ℕ → CommandWord → List Value → Type 0
Kept names n w vs = IfSome (commanded_name w vs) (λ name. name_of names n ≡ name) → command_values names (command_of n w vs) ≡ vs

pub words_kept : WordsAreKept
unfolding command_of
words_kept n command.SetIff vs = refl
words_kept n command.SetQueue vs = refl
words_kept n command.Close vs = refl
words_kept n command.Persist vs = refl
words_kept n command.HdrSize vs = refl
words_kept n command.Steer vs = refl
words_kept n command.Filter vs = refl
words_kept n command.Tick vs = refl
words_kept n command.Resize vs = refl
words_kept n command.Send vs = refl
words_kept n command.Read vs = refl
words_kept n command.Write vs = refl
words_kept n command.Features vs = refl
words_kept n command.VNum vs = refl
words_kept n command.VBase vs = refl
words_kept n command.VAddr vs = refl
words_kept n command.GetBase vs = refl
words_kept n command.Backend vs = refl
words_kept n command.RxTurn vs = refl
words_kept n command.TxTurn vs = refl
words_kept n command.Poke vs = refl
words_kept n command.Peek vs = refl
words_kept n command.Drive vs = refl
words_kept n command.PostIn vs = refl
words_kept n command.PostOut vs = refl
words_kept n command.Harvest vs = refl

values_kept_of : (names : List (List ℕ)) (n : ℕ) (w : CommandWord) (vs : List Value) → FitForm (command_form w) vs → Kept names n w vs
unfolding command_of command_values
values_kept_of names n command.SetIff vs h =
    by_three (Kept names n command.SetIff) (Plain (Number 0 319)) (Plain Name) (Plain (HexNumber Four))
    (λ x y z fx fy fz e. same3 _ _ _ _ _ _ (number16 0 319 x (lit< tt) fx) (a_name names n y fy e) (four_digits z fz)) vs h.each
values_kept_of names n command.SetQueue vs h =
    by_two (Kept names n command.SetQueue) (Plain (Number 0 319)) (Plain (HexNumber Four))
    (λ x y fx fy e. same2 _ _ _ _ (number16 0 319 x (lit< tt) fx) (four_digits y fy)) vs h.each
values_kept_of names n command.Close vs h =
    by_one (Kept names n command.Close) (Plain (Number 0 319))
    (λ x fx e. same1 _ _ (number16 0 319 x (lit< tt) fx)) vs h.each
values_kept_of names n command.Persist vs h =
    by_two (Kept names n command.Persist) (Plain (Number 0 319)) (Plain (Number 0 1))
    (λ x y fx fy e. same2 _ _ _ _ (number16 0 319 x (lit< tt) fx) (switch_value y fy)) vs h.each
values_kept_of names n command.HdrSize vs h =
    by_two (Kept names n command.HdrSize) (Plain (Number 0 319)) (Plain (Number 0 4294967295))
    (λ x y fx fy e. same2 _ _ _ _ (number16 0 319 x (lit< tt) fx) (number32 0 4294967295 y (lit< tt) fy)) vs h.each
values_kept_of names n command.Steer vs h =
    by_two (Kept names n command.Steer) (Plain (Number 0 319)) (OrDash (Number 0 63))
    (λ x y fx fy e. same2 _ _ _ _ (number16 0 319 x (lit< tt) fx) (number_or_dash 0 63 y (lit< tt) fy)) vs h.each
values_kept_of names n command.Filter vs h =
    by_two (Kept names n command.Filter) (Plain (Number 0 319)) (OrDash (Number 0 63))
    (λ x y fx fy e. same2 _ _ _ _ (number16 0 319 x (lit< tt) fx) (number_or_dash 0 63 y (lit< tt) fy)) vs h.each
values_kept_of names n command.Tick vs h =
    by_one (Kept names n command.Tick) (Plain (Number 0 1000000000000000))
    (λ x fx e. same1 _ _ (number64 0 1000000000000000 x fx)) vs h.each
values_kept_of names n command.Resize vs h =
    by_two (Kept names n command.Resize) (Plain (Number 0 319)) (Plain (Number 1 1024))
    (λ x y fx fy e. same2 _ _ _ _ (number16 0 319 x (lit< tt) fx) (number16 1 1024 y (lit< tt) fy)) vs h.each
values_kept_of names n command.Send vs h =
    by_three (Kept names n command.Send) (Plain Name) (OrDash (HexBytes 20)) (Plain Hex)
    (λ x y z fx fy fz e. same3 _ _ _ _ _ _ (a_name names n x fx e) (header y fy) (some_bytes z fz)) vs h.each
values_kept_of names n command.Read vs h =
    by_two (Kept names n command.Read) (Plain (Number 0 319)) (Plain (Number 0 131072))
    (λ x y fx fy e. same2 _ _ _ _ (number16 0 319 x (lit< tt) fx) (number32 0 131072 y (lit< tt) fy)) vs h.each
values_kept_of names n command.Write vs h =
    by_two (Kept names n command.Write) (Plain (Number 0 319)) (Plain Hex)
    (λ x y fx fy e. same2 _ _ _ _ (number16 0 319 x (lit< tt) fx) (some_bytes y fy)) vs h.each
values_kept_of names n command.Features vs h =
    by_two (Kept names n command.Features) (Plain (Number 0 63)) (Plain (HexNumber Sixteen))
    (λ x y fx fy e. same2 _ _ _ _ (number16 0 63 x (lit< tt) fx) (sixteen_digits y fy)) vs h.each
values_kept_of names n command.VNum vs h =
    by_three (Kept names n command.VNum) (Plain (Number 0 63)) (Plain (Number 0 65535)) (Plain (Number 0 18446744073709551615))
    (λ x y z fx fy fz e. same3 _ _ _ _ _ _ (number16 0 63 x (lit< tt) fx) (number16 0 65535 y (lit< tt) fy) (number64 0 18446744073709551615 z fz)) vs h.each
values_kept_of names n command.VBase vs h =
    by_three (Kept names n command.VBase) (Plain (Number 0 63)) (Plain (Number 0 65535)) (Plain (Number 0 18446744073709551615))
    (λ x y z fx fy fz e. same3 _ _ _ _ _ _ (number16 0 63 x (lit< tt) fx) (number16 0 65535 y (lit< tt) fy) (number64 0 18446744073709551615 z fz)) vs h.each
values_kept_of names n command.VAddr vs h =
    by_five (Kept names n command.VAddr) (Plain (Number 0 63)) (Plain (Number 0 65535)) (Plain (Number 0 18446744073709551615)) (Plain (Number 0 18446744073709551615)) (Plain (Number 0 18446744073709551615))
    (λ x y z u w fx fy fz fu fw e. cons _ _ _ _ (number16 0 63 x (lit< tt) fx) (cons _ _ _ _ (number16 0 65535 y (lit< tt) fy) (same3 _ _ _ _ _ _ (number64 0 18446744073709551615 z fz) (number64 0 18446744073709551615 u fu) (number64 0 18446744073709551615 w fw)))) vs h.each
values_kept_of names n command.GetBase vs h =
    by_two (Kept names n command.GetBase) (Plain (Number 0 63)) (Plain (Number 0 65535))
    (λ x y fx fy e. same2 _ _ _ _ (number16 0 63 x (lit< tt) fx) (number16 0 65535 y (lit< tt) fy)) vs h.each
values_kept_of names n command.Backend vs h =
    by_three (Kept names n command.Backend) (Plain (Number 0 63)) (Plain (Number 0 65535)) (OrDash (Number 0 319))
    (λ x y z fx fy fz e. same3 _ _ _ _ _ _ (number16 0 63 x (lit< tt) fx) (number16 0 65535 y (lit< tt) fy) (number_or_dash 0 319 z (lit< tt) fz)) vs h.each
values_kept_of names n command.RxTurn vs h =
    by_one (Kept names n command.RxTurn) (Plain (Number 0 63))
    (λ x fx e. same1 _ _ (number16 0 63 x (lit< tt) fx)) vs h.each
values_kept_of names n command.TxTurn vs h =
    by_one (Kept names n command.TxTurn) (Plain (Number 0 63))
    (λ x fx e. same1 _ _ (number16 0 63 x (lit< tt) fx)) vs h.each
values_kept_of names n command.Poke vs h =
    by_three (Kept names n command.Poke) (Plain (Number 0 7)) (Plain (Number 0 18446744073709551615)) (Plain Hex)
    (λ x y z fx fy fz e. same3 _ _ _ _ _ _ (number16 0 7 x (lit< tt) fx) (number64 0 18446744073709551615 y fy) (some_bytes z fz)) vs h.each
values_kept_of names n command.Peek vs h =
    by_three (Kept names n command.Peek) (Plain (Number 0 7)) (Plain (Number 0 18446744073709551615)) (Plain (Number 1 256))
    (λ x y z fx fy fz e. same3 _ _ _ _ _ _ (number16 0 7 x (lit< tt) fx) (number64 0 18446744073709551615 y fy) (number32 1 256 z (lit< tt) fz)) vs h.each
values_kept_of names n command.Drive vs h =
    by_three (Kept names n command.Drive) (Plain (Number 0 63)) (Plain (Number 0 1)) (Plain (Number 0 18446744073709551615))
    (λ x y z fx fy fz e. same3 _ _ _ _ _ _ (number16 0 63 x (lit< tt) fx) (number16 0 1 y (lit< tt) fy) (number64 0 18446744073709551615 z fz)) vs h.each
values_kept_of names n command.PostIn vs h =
    let f = front (Plain (Number 0 63)) ((Plain (Number 0 1)) ∷ replicate (length vs - 2) below_32_bits) vs h.each in
    let g = front (Plain (Number 0 1)) (replicate (length vs - 2) below_32_bits) f.rest f.others in
    subst (Kept names n command.PostIn) f.is (subst (λ (r : List Value). Kept names n command.PostIn (f.first ∷ r)) g.is
    (λ e. cons _ _ _ _ (number16 0 63 f.first (lit< tt) f.fits) (cons _ _ _ _ (number16 0 1 g.first (lit< tt) g.fits) (lengths_kept 0 4294967295 (length vs - 2) g.rest (lit< tt) g.others))))
values_kept_of names n command.PostOut vs h =
    by_three (Kept names n command.PostOut) (Plain (Number 0 63)) (Plain (Number 0 1)) (Plain Hex)
    (λ x y z fx fy fz e. same3 _ _ _ _ _ _ (number16 0 63 x (lit< tt) fx) (number16 0 1 y (lit< tt) fy) (some_bytes z fz)) vs h.each
values_kept_of names n command.Harvest vs h =
    by_two (Kept names n command.Harvest) (Plain (Number 0 63)) (Plain (Number 0 1))
    (λ x y fx fy e. same2 _ _ _ _ (number16 0 63 x (lit< tt) fx) (number16 0 1 y (lit< tt) fy)) vs h.each

pub values_kept : ValuesAreKept
values_kept names n w vs h = values_kept_of names n w vs h
