-- Loops that push, write or add item by item.
use Rattle.std.proofs.Common.{◌≡◌, ℕ, suc, ◌+◌, ◌-◌, ◌<◌, ◌≤◌, min, Bool, true, false, cond, if◌then◌else◌, Some, None, Result, Ok, Err, is_ok, List, [], ◌∷◌, ◌++◌, length, take, drop, get_or, map, reverse, Option, sym, ap, ◌∙◌, append_assoc, add-zero, add-one, drop-cons, arith}
use Rattle.std.specs.Prelude.{OnOk}
use Rattle.std.specs.declared.alloc.AllocError.{AllocError}
use Rattle.std.specs.List.{count_by, find, flat_map, sum_by}
use Rattle.std.specs.Option.{option_or}
use Rattle.std.proofs.lemmas.List.{take_more, map_push, append-nil, length-take, reverse-append}
use Rattle.std.proofs.lemmas.List.Concat.{flat_map-append}
use Rattle.std.proofs.Math.ListN.{drop_of_length-le}
use Rattle.std.proofs.lemmas.List.Sums.{count_by_more_no, count_by_more_yes, sum_by_push}
use Rattle.scen_words.specs.Field.{line, text}
use Rattle.tap_report.specs.declared.frames.Counted.{Counted}
use Rattle.tap_report.specs.declared.summary.DeviceRow.{DeviceRow}
use Rattle.tap_report.specs.Rows.{capped, device_row, device_rows}
use Rattle.tap_ledger.specs.declared.counters.Counters.{Counters}
use Rattle.tap_report.specs.Report.{delivered, discarded, total_in}
use Rattle.tap_report.specs.ReportText.{counts_line, total_line}
use Rattle.tap_report.specs.Turns.{first_told}

front_is : {X : Type 0} (xs : List X) (i : ℕ) (x d : X) → i < length xs → x ≡ get_or xs i d → take (i + 1) xs ≡ take i xs ++ x ∷ []
front_is xs i x d lt is = take_more xs i d lt ∙ ap (λ y. take i xs ++ y ∷ []) (sym is)

-- one more item
pub pushed : {X Y : Type 0} (f : X → Y) (before now after : List Y) (xs : List X) (i : ℕ) (x d : X) → i < length xs → x ≡ get_or xs i d
    → now ≡ before ++ map f (take i xs) → after ≡ now ++ f x ∷ [] → after ≡ before ++ map f (take (i + 1) xs)
pushed f before now after xs i x d lt is so_far new =
    let items : map f (take (i + 1) xs) ≡ map f (take i xs) ++ f x ∷ [] = ap (map f) (front_is xs i x d lt is) ∙ map_push f (take i xs) x in
    new ∙ ap (λ t. t ++ f x ∷ []) so_far ∙ append_assoc before (map f (take i xs)) (f x ∷ []) ∙ ap (λ t. before ++ t) (sym items)

-- several more items
pub appended : {X Y : Type 0} (f : X → List Y) (before now after : List Y) (xs : List X) (i : ℕ) (x d : X) → i < length xs → x ≡ get_or xs i d
    → now ≡ before ++ flat_map f (take i xs) → after ≡ now ++ f x → after ≡ before ++ flat_map f (take (i + 1) xs)
appended f before now after xs i x d lt is so_far new =
    let items : flat_map f (take (i + 1) xs) ≡ flat_map f (take i xs) ++ f x = ap (flat_map f) (front_is xs i x d lt is) ∙ flat_map-append f (take i xs) (x ∷ []) ∙ ap (λ t. flat_map f (take i xs) ++ t) (append-nil (f x)) in
    new ∙ ap (λ t. t ++ f x) so_far ∙ append_assoc before (flat_map f (take i xs)) (f x) ∙ ap (λ t. before ++ t) (sym items)

-- one more line
pub text_more : {X : Type 0} (f : X → List (List ℕ)) (before now after : List ℕ) (xs : List X) (i : ℕ) (x d : X) → i < length xs → x ≡ get_or xs i d
    → now ≡ before ++ text (map f (take i xs)) → after ≡ now ++ line (f x) → after ≡ before ++ text (map f (take (i + 1) xs))
text_more f before now after xs i x d lt is so_far new =
    let lines : map f (take (i + 1) xs) ≡ map f (take i xs) ++ f x ∷ [] = ap (map f) (front_is xs i x d lt is) ∙ map_push f (take i xs) x in
    let whole : text (map f (take (i + 1) xs)) ≡ text (map f (take i xs)) ++ (line (f x) ++ []) = ap text lines ∙ flat_map-append line (map f (take i xs)) (f x ∷ []) in
    new ∙ ap (λ t. t ++ line (f x)) so_far ∙ append_assoc before (text (map f (take i xs))) (line (f x))
    ∙ ap (λ t. before ++ (text (map f (take i xs)) ++ t)) (sym (append-nil (line (f x)))) ∙ ap (λ t. before ++ t) (sym whole)

capped_sum : (s n : ℕ) → min (min s 18446744073709551615 + n) 18446744073709551615 ≡ min (s + n) 18446744073709551615
capped_sum s n = omega arith

-- one more number
pub capped_more : {X : Type 0} (f : X → ℕ) (now after : ℕ) (xs : List X) (i : ℕ) (x d : X) → i < length xs → x ≡ get_or xs i d
    → now ≡ capped (sum_by f (take i xs)) → after ≡ min (now + f x) 18446744073709551615 → after ≡ capped (sum_by f (take (i + 1) xs))
capped_more f now after xs i x d lt is so_far new =
    let sums : sum_by f (take (i + 1) xs) ≡ sum_by f (take i xs) + f x = ap (sum_by f) (front_is xs i x d lt is) ∙ sum_by_push f (take i xs) x in
    new ∙ ap (λ n. min (n + f x) 18446744073709551615) so_far ∙ capped_sum (sum_by f (take i xs)) (f x) ∙ ap capped (sym sums)

one_counted : {X : Type 0} (p : X → Bool) (b : Bool) (now after : ℕ) (xs : List X) (i : ℕ) (d : X) → i < length xs → p (get_or xs i d) ≡ b
    → now ≡ count_by p (take i xs) → after ≡ now + cond b 1 0 → after ≡ count_by p (take (i + 1) xs)
one_counted p true now after xs i d lt holds so_far new = new ∙ ap (λ n. n + 1) so_far ∙ sym (count_by_more_yes p xs i d lt holds)
one_counted p false now after xs i d lt fails so_far new = new ∙ add-zero now ∙ so_far ∙ sym (count_by_more_no p xs i d lt fails)

-- one more that may count
pub counted_more : {X : Type 0} (p : X → Bool) (now after : ℕ) (xs : List X) (i : ℕ) (x d : X) → i < length xs → x ≡ get_or xs i d
    → now ≡ count_by p (take i xs) → after ≡ now + cond (p x) 1 0 → after ≡ count_by p (take (i + 1) xs)
counted_more p now after xs i x d lt is so_far new = one_counted p (p x) now after xs i d lt (ap p (sym is)) so_far new

-- one more that may tell
pub told_more : {X : Type 0} (f : X → Option ℕ) (now after : Option ℕ) (xs : List X) (i : ℕ) (x d : X) → i < length xs → x ≡ get_or xs i d
    → now ≡ first_told f (reverse (take i xs)) → after ≡ option_or (f x) now → after ≡ first_told f (reverse (take (i + 1) xs))
told_more f now after xs i x d lt is so_far new =
    let items : reverse (take (i + 1) xs) ≡ x ∷ reverse (take i xs) = ap reverse (front_is xs i x d lt is) ∙ reverse-append (take i xs) (x ∷ []) in
    new ∙ ap (option_or (f x)) so_far ∙ ap (first_told f) (sym items)

device_rows-push : (fs : List Counted) (n : ℕ) (names : List (List ℕ)) (name : List ℕ)
    → device_rows fs n (names ++ name ∷ []) ≡ device_rows fs n names ++ device_row fs (n + length names) name ∷ []
device_rows-push fs n [] name = ap (λ k. device_row fs k name ∷ []) (sym (add-zero n))
device_rows-push fs n (m ∷ names) name =
    let place : n + 1 + length names ≡ n + length (m ∷ names) = omega arith in
    ap (λ t. device_row fs n m ∷ t) (device_rows-push fs (n + 1) names name ∙ ap (λ k. device_rows fs (n + 1) names ++ device_row fs k name ∷ []) place)

-- one more device, with the next number
pub device_more : (fs : List Counted) (now after : List DeviceRow) (names : List (List ℕ)) (i : ℕ) (name d : List ℕ) → i < length names → name ≡ get_or names i d
    → now ≡ device_rows fs 0 (take i names) → after ≡ now ++ device_row fs i name ∷ [] → after ≡ device_rows fs 0 (take (i + 1) names)
device_more fs now after names i name d lt is so_far new =
    let count : 0 + length (take i names) ≡ i = omega (arith, length-take i names) in
    new ∙ ap (λ t. t ++ device_row fs i name ∷ []) so_far
    ∙ ap (λ k. device_rows fs 0 (take i names) ++ device_row fs k name ∷ []) (sym count)
    ∙ sym (device_rows-push fs 0 (take i names) name) ∙ ap (device_rows fs 0) (sym (front_is names i name d lt is))

pub back_is : {A : Type 0} (xs : List A) (n : ℕ) (x d : A) → 0 < n → n ≤ length xs → x ≡ get_or xs (n - 1) d → reverse (take n xs) ≡ x ∷ reverse (take (n - 1) xs)
back_is xs n x d some within is =
    let next : n ≡ n - 1 + 1 = omega arith in
    let lt : n - 1 < length xs = omega arith in
    ap (λ k. reverse (take k xs)) next ∙ ap reverse (front_is xs (n - 1) x d lt is) ∙ reverse-append (take (n - 1) xs) (x ∷ [])

-- from behind, one item isn't it
pub last_next : {A : Type 0} (p : A → Bool) (xs : List A) (n : ℕ) (x d : A) → 0 < n → n ≤ length xs → x ≡ get_or xs (n - 1) d → p x ≡ false
    → find p (reverse xs) ≡ find p (reverse (take n xs)) → find p (reverse xs) ≡ find p (reverse (take (n - 1) xs))
last_next p xs n x d some within is fails so_far =
    so_far ∙ ap (find p) (back_is xs n x d some within is) ∙ ap (λ b. if b then Some x else find p (reverse (take (n - 1) xs))) fails

-- from behind, this item is it
pub last_found : {A : Type 0} (p : A → Bool) (xs : List A) (n : ℕ) (x d : A) → 0 < n → n ≤ length xs → x ≡ get_or xs (n - 1) d → p x ≡ true
    → find p (reverse xs) ≡ find p (reverse (take n xs)) → Some x ≡ find p (reverse xs)
last_found p xs n x d some within is holds so_far =
    sym (so_far ∙ ap (find p) (back_is xs n x d some within is) ∙ ap (λ b. if b then Some x else find p (reverse (take (n - 1) xs))) holds)

-- the counts of what was delivered and discarded are shown
pub total_shown : (old : List ℕ) (c : Counters) (d x : ℕ) → d ≡ delivered c → x ≡ discarded c
    → old ++ line (counts_line c.accepted c.waiting d x) ≡ old ++ line (total_line (total_in c))
total_shown old c d x e f =
    ap (λ n. old ++ line (counts_line c.accepted c.waiting n x)) e ∙ ap (λ n. old ++ line (counts_line c.accepted c.waiting (delivered c) n)) f

-- from the front, one item isn't it
pub first_next : {A : Type 0} (p : A → Bool) (xs : List A) (i : ℕ) (x d : A) → i < length xs → x ≡ get_or xs i d → p x ≡ false
    → find p xs ≡ find p (drop i xs) → find p xs ≡ find p (drop (i + 1) xs)
first_next p xs i x d lt is fails so_far =
    so_far ∙ ap (find p) (drop-cons xs i d lt ∙ ap (λ y. y ∷ drop (suc i) xs) (sym is)) ∙ ap (λ b. cond b (Some x) (find p (drop (suc i) xs))) fails
    ∙ ap (λ k. find p (drop k xs)) (sym (add-one i))

-- from the front, this item is it
pub first_found : {A : Type 0} (p : A → Bool) (xs : List A) (i : ℕ) (x d : A) → i < length xs → x ≡ get_or xs i d → p x ≡ true
    → find p xs ≡ find p (drop i xs) → Some x ≡ find p xs
first_found p xs i x d lt is holds so_far =
    sym (so_far ∙ ap (find p) (drop-cons xs i d lt ∙ ap (λ y. y ∷ drop (suc i) xs) (sym is)) ∙ ap (λ b. cond b (Some x) (find p (drop (suc i) xs))) holds)

-- it isn't there
pub first_none : {A : Type 0} (p : A → Bool) (xs : List A) (i : ℕ) → length xs ≤ i → find p xs ≡ find p (drop i xs) → None ≡ find p xs
first_none p xs i all so_far = sym (so_far ∙ ap (find p) (drop_of_length-le xs all))

-- the last piece of a text, where it was written
pub last_piece : (r : Result (Unit {0}) AllocError) (new mid old x y whole : List ℕ) → new ≡ cond (is_ok r) (mid ++ y) mid → mid ≡ old ++ x → whole ≡ x ++ y
    → OnOk r (new ≡ old ++ whole)
last_piece (Ok u) new mid old x y whole wrote front same = wrote ∙ ap (λ (t : List ℕ). t ++ y) front ∙ append_assoc old x y ∙ ap (λ (t : List ℕ). old ++ t) (sym same)
last_piece (Err e) new mid old x y whole wrote front same = tt
