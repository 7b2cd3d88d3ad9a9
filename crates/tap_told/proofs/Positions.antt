-- Where lists of positions begin and end.
use Rattle.std.proofs.Common.{◌≡◌, ℕ, zero, suc, ◌+◌, ◌-◌, ◌≤◌, ◌<◌, min, List, [], ◌∷◌, ◌++◌, length, take, drop, get_or, sym, ap, ◌∙◌, refl, append_assoc, arith}
use Rattle.std.specs.Prelude.{slice_get}
use Rattle.std.proofs.lemmas.List.{drop-take, length-take, take_all}
use Rattle.tap_trace.specs.declared.trace.PositionList.{PositionList}
use Rattle.tap_world.specs.Project.{lists_from}
use Rattle.tap_told.specs.Positions.{begins_at}
use Rattle.tap_told.proofs.Lists.{rest_is}

take_none : {X : Type 0} (n : ℕ) → take {A = X} n [] ≡ []
take_none zero = refl
take_none (suc n) = refl

drop_none : {X : Type 0} (n : ℕ) → drop {A = X} n [] ≡ []
drop_none zero = refl
drop_none (suc n) = refl

take_capped : {X : Type 0} (xs : List X) (end : ℕ) → take (min (length xs) end) xs ≡ take end xs
take_capped [] end = take_none (min 0 end) ∙ sym (take_none end)
take_capped (x ∷ xs) zero = let least : min (suc (length xs)) 0 ≡ 0 = omega arith in ap (λ k. take k (x ∷ xs)) least
take_capped (x ∷ xs) (suc end) =
    let least : min (suc (length xs)) (suc end) ≡ suc (min (length xs) end) = omega arith in
    ap (λ k. take k (x ∷ xs)) least ∙ ap (λ t. x ∷ t) (take_capped xs end)

drop_capped : {X : Type 0} (xs : List X) (start e : ℕ) → length xs ≤ e → drop (min e start) xs ≡ drop start xs
drop_capped [] start e len = drop_none (min e start) ∙ sym (drop_none start)
drop_capped (x ∷ xs) zero e len = let least : min e 0 ≡ 0 = omega arith in ap (λ k. drop k (x ∷ xs)) least
drop_capped (x ∷ xs) (suc start) e len =
    let least : min e (suc start) ≡ suc (min (e - 1) start) = omega arith in
    ap (λ k. drop k (x ∷ xs)) least ∙ drop_capped xs start (e - 1) (omega arith)

-- a part of a list, with its ends brought inside
pub cut_out : {X : Type 0} (xs : List X) (start end s e : ℕ) → e ≡ min (length xs) end → s ≡ min e start
    → take (e - s) (drop s xs) ≡ drop start (take end xs)
cut_out xs start end s e is_end is_start =
    let all : s + (e - s) ≡ e = omega arith in
    let within : length (take e xs) ≤ e = omega (arith, length-take e xs) in
    sym (drop-take s (e - s) xs) ∙ ap (λ k. drop s (take k xs)) all ∙ ap (λ k. drop k (take e xs)) is_start ∙ drop_capped (take e xs) start e within
    ∙ ap (λ k. drop start (take k xs)) is_end ∙ ap (drop start) (take_capped xs end)

-- the list behind so many
slice_get-drop : {X : Type 0} (xs : List X) (i : ℕ) → slice_get (drop i xs) 0 ≡ slice_get xs i
slice_get-drop [] zero = refl
slice_get-drop [] (suc i) = refl
slice_get-drop (x ∷ xs) zero = refl
slice_get-drop (x ∷ xs) (suc i) = slice_get-drop xs i

first_list : (x : ℕ × ℕ) (rest : List (ℕ × ℕ)) (journal : List (ℕ × ℕ × ℕ))
    → lists_from (x ∷ rest) journal
    ≡ record { base = x.0; used = drop x.1 (take (begins_at (slice_get rest 0) journal) journal) } ∷ lists_from rest journal
first_list x [] journal =
    ap (λ js. record { base = x.0; used = drop x.1 js } ∷ []) (sym (take_all (length journal) journal (omega arith)))
first_list x (next ∷ rest) journal = refl

-- one more list
pub list_more : (told after : List PositionList) (list : PositionList) (lists : List (ℕ × ℕ)) (i end : ℕ) (x d : ℕ × ℕ) (journal : List (ℕ × ℕ × ℕ))
    → i < length lists → x ≡ get_or lists i d → end ≡ begins_at (slice_get lists (i + 1)) journal → after ≡ told ++ list ∷ []
    → list ≡ record { base = x.0; used = drop x.1 (take end journal) } → told ++ lists_from (drop i lists) journal ≡ lists_from lists journal
    → after ++ lists_from (drop (i + 1) lists) journal ≡ lists_from lists journal
list_more told after list lists i end x d journal lt is ends new its so_far =
    let rest = drop (i + 1) lists in
    let next : slice_get lists (i + 1) ≡ slice_get rest 0 = sym (slice_get-drop lists (i + 1)) in
    let whole = ap (λ ls. lists_from ls journal) (rest_is lists i x d lt is) ∙ first_list x rest journal in
    let one = its ∙ ap (λ n. record { base = x.0; used = drop x.1 (take n journal) }) (ends ∙ ap (λ o. begins_at o journal) next) in
    ap (λ t. t ++ lists_from rest journal) new ∙ append_assoc told (list ∷ []) (lists_from rest journal)
    ∙ ap (λ l. told ++ l ∷ lists_from rest journal) one ∙ sym (ap (λ t. told ++ t) whole) ∙ so_far
