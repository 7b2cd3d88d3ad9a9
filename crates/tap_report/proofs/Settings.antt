-- Settings by key: the lists of the keys find what is found among all.
use Rattle.std.proofs.Common.{◌≡◌, ℕ, zero, suc, ◌+◌, ◌-◌, ◌<◌, ◌≤◌, Bool, true, false, cond, ◌&&◌, eqb, leb, List, [], ◌∷◌, ◌++◌, length, take, get_or, reverse, Option, Some, None, unwrap_or, refl, sym, ap, subst, ◌∙◌, arith}
use Rattle.std.specs.Prelude.{MatchOption, OnOk, Ok, Err, Result}
use Rattle.std.specs.declared.alloc.AllocError.{AllocError}
use Rattle.std.specs.List.{find, slice_get}
use Rattle.std.proofs.Math.ListN.{set}
use Rattle.std.proofs.Math.Seq.{get_or-append_seam, take-length}
use Rattle.std.proofs.lemmas.Bool.{eqb-false, eqb-true, leb-false, leb-true, lt-leb}
use Rattle.std.proofs.lemmas.List.{get_or-set_other, get_or-set_same, get_or_append_left, length-append, reverse-append}
use Rattle.std.proofs.lemmas.Option.{slice_get-get_or, unwrap_or-slice_get}
use Rattle.tap_report.specs.declared.history.Setting.{Setting}
use Rattle.tap_report.specs.History.{AreRising, Follows, hides, is_hidden, kept, last_up_to, up_to}
use Rattle.tap_report.specs.Index.{latest, sets}
use Rattle.tap_report.proofs.Loops.{back_is, last_found}

-- ---- one list

last_is : (xs : List Setting) (s : Setting) → reverse (xs ++ s ∷ []) ≡ s ∷ reverse xs
last_is xs s = reverse-append xs (s ∷ [])

last_place : (xs : List Setting) (s : Setting) → slice_get (xs ++ s ∷ []) (length (xs ++ s ∷ []) - 1) ≡ Some s
last_place xs s =
    let count : length (xs ++ s ∷ []) - 1 ≡ length xs = omega (arith, length-append xs (s ∷ [])) in
    let within : length xs < length (xs ++ s ∷ []) = omega (arith, length-append xs (s ∷ [])) in
    ap (slice_get (xs ++ s ∷ [])) count ∙ slice_get-get_or (xs ++ s ∷ []) (length xs) s within ∙ ap Some (get_or-append_seam xs s [] s)

pub hidden_last : (xs : List Setting) (s : Setting) (version : ℕ) → is_hidden (xs ++ s ∷ []) version ≡ leb version s.version
hidden_last xs s version = ap (hides version) (last_place xs s)

-- what is found where one more setting stands behind
pub last_up_to-push : (seen : ℕ) (xs : List Setting) (s : Setting) → last_up_to seen (xs ++ s ∷ []) ≡ cond (leb s.version seen) (Some s) (last_up_to seen xs)
last_up_to-push seen xs s = ap (find (up_to seen)) (last_is xs s)

-- without the last one, which a new one hides, what came before the new one is found as before
pub unhidden : (old xs : List Setting) (s : Setting) (version seen : ℕ) → old ≡ xs ++ s ∷ [] → is_hidden old version ≡ true → leb version seen ≡ false
    → last_up_to seen xs ≡ last_up_to seen old
unhidden old xs s version seen is hidden early =
    let test : leb version s.version ≡ true = sym (hidden_last xs s version) ∙ ap (λ l. is_hidden l version) (sym is) ∙ hidden in
    let late : leb s.version seen ≡ false = lt-leb s.version seen (omega (arith, leb-true version s.version test, leb-false version seen early)) in
    sym (ap (last_up_to seen) is ∙ last_up_to-push seen xs s ∙ ap (λ b. cond b (Some s) (last_up_to seen xs)) late)

-- a front rises
pub rising_front : (old xs : List Setting) (s : Setting) → old ≡ xs ++ s ∷ [] → AreRising old → AreRising xs
rising_front old xs s is rises = λ i j d le lt.
    let all : AreRising (xs ++ s ∷ []) = subst AreRising is rises in
    let count = length-append xs (s ∷ []) in
    let both : (get_or (xs ++ s ∷ []) i d).version ≤ (get_or (xs ++ s ∷ []) j d).version = all i j d le (omega (arith, count)) in
    let first : (get_or (xs ++ s ∷ []) i d).version ≡ (get_or xs i d).version = ap (λ (x : Setting). x.version) (get_or_append_left xs (s ∷ []) d i (omega arith)) in
    let second : (get_or (xs ++ s ∷ []) j d).version ≡ (get_or xs j d).version = ap (λ (x : Setting). x.version) (get_or_append_left xs (s ∷ []) d j lt) in
    omega (arith, both, first, second)

-- the last of some settings doesn't have a smaller version, or it has
last_below : (xs : List Setting) (version : ℕ) (d : Setting) → is_hidden xs version ≡ false → 0 < length xs → (get_or xs (length xs - 1) d).version < version
last_below xs version d free some =
    let place : slice_get xs (length xs - 1) ≡ Some (get_or xs (length xs - 1) d) = slice_get-get_or xs (length xs - 1) d (omega arith) in
    leb-false version _ (sym (ap (hides version) place) ∙ free)

at_seam : (xs : List Setting) (s d : Setting) (i j : ℕ) → is_hidden xs s.version ≡ false → AreRising xs → i ≤ j → j ≡ length xs
    → (get_or (xs ++ s ∷ []) i d).version ≤ s.version
at_seam xs s d i j free rises le is = first_or_seam (leb (length xs) i) refl
  where
    first_or_seam : (b : Bool) → leb (length xs) i ≡ b → (get_or (xs ++ s ∷ []) i d).version ≤ s.version
    first_or_seam true late =
        let same : i ≡ length xs = omega (arith, leb-true (length xs) i late) in
        let seam : (get_or (xs ++ s ∷ []) i d).version ≡ s.version = ap (λ (k : ℕ). (get_or (xs ++ s ∷ []) k d).version) same ∙ ap (λ (x : Setting). x.version) (get_or-append_seam xs s [] d) in
        omega (arith, seam)
    first_or_seam false early =
        let lt : i < length xs = leb-false (length xs) i early in
        let here : (get_or (xs ++ s ∷ []) i d).version ≡ (get_or xs i d).version = ap (λ (x : Setting). x.version) (get_or_append_left xs (s ∷ []) d i lt) in
        let below : (get_or xs (length xs - 1) d).version < s.version = last_below xs s.version d free (omega arith) in
        let rise : (get_or xs i d).version ≤ (get_or xs (length xs - 1) d).version = rises i (length xs - 1) d (omega arith) (omega arith) in
        omega (arith, here, below, rise)

-- with a setting behind them that hides none they rise
pub rising_push : (xs : List Setting) (s : Setting) → is_hidden xs s.version ≡ false → AreRising xs → AreRising (xs ++ s ∷ [])
rising_push xs s free rises = λ i j d le lt. front_or_seam i j d le lt (leb (length xs) j) refl
  where
    front_or_seam : (i j : ℕ) (d : Setting) → i ≤ j → j < length (xs ++ s ∷ []) → (b : Bool) → leb (length xs) j ≡ b
        → (get_or (xs ++ s ∷ []) i d).version ≤ (get_or (xs ++ s ∷ []) j d).version
    front_or_seam i j d le lt true late =
        let same : j ≡ length xs = omega (arith, leb-true (length xs) j late, length-append xs (s ∷ [])) in
        let seam : (get_or (xs ++ s ∷ []) j d).version ≡ s.version = ap (λ (k : ℕ). (get_or (xs ++ s ∷ []) k d).version) same ∙ ap (λ (x : Setting). x.version) (get_or-append_seam xs s [] d) in
        let below = at_seam xs s d i j free rises le same in
        omega (arith, seam, below)
    front_or_seam i j d le lt false early =
        let within : j < length xs = leb-false (length xs) j early in
        let first : (get_or (xs ++ s ∷ []) i d).version ≡ (get_or xs i d).version = ap (λ (x : Setting). x.version) (get_or_append_left xs (s ∷ []) d i (omega arith)) in
        let second : (get_or (xs ++ s ∷ []) j d).version ≡ (get_or xs j d).version = ap (λ (x : Setting). x.version) (get_or_append_left xs (s ∷ []) d j within) in
        let rise = rises i j d le within in
        omega (arith, first, second, rise)

-- the one that is added, and else what was found before
pub added : (version seen : ℕ) (s : Setting) (new now old : List Setting) → s.version ≡ version → new ≡ now ++ s ∷ []
    → (leb version seen ≡ false → last_up_to seen now ≡ last_up_to seen old) → last_up_to seen new ≡ cond (leb version seen) (Some s) (last_up_to seen old)
added version seen s new now old is pushed before =
    ap (last_up_to seen) pushed ∙ last_up_to-push seen now s ∙ ap (λ v. cond (leb v seen) (Some s) (last_up_to seen now)) is ∙ choose (leb version seen) before
  where
    choose : (b : Bool) → (b ≡ false → last_up_to seen now ≡ last_up_to seen old) → cond b (Some s) (last_up_to seen now) ≡ cond b (Some s) (last_up_to seen old)
    choose true same = refl
    choose false same = same refl

-- ---- all lists

pub kept-push : (lists : List (List Setting)) (k : ℕ) → kept (lists ++ [] ∷ []) k ≡ kept lists k
kept-push [] zero = refl
kept-push [] (suc k) = refl
kept-push (l ∷ ls) zero = refl
kept-push (l ∷ ls) (suc k) = kept-push ls k

kept_is : (lists : List (List Setting)) (k : ℕ) → kept lists k ≡ get_or lists k []
kept_is lists k = unwrap_or-slice_get lists k []

latest-push : (all : List Setting) (s : Setting) (key seen : ℕ) → latest (all ++ s ∷ []) key seen ≡ cond (eqb s.key key && leb s.version seen) (Some s) (latest all key seen)
latest-push all s key seen = ap (find (sets key seen)) (last_is all s)

-- one more setting, in the list of its key
pub follows_more : (all : List Setting) (lists grown : List (List Setting)) (s : Setting) (new : List Setting) → Follows all lists
    → ((k : ℕ) → kept grown k ≡ kept lists k) → s.key < length grown
    → ((seen : ℕ) → last_up_to seen new ≡ cond (leb s.version seen) (Some s) (last_up_to seen (get_or grown s.key [])))
    → (AreRising (get_or grown s.key []) → AreRising new) → Follows (all ++ s ∷ []) (set grown s.key new)
follows_more all lists grown s new follows same within found rises = record {
  found = λ key seen. found_at key seen (eqb s.key key) refl;
  rising = λ key. rising_at key (eqb s.key key) refl;
}
  where
    here : (key : ℕ) → eqb s.key key ≡ true → kept (set grown s.key new) key ≡ new
    here key is = ap (kept (set grown s.key new)) (sym (eqb-true s.key key is)) ∙ kept_is (set grown s.key new) s.key ∙ get_or-set_same grown s.key new [] within

    there : (key : ℕ) → eqb s.key key ≡ false → kept (set grown s.key new) key ≡ kept lists key
    there key isnt = kept_is (set grown s.key new) key ∙ get_or-set_other grown s.key key new [] (λ e. eqb-false s.key key isnt (sym e)) ∙ sym (kept_is grown key) ∙ same key

    before : (key : ℕ) → eqb s.key key ≡ true → get_or grown s.key [] ≡ kept lists key
    before key is = sym (kept_is grown s.key) ∙ ap (kept grown) (eqb-true s.key key is) ∙ same key

    found_at : (key seen : ℕ) (b : Bool) → eqb s.key key ≡ b → last_up_to seen (kept (set grown s.key new) key) ≡ latest (all ++ s ∷ []) key seen
    found_at key seen true is =
        ap (last_up_to seen) (here key is) ∙ found seen
        ∙ ap (λ l. cond (leb s.version seen) (Some s) l) (ap (last_up_to seen) (before key is) ∙ follows.found key seen)
        ∙ sym (latest-push all s key seen ∙ ap (λ b. cond (b && leb s.version seen) (Some s) (latest all key seen)) is)
    found_at key seen false isnt =
        ap (last_up_to seen) (there key isnt) ∙ follows.found key seen
        ∙ sym (latest-push all s key seen ∙ ap (λ b. cond (b && leb s.version seen) (Some s) (latest all key seen)) isnt)

    rising_at : (key : ℕ) (b : Bool) → eqb s.key key ≡ b → AreRising (kept (set grown s.key new) key)
    rising_at key true is = subst AreRising (sym (here key is)) (rises (subst AreRising (sym (before key is)) (follows.rising key)))
    rising_at key false isnt = subst AreRising (sym (there key isnt)) (follows.rising key)

-- ---- looking up

-- what fails behind a place isn't found
pub skip : (p : Setting → Bool) (xs : List Setting) (n k : ℕ) → n + k ≤ length xs → ((i : ℕ) (d : Setting) → n ≤ i → i < length xs → p (get_or xs i d) ≡ false)
    → find p (reverse (take (n + k) xs)) ≡ find p (reverse (take n xs))
skip p xs n zero within fails = ap (λ m. find p (reverse (take m xs))) (omega arith)
skip p [] n (suc k) within fails = absurd (omega arith)
skip p (x ∷ xs) n (suc k) within fails =
    let lt : n + k < length (x ∷ xs) = omega arith in
    let place : n + suc k - 1 ≡ n + k = omega arith in
    ap (find p) (back_is (x ∷ xs) (n + suc k) (get_or (x ∷ xs) (n + k) x) x (omega arith) within (ap (λ m. get_or (x ∷ xs) m x) (sym place)))
    ∙ ap (λ b. cond b (Some (get_or (x ∷ xs) (n + k) x)) (find p (reverse (take (n + suc k - 1) (x ∷ xs))))) (fails (n + k) x (omega arith) lt)
    ∙ ap (λ m. find p (reverse (take m (x ∷ xs)))) place ∙ skip p (x ∷ xs) n k (omega arith) fails

-- ---- the loop that drops what is hidden

pub shorter : (r : Option Setting) (old new : List Setting) (version : ℕ) → MatchOption r ((old ≡ []) × (new ≡ [])) (λ last. old ≡ new ++ last ∷ []) → is_hidden old version ≡ true
    → ((seen : ℕ) → leb version seen ≡ false → last_up_to seen new ≡ last_up_to seen old) × (AreRising old → AreRising new)
shorter None old new version none hidden =
    (λ seen early. ap (last_up_to seen) (none.1 ∙ sym none.0), λ rises. subst AreRising (none.0 ∙ sym none.1) rises)
shorter (Some last) old new version is hidden = (λ seen early. unhidden old new last version seen is hidden early, λ rises. rising_front old new last is rises)

-- where it was pushed, they rise
pub pushed_rising : (r : Result (Unit {0}) AllocError) (new now : List Setting) (s : Setting) → OnOk r (new ≡ now ++ s ∷ []) → is_hidden now s.version ≡ false → AreRising now
    → OnOk r (AreRising new)
pushed_rising (Ok u) new now s is free rises = subst AreRising (sym is) (rising_push now s free rises)
pushed_rising (Err e) new now s is free rises = tt

-- nothing is found where all fail
pub found_none : (p : Setting → Bool) (xs : List Setting) (n : ℕ) → n ≡ 0 → ((i : ℕ) (d : Setting) → n ≤ i → i < length xs → p (get_or xs i d) ≡ false) → None ≡ find p (reverse xs)
found_none p xs n none fails =
    let whole : length xs ≡ 0 + length xs = omega arith in
    sym (ap (λ l. find p (reverse l)) (sym (take-length xs)) ∙ ap (λ m. find p (reverse (take m xs))) whole ∙ skip p xs 0 (length xs) (omega arith) (λ i d le lt. fails i d (omega arith) lt))

-- the last one that passes is found
pub found_last : (p : Setting → Bool) (xs : List Setting) (n : ℕ) (d : Setting) → 0 < n → n ≤ length xs → ((i : ℕ) (d : Setting) → n ≤ i → i < length xs → p (get_or xs i d) ≡ false)
    → p (get_or xs (n - 1) d) ≡ true → Some (get_or xs (n - 1) d) ≡ find p (reverse xs)
found_last p xs n d some within fails passes =
    let whole : n + (length xs - n) ≡ length xs = omega arith in
    let front : find p (reverse xs) ≡ find p (reverse (take n xs)) =
    ap (λ l. find p (reverse l)) (sym (take-length xs)) ∙ ap (λ m. find p (reverse (take m xs))) (sym whole) ∙ skip p xs n (length xs - n) (omega arith) fails in
    last_found p xs n (get_or xs (n - 1) d) d some within refl passes front

-- a setting that was added to the list of its key
pub noted : (r : Result (Unit {0}) AllocError) (all : List Setting) (lists grown : List (List Setting)) (s : Setting) (key : ℕ) (was new d : List Setting) → key ≡ s.key
    → ((k : ℕ) → kept grown k ≡ kept lists k) → key < length grown → was ≡ get_or grown key d
    → OnOk r ((seen : ℕ) → last_up_to seen new ≡ cond (leb s.version seen) (Some s) (last_up_to seen was)) → (AreRising was → OnOk r (AreRising new)) → Follows all lists
    → OnOk r (Follows (all ++ s ∷ []) (set grown key new))
noted (Ok u) all lists grown s key was new d key_is same within was_is found rises follows =
    let here : was ≡ get_or grown key [] = was_is ∙ ap (λ o. unwrap_or o []) (sym (slice_get-get_or grown key d within)) ∙ kept_is grown key in
    let there : was ≡ get_or grown s.key [] = here ∙ ap (λ k. get_or grown k []) key_is in
    let place : s.key < length grown = omega arith in
    subst (λ k. Follows (all ++ s ∷ []) (set grown k new)) (sym key_is)
    (follows_more all lists grown s new follows same place (λ seen. found seen ∙ ap (λ l. cond (leb s.version seen) (Some s) (last_up_to seen l)) there)
    (λ up. rises (subst AreRising (sym there) up)))
noted (Err e) all lists grown s key was new d key_is same within was_is found rises follows = tt
