-- Each descriptor is kept once.
use Rattle.std.proofs.Common.{◌≡◌, ℕ, zero, suc, ◌+◌, ◌<◌, ◌≤◌, ◌==◌, Bool, true, false, cond, nat_lt, List, [], ◌∷◌, length, take, drop, Option, None, Some, refl, sym, subst, arith}
use Rattle.std.specs.Prelude.{if◌then◌else◌}
use Rattle.std.specs.Ordering.{nat_cmp, match_ordering, is_eq}
use Rattle.std.specs.declared.cmp.Ordering.{Ordering}
use Rattle.std.specs.declared.cmp.Ordering.TheVariants.{Less, Equal, Greater}
use Rattle.std.specs.BTreeSet.{insert_key}
use Rattle.std.specs.BTreeMap.{insert_entry, is_at}
use Rattle.std.specs.Map.{lookup, remove_entry}
use Rattle.std.proofs.lemmas.Bool.Decides.{nat_tests}
use Rattle.guest_mem.specs.Memory.{Contents}
use Rattle.vring_drive.specs.Books.{Books, numbers_from, found_out, taken_back, freed_into, head_of}
use Rattle.tap_ground.specs.Lists.{times as times_in}
use Rattle.vring_drive.specs.Laws.{IsWhole, StandUnderOwn, times_out, BeginsWhole, SendsWhole, TakesWhole, HarvestsWhole, AllFreeAgain}
use Rattle.vring_drive.specs.Harvests.{Harvest, harvest_of, used_entry, ready_count}
use Rattle.vring_drive.proofs.Harvested.{step, step_is}

-- 1 for a number itself, and 0 for another
abbrev one_for : ℕ → ℕ → ℕ
one_for x d = if x == d then 1 else 0

-- numbers from one on stand once each
times_in_numbers : (d first n : ℕ) → times_in d (numbers_from first n) ≡ (if nat_lt d first then 0 else (if nat_lt d (first + n) then 1 else 0))
times_in_numbers d first zero = grind (arith, nat_tests)
times_in_numbers d first (suc n) = let rest = times_in_numbers d (first + 1) n in grind (arith, nat_tests)

-- a number that is added stands once more, if it wasn't there: by the place that the order gives it
added_at : (d x y : ℕ) (ys : List ℕ) (o : Ordering) → o ≡ nat_cmp x y → one_for y x + times_in x ys ≡ 0
    → times_in d (insert_key nat_cmp ys x) ≡ times_in d ys + one_for x d
    → times_in d (match_ordering o (x ∷ y ∷ ys) (y ∷ ys) (y ∷ insert_key nat_cmp ys x)) ≡ (one_for y d + times_in d ys) + one_for x d
added_at d x y ys Less e h more = omega arith
added_at d x y ys Equal e h more = grind (arith, nat_tests)
added_at d x y ys Greater e h more = omega arith

times_in_added : (d x : ℕ) (free : List ℕ) → times_in x free ≡ 0
    → times_in d (insert_key nat_cmp free x) ≡ times_in d free + one_for x d
times_in_added d x [] h = omega arith
times_in_added d x (y ∷ ys) h =
    let none : times_in x ys ≡ 0 = omega arith in
    added_at d x y ys (nat_cmp x y) refl h (times_in_added d x ys none)

-- a number stands in a list that begins with it
one_for_itself : (x : ℕ) → one_for x x ≡ 1
one_for_itself x = grind (arith, nat_tests)

-- numbers that are added stand as often more
times_in_freed : (d : ℕ) (free chain : List ℕ) → ((x : ℕ) → times_in x free + times_in x chain ≤ 1)
    → times_in d (freed_into free chain) ≡ times_in d free + times_in d chain
times_in_freed d free [] h = omega arith
times_in_freed d free (x ∷ xs) h =
    let here : times_in x free + (one_for x x + times_in x xs) ≤ 1 = h x in
    let none : times_in x free ≡ 0 = let own = one_for_itself x in omega arith in
    let more : (y : ℕ) → times_in y (insert_key nat_cmp free x) + times_in y xs ≤ 1 =
    λ (y : ℕ). let added = times_in_added y x free none in let there = h y in omega arith in
    let rest = times_in_freed d (insert_key nat_cmp free x) xs more in
    let added = times_in_added d x free none in
    omega arith

-- what is taken and what is left are the whole
times_in_parts : (d n : ℕ) (xs : List ℕ) → times_in d (take n xs) + times_in d (drop n xs) ≡ times_in d xs
times_in_parts d zero xs = omega arith
times_in_parts d (suc n) [] = omega arith
times_in_parts d (suc n) (x ∷ xs) = let rest = times_in_parts d n xs in omega arith

-- a chain that is put under a new head counts once more
put_at : (d k : ℕ) (v : List ℕ) (e : ℕ × List ℕ) (es : List (ℕ × List ℕ)) (o : Ordering) → is_eq o ≡ false
    → times_out d (insert_entry nat_cmp es k v) ≡ times_in d v + times_out d es
    → times_out d (match_ordering o ((k, v) ∷ e ∷ es) ((e.0, v) ∷ es) (e ∷ insert_entry nat_cmp es k v))
    ≡ times_in d v + (times_in d e.1 + times_out d es)
put_at d k v e es Less h more = omega arith
put_at d k v e es Equal h more = cc
put_at d k v e es Greater h more = omega arith

-- a look-up that finds nothing: not at the first entry, and not behind it
not_first : (b : Bool) (x : List ℕ) (r : Option (List ℕ)) → cond b (Some x) r ≡ None → (b ≡ false) × (r ≡ None)
not_first true x r h = cc
not_first false x r h = (refl, h)

times_out_put : (d k : ℕ) (v : List ℕ) (es : List (ℕ × List ℕ)) → lookup (is_at (nat_cmp k)) es ≡ None
    → times_out d (insert_entry nat_cmp es k v) ≡ times_in d v + times_out d es
times_out_put d k v [] h = refl
times_out_put d k v (e ∷ es) h =
    let missing = not_first (is_at (nat_cmp k) e.0) e.1 (lookup (is_at (nat_cmp k)) es) h in
    put_at d k v e es (nat_cmp k e.0) missing.0 (times_out_put d k v es missing.1)

own_at : (k : ℕ) (v : List ℕ) (e : ℕ × List ℕ) (es : List (ℕ × List ℕ)) (o : Ordering) → is_eq o ≡ false → 0 < times_in k v
    → 0 < times_in e.0 e.1 → StandUnderOwn es → StandUnderOwn (insert_entry nat_cmp es k v)
    → StandUnderOwn (match_ordering o ((k, v) ∷ e ∷ es) ((e.0, v) ∷ es) (e ∷ insert_entry nat_cmp es k v))
own_at k v e es Less h own first rest more = (own, (first, rest))
own_at k v e es Equal h own first rest more = cc
own_at k v e es Greater h own first rest more = (first, more)

own_put : (k : ℕ) (v : List ℕ) (es : List (ℕ × List ℕ)) → lookup (is_at (nat_cmp k)) es ≡ None → 0 < times_in k v
    → StandUnderOwn es → StandUnderOwn (insert_entry nat_cmp es k v)
own_put k v [] h own rest = (own, tt)
own_put k v (e ∷ es) h own rest =
    let missing = not_first (is_at (nat_cmp k) e.0) e.1 (lookup (is_at (nat_cmp k)) es) h in
    own_at k v e es (nat_cmp k e.0) missing.0 own rest.0 rest.1 (own_put k v es missing.1 own rest.1)

-- a chain that is taken out counts once less
taken_at : (d : ℕ) (test : ℕ → Bool) (chain : List ℕ) (e : ℕ × List ℕ) (es : List (ℕ × List ℕ)) (b : Bool)
    → (lookup test es ≡ Some chain → times_in d chain + times_out d (remove_entry test es) ≡ times_out d es)
    → cond b (Some e.1) (lookup test es) ≡ Some chain
    → times_in d chain + times_out d (cond b es (e ∷ remove_entry test es)) ≡ times_in d e.1 + times_out d es
taken_at d test chain e es true rest h = let same : e.1 ≡ chain = cc in rw same refl
taken_at d test chain e es false rest h = let more = rest h in omega arith

times_out_taken : (d : ℕ) (test : ℕ → Bool) (chain : List ℕ) (es : List (ℕ × List ℕ)) → lookup test es ≡ Some chain
    → times_in d chain + times_out d (remove_entry test es) ≡ times_out d es
times_out_taken d test chain [] h = cc
times_out_taken d test chain (e ∷ es) h = taken_at d test chain e es (test e.0) (times_out_taken d test chain es) h

own_taken_at : (e : ℕ × List ℕ) (es rest : List (ℕ × List ℕ)) (b : Bool) → StandUnderOwn (e ∷ es) → StandUnderOwn rest
    → StandUnderOwn (cond b es (e ∷ rest))
own_taken_at e es rest true h more = h.1
own_taken_at e es rest false h more = (h.0, more)

own_taken : (test : ℕ → Bool) (es : List (ℕ × List ℕ)) → StandUnderOwn es → StandUnderOwn (remove_entry test es)
own_taken test [] h = tt
own_taken test (e ∷ es) h = own_taken_at e es (remove_entry test es) (test e.0) h (own_taken test es h.1)

-- a key that is found is the one that was looked for, and so stands in its chain
key_is : (k j : ℕ) → is_eq (nat_cmp k j) ≡ true → k ≡ j
key_is k j h = grind (arith, nat_tests)

found_at : (k : ℕ) (v : List ℕ) (e : ℕ × List ℕ) (es : List (ℕ × List ℕ)) (b : Bool) → b ≡ is_at (nat_cmp k) e.0
    → (lookup (is_at (nat_cmp k)) es ≡ Some v → 0 < times_out k es) → 0 < times_in e.0 e.1
    → cond b (Some e.1) (lookup (is_at (nat_cmp k)) es) ≡ Some v → 0 < times_in k e.1 + times_out k es
found_at k v e es true is rest own h =
    let same : k ≡ e.0 = key_is k e.0 (sym is) in
    let here : 0 < times_in k e.1 = rw same own in omega arith
found_at k v e es false is rest own h = let more = rest h in omega arith

found_own : (k : ℕ) (v : List ℕ) (es : List (ℕ × List ℕ)) → lookup (is_at (nat_cmp k)) es ≡ Some v → StandUnderOwn es
    → 0 < times_out k es
found_own k v [] h own = cc
found_own k v (e ∷ es) h own = found_at k v e es (is_at (nat_cmp k) e.0) refl (λ f. found_own k v es f own.1) own.0 h

none_from : (r : Option (List ℕ)) → ((v : List ℕ) → r ≡ Some v → ⊥) → r ≡ None
none_from None h = refl
none_from (Some v) h = absurd (h v refl)

-- the head of a chain stands in it
head_in : (need : ℕ) (free : List ℕ) → 0 < need → need ≤ length free → 0 < times_in (head_of (take need free)) (take need free)
head_in zero free some fits = absurd (omega arith)
head_in (suc n) [] some fits = absurd (omega arith)
head_in (suc n) (x ∷ xs) some fits = let own = one_for_itself x in omega arith

at_most_one : (b : Bool) → (if b then 1 else 0) ≤ 1
at_most_one true = omega arith
at_most_one false = omega arith

pub sends_whole : SendsWhole
sends_whole need b some fits whole =
    let chain = take need b.free in
    let head = head_of chain in
    let own : 0 < times_in head chain = head_in need b.free some fits in
    let missing : found_out head b ≡ None = none_from (found_out head b)
    (λ (v : List ℕ) (found : found_out head b ≡ Some v).
    let twice : 0 < times_out head b.out = found_own head v b.out found whole.heads in
    let parts = times_in_parts head need b.free in
    let once = whole.once head in
    let most = at_most_one (nat_lt head b.num) in
    omega arith) in
    record {
      once = λ (d : ℕ).
          let put = times_out_put d head chain b.out missing in
          let parts = times_in_parts d need b.free in
          let once = whole.once d in omega arith;
      heads = own_put head chain b.out missing own whole.heads;
    }

pub takes_whole : TakesWhole
takes_whole head chain b found whole =
    let most : (x : ℕ) → times_in x b.free + times_in x chain ≤ 1 =
    λ (x : ℕ).
    let taken = times_out_taken x (is_at (nat_cmp head)) chain b.out found in
    let once = whole.once x in
    let most = at_most_one (nat_lt x b.num) in omega arith in
    record {
      once = λ (d : ℕ).
          let taken = times_out_taken d (is_at (nat_cmp head)) chain b.out found in
          let freed = times_in_freed d b.free chain most in
          let once = whole.once d in omega arith;
      heads = own_taken (is_at (nat_cmp head)) b.out whole.heads;
    }

-- a harvest takes chains back one after the other
step_whole : (n : ℕ) (m : Contents) (b : Books) → ((c : Books) → IsWhole c → IsWhole (harvest_of n m c).books) → IsWhole b
    → (r : Option (List ℕ)) → found_out (used_entry m b).id b ≡ r → IsWhole (step n m b r).books
unfolding step
step_whole n m b rest whole None found = whole
step_whole n m b rest whole (Some chain) found =
    rest (taken_back (used_entry m b).id chain b) (takes_whole (used_entry m b).id chain b found whole)

harvest_whole : (n : ℕ) (m : Contents) (b : Books) → IsWhole b → IsWhole (harvest_of n m b).books
unfolding harvest_of
harvest_whole zero m b whole = whole
harvest_whole (suc n) m b whole =
    subst (λ (h : Harvest). IsWhole h.books) (sym (step_is n m b))
    (step_whole n m b (harvest_whole n m) whole (found_out (used_entry m b).id b) refl)

pub harvests_whole : HarvestsWhole
harvests_whole m b whole = harvest_whole (ready_count m b) m b whole

pub begins_whole : BeginsWhole
begins_whole start num ev = record { once = λ d. let n = times_in_numbers d 0 num in grind (arith, nat_tests); heads = tt }

pub all_free_again : AllFreeAgain
all_free_again b h e d = let all = h.once d in let none : times_out d b.out ≡ 0 = rw e refl in omega arith
