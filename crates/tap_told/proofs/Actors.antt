-- A stable sort by actors puts the answers actor by actor.
use Rattle.std.proofs.Common.{◌≡◌, ℕ, zero, suc, ◌+◌, ◌<◌, ◌≤◌, Bool, true, false, cond, List, [], ◌∷◌, ◌++◌, ◌==◌, ◌&&◌, nat_lt, length, get_or, sym, ap, ◌∙◌, refl, arith}
use Rattle.std.specs.Prelude.{filter, not}
use Rattle.std.specs.List.{AllByRecursion}
use Rattle.std.specs.Ordering.{is_lt, nat_cmp}
use Rattle.std.specs.declared.cmp.Ordering.TheVariants.{Less, Equal, Greater}
use Rattle.std.proofs.lemmas.Bool.Decides.{nat_tests}
use Rattle.std.specs.List.Sorted.{IsNonDecreasingBy, IsPermutation, IsStableByKey, ties}
use Rattle.std.proofs.lemmas.List.Elements.{All-from_recursion, recursion_from_All}
use Rattle.std.proofs.lemmas.List.Sorted.{All-permutation}
use Rattle.tap_trace.specs.declared.answer.Answer.TheVariants.{Done}
use Rattle.tap_trace.specs.declared.trace.AnswerLine.{AnswerLine}
use Rattle.tap_told.specs.Phases.{by_actors}

abbrev is_by : ℕ → AnswerLine → Bool
is_by actor x = x.actor == actor

-- ---- filters

-- tests that agree keep the same
pub filter_agrees : {X : Type 0} (p q : X → Bool) (xs : List X) → ((x : X) → p x ≡ q x) → filter p xs ≡ filter q xs
filter_agrees p q [] same = refl
filter_agrees p q (x ∷ xs) same =
    ap (λ b. cond b (x ∷ filter p xs) (filter p xs)) (same x) ∙ ap (λ t. cond (q x) (x ∷ t) t) (filter_agrees p q xs same)

kept_twice : {X : Type 0} (p : X → Bool) (b c : Bool) (x : X) (xs ys : List X) → p x ≡ c → (c ≡ true → b ≡ true) → filter p xs ≡ ys
    → filter p (cond b (x ∷ xs) xs) ≡ cond c (x ∷ ys) ys
kept_twice p true c x xs ys is sub rest = ap (λ d. cond d (x ∷ filter p xs) (filter p xs)) is ∙ ap (λ t. cond c (x ∷ t) t) rest
kept_twice p false true x xs ys is sub rest = absurd (cc (sub refl))
kept_twice p false false x xs ys is sub rest = rest

-- a test that keeps all that another one keeps makes no difference before it
pub filter_twice : {X : Type 0} (p q : X → Bool) (xs : List X) → ((x : X) → p x ≡ true → q x ≡ true) → filter p (filter q xs) ≡ filter p xs
filter_twice p q [] sub = refl
filter_twice p q (x ∷ xs) sub = kept_twice p (q x) (p x) x (filter q xs) (filter p xs) refl (sub x) (filter_twice p q xs sub)

-- ---- in order

abbrev at_least : ℕ → List AnswerLine → Type 0
at_least a xs = AllByRecursion (λ (x : AnswerLine). a ≤ x.actor) xs

abbrev is_below : ℕ → List AnswerLine → Type 0
is_below a xs = AllByRecursion (λ (x : AnswerLine). x.actor < a) xs

none_by : (actor : ℕ) (xs : List AnswerLine) → at_least (actor + 1) xs → filter (is_by actor) xs ≡ []
none_by actor [] all = refl
none_by actor (x ∷ xs) all =
    let other : is_by actor x ≡ false = let above = all.0 in grind arith in
    ap (λ b. cond b (x ∷ filter (is_by actor) xs) (filter (is_by actor) xs)) other ∙ none_by actor xs all.1

none_of_any : (actor more : ℕ) → by_actors actor more [] ≡ []
none_of_any actor zero = refl
none_of_any actor (suc more) = none_of_any (actor + 1) more

weaker : (a b : ℕ) (xs : List AnswerLine) → a ≤ b → at_least b xs → at_least a xs
weaker a b [] le all = tt
weaker a b (x ∷ xs) le all = (let above = all.0 in omega arith, weaker a b xs le all.1)

-- an answer of an actor before the first isn't among them
skipped : (actor more : ℕ) (x : AnswerLine) (xs : List AnswerLine) → x.actor < actor → by_actors actor more (x ∷ xs) ≡ by_actors actor more xs
skipped actor zero x xs below = refl
skipped actor (suc more) x xs below =
    let other : is_by actor x ≡ false = grind arith in
    ap (λ b. cond b (x ∷ filter (is_by actor) xs) (filter (is_by actor) xs) ++ by_actors (actor + 1) more (x ∷ xs)) other
    ∙ ap (λ t. filter (is_by actor) xs ++ t) (skipped (actor + 1) more x xs (omega arith))

-- one that is of no later actor than the others is the first: it is the actor's own, or a later one's
its_own_or_later : (b : Bool) (actor more : ℕ) (x : AnswerLine) (xs : List AnswerLine) → is_by actor x ≡ b → actor ≤ x.actor → at_least x.actor xs
    → (actor + 1 ≤ x.actor → by_actors (actor + 1) more (x ∷ xs) ≡ x ∷ by_actors (actor + 1) more xs)
    → cond b (x ∷ filter (is_by actor) xs) (filter (is_by actor) xs) ++ by_actors (actor + 1) more (x ∷ xs)
    ≡ x ∷ (filter (is_by actor) xs ++ by_actors (actor + 1) more xs)
its_own_or_later true actor more x xs is from all later =
    let below : x.actor < actor + 1 = grind arith in
    ap (λ t. x ∷ (filter (is_by actor) xs ++ t)) (skipped (actor + 1) more x xs below)
its_own_or_later false actor more x xs is from all later =
    let above : actor + 1 ≤ x.actor = grind arith in
    let none = none_by actor xs (weaker (actor + 1) x.actor xs above all) in
    ap (λ t. t ++ by_actors (actor + 1) more (x ∷ xs)) none ∙ later above ∙ ap (λ t. x ∷ (t ++ by_actors (actor + 1) more xs)) (sym none)

comes_first : (actor more : ℕ) (x : AnswerLine) (xs : List AnswerLine) → actor ≤ x.actor → x.actor < actor + more → at_least x.actor xs
    → by_actors actor more (x ∷ xs) ≡ x ∷ by_actors actor more xs
comes_first actor zero x xs from below all = absurd (omega arith)
comes_first actor (suc more) x xs from below all =
    its_own_or_later (is_by actor x) actor more x xs refl from all (λ above. comes_first (actor + 1) more x xs above (omega arith) all)

head_least : (x : AnswerLine) (xs ys : List AnswerLine) (j : ℕ) → IsNonDecreasingBy (λ (y : AnswerLine). y.actor) (x ∷ ys)
    → ((i : ℕ) (d : AnswerLine) → get_or ys (j + i) d ≡ get_or xs i d) → j + length xs ≡ length ys → at_least x.actor xs
head_least x [] ys j rises same len = tt
head_least x (y ∷ xs) ys j rises same len =
    let first : x.actor ≤ (get_or (x ∷ ys) (suc j) x).actor = rises 0 (suc j) x (omega arith) (omega arith) in
    let is : get_or ys j x ≡ y = ap (λ k. get_or ys k x) (sym (add_nothing j)) ∙ same 0 x in (
      rw (← is) first,
      head_least x xs ys (j + 1) rises (λ i d. let place : j + 1 + i ≡ j + suc i = omega arith in ap (λ k. get_or ys k d) place ∙ same (suc i) d) (omega arith),
    )
  where
    add_nothing : (n : ℕ) → n + 0 ≡ n
    add_nothing n = omega arith

tail_rises : (x : AnswerLine) (xs : List AnswerLine) → IsNonDecreasingBy (λ (y : AnswerLine). y.actor) (x ∷ xs) → IsNonDecreasingBy (λ (y : AnswerLine). y.actor) xs
tail_rises x xs rises i j d le lt = rises (suc i) (suc j) d (omega arith) (omega arith)

pub sorted_is : (more : ℕ) (xs : List AnswerLine) → IsNonDecreasingBy (λ (y : AnswerLine). y.actor) xs → is_below more xs → xs ≡ by_actors 0 more xs
sorted_is more [] rises below = sym (none_of_any 0 more)
sorted_is more (x ∷ xs) rises below =
    let least = head_least x xs xs 0 rises (λ i d. ap (λ k. get_or xs k d) (zero_and i)) (zero_and (length xs)) in
    let within : x.actor < 0 + more = let b = below.0 in omega arith in
    ap (λ t. x ∷ t) (sorted_is more xs (tail_rises x xs rises) below.1) ∙ sym (comes_first 0 more x xs (omega arith) within least)
  where
    zero_and : (n : ℕ) → 0 + n ≡ n
    zero_and n = omega arith

-- where the answers of each actor are the same
pub same_by : (actor more : ℕ) (xs ys : List AnswerLine) → ((k : ℕ) → k < actor + more → filter (is_by k) xs ≡ filter (is_by k) ys)
    → by_actors actor more xs ≡ by_actors actor more ys
same_by actor zero xs ys same = refl
same_by actor (suc more) xs ys same =
    ap (λ t. t ++ by_actors (actor + 1) more xs) (same actor (omega arith))
    ∙ ap (λ t. filter (is_by actor) ys ++ t) (same_by (actor + 1) more xs ys (λ k lt. same k (omega arith)))

-- ---- a stable sort

not_less : (a e : Bool) → not (is_lt (cond a Less (cond e Equal Greater))) ≡ not a
not_less true e = refl
not_less false true = refl
not_less false false = refl

neither : (k n : ℕ) → (not (nat_lt k n) && not (nat_lt n k)) ≡ (n == k)
neither k n = grind (arith, nat_tests)

-- those that tie with an answer are those of its actor
ties_are : (x y : AnswerLine) → ties (λ (a b : AnswerLine). is_lt (nat_cmp a.actor b.actor)) x y ≡ is_by x.actor y
ties_are x y =
    ap (λ b. b && not (is_lt (nat_cmp y.actor x.actor))) (not_less (nat_lt x.actor y.actor) (x.actor == y.actor))
    ∙ ap (λ b. not (nat_lt x.actor y.actor) && b) (not_less (nat_lt y.actor x.actor) (y.actor == x.actor)) ∙ neither x.actor y.actor

abbrev an_answer : ℕ → AnswerLine
an_answer actor = record { actor = actor; command = 0; seen = 0; answer = Done }

all_below : (actors : ℕ) (xs : List AnswerLine) → is_below actors (filter (λ (x : AnswerLine). nat_lt x.actor actors) xs)
all_below actors [] = tt
all_below actors (x ∷ xs) = one_below (nat_lt x.actor actors) actors x (filter (λ (y : AnswerLine). nat_lt y.actor actors) xs) refl (all_below actors xs)
  where
    one_below : (b : Bool) (n : ℕ) (y : AnswerLine) (ys : List AnswerLine) → nat_lt y.actor n ≡ b → is_below n ys → is_below n (cond b (y ∷ ys) ys)
    one_below true n y ys is rest = (let lt : y.actor < n = grind (arith, nat_tests) in lt, rest)
    one_below false n y ys is rest = rest

-- where answers of so many actors were kept and sorted stably by actor, they are those of the actors, one by one
pub in_actor_order : (actors : ℕ) (xs zs ys : List AnswerLine) → zs ≡ filter (λ (x : AnswerLine). nat_lt x.actor actors) xs
    → IsPermutation zs ys → IsNonDecreasingBy (λ (x : AnswerLine). x.actor) ys → IsStableByKey (λ (x : AnswerLine). x.actor) nat_cmp zs ys
    → ys ≡ by_actors 0 actors xs
in_actor_order actors xs zs ys kept moved rises stable =
    let P = λ (x : AnswerLine). x.actor < actors in
    let lt = λ (a b : AnswerLine). is_lt (nat_cmp a.actor b.actor) in
    let below_zs : is_below actors zs = rw kept (all_below actors xs) in
    let below : is_below actors ys = recursion_from_All P ys (All-permutation P zs ys moved (All-from_recursion P zs below_zs)) in
    let same : (k : ℕ) → k < 0 + actors → filter (is_by k) ys ≡ filter (is_by k) xs
    = λ k within. sym (filter_agrees (ties lt (an_answer k)) (is_by k) ys (ties_are (an_answer k))) ∙ stable (an_answer k)
    ∙ filter_agrees (ties lt (an_answer k)) (is_by k) zs (ties_are (an_answer k)) ∙ ap (filter (is_by k)) kept
    ∙ filter_twice (is_by k) (λ (x : AnswerLine). nat_lt x.actor actors) xs (λ x its. let lower : nat_lt x.actor actors ≡ true = grind (arith, nat_tests) in lower) in
    sorted_is actors ys rises below ∙ same_by 0 actors ys xs same
