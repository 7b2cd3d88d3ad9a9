-- What holds of tables and answers, whatever frames came.
use Rattle.std.proofs.Common.{◌≡◌, ◌≢◌, ℕ, suc, ◌+◌, ◌<◌, ◌≤◌, ◌||◌, ◌==◌, not, Bool, true, false, cond, nat_lt, List, [], ◌∷◌, length, filter, Option, None, Some, refl, sym, ap, subst, ◌∙◌, arith}
use Rattle.std.specs.Prelude.{is_some}
use Rattle.std.specs.List.{AllByRecursion}
use Rattle.std.specs.List.Sorted.{IsStrictlySortedBy}
use Rattle.std.specs.Ordering.{nat_cmp, match_ordering, is_eq, ordering_reverse}
use Rattle.std.specs.Cmp.{eq_by_cmp_equiv}
use Rattle.std.specs.BTreeMap.{insert_entry, is_at}
use Rattle.std.specs.Map.{keys_of, remove_entry}
use Rattle.std.specs.declared.cmp.Ordering.{Ordering}
use Rattle.std.specs.declared.cmp.Ordering.TheVariants.{Less, Equal, Greater}
use Rattle.std.proofs.lemmas.Bool.Decides.{nat_tests}
use Rattle.tap_bridge.specs.declared.address.Address.{Address}
use Rattle.tap_bridge.specs.declared.address.Seen.{Seen}
use Rattle.tap_bridge.specs.Bridge.{Table, address_order, found, is_young, young, is_among, at_ports, others, toward, kept, learnt, table_after, source, destination, is_from_group, is_to_group}
use Rattle.tap_bridge.specs.Kept.{AreInOrder}
use Rattle.tap_bridge.specs.Steps.{put_from, trimmed}
use Rattle.tap_bridge.specs.Calls.{Call, table_of}
use Rattle.tap_bridge.specs.Laws.{IsSound, TablesAreSound, IsSoundAnswer, AnswersAreSound}
use Rattle.tap_bridge.proofs.Tables.{address_total, address_exact, filter_fewer}

-- What holds of each of a list holds of each of a filter of it.
filter_each : {X : Type 0} (P : X → Type 0) (p : X → Bool) (xs : List X) → AllByRecursion P xs → AllByRecursion P (filter p xs)
filter_each P p [] h = tt
filter_each {X} P p (x ∷ xs) h = by_test (p x) (filter_each P p xs h.1)
  where
    by_test : (b : Bool) → AllByRecursion P (filter p xs) → AllByRecursion P (cond b (x ∷ filter p xs) (filter p xs))
    by_test true rest = (h.0, rest)
    by_test false rest = rest

-- what passes has passed
filter_passed : {X : Type 0} (p : X → Bool) (xs : List X) → AllByRecursion (λ x. p x ≡ true) (filter p xs)
filter_passed p [] = tt
filter_passed {X} p (x ∷ xs) = by_test (p x) refl (filter_passed p xs)
  where
    by_test : (b : Bool) → p x ≡ b → AllByRecursion (λ y. p y ≡ true) (filter p xs) → AllByRecursion (λ y. p y ≡ true) (cond b (x ∷ filter p xs) (filter p xs))
    by_test true e rest = (e, rest)
    by_test false e rest = rest

-- a filter of a list in order is in order
keys_each : (P : Address → Type 0) (p : Address × Seen → Bool) (es : Table) → AllByRecursion P (keys_of es) → AllByRecursion P (keys_of (filter p es))
keys_each P p [] h = tt
keys_each P p (e ∷ es) h = by_test (p e) (keys_each P p es h.1)
  where
    by_test : (b : Bool) → AllByRecursion P (keys_of (filter p es)) → AllByRecursion P (keys_of (cond b (e ∷ filter p es) (filter p es)))
    by_test true rest = (h.0, rest)
    by_test false rest = rest

filter_ordered : (p : Address × Seen → Bool) (es : Table) → AreInOrder es → AreInOrder (filter p es)
unfolding IsStrictlySortedBy
filter_ordered p [] h = tt
filter_ordered p (e ∷ es) h = by_test (p e) (filter_ordered p es h.1)
  where
    by_test : (b : Bool) → AreInOrder (filter p es) → AreInOrder (cond b (e ∷ filter p es) (filter p es))
    by_test true rest = (keys_each (λ k. address_order e.0 k ≡ Less) p es h.0, rest)
    by_test false rest = rest

numbers_ordered : (p : ℕ → Bool) (xs : List ℕ) → IsStrictlySortedBy nat_cmp xs → IsStrictlySortedBy nat_cmp (filter p xs)
unfolding IsStrictlySortedBy
numbers_ordered p [] h = tt
numbers_ordered p (x ∷ xs) h = by_test (p x) (numbers_ordered p xs h.1)
  where
    by_test : (b : Bool) → IsStrictlySortedBy nat_cmp (filter p xs) → IsStrictlySortedBy nat_cmp (cond b (x ∷ filter p xs) (filter p xs))
    by_test true rest = (filter_each (λ y. nat_cmp x y ≡ Less) p xs h.0, rest)
    by_test false rest = rest

-- An address that is put in.

-- what holds of each address and of the new one
put_each : (P : Address → Type 0) (a : Address) (v : Seen) (es : Table) → P a → AllByRecursion P (keys_of es) → AllByRecursion P (keys_of (insert_entry address_order es a v))
put_each P a v [] here h = (here, tt)
put_each P a v (e ∷ es) here h = by_order (address_order a e.0) (put_each P a v es here h.1)
  where
    by_order : (o : Ordering) → AllByRecursion P (keys_of (insert_entry address_order es a v))
        → AllByRecursion P (keys_of (match_ordering o ((a, v) ∷ e ∷ es) ((e.0, v) ∷ es) (e ∷ insert_entry address_order es a v)))
    by_order Less rest = (here, h)
    by_order Equal rest = h
    by_order Greater rest = (h.0, rest)

-- what is above one is above what is below that one
above : (a b : Address) (ks : List Address) → address_order a b ≡ Less → AllByRecursion (λ k. address_order b k ≡ Less) ks → AllByRecursion (λ k. address_order a k ≡ Less) ks
above a b [] h all = tt
above a b (k ∷ ks) h all = (address_total.trans a b k h all.0, above a b ks h all.1)

put_ordered : (a : Address) (v : Seen) (es : Table) → AreInOrder es → AreInOrder (insert_entry address_order es a v)
unfolding IsStrictlySortedBy
put_ordered a v [] h = (tt, tt)
put_ordered a v (e ∷ es) h = by_order (address_order a e.0) refl (put_ordered a v es h.1)
  where
    by_order : (o : Ordering) → address_order a e.0 ≡ o → AreInOrder (insert_entry address_order es a v)
        → AreInOrder (match_ordering o ((a, v) ∷ e ∷ es) ((e.0, v) ∷ es) (e ∷ insert_entry address_order es a v))
    by_order Less is rest = ((is, above a e.0 (keys_of es) is h.0), h)
    by_order Equal is rest = h
    by_order Greater is rest =
        let below : address_order e.0 a ≡ Less = address_total.antisymm e.0 a ∙ ap ordering_reverse is in
        (put_each (λ k. address_order e.0 k ≡ Less) a v es below h.0, rest)

-- how many there are then
put_longer : (a : Address) (v : Seen) (es : Table) → length (insert_entry address_order es a v) ≤ length es + 1
put_longer a v [] = omega arith
put_longer a v (e ∷ es) = by_order (address_order a e.0) (put_longer a v es)
  where
    by_order : (o : Ordering) → length (insert_entry address_order es a v) ≤ length es + 1
        → length (match_ordering o ((a, v) ∷ e ∷ es) ((e.0, v) ∷ es) (e ∷ insert_entry address_order es a v)) ≤ length (e ∷ es) + 1
    by_order Less h = omega arith
    by_order Equal h = omega arith
    by_order Greater h = omega arith

-- an address isn't there, where it is below all
none_above : (a : Address) (es : Table) → AllByRecursion (λ k. address_order a k ≡ Less) (keys_of es) → found a es ≡ None
none_above a [] h = refl
none_above a (e ∷ es) h = ap (λ (o : Ordering). cond (is_eq o) (Some e.1) (found a es)) h.0 ∙ none_above a es h.1

put_known_long : (a : Address) (v : Seen) (es : Table) → AreInOrder es → is_some (found a es) ≡ true
    → length (insert_entry address_order es a v) ≡ length es
unfolding IsStrictlySortedBy
put_known_long a v [] order h = cc
put_known_long a v (e ∷ es) order h = by_order (address_order a e.0) refl h (λ there. put_known_long a v es order.1 there)
  where
    by_order : (o : Ordering) → address_order a e.0 ≡ o → is_some (cond (is_eq o) (Some e.1) (found a es)) ≡ true
        → (is_some (found a es) ≡ true → length (insert_entry address_order es a v) ≡ length es)
        → length (match_ordering o ((a, v) ∷ e ∷ es) ((e.0, v) ∷ es) (e ∷ insert_entry address_order es a v)) ≡ length (e ∷ es)
    by_order Less is there rest =
        let none : found a es ≡ None = none_above a es (above a e.0 (keys_of es) is order.0) in
        let both : is_some {T = Seen} None ≡ true = ap (λ (o : Option Seen). is_some o) (sym none) ∙ there in cc
    by_order Equal is there rest = refl
    by_order Greater is there rest = ap suc (rest there)

-- Tables.

learnt_sound : (a : Address) (v : Seen) (table : Table) → IsSound table → IsSound (learnt a v table)
learnt_sound a v table sound =
    by_tests (is_some (found a table)) (nat_lt (length table) 4096) refl refl
  where
    by_tests : (known room : Bool) → is_some (found a table) ≡ known → nat_lt (length table) 4096 ≡ room
        → IsSound (cond (known || room) (insert_entry address_order table a v) table)
    by_tests true room is left = record {
      ordered = put_ordered a v table sound.ordered;
      few = rw (put_known_long a v table sound.ordered is) sound.few;
    }
    by_tests false true is left =
        let more = put_longer a v table in
        let few : length table < 4096 = grind (arith, nat_tests) in
        record { ordered = put_ordered a v table sound.ordered; few = omega arith }
    by_tests false false is left = sound

kept_sound : (now : ℕ) (ports : List ℕ) (table : Table) → IsSound table → IsSound (kept now ports table)
kept_sound now ports table sound =
    let at = at_ports ports table in
    let fewer = filter_fewer (λ e. is_among ports e.1.port) table in
    let younger = filter_fewer (λ e. is_young now e.1.time) at in
    let few = sound.few in
    record {
      ordered = filter_ordered (λ e. is_young now e.1.time) at (filter_ordered (λ e. is_among ports e.1.port) table sound.ordered);
      few = omega arith;
    }

pub after_sound : (port : ℕ) (frame : List ℕ) (now : ℕ) (ports : List ℕ) (table : Table) → IsSound table → IsSound (table_after port frame now ports table)
after_sound port frame now ports table sound = by_test (is_from_group frame)
  where
    by_test : (b : Bool) → IsSound (cond b (kept now ports table) (learnt (source frame) (record { port = port; time = now }) (kept now ports table)))
    by_test true = kept_sound now ports table sound
    by_test false = learnt_sound (source frame) (record { port = port; time = now }) (kept now ports table) (kept_sound now ports table sound)

pub tables_are_sound : TablesAreSound
unfolding IsStrictlySortedBy
tables_are_sound [] = record { ordered = tt; few = omega arith }
tables_are_sound (c ∷ before) = after_sound c.port c.frame c.now c.ports (table_of before) (tables_are_sound before)

-- Answers.

-- each port of a table after a frame is there
port_known : (p : ℕ → Bool) (a : Address) (v : Seen) (es : Table) → p v.port ≡ true → AllByRecursion (λ e. p e.1.port ≡ true) es
    → AllByRecursion (λ e. p e.1.port ≡ true) (insert_entry address_order es a v)
port_known p a v [] here h = (here, tt)
port_known p a v (e ∷ es) here h = by_order (address_order a e.0) (port_known p a v es here h.1)
  where
    by_order : (o : Ordering) → AllByRecursion (λ e. p e.1.port ≡ true) (insert_entry address_order es a v)
        → AllByRecursion (λ e. p e.1.port ≡ true) (match_ordering o ((a, v) ∷ e ∷ es) ((e.0, v) ∷ es) (e ∷ insert_entry address_order es a v))
    by_order Less rest = (here, h)
    by_order Equal rest = (here, h.1)
    by_order Greater rest = (h.0, rest)

ports_after : (c : Call) (table : Table) → is_among c.ports c.port ≡ true
    → AllByRecursion (λ e. is_among c.ports e.1.port ≡ true) (table_after c.port c.frame c.now c.ports table)
ports_after c table here = by_test (is_from_group c.frame)
  where
    v : Seen
    v = record { port = c.port; time = c.now }

    stay : AllByRecursion (λ e. is_among c.ports e.1.port ≡ true) (kept c.now c.ports table)
    stay = filter_each (λ e. is_among c.ports e.1.port ≡ true) (λ e. is_young c.now e.1.time) (at_ports c.ports table) (filter_passed (λ e. is_among c.ports e.1.port) table)

    by_room : (b : Bool) → AllByRecursion (λ e. is_among c.ports e.1.port ≡ true)
        (cond b (insert_entry address_order (kept c.now c.ports table) (source c.frame) v) (kept c.now c.ports table))
    by_room true = port_known (is_among c.ports) (source c.frame) v (kept c.now c.ports table) here stay
    by_room false = stay

    by_test : (b : Bool) → AllByRecursion (λ e. is_among c.ports e.1.port ≡ true) (cond b (kept c.now c.ports table) (learnt (source c.frame) v (kept c.now c.ports table)))
    by_test true = stay
    by_test false = by_room (is_some (found (source c.frame) (kept c.now c.ports table)) || nat_lt (length (kept c.now c.ports table)) 4096)

-- what is found is one of the table's
found_each : (P : Seen → Type 0) (a : Address) (es : Table) (v : Seen) → AllByRecursion (λ e. P e.1) es → found a es ≡ Some v → P v
found_each P a [] v h is = cc
found_each P a (e ∷ es) v h is = by_test (is_at (address_order a) e.0) is (λ there. found_each P a es v h.1 there)
  where
    by_test : (b : Bool) → cond b (Some e.1) (found a es) ≡ Some v → (found a es ≡ Some v → P v) → P v
    by_test true e_is rest = let same : e.1 ≡ v = cc in subst P same h.0
    by_test false e_is rest = rest e_is

-- a number is among those that it is among
among_each : (all xs : List ℕ) → ((x : ℕ) → is_among xs x ≡ true → is_among all x ≡ true) → AllByRecursion (λ x. is_among all x ≡ true) xs
among_each all [] h = tt
among_each all (x ∷ xs) h = (h x (grind (arith, nat_tests)), among_each all xs (λ y e. h y (rw e (or_true (x == y)))))
  where
    or_true : (b : Bool) → (b || true) ≡ true
    or_true true = refl
    or_true false = refl

others_sound : (c : Call) (xs : List ℕ) → IsStrictlySortedBy nat_cmp xs → AllByRecursion (λ x. is_among c.ports x ≡ true) xs → IsSoundAnswer c (others c.port xs)
others_sound c xs rising open_ones = record {
  rising = numbers_ordered (λ other. not (other == c.port)) xs rising;
  open_ports = filter_each (λ x. is_among c.ports x ≡ true) (λ other. not (other == c.port)) xs open_ones;
  others = not_own (others c.port xs) (filter_passed (λ other. not (other == c.port)) xs);
}
  where
    not_own : (ys : List ℕ) → AllByRecursion (λ y. not (y == c.port) ≡ true) ys → AllByRecursion (λ y. y ≢ c.port) ys
    not_own [] h = tt
    not_own (y ∷ ys) h = (let first : not (y == c.port) ≡ true = h.0 in grind (arith, nat_tests), not_own ys h.1)

pub answers_are_sound : AnswersAreSound
unfolding IsStrictlySortedBy
answers_are_sound c before good = by_test (is_to_group c.frame)
  where
    all : IsSoundAnswer c (others c.port c.ports)
    all = others_sound c c.ports good.rising (among_each c.ports c.ports (λ x e. e))

    by_known : (o : Option Seen) → found (destination c.frame) (table_of (c ∷ before)) ≡ o → IsSoundAnswer c (toward c.port c.ports o)
    by_known None is = all
    by_known (Some v) is =
        let there : is_among c.ports v.port ≡ true =
        found_each (λ s. is_among c.ports s.port ≡ true) (destination c.frame) (table_of (c ∷ before)) v (ports_after c (table_of before) good.own) is in
        others_sound c (v.port ∷ []) (tt, tt) (there, tt)

    by_test : (b : Bool) → IsSoundAnswer c (cond b (others c.port c.ports) (toward c.port c.ports (found (destination c.frame) (table_of (c ∷ before)))))
    by_test true = all
    by_test false = by_known (found (destination c.frame) (table_of (c ∷ before))) refl

-- An address that is put in before what goes away goes.

-- it goes to the front of those that it is below
put_front : (a : Address) (v : Seen) (es : Table) → AllByRecursion (λ k. address_order a k ≡ Less) (keys_of es)
    → insert_entry address_order es a v ≡ (a, v) ∷ es
put_front a v [] h = refl
put_front a v (e ∷ es) h =
    ap (λ (o : Ordering). match_ordering o ((a, v) ∷ e ∷ es) ((e.0, v) ∷ es) (e ∷ insert_entry address_order es a v)) h.0

-- a test of what is known that the new one passes
put_then_filter : (p : Seen → Bool) (a : Address) (v : Seen) (es : Table) → p v ≡ true → AreInOrder es
    → filter (λ e. p e.1) (insert_entry address_order es a v) ≡ insert_entry address_order (filter (λ e. p e.1) es) a v
unfolding IsStrictlySortedBy
put_then_filter p a v [] here h = rw here refl
put_then_filter p a v (e ∷ es) here h = by_order (address_order a e.0) refl (p e.1) refl (put_then_filter p a v es here h.1)
  where
    rest : Table
    rest = filter (λ x. p x.1) es

    by_order : (o : Ordering) → address_order a e.0 ≡ o → (b : Bool) → p e.1 ≡ b
        → filter (λ x. p x.1) (insert_entry address_order es a v) ≡ insert_entry address_order rest a v
        → filter (λ x. p x.1) (match_ordering o ((a, v) ∷ e ∷ es) ((e.0, v) ∷ es) (e ∷ insert_entry address_order es a v))
        ≡ insert_entry address_order (filter (λ x. p x.1) (e ∷ es)) a v
    by_order Less is b test again =
        rw here (sym (put_front a v (filter (λ x. p x.1) (e ∷ es))
        (keys_each (λ k. address_order a k ≡ Less) (λ x. p x.1) (e ∷ es) (is, above a e.0 (keys_of es) is h.0))))
    by_order Equal is true test again = rw (here, test, is) refl
    by_order Equal is false test again =
        let same : a ≡ e.0 = address_exact a e.0 is in
        rw (here, test) (ap (λ (k : Address). (k, v) ∷ rest) (sym same)
        ∙ sym (put_front a v rest (subst (λ (k : Address). AllByRecursion (λ q. address_order k q ≡ Less) (keys_of rest)) (sym same)
        (keys_each (λ q. address_order e.0 q ≡ Less) (λ x. p x.1) es h.0))))
    by_order Greater is true test again = rw (test, is) (ap (λ (t : Table). e ∷ t) again)
    by_order Greater is false test again = rw test again

-- where it wasn't known, it is taken away again without a trace
put_then_taken : (a : Address) (v : Seen) (es : Table) → found a es ≡ None
    → remove_entry (is_at (address_order a)) (insert_entry address_order es a v) ≡ es
put_then_taken a v [] none =
    ap (λ (b : Bool). let t : Table = cond b [] ((a, v) ∷ []) in t) ((eq_by_cmp_equiv address_total).refl a)
put_then_taken a v (e ∷ es) none = by_order (address_order a e.0) refl none (λ there. put_then_taken a v es there)
  where
    taken : Table → Table
    taken t = remove_entry (is_at (address_order a)) t

    by_order : (o : Ordering) → address_order a e.0 ≡ o → cond (is_eq o) (Some e.1) (found a es) ≡ None
        → (found a es ≡ None → remove_entry (is_at (address_order a)) (insert_entry address_order es a v) ≡ es)
        → remove_entry (is_at (address_order a)) (match_ordering o ((a, v) ∷ e ∷ es) ((e.0, v) ∷ es) (e ∷ insert_entry address_order es a v)) ≡ e ∷ es
    by_order Less is there again =
        ap (λ (b : Bool). cond b (e ∷ es) ((a, v) ∷ remove_entry (is_at (address_order a)) (e ∷ es))) ((eq_by_cmp_equiv address_total).refl a)
    by_order Equal is there again = cc
    by_order Greater is there again =
        ap (λ (q : Ordering). cond (is_eq q) (insert_entry address_order es a v) (e ∷ remove_entry (is_at (address_order a)) (insert_entry address_order es a v))) is
        ∙ ap (λ (t : Table). e ∷ t) (again there)

-- and there is one more in between
put_new_long : (a : Address) (v : Seen) (es : Table) → found a es ≡ None → length (insert_entry address_order es a v) ≡ length es + 1
put_new_long a v [] none = refl
put_new_long a v (e ∷ es) none = by_order (address_order a e.0) none (λ there. put_new_long a v es there)
  where
    by_order : (o : Ordering) → cond (is_eq o) (Some e.1) (found a es) ≡ None
        → (found a es ≡ None → length (insert_entry address_order es a v) ≡ length es + 1)
        → length (match_ordering o ((a, v) ∷ e ∷ es) ((e.0, v) ∷ es) (e ∷ insert_entry address_order es a v)) ≡ length (e ∷ es) + 1
    by_order Less there again = omega arith
    by_order Equal there again = cc
    by_order Greater there again = let more = again there in omega arith

-- a table that isn't too long
not_trimmed : (a : Address) (t : Table) → length t ≤ 4096 → trimmed a t ≡ t
not_trimmed a t few =
    let short : nat_lt 4096 (length t) ≡ false = grind (arith, nat_tests) in
    ap (λ (b : Bool). cond b (remove_entry (is_at (address_order a)) t) t) short

none_from : (o : Option Seen) → is_some o ≡ false → o ≡ None
none_from None h = refl
none_from (Some v) h = cc

-- put in and trimmed, it is learnt
put_then_trimmed : (a : Address) (v : Seen) (t : Table) → IsSound t → trimmed a (insert_entry address_order t a v) ≡ learnt a v t
put_then_trimmed a v t sound = by_tests (is_some (found a t)) (nat_lt (length t) 4096) refl refl
  where
    few : length t ≤ 4096
    few = sound.few

    by_tests : (known room : Bool) → is_some (found a t) ≡ known → nat_lt (length t) 4096 ≡ room
        → trimmed a (insert_entry address_order t a v) ≡ cond (known || room) (insert_entry address_order t a v) t
    by_tests true room is left =
        let long = put_known_long a v t sound.ordered is in not_trimmed a (insert_entry address_order t a v) (omega arith)
    by_tests false true is left =
        let long = put_longer a v t in
        let less : length t < 4096 = grind (arith, nat_tests) in not_trimmed a (insert_entry address_order t a v) (omega arith)
    by_tests false false is left =
        let none = none_from (found a t) is in
        let long = put_new_long a v t none in
        let full : 4096 ≤ length t = grind (arith, nat_tests) in
        let over : 4096 < length (insert_entry address_order t a v) = omega arith in
        let more : nat_lt 4096 (length (insert_entry address_order t a v)) ≡ true = grind (arith, nat_tests) in
        ap (λ (b : Bool). cond b (remove_entry (is_at (address_order a)) (insert_entry address_order t a v)) (insert_entry address_order t a v)) more
        ∙ put_then_taken a v t none

-- what stays of a table into which an address was put
put_then_kept : (now : ℕ) (ports : List ℕ) (a : Address) (v : Seen) (t : Table) → is_among ports v.port ≡ true → is_young now v.time ≡ true → AreInOrder t
    → kept now ports (insert_entry address_order t a v) ≡ insert_entry address_order (kept now ports t) a v
put_then_kept now ports a v t own fresh ordered =
    ap (λ (x : Table). young now x) (put_then_filter (λ (s : Seen). is_among ports s.port) a v t own ordered)
    ∙ put_then_filter (λ (s : Seen). is_young now s.time) a v (at_ports ports t) fresh (filter_ordered (λ e. is_among ports e.1.port) t ordered)

pub steps_are_one : (port : ℕ) (frame : List ℕ) (now : ℕ) (ports : List ℕ) (table : Table) → is_among ports port ≡ true → IsSound table
    → trimmed (source frame) (kept now ports (put_from frame (record { port = port; time = now }) table)) ≡ table_after port frame now ports table
steps_are_one port frame now ports table own sound = by_test (is_from_group frame)
  where
    v : Seen
    v = record { port = port; time = now }

    fresh : is_young now now ≡ true
    fresh = grind (arith, nat_tests)

    by_test : (b : Bool) → trimmed (source frame) (kept now ports (cond b table (insert_entry address_order table (source frame) v)))
        ≡ cond b (kept now ports table) (learnt (source frame) v (kept now ports table))
    by_test true = not_trimmed (source frame) (kept now ports table) (kept_sound now ports table sound).few
    by_test false =
        ap (λ (t : Table). trimmed (source frame) t) (put_then_kept now ports (source frame) v table own fresh sound.ordered)
        ∙ put_then_trimmed (source frame) v (kept now ports table) (kept_sound now ports table sound)
