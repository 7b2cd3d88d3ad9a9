-- A table and its times, by what they know of each address.
use Rattle.std.proofs.Common.{◌≡◌, ℕ, ◌≤◌, ◌≢◌, Bool, true, false, cond, List, [], ◌∷◌, length, filter, Option, None, Some, refl, sym, ap, subst, ◌∙◌, arith}
use Rattle.std.specs.Prelude.{IfSome}
use Rattle.std.specs.List.{list_any, AllByRecursion}
use Rattle.std.specs.Ordering.{nat_cmp}
use Rattle.std.specs.Cmp.{IsTotalOrder, nat_cmp_total, on_total, then_total, eq_by_cmp_equiv}
use Rattle.std.specs.Cmp.Lexicographic.{nat_list_cmp_total}
use Rattle.std.specs.BTreeMap.{BTreeMap, is_at}
use Rattle.std.specs.Map.{lookup, remove_entry, keys_of}
use Rattle.std.proofs.lemmas.Map.Lookups.{CmpEqualImpliesEq, exact_unsigned, exact_bytes, exact_pairs}
use Rattle.std.proofs.lemmas.Map.Views.{All-found, tells_apart, any-filter_same}
use Rattle.std.proofs.lemmas.Bool.Decides.{nat_tests}
use Rattle.std.proofs.lemmas.Map.Entries.{lookup-filter-values, option_filter}
use Rattle.std.proofs.lemmas.Map.Keys.{IsDistinct-from_sorted}
use Rattle.std.proofs.lemmas.List.Elements.{recursion_from_All}
use Rattle.tap_bridge.specs.declared.address.Address.{Address}
use Rattle.tap_bridge.specs.declared.address.Seen.{Seen}
use Rattle.tap_bridge.specs.Bridge.{Table, address_order, found, is_young, young, is_among}
use Rattle.tap_bridge.specs.Kept.{time_order, has_time, StandAt, AreInOrder, AreAt, IsPartOf}
use Rattle.tap_bridge.specs.Steps.{without_known, without_stale, is_time_of}

-- The two orders.

pub address_total : IsTotalOrder address_order
address_total = on_total (λ (a : Address). a.bytes) nat_list_cmp_total

pub address_exact : CmpEqualImpliesEq address_order
address_exact a b h =
    let of : List ℕ → Address = λ (bs : List ℕ). record { bytes = bs } in ap of (exact_bytes a.bytes b.bytes h)

pub time_total : IsTotalOrder time_order
time_total =
    then_total (on_total (λ (p : ℕ × Address). p.0) nat_cmp_total) (on_total (λ (p : ℕ × Address). p.1) address_total)

pub time_exact : CmpEqualImpliesEq time_order
time_exact = exact_pairs nat_cmp address_order exact_unsigned address_exact

pub same_address : (a b : Address) → is_at (address_order a) b ≡ true → a ≡ b
same_address a b h = tells_apart address_exact a b h

pub same_time : (p q : ℕ × Address) → is_at (time_order p) q ≡ true → p ≡ q
same_time p q h = tells_apart time_exact p q h

pub time_itself : (p : ℕ × Address) → is_at (time_order p) p ≡ true
time_itself p = (eq_by_cmp_equiv time_total).refl p

-- Parts of tables.

pub part_trans : (a b c : Table) → IsPartOf a b → IsPartOf b c → IsPartOf a c
part_trans a b c f g address seen h = f address seen (g address seen h)

-- a filter by what is known is a part
pub filter_part : (p : Seen → Bool) (table : Table) → AreInOrder table → IsPartOf table (filter (λ entry. p entry.1) table)
filter_part p table order address seen h =
    by_known (found address table)
    (sym (lookup-filter-values (eq_by_cmp_equiv address_total) p address table (IsDistinct-from_sorted address_order (keys_of table) order)) ∙ h)
  where
    by_test : (b : Bool) (s : Seen) → cond b (Some s) None ≡ Some seen → Some s ≡ Some seen
    by_test true s e = e
    by_test false s e = cc

    by_known : (o : Option Seen) → option_filter p o ≡ Some seen → o ≡ Some seen
    by_known None e = cc
    by_known (Some s) e = by_test (p s) s e

-- what is known after it passes
pub filter_known : (p : Seen → Bool) (table : Table) → AreInOrder table
    → (address : Address) (seen : Seen) → found address (filter (λ entry. p entry.1) table) ≡ Some seen → p seen ≡ true
filter_known p table order address seen h =
    by_known (found address table)
    (sym (lookup-filter-values (eq_by_cmp_equiv address_total) p address table (IsDistinct-from_sorted address_order (keys_of table) order)) ∙ h)
  where
    by_test : (b : Bool) (s : Seen) → p s ≡ b → cond b (Some s) None ≡ Some seen → p seen ≡ true
    by_test true s is e = let same : s ≡ seen = cc in subst (λ (x : Seen). p x ≡ true) same is
    by_test false s is e = cc

    by_known : (o : Option Seen) → option_filter p o ≡ Some seen → p seen ≡ true
    by_known None e = cc
    by_known (Some s) e = by_test (p s) s refl e

-- a filter leaves no more
pub filter_fewer : (p : Address × Seen → Bool) (es : Table) → length (filter p es) ≤ length es
filter_fewer p [] = omega arith
filter_fewer p (e ∷ es) = by_test (p e) (filter_fewer p es)
  where
    by_test : (b : Bool) → length (filter p es) ≤ length es → length (cond b (e ∷ filter p es) (filter p es)) ≤ length (e ∷ es)
    by_test true h = omega arith
    by_test false h = omega arith

-- a filter that all pass
filter_all : (p : Seen → Bool) (es : Table) → AllByRecursion (λ e. p e.1 ≡ true) es → filter (λ e. p e.1) es ≡ es
filter_all p [] h = refl
filter_all p (e ∷ es) h = rw h.0 (ap (λ (rest : Table). e ∷ rest) (filter_all p es h.1))

by_each : (P Q : Address × Seen → Type 0) → ((e : Address × Seen) → P e → Q e) → (es : Table) → AllByRecursion P es → AllByRecursion Q es
by_each P Q f [] h = tt
by_each P Q f (e ∷ es) h = (f e h.0, by_each P Q f es h.1)

pub all_stay : (p : Seen → Bool) (m : BTreeMap Address Seen) → AreInOrder m.entries
    → ((address : Address) (seen : Seen) → found address m.entries ≡ Some seen → p seen ≡ true)
    → filter (λ entry. p entry.1) m.entries ≡ m.entries
all_stay p m order h =
    filter_all p m.entries
    (by_each (λ e. found e.0 m.entries ≡ Some e.1) (λ e. p e.1 ≡ true) (λ e f. h e.0 e.1 f) m.entries
    (recursion_from_All (λ e. found e.0 m.entries ≡ Some e.1) m.entries (All-found address_total m order)))

-- Times.

-- a time that stands there is young, where all are
pub young_there : (now : ℕ) (times : List (ℕ × Address)) (p : ℕ × Address)
    → AllByRecursion (λ first. is_young now first.0 ≡ true) times → list_any (is_at (time_order p)) times ≡ true → is_young now p.0 ≡ true
young_there now [] p all h = cc
young_there now (q ∷ qs) p all h = by_test (is_at (time_order p) q) refl (λ rest. young_there now qs p all.1 rest)
  where
    by_test : (b : Bool) → is_at (time_order p) q ≡ b → (list_any (is_at (time_order p)) qs ≡ true → is_young now p.0 ≡ true)
        → is_young now p.0 ≡ true
    by_test true e rest = subst (λ (r : ℕ × Address). is_young now r.0 ≡ true) (sym (same_time p q e)) all.0
    by_test false e rest = rest (rw e at h)

-- all are young, where all times are
pub all_young : (now : ℕ) (times : List (ℕ × Address)) (m : BTreeMap Address Seen) → AreInOrder m.entries → StandAt times m.entries
    → AllByRecursion (λ first. is_young now first.0 ≡ true) times → young now m.entries ≡ m.entries
all_young now times m order timed all =
    all_stay (λ (seen : Seen). is_young now seen.time) m order
    (λ address seen h. young_there now times (seen.time, address) all (timed address seen h))

-- an old time is taken away, with its address
pub popped : (now : ℕ) (times rest : List (ℕ × Address)) (first : ℕ × Address) (old new : Table)
    → times ≡ first ∷ rest → is_young now first.0 ≡ false → IsPartOf old new
    → IfSome (found first.1 new) (λ seen. is_young now seen.time ≡ true) → StandAt times old → StandAt rest new
popped now times rest first old new at late part left timed address seen h =
    by_test (is_at (time_order (seen.time, address)) first) refl
    (subst (λ (ts : List (ℕ × Address)). has_time ts seen.time address ≡ true) at (timed address seen (part address seen h)))
  where
    by_test : (b : Bool) → is_at (time_order (seen.time, address)) first ≡ b → has_time (first ∷ rest) seen.time address ≡ true
        → has_time rest seen.time address ≡ true
    by_test true e there =
        let same = same_time (seen.time, address) first e in
        let here : found first.1 new ≡ Some seen = ap (λ (p : ℕ × Address). found p.1 new) (sym same) ∙ h in
        let soon : is_young now seen.time ≡ true =
        subst (λ (o : Option Seen). IfSome o (λ s. is_young now s.time ≡ true)) here left in
        let both : true ≡ false = sym soon ∙ ap (λ (p : ℕ × Address). is_young now p.0) same ∙ late in cc
    by_test false e there = rw e at there

-- a table without one that is old has the same young ones
without_late : (now : ℕ) (test : Address → Bool) (es : Table) (seen : Seen) → lookup test es ≡ Some seen → is_young now seen.time ≡ false
    → young now (remove_entry test es) ≡ young now es
without_late now test [] seen h late = refl
without_late now test (e ∷ es) seen h late = by_test (test e.0) refl h (λ there. without_late now test es seen there late)
  where
    by_test : (b : Bool) → test e.0 ≡ b → cond (test e.0) (Some e.1) (lookup test es) ≡ Some seen
        → (lookup test es ≡ Some seen → young now (remove_entry test es) ≡ young now es)
        → young now (cond (test e.0) es (e ∷ remove_entry test es)) ≡ young now (e ∷ es)
    by_test true is found_here rest =
        let one : Some e.1 ≡ Some seen = rw is at found_here in
        let here : e.1 ≡ seen = cc in
        let old : is_young now e.1.time ≡ false = ap (λ (s : Seen). is_young now s.time) here ∙ late in
        rw (is, old) refl
    by_test false is found_here rest =
        let there : lookup test es ≡ Some seen = rw is at found_here in
        rw (is, rest there) refl

pub stale_gone : (now : ℕ) (address : Address) (table : Table) → young now (without_stale now address table) ≡ young now table
stale_gone now address table = by_known (found address table) refl
  where
    by_test : (seen : Seen) (b : Bool) → found address table ≡ Some seen → is_young now seen.time ≡ b
        → young now (cond (is_young now seen.time) table (remove_entry (is_at (address_order address)) table)) ≡ young now table
    by_test seen true is age = rw age refl
    by_test seen false is age = rw age (without_late now (is_at (address_order address)) table seen is age)

    by_known : (o : Option Seen) → found address table ≡ o → young now (without_known now address (found address table) table) ≡ young now table
    by_known None is = rw is refl
    by_known (Some seen) is = rw is (by_test seen (is_young now seen.time) is refl)

-- two times of one address, where one of them is another's
apart_times : (address other : Address) (before time : ℕ) → before ≢ time → is_at (time_order (before, address)) (time, other) ≡ false
apart_times address other before time apart = by_test (is_at (time_order (before, address)) (time, other)) refl
  where
    by_test : (b : Bool) → is_at (time_order (before, address)) (time, other) ≡ b → is_at (time_order (before, address)) (time, other) ≡ false
    by_test true e = absurd (apart (ap (λ (p : ℕ × Address). p.0) (same_time (before, address) (time, other) e)))
    by_test false e = e

-- times of two addresses
apart_addresses : (address other : Address) (before time : ℕ) → is_at (address_order address) other ≡ false
    → is_at (time_order (before, address)) (time, other) ≡ false
apart_addresses address other before time apart = by_test (is_at (time_order (before, address)) (time, other)) refl
  where
    by_test : (b : Bool) → is_at (time_order (before, address)) (time, other) ≡ b → is_at (time_order (before, address)) (time, other) ≡ false
    by_test true e =
        let same : address ≡ other = ap (λ (p : ℕ × Address). p.1) (same_time (before, address) (time, other) e) in
        let here : is_at (address_order address) other ≡ true =
        subst (λ (a : Address). is_at (address_order address) a ≡ true) same ((eq_by_cmp_equiv address_total).refl address) in
        let both : true ≡ false = sym here ∙ apart in cc
    by_test false e = e

-- a time is put in
pub time_put : (address : Address) (time : ℕ) (t0 t1 : List (ℕ × Address)) (table : Table) → StandAt t0 table
    → ((q : ℕ × Address) → has_time t1 q.0 q.1 ≡ cond (is_at (time_order (time, address)) q) true (has_time t0 q.0 q.1))
    → StandAt t1 table
time_put address time t0 t1 table timed put other seen h =
    by_test (is_at (time_order (time, address)) (seen.time, other)) (put (seen.time, other))
  where
    by_test : (b : Bool) → has_time t1 seen.time other ≡ cond b true (has_time t0 seen.time other) → has_time t1 seen.time other ≡ true
    by_test true e = e
    by_test false e = e ∙ timed other seen h

-- and an address with it
pub address_put : (address : Address) (seen : Seen) (t0 t1 : List (ℕ × Address)) (old new : Table) → StandAt t0 old
    → ((q : ℕ × Address) → has_time t1 q.0 q.1 ≡ cond (is_at (time_order (seen.time, address)) q) true (has_time t0 q.0 q.1))
    → ((q : Address) → found q new ≡ cond (is_at (address_order address) q) (Some seen) (found q old))
    → StandAt t1 new
address_put address seen t0 t1 old new timed put learnt other known h =
    by_test (is_at (address_order address) other) refl (sym (learnt other) ∙ h)
  where
    by_test : (b : Bool) → is_at (address_order address) other ≡ b
        → cond (is_at (address_order address) other) (Some seen) (found other old) ≡ Some known → has_time t1 known.time other ≡ true
    by_test true e is =
        let one : Some seen ≡ Some known = rw e at is in
        let same : seen ≡ known = cc in
        let here : (seen.time, address) ≡ (known.time, other) =
        ap (λ (s : Seen). (s.time, address)) same ∙ ap (λ (a : Address). (known.time, a)) (same_address address other e) in
        let itself : is_at (time_order (seen.time, address)) (known.time, other) ≡ true =
        subst (λ (p : ℕ × Address). is_at (time_order (seen.time, address)) p ≡ true) here (time_itself (seen.time, address)) in
        put (known.time, other) ∙ ap (λ (b : Bool). cond b true (has_time t0 known.time other)) itself
    by_test false e is =
        let there : found other old ≡ Some known = rw e at is in
        time_put address seen.time t0 t1 old timed put other known there

-- a time of an address is taken away, at which it doesn't stand
pub time_taken : (address : Address) (before : ℕ) (t1 t2 : List (ℕ × Address)) (table : Table) → StandAt t1 table
    → ((q : ℕ × Address) → has_time t2 q.0 q.1 ≡ cond (is_at (time_order (before, address)) q) false (has_time t1 q.0 q.1))
    → ((seen : Seen) → found address table ≡ Some seen → before ≢ seen.time)
    → StandAt t2 table
time_taken address before t1 t2 table timed taken apart other seen h =
    taken (seen.time, other)
    ∙ ap (λ (b : Bool). cond b false (has_time t1 seen.time other)) (by_test (is_at (address_order address) other) refl)
    ∙ timed other seen h
  where
    by_test : (b : Bool) → is_at (address_order address) other ≡ b → is_at (time_order (before, address)) (seen.time, other) ≡ false
    by_test true e =
        apart_times address other before seen.time
        (apart seen (ap (λ (a : Address). found a table) (same_address address other e) ∙ h))
    by_test false e = apart_addresses address other before seen.time e

-- what is known of an address that was put in
pub put_known : (address : Address) (seen : Seen) (old new : Table)
    → ((q : Address) → found q new ≡ cond (is_at (address_order address) q) (Some seen) (found q old)) → found address new ≡ Some seen
put_known address seen old new learnt =
    learnt address ∙ ap (λ (b : Bool). cond b (Some seen) (found address old)) ((eq_by_cmp_equiv address_total).refl address)

-- a port is put in with it
pub port_put : (address : Address) (seen : Seen) (ports : List ℕ) (old new : Table)
    → ((q : Address) → found q new ≡ cond (is_at (address_order address) q) (Some seen) (found q old))
    → is_among ports seen.port ≡ true → AreAt ports old → AreAt ports new
port_put address seen ports old new learnt here at other known h =
    by_test (is_at (address_order address) other) (sym (learnt other) ∙ h)
  where
    by_test : (b : Bool) → cond b (Some seen) (found other old) ≡ Some known → is_among ports known.port ≡ true
    by_test true is =
        let same : seen ≡ known = cc in subst (λ (s : Seen). is_among ports s.port ≡ true) same here
    by_test false is = at other known is

-- an address is taken away
pub taken_part : (address : Address) (old new : Table)
    → ((q : Address) → found q new ≡ cond (is_at (address_order address) q) None (found q old)) → IsPartOf old new
taken_part address old new taken other seen h = by_test (is_at (address_order address) other) (sym (taken other) ∙ h)
  where
    by_test : (b : Bool) → cond b None (found other old) ≡ Some seen → found other old ≡ Some seen
    by_test true is = cc
    by_test false is = is

-- the times that addresses have
pub times_kept : (times : List (ℕ × Address)) (table : Table) → StandAt times table → StandAt (filter (is_time_of table) times) table
times_kept times table timed address seen h =
    any-filter_same (is_at (time_order (seen.time, address))) (is_time_of table) true
    (λ p e. subst (λ (q : ℕ × Address). is_time_of table q ≡ true) (same_time (seen.time, address) p e) itself) times
    ∙ timed address seen h
  where
    itself : is_time_of table (seen.time, address) ≡ true
    itself = rw h (grind (arith, nat_tests))

-- where an address isn't known, none of its times stands there
pub time_of_none : (address : Address) (time : ℕ) (t1 t2 : List (ℕ × Address)) (table : Table) → StandAt t1 table
    → ((q : ℕ × Address) → has_time t2 q.0 q.1 ≡ cond (is_at (time_order (time, address)) q) false (has_time t1 q.0 q.1))
    → found address table ≡ None → StandAt t2 table
time_of_none address time t1 t2 table timed taken none =
    time_taken address time t1 t2 table timed taken (λ seen h. let both : None ≡ Some seen = sym none ∙ h in cc)
