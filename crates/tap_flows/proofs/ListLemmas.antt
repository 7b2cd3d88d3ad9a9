-- The list of the flows, which is in order, beside the map.
use Rattle.std.proofs.Common.{◌≡◌, ℕ, ◌+◌, ◌≤◌, Bool, true, false, cond, eqb, ltb, not, ◌&&◌, [], ◌∷◌, length, None, Some, IfSome, is_some, sym, ap, subst, ◌∙◌, refl, arith}
use Rattle.std.specs.Prelude.{T, filter, ◌↔◌}
use Rattle.std.specs.List.{AllByRecursion}
use Rattle.std.specs.Option.{option_map}
use Rattle.std.specs.Ordering.{nat_cmp, eq_by_cmp, is_lt, is_eq}
use Rattle.std.specs.declared.cmp.Ordering.{Ordering}
use Rattle.std.specs.declared.cmp.Ordering.TheVariants.{Less, Equal, Greater}
use Rattle.std.specs.Cmp.{nat_cmp_total}
use Rattle.std.specs.FinMap.{get, empty, find, is_sorted, entries, entries_sorted, entries-insert, entries-from_sorted, from_sorted, get-entries, len-entries, len-empty, get-from_sorted, same_map, nat_cmp-IsAntisymmetric}
use Rattle.std.specs.FinMap.Entries.{below_all}
use Rattle.std.proofs.lemmas.List.Elements.{All-from_recursion, recursion_from_All}
use Rattle.tap_flows.specs.declared.flows.Learnt.{Learnt}
use Rattle.tap_flows.specs.declared.flows.Learnt.TheVariants.{Made, Renewed, Full}
use Rattle.tap_flows.specs.Flow.{Flow, FlowMap, FlowList}
use Rattle.tap_flows.specs.FlowList as listed
use Rattle.tap_flows.specs.Flows as mapped
use Rattle.tap_flows.specs.Laws.{flow_list}
use Rattle.tap_flows.proofs.NodeLemmas.{tied}
use Rattle.tap_flows.proofs.PassLemmas.{left, get-passing}

-- a test that holds, in its two forms
is_true : (b : Bool) → T b → b ≡ true
is_true true h = refl
is_true false h = absurd h

true_is : (b : Bool) → b ≡ true → T b
true_is b h = subst T (sym h) tt

first_of_two : (a b : Bool) → T (a && b) → T a
first_of_two true b h = tt
first_of_two false b h = absurd h

second_of_two : (a b : Bool) → T (a && b) → T b
second_of_two true b h = h
second_of_two false b h = absurd h

two_hold : (a b : Bool) → T a → T b → T (a && b)
two_hold true b h k = k
two_hold false b h k = absurd h

-- a hash below another isn't it
apart : (o : Ordering) → T (is_lt o) → is_eq o ≡ false
apart Less h = refl
apart Equal h = absurd h
apart Greater h = absurd h

tie : (o : Ordering) → is_eq o ≡ true → o ≡ Equal
tie Less h = absurd (true_is false h)
tie Equal h = refl
tie Greater h = absurd (true_is false h)

-- a hash below all of a list isn't found in it
find_below : (q : ℕ) (es : FlowList) → T (below_all nat_cmp q es) → find nat_cmp q es ≡ None
find_below q [] h = refl
find_below q (e ∷ es) h = ap (λ b. cond b (Some e.1) (find nat_cmp q es)) (apart (nat_cmp q e.0) (first_of_two _ _ h)) ∙ find_below q es (second_of_two _ _ h)

-- the first of a list in order isn't found again
find_again : (q : ℕ) (e : ℕ × Flow) (es : FlowList) → eq_by_cmp nat_cmp q e.0 ≡ true → T (is_sorted nat_cmp (e ∷ es)) → find nat_cmp q es ≡ None
find_again q e es same h =
    let is : q ≡ e.0 = nat_cmp-IsAntisymmetric q e.0 (tie (nat_cmp q e.0) same) in
    ap (λ k. find nat_cmp k es) is ∙ find_below e.0 es (first_of_two _ _ h)

module _ (test : Flow → Bool) where
  passing_list : FlowList → FlowList
  passing_list es = filter (λ entry. test entry.1) es

  below_passing : (q : ℕ) (es : FlowList) → T (below_all nat_cmp q es) → T (below_all nat_cmp q (passing_list es))
  unfolding passing_list
  below_passing q [] h = tt
  below_passing q (e ∷ es) h =
      let rest = below_passing q es (second_of_two _ _ h) in
      elim (test e.1) as (λ b. T (below_all nat_cmp q (cond b (e ∷ passing_list es) (passing_list es)))) [ true ↦ two_hold _ _ (first_of_two _ _ h) rest | false ↦ rest ]

  sorted_passing : (es : FlowList) → T (is_sorted nat_cmp es) → T (is_sorted nat_cmp (passing_list es))
  unfolding passing_list
  sorted_passing [] h = tt
  sorted_passing (e ∷ es) h =
      let rest = sorted_passing es (second_of_two _ _ h) in
      elim (test e.1) as (λ b. T (is_sorted nat_cmp (cond b (e ∷ passing_list es) (passing_list es)))) [ true ↦ two_hold _ _ (below_passing e.0 es (first_of_two _ _ h)) rest | false ↦ rest ]

  -- what is left of a flow
  find_passing : (q : ℕ) (es : FlowList) → T (is_sorted nat_cmp es) → find nat_cmp q (passing_list es) ≡ left test (find nat_cmp q es)
  unfolding passing_list left
  find_passing q [] h = refl
  find_passing q (e ∷ es) h =
      let rest = find_passing q es (second_of_two _ _ h) in
      elim (eq_by_cmp nat_cmp q e.0) as (λ t. eq_by_cmp nat_cmp q e.0 ≡ t → find nat_cmp q (cond (test e.1) (e ∷ passing_list es) (passing_list es)) ≡ left test (cond t (Some e.1) (find nat_cmp q es))) [
        | true ↦ λ same. elim (test e.1) as (λ b. find nat_cmp q (cond b (e ∷ passing_list es) (passing_list es)) ≡ cond b (Some e.1) None) [
          | true ↦ ap (λ t. cond t (Some e.1) (find nat_cmp q (passing_list es))) same
          | false ↦ rest ∙ ap (left test) (find_again q e es same h)
        ]
        | false ↦ λ other. elim (test e.1) as (λ b. find nat_cmp q (cond b (e ∷ passing_list es) (passing_list es)) ≡ left test (find nat_cmp q es)) [
          | true ↦ ap (λ t. cond t (Some e.1) (find nat_cmp q (passing_list es))) other ∙ rest
          | false ↦ rest
        ]
      ] refl

  pub entries-passing : (flows : FlowMap) → filter (λ entry. test entry.1) (flow_list flows) ≡ flow_list (mapped.passing test flows)
  unfolding passing_list
  entries-passing flows =
      let es : FlowList = passing_list (entries flows) in
      let sorted = sorted_passing (entries flows) (entries_sorted flows) in
      let same : from_sorted {R = nat_cmp} (passing_list (entries flows)) ≡ mapped.passing test flows = same_map nat_cmp_total nat_cmp-IsAntisymmetric _ _ (λ q.
      get-from_sorted nat_cmp (passing_list (entries flows)) q sorted
      ∙ find_passing q (entries flows) (entries_sorted flows)
      ∙ ap (left test) (sym (get-entries flows q))
      ∙ sym (get-passing test flows q)) in
      sym (entries-from_sorted nat_cmp (passing_list (entries flows)) sorted) ∙ ap entries same

-- what is found was not updated later
found_latest : (time q : ℕ) (es : FlowList) → AllByRecursion (λ (entry : ℕ × Flow). entry.1.updated ≤ time) es → IfSome (find nat_cmp q es) (λ (flow : Flow). flow.updated ≤ time)
found_latest time q [] h = tt
found_latest time q (e ∷ es) h = elim (eq_by_cmp nat_cmp q e.0) as (λ t. IfSome (cond t (Some e.1) (find nat_cmp q es)) (λ (flow : Flow). flow.updated ≤ time)) [ true ↦ h.0 | false ↦ found_latest time q es h.1 ]

-- where nothing that is found was, nothing in the list was
all_latest : (time : ℕ) (es : FlowList) → T (is_sorted nat_cmp es) → ((q : ℕ) → IfSome (find nat_cmp q es) (λ (flow : Flow). flow.updated ≤ time)) → AllByRecursion (λ (entry : ℕ × Flow). entry.1.updated ≤ time) es
all_latest time [] h found = tt
all_latest time (e ∷ es) h found =
    let here : IfSome (cond true (Some e.1) (find nat_cmp e.0 es)) (λ (flow : Flow). flow.updated ≤ time) =
    subst (λ t. IfSome (cond t (Some e.1) (find nat_cmp e.0 es)) (λ (flow : Flow). flow.updated ≤ time)) (tied e.0 e.0 refl) (found e.0) in (
      here,
      all_latest time es (second_of_two _ _ h) (λ q. elim (eq_by_cmp nat_cmp q e.0) as (λ t. eq_by_cmp nat_cmp q e.0 ≡ t → IfSome (find nat_cmp q es) (λ (flow : Flow). flow.updated ≤ time)) [
        | true ↦ λ same. subst (λ o. IfSome o (λ (flow : Flow). flow.updated ≤ time)) (sym (find_again q e es same h)) tt
        | false ↦ λ other. subst (λ t. IfSome (cond t (Some e.1) (find nat_cmp q es)) (λ (flow : Flow). flow.updated ≤ time)) other (found q)
      ] refl),
    )

-- no flow of the list was updated later exactly where none of the map was
pub latest-list : (flows : FlowMap) (time : ℕ) → listed.AreNotAfter time (flow_list flows) ↔ mapped.IsNotBefore time flows
latest-list flows time = (
  λ all hash. subst (λ o. IfSome o (λ (flow : Flow). flow.updated ≤ time)) (sym (get-entries flows hash)) (found_latest time hash (entries flows) (recursion_from_All (λ (entry : ℕ × Flow). entry.1.updated ≤ time) (entries flows) all)),
  λ before. All-from_recursion (λ (entry : ℕ × Flow). entry.1.updated ≤ time) (entries flows) (all_latest time (entries flows) (entries_sorted flows) (λ hash. subst (λ o. IfSome o (λ (flow : Flow). flow.updated ≤ time)) (get-entries flows hash) (before hash))),
)

pub found-list : (flows : FlowMap) (hash : ℕ) → listed.found (flow_list flows) hash ≡ mapped.found flows hash
found-list flows hash = ap (option_map (λ (flow : Flow). flow.index)) (sym (get-entries flows hash))

pub outcome-list : (flows : FlowMap) (limit hash : ℕ) → listed.learn_outcome (flow_list flows) limit hash ≡ mapped.learn_outcome flows limit hash
outcome-list flows limit hash =
    ap (λ o. cond (is_some o) Renewed (cond (eqb (length (entries flows)) limit) Full Made)) (sym (get-entries flows hash))
    ∙ ap (λ n. cond (is_some (get flows hash)) Renewed (cond (eqb n limit) Full Made)) (sym (len-entries flows))

put_in-list : (outcome : Learnt) (flows : FlowMap) (hash : ℕ) (flow : Flow) → listed.put_in outcome (flow_list flows) hash flow ≡ flow_list (mapped.put_in outcome flows hash flow)
put_in-list Made flows hash flow = sym (entries-insert nat_cmp_total flows hash flow)
put_in-list Renewed flows hash flow = sym (entries-insert nat_cmp_total flows hash flow)
put_in-list Full flows hash flow = refl

pub learnt-list : (flows : FlowMap) (limit hash : ℕ) (flow : Flow) → listed.learnt (flow_list flows) limit hash flow ≡ flow_list (mapped.learnt flows limit hash flow)
learnt-list flows limit hash flow =
    ap (λ outcome. listed.put_in outcome (flow_list flows) hash flow) (outcome-list flows limit hash) ∙ put_in-list (mapped.learn_outcome flows limit hash) flows hash flow

pub forgotten-list : (flows : FlowMap) (index : ℕ) → listed.forgotten (flow_list flows) index ≡ flow_list (mapped.forgotten flows index)
forgotten-list flows index = entries-passing (λ flow. not (eqb flow.index index)) flows

pub ticked-list : (flows : FlowMap) (age now : ℕ) → listed.ticked (flow_list flows) age now ≡ flow_list (mapped.ticked flows age now)
ticked-list flows age now = entries-passing (λ flow. ltb now (flow.updated + age)) flows

no_length : (es : FlowList) → length es ≡ 0 → es ≡ []
no_length [] e = refl
no_length (x ∷ es) e = absurd (omega arith)

-- no flows, as a list
pub empty-list : flow_list empty ≡ []
empty-list = no_length (entries empty) (sym (len-entries empty) ∙ len-empty nat_cmp Flow)

-- a list in order, by its test
pub in_order : (flows : FlowMap) → listed.AreInOrder (flow_list flows)
in_order flows = is_true _ (entries_sorted flows)

pub some_map : (es : FlowList) → listed.AreInOrder es → (from : FlowMap) × (flow_list from ≡ es)
some_map es sorted = (from_sorted es, entries-from_sorted nat_cmp es (true_is _ sorted))
