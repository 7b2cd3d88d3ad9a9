-- Lemmas about the flows as contracts see them.
use Rattle.std.proofs.Common.{◌≡◌, ◌≢◌, ℕ, ◌≤◌, Bool, cond, eqb, List, [], ◌∷◌, ◌⊎◌, None, Some, IfSome, is_some, length, sym, ap, subst, ◌∙◌, inl, inr, refl, arith}
use Rattle.std.specs.Prelude.{filter}
use Rattle.std.specs.Option.{option_map}
use Rattle.std.specs.Cmp.{nat_cmp_total}
use Rattle.std.specs.FinMap.{get, insert, empty, len, get-insert, len-entries}
use Rattle.std.proofs.lemmas.Bool.{cases_eq, eq-eqb, ne_eqb}
use Rattle.std.proofs.lemmas.List.Elements.{All-weaker, All-same, All-filter}
use Rattle.tap_flows.specs.declared.flows.Learnt.TheVariants.{Made, Renewed, Full}
use Rattle.tap_flows.specs.Flow.{Flow, FlowMap, FlowList, FlowTable}
use Rattle.tap_flows.specs.FlowList as listed
use Rattle.tap_flows.specs.Flows as mapped
use Rattle.tap_flows.specs.Laws.{flow_list}
use Rattle.tap_flows.specs.Nodes.{flow_of, contents, kept_at, IsSound, KeepsHash, listed_in}
use Rattle.tap_flows.specs.declared.table.Entry.{Entry}
use Rattle.tap_flows.specs.declared.table.Table.{Table}
use Rattle.tap_flows.proofs.RingLemmas.{length_once}
use Rattle.tap_flows.proofs.NodeLemmas.{tied, untied, get_at}
use Rattle.tap_flows.proofs.TableLemmas.{aged_node, once_aged, kept_entry}
use Rattle.tap_flows.proofs.PassLemmas.{left}
use Rattle.tap_flows.proofs.ListLemmas.{empty-list, latest-list, found-list, outcome-list, learnt-list, forgotten-list, ticked-list}

-- what the view of a table says
abbrev pub value_of : Table → ℕ → FlowTable
value_of table age = record { limit = table.limit.nodes; age = age; flows = listed_in table }

-- there are at most as many flows as nodes
pub few : (table : Table) (ages : List ℕ) → IsSound table ages → table.len ≤ table.limit.nodes
few table ages s = omega (arith, s.counted, length_once table.limit.nodes ages (λ k some. (aged_node _ _ _ _ _ _ _ ages s k some).0) (once_aged _ _ _ _ _ _ _ ages s))

-- as many as there are
pub len_is : (table : Table) (ages : List ℕ) → IsSound table ages → length (listed_in table) ≡ table.len
len_is table ages s = sym (len-entries (contents table.nodes.items)) ∙ s.filled

no_length : (flows : FlowList) → length flows ≡ 0 → flows ≡ []
no_length [] e = refl
no_length (x ∷ flows) e = absurd (omega arith)

-- none, by their number
pub none_exact : (flows : FlowList) (count : ℕ) → length flows ≡ count → (count ≡ 0 → flows ≡ []) × (flows ≡ [] → count ≡ 0)
none_exact flows count is = (λ none. no_length flows (is ∙ none), λ none. sym is ∙ ap length none)

-- a node that keeps a hash has its flow
pub found_at : (table : Table) (ages : List ℕ) (hash node : ℕ) → IsSound table ages → KeepsHash table.nodes.items hash node → (entry : Entry) × (kept_at table.nodes.items node ≡ Some entry) × (get (contents table.nodes.items) hash ≡ Some (flow_of entry))
found_at table ages hash node s keeps =
    let old = kept_entry (kept_at table.nodes.items node) (λ (e : Entry). e.hash ≡ hash) keeps in
    (old.0, old.1, ap (get (contents table.nodes.items)) (sym old.2) ∙ get_at table.nodes.items node old.0 s.distinct old.1)

-- and its queue
pub found_queue : (table : Table) (ages : List ℕ) (hash node : ℕ) → IsSound table ages → KeepsHash table.nodes.items hash node → option_map (λ (e : Entry). e.index) (kept_at table.nodes.items node) ≡ listed.found (listed_in table) hash
found_queue table ages hash node s keeps =
    let at = found_at table ages hash node s keeps in
    ap (option_map (λ (e : Entry). e.index)) at.1 ∙ sym (ap (option_map (λ (flow : Flow). flow.index)) at.2) ∙ sym (found-list (contents table.nodes.items) hash)

-- a hash that isn't there has none
pub absent_queue : (table : Table) (hash : ℕ) → get (contents table.nodes.items) hash ≡ None → listed.found (listed_in table) hash ≡ None
absent_queue table hash none = found-list (contents table.nodes.items) hash ∙ ap (option_map (λ (flow : Flow). flow.index)) none

-- learning a hash that is there renews its flow
pub renews : (table : Table) (ages : List ℕ) (limit hash node : ℕ) → IsSound table ages → KeepsHash table.nodes.items hash node → listed.learn_outcome (listed_in table) limit hash ≡ Renewed
renews table ages limit hash node s keeps =
    let at = found_at table ages hash node s keeps in
    outcome-list (contents table.nodes.items) limit hash ∙ ap (λ o. cond (is_some o) Renewed (cond (eqb (len (contents table.nodes.items)) limit) Full Made)) at.2

-- learning one that isn't there finds the table full, or makes a flow
pub new_outcome : (table : Table) (ages : List ℕ) (limit hash : ℕ) → IsSound table ages → get (contents table.nodes.items) hash ≡ None → listed.learn_outcome (listed_in table) limit hash ≡ cond (eqb table.len limit) Full Made
new_outcome table ages limit hash s none =
    outcome-list (contents table.nodes.items) limit hash
    ∙ ap (λ o. cond (is_some o) Renewed (cond (eqb (len (contents table.nodes.items)) limit) Full Made)) none
    ∙ ap (λ n. cond (eqb n limit) Full Made) s.filled

-- the flows once one was put in, where that is what learning it does
pub learnt_put : (old new : Table) (limit hash : ℕ) (flow : Flow) → (listed.learn_outcome (listed_in old) limit hash ≡ Made) ⊎ (listed.learn_outcome (listed_in old) limit hash ≡ Renewed) → contents new.nodes.items ≡ insert (contents old.nodes.items) hash flow → listed_in new ≡ listed.learnt (listed_in old) limit hash flow
learnt_put old new limit hash flow (inl made) is = ap flow_list (is ∙ sym (ap (λ o. mapped.put_in o (contents old.nodes.items) hash flow) (sym (outcome-list (contents old.nodes.items) limit hash) ∙ made))) ∙ sym (learnt-list (contents old.nodes.items) limit hash flow)
learnt_put old new limit hash flow (inr renewed) is = ap flow_list (is ∙ sym (ap (λ o. mapped.put_in o (contents old.nodes.items) hash flow) (sym (outcome-list (contents old.nodes.items) limit hash) ∙ renewed))) ∙ sym (learnt-list (contents old.nodes.items) limit hash flow)

-- a flow of now leaves no later one
latest_insert : (flows : FlowMap) (hash : ℕ) (flow : Flow) (now : ℕ) → flow.updated ≤ now → mapped.IsNotBefore now flows → mapped.IsNotBefore now (insert flows hash flow)
latest_insert flows hash flow now here before other = elim (cases_eq other hash) [
  | inl same ↦ subst (λ o. IfSome o (λ (f : Flow). f.updated ≤ now)) (sym (get-insert nat_cmp_total flows hash flow other ∙ ap (λ b. cond b (Some flow) (get flows other)) (tied other hash same))) here
  | inr apart ↦ subst (λ o. IfSome o (λ (f : Flow). f.updated ≤ now)) (sym (get-insert nat_cmp_total flows hash flow other ∙ ap (λ b. cond b (Some flow) (get flows other)) (untied other hash apart))) (before other)
]

pub latest_put : (old new : Table) (hash now : ℕ) (flow : Flow) → flow.updated ≤ now → listed.AreNotAfter now (listed_in old) → contents new.nodes.items ≡ insert (contents old.nodes.items) hash flow → listed.AreNotAfter now (listed_in new)
latest_put old new hash now flow here before is =
    (latest-list (contents new.nodes.items) now).1 (subst (mapped.IsNotBefore now) (sym is) (latest_insert (contents old.nodes.items) hash flow now here ((latest-list (contents old.nodes.items) now).0 before)))

-- what is not after a time is not after a later one
pub latest_later : (flows : FlowList) (time later : ℕ) → time ≤ later → listed.AreNotAfter time flows → listed.AreNotAfter later flows
latest_later flows time later order before = All-weaker (λ (entry : ℕ × Flow). entry.1.updated ≤ time) (λ (entry : ℕ × Flow). entry.1.updated ≤ later) (λ entry h. omega arith) flows before

pub full_outcome : (table : Table) (ages : List ℕ) (hash : ℕ) → IsSound table ages → get (contents table.nodes.items) hash ≡ None → table.len ≡ table.limit.nodes → listed.learn_outcome (listed_in table) table.limit.nodes hash ≡ Full
full_outcome table ages hash s none full = new_outcome table ages table.limit.nodes hash s none ∙ ap (λ b. cond b Full Made) (eq-eqb table.len table.limit.nodes full)

pub made_outcome : (table : Table) (ages : List ℕ) (hash : ℕ) → IsSound table ages → get (contents table.nodes.items) hash ≡ None → table.len ≢ table.limit.nodes → listed.learn_outcome (listed_in table) table.limit.nodes hash ≡ Made
made_outcome table ages hash s none room = new_outcome table ages table.limit.nodes hash s none ∙ ap (λ b. cond b Full Made) (ne_eqb table.len table.limit.nodes room)

-- a table where nothing but the flows changed
pub with_flows : (old new : Table) (age : ℕ) (was : FlowTable) (step : FlowTable → FlowList) → value_of old age ≡ was → new.limit ≡ old.limit → listed_in new ≡ step (value_of old age) → value_of new age ≡ record was { flows = step was }
with_flows old new age was step view limit flows =
    subst (λ (t : FlowTable). value_of new age ≡ record t { flows = step t }) view (λ i. record { limit = (limit i).nodes; age = age; flows = flows i })

-- a full one, as it is
pub full_same : (was : FlowTable) (hash : ℕ) (flow : Flow) → listed.learn_outcome was.flows was.limit hash ≡ Full → was ≡ record was { flows = listed.learnt was.flows was.limit hash flow }
full_same was hash flow full = ap (λ outcome. record was { flows = listed.put_in outcome was.flows hash flow }) (sym full)

pub forgotten_listed : (old new : Table) (index : ℕ) → contents new.nodes.items ≡ mapped.forgotten (contents old.nodes.items) index → listed_in new ≡ listed.forgotten (listed_in old) index
forgotten_listed old new index is = ap flow_list is ∙ sym (forgotten-list (contents old.nodes.items) index)

pub ticked_listed : (old new : Table) (age now : ℕ) → contents new.nodes.items ≡ mapped.ticked (contents old.nodes.items) age now → listed_in new ≡ listed.ticked (listed_in old) age now
ticked_listed old new age now is = ap flow_list is ∙ sym (ticked-list (contents old.nodes.items) age now)

-- what is left of flows was not updated later than they were
pub latest_left : (flows left : FlowList) (test : ℕ × Flow → Bool) (time : ℕ) → left ≡ filter test flows → listed.AreNotAfter time flows → listed.AreNotAfter time left
latest_left flows left test time is before = All-same (λ (entry : ℕ × Flow). entry.1.updated ≤ time) left (filter test flows) is (All-filter test (λ (entry : ℕ × Flow). entry.1.updated ≤ time) flows before)

-- a new table
pub new_value : (table : Table) (limit age : ℕ) → table.limit.nodes ≡ limit → contents table.nodes.items ≡ empty → value_of table age ≡ record { limit = limit; age = age; flows = [] }
new_value table limit age is none =
    let flows : listed_in table ≡ [] = ap flow_list none ∙ empty-list in
    λ i. record { limit = is i; age = age; flows = flows i }
