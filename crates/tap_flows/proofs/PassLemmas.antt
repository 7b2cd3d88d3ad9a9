-- Lemmas about the flows that pass a test.
use Rattle.std.proofs.Common.{◌≡◌, ℕ, Bool, true, false, cond, List, set, Option, None, Some, sym, ap, ◌∙◌, inl, inr, refl}
use Rattle.std.specs.Option.{option_map_or}
use Rattle.std.specs.Cmp.{nat_cmp_total}
use Rattle.std.specs.FinMap.{get, remove, get-retain_keys, get-remove, same_map, nat_cmp-IsAntisymmetric}
use Rattle.std.proofs.lemmas.Bool.{cases_eq}
use Rattle.tap_flows.specs.Flow.{Flow, FlowMap}
use Rattle.tap_flows.specs.Flows.{passing}
use Rattle.tap_flows.specs.Nodes.{flow_of, contents, kept_at, AreDistinct}
use Rattle.tap_flows.specs.declared.table.Entry.{Entry}
use Rattle.tap_flows.proofs.NodeLemmas.{tied, untied, get_at, node_of, contents_take}

-- what is left of a flow
unfoldable pub left : (Flow → Bool) → Option Flow → Option Flow
left test found = cond (option_map_or test found false) found None

pub get-passing : (test : Flow → Bool) (flows : FlowMap) (hash : ℕ) → get (passing test flows) hash ≡ left test (get flows hash)
unfolding left
get-passing test flows hash = get-retain_keys flows (λ k. option_map_or test (get flows k) false) hash (λ other same. ap (λ k. option_map_or test (get flows k) false) (sym (nat_cmp-IsAntisymmetric hash other same)))

left_all : (test : Flow → Bool) (found : Option Flow) → ((flow : Flow) → found ≡ Some flow → test flow ≡ true) → left test found ≡ found
unfolding left
left_all test None all = refl
left_all test (Some flow) all = ap (λ b. cond b (Some flow) None) (all flow refl)

-- flows that all pass stay as they are
pub passing_all : (test : Flow → Bool) (flows : FlowMap) → ((hash : ℕ) (flow : Flow) → get flows hash ≡ Some flow → test flow ≡ true) → passing test flows ≡ flows
passing_all test flows all = same_map nat_cmp_total nat_cmp-IsAntisymmetric (passing test flows) flows (λ hash. get-passing test flows hash ∙ left_all test (get flows hash) (all hash))

-- a flow that doesn't pass may go before
pub passing_remove : (test : Flow → Bool) (flows : FlowMap) (hash : ℕ) (flow : Flow) → get flows hash ≡ Some flow → test flow ≡ false → passing test (remove flows hash) ≡ passing test flows
unfolding left
passing_remove test flows hash flow found fails = same_map nat_cmp_total nat_cmp-IsAntisymmetric (passing test (remove flows hash)) (passing test flows) (λ other.
    get-passing test (remove flows hash) other ∙ elim (cases_eq other hash) [
      | inl same ↦
          ap (left test) (get-remove nat_cmp_total flows hash other ∙ ap (λ b. cond b None (get flows other)) (tied other hash same))
          ∙ sym (get-passing test flows other ∙ ap (left test) (ap (get flows) same ∙ found) ∙ ap (λ b. cond b (Some flow) None) fails)
      | inr apart ↦ ap (left test) (get-remove nat_cmp_total flows hash other ∙ ap (λ b. cond b None (get flows other)) (untied other hash apart)) ∙ sym (get-passing test flows other)
    ])

-- the same of nodes
pub passing_take : (test : Flow → Bool) (nodes : List (Option Entry)) (n : ℕ) (entry : Entry) → AreDistinct nodes → kept_at nodes n ≡ Some entry → test (flow_of entry) ≡ false → passing test (contents (set nodes n None)) ≡ passing test (contents nodes)
passing_take test nodes n entry distinct kept fails = ap (passing test) (contents_take nodes n entry distinct kept) ∙ passing_remove test (contents nodes) entry.hash (flow_of entry) (get_at nodes n entry distinct kept) fails

pub passing_kept : (test : Flow → Bool) (nodes : List (Option Entry)) → ((n : ℕ) (entry : Entry) → kept_at nodes n ≡ Some entry → test (flow_of entry) ≡ true) → passing test (contents nodes) ≡ contents nodes
passing_kept test nodes all = passing_all test (contents nodes) (λ hash flow found. let node = node_of nodes hash flow found in ap test (sym node.4) ∙ all node.0 node.1 node.2)
