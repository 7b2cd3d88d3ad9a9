-- This project's own, after the flow table of a Linux tun device: the flows of a device as a finite map from
-- hashes, and what each call does to it.
use Rattle.std.specs.Prelude.{ℕ, ◌+◌, ◌≤◌, ◌==◌, nat_lt, not, if◌then◌else◌, Bool, false, Option, IfSome}
use Rattle.std.specs.Option.{option_map_or, option_map}
use Rattle.std.specs.FinMap.{get, contains_key, insert, len, retain_keys}
use Rattle.tap_flows.specs.Flow.{Flow, FlowMap}
use Rattle.tap_flows.specs.declared.flows.Learnt.{Learnt}
use Rattle.tap_flows.specs.declared.flows.Learnt.TheVariants.{Made, Renewed, Full}

-- no flow was updated later
abbrev pub IsNotBefore : ℕ → FlowMap → Type 0
IsNotBefore now flows = (hash : ℕ) → IfSome (get flows hash) (λ flow. flow.updated ≤ now)

-- the queue of a hash's flow, if it is there
abbrev pub found : FlowMap → ℕ → Option ℕ
found flows hash = option_map (λ flow. flow.index) (get flows hash)

-- what learning a hash does: its flow is renewed if it is there, and else made while there are fewer than
-- the limit
abbrev pub learn_outcome : FlowMap → ℕ → ℕ → Learnt
learn_outcome flows limit hash =
    if contains_key flows hash then Renewed else (if len flows == limit then Full else Made)

-- the flows with this one, where an outcome puts it in
abbrev pub put_in : Learnt → FlowMap → ℕ → Flow → FlowMap
put_in Made flows hash flow = insert flows hash flow
put_in Renewed flows hash flow = insert flows hash flow
put_in Full flows hash flow = flows

-- the flows once this one was learnt
abbrev pub learnt : FlowMap → ℕ → ℕ → Flow → FlowMap
learnt flows limit hash flow = put_in (learn_outcome flows limit hash) flows hash flow

-- the flows that pass a test
abbrev pub passing : (Flow → Bool) → FlowMap → FlowMap
passing test flows = retain_keys flows (λ hash. option_map_or test (get flows hash) false)

-- those of other queues
abbrev pub forgotten : FlowMap → ℕ → FlowMap
forgotten flows index = passing (λ flow. not (flow.index == index)) flows

-- those that were updated less than the age ago
abbrev pub ticked : FlowMap → ℕ → ℕ → FlowMap
ticked flows age now = passing (λ flow. nat_lt now (flow.updated + age)) flows
