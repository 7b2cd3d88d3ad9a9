-- This project's own, after the flow table of a Linux tun device: the flows of a device as a list in the
-- order of their hashes, and what each call does to it.
use Rattle.std.specs.Prelude.{ℕ, ◌+◌, ◌≤◌, ◌==◌, nat_lt, not, IsTrue, is_some, if◌then◌else◌, Option, length, filter, All}
use Rattle.std.specs.Option.{option_map}
use Rattle.std.specs.Ordering.{nat_cmp}
use Rattle.std.specs.FinMap.{find, put, is_sorted}
use Rattle.tap_flows.specs.Flow.{Flow, FlowList}
use Rattle.tap_flows.specs.declared.flows.Learnt.{Learnt}
use Rattle.tap_flows.specs.declared.flows.Learnt.TheVariants.{Made, Renewed, Full}

-- the hashes rise
abbrev pub AreInOrder : FlowList → Type 0
AreInOrder flows = IsTrue (is_sorted nat_cmp flows)

-- no flow was updated after this time
abbrev pub AreNotAfter : ℕ → FlowList → Type 0
AreNotAfter time flows = All (λ entry. entry.1.updated ≤ time) flows

-- the queue of a hash's flow, if it is there
abbrev pub found : FlowList → ℕ → Option ℕ
found flows hash = option_map (λ flow. flow.index) (find nat_cmp hash flows)

-- what learning a hash does: its flow is renewed if it is there, and else made while there are fewer than
-- the limit
abbrev pub learn_outcome : FlowList → ℕ → ℕ → Learnt
learn_outcome flows limit hash =
    if is_some (find nat_cmp hash flows) then Renewed else (if length flows == limit then Full else Made)

-- the flows with this one, where an outcome puts it in
abbrev pub put_in : Learnt → FlowList → ℕ → Flow → FlowList
put_in Made flows hash flow = put nat_cmp hash flow flows
put_in Renewed flows hash flow = put nat_cmp hash flow flows
put_in Full flows hash flow = flows

-- the flows once this one was learnt
abbrev pub learnt : FlowList → ℕ → ℕ → Flow → FlowList
learnt flows limit hash flow = put_in (learn_outcome flows limit hash) flows hash flow

-- those of other queues
abbrev pub forgotten : FlowList → ℕ → FlowList
forgotten flows index = filter (λ entry. not (entry.1.index == index)) flows

-- those that were updated less than the age ago
abbrev pub ticked : FlowList → ℕ → ℕ → FlowList
ticked flows age now = filter (λ entry. nat_lt now (entry.1.updated + age)) flows
