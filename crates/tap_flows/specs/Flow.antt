-- This project's own, after the flow table of a Linux tun device.
use Rattle.std.specs.Prelude.{ℕ, List, refl}
use Rattle.std.specs.Ordering.{nat_cmp}
use Rattle.std.specs.FinMap.{FinMap}
use Rattle.std.specs.Coded.{Coded, code_by, coded×, coded_ℕ, coded_list}

-- the queue at which a flow was last seen, and when, in milliseconds
pub record Flow : Type 0 where
  pub index : ℕ
  pub updated : ℕ

-- a flow is stored as the pair of its fields
abbrev pub coded_flow : Coded Flow
coded_flow =
    code_by (ℕ × ℕ) (coded× coded_ℕ coded_ℕ)
    (λ f. (f.index, f.updated)) (λ p. record { index = p.0; updated = p.1 }) (λ _. refl)

-- flows, each behind its hash, in the order of the hashes
abbrev pub FlowList : Type 0
FlowList = List (ℕ × Flow)

-- the flows by their hashes
abbrev pub FlowMap : Type 0
FlowMap = FinMap nat_cmp Flow

-- the flows of a device, how many there may be, and after how many milliseconds one goes
pub record FlowTable : Type 0 where
  pub limit : ℕ
  pub age : ℕ
  pub flows : FlowList

-- it is stored as the triple of its fields
abbrev pub coded_table : Coded FlowTable
coded_table =
    code_by (ℕ × (ℕ × FlowList)) (coded× coded_ℕ (coded× coded_ℕ (coded_list (coded× coded_ℕ coded_flow))))
    (λ t. (t.limit, (t.age, t.flows))) (λ p. record { limit = p.0; age = p.1.0; flows = p.1.1 }) (λ _. refl)
