-- This project's own: how nodes keep the flows. A node that keeps one stands in the ring of its hash's
-- bucket, and in the ring by age, the oldest first; the others stand in the free ring.
use Rattle.std.specs.Prelude.{◌≡◌, nat_lt, if◌then◌else◌, ℕ, ◌+◌, ◌≤◌, List, [], ◌∷◌, ◌++◌, length, slice_index_or, Option, None, Some, IsSomeAnd}
use Rattle.std.specs.List.{AllByRecursion}
use Rattle.std.specs.Option.{option_map_or}
use Rattle.std.specs.FinMap.{empty, insert, len}
use Rattle.tap_flows.specs.Flow.{Flow, FlowMap, FlowList}
use Rattle.tap_flows.specs.declared.heads.TheConstants.{CHAIN_HEADS}
use Rattle.tap_flows.specs.Heads.{bucket_head, free_head}
use Rattle.tap_flows.specs.Laws.{flow_list}
use Rattle.tap_flows.specs.Rings.{AreRings}
use Rattle.tap_flows.specs.declared.table.Entry.{Entry}
use Rattle.tap_flows.specs.declared.table.Table.{Table}

-- an entry's flow
abbrev pub flow_of : Entry → Flow
flow_of entry = record { index = entry.index; updated = entry.updated }

-- the flows that the nodes keep
abbrev pub contents : List (Option Entry) → FlowMap
contents [] = empty
contents (None ∷ nodes) = contents nodes
contents (Some entry ∷ nodes) = insert (contents nodes) entry.hash (flow_of entry)

-- what a node keeps
abbrev pub kept_at : List (Option Entry) → ℕ → Option Entry
kept_at nodes node = slice_index_or nodes node None

-- the ring in which a node stands, where there are so many: its bucket's, or the free one
abbrev pub chain_home : ℕ → List (Option Entry) → ℕ → ℕ
chain_home limit nodes node =
    option_map_or (λ entry. bucket_head limit entry.hash) (kept_at nodes node) (free_head limit)

-- the one ring by age, for a node that keeps a flow; no ring, for another
abbrev pub age_home : ℕ → List (Option Entry) → ℕ → ℕ
age_home limit nodes node = option_map_or (λ _. limit) (kept_at nodes node) 0

-- when a node's flow was updated
abbrev pub time_of : List (Option Entry) → ℕ → ℕ
time_of nodes node = option_map_or (λ entry. entry.updated) (kept_at nodes node) 0

-- a number of each that never falls along the list
abbrev pub IsRising : (ℕ → ℕ) → List ℕ → Type 0
IsRising f [] = Unit {0}
IsRising f (first ∷ others) = AllByRecursion (λ other. f first ≤ f other) others × IsRising f others

-- no two nodes keep flows of one hash
abbrev pub AreDistinct : List (Option Entry) → Type 0
AreDistinct nodes = (i j : ℕ) (a b : Entry)
    → kept_at nodes i ≡ Some a → kept_at nodes j ≡ Some b → a.hash ≡ b.hash → i ≡ j

-- the links are rings of the nodes by bucket and by age, and times never fall along the latter, which is
-- given from the oldest on
pub record AreSound (limit : ℕ) (nodes : List (Option Entry)) (chain_next chain_previous age_next age_previous : List ℕ)
    (count : ℕ) (ages : List ℕ) : Type 0 where
  pub sized : length nodes ≡ limit
  pub chain : ℕ → List ℕ
  pub chains : AreRings chain_next chain_previous limit CHAIN_HEADS chain (chain_home limit nodes)
  pub aged : AreRings age_next age_previous limit 1 (λ _. ages) (age_home limit nodes)
  pub rising : IsRising (time_of nodes) ages
  pub counted : length ages ≡ count
  pub filled : len (contents nodes) ≡ count
  pub distinct : AreDistinct nodes

abbrev pub IsSound : Table → List ℕ → Type 0
IsSound table ages = AreSound table.limit.nodes table.nodes.items table.chains.next.items table.chains.previous.items
    table.ages.next.items table.ages.previous.items table.len ages

-- a table that is sound
abbrev pub Sound : Table → Type 0
Sound table = (ages : List ℕ) × IsSound table ages

-- its flows, in the order of their hashes
abbrev pub listed_in : Table → FlowList
listed_in table = flow_list (contents table.nodes.items)

-- a node that is by age in a sound table
abbrev pub HasAged : Table → ℕ → Type 0
HasAged table node = (before : List ℕ) × (behind : List ℕ) × IsSound table (before ++ node ∷ behind)

-- a node keeps a flow of this hash
abbrev pub KeepsHash : List (Option Entry) → ℕ → ℕ → Type 0
KeepsHash nodes hash node = IsSomeAnd (kept_at nodes node) (λ entry. entry.hash ≡ hash)

-- of this queue
abbrev pub KeepsIndex : List (Option Entry) → ℕ → ℕ → Type 0
KeepsIndex nodes index node = IsSomeAnd (kept_at nodes node) (λ entry. entry.index ≡ index)

-- one that is so old
abbrev pub KeepsStale : List (Option Entry) → ℕ → ℕ → ℕ → Type 0
KeepsStale nodes age now node = IsSomeAnd (kept_at nodes node) (λ entry. entry.updated + age ≤ now)

-- the nodes by age that were walked over keep flows of other queues, and these are left
pub record IsWalked (table : Table) (index : ℕ) (left : List ℕ) : Type 0 where
  pub walked : List ℕ
  pub sound : IsSound table (walked ++ left)
  pub others : AllByRecursion (λ node. ¬ KeepsIndex table.nodes.items index node) walked

-- the nodes below a number are in the free ring, and the others in none
abbrev pub AreFree : ℕ → List ℕ → List ℕ → ℕ → Type 0
AreFree limit next previous below = (chain : ℕ → List ℕ)
    × AreRings next previous limit CHAIN_HEADS chain (λ node. if nat_lt node below then free_head limit else node)

-- no node keeps a flow
abbrev pub AreNone : List (Option Entry) → Type 0
AreNone nodes = (node : ℕ) → kept_at nodes node ≡ None
