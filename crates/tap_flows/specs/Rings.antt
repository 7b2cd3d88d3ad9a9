-- This project's own: nodes in rings that are linked both ways. The places below `nodes` are nodes, and
-- each place from there on is the head of a ring, behind which the ring's nodes stand in order.
use Rattle.std.specs.Prelude.{◌≡◌, ◌==◌, ℕ, ◌+◌, ◌<◌, ◌≤◌, if◌then◌else◌, List, [], ◌∷◌, length, slice_index, slice_set}
use Rattle.tap_ground.specs.Lists.{times}

-- from a place to another, with these between them, each names the next, and is named as its previous
abbrev pub AreLinked : List ℕ → List ℕ → ℕ → List ℕ → ℕ → Type 0
AreLinked next previous from [] to = (slice_index next from ≡ to) × (slice_index previous to ≡ from)
AreLinked next previous from (node ∷ nodes) to =
    (slice_index next from ≡ node) × (slice_index previous node ≡ from) × AreLinked next previous node nodes to

-- the nodes behind each head are in its ring; each node whose home is a head stands there, once, and no
-- other does
pub record AreRings (next previous : List ℕ) (nodes heads : ℕ) (chain : ℕ → List ℕ) (home : ℕ → ℕ) : Type 0 where
  pub next_sized : length next ≡ nodes + heads
  pub previous_sized : length previous ≡ nodes + heads
  pub ring : (head : ℕ) → nodes ≤ head → head < nodes + heads → AreLinked next previous head (chain head) head
  pub inside : (head node : ℕ) → nodes ≤ head → head < nodes + heads
      → 0 < times node (chain head) → (node < nodes) × (home node ≡ head)
  pub once : (head node : ℕ) → nodes ≤ head → head < nodes + heads
      → node < nodes → home node ≡ head → times node (chain head) ≡ 1

-- the chains with another one behind this head
abbrev pub with_chain : ℕ → List ℕ → (ℕ → List ℕ) → ℕ → List ℕ
with_chain head nodes chain other = if other == head then nodes else chain other

-- the links once a node is taken out of its ring: its two neighbours name each other
abbrev pub unlinked_next : List ℕ → List ℕ → ℕ → List ℕ
unlinked_next next previous node = slice_set next (slice_index previous node) (slice_index next node)

abbrev pub unlinked_previous : List ℕ → List ℕ → ℕ → List ℕ
unlinked_previous next previous node = slice_set previous (slice_index next node) (slice_index previous node)

-- the links once a node is put at the end of a head's ring
abbrev pub linked_next : List ℕ → List ℕ → ℕ → ℕ → List ℕ
linked_next next previous node head = slice_set (slice_set next (slice_index previous head) node) node head

abbrev pub linked_previous : List ℕ → List ℕ → ℕ → ℕ → List ℕ
linked_previous next previous node head = slice_set (slice_set previous node (slice_index previous head)) head node

-- both, one after the other
abbrev pub moved_next : List ℕ → List ℕ → ℕ → ℕ → List ℕ
moved_next next previous node head =
    linked_next (unlinked_next next previous node) (unlinked_previous next previous node) node head

abbrev pub moved_previous : List ℕ → List ℕ → ℕ → ℕ → List ℕ
moved_previous next previous node head =
    linked_previous (unlinked_next next previous node) (unlinked_previous next previous node) node head

-- each place is alone: it names itself
abbrev pub AreAlone : List ℕ → ℕ → Type 0
AreAlone links places = (length links ≡ places) × ((place : ℕ) → place < places → slice_index links place ≡ place)
