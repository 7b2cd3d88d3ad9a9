-- This project's own: each chain of a list of positions is served, then done, then published, once and in its order.
use Rattle.std.specs.Prelude.{◌≡◌, ℕ, ◌+◌, ◌-◌, ◌^◌, ◌%◌, ◌<◌, ◌≤◌, zero, suc, List, [], ◌∷◌, ◌++◌, length, map, drop}
use Rattle.vhost_queue.specs.declared.done.Done.{Done}

-- Positions count up, and from 65,535 on to 0.

-- the position so many after another
abbrev pub after : ℕ → ℕ → ℕ
after position count = (position + count) % 2 ^ 16

-- the position so many before another
abbrev pub before : ℕ → ℕ → ℕ
before position count = (position + (2 ^ 16 - count)) % 2 ^ 16

-- so many positions, from one on
abbrev pub positions_from : ℕ → ℕ → List ℕ
positions_from position zero = []
positions_from position (suc n) = position ∷ positions_from (after position 1) n

-- The lists.

-- a published chain: its position, its head, and how many bytes were written
abbrev pub Published : Type 0
Published = ℕ × ℕ × ℕ

-- where a device stands: the next position, how many chains before it were served and aren't done, the chains
-- before those that are done and aren't published, and all that were published
pub record Positions : Type 0 where
  pub next : ℕ
  pub gathered : ℕ
  pub done : List Done
  pub journal : List Published

-- the position of the first chain that is done and not published, or that would be the next one
abbrev pub first_done : Positions → ℕ
first_done p = before p.next (p.gathered + length p.done)

-- chains as they are published, at positions from one on
abbrev pub published_from : ℕ → List Done → List Published
published_from position [] = []
published_from position (d ∷ ds) = (position, d.head, d.len) ∷ published_from (after position 1) ds

-- What the calls change.

-- nothing is served and not published
abbrev pub IsIdle : Positions → Type 0
IsIdle p = p.gathered + length p.done ≡ 0

-- a list of positions begins
abbrev pub rebased : ℕ → Positions → Positions
rebased base p = record p { next = base }

-- the chain at the next position was served
abbrev pub served : Positions → Positions
served p = record p { next = after p.next 1; gathered = p.gathered + 1 }

-- so many chains, the latest ones served, stand at their positions again
abbrev pub rewound : ℕ → Positions → Positions
rewound count p = record p { next = before p.next count; gathered = p.gathered - count }

-- the first chain that was served and isn't done is done, with this head, and so many bytes were written into it
abbrev pub with_done : ℕ → ℕ → Positions → Positions
with_done head len p =
    record p { gathered = p.gathered - 1; done = p.done ++ record { head = head; len = len } ∷ [] }

-- what is done was published
abbrev pub all_published : Positions → Positions
all_published p = record p { done = []; journal = p.journal ++ published_from (first_done p) p.done }

-- The rule.

-- The list of positions that began with a base, when so many chains had been published, is published, then done, then
-- gathered: the k-th of them has the position base + k.
pub record IsInOrder (base start : ℕ) (p : Positions) : Type 0 where
  pub fits : base < 2 ^ 16
  pub begun : start ≤ length p.journal
  pub few : p.gathered + length p.done ≤ 2 ^ 16
  pub published : map (λ e. e.0) (drop start p.journal) ≡ positions_from base (length p.journal - start)
  pub done : first_done p ≡ after base (length p.journal - start)
  pub next : p.next ≡ after base ((length p.journal - start) + (length p.done + p.gathered))
