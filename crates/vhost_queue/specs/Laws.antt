-- This project's own: what ties the calls on a queue to its lists of positions.
use Rattle.std.specs.Prelude.{ℕ, ◌+◌, ◌^◌, ◌<◌, ◌≤◌, length}
use Rattle.vhost_queue.specs.Positions.{Positions, IsIdle, IsInOrder, rebased, served, rewound, with_done, all_published}

-- a list of positions begins in order
abbrev pub BeginsInOrder : Type 0
BeginsInOrder =
    (base : ℕ) (p : Positions) → base < 2 ^ 16 → IsIdle p → IsInOrder base (length p.journal) (rebased base p)

-- what a call needs of the lists to keep them in order
abbrev pub ServesInOrder : Type 0
ServesInOrder =
    (base start : ℕ) (p : Positions)
    → p.gathered + length p.done < 2 ^ 16 → IsInOrder base start p → IsInOrder base start (served p)

abbrev pub RewindsInOrder : Type 0
RewindsInOrder =
    (base start count : ℕ) (p : Positions)
    → count ≤ p.gathered → IsInOrder base start p → IsInOrder base start (rewound count p)

abbrev pub DoneInOrder : Type 0
DoneInOrder =
    (base start head len : ℕ) (p : Positions)
    → 0 < p.gathered → IsInOrder base start p → IsInOrder base start (with_done head len p)

abbrev pub PublishedInOrder : Type 0
PublishedInOrder =
    (base start : ℕ) (p : Positions) → IsInOrder base start p → IsInOrder base start (all_published p)
