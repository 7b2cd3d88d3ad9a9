-- This project's own: the operations that were published, and the table after them.
use Rattle.std.specs.Prelude.{◌≡◌, List, [], ◌∷◌, ◌++◌, map}
use Rattle.tap_steer.specs.Table.{Table}
use Rattle.tap_steer.specs.After.{after, after_all}
use Rattle.tap_world.specs.declared.told.Published.{Published}

-- operations, the first one first, and the newest table
pub record Told : Type 0 where
  pub table : Table
  pub ops : List Published

-- the table is that of the operations, where they began at a first one
abbrev pub BeganAt : Table → Told → Type 0
BeganAt first t = t.table ≡ after_all first (map (λ (p : Published). p.op) t.ops)

-- with one more operation
abbrev pub told_more : Published → Told → Told
told_more p t = record { table = after t.table p.op; ops = t.ops ++ p ∷ [] }

-- with one more operation the table is still that of the operations
abbrev pub TableFollows : Type 0
TableFollows = (first : Table) (p : Published) (t : Told) → BeganAt first t → BeganAt first (told_more p t)
