-- This project's own: a source over one of std's readers, and a sink over one of its writers.
use Rattle.std.specs.Prelude.{ℕ, List, Option}

-- a source over a reader
pub record Stream : Type 0 where
  -- the bytes that are left, where the reader tells them
  pub left : Option (List ℕ)
  -- how many calls failed
  pub faults : ℕ

-- a sink over a writer
pub record Drain : Type 0 where
  -- the bytes that were written, where the writer tells them
  pub written : Option (List ℕ)
  -- how many calls failed
  pub faults : ℕ
