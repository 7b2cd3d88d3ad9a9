-- This project's own: a bridge over a list of frames, the latest first.
use Rattle.std.specs.Prelude.{◌≡◌, ℕ, true, List, [], ◌∷◌}
use Rattle.std.specs.List.Sorted.{IsStrictlySortedBy}
use Rattle.std.specs.Ordering.{nat_cmp}
use Rattle.tap_bridge.specs.Bridge.{Table, is_among, table_after, sent_on}

-- a frame that comes in at a port, at a time, while these ports are there
pub record Call : Type 0 where
  pub port : ℕ
  pub frame : List ℕ
  pub now : ℕ
  pub ports : List ℕ

-- it comes in at one of the ports, which rise
pub record IsGood (c : Call) : Type 0 where
  pub own : is_among c.ports c.port ≡ true
  pub rising : IsStrictlySortedBy nat_cmp c.ports

-- the table after frames, and the ports at which one behind them is sent on
abbrev pub table_of : List Call → Table
table_of [] = []
table_of (c ∷ before) = table_after c.port c.frame c.now c.ports (table_of before)

abbrev pub answer_to : Call → List Call → List ℕ
answer_to c before = sent_on c.port c.frame c.ports (table_of (c ∷ before))
