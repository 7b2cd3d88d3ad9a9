-- This project's own: how the table is kept in memory, and what operations and calls name.
use Rattle.tap_steer.specs.declared.state.State.TheInside.{Inside}
use Rattle.tap_steer.specs.Table.{Table}

-- the table that is kept
abbrev pub table_in : Inside → Table
table_in s = record { clock = s.clock; files = s.files.items; names = s.slots.items; programs = s.programs.items }
