use Rattle.std.proofs.Common.{◌≡◌, ◌+◌, ◌-◌, ◌≤◌, vec_len, vec_capacity}
use Rattle.packed_drive.specs.Books.{HasArea}
use Rattle.packed_drive.specs.Harvests.{harvest_of, behind_found}
use Rattle.packed_drive.proofs.driver.PackedDriver.harvest.Given as goal

-- what was found, and then what is left to find, is the whole harvest
abbrev pub invariant-loop : goal.invariant-loop
invariant-loop l = record {
  harvest : behind_found l.found.items (harvest_of (l.num - l.counter) l.mem l.self) ≡ harvest_of l.num l.mem l.fn.self;
  room : vec_len l.found + (l.num - l.counter) ≤ vec_capacity l.found;
  area : HasArea l.self l.mem;
  within : l.counter ≤ l.num;
}
