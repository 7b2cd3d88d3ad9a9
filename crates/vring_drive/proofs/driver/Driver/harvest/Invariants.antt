use Rattle.std.proofs.Common.{◌≡◌, ◌+◌, ◌-◌, ◌≤◌, vec_len, vec_capacity}
use Rattle.vring_drive.specs.Books.{IsSettledAs}
use Rattle.vring_drive.specs.Harvests.{harvest_of, behind_found}
use Rattle.vring_drive.proofs.driver.Driver.harvest.Given as goal

-- what was found, and then what is left to find, is the whole harvest
abbrev pub invariant-loop : goal.invariant-loop
invariant-loop l = record {
  harvest : behind_found l.found.items (harvest_of (l.count - l.counter) l.mem l.self) ≡ harvest_of l.count l.fn.mem l.fn.self;
  room : vec_len l.found + (l.count - l.counter) ≤ vec_capacity l.found;
  settings : IsSettledAs l.fn.self l.self;
}
