use Rattle.std.proofs.Common.{◌≡◌, ◌+◌, length, drop}
use Rattle.tap_world.specs.Setup.{place_among}
use Rattle.core_table.specs.Programs.{programs_in}
use Rattle.core_table.proofs.operation.place_among.Given as goal

abbrev pub invariant-loop-declaration : goal.invariant-loop-declaration
invariant-loop-declaration l =
    (l.place + length (programs_in (drop l.declaration-index l.declarations)) ≡ length (programs_in l.declarations))
    × (l.place + place_among l.number (programs_in (drop l.declaration-index l.declarations)) ≡ place_among l.number (programs_in l.declarations))
