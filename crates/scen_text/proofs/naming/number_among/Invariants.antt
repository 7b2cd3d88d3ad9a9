use Rattle.std.proofs.Common.{◌≡◌, ◌+◌, drop}
use Rattle.scen_text.specs.Before.{number_among}
use Rattle.scen_text.proofs.naming.number_among.Given as goal

abbrev pub invariant-loop-place : goal.invariant-loop-place
invariant-loop-place l = number_among l.names l.name ≡ l.place + number_among (drop l.place l.names) l.name
