use Rattle.core_open.proofs.Putting.{at_place, at_past, put_again}
use Rattle.std.proofs.Common.{rules}
use Rattle.core_open.proofs.numbered.take.Goals as goal

pub returns-in-Some-clause-value : goal.returns-in-Some-clause-value
returns-in-Some-clause-value g c = search (rules, at_place)

pub returns-in-Some-clause-rest : goal.returns-in-Some-clause-rest
returns-in-Some-clause-rest g c = search (rules, put_again)

pub returns-in-None-clause-value : goal.returns-in-None-clause-value
returns-in-None-clause-value g c = search (rules, at_past)
