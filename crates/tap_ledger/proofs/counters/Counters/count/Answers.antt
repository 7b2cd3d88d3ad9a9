use Rattle.tap_ledger.proofs.Counted.{one_more}
use Rattle.tap_ledger.proofs.counters.Counters.count.Goals as goal

pub returns-clause-counts : goal.returns-clause-counts
returns-clause-counts c = λ fates counts. one_more _ _ _ _ fates c.add.ensures counts
