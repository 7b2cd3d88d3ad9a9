use Rattle.guest_mem.proofs.Gaps.{told, covers-part, covers-fits, covers-stretch}
use Rattle.guest_mem.proofs.laws.range_laws.Goals as goal

pub returns-clause-told : goal.returns-clause-told
returns-clause-told c = told

pub returns-clause-parts : goal.returns-clause-parts
returns-clause-parts c = covers-part

pub returns-clause-fits : goal.returns-clause-fits
returns-clause-fits c = covers-fits

pub returns-clause-stretches : goal.returns-clause-stretches
returns-clause-stretches c = covers-stretch
