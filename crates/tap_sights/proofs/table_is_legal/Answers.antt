use Rattle.tap_sights.proofs.TableReplays as law
use Rattle.tap_sights.proofs.table_is_legal.Goals as goal

pub returns : goal.returns
returns c = law.table_is_legal
