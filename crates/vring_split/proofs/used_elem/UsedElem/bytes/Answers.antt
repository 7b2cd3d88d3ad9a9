use Rattle.std.proofs.Common.{rules, ap, ◌∙◌, arith}
use Rattle.vring_split.specs.Split.{used_elem_of, used_elem_bytes}
use Rattle.vring_split.proofs.Fields.{used_elem_back}
use Rattle.vring_split.proofs.used_elem.UsedElem.bytes.Goals as goal

pub returns-clause-value : goal.returns-clause-value
unfolding used_elem_bytes
returns-clause-value c = search rules

pub returns-clause-back : goal.returns-clause-back
returns-clause-back c = ap used_elem_of (returns-clause-value c) ∙ used_elem_back c.args.self.now (omega arith) (omega arith)
