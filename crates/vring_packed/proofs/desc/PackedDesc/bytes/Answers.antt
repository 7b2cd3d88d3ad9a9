use Rattle.std.proofs.Common.{rules, ap, ◌∙◌, arith}
use Rattle.vring_packed.specs.Packed.{desc_of, desc_bytes}
use Rattle.vring_packed.proofs.Bytes.{desc_back}
use Rattle.vring_packed.proofs.desc.PackedDesc.bytes.Goals as goal

pub returns-clause-value : goal.returns-clause-value
unfolding desc_bytes
returns-clause-value c = search rules

pub returns-clause-back : goal.returns-clause-back
returns-clause-back c = ap desc_of (returns-clause-value c) ∙ desc_back c.args.self.now (omega arith) (omega arith) (omega arith) (omega arith)
