use Rattle.std.proofs.Common.{◌∙◌, sym}
use Rattle.guest_mem.proofs.Gaps.{covers-fits}
use Rattle.guest_mem.proofs.memory.Memory.covers.Goals as goal

pub returns-clause-fits : goal.returns-clause-fits
returns-clause-fits c = λ t some. covers-fits c.args.self.now.regions c.args.addr c.args.len (sym (c.is_ok.ensures.value ∙ c.bytes.ensures.covered) ∙ t) some
