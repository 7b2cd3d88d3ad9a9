use Rattle.tap_lines.proofs.Numbers.{claim_is}
use Rattle.tap_lines.proofs.side.FileSide.has_claim.Goals as goal

pub returns : goal.returns
returns c = rw (← c.self.view_is, c.claims.ensures) (claim_is c.self.inside.line.line)
