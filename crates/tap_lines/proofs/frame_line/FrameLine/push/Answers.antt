use Rattle.std.proofs.Common.{◌≡◌, length, arith}
use Rattle.tap_world.specs.Line.{is_claimed}
use Rattle.tap_lines.proofs.Index.{claim_indexed}
use Rattle.tap_lines.proofs.Places.{count_most}
use Rattle.tap_lines.proofs.frame_line.FrameLine.push.Goals as goal

pub overflow_add-self : goal.overflow_add-self
overflow_add-self c =
    let s = c.self.inside in
    omega (arith, count_most is_claimed s.line.items, c.self.invariant.open_claims, s.line.ok.0, s.line.ok.1, s.line.small)

pub invariant_of-self-2 : goal.invariant_of-self-2
invariant_of-self-2 c =
    let s = c.self.inside in
    let n : c.len.result ≡ length s.line.items = omega (arith, c.len.ensures, c.reserve.ensures.len, s.line.ok.0) in
    rw (c.push_reserved.ensures.items, c.push_back_reserved.ensures.items, c.reserve.ensures.items, c.reserve-3.ensures.items)
    (claim_indexed _ _ _ _ _ _ _ _ _ n c.self.invariant)
