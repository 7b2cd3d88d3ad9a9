use Rattle.std.proofs.Common.{◌≡◌, ◌+◌, ◌-◌, length, ◌∙◌, sym, arith}
use Rattle.tap_world.specs.Line.{count, in_ring}
use Rattle.tap_lines.proofs.Fronts.{no_ring_back, ring_back_is}
use Rattle.tap_lines.proofs.Index.{waiting_long}
use Rattle.tap_lines.proofs.frame_line.FrameLine.ring_back.Goals as goal

pub returns-then-len-self : goal.returns-then-len-self
returns-then-len-self c =
    let s = c.self.inside in
    let none : count in_ring s.line.items ≡ 0 =
    omega (arith, waiting_long _ _ _ _ c.self.invariant, s.waiting.ok.0, c.self.invariant.batch, c.if-len-self.true) in
    rw (← c.self.view_is) (sym (no_ring_back _ none))

pub overflow_sub-len : goal.overflow_sub-len
overflow_sub-len c =
    let s = c.self.inside in
    omega (arith, waiting_long _ _ _ _ c.self.invariant, s.waiting.ok.0, c.self.invariant.batch)

pub returns-else-len-self : goal.returns-else-len-self
returns-else-len-self c =
    let s = c.self.inside in
    let some : length s.waiting.items ≡ s.batched → ⊥ = λ e. c.if-len-self.false (omega (arith, e, s.waiting.ok.0)) in
    let last : (c.len-else-len-self.result - 1) + 1 ≡ length s.waiting.items =
    omega (arith, waiting_long _ _ _ _ c.self.invariant, s.waiting.ok.0, c.self.invariant.batch) in
    rw (← c.self.view_is) (c.waits_at.ensures ∙ ring_back_is _ _ _ _ _ c.self.invariant some last)
