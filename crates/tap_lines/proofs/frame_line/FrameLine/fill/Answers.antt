use Rattle.std.proofs.Common.{◌≡◌, ◌+◌, ◌-◌, refl, sym, ap, ◌∙◌, arith}
use Rattle.tap_world.specs.LineSteps.{filled}
use Rattle.tap_lines.specs.Framed.{Framed}
use Rattle.tap_lines.proofs.Filling.{filled_next, filled_none, filled_stop, up_is}
use Rattle.tap_lines.proofs.frame_line.FrameLine.fill.Goals as goal

pub loop-init : goal.loop-init
loop-init c = record { rest = sym (up_is c.args.self.now.line); frames = refl }

pub returns-in-None : goal.returns-in-None
returns-in-None c =
    let line = sym (filled_stop (64 - c.loop.counter) c.loop.self.line (sym c.ready_front.ensures.front ∙ c.in-None.is)) ∙ c.loop.invariant.rest in
    let frames = c.loop.invariant.frames in
    λ i. record { line = line i; frames = frames i }

pub loop-preserved : goal.loop-preserved
loop-preserved c =
    let next : 64 - c.loop.counter ≡ (64 - (c.loop.counter + 1)) + 1 = omega (arith, c.loop-test.true) in
    let step = filled_next (64 - c.loop.counter) (64 - (c.loop.counter + 1)) c.in-Some.index c.loop.self.line next
    (sym c.ready_front.ensures.front ∙ c.in-Some.is) in
    let moved = c.move_front.ensures in
    record {
      rest = ap (λ (f : Framed). filled (64 - (c.loop.counter + 1)) f.line) moved ∙ sym step ∙ c.loop.invariant.rest;
      frames = ap (λ (f : Framed). f.frames) moved ∙ c.loop.invariant.frames;
    }

pub returns : goal.returns
returns c =
    let none : 64 - c.loop.counter ≡ 0 = omega (arith, c.loop-test.false) in
    let line = sym (filled_none (64 - c.loop.counter) c.loop.self.line none) ∙ c.loop.invariant.rest in
    let frames = c.loop.invariant.frames in
    λ i. record { line = line i; frames = frames i }
