use Rattle.std.proofs.Common.{◌≡◌, ◌-◌}
use Rattle.tap_world.specs.LineSteps.{filled}
use Rattle.tap_lines.specs.Indexed.{filled_up}
use Rattle.tap_lines.proofs.frame_line.FrameLine.fill.Given as goal

abbrev pub invariant-loop : goal.invariant-loop
invariant-loop l = record {
  rest : filled (64 - l.counter) l.self.line ≡ filled_up l.fn.self.line;
  frames : l.self.frames ≡ l.fn.self.frames;
}
