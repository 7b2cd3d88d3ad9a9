use Rattle.std.proofs.Common.{ap}
use Rattle.tap_trace.specs.declared.trace.OpLine.{OpLine}
use Rattle.tap_projected.proofs.versions_are_numbered.Goals as goal

pub returns : goal.returns
returns c = λ s events w laid is i o at.
    let line = ((c.operations_are_projected.ensures s events w laid is).only i o at).2 in
    ap (λ (l : OpLine). l.version) line.line
