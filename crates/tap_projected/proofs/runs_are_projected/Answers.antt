use Rattle.tap_projected.proofs.runs_are_projected.Goals as goal

pub returns : goal.returns
returns c = λ s events w laid is. record {
  ops = c.operations_are_projected.ensures s events w laid is;
  answers = c.answers_are_projected.ensures s events w laid is;
  files = c.files_are_projected.ensures s events w laid is;
  guests = c.guests_are_projected.ensures s events w laid is;
  rings = c.rings_are_projected.ensures s events w laid is;
}
