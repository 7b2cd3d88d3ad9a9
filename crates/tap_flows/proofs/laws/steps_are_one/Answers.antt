use Rattle.std.proofs.Common.{sym}
use Rattle.std.specs.FinMap.{len-entries}
use Rattle.tap_flows.proofs.ListLemmas.{empty-list, latest-list, found-list, outcome-list, learnt-list, forgotten-list, ticked-list}
use Rattle.tap_flows.proofs.laws.steps_are_one.Goals as goal

pub returns : goal.returns
returns c = record {
  empty = empty-list;
  len = λ flows. sym (len-entries flows);
  latest = latest-list;
  found = found-list;
  outcome = outcome-list;
  learnt = learnt-list;
  forgotten = forgotten-list;
  ticked = ticked-list;
}
